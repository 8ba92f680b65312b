use Rattle.std.proofs.Common.{rules, tests, ℕ, List, ap, not}
use Rattle.std.specs.Prelude.{◌==◌}
use Rattle.machine_state.specs.Views.{join_view}
use Rattle.machine_state.specs.World.{Join}
use Rattle.machine_state.proofs.Retaining.{filter_of_retain}
use Rattle.machine_state.proofs.role.Join.remove_member.Goals as goal

pub returns : goal.returns
returns c =
    ap (λ (x : List ℕ). let j : Join = record (join_view c.args.self.now) { members = x } in j)
    (filter_of_retain _ (λ q. not (q == c.args.process)) _ (λ x b q k. search (rules, tests))
    c.args.self.now.members.items
    c.retain.new.self.items c.retain.ensures.filtered)
