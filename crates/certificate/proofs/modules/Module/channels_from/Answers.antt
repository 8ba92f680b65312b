use Rattle.std.proofs.Common.{◌≡◌, None, rules, w32, FitsSigned, subst, ℤ, of_z, to_z}
use Rattle.std.specs.Prelude.{MatchOption}
use Rattle.std.proofs.lemmas.Int.{to_z-of_z}
use Rattle.certificate.specs.Runs.{held_from, IsRun}
use Rattle.certificate.proofs.BranchRunLaws.{words_held}
use Rattle.certificate.proofs.modules.Module.channels_from.Goals as goal

pub returns : goal.returns
returns c =
    let fits : FitsSigned w32 c.args.word = search rules in
    subst (λ (k : ℤ). MatchOption c.run_from.result (held_from c.args.self.now c.args.context c.args.direction k ≡ None)
    (IsRun (held_from c.args.self.now c.args.context c.args.direction) k)) (to_z-of_z w32 c.args.word fits)
    (words_held c.args.self.now c.args.context (to_z w32 (of_z w32 c.args.word)) c.args.direction c.run_from.result
    c.run_from.ensures)
