use Rattle.std.proofs.Common.{◌≡◌, ◌∙◌, true, Some, refl, sym, ap}
use Rattle.std.proofs.lemmas.Bool.{eq-eqb}
use Rattle.std.specs.Prelude.{◌==◌, slice_get}
use Rattle.module_format.specs.Contents.{contents_of, par_of}
use Rattle.machine_state.specs.World.{World}
use Rattle.machine_state.specs.Joins.{on_role, member_joined}
use Rattle.machine_state.specs.JoinLookups.{opened_by}
use Rattle.machine_state.specs.Roles.{without_own}
use Rattle.traffic.specs.Settling.{here_in}
use Rattle.joins.specs.declared.open.Open.{Open}
use Rattle.machine_state.specs.Asking.{untouched}
use Rattle.joins.proofs.Leaving.{branch_done, still_open}
use Rattle.joins.proofs.ending.end_branch.Goals as goal

pub returns-clause-settles : goal.returns-clause-settles
returns-clause-settles c = λ join opened same.
    let ending = c.args.ending.now in
    let m = contents_of ending.tables.now in
    let h = here_in m ending.here.now in
    let w = c.args.traffic.now.world in
    let p = ending.here.now.process in
    let par = par_of c.in-Some.par.now in
    let row : slice_get m.pars join.row ≡ Some par =
    ap (λ (o : Open). slice_get m.pars o.row) (sym same) ∙ c.in-Some.ensures in
    let here : c.args.seen.block ≡ ending.block = c.if-seen-ending.false in
    let test : (join.block == ending.block) ≡ true =
    ap (λ (o : Open). o.block == ending.block) (sym same) ∙ eq-eqb c.args.seen.block ending.block here in
    let given : c.give_back.new.self.world ≡ on_role p without_own c.end.new.traffic.world =
    c.give_back.ensures.world in
    let there : opened_by c.give_back.new.self.world c.args.opener ≡ Some join =
    ap (λ (v : World). opened_by v c.args.opener) given
    ∙ (still_open c.end.new.traffic.world p c.args.opener
    ∙ (ap (λ (v : World). opened_by v c.args.opener) (c.end.ensures.world m) ∙ opened)) in
    branch_done h w join ending.block (untouched ending.registers w.memory) c.args.opener par
    c.leave.new.traffic.world row test
    (c.leave.ensures.world m join par there same refl
    ∙ (ap (λ (v : World). member_joined h c.args.opener join par v) given
    ∙ ap (λ (v : World). member_joined h c.args.opener join par (on_role p without_own v)) (c.end.ensures.world m)))
