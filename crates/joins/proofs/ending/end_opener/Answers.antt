use Rattle.std.proofs.Common.{◌≡◌, ◌∙◌, ◌&&◌, true, Some, length, refl, sym, ap}
use Rattle.std.specs.Prelude.{◌==◌, slice_get}
use Rattle.module_format.specs.Contents.{contents_of, par_of}
use Rattle.machine_state.specs.World.{World}
use Rattle.machine_state.specs.Joins.{member_joined}
use Rattle.machine_state.specs.JoinLookups.{opened_by}
use Rattle.traffic.specs.Settling.{here_in}
use Rattle.joins.specs.declared.open.Open.{Open}
use Rattle.machine_state.specs.Asking.{untouched}
use Rattle.joins.proofs.Leaving.{own_done}
use Rattle.joins.proofs.ending.end_opener.Goals as goal

pub returns-clause-settles : goal.returns-clause-settles
returns-clause-settles c = λ join opened same.
    let ending = c.args.ending.now in
    let m = contents_of ending.tables.now in
    let h = here_in m ending.here.now in
    let p = ending.here.now.process in
    let w = c.args.traffic.now.world in
    let par = par_of c.in-Some.par.now in
    let row : slice_get m.pars join.row ≡ Some par =
    ap (λ (o : Open). slice_get m.pars o.row) (sym same) ∙ c.in-Some.ensures in
    let test : ((join.block == ending.block) && (join.started == length par.branches)) ≡ true =
    ap (λ (o : Open). (o.block == ending.block) && (o.started == length par.branches)) (sym same)
    ∙ (sym c.is_whole.ensures ∙ c.if-not-is_whole.false) in
    let there : opened_by c.end.new.traffic.world p ≡ Some join =
    ap (λ (v : World). opened_by v p) (c.end.ensures.world m) ∙ opened in
    own_done h w join ending.block (untouched ending.registers w.memory) par c.leave.new.traffic.world row test
    (c.leave.ensures.world m join par there same refl
    ∙ ap (λ (v : World). member_joined h p join par v) (c.end.ensures.world m))
