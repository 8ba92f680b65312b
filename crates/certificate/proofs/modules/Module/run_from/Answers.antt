use Rattle.std.proofs.Common.{◌≡◌, ◌∙◌, sym, ap, true, Option, Some, None}
use Rattle.std.specs.Prelude.{is_some, slice_get}
use Rattle.module_format.specs.declared.contexts.Context.{Context}
use Rattle.module_format.specs.Contents.{Par, Branch, par_of, branch_of}
use Rattle.module_format.specs.Contexts.{context_at}
use Rattle.certificate.specs.declared.runs.ChannelRun.{ChannelRun}
use Rattle.certificate.proofs.EndOrder.{end_found}
use Rattle.certificate.proofs.BranchRunLaws.{run_at}
use Rattle.certificate.proofs.modules.Module.run_from.Goals as goal

-- what is in place of a run where there is none
none : ChannelRun
none = record { count = 0; length = None }

pub bounds-runs-place : goal.bounds-runs-place
bounds-runs-place c =
    let there : is_some (context_at c.args.self.now c.args.context) ≡ true =
    ap (λ (o : Option Context). is_some o) (sym c.context.ensures ∙ c.in_ok-context.was) in
    let x : Par × Branch = (par_of c.in_ok-_row._row.now, branch_of c.in_ok-_row.branch.now) in
    let here : slice_get x.1.ends c.in_ok-place.place ≡ Some c.args.end.now =
    end_found x.1.ends c.in_ok-place.place c.args.end.now (rw c.deref.ensures.value at c.in_ok-place.ensures) in
    (run_at c.args.self.now c.args.context c.args.end.now x c.in_ok-runs.runs.now c.in_ok-place.place none
    c.in_ok-_row.ensures.found there c.in_ok-runs.ensures here).0

pub returns : goal.returns
unfolding none
returns c =
    let there : is_some (context_at c.args.self.now c.args.context) ≡ true =
    ap (λ (o : Option Context). is_some o) (sym c.context.ensures ∙ c.in_ok-context.was) in
    let x : Par × Branch = (par_of c.in_ok-_row._row.now, branch_of c.in_ok-_row.branch.now) in
    let here : slice_get x.1.ends c.in_ok-place.place ≡ Some c.args.end.now =
    end_found x.1.ends c.in_ok-place.place c.args.end.now (rw c.deref.ensures.value at c.in_ok-place.ensures) in
    (run_at c.args.self.now c.args.context c.args.end.now x c.in_ok-runs.runs.now c.in_ok-place.place none
    c.in_ok-_row.ensures.found there c.in_ok-runs.ensures here).1
