use Rattle.std.proofs.Common.{◌≡◌, ◌∙◌, sym, ap, subst, ℕ, Some}
use Rattle.std.specs.Ordering.{int_cmp}
use Rattle.std.specs.BTreeMap.{get}
use Rattle.std.proofs.lemmas.Result.{IfOk-weaker}
use Rattle.module_format.specs.Contents.{contents_of, par_of, branch_of, Par, Branch}
use Rattle.certificate.specs.Rights.{channel_length}
use Rattle.certificate.specs.Runs.{AreRuns}
use Rattle.certificate.proofs.RightLaws.{found_kept}
use Rattle.certificate.proofs.RunLaws.{runs_same}
use Rattle.certificate.proofs.branch_runs.visited_runs.Goals as goal

pub runs_of-requires-clause-order : goal.runs_of-requires-clause-order
runs_of-requires-clause-order c =
    rw c.deref.ensures.value (found_kept (contents_of c.args.tables.now) c.args.context
    (par_of c.in-Some._row.now, branch_of c.in-Some.branch.now) c.requires.keeps c.in-Some.ensures.found).0.ends

pub runs_of-requires-clause-few : goal.runs_of-requires-clause-few
runs_of-requires-clause-few c =
    rw c.deref.ensures.value (found_kept (contents_of c.args.tables.now) c.args.context
    (par_of c.in-Some._row.now, branch_of c.in-Some.branch.now) c.requires.keeps c.in-Some.ensures.found).0.counts.ends

pub returns-in-Some-clause-runs : goal.returns-in-Some-clause-runs
returns-in-Some-clause-runs c =
    let m = contents_of c.args.tables.now in
    IfOk-weaker c.runs_of.result _ _ (λ runs are. λ x is.
    let there : (par_of c.in-Some._row.now, branch_of c.in-Some.branch.now) ≡ x =
    let both : Some (par_of c.in-Some._row.now, branch_of c.in-Some.branch.now) ≡ Some x =
    sym c.in-Some.ensures.found ∙ is
    in cc in
    subst (λ (y : Par × Branch). AreRuns (channel_length m c.args.context) y.1.ends runs.items) there
    (runs_same (get int_cmp c.enter.new.self.lengths) (channel_length m c.args.context) _ runs.items
    (λ k. c.in_ok-enter.ensures.around.lengths k ∙ ap (λ (n : ℕ). channel_length m n k) c.in_ok-enter.ensures.there)
    (rw c.deref.ensures.value at are))) c.runs_of.ensures
