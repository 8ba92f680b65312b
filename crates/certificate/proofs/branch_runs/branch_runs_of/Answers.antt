use Rattle.std.proofs.Common.{◌∙◌, sym, subst, ℕ, ◌<◌, ◌≤◌, length, get_or, arith, rules}
use Rattle.std.proofs.Math.ListN.{length-set}
use Rattle.std.proofs.lemmas.List.{get_or_default}
use Rattle.module_format.specs.Contents.{contents_of}
use Rattle.certificate.specs.declared.branch_runs.Visit.{Visit}
use Rattle.certificate.specs.BranchRuns.{AreRunsOf}
use Rattle.certificate.proofs.BranchRunLaws.{visit_fits, is_visited, done_more}
use Rattle.certificate.proofs.branch_runs.branch_runs_of.Goals as goal

pub loop-index-init : goal.loop-index-init
loop-index-init c = record {
  many =
      let most = c.loop.auto.counter-end in let past = c.loop-test.false in
      let is = c.loop.invariant in omega (arith, is);
  around = c.new-around.ensures (contents_of c.args.tables.now) c.requires.keeps;
  done = record { each = λ j d e lt. absurd (omega arith) };
}

pub overflow_add-context : goal.overflow_add-context
overflow_add-context c =
    let lt : c.loop-index.index < length c.in_ok-visits.visits.items = search rules in
    let fit = (visit_fits (contents_of c.args.tables.now) c.requires.keeps c.args.places.now c.requires.places
    c.in_ok-visits.visits.items c.loop-index.index c.index.result.now c.in_ok-visits.ensures lt c.index.ensures).1 in
    let first = c.first_branch-first.ensures in
    omega (arith, fit, first)

pub overflow_cast-context : goal.overflow_cast-context
overflow_cast-context c =
    let lt : c.loop-index.index < length c.in_ok-visits.visits.items = search rules in
    let fit = (visit_fits (contents_of c.args.tables.now) c.requires.keeps c.args.places.now c.requires.places
    c.in_ok-visits.visits.items c.loop-index.index c.index.result.now c.in_ok-visits.ensures lt c.index.ensures).1 in
    let first = c.first_branch-first.ensures in
    omega (arith, fit, first)

pub index_mut-requires : goal.index_mut-requires
index_mut-requires c =
    let lt : c.loop-index.index < length c.in_ok-visits.visits.items = search rules in
    let below = (visit_fits (contents_of c.args.tables.now) c.requires.keeps c.args.places.now c.requires.places
    c.in_ok-visits.visits.items c.loop-index.index c.index.result.now c.in_ok-visits.ensures lt c.index.ensures).0 in
    let many = c.loop-index.invariant.many in
    let long = c.loop-index.runs.ok.0 in
    omega (arith, below, many, long)

pub loop-index-preserved : goal.loop-index-preserved
loop-index-preserved c =
    let lt : c.loop-index.index < length c.in_ok-visits.visits.items = search rules in
    let below = (visit_fits (contents_of c.args.tables.now) c.requires.keeps c.args.places.now c.requires.places
    c.in_ok-visits.visits.items c.loop-index.index c.index.result.now c.in_ok-visits.ensures lt c.index.ensures).0 in
    let many = c.loop-index.invariant.many in
    record {
      many = length-set c.loop-index.runs.items _ _ ∙ c.loop-index.invariant.many;
      around = c.in_ok-runs.ensures.around;
      done = done_more (contents_of c.args.tables.now) c.in_ok-visits.visits.items c.loop-index.index
          c.index.result.now c.loop-index.runs.items c.in_ok-runs.field-0
          (λ d. get_or_default c.in_ok-visits.visits.items c.loop-index.index d c.index.result.now lt
          ∙ sym c.index.ensures)
          (omega (arith, below, many)) c.loop-index.invariant.done
          (rw c.first_branch-first.ensures at c.in_ok-runs.ensures.runs);
    }

pub returns : goal.returns
returns c =
    let m = contents_of c.args.tables.now in
    let visits = c.in_ok-visits.visits.items in
    let none : Visit = record { position = 0; branch = 0 } in
    record {
      many = c.loop-index.invariant.many ∙ c.requires.places.many;
      each = λ i d lt.
          let many = c.loop-index.invariant.many in
          let at = is_visited (length c.args.places.now) visits i c.in_ok-visits.ensures (omega (arith, many, lt)) in
          let past : length visits ≤ c.loop-index.index = search rules in
          let within = at.within in
          let right = c.loop-index.invariant.done.each at.at none d (omega (arith, past, within)) in
          subst (λ (n : ℕ). AreRunsOf m n (get_or c.loop-index.runs.items n d).items) (at.is none) right;
    }
