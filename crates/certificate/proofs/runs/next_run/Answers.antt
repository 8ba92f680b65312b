use Rattle.std.proofs.Common.{◌<◌, length}
use Rattle.std.proofs.lemmas.Option.{slice_get_within, slice_get-get_or}
use Rattle.module_format.specs.Pars.{first_key, EndKindKeeps}
use Rattle.certificate.specs.Runs.{further, end_further}
use Rattle.certificate.proofs.EndOrder.{no_end, end_found}
use Rattle.certificate.proofs.runs.next_run.Goals as goal

pub returns-in_err-kind : goal.returns-in_err-kind
returns-in_err-kind c =
    let far : EndKindKeeps (further c.args.end.kind 1) → ⊥ = rw c.in_err-kind.was at c.next_kind.ensures in
    rw c.from_residual.ensures (no_end c.args.ends.now first_key (end_further c.args.end 1) c.requires.order far)

pub bounds-runs-index : goal.bounds-runs-index
bounds-runs-index c =
    let here = end_found c.args.ends.now c.in_ok-index.index (end_further c.args.end 1)
    (rw c.in_ok-kind.ensures at c.in_ok-index.ensures) in
    rw c.requires.many (slice_get_within c.args.ends.now c.in_ok-index.index _ here)

pub returns : goal.returns
returns c =
    let here = end_found c.args.ends.now c.in_ok-index.index (end_further c.args.end 1)
    (rw c.in_ok-kind.ensures at c.in_ok-index.ensures) in
    let within : c.in_ok-index.index < length c.args.runs.now =
    rw c.requires.many (slice_get_within c.args.ends.now c.in_ok-index.index _ here) in
    record {
      at = c.in_ok-index.index;
      end = here;
      is = slice_get-get_or c.args.runs.now c.in_ok-index.index _ within;
    }
