use Rattle.std.proofs.Common.{◌∙◌, ◌+◌, ◌&&◌, ◌++◌, ◌∷◌, [], not, List, length, ap}
use Rattle.std.specs.Prelude.{nat_lt}
use Rattle.module_format.specs.Contents.{contents_of}
use Rattle.machine_state.specs.declared.holding.Span.{Span}
use Rattle.machine_state.specs.Spans.{writes_place, reads_place}
use Rattle.machine_state.specs.World.{constants_start}
use Rattle.joins.specs.Sharing.{share_view}
use Rattle.joins.proofs.Taking.{same_holding, covers_mapped, given_writes, given_reads}
use Rattle.joins.proofs.given.given.Goals as goal

pub returns : goal.returns
returns c =
    let end = c.args.end in
    let m = contents_of c.args.tables.now in
    let share = share_view c.args.share.now in
    let writes = c.in_ok-writes.writes.items in
    let reads = c.in_ok-reads.reads.items in
    let written = covers_mapped end writes c.deref.result.now c.args.share.now.writes.items c.deref.ensures.value
    c.in_ok-writes.ensures in
    let read = covers_mapped end reads c.deref-2.result.now c.args.share.now.reads.items c.deref-2.ensures.value
    c.in_ok-reads.ensures in
    same_holding _ _
    (c.in_ok-without.ensures
    ∙ given_writes end writes c.deref-4.result.now (writes_place share) written c.deref-4.ensures.value)
    (c.in_ok-without-2.ensures
    ∙ given_reads end writes reads c.deref-5.result.now c.deref-6.result.now c.within.result (writes_place share)
    (reads_place share) (λ p. nat_lt p (constants_start m + length m.constants) && not
    (nat_lt p (constants_start m))) written read (λ p h. c.within.ensures p h ∙ c.constants.ensures p)
    (c.deref-5.ensures.value ∙ (c.in_ok-readable.ensures
    ∙ ap (λ (l : List Span). l ++ c.within.result ∷ []) c.deref-3.ensures.value))
    c.deref-6.ensures.value)
    (c.in_ok-from_slice.ensures.items ∙ c.deref-7.ensures.value)
