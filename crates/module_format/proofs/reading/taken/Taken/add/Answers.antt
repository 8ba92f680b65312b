use Rattle.std.proofs.Common.{◌≡◌, ◌<◌, ◌/◌, get_or, length}
use Rattle.std.proofs.lemmas.List.{get_or_read}
use Rattle.module_format.proofs.OffsetSetLaws.{with_bit, has_added, one_more}
use Rattle.module_format.proofs.reading.taken.Taken.add.Goals as goal

pub invariant_of-self-2 : goal.invariant_of-self-2
invariant_of-self-2 c =
    let at = c.args.offset in
    let reserved = c.reserve.new.self in
    let words = reserved.words.items in
    let inside : at / 64 < length words = c.in_ok-reserve.ensures.0 in
    let was : c.index_mut.result.now ≡ get_or words (at / 64) 0 =
    get_or_read words (at / 64) _ inside (rw c.word_of.ensures at c.index_mut.ensures.value) 0 in
    rw (c.word_of.ensures, c.mask_of.ensures, was, c.in_ok-push.ensures.items)
    record {
      has_entries = one_more words (with_bit words at) at reserved.entries.items (has_added words at inside)
          reserved.has_entries;
    }
