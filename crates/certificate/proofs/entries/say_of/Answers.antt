use Rattle.std.proofs.Common.{◌≡◌, ◌≤◌, ◌<◌, ◌∙◌, length, sym, true, false, rules, arith, pos, w64, to_z, of_z, int_le}
use Rattle.std.proofs.lemmas.Bool.{ltb-true, ltb-false}
use Rattle.std.proofs.lemmas.List.Sorted.{IsPartitionPoint-from_clause}
use Rattle.module_format.specs.declared.fact.Fact.TheVariants as facts
use Rattle.module_format.specs.Rows.{Entry}
use Rattle.module_format.specs.Facts.{end_of}
use Rattle.certificate.specs.Starting.{is_unknown}
use Rattle.certificate.proofs.EntryLaws.{entries_parted, found_says, none_says}
use Rattle.certificate.proofs.entries.say_of.Goals as goal

none : Entry
none = record { word = pos 0; span = 0; fact = facts.Unknown }

pub returns-then-not-is_unknown : goal.returns-then-not-is_unknown
returns-then-not-is_unknown c =
    let k = c.args.word in
    let low = c.requires.low in
    let es = c.args.entries.now in
    let n = c.partition_point-index.result in
    let d = c.in-Some.entry.now in
    let point = IsPartitionPoint-from_clause (λ (e : Entry). int_le (end_of e) k) es n
    c.partition_point-index.ensures.partitioned (λ i j m. entries_parted k low es m c.requires.order i j)
    (λ a r f' h. search rules) in
    let inside : n < length es = ltb-true n (length es) (sym c.in-Some.ensures.lookup.0) in
    let told = found_says k low es n d c.requires.order inside point c.in-Some.ensures.lookup.1 in
    let some : is_unknown d.fact ≡ false = sym c.is_unknown.ensures ∙ c.if-not-is_unknown.true in
    let first : to_z w64 (of_z w64 c.from.result) ≡ d.word = search rules in
    let word : to_z w64 (of_z w64 k) ≡ k = search rules in
    rw (first, word) (rw some at told)

pub returns-else-not-is_unknown : goal.returns-else-not-is_unknown
returns-else-not-is_unknown c =
    let k = c.args.word in
    let low = c.requires.low in
    let es = c.args.entries.now in
    let n = c.partition_point-index.result in
    let d = c.in-Some.entry.now in
    let point = IsPartitionPoint-from_clause (λ (e : Entry). int_le (end_of e) k) es n
    c.partition_point-index.ensures.partitioned (λ i j m. entries_parted k low es m c.requires.order i j)
    (λ a r f' h. search rules) in
    let inside : n < length es = ltb-true n (length es) (sym c.in-Some.ensures.lookup.0) in
    let told = found_says k low es n d c.requires.order inside point c.in-Some.ensures.lookup.1 in
    let no : is_unknown d.fact ≡ true = sym c.is_unknown.ensures ∙ c.if-not-is_unknown.false in
    rw c.if-not-is_unknown.false (rw no at told)

pub returns-in-None : goal.returns-in-None
unfolding none
returns-in-None c =
    let k = c.args.word in
    let es = c.args.entries.now in
    let n = c.partition_point-index.result in
    let point = IsPartitionPoint-from_clause (λ (e : Entry). int_le (end_of e) k) es n
    c.partition_point-index.ensures.partitioned (λ i j m. entries_parted k c.requires.low es m c.requires.order i j)
    (λ a r f' h. search rules) in
    let past : length es ≤ n = ltb-false n (length es) (sym c.in-None.ensures.lookup.0) in
    none_says k es none (λ j lt. point.0 j none (omega arith) (omega arith))
