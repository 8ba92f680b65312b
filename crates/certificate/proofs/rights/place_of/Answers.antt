use Rattle.std.proofs.Common.{◌∙◌, ◌<◌, ◌≤◌, length, sym, refl, rules, pos, false}
use Rattle.std.proofs.lemmas.Bool.{ltb-true, ltb-false}
use Rattle.std.proofs.lemmas.Option.{slice_get_read}
use Rattle.std.proofs.lemmas.List.Sorted.{IsPartitionPoint-from_clause}
use Rattle.module_format.specs.declared.rows.Direction.TheVariants as directions
use Rattle.module_format.specs.declared.rows.EndKind.TheVariants as ends
use Rattle.module_format.specs.declared.rows.EndRow.{EndRow}
use Rattle.module_format.specs.Pars.{first_key, is_below, key_of}
use Rattle.certificate.proofs.EndOrder.{same_key, parted, none_listed, place_tells}
use Rattle.certificate.proofs.rights.place_of.Goals as goal

none : EndRow
none = record { kind = ends.FrameWord (pos 0); direction = directions.In }

pub returns-in_err-other : goal.returns-in_err-other
unfolding none
returns-in_err-other c =
    let key = key_of c.args.end.now in
    let es = c.args.others.now in
    let n = c.partition_point-first.result in
    let point = IsPartitionPoint-from_clause (λ (e : EndRow). is_below
    (key_of e) key) es n c.partition_point-first.ensures.partitioned
    (λ i j m. parted m key first_key es c.requires i j) (λ a r f' h. search rules) in
    let past : length es ≤ n = ltb-false n (length es) (sym c.in_err-other.ensures.lookup.0) in
    rw c.from_residual.ensures (none_listed key first_key es n c.requires point none past)

pub returns-else-eq : goal.returns-else-eq
returns-else-eq c =
    let key = key_of c.args.end.now in
    let es = c.args.others.now in
    let n = c.partition_point-first.result in
    let d = c.in_ok-other.other.now in
    let point = IsPartitionPoint-from_clause (λ (e : EndRow). is_below
    (key_of e) key) es n c.partition_point-first.ensures.partitioned
    (λ i j m. parted m key first_key es c.requires i j) (λ a r f' h. search rules) in
    let inside : n < length es = ltb-true n (length es) (sym c.in_ok-other.ensures.lookup.0) in
    let same = rw (c.key.ensures, c.key-key.ensures) at c.eq.ensures in
    sym (place_tells key first_key es n c.requires point d false inside c.in_ok-other.ensures.lookup.1
    (sym c.if-eq.false ∙ same ∙ same_key (key_of d) key))

pub returns-then-eq : goal.returns-then-eq
returns-then-eq c =
    let es = c.args.others.now in
    let n = c.partition_point-first.result in
    let d = c.in_ok-other.other.now in
    let key = key_of c.args.end.now in
    let inside : n < length es = ltb-true n (length es) (sym c.in_ok-other.ensures.lookup.0) in
    let same = rw (c.key.ensures, c.key-key.ensures) at c.eq.ensures in
    rw (slice_get_read es (length es) n d refl inside c.in_ok-other.ensures.lookup.1)
    (sym (same_key (key_of d) key) ∙ sym same ∙ c.if-eq.true)
