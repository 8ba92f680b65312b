use Rattle.std.proofs.Common.{◌≡◌, ℕ, ◌+◌, ◌*◌, length, arith, sym, refl}
use Rattle.std.specs.List.{flat_map}
use Rattle.std.proofs.lemmas.Result.{err_from_is_err_and}
use Rattle.std.proofs.lemmas.List.{map-id}
use Rattle.module_format.specs.Contents.{Branch, branch_of}
use Rattle.module_format.specs.Spelling.{u16_bytes, interval_bytes, end_bytes, branch_bytes}
use Rattle.module_format.specs.References.{branch_references}
use Rattle.module_format.proofs.ReadsInSteps.{step}
use Rattle.module_format.proofs.Loop.{ok_weaker, tells_err, tells_same}
use Rattle.module_format.proofs.Sizes.{branch_size, intervals_size}
use Rattle.module_format.proofs.reading.par_references.BranchRowReferencesContextParameters.references.Goals as goal

-- the bytes of a branch, by how many intervals it has
sized : (b : Branch) → length (branch_bytes b) ≡ 18 + 8 * length b.writes + 8 * length b.reads
    + length (flat_map u16_bytes b.written_parameters) + length (flat_map u16_bytes b.read_parameters)
    + length (flat_map end_bytes b.ends)
sized b = omega (arith, branch_size b, intervals_size b.writes, intervals_size b.reads)

-- where the lists after the intervals are
behind_intervals : (b : Branch) (at writes reads : ℕ) → writes ≡ length b.writes → reads ≡ length b.reads
    → at + 18 + 8 * writes + 8 * reads
    ≡ at + 18 + length (flat_map interval_bytes b.writes) + length (flat_map interval_bytes b.reads)
behind_intervals b at writes reads w r = omega (arith, intervals_size b.writes, intervals_size b.reads, w, r)

pub overflow_mul-written : goal.overflow_mul-written
overflow_mul-written c =
    let b = branch_of c.args.self.now in
    omega (arith, sized b, c.len.ensures.value, c.requires)

pub overflow_add-written-2 : goal.overflow_add-written-2
overflow_add-written-2 c =
    let b = branch_of c.args.self.now in
    omega (arith, sized b, c.len.ensures.value, c.requires)

pub overflow_mul-written-2 : goal.overflow_mul-written-2
overflow_mul-written-2 c =
    let b = branch_of c.args.self.now in
    omega (arith, sized b, c.len-2.ensures.value, c.requires)

pub overflow_add-written-3 : goal.overflow_add-written-3
overflow_add-written-3 c =
    let b = branch_of c.args.self.now in
    omega (arith, sized b, c.len.ensures.value, c.len-2.ensures.value, c.requires)

pub list_references-requires : goal.list_references-requires
list_references-requires c =
    let b = branch_of c.args.self.now in
    rw (c.deref.ensures, map-id b.written_parameters)
    (omega (arith, sized b, c.len.ensures.value, c.len-2.ensures.value, c.requires))

pub returns-in_err-read-clause-gives : goal.returns-in_err-read-clause-gives
unfolding branch_references
returns-in_err-read-clause-gives c =
    let b = branch_of c.args.self.now in
    let p = err_from_is_err_and c.from_residual.result c.from_residual.ensures.1 in
    let place = behind_intervals b c.args.at _ _ c.len.ensures.value c.len-2.ensures.value in
    let first = rw (c.deref.ensures, map-id b.written_parameters, place) at c.in_err-read.ensures.gives in
    rw (p.1, p.2) (tells_err c.in_err-read.field-0.0 _ first)

pub list_references-requires-2 : goal.list_references-requires-2
list_references-requires-2 c =
    let b = branch_of c.args.self.now in
    let read = rw (c.deref.ensures, map-id b.written_parameters) at c.in_ok-read.ensures.behind in
    rw (c.deref-2.ensures, map-id b.read_parameters)
    (omega (arith, read, sized b, c.len.ensures.value, c.len-2.ensures.value, c.requires))

pub returns-in_err-ends-clause-gives : goal.returns-in_err-ends-clause-gives
unfolding branch_references
returns-in_err-ends-clause-gives c =
    let b = branch_of c.args.self.now in
    let p = err_from_is_err_and c.from_residual-in_err-ends.result c.from_residual-in_err-ends.ensures.1 in
    let place = behind_intervals b c.args.at _ _ c.len.ensures.value c.len-2.ensures.value in
    let first = rw (c.deref.ensures, map-id b.written_parameters, place) at c.in_ok-read.ensures.gives in
    let read = rw (c.deref.ensures, map-id b.written_parameters, place) at c.in_ok-read.ensures.behind in
    let second = rw (c.deref-2.ensures, map-id b.read_parameters, read) at c.in_err-ends.ensures.gives in
    rw (p.1, p.2) (step _ first (tells_err c.in_err-ends.field-0.0 _ second))

pub list_references-requires-3 : goal.list_references-requires-3
list_references-requires-3 c =
    let b = branch_of c.args.self.now in
    let read = rw (c.deref.ensures, map-id b.written_parameters) at c.in_ok-read.ensures.behind in
    let ends = rw (c.deref-2.ensures, map-id b.read_parameters) at c.in_ok-ends.ensures.behind in
    rw (c.deref-3.ensures.value, map-id b.ends)
    (omega (arith, read, ends, sized b, c.len.ensures.value, c.len-2.ensures.value, c.requires))

pub returns-clause-gives : goal.returns-clause-gives
unfolding branch_references
returns-clause-gives c =
    let b = branch_of c.args.self.now in
    let place = behind_intervals b c.args.at _ _ c.len.ensures.value c.len-2.ensures.value in
    let first = rw (c.deref.ensures, map-id b.written_parameters, place) at c.in_ok-read.ensures.gives in
    let read = rw (c.deref.ensures, map-id b.written_parameters, place) at c.in_ok-read.ensures.behind in
    let second = rw (c.deref-2.ensures, map-id b.read_parameters, read) at c.in_ok-ends.ensures.gives in
    let ends = rw (c.deref-2.ensures, map-id b.read_parameters, read) at c.in_ok-ends.ensures.behind in
    let third = rw (c.deref-3.ensures.value, map-id b.ends, ends) at c.list_references-3.ensures.gives in
    tells_same c.list_references-3.result (sym (step _ first (step _ second refl))) third

pub returns-clause-behind : goal.returns-clause-behind
returns-clause-behind c =
    let b = branch_of c.args.self.now in
    let read = rw (c.deref.ensures, map-id b.written_parameters) at c.in_ok-read.ensures.behind in
    let ends = rw (c.deref-2.ensures, map-id b.read_parameters) at c.in_ok-ends.ensures.behind in
    let behind = rw (c.deref-3.ensures.value, map-id b.ends) at c.list_references-3.ensures.behind in
    ok_weaker c.list_references-3.result behind
    (λ end e. omega (arith, e, read, ends, sized b, c.len.ensures.value, c.len-2.ensures.value))
