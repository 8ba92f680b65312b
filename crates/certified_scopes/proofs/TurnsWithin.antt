-- Scopes are settled where a process ends, and what is known where a turn of a loop ends lies within its head's.
use Rattle.std.proofs.Common.{◌≡◌, ℕ, Bool, true, List, [], ◌∷◌, length, Some, None, inl, inr, refl}
use Rattle.std.proofs.Common.{subst, ◌⊎◌, arith}
use Rattle.word_arithmetic.specs.Range.{Ends}
use Rattle.occam_layout.specs.declared.mark.Mark.TheVariants as mark
use Rattle.occam_parser.specs.declared.tree.ValueType.{ValueType}
use Rattle.occam_parser.specs.Terminals.{Mark}
use Rattle.scalar_ranges.specs.declared.scope.ScalarKind.TheVariants as kinds
use Rattle.scalar_ranges.specs.Entries.{Meaning, Scalar, Entry}
use Rattle.scalar_ranges.specs.Moves.{outermost, is_one_of, widen}
use Rattle.scalar_ranges.proofs.MoveLaws.{shapes_stay}
use Rattle.program_uses.specs.Declaring.{add}
use Rattle.program_uses.specs.Indices.{index_in, index_meaning, repeats_of}
use Rattle.program_uses.proofs.ChangesAlike.{added_alike}
use Rattle.program_meaning.specs.RangesWithin.{RangeWithin, MeaningWithin, EntriesWithin}
use Rattle.program_meaning.proofs.MovesWithin.{within_shape}
use Rattle.usage_checks.specs.AfterProcesses.{inside}
use Rattle.usage_checks.specs.TypedRanges.{AreInTypes}
use Rattle.usage_checks.proofs.OutlinesStay.{shaped}
use Rattle.usage_checks.proofs.RangesStay.{all_but_one, component_stays, covers_itself, ranges_stay}
use Rattle.certified_scopes.specs.Processes.{changed_in, at_head, turn_ended, ProcessesLeaveScopesSettled}
use Rattle.certified_scopes.specs.Processes.{TurnsLieWithin}
use Rattle.certified_scopes.specs.Within.{index_of_loop, indices_of, TellsMore, LieWithin}
use Rattle.certified_scopes.proofs.Indices.{index_there}
use Rattle.certified_scopes.proofs.ProcessesKeep.{component_keeps, indices_are_kept, one_keeps}
use Rattle.certified_scopes.proofs.Settled.{moved_scopes_are_settled}
use Rattle.certified_scopes.proofs.Within.{alike_more, scopes_lie_within, widen_long}

pub processes_leave_scopes_settled : ProcessesLeaveScopesSettled
processes_leave_scopes_settled g f a p k seq low typed ordered s =
    let stays = ranges_stay.processes a p k low in
    let left = outermost (length k.entries) (inside a p k).entries in
    moved_scopes_are_settled g f left k.entries (within_shape _ left k.entries stays.within)
    (indices_are_kept.processes a p k seq low) typed ordered s

-- an index is never free
index_more : (free : Bool) (m : Meaning) (type : ValueType) (r : Ends)
    → MeaningWithin free m (Scalar kinds.Index type r)
    → index_of_loop m ≡ Some r → TellsMore m (Scalar kinds.Index type r)
index_more free m type r (inl is) same = inl is
index_more free (Scalar kind t q) type r (inr h) same = by_range h.2
  where
    by_range : RangeWithin q r ⊎ ((free ≡ true) × (kinds.Index ≡ kinds.Variable))
        → TellsMore (Scalar kind t q) (Scalar kinds.Index type r)
    by_range (inl within) = alike_more kind kinds.Index t type q r h.0 h.1 same within
    by_range (inr variable) = absurd (cc variable.1)
index_more free m type r (inr h) same = absurd h

head_within : (ns : List ℕ) (ds es : List Entry) (name : List ℕ) (type : ValueType) (r : Ends)
    → EntriesWithin ns ds (add name (Scalar kinds.Index type r) (widen ns es))
    → indices_of ds ≡ indices_of (add name (Scalar kinds.Index type r) (widen ns es)) → AreInTypes ds
    → LieWithin ds (add name (Scalar kinds.Index type r) (widen ns es))
head_within ns [] es name type r within same typed = absurd within
head_within ns (d ∷ ds) es name type r within same typed =
    let both = index_there d (record { name = name; meaning = Scalar kinds.Index type r }) ds (widen ns es) same in (
      index_more (is_one_of ns (length (widen ns es))) d.meaning type r within.1 both.0,
      scopes_lie_within.turned ns ds es within.2 both.1 typed.1,
    )

pub turns_lie_within : TurnsLieWithin
turns_lie_within part a r c counted k made seq typed =
    let ns = changed_in a r c k in
    let es = add r.name (index_meaning true None) k.entries in
    let index = index_in (repeats_of counted k.entries true r) 0 in
    let wide = widen ns k.entries in
    let l = at_head a r c counted k in
    let x = turn_ended a r c counted k in
    let long = widen_long ns k.entries in
    let alike = added_alike r.name index (index_meaning true None) wide k.entries refl
    (shaped wide k.entries (shapes_stay.widening k.entries ns)) in
    let remains = component_stays a ns (Mark mark.Seq) c made es (covers_itself ns) l (omega arith) alike in
    let same = component_keeps a c l made (one_keeps a (Mark mark.Seq) c seq) (omega arith) in
    let head = head_within ns x.entries k.entries r.name _ _ remains.within same typed in
    let e : Entry = record { name = r.name; meaning = index } in (
      head,
      subst (λ (xs : List Entry). LieWithin (outermost (length k.entries) x.entries) xs)
          (all_but_one (length k.entries) e wide long)
          (scopes_lie_within.leaving (length k.entries) x.entries l.entries head),
    )
