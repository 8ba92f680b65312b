-- Pieces whose module is too large or invalid.
use Rattle.std.proofs.Common.{◌≡◌, ◌≤◌, ◌<◌, ◌+◌, ℕ, zero, suc, List, [], ◌∷◌, ◌++◌, length, Some, Err, refl, sym, ap, subst}
use Rattle.std.proofs.Common.{◌∙◌, inl, inr, arith}
use Rattle.std.specs.Prelude.{◌⊎◌}
use Rattle.std.proofs.lemmas.List.{length-append, length-map}
use Rattle.module_format.specs.declared.limits.TheConstants.{MAX_DATA_WORDS}
use Rattle.module_builder.specs.declared.draft.Draft.{Draft}
use Rattle.module_builder.specs.declared.fault.GenFault.{GenFault}
use Rattle.module_builder.specs.declared.fault.GenFault.TheVariants as faults
use Rattle.module_builder.specs.Drafts.{Code, IsComplete}
use Rattle.module_builder.specs.Layouts.{IsLeast}
use Rattle.module_builder.specs.Assembled.{Assembles, IsTooLarge, IsInvalid}
use Rattle.module_builder.specs.Whole.{IsWhole}
use Rattle.module_builder.proofs.Places.{one_least}
use Rattle.code_pieces.specs.declared.piece.Piece as code_piece
use Rattle.code_pieces.specs.Pieces.{Piece}
use Rattle.code_pieces.specs.PieceViews.{piece_of, pieces_of}
use Rattle.code_pieces.specs.Needed.{NeedsAreWithin}
use Rattle.code_pieces.specs.declared.modules.TheConstants.{BASE}
use Rattle.code_pieces.specs.Numbers.{Numbered, number_at}
use Rattle.code_pieces.specs.Laying.{draft_code, items_of, lengths_behind, placed_from, places_of, sizes_of}
use Rattle.code_pieces.specs.Laying.{tables_before, words_taken}
use Rattle.code_pieces.specs.Laid.{IsLaid, IsLaidOut, NeedsFit, AreTooLarge}
use Rattle.code_pieces.specs.WellFormed.{AreWellFormed, AreInvalid}

-- each piece has its bytes
pub length-sizes_of : (ps : List Piece) (lengths : List ℕ) → length (sizes_of ps lengths) ≡ length ps
length-sizes_of [] lengths = refl
length-sizes_of (p ∷ ps) lengths = ap (λ n. suc n) (length-sizes_of ps (lengths_behind p lengths))

pub as_many_sizes : (ps : List code_piece.Piece) (sizes lengths : List ℕ) → sizes ≡ sizes_of (pieces_of ps) lengths
    → length sizes ≡ length ps
as_many_sizes ps sizes lengths e =
    ap (λ (ns : List ℕ). length ns) e ∙ length-sizes_of (pieces_of ps) lengths ∙ length-map ps piece_of

-- what is needed is above the limit by each least layout, if it is so by one
pub needs_too_much : (code : Code) (ps : List Piece) (sizes found lengths : List ℕ) → IsLeast code found
    → sizes ≡ sizes_of ps found → (NeedsAreWithin ps sizes → ⊥) → IsLeast code lengths
    → NeedsAreWithin ps (sizes_of ps lengths) → ⊥
needs_too_much code ps sizes found lengths least e above other within =
    let same : lengths ≡ found = one_least code lengths found other least in
    above (subst (NeedsAreWithin ps) (ap (sizes_of ps) same ∙ sym e) within)

-- a draft of which `Limit` is reported is too large
pub at_limit : (d : Draft) (fault : GenFault) → Assembles {V = List ℕ} (λ v. v) d (Err fault) → fault ≡ faults.Limit
    → IsTooLarge d
at_limit d faults.Limit h e = h
at_limit d faults.Memory h e = absurd (cc)
at_limit d faults.Invalid h e = absurd (cc)

-- pieces are too large where their draft is
pub draft_too_large : (ps : List Piece) (labels : ℕ) (links : List ℕ) (d : Draft) → IsLaidOut ps labels links d
    → IsTooLarge d → AreTooLarge ps labels links
draft_too_large ps labels links d out above = λ lengths least within.
    let same : out.lengths ≡ lengths = one_least (draft_code ps labels) out.lengths lengths out.least least in
    let laid : IsLaid ps labels links lengths d = subst (λ (ls : List ℕ). IsLaid ps labels links ls d) same out.laid in
    let its : IsLeast d.code lengths =
    subst (λ (code : Code). IsLeast code lengths) (sym out.laid.draft.code) least in
    above lengths its (within.draft d laid)

-- ---- too many words

pub too_many_words : (ps : List Piece) (labels : ℕ) (links : List ℕ) → MAX_DATA_WORDS < BASE + words_taken ps
    → AreTooLarge ps labels links
too_many_words ps labels links above = λ lengths least within. omega (arith, above, within.words)

pub few_words : (ps : List Piece) (words : ℕ) → words ≡ BASE + words_taken ps → words ≤ MAX_DATA_WORDS
    → words_taken ps ≤ MAX_DATA_WORDS
few_words ps words is few = omega (arith, is, few)

-- ---- invalid pieces

-- what is needed is within the limit by each least layout, if it is so by one
pub needs_fit : (code : Code) (ps : List Piece) (sizes found : List ℕ) → IsLeast code found → sizes ≡ sizes_of ps found
    → NeedsAreWithin ps sizes → NeedsFit code ps
needs_fit code ps sizes found least e within = λ lengths other.
    subst (NeedsAreWithin ps) (e ∙ ap (sizes_of ps) (one_least code found lengths least other)) within

count_places : (n : ℕ) (placed : List Numbered) → length (places_of n placed) ≡ n
count_places zero placed = refl
count_places (suc n) placed =
    omega (arith, length-append (places_of n placed) (Some (number_at n placed) ∷ []), count_places n placed)

-- a draft has a label more than its pieces
pub count_labels : (code : Code) (ps : List Piece) (labels : ℕ) → code ≡ draft_code ps labels
    → length code.labels ≡ labels + 1
count_labels code ps labels e =
    let placed = placed_from 0 ps in
    let ends = Some (length (items_of (tables_before [] ps) ps)) ∷ [] in
    let same : length code.labels ≡ length (places_of labels placed ++ ends) =
    ap (λ (c : Code). length c.labels) e in
    omega (arith, same, count_places labels placed, length-append (places_of labels placed) ends)

pub not_well_formed : (ps : List Piece) (labels : ℕ) (links : List ℕ) → words_taken ps ≤ MAX_DATA_WORDS
    → (AreWellFormed ps labels → ⊥) → AreInvalid ps labels links
not_well_formed ps labels links few not = record { few = few; refused = λ well. absurd (not well) }

-- the code refers to a label that is placed nowhere
pub not_complete : (ps : List Piece) (labels : ℕ) (links : List ℕ) (code : Code) → words_taken ps ≤ MAX_DATA_WORDS
    → code ≡ draft_code ps labels → (IsComplete code → ⊥) → AreInvalid ps labels links
not_complete ps labels links code few is not = record {
  few = few;
  refused = λ well. inl (λ complete. not (subst IsComplete (sym is) complete));
}

-- the draft is not whole, or it is invalid
pub no_module : (qs ps : List Piece) (labels : ℕ) (links : List ℕ) (d : Draft) → qs ≡ ps
    → words_taken qs ≤ MAX_DATA_WORDS → IsLaidOut qs labels links d → NeedsFit (draft_code qs labels) qs
    → (IsWhole d → ⊥) ⊎ IsInvalid d → AreInvalid ps labels links
no_module qs ps labels links d same few out fit refused =
    subst (λ (rs : List Piece). AreInvalid rs labels links) same (record {
      few = few;
      refused = λ well. inr (record { draft = d; out = out; needs = fit out.lengths out.least; refused = refused });
    })

-- a draft of which `Invalid` is reported is invalid
pub at_invalid : (d : Draft) (fault : GenFault) → Assembles {V = List ℕ} (λ v. v) d (Err fault)
    → fault ≡ faults.Invalid → IsInvalid d
at_invalid d faults.Invalid h e = h
at_invalid d faults.Memory h e = absurd (cc)
at_invalid d faults.Limit h e = absurd (cc)
