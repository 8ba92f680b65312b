-- Rows of words that a frame may have.
use Rattle.std.proofs.Common.{◌≡◌, ℕ, zero, suc, ◌+◌, ◌≤◌, ◌<◌, Bool, true, false, List, [], ◌∷◌, length, get_or, refl}
use Rattle.std.proofs.Common.{arith, eqb-true}
use Rattle.std.specs.Prelude.{nat_eq, if◌then◌else◌}
use Rattle.std.specs.List.{AllByRecursion}
use Rattle.std.proofs.lemmas.Bool.{and_parts}
use Rattle.module_format.specs.declared.limits.TheConstants.{MAX_DATA_WORDS}
use Rattle.code_pieces.specs.declared.piece.RowEntry.{RowEntry}
use Rattle.code_pieces.specs.Laying.{Said, joins, is_same_range, with_said}
use Rattle.code_pieces.specs.DraftedRows.{IsOfFewWords}

-- neighbours that are joined meet
meet : (s t : Said) → joins s t ≡ true → s.word + s.span ≡ t.word
meet s t e =
    eqb-true (s.word + s.span) t.word
    (and_parts (nat_eq (s.word + s.span) t.word) (is_same_range s.fact t.fact) e).0

few_if : (b : Bool) (s t : Said) (ts : List Said) → (b ≡ true → s.word + s.span ≡ t.word) → IsOfFewWords s
    → AllByRecursion IsOfFewWords (t ∷ ts)
    → AllByRecursion IsOfFewWords
    (if b then record { word = s.word; span = s.span + t.span; fact = s.fact } ∷ ts else s ∷ t ∷ ts)
few_if true s t ts meets few all = (omega (arith, meets refl, all.0), all.1)
few_if false s t ts meets few all = (few, all)

-- one more entry
pub few_with_said : (s : Said) (ts : List Said) → IsOfFewWords s → AllByRecursion IsOfFewWords ts
    → AllByRecursion IsOfFewWords (with_said s ts)
few_with_said s [] few all = (few, tt)
few_with_said s (t ∷ ts) few all = few_if (joins s t) s t ts (meet s t) few all

-- the words of an entry
pub few_at : (es : List RowEntry) (i : ℕ) (d : RowEntry) → i < length es
    → AllByRecursion (λ (e : RowEntry). e.word + e.span ≤ MAX_DATA_WORDS) es
    → (get_or es i d).word + (get_or es i d).span ≤ MAX_DATA_WORDS
few_at [] i d h all = absurd (omega arith)
few_at (e ∷ es) zero d h all = all.0
few_at (e ∷ es) (suc i) d h all = few_at es i d (omega arith) all.1
