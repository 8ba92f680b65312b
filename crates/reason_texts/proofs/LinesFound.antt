-- A line found among others, one after the other.
use Rattle.std.proofs.Common.{◌≡◌, ℕ, ◌+◌, ◌<◌, ◌≤◌, List, [], ◌∷◌, length, Option, Some, None, refl, sym, ◌∙◌, arith}
use Rattle.std.proofs.lemmas.Bool.{eq-eqb, ne_eqb, le-ltb, lt-ltb}
use Rattle.occam_layout.specs.declared.layout.TheConstants.{MAX_BYTES}
use Rattle.occam_layout.specs.Reading.{lines_of}
use Rattle.reason_texts.specs.declared.lines.Above.{Above}
use Rattle.reason_texts.specs.Lines.{Sight, above_after, line_among, line_found}

pub found-large : (source : List ℕ) (line : ℕ) → MAX_BYTES < length source → line_found source line ≡ None
unfolding line_found
found-large source line large = rw (lt-ltb _ _ large) refl

pub found-small : (source : List ℕ) (line : ℕ) → length source ≤ MAX_BYTES
    → line_found source line ≡ line_among 1 0 None (lines_of source) line
unfolding line_found
found-small source line small = rw (le-ltb _ _ small) refl

pub among-here : (number offset line : ℕ) (above : Option Above) (lines : List (List ℕ)) (bytes : List ℕ)
    (rest : List (List ℕ)) → lines ≡ bytes ∷ rest → number ≡ line
    → line_among number offset above lines line ≡ Some (record { bytes = bytes; offset = offset; above = above })
unfolding line_among
among-here number offset line above lines bytes rest is_lines same = rw (is_lines, eq-eqb _ _ same) refl

pub among-next : (number offset next line : ℕ) (above : Option Above) (lines : List (List ℕ)) (bytes : List ℕ)
    (rest : List (List ℕ)) → lines ≡ bytes ∷ rest → (number ≡ line → ⊥) → next ≡ offset + length bytes + 1
    → line_among number offset above lines line
    ≡ line_among (number + 1) next (above_after above number bytes) rest line
unfolding line_among
among-next number offset next line above lines bytes rest is_lines other is_next =
    rw (is_lines, ne_eqb _ _ other, is_next) refl

pub among-none : (number offset line : ℕ) (above : Option Above) (text : List ℕ) → length text ≡ 0
    → line_among number offset above (lines_of text) line ≡ None
unfolding line_among lines_of
among-none number offset line above [] none = refl
among-none number offset line above (c ∷ rest) none = absurd (omega (arith, none))
