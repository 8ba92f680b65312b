-- A listing, one line after the other.
use Rattle.std.proofs.Common.{◌≡◌, ℕ, zero, suc, ◌+◌, List, [], ◌∷◌, ◌++◌, length, take, refl, arith, add-one}
use Rattle.occam_layout.specs.Reading.{lines_of}
use Rattle.reason_texts.specs.Blocks.{Text}
use Rattle.program_walk.specs.Listings.{listed_line, listing_from, note_on}

-- the first lines of others, if some are wanted
pub taken-next : (count : ℕ) (left : ℕ) (before : ℕ) (lines : List (List ℕ)) (bytes : List ℕ) (rest : List (List ℕ))
    (notes : List Text) → lines ≡ bytes ∷ rest → count ≡ left + 1
    → listing_from before (take count lines) notes
    ≡ listed_line (before + 1) bytes (note_on notes before) ++ listing_from (before + 1) (take left rest) notes
unfolding listing_from
taken-next count left before lines bytes rest notes is_lines is_count = rw (is_lines, is_count, add-one) refl

-- no line is left
pub none-left : (count before : ℕ) (source : List ℕ) (notes : List Text) → length source ≡ 0
    → listing_from before (take count (lines_of source)) notes ≡ []
unfolding listing_from lines_of
none-left zero before [] notes none = refl
none-left (suc count) before [] notes none = refl
none-left count before (c ∷ rest) notes none = absurd (omega (arith, none))

-- no line is wanted
pub none-wanted : (count before : ℕ) (lines : List (List ℕ)) (notes : List Text) → count ≡ 0
    → listing_from before (take count lines) notes ≡ []
unfolding listing_from
none-wanted count before lines notes none = rw none refl
