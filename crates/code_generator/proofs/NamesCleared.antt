-- Names of one line that are set to 0 one after the other, and code that is too much before all of them are.
use Rattle.std.proofs.Common.{◌≡◌, ℕ, ◌+◌, ◌<◌, ◌≤◌, List, [], ◌++◌, length, map, drop, Option, Bor}
use Rattle.std.proofs.Common.{refl, sym, ap, ◌∙◌}
use Rattle.std.proofs.lemmas.List.{append_assoc, append-nil, at_drop_more, at_drop_all}
use Rattle.occam_parser.specs.Expressions.{Expression}
use Rattle.occam_parser.specs.LineViews.{spelling_of}
use Rattle.code_pieces.specs.Pieces.{Piece, word_after}
use Rattle.line_pieces.specs.Declarations.{zero_code, zero_names}
use Rattle.code_generator.specs.declared.limits.Limits.{Limits}
use Rattle.code_generator.specs.Written.{IsTooMuch}
use Rattle.code_generator.proofs.Exceeding.{much_left}

abbrev pub Names : Type 0
Names = List (Bor (List ℕ))

nobody : Bor (List ℕ)
nobody = record { ref_ptr = (0, 0); now = [] }

pub zeros_next : (size : Option Expression) (count : ℕ) (names : Names) (i next further : ℕ)
    (start before after : List Piece) → i < length names
    → before ++ zero_names size count (map spelling_of (drop i names)) next ≡ start
    → after ≡ before ++ zero_code size next count → further ≡ word_after next count
    → after ++ zero_names size count (map spelling_of (drop (i + 1) names)) further ≡ start
zeros_next size count names i next further start before after h b a f =
    let step : zero_names size count (map spelling_of (drop i names)) next
    ≡ zero_code size next count
    ++ zero_names size count (map spelling_of (drop (i + 1) names)) (word_after next count) =
    at_drop_more (λ (ns : Names). zero_names size count (map spelling_of ns) next) names i nobody h in
    (λ j. a j ++ zero_names size count (map spelling_of (drop (i + 1) names)) (f j))
    ∙ append_assoc before (zero_code size next count)
    (zero_names size count (map spelling_of (drop (i + 1) names)) (word_after next count))
    ∙ ap (λ x. before ++ x) (sym step) ∙ b

pub zeros_done : (size : Option Expression) (count : ℕ) (names : Names) (i next : ℕ) (start after : List Piece)
    → length names ≤ i → after ++ zero_names size count (map spelling_of (drop i names)) next ≡ start → after ≡ start
zeros_done size count names i next start after h a =
    let none : zero_names size count (map spelling_of (drop i names)) next ≡ [] =
    at_drop_all (λ (ns : Names). zero_names size count (map spelling_of ns) next) names i h in
    sym (ap (λ x. after ++ x) none ∙ append-nil after) ∙ a

-- the first name, and the others
pub zeros_whole : (size : Option Expression) (count : ℕ) (items others : Names) (word next : ℕ)
    (old mid : List Piece) → mid ≡ old ++ zero_code size word count → items ≡ others → next ≡ word_after word count
    → mid ++ zero_names size count (map spelling_of items) next
    ≡ old ++ (zero_code size word count ++ zero_names size count (map spelling_of others) (word_after word count))
zeros_whole size count items others word next old mid m is n =
    (λ i. m i ++ zero_names size count (map spelling_of (is i)) (n i))
    ∙ append_assoc old (zero_code size word count)
    (zero_names size count (map spelling_of others) (word_after word count))

-- one name is too much, and so are all of them
pub zeros_exceed : (l : Limits) (size : Option Expression) (count : ℕ) (names : Names) (i next : ℕ)
    (old whole before : List Piece) → i < length names
    → before ++ zero_names size count (map spelling_of (drop i names)) next ≡ old ++ whole
    → IsTooMuch l before (zero_code size next count) → IsTooMuch l old whole
zeros_exceed l size count names i next old whole before h b much =
    much_left l (before ++ zero_code size next count)
    (zero_names size count (map spelling_of (drop (i + 1) names)) (word_after next count)) (old ++ whole)
    (zeros_next size count names i next (word_after next count) (old ++ whole) before
    (before ++ zero_code size next count) h b refl refl) much
