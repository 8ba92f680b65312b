-- How often what is 0 is moved until all words of an array are.
use Rattle.std.proofs.Common.{◌≡◌, ℕ, zero, suc, ◌+◌, ◌-◌, ◌≤◌, ◌<◌, min, nat_lt, List, [], ◌++◌, refl}
use Rattle.std.proofs.Common.{sym}
use Rattle.std.proofs.Common.{ap, arith, if◌then◌else◌, ◌∙◌}
use Rattle.std.proofs.lemmas.List.{append_assoc}
use Rattle.std.proofs.lemmas.Bool.{lt-ltb, le-ltb}
use Rattle.code_pieces.specs.Pieces.{Piece, moves, word_after}
use Rattle.line_pieces.specs.Declarations.{spread}

-- all words are 0
pub spread_done : (f word count done : ℕ) → count ≤ done → spread f word count done ≡ []
spread_done zero word count done h = refl
spread_done (suc f) word count done h =
    ap (λ b. if b then moves (min done (count - done)) word (word_after word done)
    ++ spread f word count (done + min done (count - done)) else []) (le-ltb done count h)

-- Enough moves are enough.
pub spread_enough : (f g word count done : ℕ) → count ≤ done + f → count ≤ done + g → 1 ≤ done
    → spread f word count done ≡ spread g word count done
spread_enough zero g word count done a b c = sym (spread_done g word count done (omega arith))
spread_enough (suc f) zero word count done a b c = spread_done (suc f) word count done (omega arith)
spread_enough (suc f) (suc g) word count done a b c =
    ap (λ rest. if nat_lt done count then moves (min done (count - done)) word (word_after word done) ++ rest else [])
    (spread_enough f g word count (done + min done (count - done)) (omega arith) (omega arith) (omega arith))

-- one move more
pub spread_more : (word count done more : ℕ) (start before after : List Piece) → done < count → 1 ≤ done
    → more ≡ min done (count - done) → before ++ spread (count - done) word count done ≡ start
    → after ≡ before ++ moves more word (word_after word done)
    → after ++ spread (count - (done + more)) word count (done + more) ≡ start
spread_more word count done more start before after h some is b e =
    let m = min done (count - done) in
    let f = count - done - 1 in
    let left : count - done ≡ suc f = omega arith in
    let whole : spread (count - done) word count done
    ≡ moves more word (word_after word done) ++ spread f word count (done + more) =
    ap (λ n. spread n word count done) left
    ∙ ap (λ t. if t then moves m word (word_after word done) ++ spread f word count (done + m) else [])
    (lt-ltb done count h)
    ∙ ap (λ n. moves n word (word_after word done) ++ spread f word count (done + n)) (sym is) in
    let same : spread (count - (done + more)) word count (done + more) ≡ spread f word count (done + more) =
    spread_enough (count - (done + more)) f word count (done + more) (omega arith) (omega arith) (omega arith) in
    ap (λ x. after ++ x) same ∙ ap (λ a. a ++ spread f word count (done + more)) e
    ∙ append_assoc before (moves more word (word_after word done)) (spread f word count (done + more))
    ∙ ap (λ x. before ++ x) (sym whole) ∙ b
