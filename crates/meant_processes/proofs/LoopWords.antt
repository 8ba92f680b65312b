-- What counting a turn makes of the two words of a loop's block.
use Rattle.std.proofs.Common.{◌≡◌, ℕ, ◌+◌, ◌-◌, ◌%◌, ◌^◌, ◌<◌, ◌≤◌, ℤ, pos, ◌+ℤ◌, FitsSigned, Bool, true, false}
use Rattle.std.proofs.Common.{cond, Option, Some, ap, ◌∙◌, arith}
use Rattle.std.specs.Prelude.{int_lt, unwrap_or}
use Rattle.std.specs.Int.{w32, int_wrap}
use Rattle.std.proofs.lemmas.Int.{ints, to_z-of_z, wrapping_add_onto, int_wrap_fits}
use Rattle.machine_state.specs.LocalStep.{address, word_of}
use Rattle.machine_state.specs.Memory.{Memory, local_address, place_of, with_word, word_at}
use Rattle.plain_machine.specs.PlainStep.{with_plain_word, with_turn}
use Rattle.placed_code.specs.StraightPieces.{word_address, word_place}
use Rattle.placed_code.specs.Points.{count_in, index_in}
use Rattle.meant_lines.specs.Words.{Holds, IsInFrame, with_frame_word}
use Rattle.meant_lines.proofs.Words.{elements_have_addresses}
use Rattle.meant_lines.proofs.Words.{words_have_places}
use Rattle.meant_processes.proofs.Loops.{counted_turn, goes_back}

-- a count that is one less
one_less : (t : ℕ) → 1 ≤ t → t < 2 ^ 31 → word_of ((address (pos t) + (2 ^ 32 - 1)) % 2 ^ 32) ≡ pos (t - 1)
one_less t some low = omega (arith, ints)

-- an index that is one more
one_more : (z : ℤ) → FitsSigned w32 z → FitsSigned w32 (z +ℤ pos 1)
    → word_of ((address z + 1) % 2 ^ 32) ≡ z +ℤ pos 1
one_more z fits more =
    wrapping_add_onto w32 (address z) (pos 1) (omega (arith, ints)) (omega (arith, ints))
    ∙ (ap (λ (y : ℤ). int_wrap w32 (y +ℤ pos 1)) (to_z-of_z w32 z fits) ∙ int_wrap_fits w32 (z +ℤ pos 1) more)

pub more_than_one : (n : ℕ) → 2 ≤ n → int_lt (pos 1) (pos n) ≡ true
more_than_one n some = grind (arith, ints, some)

pub not_more : int_lt (pos 1) (pos 1) ≡ false
not_more = grind (arith, ints)

module _ (w n : ℕ) (v : ℤ) (m : Memory) (few : IsInFrame (w + 1)) (index : Holds m w v) (count : Holds m (w + 1) (pos n))
  where
    first_few : IsInFrame w
    first_few = omega (arith, few)

    second_place : place_of (local_address (word_address w) (pos 1)) ≡ word_place (w + 1)
    second_place = ap place_of (elements_have_addresses w 1 few) ∙ words_have_places (w + 1) few

    index_is : index_in m (word_address w) ≡ v
    index_is = ap (λ (o : Option ℤ). unwrap_or o (pos 0)) (ap (word_at m) (words_have_places w first_few) ∙ index)

    pub count_is : count_in m (word_address w) ≡ pos n
    count_is = ap (λ (o : Option ℤ). unwrap_or o (pos 0)) (ap (word_at m) second_place ∙ count)

    pub back_is : goes_back w m ≡ int_lt (pos 1) (pos n)
    back_is = ap (int_lt (pos 1)) count_is

    -- the count is one less
    less_is : 1 ≤ n → n < 2 ^ 31
        → with_plain_word (local_address (word_address w) (pos 1)) (word_of ((address (pos n) + (2 ^ 32 - 1)) % 2 ^ 32)) m
        ≡ with_frame_word (w + 1) (pos (n - 1)) m
    less_is some low =
        ap (λ (place : ℕ). with_word m place (Some (word_of ((address (pos n) + (2 ^ 32 - 1)) % 2 ^ 32)))) second_place
        ∙ ap (λ (x : ℤ). with_word m (word_place (w + 1)) (Some x)) (one_less n some low)

    more_is : (k : Memory) → FitsSigned w32 v → FitsSigned w32 (v +ℤ pos 1)
        → with_plain_word (word_address w) (word_of ((address v + 1) % 2 ^ 32)) k ≡ with_frame_word w (v +ℤ pos 1) k
    more_is k fits next =
        ap (λ (place : ℕ). with_word k place (Some (word_of ((address v + 1) % 2 ^ 32)))) (words_have_places w first_few)
        ∙ ap (λ (x : ℤ). with_word k (word_place w) (Some x)) (one_more v fits next)

    pub turned_once : 2 ≤ n → n < 2 ^ 31 → FitsSigned w32 v → FitsSigned w32 (v +ℤ pos 1)
        → counted_turn w m ≡ with_frame_word w (v +ℤ pos 1) (with_frame_word (w + 1) (pos (n - 1)) m)
    turned_once some low fits next =
        ap (λ (x : ℤ). with_turn (word_address w) x (count_in m (word_address w)) m) index_is
        ∙ ap (λ (x : ℤ). with_turn (word_address w) v x m) count_is
        ∙ ap (λ (b : Bool).
        cond b
        (with_plain_word (word_address w) (word_of ((address v + 1) % 2 ^ 32))
        (with_plain_word (local_address (word_address w) (pos 1)) (word_of ((address (pos n) + (2 ^ 32 - 1)) % 2 ^ 32)) m))
        (with_plain_word (local_address (word_address w) (pos 1)) (word_of ((address (pos n) + (2 ^ 32 - 1)) % 2 ^ 32)) m))
        (more_than_one n some)
        ∙ ap (with_plain_word (word_address w) (word_of ((address v + 1) % 2 ^ 32))) (less_is (omega (arith, some)) low)
        ∙ more_is (with_frame_word (w + 1) (pos (n - 1)) m) fits next

    pub turned_last : n ≡ 1 → counted_turn w m ≡ with_frame_word (w + 1) (pos 0) m
    turned_last last =
        let one = count_is ∙ ap pos last in
        ap (λ (x : ℤ). with_turn (word_address w) (index_in m (word_address w)) x m) one
        ∙ ap (λ (b : Bool).
        cond b
        (with_plain_word (word_address w) (word_of ((address (index_in m (word_address w)) + 1) % 2 ^ 32))
        (with_plain_word (local_address (word_address w) (pos 1)) (word_of ((address (pos 1) + (2 ^ 32 - 1)) % 2 ^ 32)) m))
        (with_plain_word (local_address (word_address w) (pos 1)) (word_of ((address (pos 1) + (2 ^ 32 - 1)) % 2 ^ 32)) m))
        not_more
        ∙ ap (λ (place : ℕ). with_word m place (Some (word_of ((address (pos 1) + (2 ^ 32 - 1)) % 2 ^ 32)))) second_place
        ∙ ap (λ (x : ℤ). with_word m (word_place (w + 1)) (Some x)) (one_less 1 (omega arith) (omega arith))
