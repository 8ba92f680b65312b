-- The words of declared variables are set to 0.
use Rattle.std.proofs.Common.{◌≡◌, ℕ, zero, suc, ◌+◌, ◌-◌, ◌*◌, ◌<◌, ◌≤◌, ◌⊎◌, inl, inr, min, nat_lt, pos}
use Rattle.std.proofs.Common.{Bool, true, false, cond, List, [], ◌∷◌, ◌++◌, length, Some, refl, sym, ap, subst}
use Rattle.std.proofs.Common.{◌∙◌, arith}
use Rattle.std.proofs.lemmas.Bool.{cases_lt, ltb-true, ltb-false}
use Rattle.machine_state.specs.LocalStep.{copied}
use Rattle.machine_state.specs.Memory.{Memory, byte_at, with_byte, with_word}
use Rattle.machine_state.proofs.Reading.{byte_at-with_byte, byte_at-with_byte_other, length-with_byte}
use Rattle.machine_state.proofs.Copying.{copied-beside}
use Rattle.code_pieces.specs.Pieces.{Piece, constant, stores, moves, word_after}
use Rattle.line_pieces.specs.Declarations.{spread}
use Rattle.placed_code.specs.StraightPieces.{Held, done, with_pushed, word_place}
use Rattle.placed_code.proofs.StraightPieces.{lead_both}
use Rattle.meant_lines.specs.Words.{IsInFrame, with_frame_word}
use Rattle.meant_lines.specs.Instructions.{with_memory, without_a}
use Rattle.meant_lines.specs.Carrying.{Ground, HasFrame}
use Rattle.meant_lines.specs.Zeroing.{AreZero, Zeroed, ScalarsAreZeroed, ArraysAreZeroed}
use Rattle.meant_lines.proofs.Words.{all_alike, changes_both, changes_writing, changes_copied}
use Rattle.meant_lines.proofs.Instructions.{constants_are_pushed, words_are_stored, words_are_moved}
use Rattle.meant_lines.proofs.Carrying.{frame_stays}
use Rattle.meant_lines.proofs.Pushing.{word_is}

-- ---- bytes

-- what is copied to a byte
copied_there : (from : Memory) (source to n i : ℕ) (m : Memory) → i < n → to + n ≤ length m
    → byte_at (copied from source to n m) (to + i) ≡ byte_at from (source + i)
unfolding copied
copied_there from source to zero i m less inside = absurd (omega (arith, less))
copied_there from source to (suc n) zero m less inside =
    let at : to + 0 ≡ to = omega arith in
    let back : source ≡ source + 0 = omega arith in
    ap (byte_at (copied from (source + 1) (to + 1) n (with_byte m to (byte_at from source)))) at
    ∙ copied-beside from (source + 1) (to + 1) n (with_byte m to (byte_at from source)) to (inl (omega arith))
    ∙ byte_at-with_byte m to (byte_at from source) (omega (arith, inside)) ∙ ap (byte_at from) back
copied_there from source to (suc n) (suc i) m less inside =
    let size = length-with_byte m to (byte_at from source) in
    let rest = copied_there from (source + 1) (to + 1) n i (with_byte m to (byte_at from source))
    (omega (arith, less)) (omega (arith, inside, size)) in
    let at : to + suc i ≡ to + 1 + i = omega arith in
    let back : source + 1 + i ≡ source + suc i = omega arith in
    ap (byte_at (copied (from) (source + 1) (to + 1) n (with_byte m to (byte_at from source)))) at ∙ rest
    ∙ ap (byte_at from) back

-- each byte of a word that is 0
zero_byte : (m : Memory) (place i : ℕ) → i < 4 → place + 4 ≤ length m
    → byte_at (with_word m place (Some (pos 0))) (place + i) ≡ Some 0
unfolding with_word
zero_byte m place i less inside = by i less
  where
    one : Memory
    one = with_byte m place (Some 0)

    two : Memory
    two = with_byte one (place + 1) (Some 0)

    three : Memory
    three = with_byte two (place + 2) (Some 0)

    size_one : length one ≡ length m
    size_one = length-with_byte m place (Some 0)

    size_two : length two ≡ length m
    size_two = length-with_byte one (place + 1) (Some 0) ∙ size_one

    size_three : length three ≡ length m
    size_three = length-with_byte two (place + 2) (Some 0) ∙ size_two

    by : (i : ℕ) → i < 4 → byte_at (with_byte three (place + 3) (Some 0)) (place + i) ≡ Some 0
    by zero less =
        let at : place + 0 ≡ place = omega arith in
        ap (byte_at (with_byte three (place + 3) (Some 0))) at
        ∙ byte_at-with_byte_other three (place + 3) place (Some 0) (omega arith)
        ∙ byte_at-with_byte_other two (place + 2) place (Some 0) (omega arith)
        ∙ byte_at-with_byte_other one (place + 1) place (Some 0) (omega arith)
        ∙ byte_at-with_byte m place (Some 0) (omega (arith, inside))
    by (suc zero) less =
        byte_at-with_byte_other three (place + 3) (place + 1) (Some 0) (omega arith)
        ∙ byte_at-with_byte_other two (place + 2) (place + 1) (Some 0) (omega arith)
        ∙ byte_at-with_byte one (place + 1) (Some 0) (omega (arith, inside, size_one))
    by (suc (suc zero)) less =
        byte_at-with_byte_other three (place + 3) (place + 2) (Some 0) (omega arith)
        ∙ byte_at-with_byte two (place + 2) (Some 0) (omega (arith, inside, size_two))
    by (suc (suc (suc zero))) less = byte_at-with_byte three (place + 3) (Some 0) (omega (arith, inside, size_three))
    by (suc (suc (suc (suc i)))) less = absurd (omega (arith, less))

word_zero : (m : Memory) (word : ℕ) → word_place word + 4 ≤ length m → AreZero (with_frame_word word (pos 0) m) word 1
word_zero m word inside = λ place low high.
    let at : word_place word + (place - word_place word) ≡ place = omega (arith, low) in
    subst (λ (p : ℕ). byte_at (with_word m (word_place word) (Some (pos 0))) p ≡ Some 0) at
    (zero_byte m (word_place word) (place - word_place word) (omega (arith, low, high)) inside)

-- ---- scalars

pub scalars_are_zeroed : ScalarsAreZeroed
scalars_are_zeroed g word h frame less =
    let inside : IsInFrame word = omega (arith, less, frame.few) in
    let k : Held = with_pushed (pos 0) h in
    record {
      after = with_memory (with_frame_word word (pos 0) h.memory) (without_a k);
      leads = lead_both (constants_are_pushed g.footing (pos 0) h)
          (words_are_stored g.footing word k frame.workspace inside);
      zeros = word_zero h.memory word (omega (arith, less, frame.inside));
      changes = changes_writing word g.words word h.memory (pos 0) (omega arith) less;
    }

-- ---- arrays

-- where what is 0 is copied behind itself, more is 0
more_zero : (m : Memory) (word count more : ℕ) → more ≤ count → word_place (word + count + more) ≤ length m
    → AreZero m word count
    → AreZero (copied m (word_place word) (word_place (word + count)) (4 * more) m) word (count + more)
more_zero m word count more fewer inside blank =
    λ place low high. by place low high (cases_lt place (word_place (word + count)))
  where
    by : (place : ℕ) → word_place word ≤ place → place < word_place (word + (count + more))
        → (place < word_place (word + count)) ⊎ (word_place (word + count) ≤ place)
        → byte_at (copied m (word_place word) (word_place (word + count)) (4 * more) m) place ≡ Some 0
    by place low high (inl below) =
        copied-beside m (word_place word) (word_place (word + count)) (4 * more) m place (inl below)
        ∙ blank place low below
    by place low high (inr above) =
        let i : ℕ = place - word_place (word + count) in
        let at : word_place (word + count) + i ≡ place = omega (arith, above) in
        subst (λ (p : ℕ). byte_at (copied m (word_place word) (word_place (word + count)) (4 * more) m) p ≡ Some 0) at
        (copied_there m (word_place word) (word_place (word + count)) (4 * more) i m (omega (arith, high, above))
        (omega (arith, inside))
        ∙ blank (word_place word + i) (omega arith) (omega (arith, high, above, fewer)))

-- one move
moved : (g : Ground) (word count more : ℕ) (h : Held) → HasFrame g h.memory → more ≤ count
    → word + count + more ≤ g.words → 1 ≤ more → AreZero h.memory word count
    → Zeroed g (moves more word (word_after word count)) word (count + more) h
moved g word count more h frame fewer room some blank =
    let inside : IsInFrame (word + count) = omega (arith, room, some, frame.few) in
    let whole : word_after word count ≡ word + count = word_is word count inside in
    subst (λ (to : ℕ). Zeroed g (moves more word to) word (count + more) h) (sym whole)
    (record {
      after = record {
        stack = _;
        memory = copied h.memory (word_place word) (word_place (word + count)) (4 * more) h.memory;
      };
      leads = words_are_moved g.footing more word (word + count) h frame.workspace (omega (arith, room, frame.few))
          (omega (arith, room, some, frame.few)) inside;
      zeros = more_zero h.memory word count more fewer (omega (arith, room, frame.inside)) blank;
      changes = changes_copied word g.words (word_place word) (word_place (word + count)) (4 * more) h.memory
          (omega arith) (omega (arith, room));
    })

zeroed_both : (g : Ground) (ps qs : List Piece) (word some all : ℕ) (h : Held) (first : Zeroed g ps word some h)
    → Zeroed g qs word all first.after → Zeroed g (ps ++ qs) word all h
zeroed_both g ps qs word some all h first second = record {
  after = second.after;
  leads = lead_both first.leads second.leads;
  zeros = second.zeros;
  changes = changes_both first.changes second.changes;
}

none_left : (g : Ground) (word count have : ℕ) (h : Held) → count ≡ have → AreZero h.memory word have
    → Zeroed g [] word count h
none_left g word count have h same blank = record {
  after = h;
  leads = done;
  zeros = subst (AreZero h.memory word) (sym same) blank;
  changes = all_alike word g.words h.memory;
}

-- what the moves that are left do
abbrev SpreadsZero : Ground → (word count more : ℕ) → Type 0
SpreadsZero g word count more = (have : ℕ) (h : Held) → HasFrame g h.memory → 1 ≤ have → have ≤ count
    → count ≤ have + more → AreZero h.memory word have → Zeroed g (spread more word count have) word count h

spread_by : (t : Bool) (more : ℕ) (g : Ground) (word count have : ℕ) (h : Held) → nat_lt have count ≡ t
    → HasFrame g h.memory → word + count < g.words → 1 ≤ have → have ≤ count → count ≤ have + suc more
    → AreZero h.memory word have → SpreadsZero g word count more
    → Zeroed g (cond t (moves (min have (count - have)) word (word_after word have)
    ++ spread more word count (have + min have (count - have))) []) word count h
spread_by false more g word count have h test frame room some fewer enough blank further =
    let over = ltb-false have count test in
    none_left g word count have h (omega (arith, fewer, over)) blank
spread_by true more g word count have h test frame room some fewer enough blank further =
    let less = ltb-true have count test in
    let next : ℕ = min have (count - have) in
    let first = moved g word have next h frame (omega arith) (omega (arith, room, less)) (omega (arith, some, less))
    blank in
    zeroed_both g (moves next word (word_after word have)) (spread more word count (have + next)) word (have + next)
    count h first
    (further (have + next) first.after (frame_stays first.changes g (omega arith) frame) (omega (arith, some))
    (omega (arith, less)) (omega (arith, some, less, enough)) first.zeros)

spread_zero : (more : ℕ) (g : Ground) (word count : ℕ) → word + count < g.words → SpreadsZero g word count more
spread_zero zero g word count room = λ have h frame some fewer enough blank.
    none_left g word count have h (omega (arith, fewer, enough)) blank
spread_zero (suc more) g word count room = λ have h frame some fewer enough blank.
    spread_by (nat_lt have count) more g word count have h refl frame room some fewer enough blank
    (spread_zero more g word count room)

-- the first word, by way of the word after the array
first_zeroed : (g : Ground) (word count : ℕ) (h : Held) → HasFrame g h.memory → 1 ≤ count → word + count < g.words
    → Zeroed g (constant (pos 0) ∷ stores (word + count) ∷ moves 1 (word + count) word) word 1 h
first_zeroed g word count h frame some room =
    let inside : IsInFrame (word + count) = omega (arith, room, frame.few) in
    let k : Held = with_pushed (pos 0) h in
    let m : Memory = with_frame_word (word + count) (pos 0) h.memory in
    let stored : Held = with_memory m (without_a k) in
    let writes = changes_writing word g.words (word + count) h.memory (pos 0) (omega arith) room in
    let size = writes.size in
    let blank : AreZero (copied m (word_place (word + count)) (word_place word) 4 m) word 1 = λ place low high.
    let at : word_place word + (place - word_place word) ≡ place = omega (arith, low) in
    subst (λ (p : ℕ). byte_at (copied m (word_place (word + count)) (word_place word) 4 m) p ≡ Some 0) at
    (copied_there m (word_place (word + count)) (word_place word) 4 (place - word_place word) m
    (omega (arith, low, high)) (omega (arith, size, room, frame.inside))
    ∙ zero_byte h.memory (word_place (word + count)) (place - word_place word) (omega (arith, low, high))
    (omega (arith, room, frame.inside))) in
    record {
      after = record {
        stack = _;
        memory = copied m (word_place (word + count)) (word_place word) 4 m;
      };
      leads = lead_both (constants_are_pushed g.footing (pos 0) h)
          (lead_both (words_are_stored g.footing (word + count) k frame.workspace inside)
          (words_are_moved g.footing 1 (word + count) word stored frame.workspace (omega arith) inside
          (omega (arith, room, frame.few))));
      zeros = blank;
      changes = changes_both writes (changes_copied word g.words (word_place (word + count)) (word_place word) 4 m
          (omega arith) (omega (arith, room)));
    }

pub arrays_are_zeroed : ArraysAreZeroed
arrays_are_zeroed g word count h frame some room =
    let whole : word_after word count ≡ word + count = word_is word count (omega (arith, room, frame.few)) in
    let first : Zeroed g (constant (pos 0) ∷ stores (word_after word count) ∷ moves 1 (word_after word count) word)
    word 1 h = subst (λ (w : ℕ). Zeroed g (constant (pos 0) ∷ stores w ∷ moves 1 w word) word 1 h) (sym whole)
    (first_zeroed g word count h frame some room) in
    zeroed_both g (constant (pos 0) ∷ stores (word_after word count) ∷ moves 1 (word_after word count) word)
    (spread (count - 1) word count 1) word 1 count h first
    (spread_zero (count - 1) g word count room 1 first.after (frame_stays first.changes g (omega arith) frame)
    (omega arith) some (omega arith) first.zeros)
