-- The rows of a module without PARs say what their pieces say, and what implies them may go on there.
use Rattle.std.proofs.Common.{◌≡◌, ℕ, zero, suc, ◌+◌, ◌-◌, ◌*◌, ◌≤◌, ◌==◌, ◌&&◌, ◌||◌, ℤ, pos, ◌+ℤ◌, ◌≤ℤ◌, Bool}
use Rattle.std.proofs.Common.{true, false, cond, if◌then◌else◌, List, [], ◌∷◌, Option, Result, Ok, Err, inl, inr, refl}
use Rattle.std.proofs.Common.{sym, ap, subst, ◌∙◌, arith, int_le, int_lt}
use Rattle.std.specs.Prelude.{map, nat_lt, sum_by}
use Rattle.std.specs.List.{list_all}
use Rattle.std.proofs.lemmas.Bool.{le-ltb}
use Rattle.std.proofs.lemmas.Int.{ints}
use Rattle.std.proofs.lemmas.List.Sums.{sum_by-cons}
use Rattle.rulings.proofs.Words.{int_le_tells}
use Rattle.module_format.specs.Rows.{Fact, Entry}
use Rattle.module_format.specs.declared.fact.Fact.TheVariants.{Number, Loop}
use Rattle.module_format.specs.Contents.{Label}
use Rattle.module_format.specs.Stack.{of_empty}
use Rattle.module_builder.specs.Layouts.{places}
use Rattle.states.specs.declared.rule.Rule.{Rule}
use Rattle.states.specs.declared.rule.Rule.TheVariants as rules
use Rattle.states.specs.declared.known.Loop.{Loop as CountedLoop}
use Rattle.states.specs.declared.known.WordFact.{WordFact}
use Rattle.states.specs.declared.known.WordFact.TheVariants.{Alone, Index, Count}
use Rattle.states.specs.State.{Facts, unknown, said_of, is_about, is_same_number, entry_fact, is_alone, label_state}
use Rattle.states.specs.Below.{says, is_exactly, words_say, entries_hold, are_alike, is_whole}
use Rattle.states.specs.Below.{holds_constant, price, cost, agrees, below, view}
use Rattle.code_pieces.specs.declared.piece.RowEntry.{RowEntry}
use Rattle.code_pieces.specs.declared.piece.WordFact.{WordFact as RowFact}
use Rattle.code_pieces.specs.declared.piece.WordFact.TheVariants.{Between, Turning}
use Rattle.code_pieces.specs.Numbers.{Numbered, number_at}
use Rattle.code_pieces.specs.Pieces.{Piece}
use Rattle.code_pieces.specs.Laid.{needs_in}
use Rattle.code_pieces.specs.LaidModule.{Arrangement}
use Rattle.code_pieces.specs.Laying.{draft_code, said_fact}
use Rattle.placed_code.specs.SaidWords.{words_pass}
use Rattle.placed_code.specs.NumbersCover.{row_number, loop_weight}
use Rattle.placed_code.proofs.SaidWords.{words_are_said}
use Rattle.certified_lines.specs.StraightRules.{Told, state_of}
use Rattle.certified_modules.specs.RowsSay.{fact_said, entry_said, facts_said, IsSaid, Implies, loop_said}
use Rattle.certified_modules.specs.RowsSay.{IsEntered, Enters, block, other}
use Rattle.certified_modules.specs.RootRows.{root_setting, root_row, weights_of, RowsSayTheirPieces}
use Rattle.certified_modules.specs.RootRows.{ImpliedRowsAreBelow, EnteredRowsAreBelow}
use Rattle.certified_lines.proofs.Operands.{same_loop, same_word}
use Rattle.certified_modules.proofs.JoinedEntries.{words_in, all_said}

-- ---- what is said of a word

-- the first of two conditions holds, or the second one does
cond_or : (a b : Bool) (x y : WordFact) → cond (a || b) x y ≡ cond a x (cond b x y)
cond_or true b x y = refl
cond_or false b x y = refl

-- a number of a range is one of its first part, or of the second one
in_two_parts : (a b c k : ℤ) → a ≤ℤ b → b ≤ℤ c
    → (int_le a k && int_lt k c) ≡ ((int_le a k && int_lt k b) || (int_le b k && int_lt k c))
in_two_parts a b c k low high = elim (int_le_tells a k) [
  | inl from ↦ elim (int_le_tells b k) [
    | inl second ↦
        let past : int_lt k b ≡ false = grind (arith, ints) in
        rw (from.0, second.0, past) refl
    | inr first ↦
        let here : int_lt k b ≡ true = grind (arith, ints) in
        let within : int_lt k c ≡ true = grind (arith, ints) in
        rw (from.0, here, within) refl
  ]
  | inr before ↦
      let not_yet : int_le b k ≡ false = grind (arith, ints) in
      rw (before.0, not_yet) refl
]

-- what an entry says of a word, where others say this
abbrev fact_step : ℤ → Entry → WordFact → WordFact
fact_step k e others = if is_about e k then said_of e.fact (is_same_number e.word k) else others

fact_in_parts : (k : ℤ) (word s t : ℕ) (lo hi : ℤ) (x : WordFact)
    → fact_step k (words_in word (s + t) lo hi) x
    ≡ fact_step k (words_in word s lo hi) (fact_step k (words_in (word + s) t lo hi) x)
fact_in_parts k word s t lo hi x =
    let first : ℤ = pos word +ℤ pos s in
    let last : ℤ = pos (word + s) +ℤ pos t in
    let middle : pos (word + s) ≡ first = omega (arith, ints) in
    let end : pos word +ℤ pos (s + t) ≡ last = omega (arith, ints) in
    let whole : (int_le (pos word) k && int_lt k last)
    ≡ ((int_le (pos word) k && int_lt k first) || (int_le first k && int_lt k last)) =
    in_two_parts (pos word) first last k (omega (arith, ints)) (omega (arith, ints)) in
    let said : WordFact = Alone (Number lo hi) in
    ap (λ (z : ℤ). cond (int_le (pos word) k && int_lt k z) said x) end
    ∙ ap (λ (b : Bool). cond b said x) whole
    ∙ cond_or (int_le (pos word) k && int_lt k first) (int_le first k && int_lt k last) said x
    ∙ ap (λ (z : ℤ). cond (int_le (pos word) k && int_lt k first) said (cond (int_le z k && int_lt k last) said x))
    (sym middle)

-- ---- words of a row

-- what is known of a word says at least this of it
abbrev says_word : Facts → ℤ → Fact → Bool → Bool
says_word f word fact is_first = says (f word) (said_of fact is_first)

words_same : (f : Facts) (e : Entry) (n : ℕ) → words_say f e n ≡ words_pass (says_word f) e.word e.fact n
words_same f e zero = refl
words_same f e (suc n) =
    ap (λ (b : Bool). says (f (e.word +ℤ pos n)) (said_of e.fact (n == 0)) && b) (words_same f e n)

hold_by_words : (f : Facts) (es : List Entry)
    → entries_hold f es ≡ list_all (λ (e : Entry). words_pass (says_word f) e.word e.fact e.span) es
hold_by_words f [] = refl
hold_by_words f (e ∷ es) =
    ap (λ (b : Bool). b && entries_hold f es) (words_same f e e.span)
    ∙ ap (λ (b : Bool). words_pass (says_word f) e.word e.fact e.span && b) (hold_by_words f es)

range_said : (f : Facts) (word span n : ℕ) (lo hi : ℤ) → n ≤ span → IsSaid (λ head. 0) f word span (Between lo hi)
    → words_pass (says_word f) (pos word) (Number lo hi) n ≡ true
range_said f word span zero lo hi few is = refl
range_said f word span (suc n) lo hi few is =
    let at : pos word +ℤ pos n ≡ pos (word + n) = omega (arith, ints) in
    let here : says_word f (pos word +ℤ pos n) (Number lo hi) (n == 0) ≡ true =
    ap (λ (k : ℤ). says_word f k (Number lo hi) (n == 0)) at ∙ is n (omega (arith, few)) in
    ap (λ (b : Bool). b && words_pass (says_word f) (pos word) (Number lo hi) n) here
    ∙ range_said f word span n lo hi (omega (arith, few)) is

next_word : (word : ℕ) → pos word +ℤ pos 1 ≡ pos (word + 1)
next_word word = omega (arith, ints)

first_word : (word : ℕ) → pos word +ℤ pos 0 ≡ pos word
first_word word = omega (arith, ints)

-- the two words of a block
block_passes : (f : Facts) (word : ℕ) (loop : CountedLoop) (index count : WordFact) → f (pos word) ≡ index
    → f (pos (word + 1)) ≡ count → says index (Index loop) ≡ true → says count (Count loop) ≡ true
    → words_pass (says_word f) (pos word) (Loop loop.base loop.count loop.weight) 2 ≡ true
block_passes f word loop index count first second says_index says_count =
    let later : says (f (pos word +ℤ pos 1)) (Count loop) ≡ true =
    ap (λ (k : ℤ). says (f k) (Count loop)) (next_word word) ∙ ap (λ (w : WordFact). says w (Count loop)) second
    ∙ says_count in
    let before : says (f (pos word +ℤ pos 0)) (Index loop) ≡ true =
    ap (λ (k : ℤ). says (f k) (Index loop)) (first_word word) ∙ ap (λ (w : WordFact). says w (Index loop)) first
    ∙ says_index in
    ap (λ (b : Bool). b && (says (f (pos word +ℤ pos 0)) (Index loop) && true)) later
    ∙ ap (λ (b : Bool). b && true) before

module _ (W : List Numbered) (f : Facts) where
  abbrev numbers : ℕ → ℕ
  numbers head = number_at head W

  abbrev passes : RowEntry → Bool
  passes e = words_pass (says_word f) (pos e.word) (said_fact W e.fact) e.span

  said_passes : (word span : ℕ) (fact : RowFact) → IsSaid numbers f word span fact
      → words_pass (says_word f) (pos word) (said_fact W fact) span ≡ true
  said_passes word span (Between lo hi) is = range_said f word span span lo hi (omega arith) is
  said_passes word span (Turning head base count) is =
      let loop : CountedLoop = loop_said numbers head base count in
      ap (λ (n : ℕ). words_pass (says_word f) (pos word) (Loop base count (number_at head W)) n) is.0
      ∙ block_passes f word loop (Index loop) (Count loop) is.1 is.2 (same_loop loop) (same_loop loop)

  exactly : (k : ℤ) → is_exactly (Number k k) k ≡ true
  exactly k = rw (same_word k) refl

  entered_passes : (head count : ℕ) (e : RowEntry) → IsEntered f head count e → passes e ≡ true
  entered_passes head count e is =
      let loop : CountedLoop = loop_said numbers head is.base count in
      ap (λ (x : RowFact). words_pass (says_word f) (pos e.word) (said_fact W x) e.span) is.turns
      ∙ ap (λ (n : ℕ). words_pass (says_word f) (pos e.word) (Loop is.base count (number_at head W)) n) is.span
      ∙ block_passes f e.word loop (Alone (Number is.base is.base)) (Alone (Number (pos count) (pos count)))
      is.constants.0 is.constants.1 (exactly is.base) (exactly (pos count))

  implied_pass : (es : List RowEntry) → Implies numbers f es → list_all passes es ≡ true
  implied_pass [] all = refl
  implied_pass (e ∷ es) all =
      ap (λ (b : Bool). b && list_all passes es) (said_passes e.word e.span e.fact all.0) ∙ implied_pass es all.1

  entering_pass : (head count : ℕ) (es : List RowEntry) → Enters numbers f head count es → list_all passes es ≡ true
  entering_pass head count _ (block {e = e} {es = es} is all) =
      ap (λ (b : Bool). b && list_all passes es) (entered_passes head count e is) ∙ implied_pass es all
  entering_pass head count _ (other {e = e} {es = es} is enters) =
      ap (λ (b : Bool). b && list_all passes es) (said_passes e.word e.span e.fact is)
      ∙ entering_pass head count es enters

  -- ---- loops of a row

  abbrev whole : RowEntry → Bool
  whole e = is_whole f (entry_said numbers e)

  alike : (word : ℕ) (index count : WordFact) → f (pos word) ≡ index → f (pos (word + 1)) ≡ count
      → are_alike (is_alone (f (pos word))) (is_alone (f (pos word +ℤ pos 1)))
      ≡ are_alike (is_alone index) (is_alone count)
  alike word index count first second =
      ap (λ (k : ℤ). are_alike (is_alone (f (pos word))) (is_alone (f k))) (next_word word)
      ∙ ap (λ (w : WordFact). are_alike (is_alone w) (is_alone (f (pos (word + 1))))) first
      ∙ ap (λ (w : WordFact). are_alike (is_alone index) (is_alone w)) second

  said_whole : (word span : ℕ) (fact : RowFact) → IsSaid numbers f word span fact
      → is_whole f (record { word = pos word; span = span; fact = fact_said numbers fact }) ≡ true
  said_whole word span (Between lo hi) is = refl
  said_whole word span (Turning head base count) is =
      let loop : CountedLoop = loop_said numbers head base count in
      alike word (Index loop) (Count loop) is.1 is.2

  entered_whole : (head count : ℕ) (e : RowEntry) → IsEntered f head count e → whole e ≡ true
  entered_whole head count e is =
      ap (λ (x : RowFact). is_whole f (record { word = pos e.word; span = e.span; fact = fact_said numbers x }))
      is.turns
      ∙ alike e.word (Alone (Number is.base is.base)) (Alone (Number (pos count) (pos count)))
      is.constants.0 is.constants.1

  implied_whole : (es : List RowEntry) → Implies numbers f es
      → list_all (is_whole f) (map (entry_said numbers) es) ≡ true
  implied_whole [] all = refl
  implied_whole (e ∷ es) all =
      ap (λ (b : Bool). b && list_all (is_whole f) (map (entry_said numbers) es))
      (said_whole e.word e.span e.fact all.0)
      ∙ implied_whole es all.1

  entering_whole : (head count : ℕ) (es : List RowEntry) → Enters numbers f head count es
      → list_all (is_whole f) (map (entry_said numbers) es) ≡ true
  entering_whole head count _ (block {e = e} {es = es} is all) =
      ap (λ (b : Bool). b && list_all (is_whole f) (map (entry_said numbers) es)) (entered_whole head count e is)
      ∙ implied_whole es all
  entering_whole head count _ (other {e = e} {es = es} is enters) =
      ap (λ (b : Bool). b && list_all (is_whole f) (map (entry_said numbers) es))
      (said_whole e.word e.span e.fact is)
      ∙ entering_whole head count es enters

  -- ---- prices

  price_by : (word : ℕ) (base : ℤ) (count weight : ℕ) (index turns : WordFact) → f (pos word) ≡ index
      → f (pos (word + 1)) ≡ turns
      → price f (record { word = pos word; span = 2; fact = Loop base count weight })
      ≡ (if holds_constant index base && holds_constant turns (pos count) then weight * (count - 1) else 0)
  price_by word base count weight index turns first second =
      ap (λ (k : ℤ). cond (holds_constant (f (pos word)) base && holds_constant (f k) (pos count))
      (weight * (count - 1)) 0) (next_word word)
      ∙ ap (λ (w : WordFact). cond (holds_constant w base && holds_constant (f (pos (word + 1))) (pos count))
      (weight * (count - 1)) 0) first
      ∙ ap (λ (w : WordFact). cond (holds_constant index base && holds_constant w (pos count))
      (weight * (count - 1)) 0) second

  said_free : (word span : ℕ) (fact : RowFact) → IsSaid numbers f word span fact
      → price f (record { word = pos word; span = span; fact = fact_said numbers fact }) ≡ 0
  said_free word span (Between lo hi) is = refl
  said_free word span (Turning head base count) is =
      let loop : CountedLoop = loop_said numbers head base count in
      price_by word base count (number_at head W) (Index loop) (Count loop) is.1 is.2

  entered_price : (head count : ℕ) (e : RowEntry) → IsEntered f head count e
      → price f (entry_said numbers e) ≡ number_at head W * (count - 1)
  entered_price head count e is =
      let weight : ℕ = number_at head W in
      ap (λ (x : RowFact). price f (record { word = pos e.word; span = e.span; fact = fact_said numbers x })) is.turns
      ∙ price_by e.word is.base count weight (Alone (Number is.base is.base))
      (Alone (Number (pos count) (pos count))) is.constants.0 is.constants.1
      ∙ ap (λ (b : Bool). cond (b && is_exactly (Number (pos count) (pos count)) (pos count)) (weight * (count - 1)) 0)
      (exactly is.base)
      ∙ ap (λ (b : Bool). cond b (weight * (count - 1)) 0) (exactly (pos count))

  implied_free : (es : List RowEntry) → Implies numbers f es → sum_by (price f) (map (entry_said numbers) es) ≡ 0
  implied_free [] all = refl
  implied_free (e ∷ es) all =
      let first = sum_by-cons (price f) (entry_said numbers e) (map (entry_said numbers) es) in
      let here = said_free e.word e.span e.fact all.0 in
      let rest = implied_free es all.1 in
      omega (arith, first, here, rest)

  entering_price : (head count : ℕ) (es : List RowEntry) → Enters numbers f head count es
      → sum_by (price f) (map (entry_said numbers) es) ≡ number_at head W * (count - 1)
  entering_price head count _ (block {e = e} {es = es} is all) =
      let first = sum_by-cons (price f) (entry_said numbers e) (map (entry_said numbers) es) in
      let here = entered_price head count e is in
      let rest = implied_free es all in
      first ∙ ap (λ (n : ℕ). price f (entry_said numbers e) + n) rest ∙ omega arith ∙ here
  entering_price head count _ (other {e = e} {es = es} is enters) =
      let first = sum_by-cons (price f) (entry_said numbers e) (map (entry_said numbers) es) in
      let here = said_free e.word e.span e.fact is in
      let rest = entering_price head count es enters in
      first ∙ ap (λ (n : ℕ). n + sum_by (price f) (map (entry_said numbers) es)) here ∙ omega arith ∙ rest

-- ---- rows of the root

-- it costs what it costs, if that can be paid and the row knows no more
by_cost : (number total : ℕ) (agreed : Bool) → total ≤ number → agreed ≡ true
    → ◌≡◌ {A = Result ℕ Rule}
    (if nat_lt number total then Err rules.Budget else if agreed then Ok total else Err rules.Label) (Ok total)
by_cost number total agreed enough is =
    ap (λ (b : Bool). cond b (Err rules.Budget) (cond agreed (Ok total) (Err rules.Label))) (le-ltb number total enough)
    ∙ ap (λ (b : Bool). cond b (Ok total) (Err rules.Label)) is

module _ (ps : List Piece) (labels : ℕ) (links : List ℕ) (a : Arrangement) (l : ℕ) (entries : List RowEntry) where
  abbrev weights : List Numbered
  weights = (needs_in ps a.lengths).weights

  abbrev offsets : List (Option ℕ)
  offsets = places (draft_code ps labels) a.lengths

  abbrev row : Label
  row = root_row ps labels a l entries

  row_says : label_state row
      ≡ state_of (root_setting ps labels links a)
      (record { stack = of_empty unknown; frame = facts_said (weights_of ps a.lengths) entries })
      (row_number ps a.lengths l)
  row_says =
      let same : entry_fact row.entries ≡ facts_said (weights_of ps a.lengths) entries =
      λ i. λ k. all_said WordFact (fact_step k) (λ (es : List Entry). entry_fact es k) (λ e es. refl)
      (fact_in_parts k) offsets weights entries i in
      ap (λ (f : Facts). state_of (root_setting ps labels links a) (record { stack = of_empty unknown; frame = f })
      (row_number ps a.lengths l)) same

  module _ (s : Told) (number : ℕ) where
    row_below : (extra : ℕ)
        → list_all (λ (e : RowEntry). words_pass (says_word s.frame) (pos e.word) (said_fact weights e.fact) e.span)
        entries ≡ true
        → list_all (is_whole s.frame) (map (entry_said (weights_of ps a.lengths)) entries) ≡ true
        → sum_by (price s.frame) (map (entry_said (weights_of ps a.lengths)) entries) ≡ extra
        → row_number ps a.lengths l + extra ≤ number
        → below (state_of (root_setting ps labels links a) s number) row ≡ Ok (row_number ps a.lengths l + extra)
    unfolding below
    row_below extra pass entire sum_is enough =
        let f : Facts = s.frame in
        let v = view (state_of (root_setting ps labels links a) s number) in
        let words : entries_hold f row.entries ≡ true =
        hold_by_words f row.entries
        ∙ words_are_said (says_word f) offsets weights entries (λ word lo hi a b. refl) ∙ pass in
        let blocks : list_all (is_whole f) row.entries ≡ true =
        all_said Bool (λ (e : Entry) (b : Bool). is_whole f e && b) (λ (es : List Entry). list_all (is_whole f) es)
        (λ e es. refl) (λ word s t lo hi x. refl) offsets weights entries ∙ entire in
        let prices : sum_by (price f) row.entries ≡ extra =
        all_said ℕ (λ (e : Entry) (n : ℕ). price f e + n) (λ (es : List Entry). sum_by (price f) es)
        (λ e es. sum_by-cons (price f) e es) (λ word s t lo hi x. omega arith) offsets weights entries ∙ sum_is in
        let total : cost v row ≡ row_number ps a.lengths l + extra =
        ap (λ (n : ℕ). row_number ps a.lengths l + n) prices in
        let agreed : agrees v row ≡ true =
        ap (λ (b : Bool). b && list_all (is_whole f) row.entries) words ∙ blocks in
        by_cost number (cost v row) (agrees v row) (subst (λ (n : ℕ). n ≤ number) (sym total) enough) agreed
        ∙ ap (λ (n : ℕ). Ok n) total

pub rows_say_their_pieces : RowsSayTheirPieces
rows_say_their_pieces = row_says

pub implied_rows_are_below : ImpliedRowsAreBelow
implied_rows_are_below ps labels links a l entries s number implied enough =
    let W : List Numbered = (needs_in ps a.lengths).weights in
    let free : row_number ps a.lengths l + 0 ≡ row_number ps a.lengths l = omega arith in
    row_below ps labels links a l entries s number 0 (implied_pass W s.frame entries implied)
    (implied_whole W s.frame entries implied) (implied_free W s.frame entries implied) (omega (arith, enough))
    ∙ ap (λ (n : ℕ). Ok n) free

pub entered_rows_are_below : EnteredRowsAreBelow
entered_rows_are_below ps labels links a head count entries s number enters enough =
    let W : List Numbered = (needs_in ps a.lengths).weights in
    row_below ps labels links a head entries s number (loop_weight ps a.lengths head * (count - 1))
    (entering_pass W s.frame head count entries enters) (entering_whole W s.frame head count entries enters)
    (entering_price W s.frame head count entries enters) enough
