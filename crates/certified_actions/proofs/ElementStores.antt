-- What the code leaves known that stores a number in an element.
use Rattle.std.proofs.Common.{◌≡◌, ℕ, suc, ◌+◌, ◌*◌, ◌-◌, ◌<◌, ◌≤◌, ◌⊎◌, inl, inr, ℤ, pos, ◌+ℤ◌, ◌*ℤ◌}
use Rattle.std.proofs.Common.{Bool, true, false, List, [], ◌∷◌, ◌++◌, None, refl, sym, ap, subst}
use Rattle.std.proofs.Common.{◌∙◌, arith}
use Rattle.std.proofs.lemmas.Bool.{and_from, cases_lt}
use Rattle.std.proofs.lemmas.Int.{ints}
use Rattle.small_laws.proofs.Comparisons.{le-int_le, lt-int_lt}
use Rattle.module_format.specs.declared.fact.Fact.TheVariants.{Pointer}
use Rattle.module_format.specs.declared.fact.Region.TheVariants as regions
use Rattle.module_format.specs.declared.fact.Step.{Step}
use Rattle.module_format.specs.declared.fact.Step.TheVariants.{Word as WordStep}
use Rattle.module_format.specs.declared.limits.TheConstants.{MAX_DATA_WORDS}
use Rattle.word_arithmetic.specs.Range.{Ends, IsRange, full}
use Rattle.states.specs.declared.known.WordFact.{WordFact}
use Rattle.states.specs.declared.known.WordFact.TheVariants.{Alone}
use Rattle.states.specs.Spans.{is_in_span}
use Rattle.local_rules.specs.WordRules.{number_in, word_as_known}
use Rattle.module_format.specs.Rows.{Fact}
use Rattle.occam_parser.specs.declared.tree.ValueType.{ValueType}
use Rattle.occam_parser.specs.declared.tree.ValueType.TheVariants as value_type
use Rattle.occam_parser.specs.Expressions.{Expression}
use Rattle.scalar_ranges.specs.Entries.{Entry}
use Rattle.code_pieces.specs.Pieces.{Piece, stores, moves, below, counted}
use Rattle.line_pieces.specs.Actions.{KnownElement, OtherElement, store_code, stores_at, stores_below, stored_offset}
use Rattle.line_pieces.specs.Actions.{store_after}
use Rattle.line_pieces.specs.Expressions.{expression_code, first_code, offset_of, or_zero, without, is_small}
use Rattle.line_pieces.specs.Expressions.{known_address, subscript_code, subscript_of}
use Rattle.line_pieces.specs.Homes.{words_for}
use Rattle.certified_lines.specs.StraightRules.{Setting, Told, FallOn}
use Rattle.certified_lines.specs.Instructions.{MayRead, MayWrite, is_told, with_word, without_a}
use Rattle.certified_lines.specs.MovingWords.{MovedWords}
use Rattle.certified_lines.specs.Scopes.{Scene, IsNumber, HoldsScope, IsScope}
use Rattle.certified_lines.specs.Telling.{IsWhole, IsAllowed, AreAllowed, IsFree}
use Rattle.certified_lines.proofs.StraightRules.{fall_both}
use Rattle.certified_lines.proofs.Elements.{word_is}
use Rattle.certified_lines.proofs.Instructions.{stored_words_are_known, waiting_is_known_below}
use Rattle.certified_lines.proofs.MovingWords.{moved_words_are_known}
use Rattle.certified_lines.proofs.Operands.{allowed_first, stored_stay, stored_there}
use Rattle.certified_actions.specs.Keeping.{NumbersStay, NumbersStayBefore}
use Rattle.certified_actions.specs.Variables.{IsSelected}
use Rattle.certified_actions.proofs.Addressing.{Addressed, step_by, subscript_addressed, element_byte}
use Rattle.certified_actions.proofs.Addressing.{element_word, known_addressed}
use Rattle.certified_actions.proofs.Bytes.{lies_near}
use Rattle.certified_actions.proofs.Elements.{array_after, bytes_spread, several, words_near}
use Rattle.certified_actions.proofs.Keeping.{before_stays, numbers_both, numbers_spared, in_span_is, kept_numbers_hold}
use Rattle.certified_actions.proofs.Storing.{Stored, IsKnownArray, word_stored, byte_stored}

-- ---- temporaries

-- a word that is free is counted
pub free_counts : (t : ℕ) → IsFree t → counted t ≡ t
unfolding counted
free_counts t few = omega (arith, few)

-- a word that may be stored and loaded again
pub record IsTemporary (g : Setting) (t : ℕ) : Type 0 where
  pub few : t < MAX_DATA_WORDS
  pub writes : MayWrite g t
  pub reads : MayRead g t

-- a word that is stored, of code that is allowed
pub temporary : (g : Scene) (t : ℕ) → IsFree t → IsAllowed g (stores t) → IsTemporary g.setting t
temporary g t free may =
    let same = free_counts t free in
    record {
      few = subst (λ (n : ℕ). n < MAX_DATA_WORDS) same may.0;
      writes = subst (λ (n : ℕ). MayWrite g.setting n) same may.1;
      reads = subst (λ (n : ℕ). MayRead g.setting n) same may.2;
    }

-- what is told once A waits in a word
abbrev pub waiting : ℕ → Told → Told
waiting t k = without_a (with_word t k.stack.a.fact k)

-- ---- one word that is moved

off_span : (to k : ℕ) → is_in_span (pos to) 1 (pos k) ≡ false → (k < to) ⊎ (to + 1 ≤ k)
off_span to k test = elim (cases_lt k to) [
  | inl less ↦ inl less
  | inr up ↦ elim (cases_lt to k) [
    | inl more ↦ inr (omega (arith, more))
    | inr down ↦ absurd (cc (sym test ∙ and_from _ _ (le-int_le (pos to) (pos k) (omega (arith, ints, up)))
        (lt-int_lt (pos k) (pos to +ℤ pos 1) (omega (arith, ints, down)))))
  ]
]

-- where it comes to an array, numbers stay
moved_spared : (g : Setting) (P : ℕ → Type 0) (w count from to : ℕ) (before : Told) (m : MovedWords g 1 from to before)
    → w ≤ to → to < w + count → ((n : ℕ) → n < count → IsNumber before.frame (w + n) full)
    → NumbersStay P before.frame m.after.frame
moved_spared g P w count from to before m low high known =
    numbers_spared P (is_in_span (pos to) 1) before.frame m.after.frame
    (λ k test.
    let inside = in_span_is to 1 k test in
    let first = inside.0 in
    let last = inside.1 in
    let at : w + (k - w) ≡ k = omega (arith, low, first) in
    let same : to + 0 ≡ k = omega (arith, first, last) in (
      subst (λ (n : ℕ). IsNumber before.frame n full) at (known (k - w) (omega (arith, low, high, first, last))),
      subst (λ (n : ℕ). IsNumber m.after.frame n full) same (m.there 0 (omega arith)),
    ))
    (λ k test whole. m.others k (off_span to k test) whole)

-- ---- an element

module _ (g : Scene) (top next w count : ℕ) (k : Told) (q : Ends) (free : IsFree top) (later : top < next)
    (below_top : w + count ≤ top) (array : IsKnownArray g.setting w count k.frame) (ranged : IsRange q)
    (value : k.stack.a.fact ≡ number_in q) where
  abbrev pub IsBefore : ℕ → Type 0
  IsBefore n = n < top

  abbrev pub StoredNow : List Piece → Type 0
  StoredNow ps = Stored g.setting IsBefore ps k

  -- the number waits
  waits : IsTemporary g.setting top → FallOn g.setting (stores top ∷ []) k (waiting top k)
  waits here = stored_words_are_known g.setting top k (free_counts top free) here.writes (ap is_told value)

  waits_there : IsNumber (waiting top k).frame top q
  waits_there = stored_there top k.stack.a.fact k.frame ∙ ap (λ (f : Fact). Alone f) value

  pub waits_before : NumbersStayBefore top k.frame (waiting top k).frame
  waits_before =
      before_stays top top k.frame (waiting top k).frame (omega arith) (stored_stay top k.stack.a.fact k.frame)

  waiting_array : IsKnownArray g.setting w count (waiting top k).frame
  waiting_array = array_after g top w count k.frame (waiting top k).frame below_top waits_before array

  -- it is stored where an address leads
  abbrev StoresAt : ValueType → ℤ → (lo hi : ℤ) → Step → Type 0
  StoresAt type c lo hi step = (s : Told) → IsKnownArray g.setting w count s.frame
      → s.stack.a.fact ≡ Pointer regions.Frame lo hi step → s.stack.b.fact ≡ number_in q
      → Stored g.setting IsBefore (stores_at type c ∷ []) s

  -- the number stays in A while the address is pushed
  stored_over : (type : ValueType) (c lo hi : ℤ) (step : Step) (xs : List Piece)
      → Addressed g.setting xs next lo hi step true k → StoresAt type c lo hi step
      → StoredNow (xs ++ (stores_at type c ∷ []))
  stored_over type c lo hi step xs x finish =
      let pushed = before_stays top next k.frame x.after.frame (omega (arith, later)) x.stay in
      let last = finish x.after (array_after g top w count k.frame x.after.frame below_top pushed array) x.a
      ((x.below refl).fact ∙ value) in
      record {
        after = last.after;
        falls = fall_both x.falls last.falls;
        stay = numbers_both IsBefore k.frame x.after.frame last.after.frame pushed last.stay;
      }

  -- the number is pushed again below the address
  abbrev with_back : Told → Told
  with_back s = record s {
    stack = record {
      a = s.stack.a;
      b = word_as_known (pos top) (s.frame (pos top));
      c = s.stack.b;
    };
  }

  -- it waits in a temporary while the address is pushed
  stored_below : (type : ValueType) (c lo hi : ℤ) (step : Step) (small : Bool) (xs : List Piece)
      → IsTemporary g.setting top → Addressed g.setting xs next lo hi step small (waiting top k)
      → StoresAt type c lo hi step → StoredNow (stores top ∷ (xs ++ stores_below type c top))
  stored_below type c lo hi step small xs here x finish =
      let there : IsNumber x.after.frame top q =
      x.stay top later (subst (IsWhole next top) (sym waits_there) tt) ∙ waits_there in
      let pushed = before_stays top next (waiting top k).frame x.after.frame (omega (arith, later)) x.stay in
      let last = finish (with_back x.after)
      (array_after g top w count (waiting top k).frame x.after.frame below_top pushed waiting_array) x.a
      (ap (λ (f : WordFact). (word_as_known (pos top) f).fact) there) in
      record {
        after = last.after;
        falls = fall_both (waits here)
            (fall_both x.falls
            (fall_both (waiting_is_known_below g.setting top x.after (free_counts top free) here.reads) last.falls));
        stay = numbers_both IsBefore k.frame (waiting top k).frame last.after.frame waits_before
            (numbers_both IsBefore (waiting top k).frame x.after.frame last.after.frame pushed last.stay);
      }

  -- ---- its number is known

  -- it is moved to the word of an element
  moved_there : (c : ℕ) → IsTemporary g.setting top → c < count → StoredNow (stores top ∷ moves 1 top (w + c))
  moved_there c here less =
      let few = here.few in
      let inside = array.few in
      let same : (n : ℕ) → n < 1 → (base : ℕ) → base ≡ base + n = λ n one base. omega (arith, one) in
      let m = moved_words_are_known g.setting 1 top (w + c) (waiting top k) (record {
        some = omega arith;
        from_few = omega (arith, few);
        to_few = omega (arith, less, inside);
        apart = inr (omega (arith, less, below_top));
        reads = λ n one. subst (λ (j : ℕ). MayRead g.setting j) (same n one top) here.reads;
        writes = λ n one. subst (λ (j : ℕ). MayWrite g.setting j) (same n one (w + c)) (array.writes c less);
        numbers = λ n one.
            (q, subst (λ (j : ℕ). IsNumber (waiting top k).frame j q) (same n one top) waits_there);
      }) in
      record {
        after = m.after;
        falls = fall_both (waits here) m.falls;
        stay = numbers_both IsBefore k.frame (waiting top k).frame m.after.frame waits_before
            (moved_spared g.setting IsBefore w count top (w + c) (waiting top k) m (omega arith) (omega (arith, less))
            waiting_array.known);
      }

  pub known_stored : (type : ValueType) (c : ℕ) → IsTemporary g.setting top → element_word type w c < w + count
      → StoredNow (store_code (KnownElement type w c) top)
  known_stored value_type.Int c here inside =
      let few = array.few in
      subst (λ (word : ℕ). StoredNow (stores top ∷ moves 1 top word)) (sym (word_is w c (omega (arith, inside, few))))
      (moved_there c here (omega (arith, inside)))
  known_stored value_type.Byte c here inside =
      let few = array.few in
      let x = known_addressed value_type.Byte g.setting w c next (waiting top k) (omega (arith, inside, few)) in
      let byte = element_byte value_type.Byte w c in
      stored_below value_type.Byte (pos 0) (pos byte) (pos byte) x.step true (known_address value_type.Byte w c) here
      x.addressed
      (λ s known a b.
      byte_stored g.setting IsBefore w count s known q ranged b x.step byte byte a (omega arith) (omega arith)
      (omega (arith, inside)))

-- ---- by the code of a subscript

module _ (g : Scene) (top next w size : ℕ) (es : List Entry) (e : Expression) (k : Told) (q : Ends)
    (scope : IsScope g top es) (free : IsFree top) (later : top < next) (next_free : IsFree next)
    (holds : HoldsScope g es k.frame) (ranged : IsRange q) (value : k.stack.a.fact ≡ number_in q) where
  -- the code of the subscript, without its constant if words are stored
  abbrev subscript_for : ValueType → List Piece
  subscript_for type =
      without (stored_offset type (offset_of es e)) (expression_code g.homes es next e) (first_code g.homes es next e)

  abbrev offset_for : ValueType → ℤ
  offset_for type = or_zero (stored_offset type (offset_of es e))

  -- the address of one of several elements, but for that constant, and what is stored there
  record SelectedAt (type : ValueType) (count : ℕ) (s : Told) : Type 0 where
    lo : ℤ
    hi : ℤ
    step : Step
    addressed : Addressed g.setting (subscript_for type ++ subscript_code type w) next lo hi step (is_small es e) s
    finish : (z : Told) → IsKnownArray g.setting w count z.frame → z.stack.a.fact ≡ Pointer regions.Frame lo hi step
        → z.stack.b.fact ≡ number_in q
        → Stored g.setting (λ n. n < top) (stores_at type (offset_for type) ∷ []) z

  selected_at : (type : ValueType) (s : Told) → w + words_for type size ≤ MAX_DATA_WORDS → HoldsScope g es s.frame
      → IsSelected g top es e size None → IsSelected g top es e size (offset_of es e) → AreAllowed g
      (subscript_for type)
      → SelectedAt type (words_for type size) s
  selected_at value_type.Int s few held all_of first all =
      let c = offset_for value_type.Int in
      let r = first.range in
      let p = first.tells next (omega (arith, later)) next_free all s held in
      let sel = several size c r first.select first.several in
      let lo_is = sel.lo in
      let hi_is = sel.hi in
      let inside = sel.inside in
      let lo : ℤ = pos (4 * w) +ℤ (pos 4 *ℤ r.lo) in
      let hi : ℤ = pos (4 * w) +ℤ (pos 4 *ℤ r.hi) in
      let near = words_near w size c r few first.select in
      let low : lo +ℤ (pos 4 *ℤ c) ≡ pos (4 * (w + sel.first)) = omega (arith, ints, lo_is) in
      let high : hi +ℤ (pos 4 *ℤ c) ≡ pos (4 * ((w + sel.first) + suc sel.more)) = omega (arith, ints, hi_is) in
      record {
        lo = lo;
        hi = hi;
        step = WordStep;
        addressed = subscript_addressed g.setting (subscript_for value_type.Int) next w first.leaf
            (is_small es e) r s lo
            hi (omega (arith, few, inside)) near p value_type.Int refl refl;
        finish = λ z known a b.
            word_stored g.setting (λ n. n < top) w size z known q ranged b c lo hi (w + sel.first) sel.more a near low
            high (omega arith) (omega (arith, inside));
      }
  selected_at value_type.Byte s few held all_of first all =
      let r = all_of.range in
      let p = all_of.tells next (omega (arith, later)) next_free all s held in
      let spread = bytes_spread value_type.Byte w size r few all_of.select in
      let start = spread.first in
      let end = spread.last in
      let lies = spread.lies in
      record {
        lo = pos start;
        hi = pos end;
        step = step_by value_type.Byte r;
        addressed = subscript_addressed g.setting (expression_code g.homes es next e) next w all_of.leaf
            (is_small es e) r
            s (pos start) (pos end) (omega (arith, few, lies)) (lies_near few lies) p value_type.Byte
            spread.low spread.high;
        finish = λ z known a b.
            byte_stored g.setting (λ n. n < top) w (words_for value_type.Byte size) z known q ranged b
            (step_by value_type.Byte r) start end a lies.up lies.low (omega (arith, lies));
      }

  other_by : (type : ValueType) (small : Bool) → is_small es e ≡ small → w + words_for type size ≤ top
      → IsKnownArray g.setting w (words_for type size) k.frame → IsSelected g top es e size None
      → IsSelected g top es e size (offset_of es e)
      → AreAllowed g (store_after type w small (offset_for type) (subscript_for type) top)
      → Stored g.setting (λ n. n < top) (store_after type w small (offset_for type) (subscript_for type) top) k
  other_by type true is below array all_of first all =
      let code : List Piece = subscript_for type ++ subscript_code type w in
      let found = selected_at type k array.few holds all_of first
      (allowed_first g (subscript_for type) (subscript_code type w)
      (allowed_first g code (stores_at type (offset_for type) ∷ []) all)) in
      stored_over g top next w (words_for type size) k q free later below array ranged value type (offset_for type)
      found.lo found.hi found.step code
      (subst (λ (s : Bool). Addressed g.setting code next found.lo found.hi found.step s k) is found.addressed)
      found.finish
  other_by type false is below array all_of first all =
      let code : List Piece = subscript_for type ++ subscript_code type w in
      let here = temporary g top free all.0 in
      let kept = kept_numbers_hold g top es k.frame (waiting top k).frame scope
      (waits_before g top next w (words_for type size) k q free later below array ranged value) holds in
      let found = selected_at type (waiting top k) array.few kept all_of first
      (allowed_first g (subscript_for type) (subscript_code type w)
      (allowed_first g code (stores_below type (offset_for type) top) all.1)) in
      stored_below g top next w (words_for type size) k q free later below array ranged value type (offset_for type)
      found.lo found.hi found.step (is_small es e) code here found.addressed found.finish

  pub other_stored : (type : ValueType) → w + words_for type size ≤ top
      → IsKnownArray g.setting w (words_for type size) k.frame → IsSelected g top es e size None
      → IsSelected g top es e size (offset_of es e)
      → AreAllowed g (store_code (OtherElement type w (subscript_of g.homes es next e)) top)
      → Stored g.setting (λ n. n < top) (store_code (OtherElement type w (subscript_of g.homes es next e)) top) k
  other_stored type below array all_of first all = other_by type (is_small es e) refl below array all_of first all
