-- What is known where a number is stored in an element of an array: of the array's words what was known, and of others.
use Rattle.std.proofs.Common.{◌≡◌, ℕ, suc, ◌+◌, ◌*◌, ◌/◌, ◌-◌, ◌<◌, ◌≤◌, ℤ, pos, ◌+ℤ◌}
use Rattle.std.proofs.Common.{◌*ℤ◌, Bool, true, cond, List, [], ◌∷◌, sym}
use Rattle.std.proofs.Common.{ap, subst, ◌∙◌, arith}
use Rattle.std.proofs.lemmas.Bool.{and_from}
use Rattle.std.proofs.lemmas.Int.{ints}
use Rattle.small_laws.proofs.Comparisons.{le-int_le}
use Rattle.word_arithmetic.specs.Word.{least_word, greatest_word}
use Rattle.word_arithmetic.specs.Range.{Ends, IsRange, full}
use Rattle.module_format.specs.declared.fact.Fact.TheVariants.{Pointer}
use Rattle.module_format.specs.declared.fact.Region.TheVariants as regions
use Rattle.module_format.specs.declared.fact.Step.{Step}
use Rattle.module_format.specs.declared.fact.Step.TheVariants.{Word as WordStep}
use Rattle.module_format.specs.declared.limits.TheConstants.{MAX_DATA_WORDS}
use Rattle.states.specs.declared.span.Leaving.TheVariants.{Become, Widen}
use Rattle.states.specs.Spans.{on_span}
use Rattle.states.specs.State.{Facts, changed, is_same_number}
use Rattle.rulings.specs.declared.pointers.Pointed.{Pointed}
use Rattle.rulings.specs.Pointers.{are_near, is_number_in, pointer_of, stored_byte, widened_by}
use Rattle.local_rules.specs.MemoryRules.{may_store_word, may_store_byte, stored_word, words_behind}
use Rattle.local_rules.specs.WordRules.{number_in}
use Rattle.occam_parser.specs.declared.tree.ValueType.TheVariants as value_type
use Rattle.code_pieces.specs.Pieces.{Piece}
use Rattle.line_pieces.specs.Actions.{stores_at}
use Rattle.certified_lines.specs.StraightRules.{Setting, Told, FallOn}
use Rattle.certified_lines.specs.Instructions.{MayWrite, is_told, without_a}
use Rattle.certified_lines.specs.Addresses.{with_left}
use Rattle.certified_lines.specs.Scopes.{IsNumber}
use Rattle.certified_lines.proofs.Addresses.{distant_stores_are_known, stored_bytes_are_known}
use Rattle.certified_lines.proofs.Arrays.{spans_are_of_words}
use Rattle.certified_lines.proofs.Elements.{both_near, bytes_touched, pointer_is, words_are_at}
use Rattle.certified_lines.proofs.MovingWords.{or_second}
use Rattle.certified_lines.proofs.Operands.{other_word}
use Rattle.certified_lines.proofs.Ranges.{full_ranged}
use Rattle.certified_actions.specs.Keeping.{NumbersStay}
use Rattle.certified_actions.specs.Variables.{MayWriteAll}
use Rattle.certified_actions.proofs.Bytes.{message_written, words_have}
use Rattle.certified_actions.proofs.Keeping.{array_spared}

-- Pieces fall to where of words that this holds of the numbers and the loops are known as before.
pub record Stored (g : Setting) (P : ℕ → Type 0) (ps : List Piece) (before : Told) : Type 0 where
  pub after : Told
  pub falls : FallOn g ps before after
  pub stay : NumbersStay P before.frame after.frame

-- ---- numbers that may be stored

-- a number in a range of words is a word
pub range_fits : (q : Ends) → IsRange q → is_number_in full (number_in q) ≡ true
range_fits q ranged =
    let lo = ranged.lo_fits in
    let hi = ranged.hi_fits in
    and_from _ _ (le-int_le least_word q.lo (omega (arith, ints, lo))) (le-int_le q.hi greatest_word (omega
    (arith, ints, hi)))

-- ---- a number is stored in an array

-- an array whose words may be written, of each of which it is known that it is any number
pub record IsKnownArray (g : Setting) (w count : ℕ) (f : Facts) : Type 0 where
  pub few : w + count ≤ MAX_DATA_WORDS
  pub writes : MayWriteAll g w count
  pub known : (n : ℕ) → n < count → IsNumber f (w + n) full

module _ (g : Setting) (P : ℕ → Type 0) (w count : ℕ) (k : Told) (array : IsKnownArray g w count k.frame) (q : Ends)
    (ranged : IsRange q) (value : k.stack.b.fact ≡ number_in q) where
  -- what is in B goes into one of several words of an array, so many words behind one to which A leads
  pub word_stored : (c lo hi : ℤ) (start more : ℕ) → k.stack.a.fact ≡ Pointer regions.Frame lo hi WordStep
      → are_near lo hi ≡ true → lo +ℤ (pos 4 *ℤ c) ≡ pos (4 * start)
      → hi +ℤ (pos 4 *ℤ c) ≡ pos (4 * (start + suc more)) → w ≤ start → start + suc (suc more) ≤ w + count
      → Stored g P (stores_at value_type.Int c ∷ []) k
  unfolding words_behind may_store_word
  word_stored c lo hi start more a near low high from to =
      let last = start + suc more in
      let p : Pointed = record { region = regions.Frame; lo = pos (4 * start); hi = pos (4 * last); step = WordStep } in
      let few = array.few in
      let far = both_near (pos (4 * start)) (pos (4 * last)) (omega (arith, ints)) (omega (arith, ints, few, to))
      (omega (arith, ints)) (omega (arith, ints, few, to)) in
      let several = other_word (pos (4 * start)) (pos (4 * last)) (λ same. absurd (omega (arith, ints, same))) in
      let fits = range_fits q ranged in
      let leaving : stored_word p k.stack.b.fact ≡ Widen q.lo q.hi =
      ap (λ (b : Bool). cond b (Become k.stack.b.fact) (widened_by k.stack.b.fact)) several
      ∙ ap widened_by value in
      let frame : (with_left p (p.hi +ℤ pos 4) (stored_word p k.stack.b.fact) k).frame
      ≡ changed (on_span (pos start) (suc (suc more)) (Widen q.lo q.hi)) k.frame =
      λ i. changed (on_span (spans_are_of_words.first start i) (spans_are_of_words.touched start (suc more) i)
      (leaving i)) k.frame in
      record {
        after = without_a (without_a (with_left p (p.hi +ℤ pos 4) (stored_word p k.stack.b.fact) k));
        falls = distant_stores_are_known g c p k (record {
          from = record { region = regions.Frame; lo = lo; hi = hi; step = WordStep };
          is = ap pointer_of a ∙ pointer_is regions.Frame lo hi WordStep near;
          further = words_are_at regions.Frame (lo +ℤ (pos 4 *ℤ c)) (hi +ℤ (pos 4 *ℤ c)) (pos (4 * start))
              (pos (4 * last)) low high far;
        }) (ap is_told value)
            ((λ i. may_store_word g.contents g.context (a i) (value i))
            ∙ or_second (is_same_number lo hi) (is_number_in full (number_in q)) fits)
            (message_written g (4 * start) (4 * last) 3 (omega arith)
            (words_have (MayWrite g) w count (4 * start) (4 * last) 3 (record {
              up = omega arith;
              low = omega (arith, from);
              high = omega (arith, to);
            }) array.writes));
        stay = subst (λ (f : Facts). NumbersStay P k.frame f) (sym frame)
            (array_spared P w count start (suc (suc more)) q k.frame ranged from to array.known);
      }

  -- or into one of several bytes
  pub byte_stored : (step : Step) (first last : ℕ) → k.stack.a.fact ≡ Pointer regions.Frame (pos first) (pos last) step
      → first ≤ last → 4 * w ≤ first → last < 4 * (w + count) → Stored g P (stores_at value_type.Byte (pos 0) ∷ []) k
  unfolding may_store_byte
  byte_stored step first last a up from to =
      let p : Pointed = record { region = regions.Frame; lo = pos first; hi = pos last; step = step } in
      let few = array.few in
      let near = both_near (pos first) (pos last) (omega (arith, ints)) (omega (arith, ints, few, up, to))
      (omega (arith, ints)) (omega (arith, ints, few, to)) in
      let frame : (with_left p (p.hi +ℤ pos 1) stored_byte k).frame
      ≡ changed (on_span (pos (first / 4)) (suc (last / 4 - first / 4)) stored_byte) k.frame =
      λ i. changed (on_span (pos (first / 4)) (bytes_touched first last up i) stored_byte) k.frame in
      record {
        after = without_a (without_a (with_left p (p.hi +ℤ pos 1) stored_byte k));
        falls = stored_bytes_are_known g p k (ap pointer_of a ∙ pointer_is regions.Frame (pos first)
            (pos last) step near)
            (ap is_told value)
            ((λ i. may_store_byte g.contents g.context (a i) (value i)) ∙ range_fits q ranged)
            (message_written g first last 0 up
            (words_have (MayWrite g) w count first last 0 (record { up = up; low = from; high = omega (arith, to) })
            array.writes));
        stay = subst (λ (f : Facts). NumbersStay P k.frame f) (sym frame)
            (array_spared P w count (first / 4) (suc (last / 4 - first / 4)) full k.frame full_ranged
            (omega (arith, from)) (omega (arith, up, to)) array.known);
      }
