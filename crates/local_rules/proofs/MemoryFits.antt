-- The instructions that make pointers, and those that read and write memory through them: what their rules say fits
-- their steps.
use Rattle.std.proofs.Common.{◌≡◌, ℕ, ◌+◌, ◌-◌, ◌*◌, ◌%◌, ◌^◌, ◌≤◌, ℤ, pos, negsuc, ◌+ℤ◌, ◌*ℤ◌, ◌≤ℤ◌, ◌==◌, FitsSigned}
use Rattle.std.proofs.Common.{Bool, if◌then◌else◌, true, false, cond, ◌&&◌, length, Option, Some, Result, Ok, Err}
use Rattle.std.proofs.Common.{refl, sym, ap, ◌∙◌, subst, arith, inl, inr}
use Rattle.std.proofs.lemmas.Bool.Decides.{nat_tests}
use Rattle.std.proofs.lemmas.Int.{ints, int_wrap_fits, int_wrap-add_left, SFits-int_wrap}
use Rattle.std.specs.Prelude.{IsTrue, nat_lt, nat_le, int_le}
use Rattle.std.specs.Int.{w32, int_wrap, cast_signed}
use Rattle.module_format.specs.Order.{least_word, greatest_word, is_stepped}
use Rattle.word_arithmetic.proofs.WordLaws.{words_fit, words_lie_between}
use Rattle.module_format.specs.Rows.{Fact}
use Rattle.module_format.specs.declared.fact.Fact.TheVariants.{Unknown, Number, Pointer, CodeAddress, Loop}
use Rattle.module_format.specs.declared.fact.Fact.TheVariants.{ReturnAddress}
use Rattle.module_format.specs.declared.fact.Region.{Region}
use Rattle.module_format.specs.declared.fact.Region.TheVariants as regions
use Rattle.module_format.specs.declared.fact.Step.{Step}
use Rattle.module_format.specs.declared.fact.Step.TheVariants.{Byte, Word}
use Rattle.module_format.specs.Contents.{Contents}
use Rattle.machine_state.specs.declared.op.Op.TheVariants as operations
use Rattle.machine_state.specs.declared.instruction.Instruction.TheVariants as instructions
use Rattle.module_format.specs.Stack.{with_top}
use Rattle.machine_state.specs.Memory.{data_start, local_address, place_of, byte_at, word_at}
use Rattle.machine_state.specs.Holding.{may_read}
use Rattle.machine_state.specs.declared.fault.FaultKind.TheVariants.{NotOwn}
use Rattle.std.specs.Option.{option_map}
use Rattle.std.proofs.lemmas.Bool.{and_parts}
use Rattle.small_laws.proofs.Comparisons.{int_le-true}
use Rattle.machine_state.specs.World.{padding}
use Rattle.machine_state.specs.LocalStep as step
use Rattle.machine_state.specs.Site.{Outcome, fails, Local}
use Rattle.states.specs.declared.rule.Rule.{Rule}
use Rattle.states.specs.declared.rule.Rule.TheVariants as rules
use Rattle.states.specs.State.{State, known, is_same_number as is_same}
use Rattle.rulings.specs.declared.pointers.Pointed.{Pointed}
use Rattle.rulings.specs.declared.pointers.Bounds.{Bounds}
use Rattle.rulings.specs.Rulings as rule
use Rattle.rulings.specs.Rulings.{Ruling}
use Rattle.local_rules.specs.MemoryRules as memory
use Rattle.rulings.specs.Pointers.{are_near, pointer_of, bounds_of, constant_of, word_read, byte_read}
use Rattle.local_rules.specs.MemoryRules.{near_fact, word_fact, shifted, is_of_a_word, element_of, place_fact}
use Rattle.local_rules.specs.MemoryRules.{words_behind, words_at}
use Rattle.rulings.specs.Reach.{may_read_bytes}
use Rattle.local_rules.specs.LocalRules as table
use Rattle.rulings.specs.Meaning.{Layout, Means, IsOffset, is_number, is_pointer, is_code_address, from_nowhere, owed}
use Rattle.rulings.specs.Meaning.{code_address, region_start, IsWellFormed}
use Rattle.rulings.specs.Fitting.{Changes, Situation, StandsAt, rule_site, step_site}
use Rattle.rulings.proofs.Within.{Within, ArePlain, AreStill, whole_after}
use Rattle.rulings.proofs.Words.{word_test}
use Rattle.rulings.proofs.Addresses.{address_added, words_added, local_word, stepped, stepped_words, stepped_sum}
use Rattle.rulings.proofs.Addresses.{pointer_added, keeps_step}
use Rattle.rulings.proofs.ReadThroughPointers.{word_through, byte_through}
use Rattle.rulings.proofs.Combining.{still_rule_fits, still_step_fits, FitsIf, unknown_means, uses_fits, goes_on_fits}
use Rattle.rulings.proofs.Combining.{in_plain_rule, beside_plain_rule, in_plain_step, after_stack, on_step_test}
use Rattle.rulings.proofs.Combining.{reads_fits, settles_fits, reads_bytes_fits, going_on_fits, stays_by}
use Rattle.rulings.proofs.Reaching.{place_at, region_at, word_place, even_word}
use Rattle.rulings.proofs.PointerFacts.{ok_if, constant_is, pointer_is}

-- ---- what results say

-- what is known of a number
pub record Lies (r : Bounds) (v : ℤ) : Type 0 where
  pub low : r.lo ≤ℤ v
  pub high : v ≤ℤ r.hi
  pub fits : FitsSigned w32 v

-- the fact of a pointer
pub is_fact_of : Pointed → Fact
is_fact_of p = Pointer p.region p.lo p.hi p.step

module _ (m : Contents) (layout : Layout) where
  pub number_lies : (fact : Fact) (r : Bounds) (v : ℤ) → bounds_of fact ≡ Ok r → Means m layout fact (Some v) → Lies r v
  unfolding bounds_of
  number_lies (Number lo hi) r v e (is_number low high fits) =
      let is : record { lo = lo; hi = hi } ≡ r = cc in
      subst (λ (b : Bounds). Lies b v) is (record { low = low; high = high; fits = fits })
  number_lies Unknown r v e means = absurd (cc)
  number_lies (Pointer region lo hi steps) r v e means = absurd (cc)
  number_lies (CodeAddress offset) r v e means = absurd (cc)
  number_lies (Loop base count weight) r v e means = absurd (cc)
  number_lies ReturnAddress r v e means = absurd (cc)

  -- ---- pointers that are made

  -- a number further by a distance that keeps it a word
  number_added : (lo hi by v : ℤ) (fact : Fact) → word_fact (lo +ℤ by) (hi +ℤ by) ≡ Ok fact
      → Means m layout (Number lo hi) (Some v) → Means m layout fact (Some (int_wrap w32 (v +ℤ by)))
  unfolding word_fact
  number_added lo hi by v fact e (is_number low high fits) =
      let p = ok_if (is_of_a_word (lo +ℤ by) && is_of_a_word (hi +ℤ by)) (Number (lo +ℤ by) (hi +ℤ by)) fact _ e in
      let both = and_parts (is_of_a_word (lo +ℤ by)) (is_of_a_word (hi +ℤ by)) p.0 in
      let least = int_le-true least_word (lo +ℤ by) (and_parts (int_le least_word (lo +ℤ by)) _ both.0).0 in
      let most = int_le-true (hi +ℤ by) greatest_word (and_parts (int_le least_word (hi +ℤ by)) _ both.1).1 in
      let there : FitsSigned w32 (v +ℤ by) = between (v +ℤ by) (omega (arith, ints)) (omega (arith, ints)) in
      subst (λ (f : Fact). Means m layout f (Some (int_wrap w32 (v +ℤ by)))) p.1
      (subst (λ (z : ℤ). Means m layout (Number (lo +ℤ by) (hi +ℤ by)) (Some z))
      (sym (int_wrap_fits w32 (v +ℤ by) there))
      (is_number (omega (arith, ints)) (omega (arith, ints)) there))
    where
      between : (z : ℤ) → least_word ≤ℤ z → z ≤ℤ greatest_word → FitsSigned w32 z
      between z low high = (words_fit z).0 ((words_lie_between z).1 (low, high))

  -- a pointer further by a number between two others
  near_added : (region : Region) (lo hi low high v d : ℤ) (steps further : Step) (fact : Fact)
      → near_fact region (lo +ℤ low) (hi +ℤ high) further ≡ Ok fact
      → Means m layout (Pointer region lo hi steps) (Some v)
      → low ≤ℤ d → d ≤ℤ high → ((offset : ℤ) → IsOffset steps offset → IsOffset further (offset +ℤ d))
      → Means m layout fact (Some (int_wrap w32 (v +ℤ d)))
  unfolding near_fact
  near_added region lo hi low high v d steps further fact e means from to keep =
      let p = ok_if (are_near (lo +ℤ low) (hi +ℤ high)) (Pointer region (lo +ℤ low) (hi +ℤ high) further) fact _ e in
      subst (λ (f : Fact). Means m layout f (Some (int_wrap w32 (v +ℤ d)))) p.1
      (pointer_added m layout region lo hi low high v d steps further means from to keep)

  pub shifted_means : (e v : ℤ) (said fact : Fact) → shifted (pos 4 *ℤ e) said ≡ Ok fact → FitsSigned w32 e
      → Means m layout said (Some v)
      → Means m layout fact (Some (step.word_of (local_address (step.address v) e)))
  unfolding shifted
  shifted_means e v (Number lo hi) fact is fits means =
      subst (λ (z : ℤ). Means m layout fact (Some z)) (sym (local_word v e (word_fits means) fits))
      (number_added lo hi (pos 4 *ℤ e) v fact is means)
    where
      word_fits : Means m layout (Number lo hi) (Some v) → FitsSigned w32 v
      word_fits (is_number low high there) = there
  shifted_means e v (Pointer region lo hi steps) fact is fits means =
      let p = on_near (are_near lo hi) is in
      subst (λ (z : ℤ). Means m layout fact (Some z)) (sym (local_word v e (pointer_fits means) fits))
      (near_added region lo hi (pos 4 *ℤ e) (pos 4 *ℤ e) v (pos 4 *ℤ e) steps steps fact p means
      (omega (arith, ints)) (omega (arith, ints)) (keeps_step steps (pos 4 *ℤ e) (stepped_words e)))
    where
      pointer_fits : Means m layout (Pointer region lo hi steps) (Some v) → FitsSigned w32 v
      pointer_fits (is_pointer offset low high stepped is) =
          subst (λ (z : ℤ). FitsSigned w32 z) (sym is) (SFits-int_wrap w32 _)

      on_near : (b : Bool) → cond b (near_fact region (lo +ℤ (pos 4 *ℤ e)) (hi +ℤ (pos 4 *ℤ e)) steps)
          (Err rules.Pointer)
          ≡ Ok fact → near_fact region (lo +ℤ (pos 4 *ℤ e)) (hi +ℤ (pos 4 *ℤ e)) steps ≡ Ok fact
      on_near true h = h
      on_near false h = absurd (cc)
  shifted_means e v Unknown fact is fits means = absurd (cc)
  shifted_means e v (CodeAddress offset) fact is fits means = absurd (cc)
  shifted_means e v (Loop base count weight) fact is fits means = absurd (cc)
  shifted_means e v ReturnAddress fact is fits means = absurd (cc)

  pointer_word : (region : Region) (lo hi v : ℤ) (steps : Step)
      → Means m layout (Pointer region lo hi steps) (Some v)
      → FitsSigned w32 v
  pointer_word region lo hi v steps (is_pointer offset low high stepped is) =
      subst (λ (z : ℤ). FitsSigned w32 z) (sym is) (SFits-int_wrap w32 _)

  pub byte_means : (p : Pointed) (r : Bounds) (v u : ℤ) (fact : Fact) → element_of Byte p r ≡ Ok fact
      → Means m layout (Pointer p.region p.lo p.hi p.step) (Some v) → Lies r u
      → Means m layout fact (Some (step.word_of ((step.address v + step.address u) % 2 ^ 32)))
  unfolding element_of
  byte_means p r v u fact is means lies =
      subst (λ (z : ℤ). Means m layout fact (Some z))
      (sym (words_added v u (pointer_word p.region p.lo p.hi v p.step means) lies.fits))
      (near_added p.region p.lo p.hi r.lo r.hi v u p.step
      (cond (is_same r.lo r.hi && is_stepped r.lo) p.step Byte) fact is means lies.low lies.high
      (on_step (is_same r.lo r.hi && is_stepped r.lo) refl))
    where
      stays : is_same r.lo r.hi && is_stepped r.lo ≡ true → IsTrue (is_stepped u)
      stays t =
          let both = and_parts (is_same r.lo r.hi) (is_stepped r.lo) t in
          let low = lies.low in
          let high = lies.high in
          elim (word_test r.lo r.hi) [
            | inl q ↦
                let same : r.lo ≡ r.hi = q.1 in
                ap is_stepped (let e : u ≡ r.lo = omega (arith, ints) in e) ∙ both.1
            | inr q ↦ let no : true ≡ false = sym both.0 ∙ q.0 in absurd (cc)
          ]

      on_step : (b : Bool) → is_same r.lo r.hi && is_stepped r.lo ≡ b → (offset : ℤ) → IsOffset p.step offset
          → IsOffset (cond b p.step Byte) (offset +ℤ u)
      on_step true t offset at = keeps_step p.step u (stays t) offset at
      on_step false t offset at = tt

  pub word_means : (p : Pointed) (r : Bounds) (v u : ℤ) (fact : Fact) → element_of Word p r ≡ Ok fact
      → Means m layout (Pointer p.region p.lo p.hi p.step) (Some v) → Lies r u
      → Means m layout fact (Some (step.word_of (local_address (step.address v) u)))
  unfolding element_of
  word_means p r v u fact is means lies =
      subst (λ (z : ℤ). Means m layout fact (Some z))
      (sym (local_word v u (pointer_word p.region p.lo p.hi v p.step means) lies.fits))
      (near_added p.region p.lo p.hi (pos 4 *ℤ r.lo) (pos 4 *ℤ r.hi) v (pos 4 *ℤ u) p.step p.step fact is means
      (let low = lies.low in omega (arith, ints)) (let high = lies.high in omega (arith, ints))
      (keeps_step p.step (pos 4 *ℤ u) (stepped_words u)))

  -- the address of a place after the first byte of the code
  place_means : (n : ℕ) (fact : Fact) (v : ℤ) → place_fact m (pos n) ≡ Ok fact
      → v ≡ int_wrap w32 (pos (code_address m n))
      → Means m layout fact (Some v)
  unfolding place_fact
  place_means n fact v is at = on_code (nat_lt n (length m.code)) refl is
    where
      behind : ℕ
      behind = length m.code + padding (length m.code)

      constant : Fact
      constant = Pointer regions.Constants (pos (n - behind)) (pos (n - behind))
          (cond (is_stepped (pos (n - behind))) Word Byte)

      on_step : (b : Bool) → is_stepped (pos (n - behind)) ≡ b → IsOffset (cond b Word Byte) (pos (n - behind))
      on_step true t = t
      on_step false t = tt

      on_constant : (b : Bool) → (nat_le behind n && nat_lt n (behind + length m.constants)) ≡ b
          → cond b (Ok constant) (Err rules.Pointer) ≡ Ok fact → Means m layout fact (Some v)
      on_constant false t h = absurd (cc)
      on_constant true t h =
          let same : constant ≡ fact = cc in
          let low : behind ≤ n = reach (and_parts (nat_le behind n) (nat_lt n (behind + length m.constants)) t).0 in
          subst (λ (f : Fact). Means m layout f (Some v)) same
          (is_pointer (pos (n - behind)) (omega (arith, ints)) (omega (arith, ints))
          (on_step (is_stepped (pos (n - behind))) refl)
          (at ∙ ap (int_wrap w32) (omega (arith, ints))))
        where
          reach : nat_le behind n ≡ true → behind ≤ n
          reach t = grind (arith, nat_tests)

      on_code : (b : Bool) → nat_lt n (length m.code) ≡ b
          → cond b (Ok (CodeAddress n)) (cond (nat_le behind n && nat_lt n (behind + length m.constants)) (Ok constant)
          (Err rules.Pointer)) ≡ Ok fact → Means m layout fact (Some v)
      on_code true t h =
          let same : CodeAddress n ≡ fact = cc in
          subst (λ (f : Fact). Means m layout f (Some v)) same (is_code_address at)
      on_code false t h = on_constant (nat_le behind n && nat_lt n (behind + length m.constants)) refl h

  -- an address that a distance is added to
  wrapped : (n : ℕ) (v : ℤ) → int_wrap w32 (cast_signed w32 (n % 2 ^ 32) +ℤ v) ≡ int_wrap w32
      (int_wrap w32 (pos n) +ℤ v)
  unfolding int_wrap
  wrapped n v = refl

  wrapped_sum : (n : ℕ) (v : ℤ) → FitsSigned w32 v
      → step.word_of ((n % 2 ^ 32 + step.address v) % 2 ^ 32) ≡ int_wrap w32 (pos n +ℤ v)
  wrapped_sum n v fits =
      address_added (n % 2 ^ 32) v (omega arith) fits ∙ (wrapped n v ∙ int_wrap-add_left w32 (pos n) v)

  pub loaded_place : (next : ℕ) (c v : ℤ) (fact : Fact) → place_fact m (pos next +ℤ c) ≡ Ok fact → v ≡ c
      → FitsSigned w32 v
      → Means m layout fact
      (Some (step.word_of (((data_start + 4 * m.data_words + next) % 2 ^ 32 + step.address v) % 2 ^ 32)))
  unfolding place_fact
  loaded_place next c v fact is same fits = at_place (pos next +ℤ c) refl is
    where
      at_place : (z : ℤ) → z ≡ pos next +ℤ c → place_fact m z ≡ Ok fact
          → Means m layout fact
          (Some (step.word_of (((data_start + 4 * m.data_words + next) % 2 ^ 32 + step.address v) % 2 ^ 32)))
      at_place (negsuc n) e h = absurd (cc)
      at_place (pos n) e h = place_means n fact _ h (wrapped_sum (data_start + 4 * m.data_words + next) v fits
          ∙ ap (int_wrap w32) (omega (arith, ints)))

-- the offset at which `v` points, in the region of `q`: the offset `e` words after it is one of `p`'s
pub record WordsBehind (m : Contents) (layout : Layout) (e v : ℤ) (q p : Pointed) : Type 0 where
  pub region : q.region ≡ p.region
  pub offset : ℤ
  pub low : p.lo ≤ℤ (offset +ℤ (pos 4 *ℤ e))
  pub high : (offset +ℤ (pos 4 *ℤ e)) ≤ℤ p.hi
  pub stepped : IsTrue (is_stepped (offset +ℤ (pos 4 *ℤ e)))
  pub at : v ≡ int_wrap w32 (region_start m layout p.region +ℤ offset)

pub words_behind_is : (m : Contents) (layout : Layout) (e v : ℤ) (q p : Pointed) → words_behind (pos 4 *ℤ e) q ≡ Ok p
    → Means m layout (Pointer q.region q.lo q.hi q.step) (Some v) → WordsBehind m layout e v q p
unfolding words_behind words_at
words_behind_is m layout e v q p is means = on_words q.step is means
  where
    on_words : (steps : Step)
        → (elim steps as (λ t. Result Pointed Rule) [
          | Byte ↦ Err rules.Pointer
          | Word ↦ words_at q.region (q.lo +ℤ (pos 4 *ℤ e)) (q.hi +ℤ (pos 4 *ℤ e))
        ]) ≡ Ok p
        → Means m layout (Pointer q.region q.lo q.hi steps) (Some v) → WordsBehind m layout e v q p
    on_words Byte h pointer = absurd (cc)
    on_words Word h (is_pointer offset low high stepped at) =
        let t = ok_if (are_near (q.lo +ℤ (pos 4 *ℤ e)) (q.hi +ℤ (pos 4 *ℤ e)))
        (record { region = q.region; lo = q.lo +ℤ (pos 4 *ℤ e); hi = q.hi +ℤ (pos 4 *ℤ e); step = Word }) p _ h in
        let region_is : q.region ≡ p.region = ap (λ (r : Pointed). r.region) t.1 in
        let lo_is : q.lo +ℤ (pos 4 *ℤ e) ≡ p.lo = ap (λ (r : Pointed). r.lo) t.1 in
        let hi_is : q.hi +ℤ (pos 4 *ℤ e) ≡ p.hi = ap (λ (r : Pointed). r.hi) t.1 in
        record {
          region = region_is;
          offset = offset;
          low = omega (arith, ints);
          high = omega (arith, ints);
          stepped = stepped_sum offset (pos 4 *ℤ e) stepped (stepped_words e);
          at = at ∙ ap (λ (r : Region). int_wrap w32 (region_start m layout r +ℤ offset)) region_is;
        }

-- ---- the instructions

module _ (x : Situation) where
  -- what A becomes, outside alternations and starts
  pub with_fact_fits : (s : State) (l : Local) (fact : Fact) (v : ℤ) → Within ArePlain x.m x.h x.mode x.act s l
      → s.context ≡ x.context → Changes x l.memory → owed s x.act ≤ x.owed → Means x.m x.act.layout fact (Some v)
      → FitsIf x (memory.with_fact_a (rule_site x) fact s) (step.goes_on (step_site x) (step.with_a v l))
  with_fact_fits s l fact v a same changes n means =
      in_plain_rule x s a.same_mode _ _ (beside_plain_rule x s a.same_mode _ _
      (goes_on_fits x (rule.with_a (known fact) s) (step.with_a v l)
      (after_stack x a (record {
        a = record { fact = means; source = from_nowhere };
        b = a.knows.registers.b;
        c = a.knows.registers.c;
      })) same changes n))

  module _ (s : State) (l : Local) (a : Within AreStill x.m x.h x.mode x.act s l) (same : s.context ≡ x.context)
      (changes : Changes x l.memory) (n : owed s x.act ≤ x.owed) (here : StandsAt x s l) where
    pub ldnlp_fits : (e : ℤ) → FitsSigned w32 e
        → FitsIf x (table.local_rule (rule_site x) instructions.LoadNonLocalPointer e s)
        (step.instruction_step (step_site x) instructions.LoadNonLocalPointer e l)
    unfolding table.local_rule step.instruction_step
    ldnlp_fits e fits =
        still_step_fits x s a.same_mode _ _
        (uses_fits x s.stack.a l.registers.stack.a _ _ a.knows.registers.a (λ v means.
        settles_fits x (shifted (pos 4 *ℤ e) s.stack.a.fact) _ _ (λ fact is.
        still_rule_fits x s a.same_mode _ _
        (going_on_fits x (rule.with_a (known fact) s) (step.with_a (step.word_of (local_address (step.address v) e)) l)
        (whole_after (after_stack x a (record {
          a = record {
            fact = shifted_means x.m x.act.layout e v s.stack.a.fact fact is fits means.fact;
            source = from_nowhere;
          };
          b = a.knows.registers.b;
          c = a.knows.registers.c;
        }))) same changes n (λ busy. stays_by x here _ _ refl refl refl refl)))))

  module _ (s : State) (l : Local) (a : Within ArePlain x.m x.h x.mode x.act s l) (same : s.context ≡ x.context)
      (changes : Changes x l.memory) (n : owed s x.act ≤ x.owed) where
    -- the registers without the first
    popped : Within ArePlain x.m x.h x.mode x.act (rule.pop s) (step.pop l)
    popped = after_stack x a (record { a = a.knows.registers.b; b = a.knows.registers.c; c = unknown_means })

    -- A becomes the byte, or the word, of number B after it, whose address is such a sum
    element_fits : (element : Step) (sum : ℤ → ℤ → ℤ)
        → ((p : Pointed) (r : Bounds) (v u : ℤ) (fact : Fact) → element_of element p r ≡ Ok fact
        → Means x.m x.act.layout (Pointer p.region p.lo p.hi p.step) (Some v) → Lies r u
        → Means x.m x.act.layout fact (Some (sum v u)))
        → FitsIf x (memory.subscripts element (rule_site x) s)
        (step.alone x.mode (step.uses l.registers.stack.a (λ v. step.uses l.registers.stack.b (λ u.
        step.replaces_two (step_site x) (sum v u) l))))
    element_fits element sum sound =
        in_plain_step x s a.same_mode _ _ (uses_fits x s.stack.a l.registers.stack.a _ _ a.knows.registers.a (λ v means.
        uses_fits x s.stack.b l.registers.stack.b _ _ a.knows.registers.b (λ u other.
        settles_fits x (bounds_of s.stack.b.fact) _ _
        (λ r number. settles_fits x (pointer_of s.stack.a.fact) _ _ (λ p pointer.
        settles_fits x (element_of element p r) _ _ (λ fact is.
        with_fact_fits (rule.pop s) (step.pop l) fact _ popped same changes n
        (sound p r v u fact is
        (subst (λ (f : Fact). Means x.m x.act.layout f (Some v))
        (pointer_is x.m x.act.layout s.stack.a.fact p pointer).0
        means.fact)
        (number_lies x.m x.act.layout s.stack.b.fact r u number other.fact))))))))

    pub bsub_fits : FitsIf x (table.local_operation_rule (rule_site x) operations.ByteSubscript s)
        (step.operation_step (step_site x) operations.ByteSubscript l)
    unfolding table.local_operation_rule step.operation_step
    bsub_fits =
        element_fits Byte (λ v u. step.word_of ((step.address v + step.address u) % 2 ^ 32))
        (byte_means x.m x.act.layout)

    pub wsub_fits : FitsIf x (table.local_operation_rule (rule_site x) operations.WordSubscript s)
        (step.operation_step (step_site x) operations.WordSubscript l)
    unfolding table.local_operation_rule step.operation_step
    wsub_fits = element_fits Word (λ v u. step.word_of (local_address (step.address v) u)) (word_means x.m x.act.layout)

    pub ldpi_fits : FitsIf x (table.local_operation_rule (rule_site x) operations.LoadPointerToInstruction s)
        (step.operation_step (step_site x) operations.LoadPointerToInstruction l)
    unfolding table.local_operation_rule step.operation_step
    ldpi_fits =
        in_plain_step x s a.same_mode _ _ (uses_fits x s.stack.a l.registers.stack.a _ _ a.knows.registers.a (λ v means.
        settles_fits x (constant_of s.stack.a.fact) _ _ (λ c constant.
        settles_fits x (place_fact x.m (pos (x.at + x.len) +ℤ c)) _ _ (λ fact is.
        let p = constant_is x.m x.act.layout s.stack.a.fact c v constant means.fact in
        with_fact_fits s l fact _ a same changes n
        (loaded_place x.m x.act.layout (x.at + x.len) c v fact is p.0 p.1)))))

    -- A is a pointer that may be used
    pointer_fits : (r : Pointed → Ruling) (o : ℤ → Outcome)
        → ((v : ℤ) (p : Pointed) → Means x.m x.act.layout (Pointer p.region p.lo p.hi p.step) (Some v)
        → FitsIf x (r p) (o v))
        → FitsIf x (rule.uses s.stack.a (λ a. rule.settles (pointer_of a) r)) (step.uses l.registers.stack.a o)
    pointer_fits r o go =
        uses_fits x s.stack.a l.registers.stack.a _ _ a.knows.registers.a (λ v means.
        settles_fits x (pointer_of s.stack.a.fact) _ _ (λ p is. go v p
        (subst (λ (f : Fact). Means x.m x.act.layout f (Some v)) (pointer_is x.m x.act.layout s.stack.a.fact p is).0
        means.fact)))

    pub aligned_fits : (v : ℤ) (r : Ruling) (o : ℕ → Outcome) → (step.address v % 4 == 0) ≡ true
        → FitsIf x r (o (step.address v)) → FitsIf x r (step.aligned v o)
    unfolding step.aligned
    aligned_fits v r o even go =
        on_step_test x (step.address v % 4 == 0) _ _ _ (λ t. go)
        (λ t. let no : true ≡ false = sym even ∙ t in absurd (cc))

    -- A becomes what may be undefined
    becomes_fits : (fact : Fact) (v : Option ℤ) → Means x.m x.act.layout fact v
        → FitsIf x (memory.with_fact_a (rule_site x) fact s)
        (step.goes_on (step_site x) (step.on_stack (with_top v) l))
    becomes_fits fact v means =
        in_plain_rule x s a.same_mode _ _ (beside_plain_rule x s a.same_mode _ _
        (goes_on_fits x (rule.with_a (known fact) s) (step.on_stack (with_top v) l)
        (after_stack x a (record {
          a = record { fact = means; source = from_nowhere };
          b = a.knows.registers.b;
          c = a.knows.registers.c;
        })) same changes n))

    module _ (wf : IsWellFormed x.m) where
      -- a pointer to words, and the word that it leads to
      ldnl_word : (e v : ℤ) (q p : Pointed) → words_behind (pos 4 *ℤ e) q ≡ Ok p → FitsSigned w32 e
          → Means x.m x.act.layout (Pointer q.region q.lo q.hi q.step) (Some v)
          → may_read_bytes x.m s.context p.region p.lo (p.hi +ℤ pos 4) ≡ true
          → FitsIf x (memory.with_fact_a (rule_site x) (word_read x.m s p.region p.lo p.hi) s)
          (step.aligned v (λ at. step.reads (step_site x) (local_address at e) l (λ u.
          step.goes_on (step_site x) (step.on_stack (with_top u) l))))
      ldnl_word e v q p is fits means may =
          let b = words_behind_is x.m x.act.layout e v q p is means in
          let w = word_through wf a p.lo p.hi (b.offset +ℤ (pos 4 *ℤ e)) b.low b.high b.stepped p.region may in
          let from = region_at x.m x.act.layout p.region (b.offset +ℤ (pos 4 *ℤ e)) w.place w.is in
          aligned_fits v _ _ (even_word v (region_start x.m x.act.layout p.region) b.offset e w.place b.at from w.even)
          (reads_fits x l (local_address (step.address v) e) w.place _ _
          (word_place v (region_start x.m x.act.layout p.region) b.offset e w.place b.at fits from w.small) w.held
          (becomes_fits (word_read x.m s p.region p.lo p.hi) (word_at l.memory w.place) w.means))

      pub ldnl_fits : (e : ℤ) → FitsSigned w32 e
          → FitsIf x (table.local_rule (rule_site x) instructions.LoadNonLocal e s)
          (step.instruction_step (step_site x) instructions.LoadNonLocal e l)
      unfolding table.local_rule step.instruction_step
      ldnl_fits e fits =
          in_plain_step x s a.same_mode _ _ (pointer_fits _ _ (λ v q means.
          settles_fits x (words_behind (pos 4 *ℤ e) q) _ _ (λ p is.
          reads_bytes_fits x s p.region p.lo (p.hi +ℤ pos 4) _ _ (λ may. ldnl_word e v q p is fits means may))))

      pub lb_fits : FitsIf x (table.local_operation_rule (rule_site x) operations.LoadByte s)
          (step.operation_step (step_site x) operations.LoadByte l)
      unfolding table.local_operation_rule step.operation_step step.reads_byte
      lb_fits =
          in_plain_step x s a.same_mode _ _ (pointer_fits _ _ (λ v p means.
          reads_bytes_fits x s p.region p.lo (p.hi +ℤ pos 1) _ _ (λ may. lb_byte v p means may)))
        where
          byte_fits : (p : Pointed) (address place : ℕ) → place_of address ≡ place → may_read x.h place ≡ true
              → Means x.m x.act.layout (byte_read s p.region p.lo p.hi) (option_map pos (byte_at l.memory place))
              → FitsIf x (memory.with_fact_a (rule_site x) (byte_read s p.region p.lo p.hi) s)
              (if may_read x.h (place_of address)
              then step.goes_on (step_site x) (step.on_stack
              (with_top (option_map pos (byte_at l.memory (place_of address)))) l)
              else fails NotOwn)
          byte_fits p address place is held means =
              on_step_test x (may_read x.h (place_of address)) _ _ _
              (λ t. subst (λ (q : ℕ). FitsIf x (memory.with_fact_a (rule_site x) (byte_read s p.region p.lo p.hi) s)
              (step.goes_on (step_site x) (step.on_stack (with_top (option_map pos (byte_at l.memory q))) l))) (sym is)
              (becomes_fits (byte_read s p.region p.lo p.hi) (option_map pos (byte_at l.memory place)) means))
              (λ t. let no : true ≡ false = sym held ∙ (ap (may_read x.h) (sym is) ∙ t) in absurd (cc))

          lb_byte : (v : ℤ) (p : Pointed) → Means x.m x.act.layout (Pointer p.region p.lo p.hi p.step) (Some v)
              → may_read_bytes x.m s.context p.region p.lo (p.hi +ℤ pos 1) ≡ true
              → FitsIf x (memory.with_fact_a (rule_site x) (byte_read s p.region p.lo p.hi) s)
              (if may_read x.h (place_of (step.address v))
              then step.goes_on (step_site x) (step.on_stack
              (with_top (option_map pos (byte_at l.memory (place_of (step.address v))))) l)
              else fails NotOwn)
          lb_byte v p (is_pointer offset low high stepped at) may =
              let w = byte_through wf a p.lo p.hi offset low high p.region may in
              byte_fits p (step.address v) w.place
              (ap (λ (z : ℤ). place_of (step.address z)) at
              ∙ place_at (region_start x.m x.act.layout p.region +ℤ offset) w.place
              (region_at x.m x.act.layout p.region offset w.place w.is) w.small) w.held w.means
