-- Where the words of a PAR are prepared, and a branch's share is left, a start passes its tests.
use Rattle.std.proofs.Common.{◌≡◌, ℕ, zero, suc, ◌+◌, ◌*◌, ◌%◌, ◌^◌, ◌<◌, ◌&&◌, Bool, true, false, if◌then◌else◌, inl}
use Rattle.std.proofs.Common.{inr, ℤ, pos, ◌+ℤ◌, List, [], ◌∷◌, ◌++◌, map, length, Option, Some, None, FitsSigned, refl}
use Rattle.std.proofs.Common.{sym, ap, ◌∙◌, subst, arith}
use Rattle.std.proofs.lemmas.Bool.{eq-eqb, and_from, and_parts}
use Rattle.std.proofs.lemmas.Int.{ints, of_z-to_z}
use Rattle.std.proofs.lemmas.Option.{slice_get-map}
use Rattle.std.specs.Int.{w32, cast_unsigned, cast_signed}
use Rattle.std.specs.Option.{option_map}
use Rattle.std.specs.Prelude.{slice_get, ◌==◌, is_some, int_le, int_lt}
use Rattle.std.specs.List.{list_all}
use Rattle.small_laws.proofs.Comparisons.{int_le-true, int_lt-true}
use Rattle.small_laws.proofs.Lookups.{slice_get_there}
use Rattle.word_arithmetic.specs.Word.{least_word}
use Rattle.module_format.specs.declared.rows.ChannelRow.{ChannelRow}
use Rattle.module_format.specs.declared.rows.Parameter.{Parameter}
use Rattle.module_format.specs.Contents.{Contents, Par}
use Rattle.module_format.specs.declared.contexts.Context.{Context}
use Rattle.module_format.specs.Contexts.{context_at, parameters_at}
use Rattle.certificate.specs.Rights as rights
use Rattle.machine_state.specs.declared.fault.FaultKind.TheVariants.{EndNotHeld, NotOwn, Undefined, JoinOrder}
use Rattle.machine_state.specs.BranchShares.{frame_address, frame_base, address_of}
use Rattle.machine_state.specs.Holding.{Holding, may_write_word, may_read_word}
use Rattle.machine_state.specs.JoinLookups.{Found, row_names, named_from}
use Rattle.machine_state.specs.Memory.{Memory, place_of, data_start, word_at}
use Rattle.machine_state.specs.Ownership.{IsAmong}
use Rattle.machine_state.specs.StartPlans.{Plan, word_in, first_plan, later_plan, block_addresses, channel_addresses}
use Rattle.machine_state.specs.StartPlans.{ends_are_there, share_is_there, words_are_held, words_are_defined}
use Rattle.machine_state.specs.StartPlans.{word_is_defined, holds_word, is_prepared, is_next, first_fault, first_faults}
use Rattle.states.proofs.FrameBounds.{frame-is-small}
use Rattle.rulings.specs.Remaining.{is_hidden}
use Rattle.rulings.specs.Meaning.{Layout, Activation, frame_word, word_of, code_address}
use Rattle.rulings.proofs.Offsets.{address_of_word}
use Rattle.rulings.proofs.Words.{frame_word_is, local_place}
use Rattle.share_laws.specs.Opening.{layout_with, CanOpen}
use Rattle.share_laws.specs.Prepared.{IsPrepared, PlansAreLaidOut, FirstStartsPass, LaterStartsPass}
use Rattle.share_laws.specs.Shares.{IsBranch, IsLaidOut}
use Rattle.share_laws.specs.Starts.{IsLeft}
use Rattle.share_laws.specs.Taking.{after_opening}
use Rattle.share_laws.proofs.GoingOn.{openings_can_start}
use Rattle.share_laws.proofs.HiddenWords.{base_frame, hidden_word, hidden_place, second_place, block_hides, next_hides}
use Rattle.share_laws.proofs.HiddenWords.{channel_hides, channel_is_word, fits_words}
use Rattle.share_laws.proofs.ShareIsThere.{all_from, shares_are_there}
use Rattle.share_laws.proofs.TakenWords.{hidden_address, opening_takes_its_words}

-- ---- tests, one after the other

-- where three tests hold none fails
three_pass : (a b c : Bool) → a ≡ true → b ≡ true → c ≡ true
    → first_fault ((a, EndNotHeld) ∷ (b, NotOwn) ∷ (c, JoinOrder) ∷ []) ≡ None
three_pass true true true p q r = refl
three_pass true true false p q r = absurd (cc)
three_pass true false c p q r = absurd (cc)
three_pass false b c p q r = absurd (cc)

-- so of four
four_pass : (a b c d : Bool) → a ≡ true → b ≡ true → c ≡ true → d ≡ true
    → first_fault ((a, EndNotHeld) ∷ (b, NotOwn) ∷ (c, Undefined) ∷ (d, JoinOrder) ∷ []) ≡ None
four_pass true true true true p q r s = refl
four_pass true true true false p q r s = absurd (cc)
four_pass true true false d p q r s = absurd (cc)
four_pass true false c d p q r s = absurd (cc)
four_pass false b c d p q r s = absurd (cc)

-- what each parameter that the row names passes, all named words pass
named_each : (test : Option ℤ → Bool) (par : Par) (j : ℕ) (ps : List Parameter) → test None ≡ true
    → ((i : ℕ) (p : Parameter) → slice_get ps i ≡ Some p → row_names par (j + i) ≡ true
    → test (Some (pos p.word)) ≡ true) → list_all test (named_from par j ps) ≡ true
named_each test par j [] none each = refl
named_each test par j (p ∷ ps) none each =
    and_from _ _ (on (row_names par j) refl) (named_each test par (j + 1) ps none (λ i q there names.
    each (suc i) q there (ap (row_names par) (let e : j + suc i ≡ j + 1 + i = omega arith in e) ∙ names)))
  where
    on : (b : Bool) → row_names par j ≡ b → test (if b then Some (pos p.word) else None) ≡ true
    on true e = each 0 p refl (ap (row_names par) (let z : j + 0 ≡ j = omega arith in z) ∙ e)
    on false e = none

-- a parameter that the row names has its word among the named
named_at : (par : Par) (j i : ℕ) (ps : List Parameter) (p : Parameter) → slice_get ps i ≡ Some p
    → row_names par (j + i) ≡ true → slice_get (named_from par j ps) i ≡ Some (Some (pos p.word))
named_at par j i [] p there names = absurd (cc)
named_at par j zero (q ∷ ps) p there names =
    let same : q ≡ p = cc in
    let here : row_names par j ≡ true = ap (row_names par) (let e : j ≡ j + 0 = omega arith in e) ∙ names in
    ap (λ (b : Bool). let o : Option (Option ℤ) = Some (if b then Some (pos q.word) else None) in o) here
    ∙ ap (λ (x : Parameter). let o : Option (Option ℤ) = Some (Some (pos x.word)) in o) same
named_at par j (suc i) (q ∷ ps) p there names =
    named_at par (j + 1) i ps p there
    (ap (row_names par) (let e : j + 1 + i ≡ j + suc i = omega arith in e) ∙ names)

-- ---- what the words hold

-- a word with this value passes the test for it
word_passes : (memory : Memory) (a : ℕ) (u v : ℤ) → word_at memory (place_of a) ≡ Some u
    → cast_unsigned w32 u ≡ cast_unsigned w32 v → holds_word memory a v ≡ true
word_passes memory a u v is same = ap (λ (o : Option ℤ). elim o as (λ o. Bool) [
  | None ↦ false
  | Some u ↦ cast_unsigned w32 u == cast_unsigned w32 v
]) is ∙ eq-eqb (cast_unsigned w32 u) (cast_unsigned w32 v) same

module _ (m : Contents) (p : ℕ) (found : Found) (layout : Layout) (h : Holding) (memory : Memory)
    (workspace : ℕ) (o : CanOpen m found.row found.par layout (frame_base workspace found.par.depth) h memory
    found.par.depth workspace) (is : IsPrepared m found.par layout memory) where
  abbrev par : Par
  par = found.par

  abbrev base : ℕ
  base = frame_base workspace found.par.depth

  abbrev plan : Plan
  plan = first_plan m p workspace h memory found

  abbrev kept_addresses : List ℕ
  kept_addresses = block_addresses (frame_base workspace found.par.depth) found.par
      ++ channel_addresses (frame_base workspace found.par.depth) found.par

  -- ---- hidden words

  -- a hidden word has at its address what is said of it
  hidden_value : (k : ℤ) (hides : is_hidden found.par k ≡ true) (a : ℕ) (v : ℤ)
      → place_of a ≡ (hidden_word m found.row found.par layout base h memory found.par.depth workspace o k hides).place
      → frame_word memory layout.origin k ≡ Some v → word_at memory (place_of a) ≡ Some v
  hidden_value k hides a v at says =
      let w = hidden_word m found.row found.par layout base h memory found.par.depth workspace o k hides in
      ap (word_at memory) at ∙ sym (frame_word_is memory layout.origin k w.place w.is) ∙ says

  -- the block has the successor's address
  block_word : word_at memory (place_of (frame_address base found.par.block))
      ≡ Some (word_of (pos (code_address m found.par.successor)))
  block_word = hidden_value found.par.block
      (block_hides m found.row found.par layout base h memory found.par.depth workspace o)
      (frame_address base found.par.block) _
      (hidden_place m found.row found.par layout base h memory found.par.depth workspace o found.par.block
      (block_hides m found.row found.par layout base h memory found.par.depth workspace o)
      (fits_words m found.row found.par layout base h memory found.par.depth workspace o).block) is.block

  -- and one more than the number of branches
  count_word : word_at memory (place_of (frame_address (frame_address base found.par.block) (pos 1)))
      ≡ Some (pos (length found.par.branches + 1))
  count_word = hidden_value (found.par.block +ℤ pos 1)
      (next_hides m found.row found.par layout base h memory found.par.depth workspace o)
      (frame_address (frame_address base found.par.block) (pos 1)) _
      (second_place m found.row found.par layout base h memory found.par.depth workspace o) is.count

  -- each channel is empty
  channel_word : (c : ChannelRow) → IsAmong c found.par.channels
      → word_at memory (place_of (frame_address base c.word)) ≡ Some least_word
  channel_word c among =
      let hides = channel_hides m found.row found.par layout base h memory found.par.depth workspace o c.word
      (channel_is_word m found.row found.par layout base h memory found.par.depth workspace o c among) in
      hidden_value c.word hides (frame_address base c.word) least_word
      (hidden_place m found.row found.par layout base h memory found.par.depth workspace o c.word hides
      ((fits_words m found.row found.par layout base h memory found.par.depth workspace o).channels c among))
      (is.channels c among)

  -- what each channel's address passes all pass
  channel_each : (test : ℕ → Bool)
      → ((c : ChannelRow) → IsAmong c found.par.channels → test (frame_address base c.word) ≡ true)
      → list_all test (channel_addresses base found.par) ≡ true
  channel_each test each = on found.par.channels each
    where
      on : (cs : List ChannelRow) → ((c : ChannelRow) → IsAmong c cs → test (frame_address base c.word) ≡ true)
          → list_all test (map (λ (c : ChannelRow). frame_address base c.word) cs) ≡ true
      on [] each = refl
      on (c ∷ cs) each = and_from _ _ (each c (inl refl)) (on cs (λ d among. each d (inr among)))

  -- ---- words of parameters

  -- a word of the frame is small
  word_fits : (k : ℤ) → rights.may_read_word m found.par.context k ≡ true → FitsSigned w32 k
  word_fits k reads = on (context_at m found.par.context) refl (and_parts _ _ reads).0
    where
      on : (c : Option Context) → context_at m found.par.context ≡ c → rights.has_word c k ≡ true → FitsSigned w32 k
      on None e h = absurd (cc)
      on (Some context) e h =
          let small = frame-is-small m o.keeps found.par.context context e in
          let inside = and_parts (int_le context.lo k) (int_lt k context.hi) h in
          let low = int_le-true context.lo k inside.0 in
          let high = int_lt-true k context.hi inside.1 in
          let least = small.low in
          let most = small.high in
          omega (arith, ints, low, high, least, most)

  -- the word of a parameter that the row names
  parameter_word : (j : ℕ) (q : Parameter) → row_names found.par j ≡ true
      → slice_get (parameters_at m found.par.context) j ≡ Some q
      → (may_read_word h (place_of (frame_address base (pos q.word))) ≡ true)
      × (word_at memory (place_of (frame_address base (pos q.word))) ≡ Some (word_of (pos (layout.starts j))))
  parameter_word j q names there =
      let says = is.parameters j q names there in
      let w = o.frame.readable (pos q.word) says.reads in
      let at = local_place (base_frame m found.row found.par layout base h memory found.par.depth workspace o)
      (pos q.word) (word_fits (pos q.word) says.reads) w.place (let is = w.is in omega (arith, ints, is)) w.inside in (
        subst (λ (x : ℕ). may_read_word h x ≡ true) (sym at) w.readable,
        ap (word_at memory) at ∙ sym (frame_word_is memory layout.origin (pos q.word) w.place w.is) ∙ says.is,
      )

  -- what the word of each named parameter passes all pass
  parameter_each : (test : ℕ → Bool) → ((j : ℕ) (q : Parameter) → row_names found.par j ≡ true
      → slice_get (parameters_at m found.par.context) j ≡ Some q → test (frame_address base (pos q.word)) ≡ true)
      → list_all (λ (named : Option ℤ). elim named as (λ o. Bool) [
        | None ↦ true
        | Some word ↦ test (frame_address base word)
      ]) (named_from found.par 0 (parameters_at m found.par.context)) ≡ true
  parameter_each test each = named_each (λ (named : Option ℤ). elim named as (λ o. Bool) [
    | None ↦ true
    | Some word ↦ test (frame_address base word)
  ]) found.par 0 (parameters_at m found.par.context) refl (λ j q there names.
      each j q (ap (row_names found.par) (let e : j ≡ 0 + j = omega arith in e) ∙ names) there)

  -- ---- the tests

  -- the words that open the PAR are held
  held : words_are_held h plan ≡ true
  held = and_from _ _
      (all_from (λ a. may_write_word h (place_of a)) kept_addresses (λ a among.
      let t = hidden_address m found.row found.par layout base h memory found.par.depth workspace o a among in
      subst (λ (x : ℕ). may_write_word h x ≡ true) (sym t.place) t.word.mine))
      (parameter_each (λ a. may_read_word h (place_of a)) (λ j q names there. (parameter_word j q names there).0))

  -- a word with a value is defined
  is_defined : (a : ℕ) (v : ℤ) → word_at memory (place_of a) ≡ Some v → word_is_defined memory a ≡ true
  is_defined a v says = ap (λ (o : Option ℤ). is_some o) says

  -- the words are defined
  defined : words_are_defined memory plan ≡ true
  defined = and_from _ _
      (and_from _ _ (is_defined (frame_address base found.par.block) _ block_word)
      (and_from _ _ (is_defined (frame_address (frame_address base found.par.block) (pos 1)) _ count_word)
      (channel_each (word_is_defined memory) (λ c among. is_defined (frame_address base c.word) _ (channel_word c
      among)))))
      (parameter_each (word_is_defined memory) (λ j q names there.
      is_defined (frame_address base (pos q.word)) _ (parameter_word j q names there).1))

  -- the successor's address is the word that is asked for
  code_word : cast_unsigned w32 (word_of (pos (code_address m found.par.successor)))
      ≡ cast_unsigned w32 (cast_signed w32 ((data_start + 4 * m.data_words + found.par.successor) % 2 ^ 32))
  code_word = address_of_word (code_address m found.par.successor)
      ∙ sym (of_z-to_z w32 ((data_start + 4 * m.data_words + found.par.successor) % 2 ^ 32) (omega arith))

  -- the words are as they are asked for
  prepared : is_prepared m memory plan ≡ true
  prepared = and_from _ _ (and_from _ _
      (word_passes memory (frame_address base found.par.block) (word_of (pos (code_address m found.par.successor)))
      (cast_signed w32 ((data_start + 4 * m.data_words + found.par.successor) % 2 ^ 32)) block_word code_word)
      (word_passes memory (frame_address (frame_address base found.par.block) (pos 1))
      (pos (length found.par.branches + 1)) (pos (length found.par.branches + 1)) count_word refl))
      (channel_each (λ a. holds_word memory a least_word) (λ c among.
      word_passes memory (frame_address base c.word) least_word least_word (channel_word c among) refl))

  -- ---- where parameters lie

  -- the word of a named parameter has its address
  address_is : (j : ℕ) → row_names found.par j ≡ true → j < length (parameters_at m found.par.context)
      → address_of (map (word_in h memory base) (named_from found.par 0 (parameters_at m found.par.context))) j
      ≡ Some (layout.starts j % 2 ^ 32)
  address_is j names low = on (slice_get (parameters_at m found.par.context) j) refl
    where
      on : (q : Option Parameter) → slice_get (parameters_at m found.par.context) j ≡ q
          → address_of (map (word_in h memory base) (named_from found.par 0 (parameters_at m found.par.context))) j
          ≡ Some (layout.starts j % 2 ^ 32)
      on None e = absurd (slice_get_there (parameters_at m found.par.context) j low e)
      on (Some q) e =
          let w = parameter_word j q names e in
          let at : slice_get (map (word_in h memory base) (named_from found.par 0 (parameters_at m
          found.par.context))) j
          ≡ Some (word_in h memory base (Some (pos q.word))) =
          slice_get-map (word_in h memory base) (named_from found.par 0 (parameters_at m found.par.context)) j
          ∙ ap (option_map (word_in h memory base)) (named_at found.par 0 j (parameters_at m found.par.context) q e
          (ap (row_names found.par) (let e : 0 + j ≡ j = omega arith in e) ∙ names)) in
          ap (λ (o : Option (Option ℕ)). elim o as (λ o. Option ℕ) [ None ↦ None | Some a ↦ a ]) at
          ∙ ap (λ (b : Bool). if b then option_map (cast_unsigned w32)
          (word_at memory (place_of (frame_address base (pos q.word)))) else None) w.0
          ∙ ap (option_map (cast_unsigned w32)) w.1
          ∙ ap (λ (n : ℕ). Some n) (address_of_word (layout.starts j))

  -- so the plan lies where the layout says
  pub laid_out : IsLaidOut m found.par (layout_with layout found.par) base
      (map (word_in h memory base) (named_from found.par 0 (parameters_at m found.par.context)))
  laid_out = record { origin = o.origin; named = address_is }

  -- ---- all of them

  -- no test of the first start fails
  pub first_passes : found.number ≡ 0 → IsBranch m found → IsLeft m found
      → first_fault (first_faults m memory h plan found (frame_address base found.branch.workspace)) ≡ None
  first_passes first there left =
      let act : Activation = record { layout = layout; turns = λ k. 0 } in
      let can = openings_can_start m found act base plan.addresses h memory found.par.depth workspace o first left
      laid_out
      there in
      let share = shares_are_there m found (layout_with layout found.par) plan (after_opening found.par base memory)
      found.par.depth workspace refl can in
      let size = (opening_takes_its_words m found.row found.par layout base h memory found.par.depth workspace o).size
      in
      four_pass (ends_are_there plan found.branch)
      (share_is_there (length memory) plan (frame_address base found.branch.workspace) found.branch
      && words_are_held h plan) (words_are_defined memory plan)
      (is_next plan found (frame_address base found.branch.workspace) && is_prepared m memory plan) share.ends
      (and_from _ _ (subst (λ (n : ℕ).
      share_is_there n plan (frame_address base found.branch.workspace) found.branch ≡ true) size share.share) held)
      defined
      (and_from _ _ (and_from _ _ (eq-eqb found.number 0 first) (eq-eqb (frame_address base found.branch.workspace)
      (frame_address base found.branch.workspace) refl)) prepared)

-- the plan of a first start
pub plans_are_laid_out : PlansAreLaidOut
plans_are_laid_out m p found layout h memory workspace o is = laid_out m p found layout h memory workspace o is

-- its tests
pub first_starts_pass : FirstStartsPass
first_starts_pass m p found layout h memory workspace o is first there left =
    first_passes m p found layout h memory workspace o is first there left

-- those of a later one
pub later_starts_pass : LaterStartsPass
later_starts_pass m join found layout memory depth workspace can number =
    let share = shares_are_there m found layout (later_plan m join found.par) memory depth workspace refl can in
    three_pass (ends_are_there (later_plan m join found.par) found.branch)
    (share_is_there (length memory) (later_plan m join found.par) (frame_address join.base found.branch.workspace)
    found.branch) (is_next (later_plan m join found.par) found (frame_address join.base found.branch.workspace))
    share.ends share.share
    (and_from _ _ (eq-eqb found.number join.started number) (eq-eqb (frame_address join.base found.branch.workspace)
    (frame_address join.base found.branch.workspace) refl))
