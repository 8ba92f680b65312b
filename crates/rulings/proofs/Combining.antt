-- What the rules of instructions are made of fits what their steps are made of, combinator by combinator.
use Rattle.std.proofs.Common.{◌≡◌, ℕ, ◌+◌, ◌-◌, ◌≤◌, ◌<◌, ℤ, negsuc, ◌+ℤ◌, FitsSigned, Bool, true, false, cond, ◌&&◌}
use Rattle.std.proofs.Common.{◌||◌, suc, inl, inr, [], ◌∷◌, length, Option, Some, None, Result, Ok, Err, refl, sym, ap}
use Rattle.std.proofs.Common.{◌∙◌, subst, arith, ltb, zero, pos, ◌≤ℤ◌, nat_abs}
use Rattle.std.specs.Prelude.{int_le}
use Rattle.std.proofs.lemmas.Bool.Decides.{leb_tells}
use Rattle.std.proofs.lemmas.Int.{ints}
use Rattle.std.specs.Int.{w32}
use Rattle.std.specs.List.{list_any}
use Rattle.std.proofs.lemmas.Bool.{and_parts, and_from, or_left}
use Rattle.small_laws.proofs.Comparisons.{le-int_le}
use Rattle.module_format.specs.Rows.{Fact}
use Rattle.module_format.specs.declared.fact.Fact.TheVariants.{Unknown, Number, Pointer, CodeAddress, Loop}
use Rattle.module_format.specs.declared.fact.Fact.TheVariants.{ReturnAddress}
use Rattle.module_format.specs.declared.fact.Region.{Region}
use Rattle.module_format.specs.declared.stack.Stack.{Stack}
use Rattle.module_format.specs.Stack.{AreRelated}
use Rattle.module_format.specs.Contents.{Contents, Label, label_at, Par, Branch}
use Rattle.certificate.specs.Branches.{numbered_branch}
use Rattle.certificate.specs.Rights as rights
use Rattle.machine_state.specs.declared.process.Mode as machine
use Rattle.machine_state.specs.declared.process.Mode.TheVariants as machine_modes
use Rattle.machine_state.specs.declared.fault.FaultKind.{FaultKind}
use Rattle.machine_state.specs.declared.fault.FaultKind.TheVariants.{NotOwn}
use Rattle.machine_state.specs.Memory.{Memory, place_of, local_address, scheduling_word, word_at, with_word}
use Rattle.machine_state.specs.Frame.{ChangesOwn}
use Rattle.machine_state.specs.Holding.{Holding, covers, may_write, may_read, may_write_word, may_read_word}
use Rattle.machine_state.specs.LocalStep as step
use Rattle.machine_state.specs.Site.{Outcome, Local, fails}
use Rattle.machine_state.proofs.Reading.{length-with_word}
use Rattle.machine_state.proofs.Frame.{write_is_own, changes_more}
use Rattle.machine_state.proofs.Scheduling.{schedules-is}
use Rattle.states.specs.declared.known.Mode as states
use Rattle.states.specs.declared.known.Mode.TheVariants as states_modes
use Rattle.states.specs.declared.known.Known.{Known}
use Rattle.states.specs.declared.rule.Rule.{Rule}
use Rattle.states.specs.declared.rule.Rule.TheVariants as rules
use Rattle.states.specs.State.{State, unknown, one_word, written}
use Rattle.states.specs.Below.{below}
use Rattle.rulings.specs.Regions.{Scope, scope_of, KeepsMemory}
use Rattle.rulings.proofs.Regions.{keeps_more, write_keeps}
use Rattle.rulings.specs.Rulings as rule
use Rattle.rulings.specs.Rulings.{Ruling, falls, leads, breaks, leading}
use Rattle.rulings.specs.Meaning.{Layout, Activation, Means, says_nothing, IsOwnWord, Words, words_in, HasFrame}
use Rattle.rulings.specs.Meaning.{from_nowhere, MeansKnown, IsWellFormed, SameMode, both_plain, both_enabling}
use Rattle.rulings.specs.Meaning.{both_disabling, both_starting, dues, owed, label_turns, place_in}
use Rattle.rulings.specs.Fitting.{Changes, Described, After, Situation, rule_site, step_site, Fits, it_falls, it_leads}
use Rattle.rulings.specs.Fitting.{it_breaks, GoesTo, goes_behind, is_jump, HasNext, Stays, StandsAt}
use Rattle.rulings.proofs.Within.{Modes, Within, ArePlain, AreStill, is_starting, whole_after}
use Rattle.rulings.proofs.Words.{local_place, knows_changed, write_follows}
use Rattle.rulings.proofs.Entering.{below_tells, label_after}
use Rattle.rulings.proofs.Dues.{written_owed, label_owed}
use Rattle.rulings.specs.Reach.{may_read_bytes, may_write_bytes}
use Rattle.rulings.specs.Pointers.{reads_bytes, writes_bytes}

abbrev pub FitsIf : Situation → Ruling → Outcome → Type 0
FitsIf x r o = HasNext x r → Fits x r o

wider : (a b c d p q r t : Bool) → (a && b && c && d) ≡ true → ((a || p) && (b || q) && (c || r) && (d || t)) ≡ true
wider true true true true p q r t h = refl
wider true true true false p q r t h = absurd (cc)
wider true true false d p q r t h = absurd (cc)
wider true false c d p q r t h = absurd (cc)
wider false b c d p q r t h = absurd (cc)

pub readable_byte : (h : Holding) (place : ℕ) → may_write h place ≡ true → may_read h place ≡ true
readable_byte h place mine = or_left (may_write h place) (list_any (λ span. covers span place) h.reads) mine

pub readable : (h : Holding) (place : ℕ) → may_write_word h place ≡ true → may_read_word h place ≡ true
unfolding may_write_word may_read_word
readable h place mine =
    let reads : ℕ → Bool = λ place. list_any (λ span. covers span place) h.reads in
    wider (may_write h place) (may_write h (place + 1)) (may_write h (place + 2)) (may_write h (place + 3))
    (reads place) (reads (place + 1)) (reads (place + 2)) (reads (place + 3)) mine

-- a word of the frame that may be written may be read
pub written_readable : (m : Contents) (n : ℕ) (k : ℤ) → rights.may_write_word m n k ≡ true
    → rights.may_read_word m n k ≡ true
written_readable m n k h =
    let both = and_parts _ _ h in
    and_from _ _ both.0 (of_branch (numbered_branch m n) both.1)
  where
    of_branch : (o : Option (Par × Branch))
        → (elim o as (λ o. Bool) [ None ↦ true | Some found ↦ rights.is_among found.1.writes k ]) ≡ true
        → (elim o as (λ o. Bool) [
          | None ↦ true
          | Some found ↦ rights.is_among found.1.writes k
              || rights.is_among found.1.reads k
        ]) ≡ true
    of_branch None h = refl
    of_branch (Some found) h = or_left (rights.is_among found.1.writes k) (rights.is_among found.1.reads k) h

pub same_frame : {h : Holding} {old new : ℕ} {words : Words} {origin depth : ℤ} {workspace : ℕ} → old ≡ new
    → HasFrame h old words origin depth workspace → HasFrame h new words origin depth workspace
same_frame {h} {old} {new} {words} {origin} {depth} {workspace} e f =
    subst (λ size. HasFrame h size words origin depth workspace) e f

pub enough : (n k due total : ℕ) → ltb n k ≡ false → n + due ≤ total → n - k + due + k ≤ total
enough n k due total t e = elim (leb_tells (suc n) k) [
  | inl p ↦ let no' : true ≡ false = sym p.0 ∙ t in absurd
      (cc)
  | inr p ↦ let high : k ≤ n = omega (arith, p.1) in omega arith
]

-- ---- the words that scheduling takes

-- a context may write the three words below its workspace
pub record MaySchedule (m : Contents) (context : ℕ) (depth : ℤ) : Type 0 where
  pub first : rights.may_write_word m context (depth +ℤ negsuc 0) ≡ true
  pub second : rights.may_write_word m context (depth +ℤ negsuc 1) ≡ true
  pub third : rights.may_write_word m context (depth +ℤ negsuc 2) ≡ true

-- a state in which they are unknown
abbrev pub unscheduled : State → State
unscheduled s =
    written (s.depth +ℤ negsuc 2) Unknown (written (s.depth +ℤ negsuc 1) Unknown
    (written (s.depth +ℤ negsuc 0) Unknown s))

-- memory in which they are undefined
abbrev pub scheduled : Local → Memory
scheduled l = step.without_scheduling_words l.memory l.registers.workspace

-- Scheduling takes the three words: they are the process's own, and all else that is known holds without them.
pub record Scheduled (x : Situation) (E : Modes) (s : State) (l : Local) : Type 0 where
  pub may : step.holds_scheduling_words x.h l.registers.workspace ≡ true
  pub places : (n : ℕ) → n < 3
      → pos (place_of (scheduling_word l.registers.workspace n)) ≡ place_in x.act.layout.origin (s.depth +ℤ negsuc n)
  pub after : Within E x.m x.h x.mode x.act (unscheduled s) (record l { memory = scheduled l })
  pub own : ChangesOwn x.h l.memory (scheduled l)
  pub keeps : KeepsMemory x.m x.h (scope_of x.m s.context x.act.layout) l.memory (scheduled l)

pub below_not : (a b : ℕ) → a < b → ltb a b ≡ false → ⊥
below_not a b low t = elim (leb_tells (suc a) b) [
  | inl p ↦ let no' : true ≡ false = sym p.0 ∙ t in (cc)
  | inr p ↦
      let high : b < suc a = p.1 in omega arith
]

-- ---- what holds after an instruction that changes one thing

-- the number
pub paid : {m : Contents} {h : Holding} {mode : machine.Mode} {act : Activation} {s : State} {l : Local} {scope : Scope}
    {n : ℕ} → Described m h mode act s l scope → Described m h mode act (record s { number = n }) l scope
paid a = record { frame = a.frame; knows = a.knows; named = a.named; same_mode = a.same_mode }

-- the place in the code
pub elsewhere : {m : Contents} {h : Holding} {mode : machine.Mode} {act : Activation} {s : State} {l : Local}
    {scope : Scope} (at began : ℕ) (operand : ℤ) → Described m h mode act s l scope
    → Described m h mode act s
    (record l { registers = record l.registers { at = at; began = began; operand = operand } }) scope
elsewhere at began operand a =
    record { frame = a.frame; knows = a.knows; named = a.named; same_mode = a.same_mode }

-- the registers
pub stacked : {m : Contents} {h : Holding} {mode : machine.Mode} {act : Activation} {s : State} {l : Local}
    {scope : Scope} {said : Stack Known} {stack : Stack (Option ℤ)} → Described m h mode act s l scope
    → AreRelated (MeansKnown m scope.words.reads act.layout l.memory) said stack
    → Described m h mode act (record s { stack = said })
    (record l { registers = record l.registers { stack = stack } }) scope
stacked a related = record {
  frame = a.frame;
  knows = record { registers = related; words = a.knows.words };
  named = a.named;
  same_mode = a.same_mode;
}

-- ---- registers

pub unknown_means : {m : Contents} {counts : ℤ → Bool} {layout : Layout} {memory : Memory} {v : Option ℤ}
    → MeansKnown m counts layout memory unknown v
unknown_means = record { fact = says_nothing; source = from_nowhere }

-- ---- modes

-- neither starts branches
pub still_step : {p : states.Mode} {q : machine.Mode} → AreStill p q → (o : Outcome) → step.outside_starts q o ≡ o
unfolding step.outside_starts
still_step {p} {q} same o = on p q same.still same.modes
  where
    on : (p : states.Mode) (q : machine.Mode) → is_starting p ≡ false → SameMode p q → step.outside_starts q o ≡ o
    on p q e both_plain = refl
    on p q e both_enabling = refl
    on p q e both_disabling = refl
    on p q e both_starting = absurd (cc)

pub still_rule : {p : states.Mode} {q : machine.Mode} → AreStill p q → (r : Ruling) → rule.outside_starts p r ≡ r
unfolding rule.outside_starts
still_rule {p} {q} same r = on p same.still
  where
    on : (p : states.Mode) → is_starting p ≡ false → rule.outside_starts p r ≡ r
    on states_modes.Plain e = refl
    on states_modes.Enabling e = refl
    on (states_modes.Disabling done) e = refl
    on (states_modes.Starting row started) e = absurd (cc)

module _ (x : Situation) where
  pub on_rule_test : (b : Bool) (one other : Ruling) (o : Outcome) → (b ≡ true → FitsIf x one o)
      → (b ≡ false → FitsIf x other o) → FitsIf x (cond b one other) o
  on_rule_test true one other o f g = f refl
  on_rule_test false one other o f g = g refl

  -- what is wanted, else a rule is broken
  pub wanted_fits : (b : Bool) (r : Ruling) (broken : Rule) (o : Outcome) → (b ≡ true → FitsIf x r o)
      → FitsIf x (cond b r (breaks broken)) o
  wanted_fits b r broken o go = on_rule_test b r (breaks broken) o go (λ t next. it_breaks)

  pub on_step_test : (b : Bool) (r : Ruling) (one other : Outcome) → (b ≡ true → FitsIf x r one)
      → (b ≡ false → FitsIf x r other) → FitsIf x r (cond b one other)
  on_step_test true r one other f g = f refl
  on_step_test false r one other f g = g refl

  -- ---- one lemma for each pair of combinators

  uses_fact : (fact : Fact) (v : Option ℤ) (r : Ruling) (o : ℤ → Outcome) → Means x.m x.act.layout fact v
      → ((a : ℤ) → v ≡ Some a → FitsIf x r (o a))
      → FitsIf x (elim fact as (λ f. Ruling) [ Unknown ↦ breaks rules.UnknownRegister | _ ↦ r ]) (step.uses v o)
  unfolding step.uses
  uses_fact Unknown v r o means go = λ next. it_breaks
  uses_fact (Number lo hi) None r o means go = elim means [ ]
  uses_fact (Number lo hi) (Some a) r o means go = go a refl
  uses_fact (Pointer region lo hi step) None r o means go = elim means [ ]
  uses_fact (Pointer region lo hi step) (Some a) r o means go = go a refl
  uses_fact (CodeAddress offset) None r o means go = elim means [ ]
  uses_fact (CodeAddress offset) (Some a) r o means go = go a refl
  uses_fact (Loop base count weight) v r o means go = elim means [ ]
  uses_fact ReturnAddress None r o means go = elim means [ ]
  uses_fact ReturnAddress (Some a) r o means go = go a refl

  -- the value of the register is this one, and what is known of it holds
  pub uses_value : {counts : ℤ → Bool} {memory : Memory} (k : Known) (v : Option ℤ) (r : Fact → Ruling)
      (o : ℤ → Outcome) → MeansKnown x.m counts x.act.layout memory k v
      → ((a : ℤ) → v ≡ Some a → MeansKnown x.m counts x.act.layout memory k (Some a) → FitsIf x (r k.fact) (o a))
      → FitsIf x (rule.uses k r) (step.uses v o)
  unfolding rule.uses
  uses_value {counts} {memory} k v r o means go = uses_fact k.fact v (r k.fact) o means.fact
      (λ a is. go a is (subst (λ (u : Option ℤ). MeansKnown x.m counts x.act.layout memory k u) is means))

  pub uses_fits : {counts : ℤ → Bool} {memory : Memory} (k : Known) (v : Option ℤ) (r : Fact → Ruling)
      (o : ℤ → Outcome) → MeansKnown x.m counts x.act.layout memory k v
      → ((a : ℤ) → MeansKnown x.m counts x.act.layout memory k (Some a) → FitsIf x (r k.fact) (o a))
      → FitsIf x (rule.uses k r) (step.uses v o)
  uses_fits k v r o means go = uses_value k v r o means (λ a is. go a)

  -- what is wanted of numbers
  pub in_bounds_fits : (b : Bool) (r : Ruling) (o : Outcome) → (b ≡ true → FitsIf x r o)
      → FitsIf x (rule.in_bounds b r) o
  unfolding rule.in_bounds
  in_bounds_fits b r o go = wanted_fits b _ _ _ go

  -- a test that holds, else this rule is broken
  pub wants_fits : (b : Bool) (broken : Rule) (r : Ruling) (o : Outcome) → (b ≡ true → FitsIf x r o)
      → FitsIf x (rule.wants b broken r) o
  unfolding rule.wants
  wants_fits b broken r o go = wanted_fits b r broken o go

  -- a result, unless it is that a rule is broken
  pub settles_fits : {A : Type 0} (r : Result A Rule) (k : A → Ruling) (o : Outcome)
      → ((v : A) → r ≡ Ok v → FitsIf x (k v) o)
      → FitsIf x (rule.settles r k) o
  unfolding rule.settles
  settles_fits (Ok v) k o go = go v refl
  settles_fits (Err broken) k o go = λ next. it_breaks

  -- the bytes of a region may be read
  pub reads_bytes_fits : (s : State) (region : Region) (first end : ℤ) (r : Ruling) (o : Outcome)
      → (may_read_bytes x.m s.context region first end ≡ true → FitsIf x r o)
      → FitsIf x (reads_bytes (rule_site x) s region first end r) o
  unfolding reads_bytes
  reads_bytes_fits s region first end r o go = wanted_fits (may_read_bytes x.m s.context region first end) _ _ _ go

  -- they may be written
  pub writes_bytes_fits : (s : State) (region : Region) (first end : ℤ) (r : Ruling) (o : Outcome)
      → (may_write_bytes x.m s.context region first end ≡ true → FitsIf x r o)
      → FitsIf x (writes_bytes (rule_site x) s region first end r) o
  unfolding writes_bytes
  writes_bytes_fits s region first end r o go = wanted_fits (may_write_bytes x.m s.context region first end) _ _ _ go

  -- a test that holds
  pub holds_fits : (b : Bool) (kind : FaultKind) (r : Ruling) (o : Outcome) → b ≡ true → FitsIf x r o
      → FitsIf x r (step.holds b kind o)
  unfolding step.holds
  holds_fits b kind r o e go = subst (λ (c : Bool). FitsIf x r (step.holds c kind o)) (sym e) go

  -- a count from the least to the most
  pub counts_fits : (least most : ℕ) (v : ℤ) (r : Ruling) (o : ℕ → Outcome) → pos least ≤ℤ v → v ≤ℤ pos most
      → FitsIf x r (o (nat_abs v)) → FitsIf x r (step.counts least most v o)
  unfolding step.counts
  counts_fits least most v r o low high go =
      on_step_test (int_le (pos least) v && int_le v (pos most)) _ _ _ (λ t. go)
      (λ t.
      let no : true ≡ false = sym (and_from _ _ (le-int_le (pos least) v low) (le-int_le v (pos most) high)) ∙ t in
      absurd (cc))

  -- the frame's word at depth + e, which is written
  pub writes_word_fits : (s : State) (e : ℤ) (r : Ruling) (o : Outcome)
      → (rights.may_write_word x.m s.context (s.depth +ℤ e) ≡ true → FitsIf x r o)
      → FitsIf x (rule.writes_word (rule_site x) s (s.depth +ℤ e) r) o
  unfolding rule.writes_word
  writes_word_fits s e r o go = wanted_fits (rights.may_write_word x.m s.context (s.depth +ℤ e)) _ _ _ go

  -- which is read
  pub reads_word_fits : (s : State) (e : ℤ) (r : Ruling) (o : Outcome)
      → (rights.may_read_word x.m s.context (s.depth +ℤ e) ≡ true → FitsIf x r o)
      → FitsIf x (rule.reads_word (rule_site x) s (s.depth +ℤ e) r) o
  unfolding rule.reads_word
  reads_word_fits s e r o go = wanted_fits (rights.may_read_word x.m s.context (s.depth +ℤ e)) _ _ _ go

  pub writes_fits : (l : Local) (address place : ℕ) (v : Option ℤ) (r : Ruling) (o : Local → Outcome)
      → place_of address ≡ place → may_write_word x.h place ≡ true
      → FitsIf x r (o (record l { memory = with_word l.memory place v }))
      → FitsIf x r (step.writes (step_site x) address v l o)
  unfolding step.writes
  writes_fits l address place v r o is mine go =
      on_step_test (may_write_word x.h (place_of address)) _ _ _
      (λ t. subst (λ p. FitsIf x r (o (record l { memory = with_word l.memory p v }))) (sym is) go)
      (λ t. let no : true ≡ false = sym mine ∙ ap (may_write_word x.h) (sym is) ∙ t in absurd (cc))

  pub reads_fits : (l : Local) (address place : ℕ) (r : Ruling) (o : Option ℤ → Outcome) → place_of address ≡ place
      → may_read_word x.h place ≡ true
      → FitsIf x r (o (word_at l.memory place)) → FitsIf x r (step.reads (step_site x) address l o)
  unfolding step.reads
  reads_fits l address place r o is held go =
      on_step_test (may_read_word x.h (place_of address)) _ _ _
      (λ t. subst (λ p. FitsIf x r (o (word_at l.memory p))) (sym is) go)
      (λ t. let no : true ≡ false = sym held ∙ ap (may_read_word x.h) (sym is) ∙ t in absurd (cc))

  -- a process in whatever mode goes on
  pub going_on_fits : (s : State) (l : Local) → After x.m x.h x.mode x.act s l → s.context ≡ x.context
      → Changes x l.memory
      → owed s x.act ≤ x.owed → ((x.mode ≡ machine_modes.Plain → ⊥) → Stays x s l)
      → FitsIf x (rule.goes_on (rule_site x) s) (step.goes_on (step_site x) l)
  unfolding rule.goes_on rule.pays step.goes_on
  going_on_fits s l a same changes n stays =
      on_rule_test (ltb s.number x.len) _ _ _
      (λ t next. it_breaks)
      (λ t next. let low = next _ refl in
      on_step_test (ltb (x.at + x.len) (length x.m.code)) (falls (record s { number = s.number - x.len })) _ _
      (λ u next. it_falls refl goes_behind low (paid a) same changes
      (enough s.number x.len (dues s.frame x.act.turns) x.owed t n)
      (λ busy. let b = stays busy in
      record { mode = b.mode; guards = b.guards; depth = b.depth; memory = b.memory }))
      (λ u. absurd (below_not _ _ low u)) next)

  -- one in plain mode
  pub goes_on_fits : (s : State) (l : Local) → Within ArePlain x.m x.h x.mode x.act s l → s.context ≡ x.context
      → Changes x l.memory
      → owed s x.act ≤ x.owed → FitsIf x (rule.goes_on (rule_site x) s) (step.goes_on (step_site x) l)
  goes_on_fits s l a same changes n =
      going_on_fits s l (whole_after a) same changes n (λ busy. absurd (busy a.same_mode.step))

  -- a state that differs from that before the instruction in registers and in its number alone
  pub stays_by : {s : State} {l : Local} → StandsAt x s l → (t : State) (k : Local) → t.mode ≡ s.mode
      → t.guards ≡ s.guards → t.depth ≡ s.depth → k.memory ≡ l.memory → Stays x t k
  stays_by at t k mode guards depth memory = record {
    mode = mode ∙ ap (λ (u : State). u.mode) (sym at.state);
    guards = guards ∙ ap (λ (u : State). u.guards) (sym at.state);
    depth = depth ∙ ap (λ (u : State). u.depth) (sym at.state);
    memory = memory ∙ at.memory;
  }

  -- ---- a write to a word of the frame

  pub after_write : {E : Modes} (s : State) (l : Local) (e : ℤ) (f : Fact) (v : Option ℤ)
      → Within E x.m x.h x.mode x.act s l
      → rights.may_write_word x.m s.context (s.depth +ℤ e) ≡ true
      → (w : IsOwnWord x.h (length l.memory) x.act.layout.origin (s.depth +ℤ e))
      → Means x.m x.act.layout f (word_at (with_word l.memory w.place v) w.place)
      → Within E x.m x.h x.mode x.act (written (s.depth +ℤ e) f s) (record l { memory = with_word l.memory w.place v })
  unfolding written
  after_write s l e f v a t w means = record {
    frame = same_frame (sym (length-with_word l.memory w.place v)) a.frame;
    knows = knows_changed (one_word (s.depth +ℤ e) f)
        (write_follows x.m x.h (words_in x.m s.context).reads x.act.layout (s.depth +ℤ e) l.memory f v w means) a.knows;
    named = (write_keeps x.m x.h (scope_of x.m s.context x.act.layout) (s.depth +ℤ e) l.memory v t
        (written_readable x.m s.context (s.depth +ℤ e) t) w).named a.named;
    same_mode = a.same_mode;
    modes = a.modes;
    whole = a.whole;
  }

  pub write_step : {E : Modes} (s : State) (l : Local) (e : ℤ) (f : Fact) (v : Option ℤ)
      (r : Ruling) (o : Local → Outcome)
      → Within E x.m x.h x.mode x.act s l → s.context ≡ x.context → Changes x l.memory
      → FitsSigned w32 e → rights.may_write_word x.m s.context (s.depth +ℤ e) ≡ true
      → ((place : ℕ) → place + 4 ≤ length l.memory
      → Means x.m x.act.layout f (word_at (with_word l.memory place v) place))
      → ((memory : Memory) → Within E x.m x.h x.mode x.act (written (s.depth +ℤ e) f s) (record l { memory = memory })
      → Changes x memory → FitsIf x r (o (record l { memory = memory })))
      → FitsIf x r (step.writes (step_site x) (local_address l.registers.workspace e) v l o)
  write_step s l e f v r o a same changes fits t means go =
      let w = a.frame.own (s.depth +ℤ e) t in
      writes_fits l (local_address l.registers.workspace e) w.place v r o
      (local_place a.frame e fits w.place w.is w.inside) w.mine
      (go (with_word l.memory w.place v) (after_write s l e f v a t w (means w.place w.inside)) (record {
        own = changes_more x.h x.memory l.memory (with_word l.memory w.place v) changes.own
            (write_is_own x.h l.memory w.place v w.mine);
        keeps = keeps_more changes.keeps (write_keeps x.m x.h (scope_of x.m x.context x.act.layout) (s.depth +ℤ e)
            l.memory v (ap (λ (n : ℕ). rights.may_write_word x.m n (s.depth +ℤ e)) (sym same) ∙ t)
            (written_readable x.m x.context (s.depth +ℤ e)
            (ap (λ (n : ℕ). rights.may_write_word x.m n (s.depth +ℤ e)) (sym same) ∙ t)) w);
      }))

  -- ---- scheduling, and the words after it

  -- one word below the workspace
  record Undefines (E : Modes) (s : State) (l : Local) (e : ℤ) (place : ℕ) : Type 0 where
    mine : may_write_word x.h place ≡ true
    at : pos place ≡ place_in x.act.layout.origin (s.depth +ℤ e)
    after : Within E x.m x.h x.mode x.act (written (s.depth +ℤ e) Unknown s)
        (record l { memory = with_word l.memory place None })
    own : ChangesOwn x.h l.memory (with_word l.memory place None)
    keeps : KeepsMemory x.m x.h (scope_of x.m s.context x.act.layout) l.memory (with_word l.memory place None)

  undefines : {E : Modes} (s : State) (l : Local) (e : ℤ) → FitsSigned w32 e → Within E x.m x.h x.mode x.act s l
      → rights.may_write_word x.m s.context (s.depth +ℤ e) ≡ true
      → Undefines E s l e (place_of (local_address l.registers.workspace e))
  undefines {E} s l e fits a t =
      let w = a.frame.own (s.depth +ℤ e) t in
      subst (λ (p : ℕ). Undefines E s l e p) (sym (local_place a.frame e fits w.place w.is w.inside)) (record {
        mine = w.mine;
        at = w.is;
        after = after_write s l e Unknown None a t w says_nothing;
        own = write_is_own x.h l.memory w.place None w.mine;
        keeps = write_keeps x.m x.h (scope_of x.m s.context x.act.layout) (s.depth +ℤ e) l.memory None t
            (written_readable x.m s.context (s.depth +ℤ e) t) w;
      })

  pub scheduling : {E : Modes} (s : State) (l : Local) → Within E x.m x.h x.mode x.act s l
      → MaySchedule x.m s.context s.depth → Scheduled x E s l
  unfolding written
  scheduling {E} s l a may =
      let workspace = l.registers.workspace in
      let one = undefines s l (negsuc 0) (omega (arith, ints)) a may.first in
      let m1 : Memory = with_word l.memory (place_of (local_address workspace (negsuc 0))) None in
      let two = undefines (written (s.depth +ℤ negsuc 0) Unknown s) (record l { memory = m1 }) (negsuc 1)
      (omega (arith, ints)) one.after may.second in
      let m2 : Memory = with_word m1 (place_of (local_address workspace (negsuc 1))) None in
      let three = undefines (written (s.depth +ℤ negsuc 1) Unknown (written (s.depth +ℤ negsuc 0) Unknown s))
      (record l { memory = m2 }) (negsuc 2) (omega (arith, ints)) two.after may.third in
      let place : (n : ℕ) → n < 3 → pos (place_of (scheduling_word workspace n))
      ≡ place_in x.act.layout.origin (s.depth +ℤ negsuc n) = places one.at two.at three.at in
      record {
        may = and_from _ _ (and_from _ _ one.mine two.mine) three.mine;
        places = place;
        after = three.after;
        own = changes_more x.h l.memory m2 (scheduled l)
            (changes_more x.h l.memory m1 m2 one.own two.own) three.own;
        keeps = keeps_more (keeps_more one.keeps two.keeps) three.keeps;
      }
    where
      places : pos (place_of (scheduling_word l.registers.workspace 0))
          ≡ place_in x.act.layout.origin (s.depth +ℤ negsuc 0)
          → pos (place_of (scheduling_word l.registers.workspace 1))
          ≡ place_in x.act.layout.origin (s.depth +ℤ negsuc 1)
          → pos (place_of (scheduling_word l.registers.workspace 2))
          ≡ place_in x.act.layout.origin (s.depth +ℤ negsuc 2)
          → (n : ℕ) → n < 3
          → pos (place_of (scheduling_word l.registers.workspace n))
          ≡ place_in x.act.layout.origin (s.depth +ℤ negsuc n)
      places a b c zero less = a
      places a b c (suc zero) less = b
      places a b c (suc (suc zero)) less = c
      places a b c (suc (suc (suc n))) less = absurd (omega arith)

  pub scheduled_changes : {E : Modes} {s : State} {l : Local} → Scheduled x E s l → s.context ≡ x.context
      → Changes x l.memory → Changes x (scheduled l)
  scheduled_changes {E} {s} {l} d same changes = record {
    own = changes_more x.h x.memory l.memory (scheduled l) changes.own d.own;
    keeps = keeps_more changes.keeps
        (subst (λ (n : ℕ). KeepsMemory x.m x.h (scope_of x.m n x.act.layout) l.memory (scheduled l)) same d.keeps);
  }

  -- what is owed is no more
  pub unscheduled_owed : (s : State) → owed (unscheduled s) x.act ≤ owed s x.act
  unfolding written
  unscheduled_owed s =
      let one = written_owed (s.depth +ℤ negsuc 0) Unknown s x.act in
      let two = written_owed (s.depth +ℤ negsuc 1) Unknown (written (s.depth +ℤ negsuc 0) Unknown s) x.act in
      let three = written_owed (s.depth +ℤ negsuc 2) Unknown
      (written (s.depth +ℤ negsuc 1) Unknown (written (s.depth +ℤ negsuc 0) Unknown s)) x.act in
      omega (arith, one, two, three)

  pub unscheduled_context : (s : State) → (unscheduled s).context ≡ s.context
  unfolding written
  unscheduled_context s = refl

  pub unscheduled_mode : (s : State) → (unscheduled s).mode ≡ s.mode
  unfolding written
  unscheduled_mode s = refl

  pub rule_schedules_fits : (s : State) (r : State → Ruling) (o : Outcome)
      → (MaySchedule x.m s.context s.depth → FitsIf x (r (unscheduled s)) o)
      → FitsIf x (rule.schedules (rule_site x) s r) o
  unfolding rule.schedules
  rule_schedules_fits s r o go =
      writes_word_fits s (negsuc 0) _ _ (λ t0. writes_word_fits s (negsuc 1) _ _ (λ t1.
      writes_word_fits s (negsuc 2) _ _ (λ t2. go (record { first = t0; second = t1; third = t2 }))))

  pub step_schedules_fits : (l : Local) (r : Ruling) (o : Local → Outcome)
      → step.holds_scheduling_words x.h l.registers.workspace ≡ true
      → FitsIf x r (o (record l { memory = scheduled l })) → FitsIf x r (step.schedules (step_site x) l o)
  step_schedules_fits l r o may go =
      subst (λ (q : Outcome). FitsIf x r q) (sym (schedules-is (step_site x) l o))
      (subst (λ (b : Bool). FitsIf x r (cond b (o (record l { memory = scheduled l })) (fails NotOwn))) (sym may) go)

  pub schedules_fits : {E : Modes} (s : State) (l : Local) (r : State → Ruling) (o : Local → Outcome)
      → Within E x.m x.h x.mode x.act s l
      → s.context ≡ x.context → Changes x l.memory
      → ((s' : State) (memory : Memory) → Within E x.m x.h x.mode x.act s' (record l { memory = memory })
      → s'.context ≡ x.context → Changes x memory → owed s' x.act ≤ owed s x.act
      → FitsIf x (r s') (o (record l { memory = memory })))
      → FitsIf x (rule.schedules (rule_site x) s r) (step.schedules (step_site x) l o)
  schedules_fits s l r o a same changes go = rule_schedules_fits s r _ (λ may.
      let d = scheduling s l a may in
      step_schedules_fits l _ o d.may
      (go (unscheduled s) (scheduled l) d.after (unscheduled_context s ∙ same) (scheduled_changes d same changes)
      (unscheduled_owed s)))

  -- ---- leading to a label

  -- going on at a label, by whatever outcome
  pub label_fits : {E : Modes} (wf : IsWellFormed x.m) {r : Ruling} {o : Outcome} {to cost : ℕ} {s : State}
      {l : Local} {t : Label}
      → label_at x.m to ≡ Some t → below s t ≡ Ok cost → leading r ≡ to ∷ [] → GoesTo x o to l
      → Within E x.m x.h x.mode x.act s l → s.context ≡ x.context → Changes x l.memory
      → owed s x.act + x.len ≤ x.owed → FitsIf x r o
  label_fits {E} wf {r} {o} {to} {cost} {s} {l} {t} e is led goes a same changes n next =
      let g = below_tells s t cost is in
      let less = label_owed s t cost x.act (wf.pairs to t e) is in
      it_leads (label_turns s.frame t.entries x.act.turns) led goes e (wf.labels to t e)
      (label_after x.m x.h x.mode x.act s t l wf to e g.1 (whole_after a)) (sym g.1.context ∙ same) changes
      (omega (arith, n, less))

  -- The ruling at a label: what is below it leads there in some way.
  pub on_label : (to : ℕ) (s : State) (good : Ruling) (o : Outcome)
      → ((t : Label) (cost : ℕ) → label_at x.m to ≡ Some t → below s t ≡ Ok cost → FitsIf x good o)
      → FitsIf x (elim (label_at x.m to) as (λ o. Ruling) [
        | None ↦ breaks rules.Label
        | Some t ↦ elim (below s t) as (λ b. Ruling) [ Ok cost ↦ good | Err broken ↦ breaks broken ]
      ]) o
  on_label to s good o go = on_found (label_at x.m to) refl
    where
      on_below : (t : Label) → label_at x.m to ≡ Some t → (b : Result ℕ Rule) → below s t ≡ b
          → FitsIf x (elim b as (λ b. Ruling) [ Ok cost ↦ good | Err broken ↦ breaks broken ]) o
      on_below t e (Err broken) is = λ next. it_breaks
      on_below t e (Ok cost) is = go t cost e is

      on_found : (found : Option Label) → label_at x.m to ≡ found
          → FitsIf x (elim found as (λ o. Ruling) [
            | None ↦ breaks rules.Label
            | Some t ↦ elim (below s t) as (λ b. Ruling) [ Ok cost ↦ good | Err broken ↦ breaks broken ]
          ]) o
      on_found None e = λ next. it_breaks
      on_found (Some t) e = on_below t e (below s t) refl

  pub leads_fits : {E : Modes} (wf : IsWellFormed x.m) (to : ℕ) (s : State) (l : Local)
      → Within E x.m x.h x.mode x.act s l
      → s.context ≡ x.context → Changes x l.memory → owed s x.act + x.len ≤ x.owed
      → FitsIf x (rule.leads_to (rule_site x) to s) (step.leads_to (step_site x) to l)
  unfolding rule.leads_to step.leads_to
  leads_fits wf to s l a same changes n = on_label to s (leads to) _ (λ t cost e is.
      on_step_test (ltb to (length x.m.code)) (leads to) _ _
      (λ u. label_fits wf e is refl is_jump a same changes n)
      (λ u. absurd (below_not to (length x.m.code) (wf.labels to t e) u)))

  -- ---- modes

  pub in_plain_rule : (s : State) → ArePlain s.mode x.mode → (r : Ruling) (o : Outcome) → FitsIf x r o
      → FitsIf x (rule.outside_alternation s.mode r) o
  unfolding rule.outside_alternation
  in_plain_rule s same r o go = subst (λ q. FitsIf x (rule.outside_alternation q r) o) (sym same.rule) go

  pub beside_plain_rule : (s : State) → ArePlain s.mode x.mode → (r : Ruling) (o : Outcome) → FitsIf x r o
      → FitsIf x (rule.outside_starts s.mode r) o
  unfolding rule.outside_starts
  beside_plain_rule s same r o go = subst (λ q. FitsIf x (rule.outside_starts q r) o) (sym same.rule) go

  pub in_plain_step : (s : State) → ArePlain s.mode x.mode → (r : Ruling) (o : Outcome) → FitsIf x r o
      → FitsIf x r (step.alone x.mode o)
  unfolding step.outside_alternation step.outside_starts
  in_plain_step s same r o go = subst (λ q. FitsIf x r (step.alone q o)) (sym same.step) go

  -- a process that starts no branches
  pub still_rule_fits : (s : State) → AreStill s.mode x.mode → (r : Ruling) (o : Outcome) → FitsIf x r o
      → FitsIf x (rule.outside_starts s.mode r) o
  still_rule_fits s same r o go = subst (λ q. FitsIf x q o) (sym (still_rule same r)) go

  pub still_step_fits : (s : State) → AreStill s.mode x.mode → (r : Ruling) (o : Outcome) → FitsIf x r o
      → FitsIf x r (step.outside_starts x.mode o)
  still_step_fits s same r o go = subst (λ q. FitsIf x r q) (sym (still_step same o)) go

  -- the registers and the number change, and all else stays known
  pub after_stack : {E : Modes} {s : State} {l : Local} {said : Stack Known} {stack : Stack (Option ℤ)} {number : ℕ}
      → Within E x.m x.h x.mode x.act s l
      → AreRelated (MeansKnown x.m (words_in x.m s.context).reads x.act.layout l.memory) said stack
      → Within E x.m x.h x.mode x.act (record s { stack = said; number = number })
      (record l { registers = record l.registers { stack = stack } })
  after_stack a related = record {
    frame = a.frame;
    knows = record { registers = related; words = a.knows.words };
    named = a.named;
    same_mode = a.same_mode;
    modes = a.modes;
    whole = a.whole;
  }

  -- each byte is paid
  pub pays_fits : (s : State) (r : State → Ruling) (o : Outcome) → owed s x.act ≤ x.owed
      → (s.number - x.len + dues s.frame x.act.turns + x.len ≤ x.owed
      → FitsIf x (r (record s { number = s.number - x.len })) o)
      → FitsIf x (rule.pays (rule_site x) s r) o
  unfolding rule.pays
  pays_fits s r o e go = on_rule_test (ltb s.number x.len) _ _ _ (λ t next. it_breaks)
      (λ t. go (enough s.number x.len (dues s.frame x.act.turns) x.owed t e))
