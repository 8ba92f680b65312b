-- The verdict on a module is right: Ok where the module is certified, and else the first rule that is broken. No module
-- is both.
use Rattle.std.proofs.Common.{◌≡◌, ℕ, zero, suc, ◌+◌, ◌-◌, ◌≤◌, ◌<◌, Bool, true, false, cond, if◌then◌else◌, eqb}
use Rattle.std.proofs.Common.{length, Option, Some, None, Result, Ok, Err, ◌⊎◌, inl, inr, refl, sym, ap, ◌∙◌, subst}
use Rattle.std.proofs.Common.{arith}
use Rattle.std.specs.Prelude.{nat_lt}
use Rattle.std.proofs.lemmas.Bool.{cases_lt, cases_eq, cases_Bool, le-leb, ne_eqb, lt-leb}
use Rattle.std.proofs.lemmas.Option.{some_pair_parts}
use Rattle.small_laws.proofs.Comparisons.{eqb-self}
use Rattle.small_laws.proofs.Options.{same_some, same_ok, none_or_some}
use Rattle.prefix_decoder.specs.declared.decoding.Instr.{Instr}
use Rattle.prefix_decoder.specs.declared.decoding.DecodeFault.{DecodeFault}
use Rattle.prefix_decoder.specs.Fetching.{fetched}
use Rattle.module_format.specs.Contents.{Contents}
use Rattle.certificate.specs.Starts.{is_start}
use Rattle.states.specs.declared.rule.Rule.{Rule}
use Rattle.states.specs.declared.rule.Rule.TheVariants as rules
use Rattle.states.specs.Numbers.{number_of}
use Rattle.states.specs.State.{State, root_state}
use Rattle.rulings.specs.Rulings.{Ruling, falls, leads, falls_or_leads, calls, starts, selects, returns, ends, breaks}
use Rattle.rulings.specs.Rulings.{falling}
use Rattle.facts.specs.Rules.{rule_at, is_instruction}
use Rattle.facts.proofs.Unruled.{unruled as breaks_one}
use Rattle.verifier.specs.declared.stop.Breach.{Breach}
use Rattle.certified_worlds.specs.Certified.{table_state, state_at, entering, Reaches, begins, follows, HoldsAt}
use Rattle.certified_worlds.specs.Certified.{HoldsBelow}
use Rattle.certified_worlds.specs.Certified.{IsCertified, IsRefused, IsBroken, misspelled, unruled, hidden, unreached}
use Rattle.certified_worlds.specs.Certified.{fallen_off, entered, broken}
use Rattle.certified_worlds.proofs.GivenStates.{nothing_given, is_given}
use Rattle.verifier.specs.Judge.{Verdict, lower, past_starts, past_rule, past_spelling, both, judged_in, judged_at}
use Rattle.verifier.specs.Judge.{start_among, refused, at_the_end, judge, verdict}

-- ---- no module is both

ok_or_err : {A E : Type 0} (r : Result A E) (x : A) (e : E) → r ≡ Ok x → r ≡ Err e → ⊥
ok_or_err {A} {E} r x e p q = let f : ◌≡◌ {A = Result A E} (Ok x) (Err e) = sym p ∙ q in cc

option_cases : {A : Type 0} (o : Option A) → (o ≡ None) ⊎ ((x : A) × (o ≡ Some x))
option_cases None = inl refl
option_cases (Some x) = inr (x, refl)

excluded : (m : Contents) (v : Rule) (at : ℕ) → IsCertified m → IsBroken m v at → ⊥
excluded m v at c (misspelled _ r low e) = let h =
    c.holds.each _ _ low r in ok_or_err (fetched m.code at) h.instr _ h.spelled e
excluded m v at c (unruled _ r low sp lacking) =
    let h = c.holds.each _ _ low r in
    let i_is = same_ok (fetched m.code at) h.instr _ h.spelled sp in
    h.unbroken rules.Spelling (breaks_one m at h.instr h.state (ap (is_instruction m) i_is ∙ lacking))
excluded m v at c (hidden _ low start none) = let r = c.holds.starts _ low start in none r.0 r.1
excluded m v at c (unreached _ r low sp ruled g) =
    let h = c.holds.each _ _ low r in
    let stands : None ≡ Some h.state = sym (nothing_given m at None g) ∙ h.stands in cc
excluded m v at c (fallen_off {s = s} _ e r) =
    let r' : Reaches m (length m.code) (Some s) = subst (λ n. Reaches m n (Some s)) e r in
    let none : Some s ≡ None = c.ends _ r' in cc
excluded m v at c (entered {before = before} r low e) = let h =
    c.holds.each _ _ low r in ok_or_err (entering m at before) h.cost v h.enters e
excluded m v at c (broken {before = before} {s = s} {i = i} r low st sp b) =
    let h = c.holds.each _ _ low r in
    let i_is : i ≡ h.instr = same_ok (fetched m.code at) i h.instr sp h.spelled in
    let s_is : s ≡ h.state = same_some (state_at m at before) s h.state st h.stands in
    h.unbroken v (ap (λ j. rule_at m at j h.state) (sym i_is) ∙ ap (λ t. rule_at m at i t) (sym s_is) ∙ b)

pub not_both : (m : Contents) (v : Rule) (at : ℕ) → IsCertified m → IsRefused m v at → ⊥
not_both m v at c r = excluded m v at c r.broken

-- ---- what one step of the verdict says

-- the instruction at an offset was judged, and led on
pub record Stepped (m : Contents) (at : ℕ) (before : Option State) (i : Instr) (after : Option State) : Type 0 where
  pub state : State
  pub stands : state_at m at before ≡ Some state
  pub cost : ℕ
  pub enters : entering m at before ≡ Ok cost
  pub unbroken : (v : Rule) → rule_at m at i state ≡ breaks v → ⊥
  pub after_is : after ≡ falling (rule_at m at i state)

-- A ruling is that a rule is broken, or it goes on: then only what it costs to fall in decides.
data Decides (r : Ruling) : Type 0 where
  is_broken : (v : Rule) → r ≡ breaks v → Decides r
  goes_on : ((v : Rule) → r ≡ breaks v → ⊥) → ((cost : ℕ) → both (Ok cost) r ≡ Ok (falling r))
      → ((u : Rule) → both (Err u) r ≡ Err u) → Decides r

decides : (r : Ruling) → Decides r
decides (falls s) = goes_on (λ v e. cc) (λ cost. refl) (λ u. refl)
decides (leads to) = goes_on (λ v e. cc) (λ cost. refl) (λ u. refl)
decides (falls_or_leads s to) = goes_on (λ v e. cc) (λ cost. refl) (λ u. refl)
decides (starts s labels) = goes_on (λ v e. cc) (λ cost. refl) (λ u. refl)
decides (selects labels) = goes_on (λ v e. cc) (λ cost. refl) (λ u. refl)
decides (calls to s) = goes_on (λ v e. cc) (λ cost. refl) (λ u. refl)
decides returns = goes_on (λ v e. cc) (λ cost. refl) (λ u. refl)
decides ends = goes_on (λ v e. cc) (λ cost. refl) (λ u. refl)
decides (breaks v) = is_broken v refl

lower_is : (u w : Rule) (b : Bool) → ((if b then w else u) ≡ u) ⊎ ((if b then w else u) ≡ w)
lower_is u w true = inr refl
lower_is u w false = inl refl

both_ok : (e : Result ℕ Rule) (r : Ruling) (after : Option State) → both e r ≡ Ok after
    → (cost : ℕ) × (e ≡ Ok cost) × ((v : Rule) → r ≡ breaks v → ⊥) × (after ≡ falling r)
both_ok (Ok cost) r after h = elim (decides r) [
  | is_broken v is ↦ let no : both (Ok cost) (breaks v) ≡ Ok after = ap (both (Ok cost)) (sym is) ∙ h in absurd (cc)
  | goes_on sound ok err ↦ (
    cost,
    refl,
    sound,
    let e : Ok after ≡ Ok (falling r) = sym h ∙ ok cost in (cc),
  )
]
both_ok (Err u) r after h = elim (decides r) [
  | is_broken v is ↦ let no : both (Err u) (breaks v) ≡ Ok after = ap (both (Err u)) (sym is) ∙ h in absurd (cc)
  | goes_on sound ok err ↦ let no : Err u ≡ Ok after = sym (err u) ∙ h in absurd (cc)
]

both_err : (e : Result ℕ Rule) (r : Ruling) (v : Rule) → both e r ≡ Err v → (e ≡ Err v) ⊎ (r ≡ breaks v)
both_err (Ok cost) r v h = elim (decides r) [
  | is_broken w is ↦ let e : both (Ok cost) (breaks w) ≡ Err v = ap (both (Ok cost)) (sym is) ∙ h in
      let same : w ≡ v = cc in inr (is ∙ ap breaks same)
  | goes_on sound ok err ↦ let no : Ok (falling r) ≡ Err v = sym (ok cost) ∙ h in absurd (cc)
]
both_err (Err u) r v h = elim (decides r) [
  | is_broken w is ↦
      let told : both (Err u) (breaks w) ≡ Err v = ap (both (Err u)) (sym is) ∙ h in
      let e : lower u w ≡ v = cc in
      elim (lower_is u w (nat_lt (number_of w) (number_of u))) [
        | inl p ↦ inl (ap Err (sym p ∙ e))
        | inr p ↦ inr (is ∙ ap breaks (sym p ∙ e))
      ]
  | goes_on sound ok err ↦
      let told : ◌≡◌ {A = Result (Option State) Rule} (Err u) (Err v) = sym (err u) ∙ h in
      let same : u ≡ v = cc in
      inl (ap Err same)
]

stepped_in : (m : Contents) (at : ℕ) (before : Option State) (i : Instr) (after : Option State) (o : Option State)
    → state_at m at before ≡ o → judged_in m at before i o ≡ Ok after → Stepped m at before i after
stepped_in m at before i after None e h = absurd (cc)
stepped_in m at before i after (Some s) e h =
    let b = both_ok (entering m at before) (rule_at m at i s) after h in
    record { state = s; stands = e; cost = b.0; enters = b.1; unbroken = b.2; after_is = b.3 }

stepped : (m : Contents) (at : ℕ) (before : Option State) (i : Instr) (after : Option State)
    → judged_at m at before i ≡ Ok after → Stepped m at before i after
unfolding judged_at
stepped m at before i after h = stepped_in m at before i after (state_at m at before) refl h

told_is : (v w : Rule) → ◌≡◌ {A = Result (Option State) Rule} (Err v) (Err w) → v ≡ w
told_is v w h = cc

-- the rule that the instruction at a reached offset breaks
broken_in : (m : Contents) (at : ℕ) (before : Option State) (i : Instr) (v : Rule) (o : Option State)
    → state_at m at before ≡ o → Reaches m at before → at < length m.code → fetched m.code at ≡ Ok i
    → judged_in m at before i o ≡ Err v → IsBroken m v at
broken_in m at before i v None e r low sp h = elim (cases_Bool (is_instruction m i)) [
  | inr lacking ↦ unruled (told_is _ _ (sym h ∙ ap (λ (b : Bool). Err
      (if b then rules.Flow else rules.Spelling)) lacking)) r low sp lacking
  | inl ruled ↦ elim (option_cases (table_state m at)) [
    | inl g ↦
        let three = told_is _ _ (sym h ∙ ap (λ (b : Bool). Err (if b then rules.Flow else rules.Spelling)) ruled) in
        unreached three (subst (λ b. Reaches m at b) (sym (nothing_given m at before g) ∙ e) r) low sp ruled g
    | inr g ↦ absurd (none_or_some (state_at m at before) g.0 e (is_given m at before g.0 g.1))
  ]
]
broken_in m at before i v (Some s) e r low sp h =
    elim (both_err (entering m at before) (rule_at m at i s) v h)
    [ inl p ↦ entered r low p | inr p ↦ broken r low e sp p ]

broken_at : (m : Contents) (at : ℕ) (before : Option State) (i : Instr) (v : Rule) → Reaches m at before
    → at < length m.code → fetched m.code at ≡ Ok i → judged_at m at before i ≡ Err v → IsBroken m v at
unfolding judged_at
broken_at m at before i v r low sp h = broken_in m at before i v (state_at m at before) refl r low sp h

pair_is : {A B : Type 0} {a b : A} {x y : B} → a ≡ b → x ≡ y → ◌≡◌ {A = A × B} (a, x) (b, y)
pair_is p q = cc

-- none of the offsets is a start
pub no_first_start : (m : Contents) (at more : ℕ) → start_among m at more ≡ None → (o : ℕ) → at ≤ o → o < at + more
    → is_start m o ≡ false
no_first_start m at zero h o low high = absurd (omega arith)
no_first_start m at (suc more) h o low high =
    elim (cases_Bool (is_start m at)) [
      | inr l ↦
          let rest : start_among m (at + 1) more ≡ None =
          sym (ap (λ (b : Bool). cond b (Some at) (start_among m (at + 1) more)) l) ∙ h in
          elim (cases_eq o at) [
            | inl e ↦ rw e l
            | inr d ↦ no_first_start m (at + 1) more rest o (omega arith) (omega arith)
          ]
      | inl l ↦
          let e : Some at ≡ None = sym (ap (λ (b : Bool). cond b (Some at) (start_among m (at + 1) more)) l) ∙ h in
          absurd (cc)
    ]

-- an offset that is a start, after offsets that are none
pub record FirstStart (m : Contents) (at more o : ℕ) : Type 0 where
  pub low : at ≤ o
  pub high : o < at + more
  pub here : is_start m o ≡ true
  pub others : (q : ℕ) → at ≤ q → q < o → is_start m q ≡ false

first_start_is : (m : Contents) (at more o : ℕ) → start_among m at more ≡ Some o → FirstStart m at more o
first_start_is m at zero o h = absurd (cc)
first_start_is m at (suc more) o h =
    elim (cases_Bool (is_start m at)) [
      | inr l ↦
          let rest : start_among m (at + 1) more ≡ Some o =
          sym (ap (λ (b : Bool). cond b (Some at) (start_among m (at + 1) more)) l) ∙ h in
          let f = first_start_is m (at + 1) more o rest in
          record {
            low = omega (arith, f.low);
            high = omega (arith, f.high);
            here = f.here;
            others = λ q low high. elim (cases_eq q at) [ inl e ↦ rw e l | inr d ↦ f.others q (omega arith) high ];
          }
      | inl l ↦
          let e : Some at ≡ Some o = sym (ap (λ (b : Bool). cond b (Some at) (start_among m (at + 1) more)) l) ∙ h in
          let same : at ≡ o = cc in
          record {
            low = omega arith;
            high = omega arith;
            here = rw (← same) l;
            others = λ q low high. absurd (omega arith);
          }
    ]

-- ---- the starts of instructions, one after another

abbrev Place : Type 0
Place = ℕ × Option State

abbrev next_in : Contents → ℕ → Option State → Result Instr DecodeFault → Option Place
next_in m at None r = None
next_in m at (Some s) (Err e) = None
next_in m at (Some s) (Ok i) = Some (at + i.len, falling (rule_at m at i s))

unfoldable next : Contents → Place → Option Place
next m (at, before) = next_in m at (state_at m at before) (fetched m.code at)

abbrev along : (Place → Option Place) → Option Place → Option Place
along f None = None
along f (Some p) = f p

unfoldable trail : ℕ → Contents → Place → Option Place
trail zero m p = Some p
trail (suc k) m p = along (λ q. trail k m q) (next m p)

-- one step more at the end
trail_more : (k : ℕ) (m : Contents) (p q r : Place) → trail k m p ≡ Some q → next m q ≡ Some r
    → trail (suc k) m p ≡ Some r
unfolding trail
trail_more zero m p q r t n =
    let e : p ≡ q = cc in rw e (ap (along (λ q. trail zero m q)) n)
trail_more (suc k) m p q r t n = elim (option_cases (next m p)) [
  | inl e ↦ let none : None ≡ Some q = sym (ap (along (λ q. trail k m q)) e) ∙ t in absurd (cc)
  | inr e ↦
      let rest : trail k m e.0 ≡ Some q = sym (ap (along (λ q. trail k m q)) e.1) ∙ t in
      ap (along (λ q. trail (suc k) m q)) e.1 ∙ trail_more k m e.0 q r rest n
]

next_is : (m : Contents) (at : ℕ) (before : Option State) (s : State) (i : Instr) → state_at m at before ≡ Some s
    → fetched m.code at ≡ Ok i → next m (at, before) ≡ Some (at + i.len, falling (rule_at m at i s))
unfolding next
next_is m at before s i st sp = ap (λ o. next_in m at o (fetched m.code at)) st ∙ ap (next_in m at (Some s)) sp

trailed : {m : Contents} {at : ℕ} {before : Option State} → Reaches m at before
    → (k : ℕ) × (trail k m (0, Some (root_state m)) ≡ Some (at, before))
unfolding trail
trailed begins = (0, refl)
trailed {m} (follows {at} {to} {before} {after} {s} {i} r st sp to_is after_is) =
    let t = trailed r in
    let n : next m (at, before) ≡ Some (to, after) = rw (to_is, after_is) (next_is m at before s i st sp) in
    (suc t.0, trail_more t.0 m (0, Some (root_state m)) (at, before) (to, after) t.1 n)

-- q is a start, and r is after the instruction at q
pub record Behind (m : Contents) (q r : Place) : Type 0 where
  pub later : q.0 < r.0
  pub far : (i : Instr) → fetched m.code q.0 ≡ Ok i → q.0 + i.len ≤ r.0

-- each instruction has at least one byte, all of them in the code
pub record Spans (m : Contents) : Type 0 where
  pub some : (at : ℕ) (i : Instr) → fetched m.code at ≡ Ok i → 1 ≤ i.len
  pub inside : (at : ℕ) (i : Instr) → fetched m.code at ≡ Ok i → at + i.len ≤ length m.code

-- the instruction that leads to the next start
pub record Led (m : Contents) (p q : Place) : Type 0 where
  pub instr : Instr
  pub spelled : fetched m.code p.0 ≡ Ok instr
  pub to : q.0 ≡ p.0 + instr.len

led_in : (m : Contents) (at : ℕ) (before : Option State) (q : Place) (o : Option State) (r : Result Instr DecodeFault)
    → fetched m.code at ≡ r → next_in m at o r ≡ Some q → Led m (at, before) q
led_in m at before q None r e h = absurd (cc)
led_in m at before q (Some s) (Err f) e h = absurd (cc)
led_in m at before (to, after) (Some s) (Ok i) e h =
    let place : Some (at + i.len, falling (rule_at m at i s)) ≡ Some (to, after) = h in
    record { instr = i; spelled = e; to = sym (some_pair_parts _ _ _ _ place).0 }

led : (m : Contents) (p q : Place) → next m p ≡ Some q → Led m p q
unfolding next
led m (at, before) q h = led_in m at before q (state_at m at before) (fetched m.code at) refl h

-- where the trail goes it never goes back
module _ (m : Contents) (spans : Spans m) where
  behind : (k : ℕ) (p q : Place) → trail k m p ≡ Some q → p.0 ≤ q.0
  unfolding trail
  behind zero p q t = let e : p ≡ q = cc in rw e (omega arith)
  behind (suc k) p q t = elim (option_cases (next m p)) [
    | inl e ↦ let none : None ≡ Some q = sym (ap (along (λ q. trail k m q)) e) ∙ t in absurd (cc)
    | inr e ↦
        let rest : trail k m e.0 ≡ Some q = sym (ap (along (λ q. trail k m q)) e.1) ∙ t in
        let l = led m p e.0 e.1 in
        let later : e.0.0 ≤ q.0 = behind k e.0 q rest in
        omega (arith, l.to)
  ]

  -- the first step leads past the first instruction
  first_behind : (k : ℕ) (p q : Place) → trail (suc k) m p ≡ Some q → Behind m p q
  unfolding trail
  first_behind k p q t = elim (option_cases (next m p)) [
    | inl e ↦ let none : None ≡ Some q = sym (ap (along (λ q. trail k m q)) e) ∙ t in absurd (cc)
    | inr e ↦
        let rest : trail k m e.0 ≡ Some q = sym (ap (along (λ q. trail k m q)) e.1) ∙ t in
        let l = led m p e.0 e.1 in
        let later : e.0.0 ≤ q.0 = behind k e.0 q rest in
        let some = spans.some p.0 l.instr l.spelled in
        record {
          later = omega (arith, l.to);
          far = λ i sp. let same : i
              ≡ l.instr = same_ok (fetched m.code p.0) i l.instr sp l.spelled in rw same (omega (arith, l.to));
        }
  ]

  -- two places on one trail are the same, or one is after the other
  compared : (j k : ℕ) (p q r : Place) → trail j m p ≡ Some q → trail k m p ≡ Some r
      → (q ≡ r) ⊎ Behind m q r ⊎ Behind m r q
  unfolding trail
  compared zero zero p q r t u = inl (let a : Some q ≡ Some r = sym t ∙ u in cc)
  compared zero (suc k) p q r t u = let e : p ≡ q = cc in inr (inl (subst (λ x. Behind m x r) e (first_behind k p r u)))
  compared (suc j) zero p q r t u = let e : p ≡ r = cc in inr (inr (subst (λ x. Behind m x q) e (first_behind j p q t)))
  compared (suc j) (suc k) p q r t u = elim (option_cases (next m p)) [
    | inl e ↦ let none : None ≡ Some q = sym (ap (along (λ q. trail j m q)) e) ∙ t in absurd (cc)
    | inr e ↦
        let t' : trail j m e.0 ≡ Some q = sym (ap (along (λ q. trail j m q)) e.1) ∙ t in
        let u' : trail k m e.0 ≡ Some r = sym (ap (along (λ q. trail k m q)) e.1) ∙ u in
        compared j k e.0 q r t' u'
  ]

  -- one state at most falls into an offset
  one_way : (at : ℕ) (before other : Option State) → Reaches m at before → Reaches m at other → before ≡ other
  one_way at before other r q =
      let t = trailed r in
      let u = trailed q in
      elim (compared t.0 u.0 (0, Some (root_state m)) (at, before) (at, other) t.1 u.1) [
        | inl e ↦ ap (λ (p : Place). p.1) e
        | inr e ↦ elim e [
          | inl b ↦ let far : at < at = b.later in absurd (omega arith)
          | inr b ↦ let far : at < at = b.later in absurd (omega arith)
        ]
      ]

  -- no instruction starts within another
  none_within : (at o : ℕ) (before other : Option State) (i : Instr) → fetched m.code at ≡ Ok i → at < o
      → o < at + i.len → Reaches m at before → Reaches m o other → ⊥
  none_within at o before other i sp low high r q =
      let t = trailed r in
      let u = trailed q in
      elim (compared t.0 u.0 (0, Some (root_state m)) (at, before) (o, other) t.1 u.1) [
        | inl e ↦ let same : at ≡ o = ap (λ (p : Place). p.0) e in absurd (omega arith)
        | inr e ↦ elim e [
          | inl b ↦ let far : at + i.len ≤ o = b.far i sp in absurd (omega arith)
          | inr b ↦ let far : o < at = b.later in absurd (omega arith)
        ]
      ]

-- ---- tests of numbers

-- ---- the states that the pass gives

abbrev walk_on : (ℕ → Option State → Option State) → ℕ → Result (Option State) Rule → Option State
walk_on go to (Err v) = None
walk_on go to (Ok after) = go to after

abbrev walk_past : Contents → (ℕ → Option State → Option State) → ℕ → Option State → Result Instr DecodeFault
    → Option State
walk_past m go at before (Err e) = None
walk_past m go at before (Ok i) = walk_on go (at + i.len) (judged_at m at before i)

-- the state at an offset, on the way from `at` on
unfoldable walk : ℕ → Contents → ℕ → Option State → ℕ → Option State
walk zero m at before target = None
walk (suc more) m at before target = if eqb target at then state_at m at before else walk_past m
    (λ to after. walk more m to after target) at before (fetched m.code at)

walk_here : (n : ℕ) (m : Contents) (at : ℕ) (before : Option State) → walk (suc n) m at before at ≡ state_at m at before
unfolding walk
walk_here n m at before = ap (λ (b : Bool). cond b (state_at m at before)
    (walk_past m (λ to after. walk n m to after at) at before (fetched m.code at))) (eqb-self at)

walk_beyond : (n : ℕ) (m : Contents) (at : ℕ) (before after : Option State) (i : Instr) (target : ℕ) → at < target
    → fetched m.code at ≡ Ok i → judged_at m at before i ≡ Ok after
    → walk (suc n) m at before target ≡ walk n m (at + i.len) after target
unfolding walk
walk_beyond n m at before after i target low sp j =
    ap (λ (b : Bool). cond b (state_at m at before) (walk_past m (λ to after. walk n m to after target) at before
    (fetched m.code at))) (ne_eqb target at (λ e. omega arith))
    ∙ ap (walk_past m (λ to after. walk n m to after target) at before) sp
    ∙ ap (walk_on (λ to after. walk n m to after target) (at + i.len)) j

-- ---- one step of the pass

-- an instruction at which the pass goes on
pub record Passed (n : ℕ) (m : Contents) (at : ℕ) (before : Option State) (v : Verdict) : Type 0 where
  pub instr : Instr
  pub spelled : fetched m.code at ≡ Ok instr
  pub after : Option State
  pub judged : judged_at m at before instr ≡ Ok after
  pub no_start : start_among m (at + 1) (instr.len - 1) ≡ None
  pub rest : judge n m (at + instr.len) after ≡ v

-- one at which it refuses
pub data Halted (m : Contents) (at : ℕ) (before : Option State) : Rule → ℕ → Type 0 where
  at_spelling : {v : Rule} {o : ℕ} {e : DecodeFault} → v ≡ rules.Spelling → o ≡ at → fetched m.code at ≡ Err e
      → Halted m at before v o
  at_rule : {v : Rule} {o : ℕ} {i : Instr} → o ≡ at → fetched m.code at ≡ Ok i → judged_at m at before i ≡ Err v
      → Halted m at before v o
  at_start_within : {v : Rule} {o : ℕ} {i : Instr} {after : Option State} → v ≡ rules.InstructionStart
      → fetched m.code at ≡ Ok i → judged_at m at before i ≡ Ok after → start_among m (at + 1) (i.len - 1) ≡ Some o
      → Halted m at before v o

module _ (n : ℕ) (m : Contents) (at : ℕ) (before : Option State) where
  past_starts_is : (i : Instr) (after : Option State) (found : Option ℕ) (v : Verdict) → fetched m.code at ≡ Ok i
      → judged_at m at before i ≡ Ok after → start_among m (at + 1) (i.len - 1) ≡ found
      → past_starts (λ to after. judge n m to after) (at + i.len) after found ≡ v
      → Passed n m at before v ⊎ ((r : Breach) × (v ≡ Err r) × Halted m at before r.rule r.offset)
  past_starts_is i after (Some o) v sp j l h =
      inr (record { rule = rules.InstructionStart; offset = o }, sym h, at_start_within refl sp j l)
  past_starts_is i after None v sp j l h =
      inl (record { instr = i; spelled = sp; after = after; judged = j; no_start = l; rest = h })

  past_rule_is : (i : Instr) (judged : Result (Option State) Rule) (v : Verdict) → fetched m.code at ≡ Ok i
      → judged_at m at before i ≡ judged
      → past_rule m (λ to after. judge n m to after) at i.len judged ≡ v
      → Passed n m at before v ⊎ ((r : Breach) × (v ≡ Err r) × Halted m at before r.rule r.offset)
  past_rule_is i (Err u) v sp j h = inr (record { rule = u; offset = at }, sym h, at_rule refl sp j)
  past_rule_is i (Ok after) v sp j h = past_starts_is i after (start_among m (at + 1) (i.len - 1)) v sp j refl h

  past_spelling_is : (fetch : Result Instr DecodeFault) (v : Verdict) → fetched m.code at ≡ fetch
      → past_spelling m (λ to after. judge n m to after) at before fetch ≡ v
      → Passed n m at before v ⊎ ((r : Breach) × (v ≡ Err r) × Halted m at before r.rule r.offset)
  past_spelling_is (Err e) v sp h = inr (record { rule = rules.Spelling; offset = at }, sym h, at_spelling refl refl sp)
  past_spelling_is (Ok i) v sp h = past_rule_is i (judged_at m at before i) v sp refl h

  judge_step : (v : Verdict) → at < length m.code → judge (suc n) m at before ≡ v
      → Passed n m at before v ⊎ ((r : Breach) × (v ≡ Err r) × Halted m at before r.rule r.offset)
  unfolding judge
  judge_step v low h =
      let e : past_spelling m (λ to after. judge n m to after) at before (fetched m.code at) ≡ v =
      sym (ap (λ (b : Bool). cond b (at_the_end at before) (past_spelling m (λ to after. judge n m to after) at before
      (fetched m.code at))) (lt-leb (length m.code) at low)) ∙ h in
      past_spelling_is (fetched m.code at) v refl e

pub judge_end : (n : ℕ) (m : Contents) (at : ℕ) (before : Option State) → length m.code ≤ at
    → judge n m at before ≡ at_the_end at before
unfolding judge
judge_end zero m at before h = refl
judge_end (suc n) m at before h = ap (λ (b : Bool). cond b (at_the_end at before)
    (past_spelling m (λ to after. judge n m to after) at before (fetched m.code at))) (le-leb (length m.code) at h)

-- ---- a module that the pass accepts is certified

-- a start from which the pass goes on to its verdict, with the states that it will give
record OnWay (m : Contents) (v : Verdict) (at : ℕ) (before : Option State) : Type 0 where
  pub fuel : ℕ
  pub enough : length m.code ≤ at + fuel
  pub inside : at ≤ length m.code
  pub verdict : judge fuel m at before ≡ v
  pub states : (target : ℕ) → at ≤ target
      → walk (length m.code) m 0 (Some (root_state m)) target ≡ walk fuel m at before target

abbrev states_of : Contents → ℕ → Option State
states_of m = λ target. walk (length m.code) m 0 (Some (root_state m)) target

at_start : (m : Contents) → OnWay m (verdict m) 0 (Some (root_state m))
at_start m =
    record {
      fuel = length m.code;
      enough = omega arith;
      inside = omega arith;
      verdict = refl;
      states = λ target low. refl;
    }

module _ (m : Contents) (spans : Spans m) where
  -- one instruction further
  goes_further : (v : Verdict) (at : ℕ) (before : Option State) (n : ℕ) → length m.code ≤ at + suc n
      → ((target : ℕ) → at ≤ target → states_of m target ≡ walk (suc n) m at before target)
      → (p : Passed n m at before v) → OnWay m v (at + p.instr.len) p.after
  goes_further v at before n enough states p =
      let some = spans.some at p.instr p.spelled in
      let inside = spans.inside at p.instr p.spelled in
      record {
        fuel = n;
        enough = omega arith;
        inside = inside;
        verdict = p.rest;
        states = λ target low. states target (omega arith)
            ∙ walk_beyond n m at before p.after p.instr target (omega arith) p.spelled p.judged;
      }

  -- what holds at a start that the pass went beyond
  holds_at : (at : ℕ) (before after : Option State) (i : Instr) (n : ℕ) → fetched m.code at ≡ Ok i
      → judged_at m at before i ≡ Ok after
      → states_of m at ≡ walk (suc n) m at before at → HoldsAt m (states_of m) at before
  holds_at at before after i n sp j states =
      let st = stepped m at before i after j in
      record {
        state = st.state;
        stands = st.stands;
        assigned = states ∙ walk_here n m at before ∙ st.stands;
        cost = st.cost;
        enters = st.enters;
        instr = i;
        spelled = sp;
        unbroken = st.unbroken;
      }

  module _ (accepted : verdict m ≡ Ok tt) where
    accepted_step : (at : ℕ) (before : Option State) (n : ℕ) → at < length m.code → judge (suc n) m at before ≡ Ok tt
        → Passed n m at before (Ok tt)
    accepted_step at before n low h = elim (judge_step n m at before (Ok tt) low h) [
      | inl p ↦ p
      | inr r ↦ let no : ◌≡◌ {A = Verdict} (Ok tt) (Err r.0) = r.1 in absurd (cc)
    ]

    on_way : {at : ℕ} {before : Option State} → Reaches m at before → OnWay m (Ok tt) at before
    on_way begins = rw accepted at (at_start m)
    on_way (follows {at} {to} {before} {after} {s} {i} r st sp to_is after_is) =
        let w = on_way r in
        let inside = spans.inside at i sp in
        let some = spans.some at i sp in
        let low : at < length m.code = omega arith in
        elim w.fuel as (λ n. length m.code ≤ at + n → judge n m at before ≡ Ok tt
        → ((target : ℕ) → at ≤ target → states_of m target ≡ walk n m at before target) → OnWay m (Ok tt) to after) [
          | zero ↦ λ enough h states. absurd (omega arith)
          | suc n ↦ λ enough h states.
              let p = accepted_step at before n low h in
              let same_i : p.instr ≡ i = same_ok (fetched m.code at) p.instr i p.spelled sp in
              let step = stepped m at before p.instr p.after p.judged in
              let same_s : step.state ≡ s = same_some (state_at m at before) step.state s step.stands st in
              let to' : at + p.instr.len ≡ to = ap (λ (j : Instr). at + j.len) same_i ∙ sym to_is in
              let after' : p.after ≡ after =
              step.after_is ∙ ap (λ (j : Instr). falling (rule_at m at j step.state)) same_i
              ∙ ap (λ (t : State). falling (rule_at m at i t)) same_s ∙ sym after_is in
              subst (λ (q : Place). OnWay m (Ok tt) q.0 q.1) (pair_is to' after')
              (goes_further (Ok tt) at before n enough states p)
        ] w.enough w.verdict w.states

    -- a start that the tables name is one
    start_reached : (n at : ℕ) (before : Option State) (o : ℕ) → Reaches m at before → length m.code ≤ at + n
        → judge n m at before ≡ Ok tt
        → at ≤ o → o < length m.code → is_start m o ≡ true → (b : Option State) × Reaches m o b
    start_reached zero at before o r enough h low high l = absurd (omega arith)
    start_reached (suc n) at before o r enough h low high l = elim (cases_eq o at) [
      | inl e ↦ (before, rw e r)
      | inr d ↦
          let p = accepted_step at before n (omega arith) h in
          let step = stepped m at before p.instr p.after p.judged in
          let some = spans.some at p.instr p.spelled in
          elim (cases_lt o (at + p.instr.len)) [
            | inl within ↦
                let none = no_first_start m (at + 1) (p.instr.len - 1) p.no_start o (omega arith) (omega arith) in
                let no' : true ≡ false = sym l ∙ none in absurd (cc)
            | inr beyond ↦ start_reached n (at + p.instr.len) p.after o
                (follows r step.stands p.spelled refl step.after_is) (omega arith) p.rest beyond high l
          ]
    ]

    each_holds : (at : ℕ) (before : Option State) → at < length m.code → Reaches m at before
        → HoldsAt m (states_of m) at before
    each_holds at before low r =
        let w = on_way r in
        elim w.fuel as (λ n. length m.code ≤ at + n → judge n m at before ≡ Ok tt
        → ((target : ℕ) → at ≤ target → states_of m target ≡ walk n m at before target)
        → HoldsAt m (states_of m) at before) [
          | zero ↦ λ enough h states. absurd (omega arith)
          | suc n ↦ λ enough h states.
              let p = accepted_step at before n low h in
              holds_at at before p.after p.instr n p.spelled p.judged (states at (omega arith))
        ] w.enough w.verdict w.states

    nothing_falls_off : (before : Option State) → Reaches m (length m.code) before → before ≡ None
    nothing_falls_off before r =
        let w = on_way r in
        let e : at_the_end (length m.code) before ≡ Ok tt =
        sym (judge_end w.fuel m (length m.code) before (omega arith)) ∙ w.verdict in
        elim before as (λ b. at_the_end (length m.code) b ≡ Ok tt → b ≡ None)
        [ None ↦ λ h. refl | Some s ↦ λ h. absurd (cc) ] e

    pub accepted_is_certified : IsCertified m
    accepted_is_certified = record {
      states = states_of m;
      holds = record {
        starts = λ at low l. start_reached (length m.code) 0 (Some (root_state m)) at begins (omega arith) accepted
            (omega arith) low l;
        each = λ at before low r. each_holds at before low r;
      };
      ends = nothing_falls_off;
    }

  -- ---- a module that the pass refuses is refused

  -- all holds below a start that the pass reached
  record Arrived (at : ℕ) (before : Option State) (n : ℕ) : Type 0 where
    pub reached : Reaches m at before
    pub enough : length m.code ≤ at + n
    pub inside : at ≤ length m.code
    pub states : (target : ℕ) → at ≤ target → states_of m target ≡ walk n m at before target
    pub below : HoldsBelow m (states_of m) at

  -- it holds below an offset within or directly after an instruction at which the pass went on
  further_below : (at : ℕ) (before after : Option State) (i : Instr) (n o : ℕ) → Arrived at before (suc n)
      → fetched m.code at ≡ Ok i → judged_at m at before i ≡ Ok after
      → o ≤ at + i.len → ((q : ℕ) → at < q → q < o → is_start m q ≡ false) → HoldsBelow m (states_of m) o
  further_below at before after i n o a sp j high none = record {
    starts = λ q low l. elim (cases_lt q at) [
      | inl below ↦ a.below.starts q below l
      | inr beyond ↦ elim (cases_eq q at) [
        | inl e ↦ (before, rw e a.reached)
        | inr d ↦ let no' : true ≡ false = sym l ∙ none q (omega arith) low in absurd (cc)
      ]
    ];
    each = λ q b low r. elim (cases_lt q at) [
      | inl below ↦ a.below.each q b below r
      | inr beyond ↦ elim (cases_eq q at) [
        | inl e ↦
            let r' : Reaches m at b = subst (λ x. Reaches m x b) e r in
            let same : b ≡ before = one_way m spans at b before r' a.reached in
            subst (λ (p : Place). HoldsAt m (states_of m) p.0 p.1) (pair_is (sym e) (sym same))
            (holds_at at before after i n sp j (a.states at (omega arith)))
        | inr d ↦ absurd (none_within m spans at q before b i sp (omega arith) (omega arith) a.reached r)
      ]
    ];
  }

  halted_is_refused : (at : ℕ) (before : Option State) (n : ℕ) (v : Rule) (o : ℕ) → at < length m.code
      → Arrived at before (suc n) → Halted m at before v o → IsRefused m v o
  halted_is_refused at before n v o low a (at_spelling v_is o_is sp) =
      rw o_is (record { states = states_of m; holds = a.below; broken = misspelled v_is a.reached low sp })
  halted_is_refused at before n v o low a (at_rule {i = i} o_is sp j) =
      rw o_is (record { states = states_of m; holds = a.below; broken = broken_at m at before i v a.reached low sp j })
  halted_is_refused at before n v o low a (at_start_within {i = i} {after = after} v_is sp j l) =
      let f = first_start_is m (at + 1) (i.len - 1) o l in
      let some = spans.some at i sp in
      let inside = spans.inside at i sp in
      let high : o < at + i.len = omega (arith, f.high) in
      let above : at < o = omega (arith, f.low) in
      record {
        states = states_of m;
        holds = further_below at before after i n o a sp j (omega arith) (λ q lo hi. f.others q (omega arith) hi);
        broken = hidden v_is (omega arith) f.here
            (λ b r. none_within m spans at o before b i sp above high a.reached r);
      }

  ended_is_refused : (at : ℕ) (before : Option State) (n : ℕ) (r : Breach) → at ≡ length m.code → Arrived at before n
      → at_the_end at before ≡ Err r → IsRefused m r.rule r.offset
  ended_is_refused at None n r e a h = absurd (cc)
  ended_is_refused at (Some s) n r e a h =
      let same : ◌≡◌ {A = Verdict} (refused rules.Flow at) (Err r) = h in
      let r_is : record { rule = rules.Flow; offset = at } ≡ r = cc in
      subst (λ (r : Breach). IsRefused m r.rule r.offset) r_is
      (record { states = states_of m; holds = a.below; broken = fallen_off refl e a.reached })

  judged_is_refused : (n at : ℕ) (before : Option State) (r : Breach) → Arrived at before n
      → judge n m at before ≡ Err r → IsRefused m r.rule r.offset
  judged_is_refused zero at before r a h =
      ended_is_refused at before zero r (omega (arith, a.enough, a.inside)) a
      (sym (judge_end zero m at before (omega (arith, a.enough))) ∙ h)
  judged_is_refused (suc n) at before r a h = elim (cases_lt at (length m.code)) [
    | inr high ↦ ended_is_refused at before (suc n) r (omega (arith, a.inside)) a
        (sym (judge_end (suc n) m at before high) ∙ h)
    | inl low ↦ elim (judge_step n m at before (Err r) low h) [
      | inr x ↦
          let same : ◌≡◌ {A = Verdict} (Err r) (Err x.0) = x.1 in
          let r_is : x.0 ≡ r = cc in
          subst (λ (r : Breach). IsRefused m r.rule r.offset) r_is
          (halted_is_refused at before n x.0.rule x.0.offset low a x.2)
      | inl p ↦
          let step = stepped m at before p.instr p.after p.judged in
          let some = spans.some at p.instr p.spelled in
          let w = goes_further (Err r) at before n a.enough a.states p in
          judged_is_refused n (at + p.instr.len) p.after r (record {
            reached = follows a.reached step.stands p.spelled refl step.after_is;
            enough = omega (arith, a.enough);
            inside = spans.inside at p.instr p.spelled;
            states = λ target low. a.states target (omega arith)
                ∙ walk_beyond n m at before p.after p.instr target (omega arith) p.spelled p.judged;
            below = further_below at before p.after p.instr n (at + p.instr.len) a p.spelled p.judged (omega arith)
                (λ q lo hi. no_first_start m (at + 1) (p.instr.len - 1) p.no_start q (omega arith) (omega arith));
          }) p.rest
    ]
  ]

  pub refused_is_refused : (r : Breach) → verdict m ≡ Err r → IsRefused m r.rule r.offset
  refused_is_refused r h = judged_is_refused (length m.code) 0 (Some (root_state m)) r (record {
    reached = begins;
    enough = omega arith;
    inside = omega arith;
    states = λ target low. refl;
    below = record { starts = λ at low l. absurd (omega arith); each = λ at before low r. absurd (omega arith) };
  }) h
