-- A module is certified, over whose code a way leads.
use Rattle.std.proofs.Common.{◌≡◌, ℕ, ◌+◌, ◌≤◌, ◌<◌, Bool, true, false, cond, if◌then◌else◌, length, Option, Some}
use Rattle.std.proofs.Common.{None, Ok, inl, inr, refl, sym, ap, ◌∙◌, subst, arith, get_or}
use Rattle.std.specs.Prelude.{nat_eq}
use Rattle.std.proofs.lemmas.Bool.{cases_lt, cases_eq, ne_eqb}
use Rattle.small_laws.proofs.Comparisons.{eqb-self}
use Rattle.small_laws.proofs.Options.{same_some, same_ok}
use Rattle.prefix_decoder.specs.declared.decoding.Instr.{Instr}
use Rattle.prefix_decoder.specs.Fetching.{fetched, StandsAt}
use Rattle.prefix_decoder.proofs.Outcomes.{fetched-found, StandsAt-length}
use Rattle.module_format.specs.Contents.{Contents}
use Rattle.certificate.specs.Starts.{is_start}
use Rattle.states.specs.State.{State, root_state}
use Rattle.rulings.specs.Rulings.{falling}
use Rattle.facts.specs.Rules.{rule_at}
use Rattle.certified_worlds.specs.Certified.{state_at, Reaches, begins, follows, HoldsAt, IsCertified}
use Rattle.certified_modules.specs.Ways.{IsPassed, Passes, over, on, WaysCertify}

-- one way after another
pub ways_follow : {m : Contents} {at middle to : ℕ} {before between after : Option State}
    → Passes m at before middle between → Passes m middle between to after → Passes m at before to after
ways_follow over second = second
ways_follow (on p rest) second = on p (ways_follow rest second)

-- the state at an offset, if an instruction on the way is there
states_on : {m : Contents} {at to : ℕ} {before after : Option State} → Passes m at before to after → ℕ → Option State
states_on over k = None
states_on {at = at} (on p rest) k = if nat_eq k at then Some p.state else states_on rest k

states_here : {m : Contents} {at to : ℕ} {before after : Option State} (p : IsPassed m at before)
    (rest : Passes m (at + p.instr.len) (falling (rule_at m at p.instr p.state)) to after)
    → states_on (on p rest) at ≡ Some p.state
unfolding states_on
states_here {at = at} p rest = ap (λ (b : Bool). cond b (Some p.state) (states_on rest at)) (eqb-self at)

states_later : {m : Contents} {at to : ℕ} {before after : Option State} (p : IsPassed m at before)
    (rest : Passes m (at + p.instr.len) (falling (rule_at m at p.instr p.state)) to after) (k : ℕ) → at < k
    → states_on (on p rest) k ≡ states_on rest k
unfolding states_on
states_later {at = at} p rest k later =
    ap (λ (b : Bool). cond b (Some p.state) (states_on rest k)) (ne_eqb k at (λ same. omega (arith, later, same)))

module _ (m : Contents) (bytes : (n : ℕ) → get_or m.code n 0 < 256) where
  -- an instruction has a byte, and all of them are in the code
  some_bytes : (at : ℕ) (i : Instr) → fetched m.code at ≡ Ok i → (1 ≤ i.len) × (at + i.len ≤ length m.code)
  some_bytes at i there =
      let found : StandsAt m.code at i = fetched-found m.code at bytes i there in
      ((StandsAt-length m.code at i found).0, found.within)

  -- what is left of the way, with its states
  record Goes (states : ℕ → Option State) (end : ℕ) (last : Option State) (at : ℕ) (before : Option State) : Type 0
    where
      rest : Passes m at before end last
      same : (k : ℕ) → at ≤ k → states k ≡ states_on rest k

  -- behind the instruction that is next
  record Next (states : ℕ → Option State) (end : ℕ) (last : Option State) (at : ℕ) (before : Option State) : Type 0
    where
      passed : IsPassed m at before
      goes : Goes states end last (at + passed.instr.len) (falling (rule_at m at passed.instr passed.state))
      here : states at ≡ Some passed.state

  next_on : {states : ℕ → Option State} {at end : ℕ} {before last : Option State} (rest : Passes m at before end last)
      → ((k : ℕ) → at ≤ k → states k ≡ states_on rest k) → at < end → Next states end last at before
  next_on over same low = absurd (omega (arith, low))
  next_on {at = at} (on p rest) same low =
      let some = (some_bytes at p.instr p.spelled).0 in
      record {
        passed = p;
        goes = record {
          rest = rest;
          same = λ k after. same k (omega (arith, after, some)) ∙ states_later p rest k (omega (arith, after, some));
        };
        here = same at (omega arith) ∙ states_here p rest;
      }

  -- a way does not go back
  goes_up : {at to : ℕ} {before after : Option State} → Passes m at before to after → at ≤ to
  goes_up over = omega arith
  goes_up {at = at} (on p rest) =
      let up = goes_up rest in
      omega (arith, up)

  -- where it ends where it begins, it has no instruction
  no_way : {at to : ℕ} {before after : Option State} → Passes m at before to after → at ≡ to → before ≡ after
  no_way over same = refl
  no_way {at = at} (on p rest) same =
      let up = goes_up rest in
      let some = (some_bytes at p.instr p.spelled).0 in
      absurd (omega (arith, up, some, same))

  -- the starts that the tables name are on the way
  start_on : {at to : ℕ} {before after : Option State} → Passes m at before to after → Reaches m at before → (k : ℕ)
      → at ≤ k → k < to → is_start m k ≡ true → (b : Option State) × Reaches m k b
  start_on over reached k from below start = absurd (omega (arith, from, below))
  start_on {at = at} {before = before} (on p rest) reached k from below start =
      elim (cases_eq k at) [
        | inl same ↦ (before, subst (λ (n : ℕ). Reaches m n before) (sym same) reached)
        | inr apart ↦ elim (cases_lt k (at + p.instr.len)) [
          | inl within ↦
              let none = p.alone k (omega (arith, from, apart)) within in
              let no : true ≡ false = sym start ∙ none in
              absurd (cc)
          | inr beyond ↦
              start_on rest (follows reached p.is_in.stands p.spelled refl refl) k beyond below start
        ]
      ]

  module _ (way : Passes m 0 (Some (root_state m)) (length m.code) None) where
    states : ℕ → Option State
    states = states_on way

    -- what is reached is on the way
    reached_goes : {at : ℕ} {before : Option State} → Reaches m at before → Goes states (length m.code) None at before
    unfolding states
    reached_goes begins = record { rest = way; same = λ k from. refl }
    reached_goes (follows {at} {to} {before} {after} {s} {i} reached stands there to_is after_is) =
        let goes = reached_goes reached in
        let some = some_bytes at i there in
        let next = next_on goes.rest goes.same (omega (arith, some.0, some.1)) in
        let p = next.passed in
        let same_i : p.instr ≡ i = same_ok (fetched m.code at) p.instr i p.spelled there in
        let same_s : p.state ≡ s = same_some (state_at m at before) p.state s p.is_in.stands stands in
        let first : Goes states (length m.code) None (at + i.len) (falling (rule_at m at i p.state)) =
        subst (λ (j : Instr). Goes states (length m.code) None (at + j.len) (falling (rule_at m at j p.state))) same_i
        next.goes in
        let second : Goes states (length m.code) None (at + i.len) (falling (rule_at m at i s)) =
        subst (λ (t : State). Goes states (length m.code) None (at + i.len) (falling (rule_at m at i t))) same_s
        first in
        let third : Goes states (length m.code) None to (falling (rule_at m at i s)) =
        subst (λ (n : ℕ). Goes states (length m.code) None n (falling (rule_at m at i s))) (sym to_is) second in
        subst (λ (o : Option State). Goes states (length m.code) None to o) (sym after_is) third

    each_holds : (at : ℕ) (before : Option State) → at < length m.code → Reaches m at before
        → HoldsAt m states at before
    each_holds at before low reached =
        let goes = reached_goes reached in
        let next = next_on goes.rest goes.same low in
        let p = next.passed in
        record {
          state = p.state;
          stands = p.is_in.stands;
          assigned = next.here;
          cost = p.is_in.cost;
          enters = p.is_in.enters;
          instr = p.instr;
          spelled = p.spelled;
          unbroken = p.unbroken;
        }

    way_certifies : IsCertified m
    way_certifies = record {
      states = states;
      holds = record {
        starts = λ at low start. start_on way begins at (omega arith) low start;
        each = each_holds;
      };
      ends = λ before reached. no_way (reached_goes reached).rest refl;
    }

pub ways_certify : WaysCertify
ways_certify = way_certifies
