-- A process that starts branches does nothing between two starts but go on in the middle of them: no byte changes, and
-- its number alone pays.
use Rattle.std.proofs.Common.{◌≡◌, ℕ, ◌+◌, ◌-◌, ◌≤◌, ◌<◌, ℤ, true, false}
use Rattle.std.proofs.Common.{length, Some, None, refl, sym, ap, ◌∙◌, arith}
use Rattle.prefix_decoder.specs.declared.function.Fun.{Fun}
use Rattle.machine_state.specs.Instructions.{instruction_of}
use Rattle.machine_state.specs.declared.process.Mode as machine
use Rattle.machine_state.specs.declared.process.Mode.TheVariants as machine_modes
use Rattle.machine_state.specs.Site.{Local, Outcome}
use Rattle.states.specs.declared.known.Mode as states
use Rattle.states.specs.declared.known.Mode.TheVariants as states_modes
use Rattle.states.specs.declared.rule.Rule.{Rule}
use Rattle.states.specs.State.{State}
use Rattle.rulings.specs.Fitting.{Situation, GoesTo, After, Stays, Fits, it_falls, it_leads, it_calls, it_returns}
use Rattle.rulings.specs.Fitting.{it_selects, it_ends, it_asks, it_breaks, Asks, to_receive, to_send, to_begin}
use Rattle.rulings.specs.Fitting.{to_enable}
use Rattle.rulings.specs.Fitting.{to_enable_skip, to_wait, to_disable, to_disable_skip}
use Rattle.rulings.specs.Meaning.{SameMode, both_plain, both_enabling, both_disabling, both_starting}
use Rattle.rulings.specs.Rulings.{Ruling, breaks, falling, Site}
use Rattle.rulings.proofs.Within.{is_starting}
use Rattle.facts.specs.Rules.{rule, has_pars}
use Rattle.facts.proofs.AmongStarts.{it_pushes, it_breaks_one, starts_let_push}
use Rattle.module_format.specs.Stack.{pushed}

-- An instruction after which a process goes on in the middle of something.
pub record FallsOn (x : Situation) (r : Ruling) (o : Outcome) : Type 0 where
  pub state : State
  pub new : Local
  pub falls : falling r ≡ Some state
  pub goes : GoesTo x o (x.at + x.len) new
  pub low : x.at + x.len < length x.m.code
  pub after : After x.m x.h x.mode x.act state new
  pub same : state.context ≡ x.context
  pub stays : Stays x state new

-- the state of a process among starts
pub starting_state : {p : states.Mode} {q : machine.Mode} → SameMode p q → q ≡ machine_modes.Starting
    → (row : ℕ) × (started : ℕ) × (p ≡ states_modes.Starting row started)
starting_state both_plain e = absurd (cc)
starting_state both_enabling e = absurd (cc)
starting_state both_disabling e = absurd (cc)
starting_state (both_starting {row = row} {started = started}) e = (row, started, refl)

never_plain : {p : states.Mode} {q : machine.Mode} → SameMode p q → q ≡ machine_modes.Starting
    → p ≡ states_modes.Plain → ⊥
never_plain same starting plain =
    let s = starting_state same starting in
    let no' : states_modes.Starting s.0 s.1 ≡ states_modes.Plain = sym s.2 ∙ plain in
    cc

module _ (x : Situation) (starting : x.mode ≡ machine_modes.Starting) (same : SameMode x.before.mode x.mode) where
  not_in_plain_mode : {A : Type 0} → x.mode ≡ machine_modes.Plain → A
  not_in_plain_mode plain =
      let no' : machine_modes.Starting ≡ machine_modes.Plain = sym starting ∙ plain in absurd (cc)

  not_alternating : (x.before.mode ≡ states_modes.Enabling → ⊥)
      × ((done : ℕ) → x.before.mode ≡ states_modes.Disabling done → ⊥)
  not_alternating = (
    λ e. let s = starting_state same starting in let no' = sym s.2 ∙ e in cc,
    λ done e. let s = starting_state same starting in let no' = sym s.2 ∙ e in cc,
  )

  asks_nothing : {r : Ruling} {o : Outcome} → Asks x r o → ⊥
  asks_nothing (to_receive asks wants) = not_in_plain_mode asks.in_plain_mode
  asks_nothing (to_send asks wants) = not_in_plain_mode asks.in_plain_mode
  asks_nothing (to_begin alters begun) = never_plain same starting begun.before
  asks_nothing (to_enable kind alters at more fresh) = not_alternating.0 more.before
  asks_nothing (to_enable_skip alters more) = not_alternating.0 more.before
  asks_nothing (to_wait alters awaits) = not_alternating.0 awaits.before
  asks_nothing (to_disable kind alters at less) = not_alternating.1 less.done less.before
  asks_nothing (to_disable_skip alters less) = not_alternating.1 less.done less.before

  -- Where the rule is not broken.
  pub falls_among_starts : {r : Ruling} {o : Outcome} → Fits x r o → ((v : Rule) → r ≡ breaks v → ⊥) → FallsOn x r o
  falls_among_starts (it_falls {s = s} {l = l} fallen gone low after same_context changes pay stays) whole = record {
    state = s;
    new = l;
    falls = fallen;
    goes = gone;
    low = low;
    after = after;
    same = same_context;
    stays = stays (λ plain. not_in_plain_mode plain);
  }
  falls_among_starts (it_leads turns led gone label low after same_context changes pay) whole =
      absurd (never_plain after.same_mode starting refl)
  falls_among_starts (it_calls act workspace found low after back called same_context changes pay one few) whole =
      absurd (never_plain after.same_mode starting refl)
  falls_among_starts (it_returns some few plain changes registers workspace back pay) whole = not_in_plain_mode plain
  falls_among_starts (it_selects turns among label low after same_context changes pay all) whole =
      absurd (not_alternating.1 _ all)
  falls_among_starts (it_ends plain changes pay) whole = not_in_plain_mode plain
  falls_among_starts (it_asks asks pay) whole = absurd (asks_nothing asks)
  falls_among_starts (it_breaks {broken = v}) whole = absurd (whole v refl)

-- ---- what is paid

-- What falls through after an instruction that is none of PARs has paid each byte from the number.
pub pays_among_starts : (site : Site) (s : State) → is_starting s.mode ≡ true → (f : Fun) (e : ℤ)
    → has_pars (instruction_of f e) ≡ false → (after : State) → falling (rule site f e s) ≡ Some after
    → after.number + site.length ≤ s.number
pays_among_starts site s starting f e none after fallen = elim (starts_let_push site s starting f e none) [
  | it_pushes k enough is ↦
      let same : Some (record s { stack = pushed k s.stack; number = s.number - site.length }) ≡ Some after =
      sym (ap falling is) ∙ fallen in
      let it : record s { stack = pushed k s.stack; number = s.number - site.length } ≡ after = cc in
      let number : s.number - site.length ≡ after.number = ap (λ (u : State). u.number) it in
      omega (arith, enough, number)
  | it_breaks_one broken ↦ let no' : None ≡ Some after = sym (ap falling broken.1) ∙ fallen in absurd (cc)
]
