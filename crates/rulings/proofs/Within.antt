-- What holds after an instruction of a process that starts no branches: it has all that its context has.
use Rattle.std.proofs.Common.{◌≡◌, Bool, true, false, ℕ, List, length, sym, subst, refl, ap}
use Rattle.module_format.specs.Contents.{Contents}
use Rattle.machine_state.specs.declared.process.Mode as machine
use Rattle.machine_state.specs.declared.process.Mode.TheVariants as machine_modes
use Rattle.machine_state.specs.Holding.{Holding}
use Rattle.machine_state.specs.Site.{Local}
use Rattle.states.specs.declared.known.Guard.{Guard}
use Rattle.states.specs.declared.known.Mode as states
use Rattle.states.specs.declared.known.Mode.TheVariants as states_modes
use Rattle.states.specs.State.{State}
use Rattle.rulings.specs.Meaning.{Layout, Activation, HasFrame, Knows, words_in, SameMode, both_plain, both_enabling}
use Rattle.rulings.specs.Meaning.{both_disabling, both_starting}
use Rattle.rulings.specs.Regions.{Scope, scope_of, scope_among, scope_in, HoldsNamed}
use Rattle.rulings.specs.Fitting.{Described, After}

-- a relation of the modes of a state and of a process
abbrev pub Modes : Type 1
Modes = states.Mode → machine.Mode → Type 0

-- both are plain
pub record ArePlain (p : states.Mode) (q : machine.Mode) : Type 0 where
  pub rule : p ≡ states_modes.Plain
  pub step : q ≡ machine_modes.Plain

abbrev pub is_starting : states.Mode → Bool
is_starting (states_modes.Starting row started) = true
is_starting mode = false

-- both are those of a process that starts no branches
pub record AreStill (p : states.Mode) (q : machine.Mode) : Type 0 where
  pub modes : SameMode p q
  pub still : is_starting p ≡ false

pub record Within (E : Modes) (m : Contents) (h : Holding) (mode : machine.Mode) (act : Activation) (s : State)
    (l : Local) : Type 0 where
  pub frame : HasFrame h (length l.memory) (words_in m s.context) act.layout.origin s.depth l.registers.workspace
  pub knows : Knows m (words_in m s.context).reads act s.stack s.frame l.registers.stack l.memory
  pub named : HoldsNamed m h (scope_of m s.context act.layout) l.memory
  pub same_mode : E s.mode mode
  pub modes : SameMode s.mode mode
  pub whole : scope_in m s act.layout ≡ scope_of m s.context act.layout

-- all that holds of its context holds of what it has in its mode, and the other way round
pub whole_after : {E : Modes} {m : Contents} {h : Holding} {mode : machine.Mode} {act : Activation} {s : State}
    {l : Local} → Within E m h mode act s l → After m h mode act s l
whole_after {E} {m} {h} {mode} {act} {s} {l} a = subst (λ (scope : Scope). Described m h mode act s l scope)
    (sym a.whole)
    (record { frame = a.frame; knows = a.knows; named = a.named; same_mode = a.modes })

-- the number changes
pub within_paid : {E : Modes} {m : Contents} {h : Holding} {mode : machine.Mode} {act : Activation} {s : State}
    {l : Local} {n : ℕ} → Within E m h mode act s l → Within E m h mode act (record s { number = n }) l
within_paid a = record {
  frame = a.frame;
  knows = a.knows;
  named = a.named;
  same_mode = a.same_mode;
  modes = a.modes;
  whole = a.whole;
}

pub scope_still : (m : Contents) (context : ℕ) (p : states.Mode) (layout : Layout) → is_starting p ≡ false
    → scope_among m context p layout ≡ scope_of m context layout
scope_still m context states_modes.Plain layout e = refl
scope_still m context states_modes.Enabling layout e = refl
scope_still m context (states_modes.Disabling done) layout e = refl
scope_still m context (states_modes.Starting row started) layout e = absurd (cc)

pub within : {E : Modes} {m : Contents} {h : Holding} {mode : machine.Mode} {act : Activation} {s : State} {l : Local}
    → is_starting s.mode ≡ false → E s.mode mode → After m h mode act s l → Within E m h mode act s l
within {E} {m} {h} {mode} {act} {s} {l} still same a =
    let whole = scope_still m s.context s.mode act.layout still in
    let b = subst (λ (scope : Scope). Described m h mode act s l scope) whole a in
    record {
      frame = b.frame;
      knows = b.knows;
      named = b.named;
      same_mode = same;
      modes = b.same_mode;
      whole = whole;
    }

-- what holds of a process that starts no branches holds of it in another mode
pub in_other_mode : {E : Modes} {m : Contents} {h : Holding} {mode : machine.Mode} {act : Activation} {s : State}
    {l : Local} (p : states.Mode) (q : machine.Mode) (guards : List Guard) → SameMode p q → is_starting p ≡ false
    → Within E m h mode act s l → Within AreStill m h q act (record s { mode = p; guards = guards }) l
in_other_mode {E} {m} {h} {mode} {act} {s} {l} p q guards same still a = record {
  frame = a.frame;
  knows = a.knows;
  named = a.named;
  same_mode = record { modes = same; still = still };
  modes = same;
  whole = scope_still m s.context p act.layout still;
}

-- a process in plain mode starts none
pub as_still : {m : Contents} {h : Holding} {mode : machine.Mode} {act : Activation} {s : State} {l : Local}
    → Within ArePlain m h mode act s l → Within AreStill m h mode act s l
as_still a = record {
  frame = a.frame;
  knows = a.knows;
  named = a.named;
  same_mode = record { modes = a.modes; still = ap is_starting a.same_mode.rule };
  modes = a.modes;
  whole = a.whole;
}

-- a process in plain mode, one in an alternation, and one that starts branches
pub data Which (m : Contents) (h : Holding) (mode : machine.Mode) (act : Activation) (s : State) (l : Local) : Type 0
  where
    in_plain_mode : Within ArePlain m h mode act s l → Which m h mode act s l
    in_alternation : (s.mode ≡ states_modes.Plain → ⊥) → Within AreStill m h mode act s l → Which m h mode act s l
    among_starts : is_starting s.mode ≡ true → Which m h mode act s l

pub which : {m : Contents} {h : Holding} {mode : machine.Mode} {act : Activation} {s : State} {l : Local}
    → After m h mode act s l → Which m h mode act s l
which {m} {h} {mode} {act} {s} {l} a = on_mode s.mode mode refl refl a.same_mode
  where
    on_mode : (p : states.Mode) (q : machine.Mode) → s.mode ≡ p → mode ≡ q → SameMode p q → Which m h mode act s l
    on_mode p q is at both_plain = in_plain_mode (within (ap is_starting is) (record { rule = is; step = at }) a)
    on_mode p q is at both_enabling =
        in_alternation (λ e. cc) (within (ap is_starting is)
        (record { modes = a.same_mode; still = ap is_starting is }) a)
    on_mode p q is at both_disabling =
        in_alternation (λ e. cc) (within (ap is_starting is)
        (record { modes = a.same_mode; still = ap is_starting is }) a)
    on_mode p q is at both_starting = among_starts (ap is_starting is)
