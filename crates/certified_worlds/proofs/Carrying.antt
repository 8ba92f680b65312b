-- What a process in an alternation has enabled, and the values of its guards, over changes of the world.
use Rattle.std.proofs.Common.{◌≡◌, ◌≢◌, ◌⊎◌, ℕ, ◌≤◌, ◌<◌, ℤ, true, inl, inr, List, Option, Some, None}
use Rattle.std.proofs.Common.{sym, ap, ◌∙◌, subst}
use Rattle.std.specs.Prelude.{slice_get, slice_set}
use Rattle.small_laws.proofs.Options.{same_some}
use Rattle.module_format.specs.Contents.{Contents}
use Rattle.machine_state.specs.declared.process.Condition.TheVariants.{Ready, Sending}
use Rattle.machine_state.specs.declared.process.Exchange.{Exchange}
use Rattle.machine_state.specs.declared.process.Mode.TheVariants as machine_modes
use Rattle.machine_state.specs.declared.process.Task.{Task}
use Rattle.machine_state.specs.EnabledLaws.{HasReady, a_sender, a_byte}
use Rattle.machine_state.specs.Memory.{Memory}
use Rattle.machine_state.specs.declared.process.Channel.{Channel}
use Rattle.machine_state.specs.declared.link.InputLink.{InputLink}
use Rattle.machine_state.specs.Moves.{cell_of}
use Rattle.machine_state.specs.World.{World}
use Rattle.machine_state.proofs.Lines.{got_other}
use Rattle.states.specs.declared.known.Guard.{Guard}
use Rattle.states.specs.State.{State}
use Rattle.rulings.specs.Meaning.{Activation}
use Rattle.rulings.specs.Guarding.{guard_value, first_left, GuardsFit}
use Rattle.certified_worlds.specs.Alternating.{IsTrueGuard, IsTrueSkip, EnablesAt, a_channel, a_link}
use Rattle.certified_worlds.specs.Alternating.{AlternatesHere}

-- a process has enabled the same in both worlds
pub record SameEnabled (w after : World) (p : ℕ) : Type 0 where
  pub fewer : (address : ℕ) → EnablesAt after p address → EnablesAt w p address
  pub more : (address : ℕ) → EnablesAt w p address → EnablesAt after p address

-- where the channels that it has enabled are in both, and no link has changed
pub enabled_alike : (w after : World) (p : ℕ)
    → ((k : ℕ) (c : Channel) → slice_get after.channels k ≡ Some (Some c) → c.enabled ≡ Some p
    → slice_get w.channels k ≡ Some (Some c))
    → ((k : ℕ) (c : Channel) → slice_get w.channels k ≡ Some (Some c) → c.enabled ≡ Some p
    → slice_get after.channels k ≡ Some (Some c))
    → after.links.inputs ≡ w.links.inputs → SameEnabled w after p
enabled_alike w after p old new inputs = record {
  fewer = λ address enables. fewer address enables;
  more = λ address enables. more address enables;
}
  where
    fewer : (address : ℕ) → EnablesAt after p address → EnablesAt w p address
    fewer address (a_channel word c here is) = a_channel word c (old (cell_of address) c here is) is
    fewer address (a_link k link at here is) =
        a_link k link at (ap (λ links. slice_get links k) (sym inputs) ∙ here) is

    more : (address : ℕ) → EnablesAt w p address → EnablesAt after p address
    more address (a_channel word c here is) = a_channel word c (new (cell_of address) c here is) is
    more address (a_link k link at here is) =
        a_link k link at (ap (λ links. slice_get links k) inputs ∙ here) is

-- where no channel and no link has changed
pub enabled_as_before : (w after : World) (p : ℕ) → after.channels ≡ w.channels → after.links.inputs ≡ w.links.inputs
    → SameEnabled w after p
enabled_as_before w after p channels inputs =
    enabled_alike w after p (λ k c here is. ap (λ cells. slice_get cells k) (sym channels) ∙ here)
    (λ k c here is. ap (λ cells. slice_get cells k) channels ∙ here) inputs

-- the names of the guards have the same values in both memories
abbrev pub SameValues : Memory → Memory → Activation → State → Type 0
SameValues old new act s =
    (n : ℕ) (g : Guard) → slice_get s.guards n ≡ Some g → guard_value new act g.name ≡ guard_value old act g.name

-- a state has the guards of another one, and as many of them are disabled
pub record SameGuards (s after : State) : Type 0 where
  pub guards : after.guards ≡ s.guards
  pub left : first_left after.mode ≡ first_left s.mode

module _ {old new : Memory} {act : Activation} {s after : State} (values : SameValues old new act s)
    (same : SameGuards s after) where
  pub true_before : (g : Guard) → IsTrueGuard new act after g → IsTrueGuard old act s g
  true_before g t =
      let here = subst (λ (guards : List Guard). slice_get guards t.number ≡ Some g) same.guards t.here in
      let left = t.left in
      record {
        number = t.number;
        left = subst (λ (n : ℕ). n ≤ t.number) same.left left;
        here = here;
        value = t.value;
        is = sym (values t.number g here) ∙ t.is;
        holds = t.holds;
      }

  pub true_after : (g : Guard) → IsTrueGuard old act s g → IsTrueGuard new act after g
  true_after g t =
      let left = t.left in
      record {
        number = t.number;
        left = subst (λ (n : ℕ). n ≤ t.number) (sym same.left) left;
        here = subst (λ (guards : List Guard). slice_get guards t.number ≡ Some g) (sym same.guards) t.here;
        value = t.value;
        is = values t.number g t.here ∙ t.is;
        holds = t.holds;
      }

  pub skip_after : IsTrueSkip old act s → IsTrueSkip new act after
  skip_after k = record { guard = k.guard; holds = true_after k.guard k.holds; is = k.is }

-- when a process in an alternation has to have something ready
abbrev pub MustBeReady : Task → Type 0
MustBeReady t =
    (t.mode ≡ machine_modes.Enabling true) ⊎ ((t.mode ≡ machine_modes.Disabling None) × (t.condition ≡ Ready))

-- Its guards are the same, and so is what it has enabled.
pub alternates_on : (m : Contents) (w after : World) (p : ℕ) (t u : Task) (s next : State) (act : Activation)
    → AlternatesHere m w p t s act → SameEnabled w after p → SameValues w.memory after.memory act s → SameGuards s next
    → GuardsFit m next
    → ((distance : ℤ) → u.mode ≡ machine_modes.Disabling (Some distance)
    → t.mode ≡ machine_modes.Disabling (Some distance))
    → (MustBeReady u → HasReady after.tasks after.channels after.links.inputs p ⊎ IsTrueSkip w.memory act s)
    → AlternatesHere m after p u next act
alternates_on m w after p t u s next act old enabled values same fit exits ready = record {
  fit = fit;
  values = λ n g here.
      let there = subst (λ (guards : List Guard). slice_get guards n ≡ Some g) same.guards here in
      let v = old.values n g there in
      (v.0, values n g there ∙ v.1);
  only = λ address enables.
      let was = old.only address (enabled.fewer address enables) in
      record {
        guard = was.guard;
        holds = true_after values same was.guard was.holds;
        kind = was.kind;
        is = was.is;
        there = was.there;
      };
  back = λ g kind holds is. enabled.more _ (old.back g kind (true_before values same g holds) is);
  exits = λ distance is.
      let e = old.exits distance (exits distance is) in
      let low = e.disabled in
      record {
        number = e.number;
        disabled = subst (λ (n : ℕ). e.number < n) (sym same.left) low;
        guard = e.guard;
        here = subst (λ (guards : List Guard). slice_get guards e.number ≡ Some e.guard) (sym same.guards) e.here;
        exit = e.exit;
      };
  ready = λ must. elim (ready must) [ inl is ↦ inl is | inr skip ↦ inr (skip_after values same skip) ];
}

-- what is ready for it stays so where the channels that it has enabled are there, and each task but one that sends
-- nothing
pub ready_alike : (tasks now : List Task) (cells there : List (Option Channel)) (inputs : List InputLink) (p q : ℕ)
    (t : Task) → slice_get tasks q ≡ Some t → ((e : Exchange) → t.condition ≡ Sending e → ⊥)
    → ((k : ℕ) (c : Channel) → slice_get cells k ≡ Some (Some c) → c.enabled ≡ Some p
    → slice_get there k ≡ Some (Some c))
    → ((r : ℕ) (u : Task) → q ≢ r → slice_get tasks r ≡ Some u → slice_get now r ≡ Some u)
    → HasReady tasks cells inputs p → HasReady now there inputs p
ready_alike tasks now cells there inputs p q t here silent kept others (a_byte k link byte at is keeps) =
    a_byte k link byte at is keeps
ready_alike tasks now cells there inputs p q t here silent kept others (a_sender k c r sender e at is waiting has sends) =
    a_sender k c r sender e (kept k c at is) is waiting (others r sender other has) sends
  where
    other : q ≢ r
    other same =
        silent e (ap (λ (x : Task). x.condition)
        (same_some (slice_get tasks r) t sender
        (subst (λ (n : ℕ). slice_get tasks n ≡ Some t) same here) has) ∙ sends)

-- where one other task, or one that sends nothing, has changed
pub ready_on : (tasks : List Task) (cells : List (Option Channel)) (inputs : List InputLink) (p q : ℕ) (t u : Task)
    → slice_get tasks q ≡ Some t → ((e : Exchange) → t.condition ≡ Sending e → ⊥) → HasReady tasks cells inputs p
    → HasReady (slice_set tasks q u) cells inputs p
ready_on tasks cells inputs p q t u here silent =
    ready_alike tasks (slice_set tasks q u) cells cells inputs p q t here silent (λ k c at is. at)
    (λ r v other has. got_other tasks q r u other ∙ has)
