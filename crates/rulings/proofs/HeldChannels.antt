-- A word that names a channel of which the context has the end, and the step that looks at it.
use Rattle.std.proofs.Common.{◌≡◌, ℕ, ◌+◌, ◌*◌, ◌%◌, ◌<◌, ◌==◌, ℤ, pos, ◌+ℤ◌, FitsSigned, true, false, refl, sym}
use Rattle.std.proofs.Common.{ap, ◌∙◌, subst, arith, Option, Some, None}
use Rattle.std.proofs.lemmas.Bool.{eq-eqb}
use Rattle.std.proofs.lemmas.Int.{ints}
use Rattle.std.specs.Int.{w32, cast_unsigned}
use Rattle.module_format.specs.Rows.{Fact}
use Rattle.module_format.specs.declared.rows.EndKind.{EndKind}
use Rattle.module_format.specs.declared.rows.EndKind.TheVariants as ends
use Rattle.module_format.specs.declared.rows.Direction.{Direction}
use Rattle.certificate.specs.Rights as rights
use Rattle.machine_state.specs.declared.fault.FaultKind.TheVariants.{EndNotHeld}
use Rattle.machine_state.specs.Holding.{has_end}
use Rattle.machine_state.specs.LocalStep as step
use Rattle.machine_state.specs.Site.{Outcome, Local}
use Rattle.states.specs.declared.known.WordFact.TheVariants.{Alone}
use Rattle.states.specs.declared.rule.Rule.TheVariants as rules
use Rattle.states.specs.State.{State}
use Rattle.rulings.specs.Rulings.{Ruling, breaks}
use Rattle.rulings.specs.Pointers.{is_near_pointer}
use Rattle.rulings.specs.Meaning.{Means, is_fact}
use Rattle.rulings.specs.Regions.{channel_address}
use Rattle.rulings.specs.Channels.{channel_of, names_channel, further}
use Rattle.rulings.specs.Fitting.{Situation, step_site, it_breaks}
use Rattle.rulings.proofs.Within.{Modes, Within}
use Rattle.rulings.proofs.Ends.{names}
use Rattle.rulings.proofs.EvenChannels.{channel_even}
use Rattle.rulings.proofs.Combining.{FitsIf, wants_fits, on_step_test, holds_fits}

-- A value is the address of a channel: the context has the end in a direction.
pub record IsHeldChannel (x : Situation) (s : State) (direction : Direction) (kind : EndKind) (v : ℤ) : Type 0 where
  pub address : channel_address x.act.layout kind ≡ step.address v
  pub even : step.address v % 4 ≡ 0
  pub held : has_end x.h (record { address = step.address v; direction = direction }) ≡ true

-- the channel that is none further is the channel itself
pub none_further : (kind : EndKind) → further kind 0 ≡ kind
none_further (ends.FrameWord word) = let e : word +ℤ pos 0 ≡ word = omega (arith, ints) in ap ends.FrameWord e
none_further (ends.Parameter number element) =
    let e : element + 0 ≡ element = omega arith in ap (ends.Parameter number) e
none_further (ends.Link link) = let e : link + 0 ≡ link = omega arith in ap ends.Link e

pub held_channel : {E : Modes} (x : Situation) (s : State) (l : Local) → Within E x.m x.h x.mode x.act s l
    → (direction : Direction) (fact : Fact) (v : ℤ) → Means x.m x.act.layout fact (Some v) → (kind : EndKind)
    → channel_of (Alone fact) ≡ Some kind
    → rights.has_end x.m s.context (record { kind = kind; direction = direction }) ≡ true
    → IsHeldChannel x s direction kind v
held_channel x s l a direction fact v means kind named end =
    let w = names x.m x.act (pos 0) (Alone fact) kind (Some v) named (is_fact means) in
    let same : v ≡ w.x = let e = w.is in cc in
    let address : channel_address x.act.layout kind ≡ step.address v =
    ap (channel_address x.act.layout) (sym (none_further kind)) ∙ w.addresses 0
    ∙ small w.x w.fits ∙ ap step.address (sym same) in
    record {
      address = address;
      even = ap (λ (k : ℕ). k % 4) (sym address)
          ∙ channel_even x.m x.h s.context x.act.layout l.memory a.named kind _ (a.named.lengths kind direction end);
      held = subst (λ (k : ℕ). has_end x.h (record { address = k; direction = direction }) ≡ true) address
          (a.named.ends kind direction end);
    }
  where
    small : (y : ℤ) → FitsSigned w32 y → (cast_unsigned w32 y + 4 * 0) % 4294967296 ≡ cast_unsigned w32 y
    small y fits = below (cast_unsigned w32 y) (omega (arith, ints, fits))
      where
        below : (k : ℕ) → k < 4294967296 → (k + 4 * 0) % 4294967296 ≡ k
        below k low = omega arith

-- what is wanted of a word that names one
pub names_channel_fits : (x : Situation) (fact : Fact) (r : EndKind → Ruling) (o : Outcome)
    → ((kind : EndKind) → channel_of (Alone fact) ≡ Some kind → FitsIf x (r kind) o)
    → FitsIf x (names_channel fact r) o
unfolding names_channel
names_channel_fits x fact r o go =
    wants_fits x (is_near_pointer fact) _ _ _ (λ near. on (channel_of (Alone fact)) refl)
  where
    on : (found : Option EndKind) → channel_of (Alone fact) ≡ found
        → FitsIf x (elim found as (λ found. Ruling) [ None ↦ breaks rules.Channel | Some kind ↦ r kind ]) o
    on None e = λ next. it_breaks
    on (Some kind) e = go kind e

-- the machine looks at it
pub held_channel_fits : (x : Situation) {s : State} {kind : EndKind} (direction : Direction) (v : ℤ) (r : Ruling)
    (o : ℕ → Outcome) → IsHeldChannel x s direction kind v → FitsIf x r (o (step.address v))
    → FitsIf x r (step.channel (step_site x) v direction o)
unfolding step.channel step.aligned
held_channel_fits x direction v r o c go =
    on_step_test x (step.address v % 4 == 0) _ _ _ (λ t. holds_fits x _ EndNotHeld _ _ c.held go)
    (λ t. let no : true ≡ false = sym (eq-eqb (step.address v % 4) 0 c.even) ∙ t in absurd (cc))
