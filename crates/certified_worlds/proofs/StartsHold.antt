-- What a start comes to, by its rule: none of its tests fails, and the invariant holds afterwards.
use Rattle.std.proofs.Common.{◌≡◌, ℕ, ◌+◌, true, false, nat_lt, length, Some, None, refl, sym, ap, ◌∙◌, subst}
use Rattle.std.proofs.Common.{arith}
use Rattle.std.proofs.lemmas.Bool.{lt-ltb}
use Rattle.std.specs.Prelude.{◌==◌}
use Rattle.small_laws.proofs.Options.{same_some}
use Rattle.module_format.specs.Contents.{Contents}
use Rattle.module_format.specs.Keeping as formats
use Rattle.machine_state.specs.declared.fault.FaultKind.{FaultKind}
use Rattle.machine_state.specs.declared.process.Mode.TheVariants as machine_modes
use Rattle.machine_state.specs.declared.process.Task.{Task}
use Rattle.machine_state.specs.Endings.{Moved, starts_first, starts_later, Refused, no_code_follows}
use Rattle.machine_state.specs.Endings.{starts_no_branch_not_own, starts_no_branch, starts_other_row_not_own}
use Rattle.machine_state.specs.Endings.{starts_other_row, fails_first_tests, fails_later_tests}
use Rattle.machine_state.specs.JoinLookups.{Found, found_at, opened_by}
use Rattle.machine_state.specs.Joins.{started, opened}
use Rattle.machine_state.specs.LocalStep.{without_registers}
use Rattle.machine_state.specs.Moves.{counted}
use Rattle.machine_state.specs.Site.{Outcome, starts}
use Rattle.machine_state.specs.StartPlans.{first_plan, later_plan, first_fault, first_faults, later_faults}
use Rattle.machine_state.specs.Turn.{at_here}
use Rattle.machine_state.specs.World.{World, Join, holding_at}
use Rattle.states.specs.declared.rule.Rule.{Rule}
use Rattle.states.specs.State.{State}
use Rattle.rulings.specs.Meaning.{IsWellFormed}
use Rattle.rulings.specs.Rulings.{Ruling, breaks, falling}
use Rattle.start_laws.specs.Starting.{StartsBranch, StartsNext, StartsFirst, StartFits, to_start_next, to_start_first}
use Rattle.start_laws.specs.Starting.{start_breaks}
use Rattle.certified_worlds.specs.Certified.{Reaches, IsCertified}
use Rattle.certified_worlds.specs.Invariant.{Holds}
use Rattle.certified_worlds.specs.Point.{Decodes}
use Rattle.certified_worlds.proofs.EndsAreInOrder.{none_open}
use Rattle.certified_worlds.proofs.FirstStartsHold.{first_start_passes, first_start_holds}
use Rattle.certified_worlds.proofs.LaterStartsHold.{later_row, later_start_passes, later_start_holds}
use Rattle.certified_worlds.proofs.OrderlyWorlds.{IsOrderly, IsAtLastByte}
use Rattle.certified_worlds.proofs.ParsStay.{opened_is}
use Rattle.certified_worlds.proofs.Standing.{standing}

module _ (m : Contents) (d : Decodes m) (wf : IsWellFormed m) (keeps : formats.Keeps m) (c : IsCertified m) (w : World)
    (h : Holds m w) (order : IsOrderly m w) (p : ℕ) (t : Task) (r : IsAtLastByte m w h p t) (pick : ℕ) where
  open standing d wf c r use {row, point, x, local}

  -- a process that is among the starts of a PAR has a join open, and one in plain mode has none
  has_join : t.mode ≡ machine_modes.Starting → (j : Join) × (opened_by w p ≡ Some j)
  has_join starting =
      let o = order.starters.starters p t r.here starting in (o.join, opened_is w.roles p o.role o.here ∙ o.is_open)

  no_join : t.mode ≡ machine_modes.Plain → (j : Join) → opened_by w p ≡ Some j → ⊥
  no_join plain j opens =
      none_open m w h order.branches order.starters p t r.here r.ready pick 0 local plain j opens

  -- the branch of a later start and of a first one
  module _ (after : State) (found : Found) (target workspace : ℕ)
      (b : StartsBranch x point.state after local found target workspace)
      (reached : Reaches m (t.registers.began + point.instr.len) (Some after)) where
    same_found : (other : Found) → found_at m target ≡ Some other → found ≡ other
    same_found other at = same_some (found_at m target) found other b.found_is at

    -- another byte of code follows
    follows_on : nat_lt (t.registers.at + 1) (length m.code) ≡ false → ⊥
    follows_on none =
        let below = b.low in
        let begun = point.reading.at_is in
        let last = r.last in
        let is : nat_lt (t.registers.at + 1) (length m.code) ≡ true =
        lt-ltb (t.registers.at + 1) (length m.code) (omega (arith, below, begun, last)) in
        let no' : true ≡ false = sym is ∙ none in
        cc

    -- no test of a start fails where none of the open PAR's row, of a first start and of a later one does
    none_fails : ((j : Join) (other : Found) → found_at m target ≡ Some other → opened_by w p ≡ Some j
        → (other.row == j.row) ≡ false → ⊥)
        → ((other : Found) (kind : FaultKind) → found_at m target ≡ Some other → opened_by w p ≡ None
        → first_fault (first_faults m w.memory (holding_at w.roles p)
        (first_plan m p t.registers.workspace (holding_at w.roles p) w.memory other) other workspace) ≡ Some kind → ⊥)
        → ((j : Join) (other : Found) (kind : FaultKind) → found_at m target ≡ Some other → opened_by w p ≡ Some j
        → first_fault (later_faults (length w.memory) (later_plan m j other.par) other workspace) ≡ Some kind → ⊥)
        → {kind : FaultKind} → Refused (at_here m p t pick) w (starts target workspace (without_registers local)) kind
        → ⊥
    none_fails rows firsts laters (no_code_follows needs none) = follows_on none
    none_fails rows firsts laters (starts_no_branch_not_own a e k none own) =
        let no' : None ≡ Some found = sym none ∙ b.found_is in
        cc
    none_fails rows firsts laters (starts_no_branch a e k none own) =
        let no' : None ≡ Some found = sym none ∙ b.found_is in
        cc
    none_fails rows firsts laters (starts_other_row_not_own a e k other j at opens differ own) =
        rows j other at opens differ
    none_fails rows firsts laters (starts_other_row a e k other j at opens differ own) = rows j other at opens differ
    none_fails rows firsts laters (fails_first_tests a e k other kind at unopened fails) =
        firsts other kind at unopened fails
    none_fails rows firsts laters (fails_later_tests a e k other j kind at opens same fails) =
        laters j other kind at opens fails

    -- ---- a later start

    module _ (n : StartsNext x point.state after local found) where
      other_row : (j : Join) (other : Found) → found_at m target ≡ Some other → opened_by w p ≡ Some j
          → (other.row == j.row) ≡ false → ⊥
      other_row j other at opens differ =
          let same = later_row m d wf keeps c w h order p t r after found target workspace b n reached j opens pick in
          let no' : true ≡ false =
          sym same ∙ (ap (λ (f : Found). f.row == j.row) (same_found other at) ∙ differ) in
          cc

      next_passes : {kind : FaultKind}
          → Refused (at_here m p t pick) w (starts target workspace (without_registers local)) kind → ⊥
      next_passes refused = none_fails other_row (λ other kind at unopened fails.
          let o = has_join n.machine_mode in
          let no' : None ≡ Some o.0 = sym unopened ∙ o.1 in
          cc) (λ j other kind at opens fails.
          let passes =
          later_start_passes m d wf keeps c w h order p t r after found target workspace b n reached j opens pick in
          let no' : None ≡ Some kind = sym passes
          ∙ (ap (λ (f : Found). first_fault (later_faults (length w.memory) (later_plan m j f.par) f workspace))
          (same_found other at) ∙ fails) in
          cc) refused

      next_holds : {v : World} → Moved (at_here m p t pick) w (starts target workspace (without_registers local)) v
          → Holds m (counted v)
      next_holds (starts_first a e k other at unopened none) =
          let o = has_join n.machine_mode in
          let no' : None ≡ Some o.0 = sym unopened ∙ o.1 in
          absurd (cc)
      next_holds (starts_later a e k other j at opens same none) =
          subst (λ (f : Found). Holds m (counted (started (at_here m p t pick) (later_plan m j f.par) f workspace
          (without_registers local) w))) (same_found other at)
          (later_start_holds m d wf keeps c w h order p t r after found target workspace b n reached j opens pick)

    -- ---- the first start of a PAR

    module _ (n : StartsFirst x point.state after local found) where
      first_passes : {kind : FaultKind}
          → Refused (at_here m p t pick) w (starts target workspace (without_registers local)) kind → ⊥
      first_passes refused = none_fails (λ j other at opens differ. no_join n.machine_mode j opens)
          (λ other kind at unopened fails.
          let passes =
          first_start_passes m d wf keeps c w h order p t r after found target workspace b n reached unopened pick in
          let no' : None ≡ Some kind = sym passes
          ∙ (ap (λ (f : Found). first_fault (first_faults m w.memory (holding_at w.roles p)
          (first_plan m p t.registers.workspace (holding_at w.roles p) w.memory f) f workspace))
          (same_found other at) ∙ fails) in
          cc) (λ j other kind at opens fails. no_join n.machine_mode j opens) refused

      -- the world after it
      abbrev first_started : Found → World
      first_started f =
          let plan = first_plan m p t.registers.workspace (holding_at w.roles p) w.memory f in
          let there = opened (at_here m p t pick) plan (without_registers local) w in
          counted (started (at_here m p t pick) plan f workspace there.0 there.1)

      first_holds : {v : World} → Moved (at_here m p t pick) w (starts target workspace (without_registers local)) v
          → Holds m (counted v)
      first_holds (starts_first a e k other at unopened none) =
          subst (λ (f : Found). Holds m (first_started f)) (same_found other at)
          (first_start_holds m d wf keeps c w h order p t r after found target workspace b n reached unopened pick)
      first_holds (starts_later a e k other j at opens same none) =
          absurd (no_join n.machine_mode j opens)

  -- ---- by the rule

  module _ {ruling : Ruling} {o : Outcome} (unbroken : (broken : Rule) → ruling ≡ breaks broken → ⊥)
      (next : (after : State) → falling ruling ≡ Some after
      → Reaches m (t.registers.began + point.instr.len) (Some after)) where
    -- No test of a start fails,
    pub start_passes : StartFits x point.state local ruling o → {kind : FaultKind}
        → Refused (at_here m p t pick) w o kind → ⊥
    start_passes fits = on unbroken next fits
      where
        on : {ruling : Ruling} {o : Outcome} → ((broken : Rule) → ruling ≡ breaks broken → ⊥)
            → ((after : State) → falling ruling ≡ Some after
            → Reaches m (t.registers.began + point.instr.len) (Some after))
            → StartFits x point.state local ruling o → {kind : FaultKind} → Refused (at_here m p t pick) w o kind → ⊥
        on unbroken next (to_start_next {after} {target} {workspace} found b n) refused =
            next_passes after found target workspace b (next after refl) n refused
        on unbroken next (to_start_first {after} {target} {workspace} found b n) refused =
            first_passes after found target workspace b (next after refl) n refused
        on unbroken next (start_breaks {broken}) refused = unbroken broken refl

    -- and the invariant holds afterwards.
    pub start_holds : StartFits x point.state local ruling o → {v : World} → Moved (at_here m p t pick) w o v
        → Holds m (counted v)
    start_holds fits = on unbroken next fits
      where
        on : {ruling : Ruling} {o : Outcome} → ((broken : Rule) → ruling ≡ breaks broken → ⊥)
            → ((after : State) → falling ruling ≡ Some after
            → Reaches m (t.registers.began + point.instr.len) (Some after))
            → StartFits x point.state local ruling o → {v : World} → Moved (at_here m p t pick) w o v
            → Holds m (counted v)
        on unbroken next (to_start_next {after} {target} {workspace} found b n) moved =
            next_holds after found target workspace b (next after refl) n moved
        on unbroken next (to_start_first {after} {target} {workspace} found b n) moved =
            first_holds after found target workspace b (next after refl) n moved
        on unbroken next (start_breaks {broken}) moved = absurd (unbroken broken refl)
