-- What upgrading a module to version 2 promises.
use Rattle.std.specs.Prelude.{◌≡◌, ◌↔◌, ℕ, List}
use Rattle.module_format.specs.Contents.{Contents}
use Rattle.module_format.specs.Keeping.{Format, IsUpgraded}
use Rattle.machine_state.specs.declared.event.Event.{Event}
use Rattle.machine_state.specs.Happens.{turn, world_after}
use Rattle.states.specs.declared.rule.Rule.{Rule}
use Rattle.certified_worlds.specs.Certified.{IsCertified, IsRefused}

-- Both are certified or neither is, and at each offset the same rules are refused.
pub record AreJudgedAlike (c d : Contents) : Type 0 where
  pub certified : IsCertified c ↔ IsCertified d
  pub refused : (rule : Rule) (at : ℕ) → IsRefused c rule at ↔ IsRefused d rule at

-- Each list of events leads both to one world, in which each event has the same effect or fault.
pub record RunAlike (c d : Contents) : Type 0 where
  pub worlds : (es : List Event) → world_after c es ≡ world_after d es
  pub answers : (es : List Event) (e : Event) → turn c (world_after c es) e ≡ turn d (world_after d es) e

-- this holds of what a file of version 1 says and of what the one says that it is upgraded to
abbrev pub OfUpgraded : (Contents → Contents → Type 0) → Type 0
OfUpgraded holds_of =
    (old new : List ℕ) (c d : Contents) → IsUpgraded old new → Format old c → Format new d → holds_of c d
