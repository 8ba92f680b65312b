-- A small module that sends on the byte that it receives, with and without what it talks to.
use Rattle.std.specs.Prelude.{◌≡◌, ℕ, Bool, true, false, List, [], ◌∷◌, Option, Some, None}
use Rattle.machine_state.specs.declared.link.Link.TheVariants.{Zero}
use Rattle.machine_state.specs.SmallModules.{echo}
use Rattle.link_runs.specs.ByLink.{ByLink, with_link, for_all}
use Rattle.link_runs.specs.FirstInFirstOut.{Supply, RunMoment, moment_after, IsOver}

-- bytes for one link, and a writer on one
abbrev pub on_first : List ℕ → ByLink Supply
on_first bytes = with_link Zero (Some bytes) (for_all None)

abbrev pub first_writer : ByLink Bool
first_writer = with_link Zero true (for_all false)

abbrev pub no_writer : ByLink Bool
no_writer = for_all false

-- the run is over: `executed` bytes were executed, the module is finished or not, and this is left and written
pub record Ended (writers : ByLink Bool) (s : RunMoment) (executed : ℕ) (is_finished : Bool) (rest : Supply)
    (bytes : List ℕ) : Type 0 where
  pub over : IsOver echo writers s
  pub no_fault : s.world.fault ≡ None
  pub count : s.world.counters.executed ≡ executed
  pub finished : s.world.counters.is_finished ≡ is_finished
  pub left : s.left.first ≡ rest
  pub written : s.written.first ≡ bytes

-- the run ends so at this moment, if there is one
abbrev pub EndsAfter : Option RunMoment → ByLink Bool → ℕ → Bool → Supply → List ℕ → Type 0
EndsAfter None writers executed finished left written = ⊥
EndsAfter (Some s) writers executed finished left written = Ended writers s executed finished left written

-- The byte is sent on, and of two the second is not asked for. With no byte to come the link ends, and the module
-- waits.
-- With no writer it waits for an acknowledgement.
pub record EchoRuns : Type 0 where
  pub one : EndsAfter (moment_after echo (on_first (0x41 ∷ [])) first_writer 16) first_writer 15 true (Some []) (0x41
      ∷ [])
  pub two : EndsAfter (moment_after echo (on_first (0x41 ∷ 0x42 ∷ [])) first_writer 16) first_writer 15 true
      (Some (0x42 ∷ [])) (0x41 ∷ [])
  pub none : EndsAfter (moment_after echo (on_first []) first_writer 9) first_writer 8 false None []
  pub nobody : EndsAfter (moment_after echo (on_first (0x41 ∷ [])) no_writer 14) no_writer 13 false (Some []) []
