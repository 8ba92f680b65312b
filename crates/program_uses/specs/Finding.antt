-- What is found of a process: the variables that it changes, and lists of what the constructs in it change.
use Rattle.std.specs.Prelude.{◌≡◌, ℕ, true, List}
use Rattle.scalar_ranges.specs.Moves.{Known}
use Rattle.program_uses.specs.declared.finding.Finding.{Finding}
use Rattle.program_uses.specs.declared.listing.ChangeLists.{ChangeLists}
use Rattle.program_uses.specs.Changes.{Notes}
use Rattle.program_uses.specs.Listing.{Keeps}

-- In a part of a process numbers were noted, if memory was enough, and its constructs were listed. The scope is as it
-- was.
pub record Finds (old new : Finding) (before after : Known) (ns : List ℕ) (AreThere : ChangeLists → Type 0)
    : Type 0 where
  pub notes : Notes old.changes new.changes ns
  pub keeps : Keeps old.lists new.lists
  pub lists : new.changes.complete ≡ true → AreThere new.lists
  pub scope : after ≡ before
