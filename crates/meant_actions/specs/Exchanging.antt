-- What is asked of a process that waits for others: which port its channel is, and that scheduling takes no word of a
-- name.
use Rattle.std.specs.Prelude.{◌≡◌, ℕ, ◌+◌, ◌<◌, ◌≤◌, ◌⊎◌, List, length, Option, Some}
use Rattle.machine_state.specs.Memory.{Memory, byte_at}
use Rattle.occam_parser.specs.Lines.{Place}
use Rattle.scalar_ranges.specs.Entries.{Meaning, Entry, meaning_in}
use Rattle.scalar_ranges.specs.Environments.{Environment}
use Rattle.program_uses.specs.declared.uses.Direction.{Direction}
use Rattle.program_uses.specs.declared.uses.Direction.TheVariants as direction
use Rattle.program_meaning.specs.Links.{Port}
use Rattle.program_meaning.specs.Running.{port_of}
use Rattle.code_pieces.specs.declared.modules.TheConstants.{BASE}
use Rattle.line_pieces.specs.Homes.{Word, Link, home_of}
use Rattle.line_pieces.specs.Actions.{channel_home, carried}
use Rattle.placed_code.specs.Behaves.{IsScheduling}
use Rattle.meant_lines.specs.Carrying.{Ground, Carries, words_of}

-- the number of a link in homes: those out come first
abbrev pub link_home : Direction → ℕ → ℕ
link_home direction.Output link = link
link_home direction.Input link = 4 + link

-- A channel is this port in this direction, and its home is the port's link.
pub record IsPort (g : Ground) (es : List Entry) (env : Environment) (ports : List (Option Port)) (way : Direction)
    (channel : Place) (port : Port) : Type 0 where
  pub is : port_of ports env way channel ≡ Some port
  pub faces : port.way ≡ way
  pub link : port.link < 4
  pub at : channel_home g.homes es channel ≡ Some (Link (link_home way port.link))
  pub carries : carried (meaning_in channel.name es) ≡ port.carries

-- Of memory only the words that scheduling takes have changed, and it has as many bytes.
pub record OnlySchedulingChanges (depth : ℕ) (old new : Memory) : Type 0 where
  pub size : length new ≡ length old
  pub same : (place : ℕ) → (IsScheduling depth place → ⊥) → byte_at new place ≡ byte_at old place

-- The words that scheduling takes are those of no temporary and of no name.
pub record IsUndisturbed (g : Ground) (top : ℕ) (es : List Entry) : Type 0 where
  pub free : g.footing.depth ≤ top
  pub names : (name : List ℕ) (k : Meaning) (w : ℕ) → meaning_in name es ≡ Some k
      → home_of g.homes es name ≡ Some (Word w)
      → (w + words_of k + BASE ≤ g.footing.depth) ⊎ (g.footing.depth ≤ w)
  pub carries : (env : Environment) (old new : Memory) → OnlySchedulingChanges g.footing.depth old new
      → Carries g top es env old → Carries g top es env new

abbrev pub RootsAreUndisturbed : Type 0
RootsAreUndisturbed = (g : Ground) (top : ℕ) (es : List Entry) → g.footing.depth ≡ 0 → IsUndisturbed g top es
