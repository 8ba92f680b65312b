-- Where a process of a program stands: what is known there, what memory carries, and which pieces are those of the
-- whole.
use Rattle.std.specs.Prelude.{◌≡◌, ℕ, ◌<◌, ◌≤◌, ◌⊎◌, true, false, ℤ, List, [], ◌∷◌, length, Option, Some, None}
use Rattle.std.specs.Prelude.{slice_get}
use Rattle.std.specs.List.{AllByRecursion}
use Rattle.machine_state.specs.Memory.{Memory}
use Rattle.occam_parser.specs.declared.tree.ValueType.{ValueType}
use Rattle.occam_parser.specs.Blocks.{ProgramItem}
use Rattle.scalar_ranges.specs.declared.scope.ScalarKind.TheVariants as scalar
use Rattle.scalar_ranges.specs.declared.scope.ArrayKind.TheVariants as array
use Rattle.scalar_ranges.specs.Entries.{Meaning, Scalar, Array, Channel, Channels, Entry, type_range}
use Rattle.scalar_ranges.specs.Environments.{Environment, item_at}
use Rattle.scalar_ranges.specs.MoveLaws.{shape, meaning_at}
use Rattle.scalar_ranges.specs.Moves.{begun_with}
use Rattle.program_uses.specs.Actions.{Around}
use Rattle.program_uses.specs.LinkNames.{link_way}
use Rattle.program_meaning.specs.Links.{Port}
use Rattle.program_meaning.specs.GoingWell.{IsTrueIn}
use Rattle.usage_checks.specs.declared.channel_rules.Position.{Position}
use Rattle.usage_checks.specs.ChannelRules.{is_formal_of_main, is_inside}
use Rattle.usage_checks.specs.Reaching.{Standing}
use Rattle.code_pieces.specs.Pieces.{Piece}
use Rattle.line_pieces.specs.Homes.{Home, Link, Word}
use Rattle.code_generator.specs.Processes.{Site, Calls, Surroundings}
use Rattle.code_generator.specs.Programs.{link_of}
use Rattle.placed_code.specs.LaidCode.{LaidCode}
use Rattle.meant_lines.specs.Carrying.{Ground, Carries}
use Rattle.meant_lines.specs.Pushing.{StandsOn}

-- The items of a program, what is around the process and its position, the code of instances, the code that is laid out,
-- with so many words in its frame and these pieces, and which declarations are links.
pub record Program : Type 0 where
  pub items : List ProgramItem
  pub around : Around
  pub position : Position
  pub calls : Calls
  pub code : LaidCode
  pub words : ℕ
  pub pieces : List Piece
  pub ports : List (Option Port)

abbrev pub surroundings : Program → Surroundings
surroundings p = record { around = p.around; calls = p.calls }

abbrev pub standing : Program → Standing
standing p = record { around = p.around; position = p.position }

-- the ground under a process whose names have these homes, where loops have these turns left
abbrev pub ground : Program → List Home → (ℕ → ℤ) → Ground
ground p homes turns = record {
  footing = p.code.footing;
  words = p.words;
  pieces = p.pieces;
  homes = homes;
  turns = turns;
}

-- ---- pieces

-- a piece of the whole code: what it stores is in the frame, and a table whose address it makes is read
abbrev pub FitsIn : Program → Piece → Type 0
FitsIn p piece = StandsOn p.words p.pieces piece

abbrev pub AllFit : Program → List Piece → Type 0
AllFit p ps = AllByRecursion (FitsIn p) ps

-- ---- places

-- No parameter is a variable, and the elements of an array that can change have the range of their type.
abbrev pub IsOwn : Meaning → Type 0
IsOwn (Scalar scalar.Reference type range) = ⊥
IsOwn (Array array.Variable type size range) = range ≡ type_range type
IsOwn m = Unit {0}

-- A variable, and an array that can change, have words of their own.
abbrev pub IsHoused : Option Home → Meaning → Type 0
IsHoused (Some (Word w)) m = Unit {0}
IsHoused h (Scalar scalar.Variable type range) = ⊥
IsHoused h (Array array.Variable type size range) = ⊥
IsHoused h m = Unit {0}

-- so do those among these names
abbrev pub AreHoused : List Home → List Entry → Type 0
AreHoused hs [] = Unit {0}
AreHoused hs (e ∷ es) = IsHoused (slice_get hs (length es)) e.meaning × AreHoused hs es

-- A channel is a link of main: a port of the way that its name has, among main's formals.
pub record IsLink (p : Program) (n : ℕ) (name : List ℕ) (type : ValueType) : Type 0 where
  pub port : Port
  pub is : item_at n p.ports ≡ Some (Some port)
  pub carries : port.carries ≡ type
  pub way : link_way name ≡ Some port.way
  pub link : port.link < 4
  pub formal : is_formal_of_main p.position n ≡ true

-- A channel is a link, or one that is declared in the process, and with no PAR around it no action may use that.
abbrev pub IsLinked : Program → ℕ → List ℕ → Meaning → Type 0
IsLinked p n name (Channel type) = IsLink p n name type ⊎ (is_inside p.position n ≡ false)
IsLinked p n name (Channels type size) = is_inside p.position n ≡ false
IsLinked p n name m = Unit {0}

-- so is each channel among these names
abbrev pub AreLinked : Program → List Entry → Type 0
AreLinked p [] = Unit {0}
AreLinked p (e ∷ es) = IsLinked p (length es) e.name e.meaning × AreLinked p es

-- At a site names have the homes of their kinds, the ports are channels whose homes are their links, and no other
-- channel may be used. What is declared from here on is declared in the process, and no PAR is around it.
pub record IsSited (p : Program) (s : Site) : Type 0 where
  pub counted : p.around.uncounted ≡ None
  pub own : AllByRecursion (λ e. IsOwn e.meaning) (shape s.known.entries)
  pub channels : (n : ℕ) (port : Port) → item_at n p.ports ≡ Some (Some port)
      → meaning_at n (shape s.known.entries) ≡ Some (Channel port.carries)
  pub links : (n : ℕ) (port : Port) → item_at n p.ports ≡ Some (Some port)
      → slice_get s.frame.homes n ≡ Some (Link (link_of port))
  pub housed : AreHoused s.frame.homes (shape s.known.entries)
  pub linked : AreLinked p (shape s.known.entries)
  pub declared : p.position.declared ≤ length s.known.entries
  pub alone : p.position.parallel ≤ length s.known.entries
  pub low : begun_with s.known.blocks ≤ length s.known.entries

-- What is known there is true, and each name has one home.
pub record IsPlaced (p : Program) (s : Site) (env : Environment) : Type 0 where
  pub sited : IsSited p s
  pub long : length s.frame.homes ≡ length s.known.entries
  pub holds : IsTrueIn s.known.entries env

-- Memory carries an environment of the site's scope.
pub record CarriedAt (p : Program) (s : Site) (turns : ℕ → ℤ) (env : Environment) (m : Memory) : Type 0 where
  pub carries : Carries (ground p s.frame.homes turns) s.frame.top s.known.entries env m
