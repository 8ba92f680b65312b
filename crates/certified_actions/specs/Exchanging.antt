-- What is asked where a process exchanges messages: its channel is a link, and scheduling takes no word of a name.
use Rattle.std.specs.Prelude.{◌≡◌, ℕ, ◌+◌, ◌<◌, ◌≤◌, ◌⊎◌, true, List, Some}
use Rattle.module_format.specs.declared.rows.Direction.{Direction}
use Rattle.module_format.specs.declared.rows.EndKind.TheVariants as ends
use Rattle.module_format.specs.Contents.{link_length}
use Rattle.certificate.specs.Rights.{has_end}
use Rattle.occam_parser.specs.declared.tree.ValueType.{ValueType}
use Rattle.occam_parser.specs.Lines.{Place}
use Rattle.scalar_ranges.specs.Entries.{Entry, meaning_in}
use Rattle.program_meaning.specs.Links.{message_length}
use Rattle.code_pieces.specs.declared.modules.TheConstants.{BASE}
use Rattle.line_pieces.specs.Actions.{channel_home, carried}
use Rattle.line_pieces.specs.Homes.{Link}
use Rattle.certified_lines.specs.Scopes.{Scene, EachNameHas}
use Rattle.certified_actions.specs.Keeping.{WordsThere}
use Rattle.certified_actions.specs.Messages.{MaySchedule}

-- A channel is this link, which carries messages of a type, and the code has its end in this direction.
pub record IsPort (g : Scene) (es : List Entry) (way : Direction) (channel : Place) (type : ValueType) : Type 0 where
  pub link : ℕ
  pub inside : link < 8
  pub at : channel_home g.homes es channel ≡ Some (Link link)
  pub carries : carried (meaning_in channel.name es) ≡ type
  pub length : link_length g.setting.contents link ≡ message_length type
  pub end : has_end g.setting.contents g.setting.context (record { kind = ends.Link link; direction = way }) ≡ true

-- none of the three words below the workspace is this one
abbrev pub IsOff : (depth word : ℕ) → Type 0
IsOff depth word = (word + BASE < depth) ⊎ (depth ≤ word)

-- The words that scheduling takes are those of no temporary and of no name, and may be written.
pub record IsUndisturbed (g : Scene) (top : ℕ) (es : List Entry) : Type 0 where
  pub free : g.setting.depth ≤ top
  pub names : EachNameHas (WordsThere (IsOff g.setting.depth)) g.homes es
  pub may : MaySchedule g.setting

-- In the root no name and no temporary is in them.
abbrev pub RootsAreUndisturbed : Type 0
RootsAreUndisturbed = (g : Scene) (top : ℕ) (es : List Entry) → g.setting.depth ≡ 0 → MaySchedule g.setting
    → IsUndisturbed g top es
