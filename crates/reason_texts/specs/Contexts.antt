-- What a line has to be, by the lines above it.
use Rattle.std.specs.Prelude.{ℕ, ◌-◌, Bool, true, false, not, ◌&&◌, List, [], ◌∷◌, length, ◌==◌, nat_le, nat_lt}
use Rattle.std.specs.Prelude.{if◌then◌else◌}
use Rattle.std.specs.Prelude.{Option, Some, None}
use Rattle.occam_layout.specs.declared.mark.Mark as mark_type
use Rattle.occam_layout.specs.declared.mark.Mark.TheVariants as mark
use Rattle.occam_parser.specs.Terminals.{Terminal, Mark}
use Rattle.occam_parser.specs.Blocks.{Row}
use Rattle.reason_texts.specs.declared.forms.Form.{Form}
use Rattle.reason_texts.specs.declared.forms.Form.TheVariants as form
use Rattle.reason_texts.specs.declared.context.Places.{Places}
use Rattle.reason_texts.specs.declared.context.Places.TheVariants as places
use Rattle.reason_texts.specs.declared.context.Sought.{Sought}
use Rattle.reason_texts.specs.declared.context.Sought.TheVariants as sought
use Rattle.reason_texts.specs.declared.context.Context.{Context}
use Rattle.reason_texts.specs.declared.context.Context.TheVariants as context

-- a later line that was found, else this one if it is wanted
abbrev pub later_or : Bool → Row → Option (Row × List Row) → Option (Row × List Row)
later_or wanted r (Some x) = Some (x.0, r ∷ x.1)
later_or wanted r None = if wanted then Some (r, []) else None

-- the last line that is wanted, and the lines before it
unfoldable pub last_that : (Row → Bool) → List Row → Option (Row × List Row)
last_that wanted [] = None
last_that wanted (r ∷ rows) = later_or (wanted r) r (last_that wanted rows)

-- a line is looked for: one that is at a level or less deep, or the one with a number
abbrev pub is_sought : Sought → Row → Bool
is_sought (sought.UpTo level) = λ r. nat_le r.level level
is_sought (sought.Number number) = λ r. r.number == number

-- the last line that is at a level or less deep
abbrev pub last_up_to : ℕ → List Row → Option (Row × List Row)
last_up_to level rows = last_that (is_sought (sought.UpTo level)) rows

-- the line with a number
abbrev pub line_numbered : ℕ → List Row → Option (Row × List Row)
line_numbered number rows = last_that (is_sought (sought.Number number)) rows

-- the mark that a line begins with
abbrev pub mark_of : List Terminal → Option mark_type.Mark
mark_of (Mark m ∷ ts) = Some m
mark_of ts = None

abbrev pub declares : Option mark_type.Mark → Bool
declares (Some mark.Val) = true
declares (Some mark.Int) = true
declares (Some mark.Byte) = true
declares (Some mark.Chan) = true
declares (Some mark.OpenBracket) = true
declares m = false

-- a line that declares something
abbrev pub is_declaration : Row → Bool
is_declaration r = declares (mark_of r.terminals)

-- below the head of a block: any number without a replicator, and one with it
abbrev pub places_of : Form → Row → Places
places_of f head = if nat_lt 1 (length head.terminals) then places.One f else places.Any f

abbrev pub chooses : Option mark_type.Mark → Bool
chooses (Some mark.If) = true
chooses (Some mark.Alt) = true
chooses m = false

abbrev pub places_under : Option (Row × List Row) → Places
places_under None = places.None
places_under (Some x) = if chooses (mark_of x.0.terminals) then places.One form.Process else places.None

-- below a line that begins with no word of a block: a process if it is a condition or a guard
abbrev pub places_below_other : Row → List Row → Places
places_below_other r above =
    if r.level == 0 then places.None else places_under (last_up_to (r.level - 1) above)

abbrev pub places_by : Row → List Row → Option mark_type.Mark → Places
places_by r above (Some mark.Proc) = places.One form.Process
places_by r above (Some mark.Seq) = places_of form.Process r
places_by r above (Some mark.Par) = places_of form.Process r
places_by r above (Some mark.If) = places_of form.Choice r
places_by r above (Some mark.Alt) = places_of form.Guard r
places_by r above m = places_below_other r above

-- what may be below a line
abbrev pub places_below : Row → List Row → Places
places_below r above = places_by r above (mark_of r.terminals)

abbrev pub one_or : Form → ℕ → ℕ → Option (Row × List Row) → Context
one_or f head level None = context.Wants f
one_or f head level (Some x) =
    if (x.0.level == level) && not (is_declaration x.0) then context.OnlyOne head x.0.number else context.Wants f

-- what a line may be where one of a form may be below the head: declarations come before it
abbrev pub only_one : Form → ℕ → ℕ → List Row → Context
only_one f head level above = one_or f head level (last_up_to level above)

abbrev pub context_in : ℕ → List Row → ℕ → Places → Context
context_in level above head (places.One f) = only_one f head level above
context_in level above head (places.Any f) = context.Wants f
context_in level above head places.None = context.NothingBelow head

abbrev pub context_below : ℕ → List Row → Option (Row × List Row) → Context
context_below level above None = context.Wants form.Item
context_below level above (Some x) = context_in level above x.0.number (places_below x.0 x.1)

abbrev pub ends_procedure : Option mark_type.Mark → Context
ends_procedure (Some mark.Proc) = context.Wants form.Colon
ends_procedure m = context.Wants form.Item

abbrev pub item_after : Option (Row × List Row) → Context
item_after None = context.Wants form.Item
item_after (Some x) = ends_procedure (mark_of x.0.terminals)

-- what a line at a level may be, below other lines
unfoldable pub context_of : ℕ → List Row → Context
context_of level above =
    if level == 0 then item_after (last_up_to 0 above) else context_below level above (last_up_to (level - 1) above)
