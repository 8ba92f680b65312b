-- What is known of the registers, and of where a process is, in words.
use Rattle.std.specs.Prelude.{ℕ, ◌==◌, ◌&&◌, Bool, true, false, if◌then◌else◌, ℤ, [], ◌∷◌, ◌++◌, codes}
use Rattle.std.specs.Fmt.{decimal, signed_decimal}
use Rattle.module_format.specs.Contents.{Contents}
use Rattle.states.specs.declared.known.Known.{Known}
use Rattle.states.specs.declared.known.Source.{Source}
use Rattle.states.specs.declared.known.Source.TheVariants.{Nowhere, From, Test}
use Rattle.states.specs.declared.known.Mode.{Mode}
use Rattle.states.specs.declared.known.Mode.TheVariants.{Plain, Enabling, Disabling, Starting}
use Rattle.states.specs.State.{State}
use Rattle.fact_texts.specs.Texts.{Text, is_one, range_text}
use Rattle.fact_texts.specs.FactTexts.{fact_text}
use Rattle.fact_texts.specs.RowTexts.{context_text}
use Rattle.state_texts.specs.declared.settings.Setting.{Setting}

-- ---- registers

-- whether a value shows that its word is in a range, or that it is not
abbrev pub is_in_text : Bool → Text
is_in_text true = codes " is in "
is_in_text false = codes " is not in "

abbrev pub source_text : Source → Text
source_text Nowhere = []
source_text (From word) = codes " from word " ++ signed_decimal word
source_text (Test word lo hi inside) =
    codes " if word " ++ (signed_decimal word ++ (is_in_text inside ++ range_text lo hi))

-- what is known of a register, and where it comes from
abbrev pub known_text : Known → Text
known_text known = fact_text known.fact ++ source_text known.source

-- ---- where a process is

abbrev pub setting_of : State → Setting
setting_of s = record { context = s.context; depth = s.depth; mode = s.mode }

abbrev pub mode_text : Mode → Text
mode_text Plain = codes "plain"
mode_text Enabling = codes "enabling"
mode_text (Disabling done) = codes "disabling, " ++ (decimal done ++ codes " disabled")
mode_text (Starting row started) =
    codes "starting PAR " ++ (decimal row ++ (codes ", " ++ (decimal started ++ codes " started")))

abbrev pub is_same_mode : Mode → Mode → Bool
is_same_mode Plain Plain = true
is_same_mode Enabling Enabling = true
is_same_mode (Disabling done) (Disabling other) = done == other
is_same_mode (Starting row started) (Starting other more) = (row == other) && (started == more)
is_same_mode _ _ = false

-- what has changed: the context, the depth or the mode
abbrev pub context_change : Contents → ℕ → ℕ → Text
context_change m old new = if old == new then [] else codes "  context " ++ context_text m new

abbrev pub depth_change : ℤ → ℤ → Text
depth_change old new = if is_one old new then [] else codes "  depth " ++ signed_decimal new

abbrev pub mode_change : Mode → Mode → Text
mode_change old new = if is_same_mode old new then [] else codes "  mode " ++ mode_text new

unfoldable pub place_changes : Setting → Setting → Text
place_changes old new = depth_change old.depth new.depth ++ mode_change old.mode new.mode

unfoldable pub changes_text : Contents → Setting → Setting → Text
changes_text m old new = context_change m old.context new.context ++ place_changes old new

-- the same, and a line feed
unfoldable pub changes_after : Contents → Setting → Setting → Text
changes_after m old new = changes_text m old new ++ 10 ∷ []

-- ---- states

unfoldable pub registers_line : State → Text
registers_line s =
    codes "       A " ++ (known_text s.stack.a ++ (codes "  B " ++ (known_text s.stack.b ++ (codes "  C "
    ++ (known_text s.stack.c ++ (codes "  number " ++ decimal s.number))))))

-- the line of a state: its registers and its number, and what has changed since the setting before
unfoldable pub state_line : Contents → Setting → State → Text
state_line m before s = registers_line s ++ changes_after m before (setting_of s)
