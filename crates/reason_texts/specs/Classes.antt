-- Classes of bytes.
use Rattle.std.specs.Prelude.{ℕ, Bool}
use Rattle.std.specs.Char.{is_ascii_digit, is_ascii_hexdigit}
use Rattle.occam_layout.specs.Reading.{is_character, is_in_line, is_name_byte, is_space}
use Rattle.reason_texts.specs.declared.classes.Class.{Class}
use Rattle.reason_texts.specs.declared.classes.Class.TheVariants as classes

abbrev pub is_of : Class → ℕ → Bool
is_of classes.Space = is_space
is_of classes.InLine = is_in_line
is_of classes.Character = is_character
is_of classes.InName = is_name_byte
is_of classes.Digit = is_ascii_digit
is_of classes.HexadecimalDigit = is_ascii_hexdigit
