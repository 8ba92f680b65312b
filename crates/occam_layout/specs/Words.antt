-- The numbers of literals: what a program's trees are made of has no others.
use Rattle.std.specs.Prelude.{ℕ, Bool, true, List, nat_lt}
use Rattle.std.specs.List.{list_all}
use Rattle.word_arithmetic.specs.Word.{is_word}
use Rattle.occam_layout.specs.Kind.{Kind, Mark, Name, Integer, Character, Text}

abbrev pub is_byte : ℕ → Bool
is_byte b = nat_lt b 256

abbrev pub are_bytes : List ℕ → Bool
are_bytes bytes = list_all is_byte bytes

-- an integer literal is a word, a character is a byte, and so is each byte of a string
abbrev pub is_in_words : Kind → Bool
is_in_words (Mark spelling) = true
is_in_words (Name spelling) = true
is_in_words (Integer value) = is_word value
is_in_words (Character byte) = is_byte byte
is_in_words (Text bytes) = are_bytes bytes
