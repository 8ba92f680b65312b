-- When what is asked for fits together: our own choice.
use Rattle.std.specs.Prelude.{ℕ, ◌+◌, ◌-◌, ◌*◌, ◌^◌, nat_le, ◌&&◌, ◌||◌, not, Bool, true, false, if◌then◌else◌}
use Rattle.std.specs.Prelude.{[], ◌∷◌, codes, Option, Some, None, is_some, option_and_then, length, ◌==◌}
use Rattle.std.specs.Option.{option_map_or}
use Rattle.std.specs.Str.{bytes_eq}
use Rattle.command_line.specs.declared.links.OnLinks.{OnLinks}
use Rattle.command_line.specs.Words.{Text}
use Rattle.command_line.specs.Asked.{Asked, compiles, upgrades, verifies, runs, debugs, lists, explains}

-- ---- numbers

-- the number with one more digit, if that is one and the number is below 2^64
abbrev pub with_digit : ℕ → ℕ → Option ℕ
with_digit n byte =
    if nat_le 48 byte && nat_le byte 57 && nat_le (n * 10 + (byte - 48)) (2 ^ 64 - 1)
    then Some (n * 10 + (byte - 48)) else None

-- the number with these digits more
abbrev pub number_from : ℕ → Text → Option ℕ
number_from n [] = Some n
number_from n (byte ∷ bytes) = option_and_then (λ more. number_from more bytes) (with_digit n byte)

-- the number below 2^64 whose decimal digits are these
abbrev pub number_in : Text → Option ℕ
number_in text = if length text == 0 then None else number_from 0 text

-- ---- paths

-- both are there, and they are the same word for word
abbrev pub are_same : Option Text → Option Text → Bool
are_same None other = false
are_same (Some path) None = false
are_same (Some path) (Some other) = bytes_eq path other

-- some two of the paths are the same
abbrev pub has_pair : OnLinks (Option Text) → Bool
has_pair all =
    are_same all.first all.second || are_same all.first all.third || are_same all.first all.fourth
    || are_same all.second all.third || are_same all.second all.fourth || are_same all.third all.fourth

-- the path of a standard stream
abbrev pub is_stream : Text → Bool
is_stream path = bytes_eq path (codes "-")

-- the path, if it is that of a standard stream
abbrev pub stream_alone : Option Text → Option Text
stream_alone None = None
stream_alone (Some path) = if is_stream path then Some path else None

abbrev pub streams_alone : OnLinks (Option Text) → OnLinks (Option Text)
streams_alone all = record {
  first = stream_alone all.first;
  second = stream_alone all.second;
  third = stream_alone all.third;
  fourth = stream_alone all.fourth;
}

-- ---- all of it

-- No two output links have one path, and no two input links standard input. One file may be on several input links,
-- and on an input link and an output link.
abbrev pub are_apart : OnLinks (Option Text) → OnLinks (Option Text) → Bool
are_apart inputs outputs = not (has_pair outputs) && not (has_pair (streams_alone inputs))

-- No file is written that is read first, or for two links, and the number of bytes is one.
abbrev pub is_fit : Asked → Bool
is_fit (compiles source out) = not (bytes_eq source out)
is_fit (upgrades old new) = not (bytes_eq old new)
is_fit (verifies path) = true
is_fit (runs path inputs outputs) = are_apart inputs outputs
is_fit (debugs path inputs outputs bytes trace) =
    are_apart inputs outputs && option_map_or (λ text. is_some (number_in text)) bytes true
is_fit (lists path) = true
is_fit (explains path) = true

abbrev pub if_fit : Asked → Option Asked
if_fit asked = if is_fit asked then Some asked else None
