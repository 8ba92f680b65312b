-- Where a line goes on in no way that its form has.
use Rattle.std.specs.Prelude.{List, [], ◌∷◌, length, Option, Some, None, Result, Ok, Err}
use Rattle.std.specs.Borrow.{Bor}
use Rattle.occam_layout.specs.declared.token.Token.{Token}
use Rattle.occam_layout.specs.declared.mark.Mark as mark_type
use Rattle.occam_parser.specs.Terminals.{Terminal, Name, terminals_of}
use Rattle.occam_parser.specs.Reading.{behind}
use Rattle.reason_texts.specs.declared.stuck.Wanted.TheVariants as wanted
use Rattle.reason_texts.specs.declared.stuck.Lack.{Lack}
use Rattle.reason_texts.specs.declared.stuck.Lack.TheVariants.{Token as Wants}
use Rattle.reason_texts.specs.declared.stuck.Stuck.{Stuck}

-- what is left of a line behind what it goes on with, or where it does not
abbrev pub Past : Type 0
Past = List Terminal → Result (List Terminal) Stuck

-- what a function of the program found
abbrev pub seen : Result (Bor (List Token)) Stuck → Result (List Terminal) Stuck
seen (Ok rest) = Ok (terminals_of rest.now)
seen (Err s) = Err s

-- something is wrong where these terminals begin
abbrev pub lacking : Lack → Past
lacking lack ts = Err (record { left = length ts; lack = lack })

-- one after the other
infixl 10 ◌then◌
abbrev pub ◌then◌ : Result (List Terminal) Stuck → Past → Result (List Terminal) Stuck
(Ok ts) then next = next ts
(Err s) then next = Err s

abbrev pub stuck_or : Lack → List Terminal → Option (List Terminal) → Result (List Terminal) Stuck
stuck_or lack ts None = lacking lack ts
stuck_or lack ts (Some rest) = Ok rest

-- a mark has to come
unfoldable pub past_mark : mark_type.Mark → Past
past_mark m ts = stuck_or (Wants (wanted.Mark m)) ts (behind m ts)

-- a name has to come
unfoldable pub past_name : Past
past_name [] = lacking (Wants wanted.Name) []
past_name (Name name ∷ ts) = Ok ts
past_name (t ∷ ts) = lacking (Wants wanted.Name) (t ∷ ts)

-- nothing may come
unfoldable pub past_end : Past
past_end [] = Ok []
past_end (t ∷ ts) = lacking (Wants wanted.End) (t ∷ ts)
