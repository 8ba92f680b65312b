-- What is received is a number of the type, and what is sent is received again.
use Rattle.std.specs.Prelude.{◌≡◌, ℕ, ℤ, List, length}
use Rattle.occam_parser.specs.declared.tree.ValueType.{ValueType}
use Rattle.program_meaning.specs.Links.{message_length, message_of, received}
use Rattle.program_meaning.specs.TypedValues.{IsOfType}

-- Whatever comes in, the number is one of the type.
abbrev pub ReceivedIsOfType : Type 0
ReceivedIsOfType = (type : ValueType) (bytes : List ℕ) → IsOfType type (received type bytes)

pub record MessagesReadBack : Type 0 where
  pub long : (type : ValueType) (v : ℤ) → length (message_of type v) ≡ message_length type
  pub back : (type : ValueType) (v : ℤ) → IsOfType type v → received type (message_of type v) ≡ v
