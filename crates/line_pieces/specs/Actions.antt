-- The code of actions and tests: assignments, inputs and outputs, and the jump of a condition.
use Rattle.std.specs.Prelude.{ℕ, ◌+◌, ℤ, pos, unsigned_abs, List, [], ◌∷◌, ◌++◌}
use Rattle.std.specs.Prelude.{nat_eq, if◌then◌else◌, not, ◌||◌, Bool, true, false, Option, Some, None}
use Rattle.prefix_decoder.specs.declared.function.Fun.TheVariants as fun
use Rattle.occam_parser.specs.declared.tree.ValueType.{ValueType}
use Rattle.occam_parser.specs.declared.tree.ValueType.TheVariants as value_type
use Rattle.occam_parser.specs.Expressions.{Expression, Alone, Paired, Chained, Term, Named, Element}
use Rattle.occam_parser.specs.Lines.{Place, Action, Skip, Stop, Assign, Input, Output, Instance}
use Rattle.scalar_ranges.specs.Entries.{Meaning, Scalar, Array, Channel, Channels, Entry, meaning_in}
use Rattle.scalar_ranges.specs.Bounds.{bound_of, bound_of_term, exact_value, range_found}
use Rattle.scalar_ranges.specs.Narrowing.{Tested, test_of}
use Rattle.code_pieces.specs.declared.operations.TheConstants.{LOAD_BYTE, INPUT, OUTPUT, STORE_BYTE, STOP_PROCESS}
use Rattle.code_pieces.specs.declared.operations.TheConstants.{MINIMUM_INTEGER}
use Rattle.code_pieces.specs.Pieces.{Piece, Direct, JumpUnless, Row, operates, stores, points, constant}
use Rattle.code_pieces.specs.Pieces.{moves, below, word_after, Code, written}
use Rattle.line_pieces.specs.Homes.{Home, Word, Link, Passed, home_of}
use Rattle.line_pieces.specs.Declarations.{Frame, facts_in}
use Rattle.line_pieces.specs.Expressions.{expression_code, known_address, subscript_code, single, Subscript}
use Rattle.line_pieces.specs.Expressions.{subscript_of, without, or_zero, is_known}

-- ---- what a place is

-- A place that is stored into: a scalar's own word; an element of an array, of words from this one on, by its number or
-- else by its subscript. What a checked program doesn't have is no target.
pub data Target : Type 0 where
  NoTarget : Target
  OwnWord : (type : ValueType) → (word : ℕ) → Target
  KnownElement : (type : ValueType) → (word number : ℕ) → Target
  OtherElement : (type : ValueType) → (word : ℕ) → (subscript : Subscript) → Target

-- A parameter that is a variable is an array of one element.
abbrev pub whole_target : Option Home → Option Meaning → Target
whole_target (Some (Word w)) (Some (Scalar kind type range)) = OwnWord type w
whole_target (Some (Passed w)) (Some (Scalar kind type range)) = KnownElement type w 0
whole_target h m = NoTarget

abbrev pub by_number : ValueType → ℕ → Option ℤ → Subscript → Target
by_number type w (Some c) s = KnownElement type w (unsigned_abs c)
by_number type w None s = OtherElement type w s

abbrev pub element_target : Option Home → Option Meaning → Option ℤ → Subscript → Target
element_target (Some (Word w)) (Some (Array kind type size range)) value s = by_number type w value s
element_target (Some (Passed w)) (Some (Array kind type size range)) value s = by_number type w value s
element_target h m value s = NoTarget

-- where the words from t on are free
abbrev pub target_of : List Home → List Entry → ℕ → Place → Target
target_of hs es t p = elim p.subscript [
  | None ↦ whole_target (home_of hs es p.name) (meaning_in p.name es)
  | Some e ↦ element_target (home_of hs es p.name) (meaning_in p.name es) (single (range_found (bound_of es e)))
      (subscript_of hs es t e)
]

-- ---- assignments

-- what is in B goes so many words behind the address in A, or a byte to that
abbrev pub stores_at : ValueType → ℤ → Piece
stores_at value_type.Int n = Direct fun.StoreNonLocal n
stores_at value_type.Byte n = operates STORE_BYTE

-- what is in a temporary goes there
abbrev pub stores_below : ValueType → ℤ → ℕ → List Piece
stores_below type n t = below t ++ stores_at type n ∷ []

-- What is in a temporary is stored in an element. A word that is known is moved: so no more is known of it afterwards.
abbrev pub store_known : ValueType → ℕ → ℕ → ℕ → List Piece
store_known value_type.Int w n t = moves 1 t (word_after w n)
store_known value_type.Byte w n t = known_address value_type.Byte w n ++ stores_below value_type.Byte (pos 0) t

-- the constant that a subscript ends with, for words
abbrev pub stored_offset : ValueType → Option ℤ → Option ℤ
stored_offset value_type.Int offset = offset
stored_offset value_type.Byte offset = None

-- What is in A is stored in an element, after the code of its subscript. If that takes three registers, it waits in a
-- temporary.
abbrev pub store_after : ValueType → ℕ → (small : Bool) → (offset : ℤ) → (subscript : List Piece) → ℕ → List Piece
store_after type w true n subscript t = subscript ++ subscript_code type w ++ stores_at type n ∷ []
store_after type w false n subscript t = stores t ∷ subscript ++ subscript_code type w ++ stores_below type n t

abbrev pub store_other : ValueType → ℕ → Subscript → ℕ → List Piece
store_other type w s t =
    store_after type w s.small (or_zero (stored_offset type s.offset))
    (without (stored_offset type s.offset) s.whole s.first) t

-- what is in A is stored, maybe by way of the temporary t if it is an element
abbrev pub store_code : Target → ℕ → List Piece
store_code NoTarget t = []
store_code (OwnWord type w) t = stores w ∷ []
store_code (KnownElement type w n) t = stores t ∷ store_known type w n t
store_code (OtherElement type w s) t = store_other type w s t

abbrev pub assign_code : List Home → List Entry → ℕ → Place → Expression → List Piece
assign_code hs es t target value =
    expression_code hs es t value ++ store_code (target_of hs es (word_after t 1) target) t

-- ---- channels

-- pushes the address of a link: links are the lowest words of memory
abbrev pub link_code : ℕ → List Piece
link_code n =
    operates MINIMUM_INTEGER ∷ (if nat_eq n 0 then [] else Direct fun.LoadNonLocalPointer (pos n) ∷ [])

abbrev pub channel_code : Option Home → List Piece
channel_code (Some (Link n)) = link_code n
channel_code (Some (Word w)) = points w ∷ []
channel_code (Some (Passed w)) = points w ∷ []
channel_code h = []

-- the element of an array of channels, whose subscript is a constant
abbrev pub element_home : Option ℤ → Option Home → Option Home
element_home (Some c) (Some (Word w)) = Some (Word (word_after w (unsigned_abs c)))
element_home (Some c) (Some (Passed w)) = Some (Passed (word_after w (unsigned_abs c)))
element_home c h = h

abbrev pub channel_home : List Home → List Entry → Place → Option Home
channel_home hs es p = elim p.subscript [
  | None ↦ home_of hs es p.name
  | Some e ↦ element_home (single (range_found (bound_of es e))) (home_of hs es p.name)
]

abbrev pub carried : Option Meaning → ValueType
carried (Some (Channel type)) = type
carried (Some (Channels type size)) = type
carried m = value_type.Int

abbrev pub length_of : ValueType → ℤ
length_of value_type.Int = pos 4
length_of value_type.Byte = pos 1

-- the channel and the length of its messages, and then `in` or `out`, after the address of the message
abbrev pub exchange : List Home → List Entry → Place → ℤ → List Piece
exchange hs es channel op =
    channel_code (channel_home hs es channel)
    ++ constant (length_of (carried (meaning_in channel.name es))) ∷ operates op ∷ []

abbrev pub target_address : Target → List Piece
target_address NoTarget = []
target_address (OwnWord type w) = points w ∷ []
target_address (KnownElement type w n) = known_address type w n
target_address (OtherElement type w s) = s.whole ++ subscript_code type w

-- A byte that came in leaves unknown what is beside it in the word of a scalar. So it is loaded and stored again.
abbrev pub cleaned : Target → List Piece
cleaned (OwnWord value_type.Byte w) = points w ∷ operates LOAD_BYTE ∷ stores w ∷ []
cleaned other = []

abbrev pub input_code : List Home → List Entry → ℕ → Place → Place → List Piece
input_code hs es t channel target =
    target_address (target_of hs es t target) ++ exchange hs es channel INPUT ++ cleaned (target_of hs es t target)

-- where the value of an expression is already: a variable, or an element of an array
abbrev pub source_of_term : List Home → List Entry → ℕ → Term → Target
source_of_term hs es t (Named name) = target_of hs es t (record { name = name; subscript = None })
source_of_term hs es t (Element name e) = target_of hs es t (record { name = name; subscript = Some e })
source_of_term hs es t x = NoTarget

abbrev pub source_of : List Home → List Entry → ℕ → Expression → Target
source_of hs es t (Alone x) = source_of_term hs es t x
source_of hs es t e = NoTarget

-- the address of a message: where its value is already, or else a temporary in which it is stored
abbrev pub message_code : Target → ℕ → (value : List Piece) → List Piece
message_code NoTarget t value = value ++ stores t ∷ points t ∷ []
message_code source t value = target_address source

abbrev pub output_code : List Home → List Entry → ℕ → Place → Expression → List Piece
output_code hs es t channel value =
    message_code (source_of hs es t value) t (expression_code hs es t value) ++ exchange hs es channel OUTPUT

-- ---- actions

-- the process stops here; a row says what is known where code goes on that nothing reaches
abbrev pub stop_code : Frame → List Entry → ℕ → Option Code
stop_code f es n = Some (record {
  pieces = operates STOP_PROCESS ∷ Row n (facts_in f es) ∷ [];
  labels = n + 1;
})

-- where labels from n on are free; none for an instance
abbrev pub action_code : Frame → List Entry → ℕ → Action → Option Code
action_code f es n Skip = written [] n
action_code f es n Stop = stop_code f es n
action_code f es n (Assign target value) = written (assign_code f.homes es f.top target value) n
action_code f es n (Input channel target) = written (input_code f.homes es f.top channel target) n
action_code f es n (Output channel value) = written (output_code f.homes es f.top channel value) n
action_code f es n (Instance name actuals) = None

-- ---- tests

-- Whether the machine may know which word of the frame an operand is. It is no constant, and of an element the number
-- is known.
abbrev pub may_be_word : List Entry → Term → Bool
may_be_word es (Element name e) = is_known (single (range_found (bound_of es e)))
may_be_word es x = not (is_known (exact_value (bound_of_term es x)))

-- Whether a condition may show something of a word: then it is a comparison with one, maybe in brackets or negated.
abbrev pub may_show : List Entry → Expression → Bool
may_show es (Paired op x y) = may_be_word es x || may_be_word es y
may_show es (Chained op xs) = false
may_show es e = true

-- Only a test of a scalar against a constant narrows what is known. Of another condition that may show something of a
-- word the machine has to forget what it compared, and `adc 0` makes it.
abbrev pub forgets : (shows : Bool) → Option Tested → List Piece
forgets true None = Direct fun.AddConstant (pos 0) ∷ []
forgets shows test = []

-- a condition, and a jump to a label where it does not hold
abbrev pub test_code : List Home → List Entry → ℕ → Expression → ℕ → List Piece
test_code hs es t e label =
    expression_code hs es t e ++ forgets (may_show es e) (test_of es e) ++ JumpUnless label ∷ []
