-- What small programs mean.
use Rattle.std.specs.Prelude.{◌≡◌, ℕ, pos, negsuc, Bool, true, false, List, [], ◌∷◌}
use Rattle.word_arithmetic.specs.declared.compare.Comparison.TheVariants as comparison
use Rattle.occam_parser.specs.declared.tree.ValueType.TheVariants as value_type
use Rattle.occam_parser.specs.declared.tree.ArithmeticChain.TheVariants as arithmetic_chain
use Rattle.occam_parser.specs.declared.tree.ArithmeticPair.TheVariants as arithmetic_pair
use Rattle.occam_parser.specs.declared.tree.Logic.TheVariants as logic
use Rattle.occam_parser.specs.declared.tree.PrefixOperator.TheVariants as prefix
use Rattle.occam_parser.specs.Expressions.{Expression, Alone, Prefixed, Number, MostPos, MostNeg, Named, Bracketed}
use Rattle.occam_parser.specs.Lines.{Stop, Scalar}
use Rattle.occam_parser.specs.Blocks.{ProgramItem}
use Rattle.program_meaning.specs.Sequential.{IsSequentialProgram}
use Rattle.program_meaning.specs.Meaning.{Ended, Idle, NoValue, meaning}
use Rattle.program_meaning.specs.SmallPrograms.{y, sums, or_adds, nothing_more, echoes, skip, adds_one, adds_one_below}
use Rattle.program_meaning.specs.SmallPrograms.{computes, sends_a, does, hides_link, sets_element, converts, number}
use Rattle.program_meaning.specs.SmallTerms.{shows, shows_pair, shows_chain, shows_prefixed, tells, compared, both}
use Rattle.program_meaning.specs.SmallTerms.{shows_constant, three_numbers, three_letters, element, sets_byte, counts}
use Rattle.program_meaning.specs.SmallTerms.{hands_on, hides}

-- 5, 200, 7 and -1
abbrev pub four_words : List ℕ
four_words = 5 ∷ 0 ∷ 0 ∷ 0 ∷ 200 ∷ 0 ∷ 0 ∷ 0 ∷ 7 ∷ 0 ∷ 0 ∷ 0 ∷ 255 ∷ 255 ∷ 255 ∷ 255 ∷ []

-- the same without the last two bytes
abbrev pub cut_words : List ℕ
cut_words = 5 ∷ 0 ∷ 0 ∷ 0 ∷ 200 ∷ 0 ∷ 0 ∷ 0 ∷ 7 ∷ 0 ∷ 0 ∷ 0 ∷ 255 ∷ 255 ∷ []

-- what the first of four links carries, and the others nothing
abbrev pub first_alone : List ℕ → List (List ℕ)
first_alone bytes = bytes ∷ [] ∷ [] ∷ [] ∷ []

abbrev pub all_listen : List Bool
all_listen = true ∷ true ∷ true ∷ true ∷ []

abbrev pub nobody_listens : List Bool
nobody_listens = false ∷ false ∷ false ∷ false ∷ []

-- A program reads all that comes in on in0, writes this on out0, and ends.
abbrev pub Ends : List ProgramItem → List ℕ → List ℕ → Type 0
Ends items bytes out = meaning items (first_alone bytes) all_listen
    ≡ record { ending = Ended; read = first_alone bytes; written = first_alone out }

-- A program reads this of what comes in on in0, writes nothing, and waits for ever.
abbrev pub IsIdle : List ProgramItem → List ℕ → List ℕ → Type 0
IsIdle items bytes read = meaning items (first_alone bytes) all_listen
    ≡ record { ending = Idle; read = first_alone read; written = first_alone [] }

abbrev pub HasNoValue : List ProgramItem → List ℕ → Type 0
HasNoValue items bytes = (meaning items (first_alone bytes) all_listen).ending ≡ NoValue

-- Four numbers are received and added up, with the number of the turn in place of one above 100.
pub record SumsMean : Type 0 where
  pub is_sequential : IsSequentialProgram (sums or_adds)
  pub whole : Ends (sums or_adds) four_words (13 ∷ 0 ∷ 0 ∷ 0 ∷ [])
  pub cut : IsIdle (sums or_adds) cut_words cut_words
  pub no_choice_is_true : IsIdle (sums nothing_more) four_words (5 ∷ 0 ∷ 0 ∷ 0 ∷ [])
  pub unheard : meaning (sums or_adds) (first_alone four_words) nobody_listens
      ≡ record { ending = Idle; read = first_alone four_words; written = first_alone [] }

-- A message is received, and sent after a process between.
pub record EchoesMean : Type 0 where
  pub byte : Ends (echoes value_type.Byte skip) (65 ∷ []) (65 ∷ [])
  pub nothing_came : IsIdle (echoes value_type.Byte skip) [] []
  pub checked : Ends (echoes value_type.Int (adds_one arithmetic_chain.Add)) (7 ∷ 0 ∷ 0 ∷ 0 ∷ []) (8 ∷ 0 ∷ 0 ∷ 0 ∷ [])
  pub too_great : HasNoValue (echoes value_type.Int (adds_one arithmetic_chain.Add)) (255 ∷ 255 ∷ 255 ∷ 127 ∷ [])
  pub wrapped :
      Ends (echoes value_type.Int (adds_one arithmetic_chain.Plus)) (255 ∷ 255 ∷ 255 ∷ 127 ∷ []) (0 ∷ 0 ∷ 0 ∷ 128 ∷ [])
  pub below : Ends (echoes value_type.Int adds_one_below) (231 ∷ 3 ∷ 0 ∷ 0 ∷ []) (232 ∷ 3 ∷ 0 ∷ 0 ∷ [])
  pub not_below : Ends (echoes value_type.Int adds_one_below) (232 ∷ 3 ∷ 0 ∷ 0 ∷ []) (232 ∷ 3 ∷ 0 ∷ 0 ∷ [])
  pub stopped : IsIdle (echoes value_type.Byte (does Stop)) (65 ∷ []) (65 ∷ [])
  pub hidden : IsIdle (echoes value_type.Int hides_link) four_words (5 ∷ 0 ∷ 0 ∷ 0 ∷ [])
  pub element : Ends (echoes value_type.Int (sets_element (pos 0))) (7 ∷ 0 ∷ 0 ∷ 0 ∷ []) (5 ∷ 0 ∷ 0 ∷ 0 ∷ [])
  pub other_element : Ends (echoes value_type.Int (sets_element (pos 1))) (7 ∷ 0 ∷ 0 ∷ 0 ∷ []) (0 ∷ 0 ∷ 0 ∷ 0 ∷ [])
  pub outside : HasNoValue (echoes value_type.Int (sets_element (pos 2))) (7 ∷ 0 ∷ 0 ∷ 0 ∷ [])

-- Numbers are computed and sent, and a character as often as there are turns.
pub record SendingMeans : Type 0 where
  pub quotient : Ends (computes arithmetic_pair.Divide) [] (253 ∷ 255 ∷ 255 ∷ 255 ∷ [])
  pub remainder : Ends (computes arithmetic_pair.Remainder) [] (255 ∷ 255 ∷ 255 ∷ 255 ∷ [])
  pub no_turn : Ends (sends_a 0) [] []
  pub one_turn : Ends (sends_a 1) [] (97 ∷ [])

-- A number of a tree that is no word may have no value where it is converted. No source has such a number.
pub record WordsMatter : Type 0 where
  pub no_word : HasNoValue (converts (pos 1099511627776)) []
  pub word : Ends (converts (pos 10995)) [] []

-- A program without inputs writes these bytes on out0, and ends.
abbrev pub Shows : List ProgramItem → List ℕ → Type 0
Shows items out = Ends items [] out

-- Constants, items of tables and texts, and elements of an array of BYTE are sent.
pub record NamesMean : Type 0 where
  pub constant : Shows (shows_constant value_type.Int (Scalar (number (pos 7))) (Alone (Named y))) (7 ∷ 0 ∷ 0 ∷ 0 ∷ [])
  pub item : Shows (shows_constant value_type.Int three_numbers (element (pos 2))) (44 ∷ 1 ∷ 0 ∷ 0 ∷ [])
  pub behind_table : HasNoValue (shows_constant value_type.Int three_numbers (element (pos 3))) []
  pub letter : Shows (shows_constant value_type.Byte three_letters (element (pos 1))) (98 ∷ [])
  pub byte_set : Shows (sets_byte (pos 1)) (97 ∷ [])
  pub byte_left : Shows (sets_byte (pos 0)) (0 ∷ [])
  pub hidden : Shows hides (5 ∷ 0 ∷ 0 ∷ 0 ∷ [])

-- Shifts, operations on bits, and the least and greatest INT
pub record BitsMean : Type 0 where
  pub left : Shows (shows_pair arithmetic_pair.ShiftLeft (pos 1) (pos 10)) (0 ∷ 4 ∷ 0 ∷ 0 ∷ [])
  pub right : Shows (shows_pair arithmetic_pair.ShiftRight (negsuc 0) (pos 28)) (15 ∷ 0 ∷ 0 ∷ 0 ∷ [])
  pub too_far : HasNoValue (shows_pair arithmetic_pair.ShiftLeft (pos 1) (pos 32)) []
  pub and_bits : Shows (shows_chain arithmetic_chain.BitAnd (pos 12) (pos 10)) (8 ∷ 0 ∷ 0 ∷ 0 ∷ [])
  pub or_bits : Shows (shows_chain arithmetic_chain.BitOr (pos 12) (pos 10)) (14 ∷ 0 ∷ 0 ∷ 0 ∷ [])
  pub xor_bits : Shows (shows_chain arithmetic_chain.BitXor (pos 12) (pos 10)) (6 ∷ 0 ∷ 0 ∷ 0 ∷ [])
  pub not_bits : Shows (shows_prefixed prefix.BitNot (Number (pos 0))) (255 ∷ 255 ∷ 255 ∷ 255 ∷ [])
  pub greatest : Shows (shows value_type.Int (Alone MostPos)) (255 ∷ 255 ∷ 255 ∷ 127 ∷ [])
  pub least : Shows (shows value_type.Int (Alone MostNeg)) (0 ∷ 0 ∷ 0 ∷ 128 ∷ [])
  pub negated : HasNoValue (shows_prefixed prefix.Negate MostNeg) []
  pub wrapped : Shows (shows_pair arithmetic_pair.Minus (pos 0) (pos 1)) (255 ∷ 255 ∷ 255 ∷ 255 ∷ [])

abbrev pub yes : Expression
yes = compared comparison.Less (pos 1) (pos 2)

abbrev pub no : Expression
no = compared comparison.GreaterOrEqual (pos 1) (pos 2)

-- Conditions hold or do not: 1 or 0 is sent.
pub record ConditionsMean : Type 0 where
  pub equal : Shows (tells (compared comparison.Equal (negsuc 2) (negsuc 2))) (1 ∷ 0 ∷ 0 ∷ 0 ∷ [])
  pub not_equal : Shows (tells (compared comparison.NotEqual (pos 3) (pos 3))) (0 ∷ 0 ∷ 0 ∷ 0 ∷ [])
  pub less_or_equal : Shows (tells (compared comparison.LessOrEqual (negsuc 0) (pos 0))) (1 ∷ 0 ∷ 0 ∷ 0 ∷ [])
  pub all : Shows (tells (both logic.And yes no)) (0 ∷ 0 ∷ 0 ∷ 0 ∷ [])
  pub some : Shows (tells (both logic.Or no yes)) (1 ∷ 0 ∷ 0 ∷ 0 ∷ [])
  pub not_so : Shows (tells (Prefixed prefix.Not (Bracketed no))) (1 ∷ 0 ∷ 0 ∷ 0 ∷ [])

-- A loop may begin below 0, and what comes in on one link may leave on another.
pub record LoopsAndLinksMean : Type 0 where
  pub below_zero : Shows (counts (negsuc 1) (pos 2)) (254 ∷ 255 ∷ 255 ∷ 255 ∷ 255 ∷ 255 ∷ 255 ∷ 255 ∷ [])
  pub second_link : meaning hands_on ([] ∷ (7 ∷ 0 ∷ 0 ∷ 0 ∷ 9 ∷ []) ∷ [] ∷ [] ∷ []) all_listen ≡ record {
    ending = Ended;
    read = [] ∷ (7 ∷ 0 ∷ 0 ∷ 0 ∷ []) ∷ [] ∷ [] ∷ [];
    written = [] ∷ (7 ∷ 0 ∷ 0 ∷ 0 ∷ []) ∷ [] ∷ [] ∷ [];
  }
