-- The code of expressions, actions and declarations addresses no table that is empty, where no home is one.
use Rattle.std.proofs.Common.{ℕ, ℤ, Bool, List, Option}
use Rattle.std.specs.List.{AllByRecursion}
use Rattle.occam_parser.specs.Expressions.{Expression}
use Rattle.occam_parser.specs.Lines.{Declaration, Place}
use Rattle.scalar_ranges.specs.Entries.{Entry}
use Rattle.scalar_ranges.specs.Narrowing.{Tested}
use Rattle.code_pieces.specs.Pieces.{Piece}
use Rattle.line_pieces.specs.Actions.{assign_code, forgets, input_code, output_code}
use Rattle.line_pieces.specs.Declarations.{declaration_code}
use Rattle.line_pieces.specs.Expressions.{expression_code}
use Rattle.line_pieces.specs.Homes.{Home}
use Rattle.code_generator.specs.Processes.{loop_start}
use Rattle.meant_code.proofs.LinesHave as lines
use Rattle.meant_code.proofs.LinesHave.{HomeHas, HomesHave, OfInstructions}
use Rattle.certified_modules.specs.Certifying.{HasValues}

-- a home that is no empty table
abbrev pub IsFull : Home → Type 0
IsFull h = HomeHas HasValues h

abbrev pub HaveValues : List Home → Type 0
HaveValues hs = HomesHave HasValues hs

abbrev pub AreFull : List Piece → Type 0
AreFull ps = AllByRecursion HasValues ps

-- no instruction makes the address of a table
of_instructions : OfInstructions HasValues
of_instructions f e named = tt

pub declaration_is : (es : List Entry) (d : Declaration) (top : ℕ) → AreFull (declaration_code es d top)
declaration_is es d top = lines.declaration_is HasValues of_instructions es d top

pub loop_start_is : (word : ℕ) (base count : ℤ) → AreFull (loop_start word base count)
loop_start_is word base count = lines.loop_start_is HasValues of_instructions word base count

pub forgets_is : (shows : Bool) (test : Option Tested) → AreFull (forgets shows test)
forgets_is shows test = lines.forgets_is HasValues of_instructions shows test

-- where no home is an empty table
module _ (hs : List Home) (have : HaveValues hs) (es : List Entry) where
  pub expression_is : (t : ℕ) (e : Expression) → AreFull (expression_code hs es t e)
  expression_is t e = lines.expression_is HasValues of_instructions hs have es t e

  pub assign_is : (t : ℕ) (target : Place) (value : Expression) → AreFull (assign_code hs es t target value)
  assign_is t target value = lines.assign_is HasValues of_instructions hs have es t target value

  pub input_is : (t : ℕ) (channel target : Place) → AreFull (input_code hs es t channel target)
  input_is t channel target = lines.input_is HasValues of_instructions hs have es t channel target

  pub output_is : (t : ℕ) (channel : Place) (value : Expression) → AreFull (output_code hs es t channel value)
  output_is t channel value = lines.output_is HasValues of_instructions hs have es t channel value
