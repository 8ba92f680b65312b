-- The code of expressions, actions and declarations is straight: it places no label and jumps nowhere.
use Rattle.std.proofs.Common.{ℕ, suc, ◌+◌, ℤ, Bool, List, [], ◌∷◌, ◌++◌, Option, Some}
use Rattle.std.specs.List.{AllByRecursion}
use Rattle.occam_parser.specs.Expressions.{Expression}
use Rattle.occam_parser.specs.Lines.{Declaration, Place}
use Rattle.scalar_ranges.specs.Entries.{Entry, Meaning, Scalar}
use Rattle.scalar_ranges.specs.Narrowing.{Tested}
use Rattle.scalar_ranges.specs.declared.scope.ScalarKind.TheVariants as kinds
use Rattle.program_uses.specs.Signatures.{Parameter}
use Rattle.code_pieces.specs.Pieces.{Piece, constant, stores}
use Rattle.code_pieces.proofs.AllOfPieces.{all_both}
use Rattle.line_pieces.specs.Actions.{assign_code, cleaned, forgets, input_code, output_code}
use Rattle.line_pieces.specs.Declarations.{Frame, declaration_code}
use Rattle.line_pieces.specs.Expressions.{expression_code}
use Rattle.line_pieces.specs.Homes.{Home, Table}
use Rattle.code_generator.specs.Instances.{bindings_code, binding_code, bound, cleaning_code, meaning_at}
use Rattle.code_generator.specs.Instances.{passed_target}
use Rattle.code_generator.specs.Processes.{loop_start}
use Rattle.meant_code.specs.Labels.{AreStraight, IsStraight}
use Rattle.meant_code.proofs.LinesHave as lines
use Rattle.meant_code.proofs.LinesHave.{HomeHas, HomesHave, OfInstructions}

pub straight_both : (ps qs : List Piece) → AreStraight ps → AreStraight qs → AreStraight (ps ++ qs)
straight_both ps qs first second = all_both IsStraight ps qs first second

-- each instruction is, if its word is counted
of_instructions : OfInstructions IsStraight
of_instructions f e named = named

home_is : (h : Home) → HomeHas IsStraight h
home_is (Table values) = tt
home_is h = tt

homes_are : (hs : List Home) → HomesHave IsStraight hs
homes_are [] = tt
homes_are (h ∷ hs) = (home_is h, homes_are hs)

pub constant_is : (v : ℤ) → IsStraight (constant v)
constant_is v = lines.constant_is IsStraight of_instructions v

pub expression_is : (hs : List Home) (es : List Entry) (t : ℕ) (e : Expression)
    → AreStraight (expression_code hs es t e)
expression_is hs es t e = lines.expression_is IsStraight of_instructions hs (homes_are hs) es t e

pub assign_is : (hs : List Home) (es : List Entry) (t : ℕ) (target : Place) (value : Expression)
    → AreStraight (assign_code hs es t target value)
assign_is hs es t target value =
    lines.assign_is IsStraight of_instructions hs (homes_are hs) es t target value

pub input_is : (hs : List Home) (es : List Entry) (t : ℕ) (channel target : Place)
    → AreStraight (input_code hs es t channel target)
input_is hs es t channel target =
    lines.input_is IsStraight of_instructions hs (homes_are hs) es t channel target

pub output_is : (hs : List Home) (es : List Entry) (t : ℕ) (channel : Place) (value : Expression)
    → AreStraight (output_code hs es t channel value)
output_is hs es t channel value =
    lines.output_is IsStraight of_instructions hs (homes_are hs) es t channel value

pub forgets_is : (shows : Bool) (test : Option Tested) → AreStraight (forgets shows test)
forgets_is shows test = lines.forgets_is IsStraight of_instructions shows test

pub declaration_is : (es : List Entry) (d : Declaration) (top : ℕ) → AreStraight (declaration_code es d top)
declaration_is es d top = lines.declaration_is IsStraight of_instructions es d top

pub loop_start_is : (word : ℕ) (base count : ℤ) → AreStraight (loop_start word base count)
loop_start_is word base count = lines.loop_start_is IsStraight of_instructions word base count

-- ---- instances

binding_is : (hs : List Home) (es : List Entry) (m : Option Meaning) (e : Expression) (top : ℕ)
    → AreStraight (binding_code hs es m e top)
binding_is hs es (Some (Scalar kinds.Value type range)) e top =
    straight_both (expression_code hs es top e) (stores top ∷ []) (expression_is hs es top e)
    (lines.stores_is IsStraight of_instructions top, tt)
binding_is hs es m e top = tt

pub bindings_are : (hs : List Home) (es : List Entry) (qs : List Parameter) (i : ℕ) (actuals : List Expression)
    (f : Frame) → AreStraight (bindings_code hs es qs i actuals f)
bindings_are hs es qs i [] f = tt
bindings_are hs es qs i (e ∷ actuals) f =
    let next = bound hs es (meaning_at i qs) e f in
    straight_both (binding_code hs es (meaning_at i qs) e f.top) (bindings_code hs es qs (suc i) actuals next)
    (binding_is hs es (meaning_at i qs) e f.top) (bindings_are hs es qs (suc i) actuals next)

pub cleaning_is : (hs : List Home) (es : List Entry) (t : ℕ) (qs : List Parameter) (i : ℕ)
    (actuals : List Expression) → AreStraight (cleaning_code hs es t qs i actuals)
cleaning_is hs es t qs i [] = tt
cleaning_is hs es t qs i (e ∷ actuals) =
    straight_both (cleaned (passed_target hs es t (meaning_at i qs) e)) (cleaning_code hs es t qs (suc i) actuals)
    (lines.cleaned_is IsStraight of_instructions (passed_target hs es t (meaning_at i qs) e)) (cleaning_is hs es t qs (suc i) actuals)
