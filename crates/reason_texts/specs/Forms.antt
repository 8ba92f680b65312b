-- How far a line goes on as one of the forms that lines have.
use Rattle.std.specs.Prelude.{Bool, true, false, List, [], ◌∷◌, if◌then◌else◌, Option, Some, None, is_some}
use Rattle.std.specs.Prelude.{Result, Ok}
use Rattle.occam_layout.specs.declared.mark.Mark as mark_type
use Rattle.occam_layout.specs.declared.mark.Mark.TheVariants as mark
use Rattle.occam_parser.specs.Terminals.{Terminal, Name, Text, Mark}
use Rattle.occam_parser.specs.Reading.{behind}
use Rattle.occam_parser.specs.LineReading.{has_condition}
use Rattle.reason_texts.specs.declared.forms.Form.{Form}
use Rattle.reason_texts.specs.declared.forms.Form.TheVariants as form
use Rattle.reason_texts.specs.declared.forms.Part as part_type
use Rattle.reason_texts.specs.declared.forms.Part.TheVariants as part
use Rattle.reason_texts.specs.declared.forms.Step.{Step}
use Rattle.reason_texts.specs.declared.forms.Step.TheVariants as step
use Rattle.reason_texts.specs.declared.stuck.Wanted.TheVariants as wanted
use Rattle.reason_texts.specs.declared.stuck.Lack.{Lack}
use Rattle.reason_texts.specs.declared.stuck.Lack.TheVariants.{Token as Wants}
use Rattle.reason_texts.specs.declared.stuck.Stuck.{Stuck}
use Rattle.reason_texts.specs.Stuck.{Past, lacking, ◌then◌, past_mark, past_name, past_end}
use Rattle.reason_texts.specs.Expressions.{past_expression, past_chain}

abbrev pub past_whole : Past
past_whole ts = past_expression 64 ts

abbrev pub brackets_or : List Terminal → Option (List Terminal) → Result (List Terminal) Stuck
brackets_or ts None = Ok ts
brackets_or ts (Some after) = past_whole after then past_mark mark.CloseBracket

-- an expression in brackets may come: a size or a subscript
unfoldable pub past_brackets : Past
past_brackets ts = brackets_or ts (behind mark.OpenBracket ts)

unfoldable pub past_type : Lack → Past
past_type lack [] = lacking lack []
past_type lack (Mark mark.Int ∷ ts) = Ok ts
past_type lack (Mark mark.Byte ∷ ts) = Ok ts
past_type lack (t ∷ ts) = lacking lack (t ∷ ts)

abbrev pub shape_or : List Terminal → Option (List Terminal) → Result (List Terminal) Stuck
shape_or ts None = past_type (Wants wanted.Shape) ts
shape_or ts (Some after) = past_mark mark.Of after then past_type (Wants wanted.ValueType)

-- a type, or CHAN OF a type
unfoldable pub past_shape : Past
past_shape ts = shape_or ts (behind mark.Chan ts)

abbrev pub formal_or : List Terminal → Option (List Terminal) → Result (List Terminal) Stuck
formal_or ts None = past_brackets ts then past_shape then past_name
formal_or ts (Some after) = past_brackets after then past_type (Wants wanted.ValueType) then past_name

unfoldable pub past_formal : Past
past_formal ts = formal_or ts (behind mark.Val ts)

abbrev pub past_part : part_type.Part → Past
past_part part.Expression ts = past_whole ts
past_part part.Name ts = past_name ts
past_part part.Formal ts = past_formal ts

abbrev pub past_list : part_type.Part → Past
past_list p ts = past_chain (past_part p) mark.Comma ts

abbrev pub parentheses_or : part_type.Part → List Terminal → Option (List Terminal) → Result (List Terminal) Stuck
parentheses_or p ts None = past_list p ts then past_mark mark.CloseParenthesis then past_end
parentheses_or p ts (Some rest) = past_end rest

-- parts with commas between them, if any, up to the parenthesis that ends the line
unfoldable pub past_parentheses : part_type.Part → Past
past_parentheses p ts = parentheses_or p ts (behind mark.CloseParenthesis ts)

unfoldable pub past_value : Bool → Past
past_value false ts = past_whole ts
past_value true [] = lacking (Wants wanted.Table) []
past_value true (Text bytes ∷ ts) = Ok ts
past_value true (Mark mark.OpenBracket ∷ ts) = past_list part.Expression ts then past_mark mark.CloseBracket
past_value true (t ∷ ts) = lacking (Wants wanted.Table) (t ∷ ts)

-- one step
abbrev pub past_step : Step → Past
past_step step.Name = past_name
past_step (step.Mark m) = past_mark m
past_step step.Type = past_type (Wants wanted.ValueType)
past_step step.Shape = past_shape
past_step step.Expression = past_whole
past_step step.Brackets = past_brackets
past_step (step.Value is_table) = past_value is_table
past_step (step.List p) = past_list p
past_step step.End = past_end

-- steps, one after the other, from where a line was found to go on
abbrev pub past_from : Result (List Terminal) Stuck → List Step → Result (List Terminal) Stuck
past_from found [] = found
past_from found (s ∷ steps) = past_from (found then past_step s) steps

abbrev pub past_all : List Step → Past
past_all steps ts = past_from (Ok ts) steps

-- after the word VAL
unfoldable pub past_constant : Past
past_constant ts =
    past_brackets ts then past_type (Wants wanted.ValueType) then past_name then past_mark mark.Is
    then past_value (is_some (behind mark.OpenBracket ts)) then past_mark mark.Colon then past_end

unfoldable pub past_names : Past
past_names ts = past_brackets ts then past_shape then past_list part.Name then past_mark mark.Colon then past_end

-- after the word PROC
abbrev pub past_procedure : Past
past_procedure ts = past_name ts then past_mark mark.OpenParenthesis then past_parentheses part.Formal

abbrev pub past_expression_alone : Past
past_expression_alone ts = past_whole ts then past_end

abbrev pub past_place_alone : Past
past_place_alone ts = past_name ts then past_brackets then past_end

-- after the place that an assignment or a communication begins with
unfoldable pub past_placed : Past
past_placed [] = lacking (Wants wanted.Action) []
past_placed (Mark mark.Assign ∷ ts) = past_expression_alone ts
past_placed (Mark mark.Input ∷ ts) = past_place_alone ts
past_placed (Mark mark.Output ∷ ts) = past_expression_alone ts
past_placed (t ∷ ts) = lacking (Wants wanted.Action) (t ∷ ts)

abbrev pub instance_or : List Terminal → Option (List Terminal) → Result (List Terminal) Stuck
instance_or ts None = past_brackets ts then past_placed
instance_or ts (Some after) = past_parentheses part.Expression after

-- after its first name
unfoldable pub past_named_action : Past
past_named_action ts = instance_or ts (behind mark.OpenParenthesis ts)

unfoldable pub past_replicator : Past
past_replicator [] = Ok []
past_replicator (t ∷ ts) =
    past_name (t ∷ ts) then past_mark mark.Equal then past_whole then past_mark mark.For then past_expression_alone

unfoldable pub past_marked_process : mark_type.Mark → List Terminal → Past
past_marked_process mark.Val ts rest = past_constant rest
past_marked_process mark.Int ts rest = past_names ts
past_marked_process mark.Byte ts rest = past_names ts
past_marked_process mark.Chan ts rest = past_names ts
past_marked_process mark.OpenBracket ts rest = past_names ts
past_marked_process mark.Skip ts rest = past_end rest
past_marked_process mark.Stop ts rest = past_end rest
past_marked_process mark.Seq ts rest = past_replicator rest
past_marked_process mark.Par ts rest = past_replicator rest
past_marked_process mark.If ts rest = past_replicator rest
past_marked_process mark.Alt ts rest = past_replicator rest
past_marked_process m ts rest = lacking (Wants wanted.Process) ts

unfoldable pub past_process : Past
past_process [] = lacking (Wants wanted.Process) []
past_process (Name name ∷ ts) = past_named_action ts
past_process (Mark m ∷ ts) = past_marked_process m (Mark m ∷ ts) ts
past_process (t ∷ ts) = lacking (Wants wanted.Process) (t ∷ ts)

unfoldable pub past_input : Past
past_input ts = past_name ts then past_brackets then past_mark mark.Input then past_place_alone

abbrev pub skip_or : List Terminal → Option (List Terminal) → Result (List Terminal) Stuck
skip_or ts None = past_input ts
skip_or ts (Some after) = past_end after

abbrev pub past_guarded : Past
past_guarded ts = skip_or ts (behind mark.Skip ts)

abbrev pub past_conditioned : Past
past_conditioned ts = past_whole ts then past_mark mark.Guard then past_guarded

unfoldable pub past_guard : Past
past_guard ts = if has_condition ts then past_conditioned ts else past_input ts

unfoldable pub past_item : Past
past_item [] = lacking (Wants wanted.Item) []
past_item (Mark mark.Val ∷ ts) = past_constant ts
past_item (Mark mark.Proc ∷ ts) = past_procedure ts
past_item (t ∷ ts) = lacking (Wants wanted.Item) (t ∷ ts)

abbrev pub past_colon : Past
past_colon ts = past_mark mark.Colon ts then past_end

-- a line of this form has to come
abbrev pub past_form : Form → Past
past_form form.Item ts = past_item ts
past_form form.Colon ts = past_colon ts
past_form form.Process ts = past_process ts
past_form form.Choice ts = past_expression_alone ts
past_form form.Guard ts = past_guard ts
