-- The small program with an instance, rule by rule and place by place.
use Rattle.std.proofs.Common.{pos, None, List, [], ◌∷◌, length, inl, inr, refl, arith}
use Rattle.occam_parser.specs.declared.tree.ValueType.TheVariants as value_type
use Rattle.occam_parser.specs.Expressions.{Expression}
use Rattle.occam_parser.specs.Constructs.{in_seq}
use Rattle.occam_parser.specs.Lines.{Instance, Variables, Declaration}
use Rattle.occam_parser.specs.Blocks.{Process, Processes, Declared, Components, NoComponent, Plain, Procedure}
use Rattle.occam_parser.specs.Blocks.{GlobalProcedure}
use Rattle.scalar_ranges.specs.Moves.{Known}
use Rattle.program_uses.specs.Declaring.{add_declaration}
use Rattle.program_meaning.specs.SmallPrograms.{x, s, number, named, does, receives, sends, seq, then_does, links_of}
use Rattle.usage_checks.specs.AfterProcesses.{after_components}
use Rattle.occam_layout.specs.declared.mark.Mark.TheVariants as mark
use Rattle.occam_parser.specs.Terminals.{Mark}
use Rattle.usage_checks.specs.ItemRules.{BreaksNoRule, Outside, outermost, weighed, after_item, in_body}
use Rattle.usage_checks.specs.NameRules.{with_entries}
use Rattle.usage_checks.specs.Reaching.{Standing, AProcess, AComponent, in_procedure, in_block, Reaches, to_body}
use Rattle.usage_checks.specs.Reaching.{behind, to_part, to_process}
use Rattle.code_generator.specs.SmallCode.{copies, calls}
use Rattle.called_code.specs.CalledCode.{Calls, IsCalled, main_is, called_is}
use Rattle.called_code.specs.SmallCalls.{LawsApply}
use Rattle.called_code.proofs.ProcessesWritten.{instance_calls}

calls_break_no_rule : BreaksNoRule calls
calls_break_no_rule f x = grind (arith, x)

-- ---- the place of the instance

abbrev actuals : List Expression
actuals = number (pos 3) ∷ named x ∷ []

abbrev instance : Process
instance = does (Instance s actuals)

abbrev declaration : Declaration
declaration = Variables (record {
  line = 0;
  size = None;
  value_type = value_type.Int;
  names = record { first = x; others = [] };
})

abbrev before : Components Processes
before = then_does NoComponent (receives x)

abbrev components : Components Processes
components = then_does (then_does before instance) (sends (named x))

abbrev main : Procedure
main = record {
  line = 0;
  head = record { name = 109 ∷ 97 ∷ 105 ∷ 110 ∷ []; formals = links_of value_type.Int };
  body = Declared declaration (seq components);
}

abbrev outside : Outside
outside = weighed (GlobalProcedure main) (after_item copies outermost)

abbrev standing : Standing
standing = in_procedure outside main

-- where main begins, behind its declaration, and at the instance
abbrev begun : Known
begun = in_body main outside.known

abbrev declared : Known
declared = with_entries (add_declaration declaration) begun

abbrev reached : Known
reached = after_components standing.around (Mark mark.Seq) before declared

abbrev inner : Standing
inner = in_block (Mark mark.Seq) declared standing

instance_stands : Reaches calls inner (AProcess (length reached.entries) instance) reached
instance_stands =
    let first = length begun.entries in
    let body = to_body outside main (inr (inl (refl, refl))) in
    let behind_x = behind standing first declaration (seq components) begun body in
    let component = AComponent (Plain instance) in
    let part = to_part standing inner first 0 (in_seq components) component declared reached behind_x
    (refl, inr (inl (refl, refl))) in
    to_process inner (Plain instance) reached part

main_calls : Calls calls 1 0
main_calls = instance_calls {line = 0} {name = s} {actuals = actuals} instance_stands refl refl

pub laws_apply : LawsApply
laws_apply =
    let first : IsCalled calls 1 = main_is 1 refl in
    record {
      unbroken = calls_break_no_rule;
      without_par = (tt, ((tt, (((tt, tt), tt), tt)), tt));
      main = first;
      called = called_is 1 0 first main_calls;
    }
