-- Small modules, certified by computation.
use Rattle.std.proofs.Common.{◌≡◌, ℕ, pos, negsuc, false, List, [], ◌∷◌, Ok, replicate, refl}
use Rattle.word_arithmetic.specs.Binary.{result_range}
use Rattle.module_format.specs.declared.fact.Fact.TheVariants.{Unknown}
use Rattle.module_format.specs.declared.rows.ParameterKind.TheVariants.{Value}
use Rattle.module_format.specs.Stack.{of_empty}
use Rattle.module_format.specs.Contents.{Contents}
use Rattle.module_format.specs.Contexts.{context_at}
use Rattle.machine_state.specs.Instructions.{op_of, instruction_of}
use Rattle.machine_state.specs.SmallModules as small
use Rattle.states.specs.declared.rule.Rule.TheVariants as rules
use Rattle.states.specs.State.{written}
use Rattle.states.specs.Below.{below}
use Rattle.rulings.specs.Rulings.{outside_alternation, outside_starts, uses, forward, writes_word, reads_word}
use Rattle.rulings.specs.Rulings.{schedules, pays, leads_to, goes_on}
use Rattle.local_rules.specs.WordRules.{becomes, fact_of_two}
use Rattle.facts.specs.Rules.{operation_rule, instruction_rule, rule_of, rule, is_instruction}
use Rattle.verifier.specs.Judge.{judged_at, judge, verdict, refused}
use Rattle.local_rules.specs.LocalRules.{local_operation_rule, local_rule}

-- ldc 5, stl 1, ldl 1, adc 1, stl 1, stopp
abbrev first : ℕ → Contents
first budget = record small.first { budget = budget }

first_is_accepted : verdict (first 7) ≡ Ok tt
unfolding judge judged_at below written context_at outside_alternation outside_starts uses becomes fact_of_two
    result_range forward writes_word reads_word schedules pays leads_to goes_on operation_rule instruction_rule rule_of
    local_operation_rule local_rule rule instruction_of op_of
first_is_accepted = refl

first_is_dear : verdict (first 6) ≡ refused rules.Budget 5
unfolding judge judged_at below written context_at outside_alternation outside_starts uses becomes fact_of_two
    result_range forward writes_word reads_word schedules pays leads_to goes_on operation_rule instruction_rule rule_of
    local_operation_rule local_rule rule instruction_of op_of
first_is_dear = refl

-- stopp, and after it, where nothing leads, ldc 5, which has a rule; or an operation that has none
nothing_leads_to_it : verdict (record (first 7) { code = 0x21 ∷ 0xf5 ∷ 0x45 ∷ [] }) ≡ refused rules.Flow 2
unfolding judge judged_at below written context_at outside_alternation outside_starts uses becomes fact_of_two
    result_range forward writes_word reads_word schedules pays leads_to goes_on operation_rule instruction_rule rule_of
    local_operation_rule local_rule rule instruction_of op_of is_instruction
nothing_leads_to_it = refl

it_has_no_rule : verdict (record (first 7) { code = 0x21 ∷ 0xf5 ∷ 0x22 ∷ 0xf2 ∷ [] }) ≡ refused rules.Spelling 2
unfolding judge judged_at below written context_at outside_alternation outside_starts uses becomes fact_of_two
    result_range forward writes_word reads_word schedules pays leads_to goes_on operation_rule instruction_rule rule_of
    local_operation_rule local_rule rule instruction_of op_of is_instruction
it_has_no_rule = refl

-- ldc 5, stl 1, j 0 to the label at 3 of this number, ldl 1, stopp
abbrev jump : ℕ → ℕ → Contents
jump budget number = record small.jump {
  budget = budget;
  labels = record {
    offset = 3;
    context = 0;
    depth = pos 0;
    number = number;
    stack = of_empty Unknown;
    entries = [];
  } ∷ [];
}

jump_is_accepted : verdict (jump 6 3) ≡ Ok tt
unfolding judge judged_at below written context_at outside_alternation outside_starts uses becomes fact_of_two
    result_range forward writes_word reads_word schedules pays leads_to goes_on operation_rule instruction_rule rule_of
    local_operation_rule local_rule rule instruction_of op_of
jump_is_accepted = refl

jump_cannot_pay : verdict (jump 5 3) ≡ refused rules.Budget 2
unfolding judge judged_at below written context_at outside_alternation outside_starts uses becomes fact_of_two
    result_range forward writes_word reads_word schedules pays leads_to goes_on operation_rule instruction_rule rule_of
    local_operation_rule local_rule rule instruction_of op_of
jump_cannot_pay = refl

label_cannot_pay : verdict (jump 6 2) ≡ refused rules.Budget 4
unfolding judge judged_at below written context_at outside_alternation outside_starts uses becomes fact_of_two
    result_range forward writes_word reads_word schedules pays leads_to goes_on operation_rule instruction_rule rule_of
    local_operation_rule local_rule rule instruction_of op_of
label_cannot_pay = refl

-- this code, with a procedure at this entry of this number, whose word 1 is a number from 0 to 5
abbrev uncalled : List ℕ → ℕ → ℕ → Contents
uncalled code entry number = record {
  code = code;
  constants = [];
  data_words = 5;
  base = 3;
  budget = 10;
  finish = 0;
  lengths = replicate 8 0;
  has_long_operations = false;
  procedures =
      record {
        entry = entry;
        lo = negsuc 2;
        hi = pos 4;
        number = number;
        parameters = record { word = 1; kind = Value (pos 0) (pos 5) } ∷ [];
      } ∷ [];
  pars = [];
  table_rows = [];
  labels = [];
}

-- stopp, and in the procedure ldl 1, adc 1, stl 1, stopp
procedure_is_accepted : verdict (uncalled (0x21 ∷ 0xf5 ∷ 0x71 ∷ 0x81 ∷ 0xd1 ∷ 0x21 ∷ 0xf5 ∷ []) 2 5) ≡ Ok tt
unfolding judge judged_at below written context_at outside_alternation outside_starts uses becomes fact_of_two
    result_range forward writes_word reads_word schedules pays leads_to goes_on operation_rule instruction_rule rule_of
    local_operation_rule local_rule rule instruction_of op_of
procedure_is_accepted = refl

procedure_cannot_pay : verdict (uncalled (0x21 ∷ 0xf5 ∷ 0x71 ∷ 0x81 ∷ 0xd1 ∷ 0x21 ∷ 0xf5 ∷ []) 2 4)
    ≡ refused rules.Budget 5
unfolding judge judged_at below written context_at outside_alternation outside_starts uses becomes fact_of_two
    result_range forward writes_word reads_word schedules pays leads_to goes_on operation_rule instruction_rule rule_of
    local_operation_rule local_rule rule instruction_of op_of
procedure_cannot_pay = refl

-- ldc 5 falls into the procedure
procedure_is_fallen_into : verdict (uncalled (0x45 ∷ 0x21 ∷ 0xf5 ∷ []) 1 5) ≡ refused rules.Flow 1
unfolding judge judged_at below written context_at outside_alternation outside_starts uses becomes fact_of_two
    result_range forward writes_word reads_word schedules pays leads_to goes_on operation_rule instruction_rule rule_of
    local_operation_rule local_rule rule instruction_of op_of
procedure_is_fallen_into = refl

-- stopp, and the procedure begins at its second byte
procedure_is_hidden : verdict (uncalled (0x21 ∷ 0xf5 ∷ []) 1 5) ≡ refused rules.InstructionStart 1
unfolding judge judged_at below written context_at outside_alternation outside_starts uses becomes fact_of_two
    result_range forward writes_word reads_word schedules pays leads_to goes_on operation_rule instruction_rule rule_of
    local_operation_rule local_rule rule instruction_of op_of
procedure_is_hidden = refl
