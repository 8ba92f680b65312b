-- What is no instruction breaks `Spelling`.
use Rattle.std.proofs.Common.{◌≡◌, ℕ, ℤ, Option, Some, None, ap, refl, Bool, false, cond, ◌&&◌}
use Rattle.prefix_decoder.specs.declared.decoding.Instr.{Instr}
use Rattle.machine_state.specs.declared.instruction.Instruction.{Instruction}
use Rattle.machine_state.specs.declared.instruction.Instruction.TheVariants.{Operate}
use Rattle.machine_state.specs.declared.op.Op.{Op}
use Rattle.machine_state.specs.declared.op.Op.TheVariants as ops
use Rattle.machine_state.specs.Instructions.{instruction_of}
use Rattle.states.specs.declared.rule.Rule.TheVariants as rules
use Rattle.module_format.specs.Contents.{Contents}
use Rattle.states.specs.State.{State}
use Rattle.rulings.specs.Rulings.{Site, breaks, alone, uses, goes_on, in_bounds}
use Rattle.local_rules.specs.WordRules.{has_range, has_long_operations, long_results}
use Rattle.facts.specs.Rules.{instruction_rule, rule_of, rule, rule_at, is_instruction, operation_rule, is_operation}
use Rattle.facts.specs.Rules.{is_known}
use Rattle.local_rules.specs.LocalRules.{local_operation_rule}

operation-without : (site : Site) (op : Op) (s : State) → is_operation site.contents op ≡ false
    → operation_rule site op s ≡ breaks rules.Spelling
unfolding operation_rule local_operation_rule has_long_operations
operation-without site (ops.Long op) s h =
    ap (λ (b : Bool). cond b (uses s.stack.a (λ a. uses s.stack.b (λ b. uses s.stack.c (λ c.
    in_bounds (has_range a && has_range b && has_range c)
    (alone s.mode (goes_on site (record s { stack = long_results op }))))))) (breaks rules.Spelling)) h
operation-without site _ s h = absurd (cc)

instruction-without : (site : Site) (i : Instruction) (e : ℤ) (s : State)
    → is_known site.contents i ≡ false → instruction_rule site i e s ≡ breaks rules.Spelling
unfolding instruction_rule
instruction-without site (Operate op) e s h = operation-without site op s h
instruction-without site _ e s h = absurd (cc)

without-rule : (site : Site) (o : Option Instruction) (e : ℤ) (s : State)
    → (elim o as (λ o. Bool) [ None ↦ false | Some i ↦ is_known site.contents i ]) ≡ false
    → rule_of site o e s ≡ breaks rules.Spelling
unfolding rule_of
without-rule site None e s h = refl
without-rule site (Some i) e s h = instruction-without site i e s h

pub unruled : (m : Contents) (at : ℕ) (i : Instr) (s : State) → is_instruction m i ≡ false
    → rule_at m at i s ≡ breaks rules.Spelling
unfolding rule is_instruction
unruled m at i s h = without-rule _ (instruction_of i.fun i.operand) i.operand s h
