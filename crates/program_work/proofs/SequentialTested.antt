-- What is sequential by the meaning of programs is so by the test.
use Rattle.std.proofs.Common.{◌≡◌, true, List, [], ◌∷◌, Some, refl}
use Rattle.std.proofs.lemmas.Bool.{and_from}
use Rattle.occam_layout.specs.declared.mark.Mark.TheVariants as mark
use Rattle.occam_parser.specs.Terminals.{Terminal, Mark}
use Rattle.occam_parser.specs.Lines.{Action, Skip, Stop, Assign, Input, Output, Instance, block_word}
use Rattle.occam_parser.specs.Blocks.{Process, Declared, Does, Construct, Act, Block, Replicated, Body, One, Part}
use Rattle.occam_parser.specs.Blocks.{Components, NoComponent, Further, Component, Plain, Chosen}
use Rattle.occam_parser.specs.Blocks.{Procedure, ProgramItem, GlobalConstant, GlobalProcedure}
use Rattle.program_meaning.specs.Sequential.{IsSequential, IsSequentialAction, IsSequentialConstruct}
use Rattle.program_meaning.specs.Sequential.{IsSequentialBody, AreSequential, IsSequentialComponent}
use Rattle.program_meaning.specs.Sequential.{IsSequentialWord, IsSequentialProgram}
use Rattle.program_work.specs.Processes.{is_sequential, is_sequential_action, is_sequential_construct}
use Rattle.program_work.specs.Processes.{is_sequential_body, are_sequential, is_sequential_component}
use Rattle.program_work.specs.Processes.{is_sequential_word}
use Rattle.program_work.specs.Programs.{main_of, SequentialIsTested}

action_tested : (a : Action) → IsSequentialAction a → is_sequential_action a ≡ true
action_tested (Instance name actuals) h = absurd h
action_tested Skip h = refl
action_tested Stop h = refl
action_tested (Assign target value) h = refl
action_tested (Input channel target) h = refl
action_tested (Output channel value) h = refl

word_tested : (word : Terminal) → IsSequentialWord word → is_sequential_word word ≡ true
word_tested (Mark mark.Seq) h = refl
word_tested (Mark mark.If) h = refl
word_tested word h = absurd h

-- a component of a SEQ is a process, and one of an IF is a choice
component_word : {part : Part} (word : Terminal) (c : Component part) → IsSequentialComponent word c
    → is_sequential_word word ≡ true
component_word (Mark mark.Seq) (Plain p) h = refl
component_word (Mark mark.If) (Chosen line e p) h = refl
component_word word c h = absurd h

mutual
  pub process_tested : (p : Process) → IsSequential p → is_sequential p ≡ true
  process_tested (Declared d p) h = process_tested p h
  process_tested (Does line c) h = construct_tested c h

  construct_tested : (c : Construct) → IsSequentialConstruct c → is_sequential_construct c ≡ true
  construct_tested (Act a) h = action_tested a h
  construct_tested (Block kind cs) h =
      and_from (is_sequential_word (block_word kind)) (are_sequential cs) (word_tested (block_word kind) h.0)
      (components_tested (block_word kind) cs h.1)
  construct_tested (Replicated r b) h = body_tested b h

  body_tested : (b : Body) → IsSequentialBody b → is_sequential_body b ≡ true
  body_tested (One kind c) h =
      and_from (is_sequential_word (block_word kind)) (is_sequential_component c)
      (component_word (block_word kind) c h) (component_tested (block_word kind) c h)

  components_tested : {part : Part} (word : Terminal) (cs : Components part) → AreSequential word cs
      → are_sequential cs ≡ true
  components_tested word NoComponent h = refl
  components_tested word (Further cs c) h =
      and_from (are_sequential cs) (is_sequential_component c) (components_tested word cs h.0)
      (component_tested word c h.1)

  component_tested : {part : Part} (word : Terminal) (c : Component part) → IsSequentialComponent word c
      → is_sequential_component c ≡ true
  component_tested (Mark mark.Seq) (Plain p) h = process_tested p h
  component_tested (Mark mark.If) (Chosen line e p) h = process_tested p h
  component_tested word c h = absurd h

pub main_tested : (items : List ProgramItem) → IsSequentialProgram items
    → (p : Procedure) × (main_of items ≡ Some p) × (is_sequential p.body ≡ true)
main_tested [] h = absurd h
main_tested (GlobalConstant c ∷ []) h = absurd h
main_tested (GlobalProcedure p ∷ []) h = (p, refl, process_tested p.body h)
main_tested (GlobalConstant c ∷ next ∷ items) h = main_tested (next ∷ items) h
main_tested (GlobalProcedure p ∷ next ∷ items) h = main_tested (next ∷ items) h

pub sequential_is_tested : SequentialIsTested
sequential_is_tested = record { process = process_tested; program = main_tested }
