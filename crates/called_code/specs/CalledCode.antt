-- Which programs have code: those that break no rule, where what is called has neither a PAR nor an ALT.
use Rattle.std.specs.Prelude.{◌≡◌, ℕ, ◌+◌, List, length, Some}
use Rattle.std.specs.List.{AllByRecursion}
use Rattle.occam_parser.specs.Expressions.{Expression}
use Rattle.occam_parser.specs.Lines.{Instance, block_word}
use Rattle.occam_parser.specs.Blocks.{Process, Declared, Does, Construct, Act, Block, Replicated, Body, One, Part}
use Rattle.occam_parser.specs.Blocks.{Components, NoComponent, Further, Component, Plain, Chosen, Guarded, Procedure}
use Rattle.occam_parser.specs.Blocks.{ProgramItem, GlobalConstant, GlobalProcedure}
use Rattle.scalar_ranges.specs.Entries as entries
use Rattle.scalar_ranges.specs.Entries.{meaning_in}
use Rattle.scalar_ranges.specs.Moves.{Known}
use Rattle.program_meaning.specs.Sequential.{IsSequentialWord}
use Rattle.usage_checks.specs.ItemRules.{Outside, outermost, after_items, BreaksNoRule}
use Rattle.usage_checks.specs.Reaching.{Standing, AProcess, Comes, Reaches}
use Rattle.code_pieces.specs.Pieces.{Code}
use Rattle.code_generator.specs.Programs.{code_of}

-- ---- processes without PAR and ALT

-- Each block is a SEQ or an IF; there may be instances.
abbrev mutual
  pub HasNoPar : Process → Type 0
  HasNoPar (Declared d p) = HasNoPar p
  HasNoPar (Does line c) = ConstructHasNoPar c

  pub ConstructHasNoPar : Construct → Type 0
  ConstructHasNoPar (Act action) = Unit {0}
  ConstructHasNoPar (Block kind cs) = IsSequentialWord (block_word kind) × HaveNoPar cs
  ConstructHasNoPar (Replicated r b) = BodyHasNoPar b

  pub BodyHasNoPar : Body → Type 0
  BodyHasNoPar (One kind c) = IsSequentialWord (block_word kind) × ComponentHasNoPar c

  pub HaveNoPar : {part : Part} → Components part → Type 0
  HaveNoPar NoComponent = Unit {0}
  HaveNoPar (Further cs c) = HaveNoPar cs × ComponentHasNoPar c

  pub ComponentHasNoPar : {part : Part} → Component part → Type 0
  ComponentHasNoPar (Plain p) = HasNoPar p
  ComponentHasNoPar (Chosen line e p) = HasNoPar p
  ComponentHasNoPar (Guarded line g p) = HasNoPar p

-- a procedure whose body has neither, or a constant
abbrev pub ItemHasNoPar : ProgramItem → Type 0
ItemHasNoPar (GlobalConstant c) = Unit {0}
ItemHasNoPar (GlobalProcedure p) = HasNoPar p.body

-- ---- what is called

-- An instance stands in the procedure with one number, whose name denotes there the procedure with another one.
pub record Calls (items : List ProgramItem) (caller number : ℕ) : Type 0 where
  pub standing : Standing
  pub first : ℕ
  pub line : ℕ
  pub name : List ℕ
  pub actuals : List Expression
  pub known : Known
  pub stands : Reaches items standing (AProcess first (Does line (Act (Instance name actuals)))) known
  pub in_caller : length standing.around.signatures ≡ caller
  pub denotes : meaning_in name known.entries ≡ Some (entries.Procedure number)

-- The procedures are numbered in their order, and main is the last one. It is called, and so is what a procedure
-- calls that is.
pub data IsCalled (items : List ProgramItem) : ℕ → Type 0 where
  main_is : (number : ℕ) → number + 1 ≡ length (after_items items).signatures → IsCalled items number
  called_is : (caller number : ℕ) → IsCalled items caller → Calls items caller number → IsCalled items number

-- Where a procedure is called, its body has neither a PAR nor an ALT.
abbrev pub CalledHaveNoPar : List ProgramItem → Type 0
CalledHaveNoPar items = (o : Outside) (p : Procedure) → Comes o (GlobalProcedure p) items outermost
    → IsCalled items (length o.signatures) → HasNoPar p.body

-- ---- laws

-- A program that breaks no rule has code, if what is called has neither a PAR nor an ALT.
abbrev pub CalledProceduresHaveCode : Type 0
CalledProceduresHaveCode = (items : List ProgramItem) → BreaksNoRule items → CalledHaveNoPar items
    → (c : Code) × (code_of items ≡ Some c)

-- So has one in which no procedure has either, whether it is called or not.
abbrev pub ProgramsWithoutParHaveCode : Type 0
ProgramsWithoutParHaveCode = (items : List ProgramItem) → BreaksNoRule items → AllByRecursion ItemHasNoPar items
    → (c : Code) × (code_of items ≡ Some c)
