-- Which programs have a meaning here: those whose last item is a procedure without PAR, ALT and instances.
use Rattle.std.specs.Prelude.{List, [], ◌∷◌}
use Rattle.occam_layout.specs.declared.mark.Mark.TheVariants as mark
use Rattle.occam_parser.specs.Terminals.{Terminal, Mark}
use Rattle.occam_parser.specs.Lines.{Action, Instance, block_word}
use Rattle.occam_parser.specs.Blocks.{Process, Declared, Does, Construct, Act, Block, Replicated, Body, One, Part}
use Rattle.occam_parser.specs.Blocks.{Components, NoComponent, Further, Component, Plain, Chosen, ProgramItem}
use Rattle.occam_parser.specs.Blocks.{GlobalConstant, GlobalProcedure}

abbrev pub IsSequentialAction : Action → Type 0
IsSequentialAction (Instance name actuals) = ⊥
IsSequentialAction action = Unit {0}

abbrev pub IsSequentialWord : Terminal → Type 0
IsSequentialWord (Mark mark.Seq) = Unit {0}
IsSequentialWord (Mark mark.If) = Unit {0}
IsSequentialWord word = ⊥

abbrev mutual
  pub IsSequential : Process → Type 0
  IsSequential (Declared d p) = IsSequential p
  IsSequential (Does line c) = IsSequentialConstruct c

  pub IsSequentialConstruct : Construct → Type 0
  IsSequentialConstruct (Act action) = IsSequentialAction action
  IsSequentialConstruct (Block kind cs) = IsSequentialWord (block_word kind) × AreSequential (block_word kind) cs
  IsSequentialConstruct (Replicated r b) = IsSequentialBody b

  pub IsSequentialBody : Body → Type 0
  IsSequentialBody (One kind c) = IsSequentialComponent (block_word kind) c

  -- below a block with this word
  pub AreSequential : {part : Part} → Terminal → Components part → Type 0
  AreSequential word NoComponent = Unit {0}
  AreSequential word (Further cs c) = AreSequential word cs × IsSequentialComponent word c

  -- a SEQ has processes, and an IF has choices
  pub IsSequentialComponent : {part : Part} → Terminal → Component part → Type 0
  IsSequentialComponent (Mark mark.Seq) (Plain p) = IsSequential p
  IsSequentialComponent (Mark mark.If) (Chosen line e p) = IsSequential p
  IsSequentialComponent word c = ⊥

abbrev pub IsSequentialProgram : List ProgramItem → Type 0
IsSequentialProgram [] = ⊥
IsSequentialProgram (GlobalConstant c ∷ []) = ⊥
IsSequentialProgram (GlobalProcedure p ∷ []) = IsSequential p.body
IsSequentialProgram (item ∷ next ∷ items) = IsSequentialProgram (next ∷ items)
