-- The module of a sequential program's pieces is certified.
use Rattle.std.specs.Prelude.{◌≡◌, ◌-◌, ⊤, true, ℕ, List, length, Option, Some, None, get_or, slice_get}
use Rattle.std.specs.List.{AllByRecursion}
use Rattle.occam_parser.specs.Lines.{Formal}
use Rattle.occam_parser.specs.Blocks.{Procedure, ProgramItem, GlobalProcedure}
use Rattle.occam_parser.specs.Words.{items_have_words}
use Rattle.program_meaning.specs.Links.{Port, message_length}
use Rattle.program_meaning.specs.Meaning.{port_for}
use Rattle.program_meaning.specs.Sequential.{IsSequentialProgram}
use Rattle.usage_checks.specs.ItemRules.{BreaksNoRule}
use Rattle.module_format.specs.Contents.{Contents}
use Rattle.states.specs.declared.rule.Rule.{Rule}
use Rattle.certified_worlds.specs.Certified.{IsCertified, IsRefused}
use Rattle.code_pieces.specs.Pieces.{Code}
use Rattle.code_pieces.specs.Laying.{apart}
use Rattle.code_pieces.specs.LaidModule.{Says, laid_module}
use Rattle.code_generator.specs.Programs.{code_of, link_of}
use Rattle.meant_code.specs.OwnCode.{OperandFits}

-- a link has messages of the length of what its port carries
abbrev pub HasLength : List ℕ → Option Port → Type 0
HasLength lengths None = ⊤
HasLength lengths (Some port) = get_or lengths (link_of port) 0 ≡ message_length port.carries

-- this holds of main, which is the last item
abbrev pub OfMain : (Procedure → Type 0) → List ProgramItem → Type 0
OfMain P items = (main : Procedure) → slice_get items (length items - 1) ≡ Some (GlobalProcedure main) → P main

-- each of its links has messages of the length of what it carries
abbrev pub LinksHaveLengths : List ℕ → List ProgramItem → Type 0
LinksHaveLengths lengths items =
    OfMain (λ main. AllByRecursion (λ (f : Formal). HasLength lengths (port_for f)) main.head.formals) items

-- This holds of the module that says the code of each sequential program that breaks no rule, if the operands of its
-- pieces are words and links have the lengths of what they carry.
abbrev pub OfModules : (Contents → Type 0) → Type 0
OfModules P = (items : List ProgramItem) (code : Code) (links bytes : List ℕ) → BreaksNoRule items
    → IsSequentialProgram items → items_have_words items ≡ true → code_of items ≡ Some code
    → AllByRecursion OperandFits code.pieces → LinksHaveLengths links items
    → (says : Says (apart code.pieces) code.labels links bytes)
    → P (laid_module (apart code.pieces) code.labels links says.arrangement)

abbrev pub ProgramsAreCertified : Type 0
ProgramsAreCertified = OfModules IsCertified

-- So the verifier refuses none of them.
abbrev pub ProgramsAreNotRefused : Type 0
ProgramsAreNotRefused = OfModules (λ m. (rule : Rule) (at : ℕ) → IsRefused m rule at → ⊥)
