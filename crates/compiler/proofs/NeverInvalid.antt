-- No module of a sequential program is uncertified: its pieces are not invalid, and its module is not refused.
use Rattle.std.proofs.Common.{◌≡◌, ℕ, true, List, Some, IfSome, inl, inr, sym, subst, ap, ◌∙◌}
use Rattle.std.specs.List.{AllByRecursion}
use Rattle.module_format.specs.declared.tables.Version.TheVariants.{Two}
use Rattle.occam_parser.specs.Blocks.{ProgramItem}
use Rattle.occam_parser.specs.Words.{items_have_words}
use Rattle.program_meaning.specs.Sequential.{IsSequentialProgram}
use Rattle.usage_checks.specs.ItemRules.{BreaksNoRule}
use Rattle.code_pieces.specs.Pieces.{Piece, Code}
use Rattle.code_pieces.specs.Laying.{apart}
use Rattle.code_pieces.specs.LaidModule.{laid_module, Says}
use Rattle.code_pieces.proofs.ModuleSays.{module_says}
use Rattle.code_generator.specs.Programs.{code_of}
use Rattle.code_generator.proofs.SequentialCode.{sequential_programs_have_code}
use Rattle.meant_code.specs.OwnCode.{OperandFits}
use Rattle.valid_code.specs.ValidPrograms.{SaysTables}
use Rattle.valid_code.proofs.Refused.{programs_are_made}
use Rattle.certified_code.specs.CertifiedModules.{IsRefusedModule, IsUncertified}
use Rattle.certified_programs.proofs.Programs.{programs_are_not_refused}
use Rattle.compiler.specs.LinkLengths.{link_lengths}
use Rattle.compiler.proofs.Generated.{HasPieces}
use Rattle.compiler.proofs.LinksFit.{links_are_eight, links_fit}

-- the verifier refuses none
never_refused : (items : List ProgramItem) (code : Code) → BreaksNoRule items → IsSequentialProgram items
    → items_have_words items ≡ true → AllByRecursion OperandFits code.pieces → code_of items ≡ Some code
    → IsRefusedModule code.pieces code.labels (link_lengths items) → ⊥
never_refused items code unbroken sequential has_words fit is refused =
    let ps = apart code.pieces in
    let links = link_lengths items in
    let m = refused.is_module in
    let says : Says ps code.labels links refused.bytes =
    module_says ps code.labels links refused.bytes m.draft m.laid m.assembled in
    let broken = refused.refused (laid_module ps code.labels links says.arrangement)
    (record { version = Two; file = says.format }) in
    programs_are_not_refused items code links refused.bytes unbroken sequential has_words is fit
    (links_fit items unbroken) says broken.rule broken.at broken.refused

never : (items : List ProgramItem) (code : Code) → BreaksNoRule items → IsSequentialProgram items
    → items_have_words items ≡ true → AllByRecursion OperandFits code.pieces → AllByRecursion SaysTables code.pieces
    → code_of items ≡ Some code → IsUncertified code.pieces code.labels (link_lengths items) → ⊥
never items code unbroken sequential has_words fit tables is (inl invalid) =
    programs_are_made items code (link_lengths items) sequential unbroken has_words is tables (links_are_eight items)
    invalid
never items code unbroken sequential has_words fit tables is (inr refused) =
    never_refused items code unbroken sequential has_words fit is refused

-- the same of these pieces and links
pub never_invalid : (items : List ProgramItem) (code : Code) (ps : List Piece) (links : List ℕ) → BreaksNoRule items
    → items_have_words items ≡ true → AllByRecursion OperandFits ps → AllByRecursion SaysTables ps
    → HasPieces items code ps links → IsSequentialProgram items → IsUncertified ps code.labels links → ⊥
never_invalid items code ps links unbroken has_words fit tables x sequential uncertified =
    let found = sequential_programs_have_code items sequential in
    let same : code ≡ found.0 = subst (λ o. IfSome o (λ c. code ≡ c)) found.1 x.is in
    never items code unbroken sequential has_words (subst (AllByRecursion OperandFits) x.pieces fit)
    (subst (AllByRecursion SaysTables) x.pieces tables) (found.1 ∙ ap Some (sym same))
    (subst (λ (qs : List Piece). IsUncertified qs code.labels (link_lengths items)) x.pieces
    (subst (λ (ls : List ℕ). IsUncertified ps code.labels ls) x.lengths uncertified))
