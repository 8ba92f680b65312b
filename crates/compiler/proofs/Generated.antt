-- What a program becomes, by the module of its pieces.
use Rattle.std.proofs.Common.{◌≡◌, ℕ, true, List, map, Some, IfSome, inl, inr, refl, sym, subst, ap, ◌∙◌}
use Rattle.std.specs.List.{AllByRecursion}
use Rattle.module_format.specs.declared.tables.Version.TheVariants.{Two}
use Rattle.module_format.specs.Contents.{Contents}
use Rattle.module_format.proofs.FileLaws.{one_contents}
use Rattle.occam_parser.specs.declared.parsed.Program.{Program}
use Rattle.occam_parser.specs.declared.tree.Item.{Item}
use Rattle.occam_parser.specs.Blocks.{ProgramItem}
use Rattle.occam_parser.specs.BlockViews.{item_of}
use Rattle.occam_parser.specs.Words.{items_have_words}
use Rattle.usage_checks.specs.ItemRules.{BreaksNoRule}
use Rattle.code_pieces.specs.Pieces.{Piece, Code}
use Rattle.code_pieces.specs.Laying.{apart}
use Rattle.code_pieces.specs.LaidModule.{laid_module, Says}
use Rattle.code_pieces.proofs.ModuleSays.{module_says}
use Rattle.certified_code.specs.CertifiedModules.{IsCertifiedModule, Certifies}
use Rattle.code_generator.specs.Programs.{code_of}
use Rattle.code_pieces.specs.Laid.{AreTooLarge}
use Rattle.program_meaning.specs.Sequential.{IsSequentialProgram}
use Rattle.code_generator.proofs.SequentialCode.{sequential_programs_have_code}
use Rattle.code_generator.specs.TooMuch.{IsTooMuchToWrite, IsMuchCode}
use Rattle.program_work.specs.Readings.{capped}
use Rattle.program_work.specs.Programs.{names_in}
use Rattle.meant_code.specs.OwnCode.{OperandFits}
use Rattle.meant_runs.specs.Meant.{IsMeant, RunsAsMeant}
use Rattle.meant_programs.proofs.Programs.{programs_run_as_meant}
use Rattle.compiler.specs.Compiled.{IsGenerated, IsTooLarge}
use Rattle.compiler.specs.LinkLengths.{link_lengths}

-- the module of a sequential program does what it means
meant : (items : List ProgramItem) (code : Code) (bytes : List ℕ) → BreaksNoRule items
    → items_have_words items ≡ true → AllByRecursion OperandFits code.pieces → IfSome (code_of items) (λ c. code ≡ c)
    → (says : Says (apart code.pieces) code.labels (link_lengths items) bytes)
    → Certifies (laid_module (apart code.pieces) code.labels (link_lengths items) says.arrangement)
    → IsSequentialProgram items → IsMeant items bytes
meant items code bytes unbroken has_words fit is says certifies sequential m format =
    let found = sequential_programs_have_code items sequential in
    let same : code ≡ found.0 = subst (λ o. IfSome o (λ c. code ≡ c)) found.1 is in
    let laid = laid_module (apart code.pieces) code.labels (link_lengths items) says.arrangement in
    subst (λ (c : Contents). RunsAsMeant c items)
    (one_contents bytes laid m (record { version = Two; file = says.format }) format)
    (programs_run_as_meant items code (link_lengths items) bytes unbroken sequential has_words
    (found.1 ∙ ap Some (sym same)) says fit ∣ certifies.runs_well ∣₁)

generated : (items : List ProgramItem) (code : Code) (bytes : List ℕ) → BreaksNoRule items
    → items_have_words items ≡ true → AllByRecursion OperandFits code.pieces → IfSome (code_of items) (λ c. code ≡ c)
    → IsCertifiedModule code.pieces code.labels (link_lengths items) bytes → IsGenerated items bytes
generated items code bytes unbroken has_words fit is made =
    let m = made.is_module in
    let links = link_lengths items in
    let says : Says (apart code.pieces) code.labels links bytes =
    module_says (apart code.pieces) code.labels links bytes m.draft m.laid m.assembled in
    let certifies = made.certified (laid_module (apart code.pieces) code.labels links says.arrangement)
    (record { version = Two; file = says.format }) in
    record {
      is_module = record {
        contents = laid_module (apart code.pieces) code.labels links says.arrangement;
        format = says.format;
        certifies = certifies;
        lengths = refl;
      };
      is_code = λ other has. subst (λ (c : Code). Says (apart c.pieces) c.labels links bytes)
          (subst (λ o. IfSome o (λ c. code ≡ c)) has is) says;
      has_code = sequential_programs_have_code items;
      is_meant = meant items code bytes unbroken has_words fit is says certifies;
    }

-- ---- pieces and links

-- These are the pieces of the code of a program, and its links take messages of these lengths.
pub record HasPieces (items : List ProgramItem) (code : Code) (ps : List Piece) (links : List ℕ) : Type 0 where
  pub is : IfSome (code_of items) (λ c. code ≡ c)
  pub pieces : ps ≡ code.pieces
  pub lengths : links ≡ link_lengths items

-- where the program is read
pub has_pieces : {program read : Program} {shown : List Item} {code written : Code} {ps : List Piece} {links : List ℕ}
    → read ≡ program → shown ≡ read.items.items → links ≡ link_lengths (map item_of shown) → code ≡ written
    → IfSome (code_of (map item_of program.items.items)) (λ c. written ≡ c) → ps ≡ code.pieces
    → HasPieces (map item_of program.items.items) code ps links
has_pieces {program = program} same items lengths seen is pieces =
    let read = items ∙ ap (λ (p : Program). p.items.items) same in
    record {
      is = subst (λ (w : Code). IfSome (code_of (map item_of program.items.items)) (λ c. w ≡ c)) (sym seen) is;
      pieces = pieces;
      lengths = lengths ∙ ap (λ (xs : List Item). link_lengths (map item_of xs)) read;
    }

pub generated_of : (items : List ProgramItem) (code : Code) (ps : List Piece) (links bytes : List ℕ)
    → BreaksNoRule items → items_have_words items ≡ true → AllByRecursion OperandFits ps
    → HasPieces items code ps links → IsCertifiedModule ps code.labels links bytes → IsGenerated items bytes
generated_of items code ps links bytes unbroken has_words fit x made =
    generated items code bytes unbroken has_words (subst (AllByRecursion OperandFits) x.pieces fit) x.is
    (subst (λ (qs : List Piece). IsCertifiedModule qs code.labels (link_lengths items) bytes) x.pieces
    (subst (λ (ls : List ℕ). IsCertifiedModule ps code.labels ls bytes) x.lengths made))

-- ---- what is too large

-- A sequential program that is too much to write has no module.
pub too_much_of : (items : List ProgramItem) → IsSequentialProgram items → IsTooMuchToWrite items → IsTooLarge items
too_much_of items sequential much = λ few.
    let found = sequential_programs_have_code items sequential in
    (found.0, found.1, inl (subst (IsMuchCode (capped (names_in items))) found.1 (much few)))

-- One that is written, and is too large for the format, has none.
pub too_large_of : (items : List ProgramItem) (code : Code) (ps : List Piece) (links : List ℕ)
    → IsSequentialProgram items → HasPieces items code ps links → AreTooLarge (apart ps) code.labels links
    → IsTooLarge items
too_large_of items code ps links sequential x large = λ few.
    let found = sequential_programs_have_code items sequential in
    let same : code ≡ found.0 = subst (λ o. IfSome o (λ c. code ≡ c)) found.1 x.is in (
      found.0,
      found.1,
      inr (subst (λ (c : Code). AreTooLarge (apart c.pieces) c.labels (link_lengths items)) same
          (subst (λ (qs : List Piece). AreTooLarge (apart qs) code.labels (link_lengths items)) x.pieces
          (subst (λ (ls : List ℕ). AreTooLarge (apart ps) code.labels ls) x.lengths large))),
    )
