-- The blocks SEQ and IF.
use Rattle.std.proofs.Common.{◌≡◌, true, List, Some, refl, ap}
use Rattle.std.specs.Prelude.{unwrap_or}
use Rattle.occam_layout.specs.declared.mark.Mark.TheVariants as mark
use Rattle.occam_parser.specs.Terminals.{Mark, Terminal}
use Rattle.occam_parser.specs.Lines.{block_word}
use Rattle.occam_parser.specs.Blocks.{Block, Components, Does, Part, part_of}
use Rattle.occam_parser.specs.Words.{components_have_words}
use Rattle.scalar_ranges.specs.Moves.{Known, end}
use Rattle.program_meaning.specs.Sequential.{AreSequential, IsSequentialWord}
use Rattle.usage_checks.specs.AfterProcesses.{after_components, begun, ended}
use Rattle.usage_checks.specs.Outlines.{IsMadeOf}
use Rattle.usage_checks.specs.Reaching.{AProcess, Piece, Reaches, StandsAmong, in_block, to_part}
use Rattle.usage_checks.specs.TypedRanges.{AreInTypes}
use Rattle.usage_checks.proofs.OutlinesStay.{kind_fits}
use Rattle.usage_checks.proofs.RangesTyped.{ranges_are_typed}
use Rattle.code_pieces.specs.Pieces.{Code}
use Rattle.code_generator.specs.Processes.{Site, by_block, components_code, if_code, placed_choices, with_ending}
use Rattle.code_generator.specs.Processes.{with_opening}
use Rattle.certified_lines.specs.Scopes.{HoldsScope}
use Rattle.certified_lines.specs.StraightRules.{Told}
use Rattle.certified_modules.specs.Passing.{OpenLabel}
use Rattle.meant_processes.specs.Places.{AllFit, standing, surroundings}
use Rattle.certified_processes.specs.Places.{Coded, IsInRoot, scene}
use Rattle.certified_processes.proofs.There.{IsThere}
use Rattle.certified_processes.specs.ProcessesPass.{PassesTo}
use Rattle.certified_processes.proofs.Choices.{ending_goes, if_passes, opening_goes}
use Rattle.certified_processes.proofs.There.{IsSound}
use Rattle.certified_processes.proofs.Ifs.{choices_go, rows_here}
use Rattle.certified_processes.proofs.Sequences.{ConstructGoes, EachGoes, components_pass}

-- what is known at a site is sound
pub sound_there : (p : Coded) (s : Site) → IsThere p s → AreInTypes s.known.entries → IsSound p s s.known.entries
sound_there p s placed typed =
    record { settled = placed.settled; typed = typed; alike = refl; indices = refl }

module _ (p : Coded) (root : IsInRoot p) where
  -- a block, by its word
  block_by : {part : Part} (word : Terminal) (cs : Components part) (s : Site) (opened : List OpenLabel)
      (before : Told) (c : Code) → IsMadeOf word part → IsSequentialWord word → AreSequential word cs
      → components_have_words cs ≡ true → EachGoes p cs
      → ((piece : Piece) (m : Known) → StandsAmong p.program.around word cs (begun word s.known) piece m
      → Reaches p.program.items (in_block word s.known (standing p.program)) piece m)
      → IsThere p s → AreInTypes s.known.entries
      → by_block word (components_code (surroundings p.program) cs s)
      (if_code s s.frame (ended word (after_components p.program.around word cs (begun word s.known)))
      (with_opening (with_ending (placed_choices (surroundings p.program) cs (begun word s.known))))) ≡ Some c
      → AllFit p.program c.pieces → HoldsScope (scene p s) s.known.entries before.frame
      → PassesTo p s.frame (ended word (after_components p.program.around word cs (begun word s.known))).entries opened
      c.pieces before
  block_by (Mark mark.Seq) cs s opened before c made ok sequential words each reach placed typed is fit holds =
      components_pass p root cs s opened before c reach each made sequential words placed typed is fit holds
  block_by (Mark mark.If) cs s opened before c made ok sequential words each reach placed typed is fit holds =
      let m = after_components p.program.around (Mark mark.If) cs (begun (Mark mark.If) s.known) in
      let choices = placed_choices (surroundings p.program) cs (begun (Mark mark.If) s.known) in
      let sound = sound_there p s placed typed in
      let h = choices_go p root s placed cs reach each made sequential words sound in
      let same : (end m).entries ≡ unwrap_or h.1 h.0 = ap (λ (z : Known). (end z).entries) h.2.is in
      let ending = with_ending choices in
      if_passes p s placed s.frame (rows_here p root s placed) (end m) (with_opening ending) opened before c sound
      (opening_goes p s placed s.frame (rows_here p root s placed) s.known.entries ending.tested ending.ending
      (end m).entries
      (ending_goes p s placed s.frame (rows_here p root s placed) s.known.entries choices h.0 h.1 (end m).entries h.3
      same)) is fit holds
  block_by word cs s opened before c made ok sequential words each reach placed typed is fit holds = absurd ok

  -- The code of a block passes.
  pub block_passes : (kind : _) (cs : Components (part_of kind)) → EachGoes p cs → ConstructGoes p (Block kind cs)
  block_passes kind cs each = record {
    passes = λ first line s opened before c reached sequential words placed is fit holds.
        let word = block_word kind in
        let t = standing p.program in
        let u = in_block word s.known t in
        let typed = ranges_are_typed p.program.items t (AProcess first (Does line (Block kind cs))) s.known
        root.unbroken
        root.literals reached in
        block_by word cs s opened before c (kind_fits kind) sequential.0 sequential.1 words each
        (λ piece m among. to_part t u first line (Block kind cs) piece s.known m reached (refl, among)) placed typed is
        fit holds;
  }
