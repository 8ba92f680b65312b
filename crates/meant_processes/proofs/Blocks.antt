-- The blocks SEQ and IF.
use Rattle.std.proofs.Common.{◌≡◌, ℕ, ◌+◌, ℤ, true, [], ◌∷◌, Option, Some, refl, sym}
use Rattle.std.proofs.Common.{subst}
use Rattle.occam_layout.specs.declared.mark.Mark.TheVariants as mark
use Rattle.occam_parser.specs.Terminals.{Mark, Terminal}
use Rattle.occam_parser.specs.Lines.{block_word}
use Rattle.occam_parser.specs.Blocks.{Block, Components, Part, part_of}
use Rattle.occam_parser.specs.Words.{components_have_words}
use Rattle.scalar_ranges.specs.Environments.{Environment}
use Rattle.scalar_ranges.specs.Moves.{Known}
use Rattle.program_meaning.specs.Doing.{Doing, doing_by_word, doing_components, doing_first, or_halts}
use Rattle.program_meaning.specs.Sequential.{AreSequential, IsSequentialWord}
use Rattle.usage_checks.specs.AfterProcesses.{after_components, begun, ended}
use Rattle.usage_checks.specs.ItemRules.{BreaksNoRule}
use Rattle.usage_checks.specs.Outlines.{IsMadeOf}
use Rattle.usage_checks.specs.Reaching.{Piece, Reaches, StandsAmong, in_block, to_part}
use Rattle.usage_checks.proofs.OutlinesStay.{kind_fits}
use Rattle.code_pieces.specs.Pieces.{Code}
use Rattle.code_pieces.proofs.AllOfPieces.{all_first}
use Rattle.line_pieces.specs.Declarations.{Frame, facts_in}
use Rattle.code_generator.specs.Processes.{EndedChoices, Site, by_block, choices_code, components_code}
use Rattle.code_generator.specs.Processes.{if_code, placed_choices, row_of, with_ending, with_opening}
use Rattle.meant_processes.specs.Lying.{PiecesBehave}
use Rattle.meant_processes.specs.Places.{AllFit, CarriedAt, FitsIn, IsPlaced, Program, standing, surroundings}
use Rattle.meant_processes.specs.Premises.{ConditionsPush}
use Rattle.meant_processes.proofs.Behaving.{pieces_as}
use Rattle.meant_processes.proofs.Choices.{EndingMeans, choices_behave, ending_means, opening_means}
use Rattle.meant_processes.proofs.CodeParts.{closed_is}
use Rattle.meant_processes.proofs.Ifs.{choices_mean}
use Rattle.meant_processes.proofs.Placing.{Left}
use Rattle.meant_processes.proofs.Sequences.{ConstructBehaves, EachBehaves, components_behave, indices_here}

-- An IF in a frame, whose choices and their ending do what they mean.
pub if_behaves : (p : Program) (s : Site) (f : Frame) (after : Known) (turns : ℕ → ℤ) (env : Environment)
    (x : EndedChoices) (found : Option Doing) (c : Code) → IsPlaced p s env
    → EndingMeans p.code (FitsIn p) f env (CarriedAt p s turns env) (Left p s turns env) x.tested x.ending found
    → if_code s f after x ≡ Some c → AllFit p c.pieces
    → PiecesBehave p.code (CarriedAt p s turns env) c.pieces (Left p s turns env) (or_halts found)
if_behaves p s f after turns env x found c there mean is fit =
    let row = row_of s.label s.frame after ∷ [] in
    let d = closed_is row (choices_code s.label f x (s.label + 1)) c is in
    let fits = all_first (FitsIn p) d.first.pieces row (subst (AllFit p) d.pieces fit) in
    subst (λ ps. PiecesBehave p.code (CarriedAt p s turns env) ps (Left p s turns env) (or_halts found)) (sym d.pieces)
    (choices_behave p.code (FitsIn p) f env (CarriedAt p s turns env) (Left p s turns env)
    (λ m carries. (carries, indices_here s env there)) s.label (s.label + 1) (facts_in s.frame after.entries) x found
    d.first mean d.is fits)

module _ (p : Program) (none : BreaksNoRule p.items) (conditions : ConditionsPush p) where
  -- a block, by its word
  block_by : {part : Part} (word : Terminal) (cs : Components part) (s : Site) (turns : ℕ → ℤ)
      (env : Environment) (c : Code) → IsMadeOf word part → IsSequentialWord word → AreSequential word cs
      → components_have_words cs ≡ true → EachBehaves p cs
      → ((piece : Piece) (m : Known) → StandsAmong p.around word cs (begun word s.known) piece m
      → Reaches p.items (in_block word s.known (standing p)) piece m)
      → IsPlaced p s env
      → by_block word (components_code (surroundings p) cs s)
      (if_code s s.frame (ended word (after_components p.around word cs (begun word s.known)))
      (with_opening (with_ending (placed_choices (surroundings p) cs (begun word s.known))))) ≡ Some c
      → AllFit p c.pieces
      → PiecesBehave p.code (CarriedAt p s turns env) c.pieces (Left p s turns env)
      (doing_by_word word (doing_components p.ports cs env) (doing_first p.ports cs env))
  block_by (Mark mark.Seq) cs s turns env c made ok sequential words each reach there is fit =
      pieces_as p.code (λ m carries. carries) (λ e m left. left.0)
      (components_behave p none cs s turns env c reach each made sequential words there is fit)
  block_by (Mark mark.If) cs s turns env c made ok sequential words each reach there is fit =
      let choices = placed_choices (surroundings p) cs (begun (Mark mark.If) s.known) in
      let found = doing_first p.ports cs env in
      let mean = choices_mean p none conditions cs s turns env reach each made sequential words there in
      let ending = with_ending choices in
      if_behaves p s s.frame (ended (Mark mark.If) (after_components p.around (Mark mark.If) cs
      (begun (Mark mark.If) s.known))) turns env (with_opening ending) found c there
      (opening_means p.code (FitsIn p) s.frame env (CarriedAt p s turns env) (Left p s turns env) ending.tested
      ending.ending found
      (ending_means p.code (FitsIn p) s.frame env (CarriedAt p s turns env) (Left p s turns env) choices found mean.0))
      is fit
  block_by word cs s turns env c made ok sequential words each reach there is fit = absurd ok

  pub block_behaves : (kind : _) (cs : Components (part_of kind)) → EachBehaves p cs
      → ConstructBehaves p (Block kind cs)
  block_behaves kind cs each = record {
    behaves = λ first line s turns env c reached sequential words there is fit.
        let word = block_word kind in
        let t = standing p in
        let u = in_block word s.known t in
        block_by word cs s turns env c (kind_fits kind) sequential.0 sequential.1 words each
        (λ piece m among. to_part t u first line (Block kind cs) piece s.known m reached (refl, among)) there is fit;
  }
