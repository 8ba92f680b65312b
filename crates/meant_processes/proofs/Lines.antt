-- The code of the actions that are reached behaves, where each of them has what it needs.
use Rattle.std.proofs.Common.{◌≡◌, ℕ, ◌+◌, ℤ, Bool, true, List, [], ◌∷◌, length, Some, refl, sym, subst}
use Rattle.occam_parser.specs.Lines.{Action, Assign, Input, Instance, Output, Skip, Stop}
use Rattle.occam_parser.specs.Blocks.{Act, Does}
use Rattle.occam_parser.specs.Words.{action_has_words}
use Rattle.usage_checks.specs.ItemRules.{BreaksNoRule}
use Rattle.usage_checks.specs.Reaching.{AProcess, Reaches}
use Rattle.usage_checks.proofs.PlacesHold.{places_hold}
use Rattle.code_generator.specs.Processes.{Site}
use Rattle.scalar_ranges.specs.Entries.{Entry}
use Rattle.scalar_ranges.specs.Environments.{Environment}
use Rattle.program_meaning.specs.Sequential.{IsSequentialAction}
use Rattle.program_meaning.specs.Doing.{acting}
use Rattle.code_pieces.specs.declared.operations.TheConstants.{STOP_PROCESS}
use Rattle.code_pieces.specs.Pieces.{Code, Piece, Row, operates, written}
use Rattle.line_pieces.specs.Actions.{action_code, assign_code, input_code, output_code}
use Rattle.line_pieces.specs.Declarations.{Frame, facts_in}
use Rattle.placed_code.specs.LaidCode.{LaidCode, Lie}
use Rattle.placed_code.specs.Behaves.{any, over}
use Rattle.meant_actions.proofs.Actions.{actions_behave}
use Rattle.meant_actions.proofs.Checked.{checked_actions_are_ready}
use Rattle.meant_actions.proofs.Exchanging.{roots_are_undisturbed}
use Rattle.meant_code.specs.Labels.{AreStraight}
use Rattle.meant_code.proofs.StraightLines.{assign_is, input_is, output_is}
use Rattle.meant_processes.specs.Actions.{ReachedLinesBehave}
use Rattle.meant_processes.specs.Lying.{LieApart, PiecesBehave}
use Rattle.meant_processes.specs.Places.{AllFit, CarriedAt, IsPlaced, Program, ground, standing}
use Rattle.meant_processes.proofs.Behaving.{goes_on_behind}
use Rattle.meant_processes.proofs.CodeParts.{written_is}
use Rattle.meant_processes.proofs.Housed.{arrays_housed, no_references, scalars_housed}
use Rattle.meant_processes.proofs.Ports.{reached_port}
use Rattle.meant_processes.proofs.Lying.{straight_lie, stop_lies}

-- straight code of a line lies as ever
written_lies : (c : LaidCode) (at_row : Bool) (at to : ℕ) (ps : List Piece) (label : ℕ) (code : Code) → AreStraight ps
    → written ps label ≡ Some code → LieApart c at_row at code.pieces to → Lie c at code.pieces to
written_lies c at_row at to ps label code straight is lie =
    let same = written_is ps label code is in
    subst (λ qs. Lie c at qs to) (sym same)
    (straight_lie c at_row at to ps straight (subst (λ qs. LieApart c at_row at qs to) same lie))

-- the code of an action lies as ever: no two rows are in it
action_lies : (c : LaidCode) (at_row : Bool) (at to : ℕ) (f : Frame) (es : List Entry) (label : ℕ) (action : Action)
    (code : Code) → action_code f es label action ≡ Some code → LieApart c at_row at code.pieces to
    → Lie c at code.pieces to
action_lies c at_row at to f es label Skip code is lie =
    written_lies c at_row at to [] label code tt is lie
action_lies c at_row at to f es label Stop code is lie =
    let ps = operates STOP_PROCESS ∷ Row label (facts_in f es) ∷ [] in
    let same = written_is ps (label + 1) code is in
    subst (λ qs. Lie c at qs to) (sym same)
    (stop_lies c at_row at to label (facts_in f es) (subst (λ qs. LieApart c at_row at qs to) same lie))
action_lies c at_row at to f es label (Assign target value) code is lie =
    written_lies c at_row at to (assign_code f.homes es f.top target value) label code
    (assign_is f.homes es f.top target value) is lie
action_lies c at_row at to f es label (Input channel target) code is lie =
    written_lies c at_row at to (input_code f.homes es f.top channel target) label code
    (input_is f.homes es f.top channel target) is lie
action_lies c at_row at to f es label (Output channel value) code is lie =
    written_lies c at_row at to (output_code f.homes es f.top channel value) label code
    (output_is f.homes es f.top channel value) is lie
action_lies c at_row at to f es label (Instance name actuals) code is lie = absurd (cc is)

-- an action that is no instance
action_behaves : (p : Program) → BreaksNoRule p.items → p.code.footing.depth ≡ 0
    → (first line : ℕ) (action : Action) (s : Site) (turns : ℕ → ℤ) (env : Environment) (c : Code)
    → Reaches p.items (standing p) (AProcess first (Does line (Act action))) s.known → IsPlaced p s env
    → IsSequentialAction action → action_has_words action ≡ true
    → action_code s.frame s.known.entries s.label action ≡ Some c → AllFit p c.pieces
    → PiecesBehave p.code (CarriedAt p s turns env) c.pieces (CarriedAt p s turns) (acting p.ports action env)
action_behaves p none root first line action s turns env c reached there sequential words is fit = record {
  behaves = λ at_row at to h lie inside begins.
      let es = s.known.entries in
      let g = ground p s.frame.homes turns in
      let right = places_hold p.items (standing p) (AProcess first (Does line (Act action))) s.known none reached
      in
      let ready = checked_actions_are_ready g s.frame.top es env p.ports p.around.signatures action
      begins.carries.counted
      (record {
        holds = there.holds;
        count = length p.around.signatures;
        whole = right.whole.entries;
        scalars = λ name type range means. scalars_housed s.frame.homes es name type range there.sited.housed means;
        references = λ name type range means. no_references es name type range there.sited.own means;
        arrays = λ name type size range means.
            arrays_housed s.frame.homes es name type size range there.sited.housed means;
      }) (reached_port p none first line action s turns env reached there) right.holds words sequential in
      goes_on_behind p.code
      (actions_behave p.code g s.frame at to s.label es env h p.ports action c refl
      (record {
        footing = refl;
        meets = there.holds.meets;
        carries = begins.carries;
      }) (roots_are_undisturbed g s.frame.top es root) ready is fit
      (action_lies p.code at_row at to s.frame es s.label action c is lie) inside)
      (λ e q ends. over (ends.at, record { carries = ends.carries }));
}

pub reached_lines_behave : ReachedLinesBehave
reached_lines_behave p none root first line Skip s turns env c reached there words is fit =
    action_behaves p none root first line Skip s turns env c reached there tt words is fit
reached_lines_behave p none root first line Stop s turns env c reached there words is fit =
    action_behaves p none root first line Stop s turns env c reached there tt words is fit
reached_lines_behave p none root first line (Assign target value) s turns env c reached there words is fit =
    action_behaves p none root first line (Assign target value) s turns env c reached there tt words is fit
reached_lines_behave p none root first line (Input channel target) s turns env c reached there words is fit =
    action_behaves p none root first line (Input channel target) s turns env c reached there tt words is fit
reached_lines_behave p none root first line (Output channel value) s turns env c reached there words is fit =
    action_behaves p none root first line (Output channel value) s turns env c reached there tt words is fit
reached_lines_behave p none root first line (Instance name actuals) s turns env c reached there words is
    fit =
    record { behaves = λ at_row at to h lie inside begins. any }
