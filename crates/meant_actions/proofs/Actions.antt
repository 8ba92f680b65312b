-- What the code of any action does.
use Rattle.std.proofs.Common.{◌≡◌, ℕ, List, [], Some, sym, subst}
use Rattle.occam_parser.specs.Lines.{Skip, Stop, Assign, Input, Output, Instance}
use Rattle.code_pieces.specs.Pieces.{Piece, Code, written}
use Rattle.line_pieces.specs.Homes.{Home}
use Rattle.line_pieces.specs.Declarations.{facts_in}
use Rattle.line_pieces.specs.Actions.{assign_code, input_code, output_code}
use Rattle.placed_code.specs.LaidCode.{LaidCode, Lie}
use Rattle.meant_lines.specs.Carrying.{Ground}
use Rattle.meant_actions.specs.Acting.{AreWithin}
use Rattle.meant_actions.specs.Actions.{ActionsBehave}
use Rattle.meant_actions.proofs.Acting.{skips_behave, stops_behave}
use Rattle.meant_actions.proofs.Assigning.{assignments_behave}
use Rattle.meant_actions.proofs.Receiving.{inputs_behave}
use Rattle.meant_actions.proofs.Sending.{outputs_behave}

same_code : (a b : Code) → Some a ≡ Some b → a ≡ b
same_code a b is = cc

-- the code of an action is this one
lies_as : (c : LaidCode) (at to : ℕ) (a b : Code) → Some a ≡ Some b → Lie c at b.pieces to → Lie c at a.pieces to
lies_as c at to a b is lie = subst (λ (k : Code). Lie c at k.pieces to) (sym (same_code a b is)) lie

within_as : (g : Ground) (a b : Code) → Some a ≡ Some b → AreWithin g b.pieces → AreWithin g a.pieces
within_as g a b is all = subst (λ (k : Code). AreWithin g k.pieces) (sym (same_code a b is)) all

-- What holds by the homes of the ground, whose pieces are within it and lie in the code, holds by those of the frame.
by_homes : {A : Type 0} (c : LaidCode) (g : Ground) (at to label : ℕ) (hs : List Home) (ps : List Home → List Piece)
    (code : Code) → hs ≡ g.homes → written (ps hs) label ≡ Some code
    → AreWithin g code.pieces → Lie c at code.pieces to
    → (AreWithin g (ps g.homes) → Lie c at (ps g.homes) to → A) → A
by_homes c g at to label hs ps code homes is all lie goes =
    let a : Code = record { pieces = ps hs; labels = label } in
    goes (subst (λ (x : List Home). AreWithin g (ps x)) homes (within_as g a code is all))
    (subst (λ (x : List Home). Lie c at (ps x) to) homes (lies_as c at to a code is lie))

pub actions_behave : ActionsBehave
actions_behave c g f at to label es env h ports Skip code homes begins undisturbed ready is all lie inside =
    skips_behave c g f.top at to es env h ports begins
    (lies_as c at to (record { pieces = []; labels = label }) code is lie)
actions_behave c g f at to label es env h ports Stop code homes begins undisturbed ready is all lie inside =
    stops_behave c g f.top at to label es env h ports (facts_in f es) (lies_as c at to _ code is lie) inside
actions_behave c g f at to label es env h ports (Assign target value) code homes begins undisturbed ready is all lie
    inside =
    by_homes c g at to label f.homes (λ hs. assign_code hs es f.top target value) code homes is all lie
    (assignments_behave c g f.top at to es env h ports target value begins ready)
actions_behave c g f at to label es env h ports (Input channel target) code homes begins undisturbed ready is all lie
    inside =
    by_homes c g at to label f.homes (λ hs. input_code hs es f.top channel target) code homes is all lie
    (inputs_behave c g f.top at to es env h ports channel target begins undisturbed ready)
actions_behave c g f at to label es env h ports (Output channel value) code homes begins undisturbed ready is all lie
    inside =
    by_homes c g at to label f.homes (λ hs. output_code hs es f.top channel value) code homes is all lie
    (outputs_behave c g f.top at to es env h ports channel value begins undisturbed ready)
actions_behave c g f at to label es env h ports (Instance name actuals) code homes begins undisturbed ready is all lie
    inside = absurd ready
