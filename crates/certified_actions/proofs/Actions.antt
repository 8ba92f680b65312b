-- What the code of any action leaves known.
use Rattle.std.proofs.Common.{◌≡◌, ℕ, List, [], Some, sym, subst}
use Rattle.occam_parser.specs.Lines.{Skip, Stop, Assign, Input, Output, Instance}
use Rattle.scalar_ranges.specs.Entries.{Entry}
use Rattle.code_pieces.specs.Pieces.{Code, Piece}
use Rattle.line_pieces.specs.Actions.{assign_code, input_code, output_code}
use Rattle.usage_checks.specs.Following.{after_assignment, after_input}
use Rattle.certified_lines.specs.StraightRules.{Told, done}
use Rattle.certified_lines.specs.Scopes.{Scene}
use Rattle.certified_lines.specs.Telling.{AreAllowed}
use Rattle.certified_actions.specs.Actions.{ActionsFall}
use Rattle.certified_actions.specs.Keeping.{FallsTo}
use Rattle.certified_actions.proofs.Assigning.{assignments_fall}
use Rattle.certified_actions.proofs.Receiving.{inputs_fall}
use Rattle.certified_actions.proofs.Sending.{outputs_fall}

same_code : (a b : Code) → Some a ≡ Some b → a ≡ b
same_code a b is = cc

-- the code of an action is this one
falls_as : (g : Scene) (top : ℕ) (es : List Entry) (before : Told) (ps : List Piece) (label : ℕ) (code : Code)
    → Some (record { pieces = ps; labels = label }) ≡ Some code → (AreAllowed g ps → FallsTo g top es ps before)
    → AreAllowed g code.pieces → FallsTo g top es code.pieces before
falls_as g top es before ps label code is falls all =
    let same = same_code (record { pieces = ps; labels = label }) code is in
    subst (λ (c : Code). FallsTo g top es c.pieces before) same
    (falls (subst (λ (c : Code). AreAllowed g c.pieces) (sym same) all))

pub actions_fall : ActionsFall
actions_fall g f label es signatures Skip code before scope undisturbed goes ready is all holds =
    falls_as (record g { homes = f.homes }) f.top es before [] label code is
    (λ here. record { after = before; falls = done; holds = holds; scope = scope }) all
actions_fall g f label es signatures Stop code before scope undisturbed goes ready is all holds = absurd goes
actions_fall g f label es signatures (Assign target value) code before scope undisturbed goes ready is all holds =
    let inner : Scene = record g { homes = f.homes } in
    falls_as inner f.top (after_assignment target value es) before
    (assign_code f.homes es f.top target value) label code is
    (λ here. assignments_fall inner f.top es target value before scope ready here holds) all
actions_fall g f label es signatures (Input channel target) code before scope undisturbed goes ready is all holds =
    let inner : Scene = record g { homes = f.homes } in
    falls_as inner f.top (after_input target es) before (input_code f.homes es f.top channel target) label code is
    (λ here. inputs_fall inner f.top es channel target before scope undisturbed ready here holds) all
actions_fall g f label es signatures (Output channel value) code before scope undisturbed goes ready is all holds =
    let inner : Scene = record g { homes = f.homes } in
    falls_as inner f.top es before (output_code f.homes es f.top channel value) label code is
    (λ here. outputs_fall inner f.top es channel value before scope undisturbed ready here holds) all
actions_fall g f label es signatures (Instance name actuals) code before scope undisturbed goes ready is all holds =
    absurd goes
