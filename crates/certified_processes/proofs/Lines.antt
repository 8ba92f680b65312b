-- The code of an action that is reached passes.
use Rattle.std.proofs.Common.{◌≡◌, ℕ, ◌+◌, ◌<◌, true, List, [], ◌∷◌, ◌++◌, Some, inl, inr, sym, ap, subst, arith}
use Rattle.std.proofs.lemmas.Bool.{cases_lt}
use Rattle.module_format.specs.declared.limits.TheConstants.{MAX_DATA_WORDS}
use Rattle.occam_parser.specs.Lines.{Action, Assign, Input, Instance, Output, Skip, Stop}
use Rattle.occam_parser.specs.Blocks.{Act, Does}
use Rattle.occam_parser.specs.Words.{action_has_words}
use Rattle.scalar_ranges.specs.Entries.{Entry}
use Rattle.program_meaning.specs.Sequential.{IsSequentialAction}
use Rattle.program_meaning.proofs.MovesWithin.{within_shape}
use Rattle.usage_checks.specs.Following.{after_action}
use Rattle.usage_checks.specs.Reaching.{AProcess, Reaches}
use Rattle.usage_checks.specs.TypedRanges.{AreInTypes}
use Rattle.usage_checks.proofs.PlacesHold.{places_hold}
use Rattle.usage_checks.proofs.RangesStay.{action_within, covers_itself}
use Rattle.usage_checks.proofs.RangesTyped.{ranges_are_typed}
use Rattle.usage_checks.proofs.TypedMoves.{action_typed}
use Rattle.code_pieces.specs.declared.operations.TheConstants.{STOP_PROCESS}
use Rattle.code_pieces.specs.declared.piece.RowEntry.{RowEntry}
use Rattle.code_pieces.specs.Pieces.{counted, Code, Piece, Row, operates}
use Rattle.line_pieces.specs.Actions.{action_code}
use Rattle.line_pieces.specs.Declarations.{facts_in}
use Rattle.line_pieces.specs.Homes.{facts_of}
use Rattle.code_generator.specs.Processes.{Site, line_code}
use Rattle.certified_lines.specs.Scopes.{HoldsScope, IsScope}
use Rattle.certified_lines.specs.StraightRules.{Told}
use Rattle.certified_actions.specs.Actions.{GoesOn}
use Rattle.certified_actions.proofs.Actions.{actions_fall}
use Rattle.certified_actions.proofs.Checked.{checked_actions_are_ready}
use Rattle.certified_actions.proofs.Exchanging.{roots_are_undisturbed}
use Rattle.certified_modules.specs.Passing.{OpenLabel, PassOn, none, straight, told_by}
use Rattle.certified_modules.proofs.Shapes.{stops_pass}
use Rattle.certified_scopes.specs.Settled.{IsSettled}
use Rattle.certified_scopes.proofs.Indices.{indices_stay}
use Rattle.certified_scopes.proofs.Settled.{moved_scopes_are_settled}
use Rattle.meant_processes.specs.Places.{AllFit, standing, surroundings}
use Rattle.meant_processes.proofs.CodeParts.{written_is}
use Rattle.certified_processes.specs.Places.{Coded, IsInRoot, bare_scene, scene}
use Rattle.certified_processes.proofs.Elsewhere.{IsOutside, action_elsewhere}
use Rattle.certified_processes.proofs.There.{IsThere, free_from}
use Rattle.certified_processes.specs.ProcessesPass.{PassesTo}
use Rattle.certified_processes.proofs.Allowed.{allowed}
use Rattle.certified_processes.proofs.Ordered.{scope_ordered}
use Rattle.certified_processes.proofs.Rows.{rows_tell_scopes}
use Rattle.certified_processes.proofs.Variables.{reached_port, variables_there}
use Rattle.certified_processes.proofs.Wider.{scope_wider}

-- what a row says at a site, where nothing is outside
pub row_entries : (p : Coded) (s : Site) (es : List Entry) → IsThere p s
    → facts_in s.frame es ≡ facts_of s.frame.homes es
row_entries p s es placed = ap (λ (fs : List RowEntry). fs ++ facts_of s.frame.homes es) placed.outer

-- what a row tells is what its scope says
pub row_tells : (p : Coded) (s : Site) (es : List Entry) → IsThere p s → IsSettled (bare_scene p) s.frame es
    → HoldsScope (scene p s) es (told_by p.passage (facts_in s.frame es)).frame
row_tells p s es placed settled =
    subst (λ (fs : List RowEntry). HoldsScope (scene p s) es (told_by p.passage fs).frame)
    (sym (row_entries p s es placed))
    (rows_tell_scopes (scene p s) es settled.end (let long = settled.long in omega (arith, long)) settled.turn)

module _ (p : Coded) (root : IsInRoot p) where
  -- the same scope as before
  pub same_scope : (s : Site) (opened : List OpenLabel) (before after : Told) (ps : List Piece)
      → PassOn p.passage opened (Some before) ps (Some after) → IsThere p s → AreInTypes s.known.entries
      → HoldsScope (scene p s) s.known.entries after.frame → PassesTo p s.frame s.known.entries opened ps before
  same_scope s opened before after ps passes placed typed holds = record {
    after = after;
    passes = passes;
    holds = holds;
    settled = placed.settled;
    typed = typed;
  }

  module _ (first line : ℕ) (s : Site) (opened : List OpenLabel) (before : Told) (c : Code) (placed : IsThere p s)
      (fit : AllFit p.program c.pieces) (holds : HoldsScope (scene p s) s.known.entries before.frame) where
    -- an action whose code goes on, where it is the same if the words from this one on are free
    straight_from : (top : ℕ) (action : Action) → IsScope (scene p s) top s.known.entries
        → Reaches p.program.items (standing p.program) (AProcess first (Does line (Act action))) s.known
        → action_has_words action ≡ true → GoesOn action
        → action_code (free_from top s.frame) s.known.entries s.label action ≡ Some c
        → PassesTo p s.frame (after_action p.program.around.signatures action s.known.entries) opened c.pieces before
    straight_from top action scope reached words goes is =
        let es = s.known.entries in
        let g = scene p s in
        let signatures = p.program.around.signatures in
        let place = AProcess first (Does line (Act action)) in
        let right = places_hold p.program.items (standing p.program) place s.known root.unbroken reached in
        let typed = ranges_are_typed p.program.items (standing p.program) place s.known root.unbroken root.literals
        reached in
        let ready = checked_actions_are_ready g top es signatures action scope
        (variables_there p root s placed first line action reached)
        (reached_port p root s placed first line action reached) right.holds words in
        let fall = actions_fall g (free_from top s.frame) s.label es signatures action c before scope
        (roots_are_undisturbed g top es root.root root.schedules) goes ready is
        (allowed p root s.frame.homes c.pieces fit) holds in
        let typed_after = action_typed signatures es action words right.holds typed in
        record {
          after = fall.after;
          passes = straight fall.falls;
          holds = fall.holds;
          settled = moved_scopes_are_settled (bare_scene p) s.frame (after_action signatures action es) es
              (within_shape _ (after_action signatures action es) es
              (action_within _ signatures es action (covers_itself _)))
              (indices_stay.acting signatures action es) typed_after
              (scope_ordered g top (after_action signatures action es) fall.scope) placed.settled;
          typed = typed_after;
        }

    -- behind all frames
    far_outside : MAX_DATA_WORDS < s.frame.top → IsOutside p root.few s.frame.top
    unfolding counted
    far_outside far = let free = placed.free in let few = root.few in omega (arith, far, free, few)

    -- so is that of an action that stores nothing behind the frame
    straight_passes : (action : Action)
        → Reaches p.program.items (standing p.program) (AProcess first (Does line (Act action))) s.known
        → action_has_words action ≡ true → GoesOn action
        → action_code s.frame s.known.entries s.label action ≡ Some c
        → PassesTo p s.frame (after_action p.program.around.signatures action s.known.entries) opened c.pieces before
    straight_passes action reached words goes is = elim (cases_lt MAX_DATA_WORDS s.frame.top) [
      | inl far ↦
          straight_from placed.inner.end action placed.inner.scope reached words goes
          (action_elsewhere p root.few s.frame placed.inner.end s.known.entries s.label action c
          (far_outside far) goes is
          fit)
      | inr near ↦
          straight_from s.frame.top action
          (scope_wider (scene p s) placed.settled.end s.frame.top s.known.entries
          placed.settled.scope placed.settled.under
          near) reached words goes is
    ]

    -- The code of an action that is reached passes.
    pub action_passes : (action : Action)
        → Reaches p.program.items (standing p.program) (AProcess first (Does line (Act action))) s.known
        → action_has_words action ≡ true → IsSequentialAction action
        → line_code (surroundings p.program) action s ≡ Some c
        → PassesTo p s.frame (after_action p.program.around.signatures action s.known.entries) opened c.pieces before
    action_passes Skip reached words sequential is =
        let typed = ranges_are_typed p.program.items (standing p.program) (AProcess first (Does line (Act Skip)))
        s.known
        root.unbroken root.literals reached in
        subst (λ (ps : List Piece). PassesTo p s.frame s.known.entries opened ps before)
        (sym (written_is [] s.label c is)) (same_scope s opened before before [] none placed typed holds)
    action_passes Stop reached words sequential is =
        let es = s.known.entries in
        let typed = ranges_are_typed p.program.items (standing p.program) (AProcess first (Does line (Act Stop)))
        s.known
        root.unbroken root.literals reached in
        let ps = operates STOP_PROCESS ∷ Row s.label (facts_in s.frame es) ∷ [] in
        subst (λ (qs : List Piece). PassesTo p s.frame es opened qs before) (sym (written_is ps (s.label + 1) c is))
        (same_scope s opened before (told_by p.passage (facts_in s.frame es)) ps
        (stops_pass p.passage opened before s.label (facts_in s.frame es)) placed typed
        (row_tells p s es placed placed.settled))
    action_passes (Assign target value) reached words sequential is =
        straight_passes (Assign target value) reached words tt is
    action_passes (Input channel target) reached words sequential is =
        straight_passes (Input channel target) reached words tt is
    action_passes (Output channel value) reached words sequential is =
        straight_passes (Output channel value) reached words tt is
    action_passes (Instance name actuals) reached words sequential is = absurd sequential
