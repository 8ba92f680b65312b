-- If a part of a loop is too much, so is the loop; and so it is with a choice under a replicator.
use Rattle.std.proofs.Common.{◌≡◌, ℕ, ◌+◌, List, [], ◌∷◌, Option, sym}
use Rattle.std.proofs.Common.{ap, subst, ◌∙◌}
use Rattle.occam_parser.specs.Lines.{Replicator}
use Rattle.occam_parser.specs.Blocks.{Process, Construct, Plain, Choices, Component}
use Rattle.occam_parser.specs.Constructs.{repeated_seq as under_seq}
use Rattle.scalar_ranges.specs.declared.scope.Scope as code_scope
use Rattle.scalar_ranges.specs.Moves.{Known}
use Rattle.scalar_ranges.specs.Scopes.{known_of}
use Rattle.program_uses.specs.Changes.{changed_by_construct}
use Rattle.program_uses.specs.Indices.{Repeats}
use Rattle.usage_checks.specs.AfterProcesses.{after_construct}
use Rattle.code_pieces.specs.Pieces.{Piece, Code, closed_by}
use Rattle.line_pieces.specs.declared.frame.Frame as code_frame
use Rattle.line_pieces.specs.Declarations.{Frame}
use Rattle.line_pieces.specs.FrameViews.{frame_seen}
use Rattle.code_generator.specs.declared.calling.Surroundings as calling
use Rattle.code_generator.specs.declared.limits.Limits.{Limits}
use Rattle.code_generator.specs.declared.loops.Turning.{Turning}
use Rattle.code_generator.specs.declared.processes.ProcessWriter.{ProcessWriter}
use Rattle.code_generator.specs.CallViews.{surroundings_of}
use Rattle.code_generator.specs.Processes.{Site, Surroundings, row_of, loop_end}
use Rattle.code_generator.specs.Processes.{times, under_if, process_code}
use Rattle.code_generator.specs.Processes.{construct_code, component_code}
use Rattle.code_generator.specs.Written.{site_of, IsTooMuch, Exceeds, after_loop, in_turning, entering_code}
use Rattle.code_generator.specs.Written.{leaving_code, EntersLoop, turning_code, looped_code, turns_at}
use Rattle.code_generator.proofs.Exceeding.{exceeds_before, exceeds_more, exceeds_closed, exceeds_behind}
use Rattle.code_generator.proofs.LoopsWritten.{loop_code_is, BodyLeft, IsTurning, turning_is}
use Rattle.code_generator.proofs.TurnsWritten.{repeated_turns, repeated_if_is, TurnsBegin, TurnsLeft}

-- ---- a loop with turns

pub exceeds_entering : (l : Limits) (s : ProcessWriter) (here : Surroundings) (p : Process) (t : Turning)
    (changed : List ℕ) → IsTooMuch l s.listing (entering_code t changed (site_of s))
    → Exceeds l s.listing (turning_code here t changed p (site_of s))
exceeds_entering l s here p t changed h =
    let z = site_of s in
    let inner = in_turning z t changed in
    exceeds_more l (closed_by (loop_end z.frame.top z.label
    (row_of (z.label + 1) z.frame (after_loop changed z.known))) (process_code here p inner)) s.listing
    (entering_code t changed z) h

pub exceeds_body : (l : Limits) (around : calling.Surroundings) (p : Process) (t : Turning) (changed : List ℕ)
    {s u : ProcessWriter} → EntersLoop s u t changed
    → Exceeds l u.listing (component_code (surroundings_of around) (Plain p) (site_of u))
    → Exceeds l s.listing (turning_code (surroundings_of around) t changed p (site_of s))
exceeds_body l around p t changed {s} {u} enters h =
    let here = surroundings_of around in
    let z = site_of s in
    let inner = in_turning z t changed in
    let body = process_code here p inner in
    let behind = loop_end z.frame.top z.label (row_of (z.label + 1) z.frame (after_loop changed z.known)) in
    exceeds_before l (closed_by behind body) s.listing u.listing (entering_code t changed z) enters.code
    (exceeds_closed l body u.listing behind
    (subst (λ (y : Site). Exceeds l u.listing (component_code here (Plain p) y)) enters.site h))

pub exceeds_leaving : (l : Limits) (around : calling.Surroundings) (p : Process) (t : Turning) (changed : List ℕ)
    {s u w : ProcessWriter} (names word head : ℕ) → EntersLoop s u t changed
    → BodyLeft around p t changed s u w names word head
    → IsTooMuch l w.listing (leaving_code names word head (site_of w))
    → Exceeds l s.listing (turning_code (surroundings_of around) t changed p (site_of s))
exceeds_leaving l around p t changed {s} {u} {w} names word head enters x h =
    let z = site_of s in
    let body = process_code (surroundings_of around) p (in_turning z t changed) in
    let behind = loop_end z.frame.top z.label (row_of (z.label + 1) z.frame (after_loop changed z.known)) in
    exceeds_before l (closed_by behind body) s.listing u.listing (entering_code t changed z) enters.code
    (exceeds_behind l body u.listing w.listing behind w.label x.code
    (subst (λ (ps : List Piece). IsTooMuch l w.listing ps) x.rest h))

pub exceeds_loop : (l : Limits) {around : calling.Surroundings} {line : ℕ} {r : Replicator} {s : ProcessWriter}
    {t : Turning} (p : Process) (changed : List ℕ) → IsTurning around line r s t
    → Exceeds l s.listing (turning_code (surroundings_of around) t changed p (site_of s))
    → Exceeds l s.listing (looped_code (surroundings_of around) line r changed p (site_of s))
exceeds_loop l {s = s} p changed turns h = subst (λ o. Exceeds l s.listing o) (turning_is p changed turns) h

-- where the variables were found that the body changes
pub exceeds_replicated : (l : Limits) (around : calling.Surroundings) (line : ℕ) (r : Replicator) (p : Process)
    (c : Construct) (changed : List ℕ) (s v : ProcessWriter) → under_seq r p ≡ c → v.listing ≡ s.listing
    → site_of v ≡ site_of s
    → changed ≡ changed_by_construct (surroundings_of around).around.signatures (known_of s.scope).entries c
    → Exceeds l v.listing (looped_code (surroundings_of around) line r changed p (site_of v))
    → Exceeds l s.listing (construct_code (surroundings_of around) line c (site_of s))
exceeds_replicated l around line r p c changed s v is same place found h =
    let here = surroundings_of around in
    let z = site_of s in
    let all : changed ≡ changed_by_construct here.around.signatures z.known.entries (under_seq r p) =
    found ∙ ap (changed_by_construct here.around.signatures z.known.entries) (sym is) in
    let code : looped_code here line r changed p (site_of v) ≡ construct_code here line (under_seq r p) z =
    (λ i. looped_code here line r (all i) p (place i)) ∙ sym (loop_code_is here line r p z) in
    subst (λ c. Exceeds l s.listing (construct_code here line c z)) is
    (subst (λ (y : List Piece × Option Code). Exceeds l y.0 y.1) (λ i. (same i, code i)) h)

-- ---- a choice under a replicator

pub exceeds_repeated : (l : Limits) {around : calling.Surroundings} {line : ℕ} {r : Replicator}
    {s begun : ProcessWriter} {repeats : Repeats} {count : ℕ} (c : Component Choices)
    → TurnsBegin around line r s begun repeats → count ≡ times repeats
    → Exceeds l begun.listing (turns_at (surroundings_of around) s.label r.name c repeats count (site_of begun))
    → Exceeds l s.listing (construct_code (surroundings_of around) line (under_if r c) (site_of s))
exceeds_repeated l {around = around} {line = line} {r = r} {s = s} {begun = begun} {repeats = repeats} c begins counted
    h =
    let here = surroundings_of around in
    let z = site_of s in
    let done = after_construct here.around line (under_if r c) z.known in
    let turns = subst
    (λ n. Exceeds l begun.listing (turns_at here z.label r.name c repeats n (site_of begun))) counted h in
    subst (λ o. Exceeds l s.listing o) (sym (repeated_if_is here line r c z))
    (exceeds_closed l (repeated_turns here line r c z) s.listing (row_of z.label z.frame done ∷ [])
    (subst (λ (v : List Piece × Repeats × Site).
    Exceeds l v.0 (turns_at here z.label r.name c v.1 (times v.1) v.2))
    (λ i. (begins.listing i, begins.is i, begins.place i)) turns))

pub exceeds_repeated_end : (l : Limits) (around : calling.Surroundings) (line : ℕ) (r : Replicator)
    (c : Component Choices) (s within : ProcessWriter) (left : code_frame.Frame) (ended : code_scope.Scope)
    → TurnsLeft around line r c s within left ended
    → IsTooMuch l within.listing (row_of s.label (frame_seen left) (known_of ended) ∷ [])
    → Exceeds l s.listing (construct_code (surroundings_of around) line (under_if r c) (site_of s))
exceeds_repeated_end l around line r c s within left ended x h =
    let here = surroundings_of around in
    let z = site_of s in
    let done = after_construct here.around line (under_if r c) z.known in
    subst (λ o. Exceeds l s.listing o) (sym (repeated_if_is here line r c z))
    (exceeds_behind l (repeated_turns here line r c z) s.listing within.listing (row_of z.label z.frame done ∷ [])
    within.label x.code
    (subst (λ (y : Frame × Known). IsTooMuch l within.listing (row_of z.label y.0 y.1 ∷ []))
    (λ i. (x.frame i, x.known i)) h))
