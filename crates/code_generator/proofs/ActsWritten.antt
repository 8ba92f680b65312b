-- An action is written, and an instance around its procedure's body.
use Rattle.std.proofs.Common.{◌≡◌, ℕ, List, [], ◌++◌, Option, sym, ap}
use Rattle.std.proofs.Common.{subst, ◌∙◌, arith}
use Rattle.occam_parser.specs.Expressions.{Expression}
use Rattle.occam_parser.specs.Lines.{Action, Instance}
use Rattle.occam_parser.specs.Blocks.{Act, Process}
use Rattle.scalar_ranges.specs.declared.scope.Scope as code_scope
use Rattle.scalar_ranges.specs.Entries.{Meaning, meaning_in}
use Rattle.scalar_ranges.specs.Moves.{Known, begun_with}
use Rattle.scalar_ranges.specs.Scopes.{known_of, blocks_of}
use Rattle.program_uses.specs.Actions.{Around}
use Rattle.program_uses.specs.Signatures.{Parameter, parameters_in}
use Rattle.usage_checks.specs.AfterProcesses.{inside}
use Rattle.usage_checks.specs.Following.{after_action}
use Rattle.usage_checks.specs.NameRules.{with_entries}
use Rattle.usage_checks.proofs.RangesStay.{ranges_stay}
use Rattle.code_pieces.specs.Pieces.{Piece, Code, closed_by}
use Rattle.code_generator.specs.declared.calling.Call.{Call}
use Rattle.code_generator.specs.declared.calling.Surroundings as calling
use Rattle.code_generator.specs.declared.processes.ProcessWriter.{ProcessWriter}
use Rattle.code_generator.specs.Calls.{Callee, callee_start, callee_code, in_callee}
use Rattle.code_generator.specs.CallViews.{callee_of, surroundings_of}
use Rattle.code_generator.specs.Instances.{cleaning_code}
use Rattle.line_pieces.specs.FrameViews.{frame_seen}
use Rattle.code_generator.specs.Processes.{Site, process_code, called}
use Rattle.code_generator.specs.Written.{site_of, Appends, Writes, WritesConstruct, WritesProcess, WritesLine}
use Rattle.code_generator.specs.Written.{IsCall, BeginsInstance, EndsInstance, Spends}
use Rattle.code_generator.proofs.PartsWritten.{appends_before, appends_closed}

-- ---- an action

pub writes_act : (around : calling.Surroundings) (line : ℕ) (action : Action) {s t : ProcessWriter}
    (scope : code_scope.Scope) → WritesLine s t around action
    → known_of scope ≡ with_entries (after_action (surroundings_of around).around.signatures action) (known_of t.scope)
    → WritesConstruct s (record t { scope = scope }) around line (Act action)
writes_act around line action scope one moved = record {
  code = one.code;
  known = moved ∙ ap (with_entries (after_action (surroundings_of around).around.signatures action)) one.known;
  frame = one.frame;
}

-- Code goes on as well where all but what was spent is the same.
pub writes_from : {s v t : ProcessWriter} (code : Site → Option Code) (after : Known → Known) → v.listing ≡ s.listing
    → site_of v ≡ site_of s → Writes v t (code (site_of v)) (after (known_of v.scope))
    → Writes s t (code (site_of s)) (after (known_of s.scope))
writes_from {s} {v} {t} code after same place x = record {
  code = subst (λ (y : List Piece × Site). Appends y.0 t.listing t.label (code y.1)) (λ i. (same i, place i)) x.code;
  known = x.known ∙ ap (λ (y : Site). after y.known) place;
  frame = x.frame ∙ ap (λ (y : Site). y.frame) place;
}

-- Code that was written is there as before where all but what was spent stays.
pub writes_still : {s t u : ProcessWriter} {code : Option Code} {after : Known} → Spends t u → Writes s t code after
    → Writes s u code after
writes_still {s} {code = code} x w = record {
  code = subst (λ (y : List Piece × ℕ). Appends s.listing y.0 y.1 code) (λ i. (sym x.listing i, sym x.label i)) w.code;
  known = ap known_of x.scope ∙ w.known;
  frame = ap frame_seen x.frame ∙ w.frame;
}

-- ---- an instance

-- A process leaves no block around where none was.
leaves_no_blocks : (a : Around) (p : Process) (k : Known) → k.blocks ≡ [] → (inside a p k).blocks ≡ []
leaves_no_blocks a p k none =
    let begun = ap begun_with none in (ranges_stay.processes a p k (omega (arith, begun))).blocks ∙ none

-- so the body of an instance does
pub instance_leaves : (c : Callee) (qs : List Parameter) (actuals : List Expression) (around : calling.Surroundings)
    (p : Process) (s t begun body : ProcessWriter) → BeginsInstance s t begun c qs actuals
    → WritesProcess begun body around p → blocks_of body.scope ≡ []
instance_leaves c qs actuals around p s t begun body begins inner =
    ap (λ (k : Known). k.blocks) inner.known
    ∙ leaves_no_blocks (surroundings_of around).around p (known_of begun.scope)
    (ap (λ (x : Site). x.known.blocks) begins.site)

pub writes_instance : (around : calling.Surroundings) (name : List ℕ) (actuals : List Expression) (c : Call)
    (m : Option Meaning) (s t begun body w : ProcessWriter) → m ≡ meaning_in name (known_of s.scope).entries
    → IsCall (surroundings_of around) m c
    → BeginsInstance s t begun (callee_of c.callee) (parameters_in (surroundings_of around).around.signatures m) actuals
    → WritesProcess begun body c.inside (callee_of c.callee).procedure.body
    → EndsInstance t w body (parameters_in (surroundings_of around).around.signatures m) actuals
    → WritesLine s w around (Instance name actuals)
writes_instance around name actuals c m s t begun body w is call begins inner ends =
    let here = surroundings_of around in
    let z = site_of s in
    let callee = callee_of c.callee in
    let qs = parameters_in here.around.signatures m in
    let p = callee.procedure.body in
    let within = surroundings_of c.inside in
    let clean : Site → List Piece =
    λ (y : Site). cleaning_code y.frame.homes y.known.entries y.frame.top qs 0 actuals in
    let same : site_of (record t { label = s.label }) ≡ z =
    λ i. record { frame = begins.frame i; known = begins.known i; label = s.label } in
    let written : Appends begun.listing body.listing w.label (process_code within p (in_callee callee qs actuals z)) =
    subst (λ (x : Site × ℕ). Appends begun.listing body.listing x.1 (process_code within p x.0))
    (λ i. (begins.site i, sym ends.label i)) inner.code in
    let rest : w.listing ≡ body.listing ++ clean z =
    ends.code ∙ ap (λ (y : Site). body.listing ++ clean y) same in
    let all : Appends s.listing w.listing w.label (callee_code within callee qs actuals z) =
    appends_before (closed_by (clean z) (process_code within p (in_callee callee qs actuals z))) s.listing begun.listing
    w.listing (callee_start callee qs actuals z) w.label begins.code
    (appends_closed (process_code within p (in_callee callee qs actuals z)) begun.listing body.listing w.listing
    (clean z) w.label written rest) in
    record {
      code = subst (Appends s.listing w.listing w.label)
          (sym (call actuals z) ∙ ap (λ m. called here m actuals z) is) all;
      known = ends.known ∙ begins.known;
      frame = ends.frame ∙ begins.frame;
    }
