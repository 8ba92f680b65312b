-- What is known after the turns of a component under a replicator, where the names before them are left.
use Rattle.std.proofs.Common.{◌≡◌, ℕ, Bool, true, false, cond, List, [], ◌∷◌, length, take, None, refl, sym, ap, ◌∙◌}
use Rattle.std.proofs.Math.Seq.{take-append_seam}
use Rattle.std.proofs.lemmas.List.{length-map}
use Rattle.std.specs.Global.{Vec}
use Rattle.occam_parser.specs.Terminals.{Terminal}
use Rattle.occam_parser.specs.Blocks.{Part, Component}
use Rattle.scalar_ranges.specs.Entries.{Entry}
use Rattle.scalar_ranges.specs.Moves.{Known, begin, end}
use Rattle.program_uses.specs.Actions.{Around}
use Rattle.program_uses.specs.Changes.{changed_by_component}
use Rattle.program_uses.specs.Declaring.{add}
use Rattle.program_uses.specs.Indices.{Repeats, index_meaning, turn_by_turn}
use Rattle.program_uses.specs.Outlines.{outline}
use Rattle.usage_checks.specs.AfterProcesses.{begun_turns, begun_body, repeated, after_component}
use Rattle.usage_checks.specs.Outlines.{IsMadeOf}
use Rattle.usage_checks.proofs.RangesStay.{Covers, covers_itself, InBranch, Turned, IsApart, turns_turned}
use Rattle.code_pieces.specs.declared.piece.RowEntry.{RowEntry}
use Rattle.line_pieces.specs.declared.frame.Frame as code_frame
use Rattle.line_pieces.specs.Homes.{Nowhere}
use Rattle.line_pieces.specs.Declarations.{Frame, with_home}
use Rattle.line_pieces.specs.HomeViews.{home_seen, homes_seen}
use Rattle.line_pieces.specs.FrameViews.{frame_seen}
use Rattle.code_generator.specs.Processes.{turned}
use Rattle.code_generator.proofs.LoopsWritten.{ended_block}

-- The names that came after an index are left, with this number before it.
pub frame_left : (names : ℕ) (before within left : code_frame.Frame) → names ≡ length before.homes.items
    → homes_seen left.homes.items ≡ take names (homes_seen within.homes.items) → left.top ≡ before.top
    → left.outer ≡ within.outer → frame_seen within ≡ with_home Nowhere (frame_seen before)
    → frame_seen left ≡ frame_seen before
frame_left names before within left long homes top hidden grown =
    let z = frame_seen before in
    let long_seen : names ≡ length z.homes = long ∙ sym (length-map before.homes.items home_seen) in
    let kept : homes_seen left.homes.items ≡ z.homes =
    homes ∙ (λ i. take (long_seen i) (grown i).homes) ∙ take-append_seam z.homes (Nowhere ∷ []) in
    let outer : left.outer.items ≡ z.outer =
    ap (λ (v : Vec RowEntry). v.items) hidden ∙ ap (λ (f : Frame). f.outer) grown in
    λ i. record { homes = kept i; top = top i; outer = outer i }

-- what a component makes of the block that it is in
abbrev pub StaysApart : {part : Part} → Around → Terminal → Component part → Type 0
StaysApart a word c = (all : List ℕ) (es : List Entry) → Covers all (changed_by_component a.signatures es c)
    → (k x : Known) → InBranch all k x → outline x.entries ≡ outline es → Turned all k (after_component a word c x)

-- Where a component does not happen all is then as it was.
pub nothing_happens : {part : Part} (a : Around) (word : Terminal) (name : List ℕ) (c : Component part)
    (repeats : Repeats) (ns : List ℕ) (k : Known) → IsMadeOf word part → IsApart word → repeats.sequential ≡ false
    → StaysApart a word c
    → end (end (turn_by_turn (turned a word name c repeats) repeats.turns.count (begun_turns word ns (begin k)))) ≡ k
nothing_happens a word name c repeats ns k is apart sequential stays =
    let es = add name (index_meaning false None) k.entries in
    let all = changed_by_component a.signatures es c in
    let turns = turn_by_turn (turned a word name c repeats) repeats.turns.count (begun_turns word ns (begin k)) in
    let h = turns_turned a all word c name repeats ns k.entries (begin k) repeats.turns.count is apart sequential refl
    (stays all es (covers_itself all)) in
    ap end (ended_block turns (record { start = h.start; ends = h.ends }) (begin k).blocks
    (ap (λ (x : Known). x.blocks) h.is))

-- the turns of an IF or an ALT, by whether they happen
pub turns_ended : {part : Part} (a : Around) (word : Terminal) (name : List ℕ) (c : Component part)
    (repeats : Repeats) (ns : List ℕ) (k : Known) → IsMadeOf word part → IsApart word → repeats.sequential ≡ false
    → StaysApart a word c → ((m : Known) → begun_turns word ns m ≡ begin m) → (happens : Bool)
    → end (turn_by_turn (turned a word name c repeats) (cond happens repeats.turns.count 0) (begin k))
    ≡ repeated happens (turn_by_turn (turned a word name c repeats) repeats.turns.count
    (begun_body word ns happens k))
turns_ended a word name c repeats ns k is apart sequential stays begins true =
    ap (λ m. end (turn_by_turn (turned a word name c repeats) repeats.turns.count m)) (sym (begins k))
turns_ended a word name c repeats ns k is apart sequential stays begins false =
    sym (nothing_happens a word name c repeats ns k is apart sequential stays)
