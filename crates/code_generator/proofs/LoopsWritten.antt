-- A loop is written: its head, its body, and what is after it.
use Rattle.std.proofs.Common.{◌≡◌, ◌≢◌, ℕ, zero, suc, ◌+◌, ◌≤◌, ℤ, pos, negsuc, List, [], ◌∷◌, ◌++◌, length, take}
use Rattle.std.proofs.Common.{Bool, true, Bor, Option, None, unwrap_or, refl, sym, ap, subst, ◌∙◌, arith}
use Rattle.std.proofs.Common.{FitsSigned, to_z, of_z, w32}
use Rattle.std.proofs.Math.Seq.{take-append_seam}
use Rattle.std.proofs.lemmas.Int.{to_z-of_z}
use Rattle.std.proofs.lemmas.List.{length-map}
use Rattle.std.specs.Global.{Vec}
use Rattle.occam_layout.specs.declared.mark.Mark.TheVariants as mark
use Rattle.occam_parser.specs.Terminals.{Mark}
use Rattle.occam_parser.specs.Lines.{Replicator}
use Rattle.occam_parser.specs.Blocks.{Process, Construct, Plain}
use Rattle.occam_parser.specs.Constructs.{repeated_seq as under_seq}
use Rattle.scalar_ranges.specs.declared.scope.Scope as code_scope
use Rattle.scalar_ranges.specs.declared.scope.Meaning as code_meaning
use Rattle.scalar_ranges.specs.Entries.{Meaning}
use Rattle.scalar_ranges.specs.Moves.{Known, Block, begun_with, widen, begin_loop, after_block, end}
use Rattle.scalar_ranges.specs.Scopes.{known_of, meaning_of}
use Rattle.code_generator.specs.declared.calling.Surroundings as calling
use Rattle.code_generator.specs.CallViews.{surroundings_of}
use Rattle.program_uses.specs.Actions.{Around, is_before}
use Rattle.program_uses.specs.Changes.{changed_by_construct}
use Rattle.program_uses.specs.Declaring.{add}
use Rattle.program_uses.specs.Indices.{Repeats, repeats_of, index_in}
use Rattle.usage_checks.specs.AfterProcesses.{after_component, after_construct}
use Rattle.usage_checks.specs.NameRules.{with_entries}
use Rattle.usage_checks.proofs.RangesStay.{ranges_stay}
use Rattle.code_pieces.specs.declared.piece.RowEntry.{RowEntry}
use Rattle.code_pieces.specs.Pieces.{Piece, LoopBack, Code, closed_by, points}
use Rattle.code_generator.specs.declared.loops.Turning.{Turning}
use Rattle.code_generator.specs.declared.processes.ProcessWriter.{ProcessWriter}
use Rattle.line_pieces.specs.Homes as homes
use Rattle.line_pieces.specs.declared.frame.Frame as code_frame
use Rattle.line_pieces.specs.HomeViews.{home_seen, homes_seen}
use Rattle.line_pieces.specs.FrameViews.{frame_seen}
use Rattle.code_generator.specs.Processes.{Site, Surroundings, row_of, in_loop, value_or_zero, loop_end}
use Rattle.code_generator.specs.Processes.{loop_code}
use Rattle.code_generator.specs.Processes.{repeated_seq, process_code, construct_code}
use Rattle.code_generator.specs.Processes.{component_code}
use Rattle.code_generator.specs.Written.{site_of, Appends, after_loop, in_turning, EntersLoop, behind_loop}
use Rattle.code_generator.specs.Written.{entering_code, leaving_code, turning_code, WritesTurning}
use Rattle.code_generator.specs.Written.{LeavesLoop, looped_code, WritesLoop, WritesConstruct, WritesOne}
use Rattle.code_generator.proofs.PartsWritten.{appends_before, appends_closed}

-- ---- what is known after a loop

-- what is known where a block has ended, by the blocks around
pub ended_block : (k : Known) (b : Block) (bs : List Block) → k.blocks ≡ b ∷ bs
    → end k ≡ record { entries = unwrap_or b.ends b.start; blocks = bs }
ended_block k b bs is = ap (after_block k.entries) is

-- A loop ends as its body began, whatever the body does.
pub loop_ends : (a : Around) (p : Process) (name : List ℕ) (index : Meaning) (changed : List ℕ) (k : Known)
    → end (after_component a (Mark mark.Seq) (Plain p) (with_entries (add name index) (begin_loop changed k)))
    ≡ after_loop changed k
loop_ends a p name index changed k =
    let m = with_entries (add name index) (begin_loop changed k) in
    let low : begun_with m.blocks ≤ length m.entries = omega arith in
    ended_block (after_component a (Mark mark.Seq) (Plain p) m)
    (record { start = widen changed k.entries; ends = None }) k.blocks (ranges_stay.processes a p m low).blocks

pub after_loop_is : (a : Around) (line : ℕ) (r : Replicator) (p : Process) (k : Known)
    → after_construct a line (under_seq r p) k
    ≡ after_loop (changed_by_construct a.signatures k.entries (under_seq r p)) k
after_loop_is a line r p k =
    loop_ends a p r.name (index_in (repeats_of (is_before line a.uncounted) k.entries true r) 0)
    (changed_by_construct a.signatures k.entries (under_seq r p)) k

-- ---- the code of a loop

pub loop_code_is : (here : Surroundings) (line : ℕ) (r : Replicator) (p : Process) (s : Site)
    → construct_code here line (under_seq r p) s
    ≡ looped_code here line r (changed_by_construct here.around.signatures s.known.entries (under_seq r p)) p s
loop_code_is here line r p s =
    let changed = changed_by_construct here.around.signatures s.known.entries (under_seq r p) in
    let repeats = repeats_of (is_before line here.around.uncounted) s.known.entries true r in
    let inner = in_loop s (begin_loop changed s.known) r.name (index_in repeats 0) in
    let base = value_or_zero s.known.entries r.base in
    let count = value_or_zero s.known.entries r.count in
    ap
    (λ after. repeated_seq s changed after base (loop_code s inner after base count (process_code here p inner)) count)
    (after_loop_is here.around line r p s.known)

pub with_turns : (s : Site) (changed : List ℕ) (after : Known) (base : ℤ) (loop : Option Code) (count : ℤ)
    → count ≢ pos 0 → repeated_seq s changed after base loop count ≡ loop
with_turns s changed after base loop (pos zero) some = absurd (some refl)
with_turns s changed after base loop (pos (suc n)) some = refl
with_turns s changed after base loop (negsuc n) some = refl

-- ---- writing it

-- What is behind the body of a loop: its code is written, and what comes after it is what the loop's code has there.
pub record BodyLeft (around : calling.Surroundings) (p : Process) (l : Turning) (changed : List ℕ)
    (s t u : ProcessWriter) (names word head : ℕ) : Type 0 where
  pub code : Appends t.listing u.listing u.label
      (process_code (surroundings_of around) p (in_turning (site_of s) l changed))
  pub left : behind_loop names word (site_of u)
      ≡ record { frame = frame_seen s.frame; known = after_loop changed (known_of s.scope); label = u.label }
  pub rest : leaving_code names word head (site_of u) ≡ loop_end s.frame.top s.label
      (row_of (s.label + 1) (frame_seen s.frame) (after_loop changed (known_of s.scope)))

pub body_left : (around : calling.Surroundings) (p : Process) (l : Turning) (changed : List ℕ)
    {s t u : ProcessWriter} (names word head : ℕ) → EntersLoop s t l changed → WritesOne t u around (Plain p)
    → names ≡ length s.frame.homes.items → word ≡ s.frame.top → head ≡ s.label
    → BodyLeft around p l changed s t u names word head
body_left around p l changed {s} {t} {u} names word head enters one names_are word_is head_is =
    let here = surroundings_of around in
    let a = here.around in
    let z = site_of s in
    let inner = in_turning z l changed in
    let known : known_of u.scope ≡ after_component a (Mark mark.Seq) (Plain p) inner.known =
    one.known ∙ ap (λ (y : Site). after_component a (Mark mark.Seq) (Plain p) y.known) enters.site in
    let frame : frame_seen u.frame ≡ inner.frame = one.frame ∙ ap (λ (y : Site). y.frame) enters.site in
    let long : names ≡ length z.frame.homes = names_are ∙ sym (length-map s.frame.homes.items home_seen) in
    let left_homes : take names (frame_seen u.frame).homes ≡ z.frame.homes =
    (λ i. take (long i) (frame i).homes) ∙ take-append_seam z.frame.homes (homes.Block z.frame.top z.label ∷ []) in
    let ended : end (known_of u.scope) ≡ after_loop changed z.known =
    ap end known ∙ loop_ends a p l.name.now (meaning_of l.index) changed z.known in
    let left : behind_loop names word (site_of u)
    ≡ record { frame = z.frame; known = after_loop changed z.known; label = u.label } =
    λ i. record {
      frame = record { homes = left_homes i; top = word_is i; outer = (frame i).outer };
      known = ended i;
      label = u.label;
    } in
    record {
      code = subst (λ (y : Site). Appends t.listing u.listing u.label (component_code here (Plain p) y)) enters.site
          one.code;
      left = left;
      rest = λ i. loop_end (word_is i) (head_is i) (row_of (head_is i + 1) (left i).frame (left i).known);
    }

-- with turns
pub writes_turning : (around : calling.Surroundings) (p : Process) (l : Turning) (changed : List ℕ)
    {s t u w : ProcessWriter} (names word head : ℕ) → EntersLoop s t l changed
    → BodyLeft around p l changed s t u names word head → LeavesLoop u w names word head
    → WritesTurning s w around l changed p
writes_turning around p l changed {s} {t} {u} {w} names word head enters x leaves =
    let z = site_of s in
    let inner = in_turning z l changed in
    let after = after_loop changed z.known in
    let body = process_code (surroundings_of around) p inner in
    let behind = loop_end z.frame.top z.label (row_of (z.label + 1) z.frame after) in
    let rest : w.listing ≡ u.listing ++ behind = leaves.code ∙ ap (λ ps. u.listing ++ ps) x.rest in
    let labels : w.label ≡ u.label = ap (λ (y : Site). y.label) leaves.site in
    record {
      code = subst (λ n. Appends s.listing w.listing n (loop_code z inner after l.base l.count body)) (sym labels)
          (appends_before (closed_by behind body) s.listing t.listing w.listing (entering_code l changed z) u.label
          enters.code (appends_closed body t.listing u.listing w.listing behind u.label x.code rest));
      known = ap (λ (y : Site). y.known) (leaves.site ∙ x.left);
      frame = ap (λ (y : Site). y.frame) (leaves.site ∙ x.left);
    }

-- These are the turns of a replicator over a SEQ on this line.
pub record IsTurning (around : calling.Surroundings) (line : ℕ) (r : Replicator) (s : ProcessWriter) (l : Turning)
    : Type 0 where
  pub name : l.name.now ≡ r.name
  pub index : meaning_of l.index ≡ index_in (repeats_of (is_before line (surroundings_of around).around.uncounted)
      (known_of s.scope).entries true r) 0
  pub base : l.base ≡ value_or_zero (known_of s.scope).entries r.base
  pub count : l.count ≡ value_or_zero (known_of s.scope).entries r.count
  pub some : l.count ≢ pos 0

abbrev pub turning_with : Bor (List ℕ) → code_meaning.Meaning → (base count : ℤ) → Turning
turning_with name index base count = record { name = name; index = index; base = base; count = count }

-- They are passed as they are.
pub as_passed : (l : Turning) → FitsSigned w32 l.base → FitsSigned w32 l.count
    → turning_with l.name l.index (to_z w32 (of_z w32 l.base)) (to_z w32 (of_z w32 l.count)) ≡ l
as_passed l base count = λ i. record {
  name = l.name;
  index = l.index;
  base = to_z-of_z w32 l.base base i;
  count = to_z-of_z w32 l.count count i;
}

pub is_turning : (around : calling.Surroundings) (line : ℕ) (r : Replicator) (s : ProcessWriter) (l : Turning)
    {repeats : Repeats} {counted : Bool} → l.name.now ≡ r.name → meaning_of l.index ≡ index_in repeats 0
    → repeats ≡ repeats_of counted (known_of s.scope).entries true r
    → counted ≡ is_before line (surroundings_of around).around.uncounted
    → l.base ≡ value_or_zero (known_of s.scope).entries r.base
    → l.count ≡ value_or_zero (known_of s.scope).entries r.count → l.count ≢ pos 0 → IsTurning around line r s l
is_turning around line r s l name index is counted base count some = record {
  name = name;
  index = index
      ∙ ap (λ x. index_in x 0) (is ∙ (λ i. repeats_of (counted i) (known_of s.scope).entries true r));
  base = base;
  count = count;
  some = some;
}

-- With its turns it is the whole loop.
pub turning_is : {around : calling.Surroundings} {line : ℕ} {r : Replicator} {s : ProcessWriter} {l : Turning}
    (p : Process) (changed : List ℕ) → IsTurning around line r s l
    → turning_code (surroundings_of around) l changed p (site_of s)
    ≡ looped_code (surroundings_of around) line r changed p (site_of s)
turning_is {around = around} {s = s} {l = l} p changed x =
    let here = surroundings_of around in
    let z = site_of s in
    let after = after_loop changed z.known in
    sym (with_turns z changed after l.base (turning_code here l changed p z) l.count x.some)
    ∙ (λ i. repeated_seq z changed after (x.base i)
    (loop_code z (in_loop z (begin_loop changed z.known) (x.name i) (x.index i)) after (x.base i) (x.count i)
    (process_code here p (in_loop z (begin_loop changed z.known) (x.name i) (x.index i)))) (x.count i))

pub writes_loop : {around : calling.Surroundings} {line : ℕ} {r : Replicator} {s w : ProcessWriter} {l : Turning}
    (p : Process) (changed : List ℕ) → IsTurning around line r s l → WritesTurning s w around l changed p
    → WritesLoop s w around line r changed p
writes_loop {s = s} {w = w} p changed turns x = record {
  code = subst (λ o. Appends s.listing w.listing w.label o) (turning_is p changed turns) x.code;
  known = x.known;
  frame = x.frame;
}

-- where the variables were found that the body changes
pub writes_replicated : (around : calling.Surroundings) (line : ℕ) (r : Replicator) (p : Process) (c : Construct)
    (changed : List ℕ) (scope : code_scope.Scope) {s t : ProcessWriter} → under_seq r p ≡ c
    → known_of scope ≡ known_of s.scope
    → changed ≡ changed_by_construct (surroundings_of around).around.signatures (known_of s.scope).entries c
    → WritesLoop (record s { scope = scope }) t around line r changed p → WritesConstruct s t around line c
writes_replicated around line r p c changed scope {s} {t} is same found x =
    let here = surroundings_of around in
    let a = here.around in
    let z = site_of s in
    let all : changed ≡ changed_by_construct a.signatures z.known.entries (under_seq r p) =
    found ∙ ap (changed_by_construct a.signatures z.known.entries) (sym is) in
    let code : looped_code here line r changed p (site_of (record s { scope = scope }))
    ≡ construct_code here line (under_seq r p) z =
    (λ i. looped_code here line r (all i) p (record { frame = z.frame; known = same i; label = z.label }))
    ∙ sym (loop_code_is here line r p z) in
    subst (WritesConstruct s t around line) is (record {
      code = subst (λ o. Appends s.listing t.listing t.label o) code x.code;
      known = x.known ∙ (λ i. after_loop (all i) (same i)) ∙ sym (after_loop_is a line r p z.known);
      frame = x.frame;
    })

-- ---- leaving it

-- What is before the last row of a loop is written, and the row says this.
pub record IsLoopLeft (s : ProcessWriter) (names word head behind : ℕ) (written : List Piece)
    (left : code_frame.Frame) (ended : code_scope.Scope) : Type 0 where
  pub code : written ≡ s.listing ++ points word ∷ LoopBack head (head + 1) ∷ []
  pub frame : frame_seen left ≡ (behind_loop names word (site_of s)).frame
  pub known : known_of ended ≡ end (known_of s.scope)
  pub row : row_of behind (frame_seen left) (known_of ended)
      ≡ row_of (head + 1) (behind_loop names word (site_of s)).frame (end (known_of s.scope))

pub loop_left : (s : ProcessWriter) (names word head : ℕ) {behind : ℕ} (written : List Piece)
    (left : code_frame.Frame) (ended : code_scope.Scope)
    → homes_seen left.homes.items ≡ take names (homes_seen s.frame.homes.items) → left.top ≡ word
    → left.outer ≡ s.frame.outer → known_of ended ≡ end (known_of s.scope) → behind ≡ head + 1
    → written ≡ s.listing ++ points word ∷ LoopBack head behind ∷ []
    → IsLoopLeft s names word head behind written left ended
loop_left s names word head written left ended homes top outer known next is =
    let frame : frame_seen left ≡ (behind_loop names word (site_of s)).frame =
    λ i. record { homes = homes i; top = top i; outer = ap (λ (v : Vec RowEntry). v.items) outer i } in
    record {
      code = is ∙ ap (λ n. s.listing ++ points word ∷ LoopBack head n ∷ []) next;
      frame = frame;
      known = known;
      row = λ i. row_of (next i) (frame i) (known i);
    }
