-- A PAR is written component by component, and its blocks are left.
use Rattle.std.proofs.Common.{◌≡◌, ℕ, ◌+◌, ◌<◌, ◌≤◌, Bool, true, false, List, [], length, map, take, get_or}
use Rattle.std.proofs.Common.{refl, sym, ap, subst, ◌∙◌, add-one}
use Rattle.std.proofs.lemmas.List.{take_all}
use Rattle.occam_layout.specs.declared.mark.Mark.TheVariants as mark
use Rattle.occam_parser.specs.Terminals.{Mark}
use Rattle.occam_parser.specs.Lines.{Replicator}
use Rattle.occam_parser.specs.Blocks.{Process, Processes, Part, Component, Plain}
use Rattle.occam_parser.specs.BlockViews.{all_of}
use Rattle.occam_parser.proofs.SeenBlocks.{all_push}
use Rattle.scalar_ranges.specs.declared.scope.Scope as code_scope
use Rattle.scalar_ranges.specs.Entries.{Meaning}
use Rattle.scalar_ranges.specs.Moves.{Known, begin_par, next_component, end}
use Rattle.scalar_ranges.specs.Scopes.{known_of}
use Rattle.program_uses.specs.Actions.{Around, is_before}
use Rattle.program_uses.specs.Changes.{changed_by}
use Rattle.program_uses.specs.Declaring.{add}
use Rattle.program_uses.specs.Indices.{Repeats, repeats_of, index_in, turn_by_turn}
use Rattle.program_uses.proofs.Adding.{taken_one}
use Rattle.usage_checks.specs.AfterProcesses.{inside, after_component, after_components, begun_body, repeated}
use Rattle.usage_checks.specs.NameRules.{with_entries}
use Rattle.usage_checks.proofs.RangesStay.{component_stays}
use Rattle.code_generator.specs.declared.calling.Surroundings as calling
use Rattle.line_pieces.specs.declared.frame.Frame as code_frame
use Rattle.code_generator.specs.declared.parallel.Outside.{Outside}
use Rattle.code_generator.specs.declared.processes.ProcessWriter.{ProcessWriter}
use Rattle.code_generator.specs.CallViews.{surroundings_of}
use Rattle.line_pieces.specs.Declarations.{Frame, with_home}
use Rattle.line_pieces.specs.FrameViews.{frame_seen}
use Rattle.line_pieces.specs.HomeViews.{homes_seen}
use Rattle.line_pieces.specs.Homes.{Nowhere}
use Rattle.code_generator.specs.Processes.{turned}
use Rattle.code_generator.specs.Written.{WritesProcess}
use Rattle.code_generator.specs.Branches.{IsKept, EntersBranch, LeavesBranch, WritesComponent, WritesSome, WritesPar}
use Rattle.code_generator.specs.Branches.{WritesTurns, WritesRepeatedPar}
use Rattle.code_generator.proofs.TurnsEnd.{frame_left, nothing_happens}

-- ---- a component

pub writes_component : (around : calling.Surroundings) (p : Process) (changed : List ℕ) (o : Outside)
    {s begun within left : ProcessWriter} (found next : code_scope.Scope)
    → known_of found ≡ known_of s.scope
    → changed ≡ changed_by (surroundings_of around).around.signatures (known_of s.scope).entries p
    → EntersBranch (record s { scope = found }) begun o → WritesProcess begun within around p
    → LeavesBranch within left o → known_of next ≡ next_component changed (known_of left.scope)
    → WritesComponent s (record left { scope = next }) around (Plain p)
writes_component around p changed o {s} {begun} {within} {left} found next same is enters body leaves moved =
    let a = (surroundings_of around).around in
    let begins : known_of begun.scope ≡ known_of s.scope = enters.known ∙ same in
    record {
      code = tt;
      known = moved
          ∙ (λ i. next_component (is i) (leaves.known i))
          ∙ ap (next_component (changed_by a.signatures (known_of s.scope).entries p))
          (body.known ∙ ap (inside a p) begins);
      frame = λ i. record {
        homes = (leaves.homes ∙ ap (λ (f : Frame). f.homes) body.frame ∙ enters.homes) i;
        top = (leaves.top ∙ enters.top) i;
        outer = (leaves.outer ∙ ap (λ (f : Frame). f.outer) body.frame ∙ enters.outer) i;
      };
    }

-- ---- components

pub par_next : {part : Part} {A : Type 0} (around : calling.Surroundings) (f : A → Component part) (xs : List A) (i : ℕ)
    (x : A) {s t w : ProcessWriter} → i < length xs → x ≡ get_or xs i x
    → WritesSome s t around (all_of (map f (take i xs))) → WritesComponent t w around (f x)
    → WritesSome s w around (all_of (map f (take (i + 1) xs)))
par_next around f xs i x {s} {t} {w} h is first one =
    let a = (surroundings_of around).around in
    subst (λ cs. WritesSome s w around cs) (sym (all_push f (take i xs) (take (i + 1) xs) x (taken_one xs i x x h is)))
    (record {
      code = tt;
      known = one.known ∙ ap (after_component a (Mark mark.Par) (f x)) first.known;
      frame = one.frame ∙ first.frame;
    })

-- all of them, from where the PAR began, and then it is left
pub par_done : {part : Part} {A : Type 0} (around : calling.Surroundings) (f : A → Component part) (xs : List A) (i : ℕ)
    {s begun t w : ProcessWriter} (ended : code_scope.Scope) → length xs ≤ i
    → known_of begun.scope ≡ begin_par (known_of s.scope) → frame_seen begun.frame ≡ frame_seen s.frame
    → WritesSome begun t around (all_of (map f (take i xs))) → known_of ended ≡ end (known_of t.scope)
    → IsKept (record t { scope = ended }) w → WritesPar s w around (all_of (map f xs))
par_done around f xs i {s} {begun} {t} {w} ended h begins same x left kept =
    let a = (surroundings_of around).around in
    let whole = subst (λ ys. WritesSome begun t around (all_of (map f ys))) (take_all i xs h) x in
    record {
      code = tt;
      known = kept.known ∙ left
          ∙ ap end (whole.known ∙ ap (after_components a (Mark mark.Par) (all_of (map f xs))) begins);
      frame = kept.frame ∙ whole.frame ∙ same;
    }

-- ---- under a replicator

pub par_turns_next : {part : Part} (around : calling.Surroundings) (name : List ℕ) (repeats : Repeats)
    (c : Component part)
    (n : ℕ) (m : Meaning) {s t w : ProcessWriter} (scope : code_scope.Scope) → m ≡ index_in repeats n
    → known_of scope ≡ with_entries (add name m) (known_of t.scope)
    → WritesTurns s t around name repeats n c → WritesComponent (record t { scope = scope }) w around c
    → WritesTurns s w around name repeats (n + 1) c
par_turns_next around name repeats c n m {s} {t} {w} scope means enters first one =
    let a = (surroundings_of around).around in
    let known = enters ∙ (λ i. with_entries (add name (means i)) (first.known i)) in
    subst (λ k. WritesTurns s w around name repeats k c) (sym (add-one n))
    (record {
      code = tt;
      known = one.known ∙ ap (after_component a (Mark mark.Par) c) known;
      frame = one.frame ∙ first.frame;
    })

-- what is known after the turns, by whether the component happens
abbrev pub ended_by : Around → List ℕ → Component Processes → Repeats → Bool → Known → Known
ended_by a name c repeats happens k =
    repeated happens
    (turn_by_turn (turned a (Mark mark.Par) name c repeats) repeats.turns.count
    (begun_body (Mark mark.Par) [] happens k))

-- what is known where this is so
ended_so : (a : Around) (line : ℕ) (r : Replicator) (p : Process) (repeats : Repeats) (k : Known) (happens : Bool)
    → repeats ≡ repeats_of (is_before line a.uncounted) k.entries false r → repeats.happens ≡ happens
    → (let counted = repeats_of (is_before line a.uncounted) k.entries false r in
    ended_by a r.name (Plain p) counted counted.happens k ≡ ended_by a r.name (Plain p) counted happens k)
ended_so a line r p repeats k happens is so =
    let counted = repeats_of (is_before line a.uncounted) k.entries false r in
    ap (λ h. ended_by a r.name (Plain p) counted h k) (ap (λ (x : Repeats). x.happens) (sym is) ∙ so)

pub writes_no_turns : (around : calling.Surroundings) (line : ℕ) (r : Replicator) (p : Process) (repeats : Repeats)
    (s : ProcessWriter)
    → repeats ≡ repeats_of (is_before line (surroundings_of around).around.uncounted) (known_of s.scope).entries false r
    → repeats.happens ≡ false → WritesRepeatedPar s s around line r p
writes_no_turns around line r p repeats s is never =
    let a = (surroundings_of around).around in
    let k = known_of s.scope in
    let counted = repeats_of (is_before line a.uncounted) k.entries false r in
    record {
      code = tt;
      known = sym (ended_so a line r p repeats k false is never
          ∙ nothing_happens a (Mark mark.Par) r.name (Plain p) counted [] k tt tt refl
          (λ all. component_stays a all (Mark mark.Par) (Plain p) tt));
      frame = refl;
    }

pub writes_repeated_par : (around : calling.Surroundings) (line names : ℕ) (r : Replicator) (p : Process)
    (repeats : Repeats) {s begun within w : ProcessWriter} (left : code_frame.Frame) (ended : code_scope.Scope)
    → repeats ≡ repeats_of (is_before line (surroundings_of around).around.uncounted) (known_of s.scope).entries false r
    → repeats.happens ≡ true → known_of begun.scope ≡ begin_par (known_of s.scope)
    → frame_seen begun.frame ≡ with_home Nowhere (frame_seen s.frame)
    → WritesTurns begun within around r.name repeats repeats.turns.count (Plain p)
    → names ≡ length s.frame.homes.items
    → homes_seen left.homes.items ≡ take names (homes_seen within.frame.homes.items) → left.top ≡ s.frame.top
    → left.outer ≡ within.frame.outer → known_of ended ≡ end (known_of within.scope)
    → IsKept (record within { frame = left; scope = ended }) w → WritesRepeatedPar s w around line r p
writes_repeated_par around line names r p repeats {s} {begun} {within} {w} left ended is always begins named x long
    homes top hidden ends kept =
    let a = (surroundings_of around).around in
    record {
      code = tt;
      known = kept.known ∙ ends
          ∙ ap end (x.known
          ∙ (λ i. turn_by_turn (turned a (Mark mark.Par) r.name (Plain p) (is i)) (is i).turns.count (begins i)))
          ∙ sym (ended_so a line r p repeats (known_of s.scope) true is always);
      frame = kept.frame ∙ frame_left names s.frame within.frame left long homes top hidden (x.frame ∙ named);
    }
