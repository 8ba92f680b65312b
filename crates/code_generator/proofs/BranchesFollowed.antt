-- The branches of an ALT are gone over one after the other.
use Rattle.std.proofs.Common.{◌≡◌, ℕ, suc, ◌+◌, ◌<◌, ◌≤◌, false, List, [], ◌∷◌, ◌++◌, length, map}
use Rattle.std.proofs.Common.{take, fold, arith, Option, get_or, Result, Ok, Err, IfOk, refl, sym, ap, subst}
use Rattle.std.proofs.Common.{◌∙◌, add-one}
use Rattle.std.proofs.lemmas.List.{append_assoc, length-map, length-take, take_all}
use Rattle.occam_layout.specs.declared.mark.Mark.TheVariants as mark
use Rattle.occam_parser.specs.Terminals.{Mark}
use Rattle.occam_parser.specs.Lines.{Replicator, Guard}
use Rattle.occam_parser.specs.Blocks.{Process, Part, Branches, Components, NoComponent, Further, Component, Guarded}
use Rattle.occam_parser.specs.BlockViews.{all_of}
use Rattle.occam_parser.proofs.SeenBlocks.{all_push}
use Rattle.scalar_ranges.specs.declared.scope.Scope as code_scope
use Rattle.scalar_ranges.specs.Entries.{Meaning}
use Rattle.scalar_ranges.specs.Moves.{Known, begin, next, end}
use Rattle.scalar_ranges.specs.Scopes.{known_of}
use Rattle.program_uses.specs.Actions.{Around, is_before}
use Rattle.program_uses.specs.Declaring.{add}
use Rattle.program_uses.specs.Indices.{Repeats, repeats_of, seen_repeats, index_in, turn_by_turn}
use Rattle.program_uses.proofs.Adding.{taken_one}
use Rattle.usage_checks.specs.AfterProcesses.{inside, after_component, after_components}
use Rattle.usage_checks.specs.NameRules.{with_entries}
use Rattle.usage_checks.proofs.RangesStay.{component_stays}
use Rattle.code_pieces.specs.Pieces.{Jump, closed_by}
use Rattle.code_generator.specs.declared.alternatives.Replication.{Replication}
use Rattle.code_generator.specs.declared.calling.Surroundings as calling
use Rattle.line_pieces.specs.declared.frame.Frame as code_frame
use Rattle.code_generator.specs.declared.guards.Exits.{Exits}
use Rattle.code_generator.specs.declared.processes.ProcessWriter.{ProcessWriter}
use Rattle.code_generator.specs.Waiting.{condition_in}
use Rattle.code_generator.specs.Alternations.{GoesOn, StaysSo, stops_at, guard_code, stopping, Chooses}
use Rattle.code_generator.specs.Alternations.{WritesStop, in_branch, branch_code, WritesBranch, count_of, branches_code}
use Rattle.code_generator.specs.Alternations.{WritesBranches, turn_site, some_code, WritesSome, after_turns}
use Rattle.code_generator.specs.Alternations.{FollowsAlt, FollowsRepeatedAlt}
use Rattle.code_generator.specs.CallViews.{surroundings_of}
use Rattle.line_pieces.specs.Declarations.{Frame, with_home}
use Rattle.line_pieces.specs.FrameViews.{frame_seen}
use Rattle.line_pieces.specs.HomeViews.{homes_seen}
use Rattle.line_pieces.specs.Homes.{Nowhere}
use Rattle.code_generator.specs.Processes.{Site, at_place, row_of, process_code, turned, times}
use Rattle.code_generator.specs.Written.{site_of, Appends, WritesProcess}
use Rattle.code_generator.proofs.PartsWritten.{appends_before, appends_closed, appends_then, site_after}
use Rattle.code_generator.proofs.TurnsEnd.{frame_left, turns_ended}

-- ---- one after the other

pub goes_on : {s t w : ProcessWriter} (move : Known → Known) → StaysSo s t → GoesOn t w (move (known_of t.scope))
    → GoesOn s w (move (known_of s.scope))
goes_on move first next = record {
  known = next.known ∙ ap move first.known;
  frame = next.frame ∙ first.frame;
}

pub by_site : {s t : ProcessWriter} → site_of t ≡ site_of s → StaysSo s t
by_site e = record { known = ap (λ (y : Site). y.known) e; frame = ap (λ (y : Site). y.frame) e }

-- the guards are gone over, one is chosen, and then the branches are a block
pub alt_follows : (around : calling.Surroundings) (exits : ℕ → Exits) (cs : Components Branches)
    {s t within w : ProcessWriter} (begun ended : code_scope.Scope) → StaysSo s t
    → known_of begun ≡ begin (known_of t.scope)
    → WritesBranches (record t { scope = begun }) within around exits cs → known_of ended ≡ end (known_of within.scope)
    → StaysSo (record within { scope = ended }) w → FollowsAlt s w around cs
alt_follows around exits cs begun ended first begins inner ends last =
    let a = (surroundings_of around).around in
    record {
      known = last.known ∙ ends ∙ ap end inner.known
          ∙ ap (λ k. end (after_components a (Mark mark.Alt) cs k)) (begins ∙ ap begin first.known);
      frame = last.frame ∙ inner.frame ∙ first.frame;
    }

-- what is so of a success
pub where_ok : {A E : Type 0} (r : Result A E) {P Q : A → Type 0} → ((x : A) → P x → Q x) → IfOk r P → IfOk r Q
where_ok (Ok x) f h = f x h
where_ok (Err e) f h = tt

pub both_ok : {A E : Type 0} (r : Result A E) {P Q R : A → Type 0} → ((x : A) → P x → Q x → R x) → IfOk r P → IfOk r Q
    → IfOk r R
both_ok (Ok x) f g h = f x g h
both_ok (Err e) f g h = tt

pub writes_branch : (around : calling.Surroundings) (line : ℕ) (g : Guard) (p : Process) (x : Exits)
    (s row guard within moved w : ProcessWriter) (stops : Option ℕ)
    → row.listing ≡ s.listing ++ row_of x.here (frame_seen s.frame) (known_of s.scope) ∷ [] → site_of row ≡ site_of s
    → Chooses row guard x.next stops g → WritesProcess guard within around p
    → moved.listing ≡ within.listing ++ Jump x.end ∷ [] → known_of moved.scope ≡ next (known_of within.scope)
    → frame_seen moved.frame ≡ frame_seen within.frame → moved.label ≡ within.label → WritesStop moved w stops
    → WritesBranch s w around x (Guarded line g p)
writes_branch around line g p x s row guard within moved w stops first same chosen process jumps moves named counted
    ends =
    let here = surroundings_of around in
    let a = here.around in
    let z = site_of s in
    let wanted = stops_at z x.next (condition_in g) in
    let done = after_component a (Mark mark.Alt) (Guarded line g p) z.known in
    let code = process_code here p (in_branch x.next g z) in
    let start = row_of x.here z.frame z.known ∷ guard_code z x.next g in
    let behind = Jump x.end ∷ stopping wanted z.frame done in
    let chosen_at : site_of guard ≡ in_branch x.next g (site_of row) =
    λ i. record { frame = chosen.frame i; known = chosen.known i; label = chosen.label i } in
    let place : site_of guard ≡ in_branch x.next g z = chosen_at ∙ ap (in_branch x.next g) same in
    let known : known_of moved.scope ≡ done =
    moves ∙ ap next (process.known ∙ ap (λ (y : Site). inside a p y.known) place) in
    let frame : frame_seen moved.frame ≡ z.frame = named ∙ process.frame ∙ ap (λ (y : Site). y.frame) place in
    let stopped : stops ≡ wanted = chosen.stops ∙ ap (λ (y : Site). stops_at y x.next (condition_in g)) same in
    let begun : guard.listing ≡ s.listing ++ start =
    chosen.code ∙ (λ i. first i ++ guard_code (same i) x.next g)
    ∙ append_assoc s.listing (row_of x.here z.frame z.known ∷ []) (guard_code z x.next g) in
    let written : Appends guard.listing within.listing within.label code =
    subst (λ (y : Site). Appends guard.listing within.listing within.label (process_code here p y)) place
    process.code in
    let rest : w.listing ≡ within.listing ++ behind =
    ends.code ∙ (λ i. jumps i ++ stopping (stopped i) (frame i) (known i))
    ∙ append_assoc within.listing (Jump x.end ∷ []) (stopping wanted z.frame done) in
    let labels : w.label ≡ within.label = ap (λ (y : Site). y.label) ends.site ∙ counted in
    record {
      code = subst (λ n. Appends s.listing w.listing n (branch_code here x (Guarded line g p) z)) (sym labels)
          (appends_before (closed_by behind code) s.listing guard.listing w.listing start within.label begun
          (appends_closed code guard.listing within.listing w.listing behind within.label written rest));
      known = ap (λ (y : Site). y.known) ends.site ∙ known;
      frame = ap (λ (y : Site). y.frame) ends.site ∙ frame;
    }

count_pushed : {part : Part} (found : Components part) (cs : List (Component part))
    → count_of (fold Further found cs) ≡ count_of found + length cs
count_pushed found [] = grind arith
count_pushed found (c ∷ cs) = grind (arith, count_pushed (Further found c) cs)

counted : {part : Part} {A : Type 0} (f : A → Component part) (xs : List A) (i : ℕ) → i < length xs
    → count_of (all_of (map f (take i xs))) ≡ i
counted f xs i h =
    count_pushed NoComponent (map f (take i xs)) ∙ simp (length-map, length-take) (omega arith)

pub branches_next : {A : Type 0} (around : calling.Surroundings) (exits : ℕ → Exits) (f : A → Component Branches)
    (xs : List A) (i : ℕ) (x : A) (e : Exits) {s t w : ProcessWriter} → i < length xs → x ≡ get_or xs i x → e ≡ exits i
    → WritesBranches s t around exits (all_of (map f (take i xs))) → WritesBranch t w around e (f x)
    → WritesBranches s w around exits (all_of (map f (take (i + 1) xs)))
branches_next around exits f xs i x e {s} {t} {w} h is leads first one =
    let here = surroundings_of around in
    let a = here.around in
    let cs = all_of (map f (take i xs)) in
    let z = at_place (after_components a (Mark mark.Alt) cs (known_of s.scope)) in
    let at : e ≡ exits (count_of cs) = leads ∙ ap exits (sym (counted f xs i h)) in
    subst (λ cs. WritesBranches s w around exits cs)
    (sym (all_push f (take i xs) (take (i + 1) xs) x (taken_one xs i x x h is)))
    (record {
      code = appends_then (branches_code here exits cs (site_of s))
          (λ label. branch_code here (exits (count_of cs)) (f x) (z label (site_of s)))
          s.listing t.listing w.listing t.label w.label first.code
          (subst (λ (y : Exits × Site). Appends t.listing w.listing w.label (branch_code here y.0 (f x) y.1))
          (λ j. (at j, site_after first j)) one.code);
      known = one.known ∙ ap (after_component a (Mark mark.Alt) (f x)) first.known;
      frame = one.frame ∙ first.frame;
    })

pub branches_done : {A : Type 0} (around : calling.Surroundings) (exits : ℕ → Exits) (f : A → Component Branches)
    (xs : List A) (i : ℕ) {s t : ProcessWriter} → length xs ≤ i
    → WritesBranches s t around exits (all_of (map f (take i xs)))
    → WritesBranches s t around exits (all_of (map f xs))
branches_done around exits f xs i {s} {t} h x =
    subst (λ ys. WritesBranches s t around exits (all_of (map f ys))) (take_all i xs h) x

-- ---- turn by turn

some_more : (around : calling.Surroundings) (exits : ℕ → Exits) (x : Replication) (c : Component Branches) (n : ℕ)
    {s t w : ProcessWriter} (scope : code_scope.Scope)
    → known_of scope ≡ with_entries (add x.name.now (index_in (seen_repeats x.repeats) n)) (known_of t.scope)
    → WritesSome s t around exits x c n → WritesBranch (record t { scope = scope }) w around (exits n) c
    → WritesSome s w around exits x c (suc n)
some_more around exits x c n {s} {t} {w} scope enters first one =
    let here = surroundings_of around in
    let a = here.around in
    let repeats = seen_repeats x.repeats in
    let known = enters ∙ ap (with_entries (add x.name.now (index_in repeats n))) first.known in
    record {
      code = appends_then (some_code here exits x c n (site_of s))
          (λ label. branch_code here (exits n) c
          (turn_site a x c (site_of s) n label)) s.listing
          t.listing w.listing t.label w.label first.code
          (subst (λ (z : Site). Appends t.listing w.listing w.label (branch_code here (exits n) c z))
          (λ i. record { frame = first.frame i; known = known i; label = t.label }) one.code);
      known = one.known ∙ ap (after_component a (Mark mark.Alt) c) known;
      frame = one.frame ∙ first.frame;
    }

pub some_next : (around : calling.Surroundings) (exits : ℕ → Exits) (x : Replication) (c : Component Branches) (n : ℕ)
    (m : Meaning) (e : Exits) {s t w : ProcessWriter} (scope : code_scope.Scope)
    → m ≡ index_in (seen_repeats x.repeats) n → known_of scope ≡ with_entries (add x.name.now m) (known_of t.scope)
    → e ≡ exits n → WritesSome s t around exits x c n → WritesBranch (record t { scope = scope }) w around e c
    → WritesSome s w around exits x c (n + 1)
some_next around exits x c n m e {s} {t} {w} scope means enters leads before one =
    let known = enters ∙ ap (λ m. with_entries (add x.name.now m) (known_of t.scope)) means in
    let here = subst (λ e. WritesBranch (record t { scope = scope }) w around e c) leads one in
    subst (λ k. WritesSome s w around exits x c k) (sym (add-one n))
    (some_more around exits x c n scope known before here)

-- ---- what is known after the turns

turns_end : (a : Around) (line : ℕ) (r : Replicator) (c : Component Branches) (k : Known)
    → (let repeats = repeats_of (is_before line a.uncounted) k.entries false r in
    end (turn_by_turn (turned a (Mark mark.Alt) r.name c repeats) (times repeats) (begin k)) ≡ after_turns a line r c k)
turns_end a line r c k =
    let repeats = repeats_of (is_before line a.uncounted) k.entries false r in
    turns_ended a (Mark mark.Alt) r.name c repeats [] k tt tt refl (λ all. component_stays a all (Mark mark.Alt) c tt)
    (λ m. refl) repeats.happens

-- ---- an ALT under a replicator

-- The names are left that the branches had, with this number before them.
pub follows_repeated : (around : calling.Surroundings) (exits : ℕ → Exits) (line names : ℕ) (r : Replicator)
    (c : Component Branches)
    (x : Replication) {s t u within w : ProcessWriter} (left : code_frame.Frame) (ended : code_scope.Scope)
    → x.name.now ≡ r.name
    → seen_repeats x.repeats
    ≡ repeats_of (is_before line (surroundings_of around).around.uncounted) (known_of s.scope).entries false r
    → x.count ≡ times (seen_repeats x.repeats) → StaysSo s t → known_of u.scope ≡ begin (known_of t.scope)
    → frame_seen u.frame ≡ with_home Nowhere (frame_seen t.frame) → WritesSome u within around exits x c x.count
    → names ≡ length t.frame.homes.items
    → homes_seen left.homes.items ≡ take names (homes_seen within.frame.homes.items) → left.top ≡ t.frame.top
    → left.outer ≡ within.frame.outer → known_of ended ≡ end (known_of within.scope)
    → known_of w.scope ≡ known_of ended → frame_seen w.frame ≡ frame_seen left → FollowsRepeatedAlt s w around line r c
follows_repeated around exits line names r c x {s} {t} {u} {within} {w} left ended name is count stays begun named turns
    long homes top hidden ends known frame =
    let a = (surroundings_of around).around in
    let after = λ (n : List ℕ) (q : Repeats) (m : ℕ) (k : Known).
    end (turn_by_turn (turned a (Mark mark.Alt) n c q) m k) in
    let whole = frame_left names t.frame within.frame left long homes top hidden (turns.frame ∙ named) in
    record {
      known = known ∙ ends ∙ ap end turns.known
          ∙ (λ i. after (name i) (seen_repeats x.repeats) (count i) (begun i))
          ∙ (λ i. after r.name (is i) (times (is i)) (begin (stays.known i)))
          ∙ turns_end a line r c (known_of s.scope);
      frame = frame ∙ whole ∙ stays.frame;
    }
