-- A choice under a replicator is written turn by turn.
use Rattle.std.proofs.Common.{◌≡◌, ◌≢◌, ℕ, zero, suc, ◌+◌, Bool, true, false, cond, List, [], ◌∷◌, ◌++◌, length, take}
use Rattle.std.proofs.Common.{Option, refl, sym, ap, subst, ◌∙◌, add-one, arith}
use Rattle.occam_layout.specs.declared.mark.Mark.TheVariants as mark
use Rattle.occam_parser.specs.declared.tree.Choice.{Choice}
use Rattle.occam_parser.specs.Terminals.{Mark}
use Rattle.occam_parser.specs.Expressions.{Expression}
use Rattle.occam_parser.specs.Views.{expression_of}
use Rattle.occam_parser.specs.BlockViews.{process_of, choice_of}
use Rattle.occam_parser.specs.Lines.{Replicator}
use Rattle.occam_parser.specs.Blocks.{Process, Choices, Component, Chosen}
use Rattle.scalar_ranges.specs.declared.scope.Scope as code_scope
use Rattle.scalar_ranges.specs.Entries.{Meaning}
use Rattle.scalar_ranges.specs.Moves.{Known, begin, end}
use Rattle.scalar_ranges.specs.Scopes.{known_of}
use Rattle.code_generator.specs.declared.calling.Surroundings as calling
use Rattle.code_generator.specs.CallViews.{surroundings_of}
use Rattle.program_uses.specs.Actions.{Around, is_before}
use Rattle.program_uses.specs.Changes.{changed_by_construct}
use Rattle.program_uses.specs.Declaring.{add}
use Rattle.program_uses.specs.Indices.{Repeats, repeats_of, index_in, turn_by_turn}
use Rattle.usage_checks.specs.AfterProcesses.{begun_body, after_construct, after_component}
use Rattle.usage_checks.specs.NameRules.{with_entries}
use Rattle.usage_checks.proofs.RangesStay.{component_stays}
use Rattle.code_pieces.specs.declared.operations.TheConstants.{STOP_PROCESS}
use Rattle.code_pieces.specs.Pieces.{Piece, Code, operates, closed_by}
use Rattle.line_pieces.specs.declared.frame.Frame as code_frame
use Rattle.code_generator.specs.declared.processes.ProcessWriter.{ProcessWriter}
use Rattle.line_pieces.specs.Homes.{Nowhere}
use Rattle.line_pieces.specs.Declarations.{Frame, with_home}
use Rattle.line_pieces.specs.HomeViews.{homes_seen}
use Rattle.line_pieces.specs.FrameViews.{frame_seen}
use Rattle.code_generator.specs.Processes.{Site, Surroundings, row_of, times, turned, turn_begun, is_true, ThenChoice}
use Rattle.code_generator.specs.Processes.{IfEnding, Stops, Always, EndedChoices, taken_code, tested_code, ending_code}
use Rattle.code_generator.specs.Processes.{all_tested, choices_code, with_ending, under_if, construct_code, placed}
use Rattle.code_generator.specs.Written.{site_of, Appends, Writes, WritesConstruct, WritesAs, before_turns}
use Rattle.code_generator.specs.Written.{placed_turns, after_choice_turns, turns_tested, WritesSomeTurns, turns_at}
use Rattle.code_generator.specs.Written.{WritesTurns}
use Rattle.code_generator.proofs.ChoicesWritten.{choice_seen}
use Rattle.code_generator.proofs.PartsWritten.{appends_closed, writes_then}
use Rattle.code_generator.proofs.TurnsEnd.{frame_left, turns_ended}

-- ---- one turn after the other

-- what is known where a turn begins, after those before it
pub turn_entered : (a : Around) (name : List ℕ) (repeats : Repeats) (c : Component Choices) (n : ℕ) (m : Meaning)
    (k before begun : Known) → m ≡ index_in repeats n → begun ≡ with_entries (add name m) before
    → before ≡ after_choice_turns a name c repeats k n → begun ≡ turn_begun a (Mark mark.If) name c repeats k n
turn_entered a name repeats c n m k before begun means enters first =
    enters ∙ (λ i. with_entries (add name (means i)) (first i))

pub turns_next : (around : calling.Surroundings) (end : ℕ) (name : List ℕ) (repeats : Repeats) (c : Component Choices)
    (n : ℕ) (m : Meaning) {s t w : ProcessWriter} (scope : code_scope.Scope) → m ≡ index_in repeats n
    → known_of scope ≡ with_entries (add name m) (known_of t.scope)
    → WritesSomeTurns s t around end name repeats c n
    → WritesAs (record t { scope = scope }) w around (tested_code end) c
    → WritesSomeTurns s w around end name repeats c (n + 1)
turns_next around end name repeats c n m {s} {t} {w} scope means enters first one =
    let here = surroundings_of around in
    let a = here.around in
    let k = known_of s.scope in
    let begun = turn_entered a name repeats c n m k (known_of t.scope) (known_of scope) means enters first.known in
    subst (λ n. WritesSomeTurns s w around end name repeats c n) (sym (add-one n))
    (writes_then (all_tested end (frame_seen s.frame) (placed_turns here name c repeats k n) s.label)
    (λ g label. tested_code end g (placed here c (turn_begun a (Mark mark.If) name c repeats k n)) label) first
    (subst (λ k. Appends t.listing w.listing w.label (tested_code end (frame_seen t.frame) (placed here c k) t.label))
    begun one.code)
    (one.known ∙ ap (after_component a (Mark mark.If) c) begun) one.frame)

-- ---- how the turns end

-- They end as those that are tested do, and with something after them.
abbrev EndsSomehow : Surroundings → List ℕ → Component Choices → Repeats → Known → (count tested : ℕ) → Type 0
EndsSomehow w name c repeats k count tested =
    (x : IfEnding) × (with_ending (placed_turns w name c repeats k count)
    ≡ record { tested = placed_turns w name c repeats k tested; ending = x })

somehow : (w : Surroundings) (name : List ℕ) (line : ℕ) (e : Expression) (p : Process) (repeats : Repeats) (k : Known)
    (count : ℕ) (holds : Bool) → is_true e ≡ holds
    → EndsSomehow w name (Chosen line e p) repeats k count (turns_tested count holds)
somehow w name line e p repeats k zero true is = (Stops, refl)
somehow w name line e p repeats k zero false is = (Stops, refl)
somehow w name line e p repeats k (suc n) holds is =
    let c = Chosen line e p in
    let cs = placed_turns w name c repeats k in
    let last = placed w c (turn_begun w.around (Mark mark.If) name c repeats k n) in
    by_truth holds (ap (λ holds. cond holds (record { tested = cs n; ending = Always last })
    (record { tested = ThenChoice (cs n) last; ending = Stops })) is)
  where
    by_truth : (holds : Bool)
        → with_ending (placed_turns w name (Chosen line e p) repeats k (suc n)) ≡ cond holds (record {
          tested = placed_turns w name (Chosen line e p) repeats k n;
          ending = Always (placed w (Chosen line e p)
              (turn_begun w.around (Mark mark.If) name (Chosen line e p) repeats k n));
        }) (record { tested = placed_turns w name (Chosen line e p) repeats k (suc n); ending = Stops })
        → EndsSomehow w name (Chosen line e p) repeats k (suc n) (turns_tested (suc n) holds)
    by_truth true h = (
      Always (placed w (Chosen line e p) (turn_begun w.around (Mark mark.If) name (Chosen line e p) repeats k n)),
      subst (λ m. with_ending (placed_turns w name (Chosen line e p) repeats k (suc n)) ≡ record {
        tested = placed_turns w name (Chosen line e p) repeats k m;
        ending = Always (placed w (Chosen line e p)
            (turn_begun w.around (Mark mark.If) name (Chosen line e p) repeats k n));
      }) (omega arith) h,
    )
    by_truth false h = (Stops, h)

pub ends_somehow : (w : Surroundings) (name : List ℕ) (line : ℕ) (e : Expression) (p : Process)
    (c : Component Choices) (repeats : Repeats) (k : Known) (count tested : ℕ) → Chosen line e p ≡ c
    → tested ≡ turns_tested count (is_true e) → EndsSomehow w name c repeats k count tested
ends_somehow w name line e p c repeats k count tested is found =
    subst (λ (v : Component Choices × ℕ). EndsSomehow w name v.0 repeats k count v.1) (λ i. (is i, sym found i))
    (somehow w name line e p repeats k count (is_true e) refl)

-- where all are tested
stops_after : (w : Surroundings) (name : List ℕ) (line : ℕ) (e : Expression) (p : Process) (repeats : Repeats)
    (k : Known) (count : ℕ) (holds : Bool) → is_true e ≡ holds → turns_tested count holds ≡ count
    → with_ending (placed_turns w name (Chosen line e p) repeats k count)
    ≡ record { tested = placed_turns w name (Chosen line e p) repeats k count; ending = Stops }
stops_after w name line e p repeats k zero holds is all = refl
stops_after w name line e p repeats k (suc n) true is all = absurd (omega (arith, all))
stops_after w name line e p repeats k (suc n) false is all =
    let c = Chosen line e p in
    let cs = placed_turns w name c repeats k n in
    let last = placed w c (turn_begun w.around (Mark mark.If) name c repeats k n) in
    ap (λ holds. cond holds (record { tested = cs; ending = Always last })
    (record { tested = ThenChoice cs last; ending = Stops })) is

pub turns_stopped : (around : calling.Surroundings) (end : ℕ) (name : List ℕ) (repeats : Repeats) (x : Choice)
    (count tested n : ℕ) {s t : ProcessWriter} (listing : List Piece)
    → tested ≡ turns_tested count (is_true (expression_of x.condition)) → tested ≡ count → n ≡ tested
    → WritesSomeTurns s t around end name repeats (choice_of x) n
    → listing ≡ t.listing ++ operates STOP_PROCESS ∷ []
    → WritesTurns s (record t { listing = listing }) around end name repeats count (choice_of x)
turns_stopped around end name repeats x count tested n {s} {t} listing found whole all turns stops =
    let here = surroundings_of around in
    let z = site_of s in
    let c = choice_of x in
    let e = expression_of x.condition in
    let final = record t { listing = listing } in
    let k = after_choice_turns here.around name c repeats z.known count in
    let before = subst (λ n. WritesSomeTurns s t around end name repeats c n) (all ∙ whole) turns in
    let ends = ap (λ c. with_ending (placed_turns here name c repeats z.known count)) (sym (choice_seen x))
    ∙ stops_after here name x.line e (process_of x.process) repeats z.known count (is_true e) refl (sym found ∙ whole)
    ∙ ap (λ c. record { tested = placed_turns here name c repeats z.known count; ending = Stops }) (choice_seen x) in
    subst (λ x. Writes s final (choices_code end z.frame x z.label) k) (sym ends)
    (writes_then (all_tested end z.frame (placed_turns here name c repeats z.known count) z.label)
    (λ g label. ending_code end g Stops label) before (stops, refl) before.known refl)

-- where the last one has no test
always_after : (w : Surroundings) (name : List ℕ) (line : ℕ) (e : Expression) (p : Process) (repeats : Repeats)
    (k : Known) (count tested : ℕ) (holds : Bool) → is_true e ≡ holds → tested ≡ turns_tested count holds
    → tested ≢ count → (let c = Chosen line e p in with_ending (placed_turns w name c repeats k count) ≡ record {
      tested = placed_turns w name c repeats k tested;
      ending = Always (placed w c (turn_begun w.around (Mark mark.If) name c repeats k tested));
    })
always_after w name line e p repeats k count tested false is found some = absurd (some found)
always_after w name line e p repeats k zero tested true is found some = absurd (some (omega (arith, found)))
always_after w name line e p repeats k (suc n) tested true is found some =
    let c = Chosen line e p in
    let same : n ≡ tested = omega (arith, found) in
    let cs = placed_turns w name c repeats k in
    let last = λ (m : ℕ). placed w c (turn_begun w.around (Mark mark.If) name c repeats k m) in
    ap (λ holds. cond holds (record { tested = cs n; ending = Always (last n) })
    (record { tested = ThenChoice (cs n) (last n); ending = Stops })) is
    ∙ ap (λ m. record { tested = cs m; ending = Always (last m) }) same

pub last_untested : (w : Surroundings) (name : List ℕ) (line : ℕ) (e : Expression) (p : Process)
    (c : Component Choices) (repeats : Repeats) (k : Known) (count tested : ℕ) → Chosen line e p ≡ c
    → tested ≡ turns_tested count (is_true e) → tested ≢ count
    → with_ending (placed_turns w name c repeats k count) ≡ record {
      tested = placed_turns w name c repeats k tested;
      ending = Always (placed w c (turn_begun w.around (Mark mark.If) name c repeats k tested));
    }
last_untested w name line e p c repeats k count tested is found some =
    subst (λ c. with_ending (placed_turns w name c repeats k count) ≡ record {
      tested = placed_turns w name c repeats k tested;
      ending = Always (placed w c (turn_begun w.around (Mark mark.If) name c repeats k tested));
    }) is (always_after w name line e p repeats k count tested (is_true e) refl found some)

-- then there is one more
one_more : (count tested : ℕ) (holds : Bool) → tested ≡ turns_tested count holds → tested ≢ count → suc tested ≡ count
one_more count tested false found some = absurd (some found)
one_more zero tested true found some = absurd (some (omega (arith, found)))
one_more (suc n) tested true found some = omega (arith, found)

pub turns_taken : (around : calling.Surroundings) (end : ℕ) (name : List ℕ) (repeats : Repeats) (x : Choice)
    (count tested n : ℕ) (m : Meaning) {s t w : ProcessWriter} (scope : code_scope.Scope)
    → tested ≡ turns_tested count (is_true (expression_of x.condition)) → tested ≢ count → n ≡ tested
    → m ≡ index_in repeats tested → known_of scope ≡ with_entries (add name m) (known_of t.scope)
    → WritesSomeTurns s t around end name repeats (choice_of x) n
    → WritesAs (record t { scope = scope }) w around taken_code (choice_of x)
    → WritesTurns s w around end name repeats count (choice_of x)
turns_taken around end name repeats x count tested n m {s} {t} {w} scope found some all means enters turns one =
    let here = surroundings_of around in
    let a = here.around in
    let z = site_of s in
    let c = choice_of x in
    let e = expression_of x.condition in
    let first = subst (λ k. WritesSomeTurns s t around end name repeats c k) all turns in
    let begun = turn_entered a name repeats c tested m z.known (known_of t.scope) (known_of scope) means enters
    first.known in
    let last = placed here c (turn_begun a (Mark mark.If) name c repeats z.known tested) in
    let known = after_choice_turns a name c repeats z.known in
    subst (λ (v : EndedChoices × Known). Writes s w (choices_code end z.frame v.0 z.label) v.1)
    (λ i. (
      sym (last_untested here name x.line e (process_of x.process) c repeats z.known count tested (choice_seen x) found
          some) i,
      known (one_more count tested (is_true e) found some i),
    ))
    (writes_then (all_tested end z.frame (placed_turns here name c repeats z.known tested) z.label)
    (λ g label. taken_code g last label) first
    (subst (λ k. Appends t.listing w.listing w.label (taken_code (frame_seen t.frame) (placed here c k) t.label)) begun
    one.code)
    (one.known ∙ ap (after_component a (Mark mark.If) c) begun) one.frame)

-- ---- what is known after the turns

pub turns_end : (a : Around) (line : ℕ) (r : Replicator) (c : Component Choices) (k : Known)
    → (let repeats = repeats_of (is_before line a.uncounted) k.entries false r in
    end (turn_by_turn (turned a (Mark mark.If) r.name c repeats) (times repeats) (begin k))
    ≡ after_construct a line (under_if r c) k)
turns_end a line r c k =
    let repeats = repeats_of (is_before line a.uncounted) k.entries false r in
    turns_ended a (Mark mark.If) r.name c repeats (changed_by_construct a.signatures k.entries (under_if r c)) k tt tt
    refl (λ all. component_stays a all (Mark mark.If) c tt) (λ m. refl) repeats.happens

-- ---- an IF under a replicator

-- its choice in each turn
abbrev pub repeated_turns : Surroundings → ℕ → Replicator → Component Choices → Site → Option Code
repeated_turns here line r c s =
    let repeats = repeats_of (is_before line here.around.uncounted) s.known.entries false r in
    turns_at here s.label r.name c repeats (times repeats) (before_turns s (begin s.known))

pub repeated_if_is : (here : Surroundings) (line : ℕ) (r : Replicator) (c : Component Choices) (s : Site)
    → construct_code here line (under_if r c) s
    ≡ closed_by (row_of s.label s.frame (after_construct here.around line (under_if r c) s.known) ∷ [])
    (repeated_turns here line r c s)
repeated_if_is here line r c s =
    ap (closed_by (row_of s.label s.frame (after_construct here.around line (under_if r c) s.known) ∷ []))
    (by_happens (repeats_of (is_before line here.around.uncounted) s.known.entries false r).happens)
  where
    repeats : Repeats
    repeats = repeats_of (is_before line here.around.uncounted) s.known.entries false r

    changed : List ℕ
    changed = changed_by_construct here.around.signatures s.known.entries (under_if r c)

    by_happens : (happens : Bool)
        → turns_at here s.label r.name c repeats (cond happens repeats.turns.count 0)
        (before_turns s (begun_body (Mark mark.If) changed happens s.known))
        ≡ turns_at here s.label r.name c repeats (cond happens repeats.turns.count 0)
        (before_turns s (begin s.known))
    by_happens true = refl
    by_happens false = refl

-- Where the turns of a choice begin: its index has come, and these turns are its replicator's.
pub record TurnsBegin (around : calling.Surroundings) (line : ℕ) (r : Replicator) (s begun : ProcessWriter)
    (repeats : Repeats) : Type 0 where
  pub is : repeats
      ≡ repeats_of (is_before line (surroundings_of around).around.uncounted) (known_of s.scope).entries false r
  pub listing : begun.listing ≡ s.listing
  pub place : site_of begun ≡ before_turns (site_of s) (begin (known_of s.scope))

pub turns_begin : (around : calling.Surroundings) (line : ℕ) (r : Replicator) (s : ProcessWriter) {label : ℕ}
    {repeats : Repeats} {counted : Bool} (scope : code_scope.Scope) (frame : code_frame.Frame)
    → frame_seen frame ≡ with_home Nowhere (frame_seen s.frame) → known_of scope ≡ begin (known_of s.scope)
    → label ≡ s.label + 1 → repeats ≡ repeats_of counted (known_of s.scope).entries false r
    → counted ≡ is_before line (surroundings_of around).around.uncounted
    → TurnsBegin around line r s (record s { label = label; scope = scope; frame = frame }) repeats
turns_begin around line r s scope frame named begins next is counted = record {
  is = is ∙ (λ i. repeats_of (counted i) (known_of s.scope).entries false r);
  listing = refl;
  place = λ i. record { frame = named i; known = begins i; label = next i };
}

-- What is behind the turns of a choice, where its index is left and their block has ended.
pub record TurnsLeft (around : calling.Surroundings) (line : ℕ) (r : Replicator) (c : Component Choices)
    (s within : ProcessWriter) (left : code_frame.Frame) (ended : code_scope.Scope) : Type 0 where
  pub code : Appends s.listing within.listing within.label
      (repeated_turns (surroundings_of around) line r c (site_of s))
  pub known : known_of ended ≡ after_construct (surroundings_of around).around line (under_if r c) (known_of s.scope)
  pub frame : frame_seen left ≡ frame_seen s.frame

pub turns_left : {around : calling.Surroundings} {line : ℕ} {r : Replicator} {s begun within : ProcessWriter}
    {repeats : Repeats} {count : ℕ} (c : Component Choices) (names : ℕ) (left : code_frame.Frame)
    (ended : code_scope.Scope) → TurnsBegin around line r s begun repeats → count ≡ times repeats
    → WritesTurns begun within around s.label r.name repeats count c → names ≡ length s.frame.homes.items
    → homes_seen left.homes.items ≡ take names (homes_seen within.frame.homes.items) → left.top ≡ s.frame.top
    → left.outer ≡ within.frame.outer → known_of ended ≡ end (known_of within.scope)
    → TurnsLeft around line r c s within left ended
turns_left {around = around} {line = line} {r = r} {s = s} {begun = begun} {within = within} {repeats = repeats} c names
    left ended begins counted written long homes top hidden ends =
    let here = surroundings_of around in
    let a = here.around in
    let z = site_of s in
    let x = subst (λ n. WritesTurns begun within around s.label r.name repeats n c) counted written in
    record {
      code = subst (λ (v : List Piece × Repeats × Site).
          Appends v.0 within.listing within.label (turns_at here z.label r.name c v.1 (times v.1) v.2))
          (λ i. (begins.listing i, begins.is i, begins.place i)) x.code;
      known = ends
          ∙ ap end (x.known ∙ (λ i. turn_by_turn (turned a (Mark mark.If) r.name c (begins.is i)) (times (begins.is i))
          (begins.place i).known))
          ∙ turns_end a line r c z.known;
      frame = frame_left names s.frame within.frame left long homes top hidden
          (x.frame ∙ ap (λ (y : Site). y.frame) begins.place);
    }

pub writes_repeated_if : (around : calling.Surroundings) (line : ℕ) (r : Replicator) (c : Component Choices)
    (s within after : ProcessWriter) (left : code_frame.Frame) (ended : code_scope.Scope)
    → TurnsLeft around line r c s within left ended
    → after.listing ≡ within.listing ++ row_of s.label (frame_seen left) (known_of ended) ∷ []
    → site_of after ≡ site_of (record within { scope = ended; frame = left })
    → WritesConstruct s after around line (under_if r c)
writes_repeated_if around line r c s within after left ended x row still =
    let here = surroundings_of around in
    let z = site_of s in
    let done = after_construct here.around line (under_if r c) z.known in
    let turns = repeated_turns here line r c z in
    let rest : after.listing ≡ within.listing ++ row_of z.label z.frame done ∷ [] =
    row ∙ (λ i. within.listing ++ row_of z.label (x.frame i) (x.known i) ∷ []) in
    let labels : after.label ≡ within.label = ap (λ (y : Site). y.label) still in
    record {
      code = subst (λ o. Appends s.listing after.listing after.label o) (sym (repeated_if_is here line r c z))
          (subst (λ n. Appends s.listing after.listing n (closed_by (row_of z.label z.frame done ∷ []) turns))
          (sym labels)
          (appends_closed turns s.listing within.listing after.listing (row_of z.label z.frame done ∷ [])
          within.label x.code rest));
      known = ap (λ (y : Site). y.known) still ∙ x.known;
      frame = ap (λ (y : Site). y.frame) still ∙ x.frame;
    }
