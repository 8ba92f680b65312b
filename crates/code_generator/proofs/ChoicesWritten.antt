-- The choices of an IF are written one after the other, and then what comes after those that are tested.
use Rattle.std.proofs.Common.{◌≡◌, ℕ, ◌+◌, ◌<◌, ◌≤◌, true, false, cond, List, [], ◌∷◌, ◌++◌, length, map, take, get_or}
use Rattle.std.proofs.Common.{Option, Bor, refl, sym, ap, subst, ◌∙◌, arith, rules}
use Rattle.std.proofs.lemmas.List.{append_assoc, take_all}
use Rattle.occam_layout.specs.declared.mark.Mark.TheVariants as mark
use Rattle.occam_parser.specs.declared.tree.Body.{the_lemmas}
use Rattle.occam_parser.specs.declared.tree.Choice.{Choice}
use Rattle.occam_parser.specs.Terminals.{Mark}
use Rattle.occam_parser.specs.Expressions.{Expression}
use Rattle.occam_parser.specs.Views.{expression_of}
use Rattle.occam_parser.specs.Blocks.{Process, Part, Choices, Components, Further, Component, Chosen}
use Rattle.occam_parser.specs.BlockViews.{all_of, process_of, choice_of, all_choices}
use Rattle.occam_parser.proofs.SeenBlocks.{all_push}
use Rattle.scalar_ranges.specs.declared.scope.Scope as code_scope
use Rattle.scalar_ranges.specs.Moves.{Known, begin, next, end}
use Rattle.scalar_ranges.specs.Scopes.{known_of}
use Rattle.code_generator.specs.declared.calling.Surroundings as calling
use Rattle.code_generator.specs.declared.choices.IfEnding as code_ending
use Rattle.code_generator.specs.declared.choices.IfEnding.TheVariants as if_ending
use Rattle.code_generator.specs.CallViews.{surroundings_of}
use Rattle.program_uses.proofs.Adding.{taken_one}
use Rattle.usage_checks.specs.AfterProcesses.{inside, after_components, after_component, chosen}
use Rattle.code_generator.specs.declared.processes.ProcessWriter.{ProcessWriter}
use Rattle.code_pieces.specs.Pieces.{Piece, Jump, Code, no_code, then_code, closed_by}
use Rattle.line_pieces.specs.FrameViews.{frame_seen}
use Rattle.line_pieces.specs.Actions.{test_code}
use Rattle.line_pieces.specs.Declarations.{Frame}
use Rattle.code_generator.specs.Processes.{Site, Surroundings, at_place, row_of, is_true, is_skip, process_code}
use Rattle.code_generator.specs.Processes.{PlacedChoice, PlacedChoices, NoChoice, ThenChoice, Stops, Always, Opens}
use Rattle.code_generator.specs.Processes.{EndedChoices, taken_code, tested_code, open_code, ending_code}
use Rattle.code_generator.specs.Processes.{choices_code, opening, with_opening, placed_choices, placed}
use Rattle.code_generator.specs.Written.{site_of, Appends, Writes, WritesProcess, choice_as, WritesAs, tested_at}
use Rattle.code_generator.specs.Written.{WritesTested, ending_at, after_ending, WritesEnding, if_choices}
use Rattle.code_generator.specs.Written.{placed_ending, LeavesSkip, AreEnded, choices_at, WritesChoices}
use Rattle.code_generator.specs.Written.{after_if, if_at, WritesIf}
use Rattle.code_generator.proofs.PartsWritten.{appends_before, appends_closed, then_none, writes_then}
use Rattle.code_generator.proofs.SkipsSeen.{skip_code}

pub choice_seen : (x : Choice)
    → Chosen x.line (expression_of x.condition) (process_of x.process) ≡ choice_of x
choice_seen x = search (rules, the_lemmas)

-- ---- one choice after the other

pub tested_next : {A : Type 0} (around : calling.Surroundings) (end : ℕ) (f : A → Component Choices) (xs : List A)
    (i : ℕ) (x : A) {s t w : ProcessWriter} → i < length xs → x ≡ get_or xs i x
    → WritesTested s t around end (all_of (map f (take i xs))) → WritesAs t w around (tested_code end) (f x)
    → WritesTested s w around end (all_of (map f (take (i + 1) xs)))
tested_next around end f xs i x {s} {t} {w} h is first one =
    let here = surroundings_of around in
    let cs = all_of (map f (take i xs)) in
    subst (λ cs. WritesTested s w around end cs)
    (sym (all_push f (take i xs) (take (i + 1) xs) x (taken_one xs i x x h is)))
    (writes_then (tested_at here end cs (site_of s))
    (λ g label. tested_code end g
    (placed here (f x) (after_components here.around (Mark mark.If) cs (known_of s.scope))) label) first
    (subst
    (λ k. Appends t.listing w.listing w.label (tested_code end (frame_seen t.frame) (placed here (f x) k) t.label))
    first.known one.code)
    (one.known ∙ ap (after_component here.around (Mark mark.If) (f x)) first.known) one.frame)

pub tested_done : {A : Type 0} (around : calling.Surroundings) (end : ℕ) (f : A → Component Choices) (xs : List A)
    (i : ℕ) {s t : ProcessWriter} → length xs ≤ i → WritesTested s t around end (all_of (map f (take i xs)))
    → WritesTested s t around end (all_of (map f xs))
tested_done around end f xs i {s} {t} h x =
    subst (λ ys. WritesTested s t around end (all_of (map f ys))) (take_all i xs h) x

-- ---- what comes after them

-- `TRUE` with what does nothing has no code
skip_taken : (w : Surroundings) (f : Frame) (k : Known) (line : ℕ) (e : Expression) (p : Process)
    (c : Component Choices) (label : ℕ) → Chosen line e p ≡ c → is_skip p ≡ true
    → taken_code f (placed w c k) label ≡ no_code label
skip_taken w f k line e p c label is skips =
    ap (λ c. taken_code f (placed w c k) label) (sym is)
    ∙ skip_code w p (record { frame = f; known = chosen e k; label = label }) skips

pub ending_is : (w : Surroundings) (end : ℕ) (x : code_ending.IfEnding) (s : Site) → LeavesSkip x
    → ending_at w end x s ≡ ending_code end s.frame (placed_ending w x s.known) s.label
ending_is w end if_ending.Stops s skips = refl
ending_is w end (if_ending.Always last) s skips = refl
ending_is w end (if_ending.Opens opened last) s skips =
    let c = last.now in
    let first = choice_as (open_code end) w (choice_of opened.now) s in
    let k = after_component w.around (Mark mark.If) (choice_of opened.now) s.known in
    ap (then_code first) (λ i label. skip_taken w s.frame k c.line (expression_of c.condition) (process_of c.process)
    (choice_of c) label (choice_seen c) skips i)
    ∙ then_none first

pub choices_written : (around : calling.Surroundings) (end : ℕ) (cs : Components Choices) (xs : List Choice)
    (x : code_ending.IfEnding) {s t w : ProcessWriter} → AreEnded cs xs x
    → WritesTested s t around end (all_choices xs) → WritesEnding t w around end x → WritesChoices s w around end cs
choices_written around end cs xs x {s} {t} {w} are first rest =
    let here = surroundings_of around in
    let a = here.around in
    let z = site_of s in
    let k = after_components a (Mark mark.If) (all_choices xs) z.known in
    let tested = tested_at here end (all_choices xs) z in
    let next : Frame → ℕ → Option Code = λ g label. ending_code end g (placed_ending here x k) label in
    let code : Appends t.listing w.listing w.label (next (frame_seen t.frame) t.label) =
    subst
    (λ k. Appends t.listing w.listing w.label (ending_code end (frame_seen t.frame) (placed_ending here x k) t.label))
    first.known
    (subst (λ o. Appends t.listing w.listing w.label o) (ending_is here end x (site_of t) are.skips) rest.code) in
    let whole : Writes s w (then_code tested (next z.frame)) (after_ending a x k) =
    writes_then tested next first code (rest.known ∙ ap (after_ending a x) first.known) rest.frame in
    subst (λ (v : EndedChoices × Known). Writes s w (choices_code end z.frame v.0 z.label) v.1)
    (λ i. (sym (are.choices here z.known) i, sym (are.known a z.known) i)) whole

-- ---- how choices end

pub none_ended : (xs : List Choice) → length xs ≡ 0 → AreEnded (all_choices xs) xs if_ending.Stops
none_ended [] none = record { choices = λ w k. refl; known = λ a k. refl; skips = tt }
none_ended (x ∷ xs) none = absurd (omega (arith, none))

-- the last choice is tested, if its condition is not TRUE
tested_last : (w : Surroundings) (cs : Components Choices) (line : ℕ) (e : Expression) (p : Process) (k : Known)
    → is_true e ≡ false → if_choices w (Further cs (Chosen line e p)) k
    ≡ record { tested = placed_choices w (Further cs (Chosen line e p)) k; ending = Stops }
tested_last w cs line e p k other =
    let last = placed w (Chosen line e p) (after_components w.around (Mark mark.If) cs k) in
    ap (λ holds. with_opening (cond holds (record { tested = placed_choices w cs k; ending = Always last })
    (record { tested = ThenChoice (placed_choices w cs k) last; ending = Stops }))) other

pub stops_ended : (xs before : List Choice) (x : Choice) → xs ≡ before ++ x ∷ []
    → is_true (expression_of x.condition) ≡ false → AreEnded (all_choices xs) xs if_ending.Stops
stops_ended xs before x is other =
    let last = ap (Further (all_choices before)) (choice_seen x) ∙ sym (all_push choice_of before xs x is) in
    record {
      choices = λ w k. subst
          (λ cs. if_choices w cs k ≡ record { tested = placed_choices w cs k; ending = Stops }) last
          (tested_last w (all_choices before) x.line (expression_of x.condition) (process_of x.process) k other);
      known = λ a k. refl;
      skips = tt;
    }

-- the last choice has no test, if its condition is TRUE
untested_last : (w : Surroundings) (cs : Components Choices) (line : ℕ) (e : Expression) (p : Process) (k : Known)
    → is_true e ≡ true → if_choices w (Further cs (Chosen line e p)) k
    ≡ opening (placed_choices w cs k)
    (Always (placed w (Chosen line e p) (after_components w.around (Mark mark.If) cs k)))
untested_last w cs line e p k holds =
    let last = placed w (Chosen line e p) (after_components w.around (Mark mark.If) cs k) in
    ap (λ holds. with_opening (cond holds (record { tested = placed_choices w cs k; ending = Always last })
    (record { tested = ThenChoice (placed_choices w cs k) last; ending = Stops }))) holds

-- it is not open before a choice that does something
opening_stays : (cs : PlacedChoices) (c : PlacedChoice) → c.is_skip ≡ false
    → opening cs (Always c) ≡ record { tested = cs; ending = Always c }
opening_stays NoChoice c h = refl
opening_stays (ThenChoice cs opened) c h =
    ap (λ skips. cond skips (record { tested = cs; ending = Opens opened })
    (record { tested = ThenChoice cs opened; ending = Always c })) h

-- and nothing is before the only one
opening_alone : (w : Surroundings) (xs : List Choice) (k : Known) (c : PlacedChoice) → length xs ≡ 0
    → opening (placed_choices w (all_choices xs) k) (Always c)
    ≡ record { tested = placed_choices w (all_choices xs) k; ending = Always c }
opening_alone w [] k c none = refl
opening_alone w (x ∷ xs) k c none = absurd (omega (arith, none))

-- the last choice without a test is apart
always_last : (xs before : List Choice) (x : Bor Choice) → xs ≡ before ++ x.now ∷ []
    → ((w : Surroundings) (k : Known) → (let c = Chosen x.now.line (expression_of x.now.condition)
    (process_of x.now.process) in if_choices w (Further (all_choices before) c) k ≡ record {
      tested = placed_choices w (all_choices before) k;
      ending = Always (placed w c (after_components w.around (Mark mark.If) (all_choices before) k));
    }))
    → AreEnded (all_choices xs) before (if_ending.Always x)
always_last xs before x is ends =
    let whole = all_push choice_of before xs x.now is in
    record {
      choices = λ w k. ap (λ cs. if_choices w cs k) whole
          ∙ subst (λ c. if_choices w (Further (all_choices before) c) k ≡ record {
            tested = placed_choices w (all_choices before) k;
            ending = Always (placed w c (after_components w.around (Mark mark.If) (all_choices before) k));
          }) (choice_seen x.now) (ends w k);
      known = λ a k. ap (λ cs. after_components a (Mark mark.If) cs k) whole;
      skips = tt;
    }

pub always_ended : (xs before : List Choice) (x : Bor Choice) → xs ≡ before ++ x.now ∷ []
    → is_true (expression_of x.now.condition) ≡ true → is_skip (process_of x.now.process) ≡ false
    → AreEnded (all_choices xs) before (if_ending.Always x)
always_ended xs before x is holds does =
    let c = x.now in
    always_last xs before x is (λ w k.
    untested_last w (all_choices before) c.line (expression_of c.condition) (process_of c.process) k holds
    ∙ opening_stays (placed_choices w (all_choices before) k)
    (placed w (Chosen c.line (expression_of c.condition) (process_of c.process))
    (after_components w.around (Mark mark.If) (all_choices before) k)) does)

pub alone_ended : (xs before : List Choice) (x : Bor Choice) → xs ≡ before ++ x.now ∷ []
    → is_true (expression_of x.now.condition) ≡ true → length before ≡ 0
    → AreEnded (all_choices xs) before (if_ending.Always x)
alone_ended xs before x is holds none =
    let c = x.now in
    always_last xs before x is (λ w k.
    untested_last w (all_choices before) c.line (expression_of c.condition) (process_of c.process) k holds
    ∙ opening_alone w before k (placed w (Chosen c.line (expression_of c.condition) (process_of c.process))
    (after_components w.around (Mark mark.If) (all_choices before) k)) none)

pub opens_ended : (xs before first : List Choice) (opened last : Bor Choice) → xs ≡ before ++ last.now ∷ []
    → before ≡ first ++ opened.now ∷ [] → is_true (expression_of last.now.condition) ≡ true
    → is_skip (process_of last.now.process) ≡ true → AreEnded (all_choices xs) first (if_ending.Opens opened last)
opens_ended xs before first opened last is split holds skips =
    let c = last.now in
    let seen = Chosen c.line (expression_of c.condition) (process_of c.process) in
    let before_is = all_push choice_of first before opened.now split in
    let whole = all_push choice_of before xs c is ∙ ap (λ cs. Further cs (choice_of c)) before_is in
    record {
      choices = λ w k.
          let cs = Further (all_choices first) (choice_of opened.now) in
          let b = placed w (choice_of opened.now) (after_components w.around (Mark mark.If) (all_choices first) k) in
          ap (λ cs. if_choices w cs k) whole
          ∙ ap (λ d. if_choices w (Further cs d) k) (sym (choice_seen c))
          ∙ untested_last w cs c.line (expression_of c.condition) (process_of c.process) k holds
          ∙ ap (λ skips. cond skips (record { tested = placed_choices w (all_choices first) k; ending = Opens b })
          (record {
            tested = ThenChoice (placed_choices w (all_choices first) k) b;
            ending = Always (placed w seen (after_components w.around (Mark mark.If) cs k));
          })) skips;
      known = λ a k. ap (λ cs. after_components a (Mark mark.If) cs k) whole;
      skips = skips;
    }

-- ---- a choice

-- where other names are known, and other labels are free
pub placed_at : (s : ProcessWriter) {k : Known} {label free : ℕ} (scope : code_scope.Scope) → known_of scope ≡ k
    → free ≡ label → site_of (record s { scope = scope; label = free }) ≡ at_place k label (site_of s)
placed_at s scope known is = λ i. record { frame = frame_seen s.frame; known = known i; label = is i }

-- without its test
pub writes_taken : (around : calling.Surroundings) (x : Choice) (s t : ProcessWriter) (inner after : code_scope.Scope)
    → known_of inner ≡ chosen (expression_of x.condition) (known_of s.scope)
    → WritesProcess (record s { scope = inner }) t around (process_of x.process)
    → known_of after ≡ next (known_of t.scope)
    → WritesAs s (record t { scope = after }) around taken_code (choice_of x)
writes_taken around x s t inner after narrowed written ends =
    let here = surroundings_of around in
    let p = process_of x.process in
    subst (λ c. WritesAs s (record t { scope = after }) around taken_code c) (choice_seen x) (record {
      code = subst (λ k. Appends s.listing t.listing t.label (process_code here p (at_place k s.label (site_of s))))
          narrowed written.code;
      known = ends ∙ ap next (written.known ∙ ap (inside here.around p) narrowed);
      frame = written.frame;
    })

-- What is behind the process of a choice that was tested.
pub record TakenLeft (around : calling.Surroundings) (c : Component Choices) (s tested within : ProcessWriter) : Type 0
  where
    pub code : Appends tested.listing within.listing within.label (choice_as taken_code (surroundings_of around) c
        (at_place (known_of s.scope) (s.label + 1) (site_of s)))
    pub known : known_of within.scope
        ≡ after_component (surroundings_of around).around (Mark mark.If) c (known_of s.scope)
    pub frame : frame_seen within.frame ≡ frame_seen s.frame

pub taken_left : (around : calling.Surroundings) (c : Component Choices) (s tested within : ProcessWriter)
    → site_of tested ≡ at_place (known_of s.scope) (s.label + 1) (site_of s)
    → WritesAs tested within around taken_code c → TakenLeft around c s tested within
taken_left around c s tested within place x = record {
  code = subst (λ (y : Site). Appends tested.listing within.listing within.label
      (choice_as taken_code (surroundings_of around) c y)) place x.code;
  known = x.known
      ∙ ap (λ (y : Site). after_component (surroundings_of around).around (Mark mark.If) c y.known) place;
  frame = x.frame ∙ ap (λ (y : Site). y.frame) place;
}

-- with its test, which jumps to the label that was free
pub writes_tested : (around : calling.Surroundings) (end : ℕ) (x : Choice) (s tested within after : ProcessWriter)
    (jumped : List Piece) → tested.listing ≡ s.listing ++ test_code (site_of s).frame.homes (site_of s).known.entries
    s.frame.top (expression_of x.condition) s.label
    → TakenLeft around (choice_of x) s tested within → jumped ≡ within.listing ++ Jump end ∷ []
    → after.listing ≡ jumped ++ row_of s.label (frame_seen within.frame) (known_of within.scope) ∷ []
    → site_of after ≡ site_of within → WritesAs s after around (tested_code end) (choice_of x)
writes_tested around end x s tested within after jumped test taken jumps row still =
    let here = surroundings_of around in
    let z = site_of s in
    let e = expression_of x.condition in
    let c = placed here (Chosen x.line e (process_of x.process)) z.known in
    let process = taken_code z.frame c (z.label + 1) in
    let left = subst (λ d. TakenLeft around d s tested within) (sym (choice_seen x)) taken in
    let rest : after.listing ≡ within.listing ++ Jump end ∷ row_of s.label z.frame c.after ∷ [] =
    row ∙ (λ j. jumps j ++ row_of s.label (left.frame j) (left.known j) ∷ [])
    ∙ append_assoc within.listing (Jump end ∷ []) (row_of s.label z.frame c.after ∷ []) in
    let labels : after.label ≡ within.label = ap (λ (y : Site). y.label) still in
    subst (λ d. WritesAs s after around (tested_code end) d) (choice_seen x) (record {
      code = subst (λ n. Appends s.listing after.listing n (tested_code end z.frame c z.label)) (sym labels)
          (appends_before (closed_by (Jump end ∷ row_of s.label z.frame c.after ∷ []) process) s.listing tested.listing
          after.listing (test_code z.frame.homes z.known.entries z.frame.top e z.label) within.label test
          (appends_closed process tested.listing within.listing after.listing
          (Jump end ∷ row_of s.label z.frame c.after ∷ []) within.label left.code rest));
      known = ap (λ (y : Site). y.known) still ∙ left.known;
      frame = ap (λ (y : Site). y.frame) still ∙ left.frame;
    })

-- with its test, which jumps to the end of the IF
pub writes_open : (around : calling.Surroundings) (end : ℕ) (x : Choice) (s tested within : ProcessWriter)
    → tested.listing ≡ s.listing ++ test_code (site_of s).frame.homes (site_of s).known.entries s.frame.top
    (expression_of x.condition) end
    → site_of tested ≡ site_of s → WritesAs tested within around taken_code (choice_of x)
    → WritesAs s within around (open_code end) (choice_of x)
writes_open around end x s tested within test place taken =
    let here = surroundings_of around in
    let z = site_of s in
    let e = expression_of x.condition in
    let c = Chosen x.line e (process_of x.process) in
    let left = subst (λ d. WritesAs tested within around taken_code d) (sym (choice_seen x)) taken in
    let process = choice_as taken_code here c z in
    let inner : Appends tested.listing within.listing within.label process =
    subst (λ (y : Site). Appends tested.listing within.listing within.label (choice_as taken_code here c y)) place
    left.code in
    subst (λ d. WritesAs s within around (open_code end) d) (choice_seen x) (record {
      code = appends_before process s.listing tested.listing within.listing
          (test_code z.frame.homes z.known.entries z.frame.top e end) within.label test inner;
      known = left.known ∙ ap (λ (y : Site). after_component here.around (Mark mark.If) c y.known) place;
      frame = left.frame ∙ ap (λ (y : Site). y.frame) place;
    })

-- an open choice, and the one after it
pub writes_opens : (around : calling.Surroundings) (end : ℕ) (opened last : Bor Choice) {s t w : ProcessWriter}
    → WritesAs s t around (open_code end) (choice_of opened.now) → WritesAs t w around taken_code (choice_of last.now)
    → WritesEnding s w around end (if_ending.Opens opened last)
writes_opens around end opened last {s} {t} {w} first rest =
    let here = surroundings_of around in
    let z = site_of s in
    let k = after_component here.around (Mark mark.If) (choice_of opened.now) z.known in
    writes_then (choice_as (open_code end) here (choice_of opened.now) z)
    (λ g label. taken_code g (placed here (choice_of last.now) k) label) first
    (subst (λ k. Appends t.listing w.listing w.label
    (taken_code (frame_seen t.frame) (placed here (choice_of last.now) k) t.label)) first.known rest.code)
    (rest.known ∙ ap (after_component here.around (Mark mark.If) (choice_of last.now)) first.known) rest.frame

-- ---- an IF

-- What is behind the choices of an IF, where their block has ended.
pub record ChoicesLeft {part : Part} (around : calling.Surroundings) (cs : Components part) (s within : ProcessWriter)
    (ended : code_scope.Scope) : Type 0 where
  pub code : Appends s.listing within.listing within.label (choices_at (surroundings_of around) s.label cs
      (at_place (begin (known_of s.scope)) (s.label + 1) (site_of s)))
  pub known : known_of ended ≡ after_if (surroundings_of around).around cs (known_of s.scope)
  pub frame : frame_seen within.frame ≡ frame_seen s.frame

pub choices_left : {part : Part} (around : calling.Surroundings) (cs : Components part)
    (s begun within : ProcessWriter) (ended : code_scope.Scope) → begun.listing ≡ s.listing
    → site_of begun ≡ at_place (begin (known_of s.scope)) (s.label + 1) (site_of s)
    → WritesChoices begun within around s.label cs → known_of ended ≡ end (known_of within.scope)
    → ChoicesLeft around cs s within ended
choices_left around cs s begun within ended same place x ends = record {
  code = subst (λ (v : List Piece × Site).
      Appends v.0 within.listing within.label (choices_at (surroundings_of around) s.label cs v.1))
      (λ i. (same i, place i)) x.code;
  known = ends ∙ ap end (x.known
      ∙ ap (λ (y : Site). after_components (surroundings_of around).around (Mark mark.If) cs y.known) place);
  frame = x.frame ∙ ap (λ (y : Site). y.frame) place;
}

pub writes_if : {part : Part} (around : calling.Surroundings) (cs : Components part) (s within after : ProcessWriter)
    (ended : code_scope.Scope) → ChoicesLeft around cs s within ended
    → after.listing ≡ within.listing ++ row_of s.label (frame_seen within.frame) (known_of ended) ∷ []
    → site_of after ≡ site_of (record within { scope = ended }) → WritesIf s after around cs
writes_if around cs s within after ended x row still =
    let here = surroundings_of around in
    let z = site_of s in
    let choices = choices_at here s.label cs (at_place (begin z.known) (s.label + 1) z) in
    let done = after_if here.around cs z.known in
    let rest : after.listing ≡ within.listing ++ row_of s.label z.frame done ∷ [] =
    row ∙ (λ j. within.listing ++ row_of s.label (x.frame j) (x.known j) ∷ []) in
    let labels : after.label ≡ within.label = ap (λ (y : Site). y.label) still in
    record {
      code = subst (λ n. Appends s.listing after.listing n (if_at here cs z)) (sym labels)
          (appends_closed choices s.listing within.listing after.listing (row_of s.label z.frame done ∷ []) within.label
          x.code rest);
      known = ap (λ (y : Site). y.known) still ∙ x.known;
      frame = ap (λ (y : Site). y.frame) still ∙ x.frame;
    }
