-- The choices of an IF, one after another, and what comes after their tests.
use Rattle.std.proofs.Common.{◌≡◌, ℕ, ◌+◌, ◌≤◌, Bool, true, false, cond, List, [], ◌∷◌, ◌++◌, length, Option, Some}
use Rattle.std.proofs.Common.{None}
use Rattle.std.proofs.Common.{inl, refl, sym, ap, subst, ◌∙◌, arith, unwrap_or}
use Rattle.std.specs.Prelude.{IfSome}
use Rattle.scalar_ranges.specs.Entries.{Entry}
use Rattle.scalar_ranges.specs.MoveLaws.{shape}
use Rattle.scalar_ranges.specs.Moves.{Known, ends_with, hulls}
use Rattle.scalar_ranges.specs.Narrowing.{test_of}
use Rattle.scalar_ranges.proofs.MoveLaws.{shapes_stay}
use Rattle.scalar_ranges.proofs.Nesting.{long_alike}
use Rattle.usage_checks.specs.AfterProcesses.{chosen}
use Rattle.usage_checks.specs.TypedRanges.{AreInTypes}
use Rattle.usage_checks.proofs.TypedMoves.{typed_hulls}
use Rattle.code_pieces.specs.declared.operations.TheConstants.{STOP_PROCESS}
use Rattle.code_pieces.specs.declared.piece.RowEntry.{RowEntry}
use Rattle.code_pieces.specs.Pieces.{Code, Jump, JumpUnless, Piece, closed_by, operates}
use Rattle.code_pieces.proofs.AllOfPieces.{all_first, all_last}
use Rattle.line_pieces.specs.Actions.{forgets, may_show, test_code}
use Rattle.line_pieces.specs.Declarations.{Frame, facts_in}
use Rattle.line_pieces.specs.Expressions.{expression_code}
use Rattle.line_pieces.specs.Homes.{facts_of}
use Rattle.code_generator.specs.Processes.{Always, EndedChoices, IfEnding, NoChoice, Opens, PlacedChoice}
use Rattle.code_generator.specs.Processes.{PlacedChoices, Site, Stops, ThenChoice, all_tested, choices_code}
use Rattle.code_generator.specs.Processes.{ending_code}
use Rattle.code_generator.specs.Processes.{if_code, is_true, opening, row_of, taken_code, tested_code, with_ending}
use Rattle.certified_lines.specs.Jumps.{fallen, jumped}
use Rattle.certified_lines.specs.Scopes.{HoldsScope}
use Rattle.certified_lines.specs.StraightRules.{Told}
use Rattle.certified_modules.specs.Passing.{IsOpen, OpenLabel, PassOn, both, closes, none, open_label, stops, told_by}
use Rattle.certified_modules.specs.RowsSay.{Implies}
use Rattle.certified_modules.proofs.Shapes.{choices_pass, tests_pass}
use Rattle.certified_scopes.specs.Settled.{AreOrdered, IsSettled}
use Rattle.certified_scopes.specs.Within.{LieWithin, indices_of}
use Rattle.certified_scopes.proofs.Indices.{indices_stay}
use Rattle.certified_scopes.proofs.Settled.{moved_scopes_are_settled}
use Rattle.certified_scopes.proofs.Within.{scopes_lie_within}
use Rattle.meant_processes.specs.Places.{AllFit, FitsIn}
use Rattle.meant_processes.proofs.CodeParts.{before_is, closed_is, then_is, written_is}
use Rattle.certified_processes.specs.Places.{Coded, bare_scene, scene, scene_at}
use Rattle.certified_processes.proofs.There.{IsSound, IsThere}
use Rattle.certified_processes.specs.ProcessesPass.{PassesTo}
use Rattle.certified_processes.proofs.Conditions.{Shows}
use Rattle.certified_processes.proofs.LabelsRise.{Rises, rises_before, rises_closed, rises_low, rises_then}
use Rattle.certified_processes.proofs.Lines.{row_entries, row_tells}
use Rattle.certified_processes.proofs.Ordered.{hulls_ordered, scope_ordered}
use Rattle.certified_processes.proofs.Rows.{rows_tell_scopes, scopes_imply_rows}

-- ---- scopes of the names of a site

-- So it is where ranges are within their types and in order, and indices as they were.
pub sound_moved : (p : Coded) (s : Site) (es : List Entry) → IsThere p s → shape es ≡ shape s.known.entries
    → indices_of es ≡ indices_of s.known.entries → AreInTypes es → AreOrdered es → IsSound p s es
sound_moved p s es placed alike same typed ordered = record {
  settled = moved_scopes_are_settled (bare_scene p) s.frame es s.known.entries alike same typed ordered placed.settled;
  typed = typed;
  alike = alike;
  indices = same;
}

-- ranges of sound scopes are in order
pub sound_ordered : (p : Coded) (s : Site) (es : List Entry) → IsSound p s es → AreOrdered es
sound_ordered p s es sound = scope_ordered (scene p s) sound.settled.end es sound.settled.scope

-- so the hulls of two are
sound_hulls : (p : Coded) (s : Site) (ds es : List Entry) → IsThere p s → IsSound p s ds → IsSound p s es
    → IsSound p s (hulls ds es)
sound_hulls p s ds es placed first second =
    sound_moved p s (hulls ds es) placed (shapes_stay.joining ds es ∙ first.alike)
    (indices_stay.joining ds es (first.indices ∙ sym second.indices) ∙ first.indices)
    (typed_hulls ds es (first.alike ∙ sym second.alike) first.typed second.typed)
    (hulls_ordered ds es (sound_ordered p s ds first))

-- ---- choices in a frame

-- An IF at a site, whose choices are in this frame, where rows say what the names of the site know.
module _ (p : Coded) (s : Site) (placed : IsThere p s) (f : Frame)
    (rows : (es : List Entry) → length es ≡ length s.known.entries → facts_in f es ≡ facts_of s.frame.homes es) where
  abbrev Holds : List Entry → Told → Type 0
  Holds es t = HoldsScope (scene p s) es t.frame

  -- where the process of a choice begins
  abbrev pub Enters : PlacedChoice → Told → Type 0
  Enters x t = HoldsScope (scene_at p f.homes) (chosen x.condition x.known).entries t.frame

  abbrev pub value_code : PlacedChoice → List Piece
  value_code x = expression_code f.homes x.known.entries f.top x.condition

  abbrev pub shown_code : PlacedChoice → List Piece
  shown_code x = value_code x ++ forgets (may_show x.known.entries x.condition) (test_of x.known.entries x.condition)

  -- The code of a condition leads to where it can be tested: it holds where the process begins, and where it does not,
  -- this scope is held.
  pub record Tests (x : PlacedChoice) (next : List Entry) (before : Told) : Type 0 where
    pub shows : Shows (scene_at p f.homes) x.known.entries x.condition (shown_code x) before
    pub so : Enters x (fallen shows.after)
    pub not_so : Holds next (jumped shows.after)

  -- A choice from where one scope is held: where it is not taken the next one is, and where its process ends a third.
  pub record ChoiceGoes (x : PlacedChoice) (mid next ending : List Entry) : Type 0 where
    pub next_is : x.after.entries ≡ next
    pub sound : IsSound p s next
    pub tests : AllFit p.program (value_code x) → (before : Told) → Holds mid before → Tests x next before
    pub takes : (label : ℕ) (code : Code) → s.label ≤ label → taken_code f x label ≡ Some code
        → AllFit p.program code.pieces → (opened : List OpenLabel) (before : Told) → Enters x before
        → PassesTo p s.frame ending opened code.pieces before
    pub rises : (label : ℕ) → Rises label (taken_code f x label)
    pub begins : (before : Told) × Enters x before
    pub always : is_true x.condition ≡ true → (t : Told) → Holds mid t → Enters x t
    pub alike : shape ending ≡ shape s.known.entries
    pub indices : indices_of ending ≡ indices_of s.known.entries
    pub skips : x.is_skip ≡ true → is_true x.condition ≡ true → ending ≡ mid

  -- Choices from where one scope is held to where another one is, and what is known at their ends.
  abbrev pub ChoicesGo : List Entry → PlacedChoices → List Entry → Option (List Entry) → Type 0
  ChoicesGo start NoChoice last ends = (last ≡ start) × (ends ≡ None)
  ChoicesGo start (ThenChoice cs x) last ends = (mid : List Entry) × (earlier : Option (List Entry))
      × (ending : List Entry) × ChoicesGo start cs mid earlier × ChoiceGoes x mid last ending
      × (ends ≡ Some (ends_with earlier ending))

  -- so those with an ending, behind which this is known
  abbrev pub EndingGoes : List Entry → PlacedChoices → IfEnding → List Entry → Type 0
  EndingGoes start cs Stops after = (last : List Entry) × (ends : Option (List Entry)) × ChoicesGo start cs last ends
      × (after ≡ unwrap_or ends last)
  EndingGoes start cs (Always x) after = (last : List Entry) × (ends : Option (List Entry))
      × ChoicesGo start (ThenChoice cs x) last ends × (after ≡ unwrap_or ends last) × (is_true x.condition ≡ true)
  EndingGoes start cs (Opens x) after = (last : List Entry) × (ends : Option (List Entry))
      × ChoicesGo start (ThenChoice cs x) last ends × (after ≡ ends_with ends last)

  abbrev pub EndedGo : List Entry → EndedChoices → List Entry → Type 0
  EndedGo start x after = EndingGoes start x.tested x.ending after

  ending_by : (holds : Bool) (start : List Entry) (cs : PlacedChoices) (x : PlacedChoice) (last : List Entry)
      (ends : Option (List Entry)) (after : List Entry) → is_true x.condition ≡ holds
      → ChoicesGo start (ThenChoice cs x) last ends → after ≡ unwrap_or ends last
      → EndedGo start (cond holds (record { tested = cs; ending = Always x })
      (record { tested = ThenChoice cs x; ending = Stops })) after
  ending_by true start cs x last ends after is go same = (last, ends, go, same, is)
  ending_by false start cs x last ends after is go same = (last, ends, go, same)

  -- Choices that go on so go on with the ending that their IF has.
  pub ending_goes : (start : List Entry) (cs : PlacedChoices) (last : List Entry) (ends : Option (List Entry))
      (after : List Entry) → ChoicesGo start cs last ends → after ≡ unwrap_or ends last
      → EndedGo start (with_ending cs) after
  ending_goes start NoChoice last ends after go same = (last, ends, go, same)
  ending_goes start (ThenChoice cs x) last ends after go same =
      ending_by (is_true x.condition) start cs x last ends after refl go same

  opening_by : (skips : Bool) (start : List Entry) (cs : PlacedChoices) (opened x : PlacedChoice) (after : List Entry)
      → x.is_skip ≡ skips → EndingGoes start (ThenChoice cs opened) (Always x) after
      → EndedGo start (cond skips (record { tested = cs; ending = Opens opened })
      (record { tested = ThenChoice cs opened; ending = Always x })) after
  opening_by true start cs opened x after is (last, ends, (mid, earlier, ending, go, goes, joined), same, holds) = (
    mid,
    earlier,
    go,
    same ∙ ap (λ (o : Option (List Entry)). unwrap_or o last) joined
        ∙ ap (λ (es : List Entry). ends_with earlier es) (goes.skips is holds),
  )
  opening_by false start cs opened x after is go = go

  -- So they do where the choice before the last one is open.
  pub opening_goes : (start : List Entry) (cs : PlacedChoices) (e : IfEnding) (after : List Entry)
      → EndingGoes start cs e after → EndedGo start (opening cs e) after
  opening_goes start NoChoice (Always x) after go = go
  opening_goes start NoChoice Stops after go = go
  opening_goes start NoChoice (Opens x) after go = go
  opening_goes start (ThenChoice cs opened) (Always x) after go =
      opening_by x.is_skip start cs opened x after refl go
  opening_goes start (ThenChoice cs x) Stops after go = go
  opening_goes start (ThenChoice cs y) (Opens x) after go = go

  -- ---- ends

  abbrev EndsAlike : Option (List Entry) → Type 0
  EndsAlike None = Unit {0}
  EndsAlike (Some es) = (shape es ≡ shape s.known.entries) × (indices_of es ≡ indices_of s.known.entries)

  abbrev EndsSound : Option (List Entry) → Type 0
  EndsSound None = Unit {0}
  EndsSound (Some es) = IsSound p s es

  abbrev EndsLie : Option (List Entry) → List Entry → Type 0
  EndsLie None after = Unit {0}
  EndsLie (Some es) after = LieWithin es after

  with_alike : (o : Option (List Entry)) (es : List Entry) → EndsAlike o → shape es ≡ shape s.known.entries
      → indices_of es ≡ indices_of s.known.entries → EndsAlike (Some (ends_with o es))
  with_alike None es ends alike same = (alike, same)
  with_alike (Some ds) es ends alike same =
      (shapes_stay.joining ds es ∙ ends.0, indices_stay.joining ds es (ends.1 ∙ sym same) ∙ ends.1)

  ends_alike : (start : List Entry) (cs : PlacedChoices) (last : List Entry) (ends : Option (List Entry))
      → ChoicesGo start cs last ends → EndsAlike ends
  ends_alike start NoChoice last ends go = subst EndsAlike (sym go.1) tt
  ends_alike start (ThenChoice cs x) last ends (mid, earlier, ending, go, goes, joined) =
      subst EndsAlike (sym joined)
      (with_alike earlier ending (ends_alike start cs mid earlier go) goes.alike goes.indices)

  -- the ends before a choice lie within all ends, and so does its own
  ends_lie : (o : Option (List Entry)) (es after : List Entry) → EndsAlike o → shape es ≡ shape s.known.entries
      → indices_of es ≡ indices_of s.known.entries → LieWithin (ends_with o es) after
      → EndsLie o after × LieWithin es after
  ends_lie None es after ends alike same lies = (tt, lies)
  ends_lie (Some ds) es after ends alike same lies =
      let named = ends.0 ∙ sym alike in
      let numbered = ends.1 ∙ sym same in (
        scopes_lie_within.further ds (hulls ds es) after (scopes_lie_within.earlier ds es named numbered) lies,
        scopes_lie_within.further es (hulls ds es) after (scopes_lie_within.this_one ds es named numbered) lies,
      )

  all_lie : (o : Option (List Entry)) (last after : List Entry) → after ≡ unwrap_or o last → EndsLie o after
  all_lie None last after same = tt
  all_lie (Some es) last after same = subst (λ (xs : List Entry). LieWithin es xs) (sym same)
      (scopes_lie_within.itself es)

  -- ---- rows

  long_of : (es : List Entry) → IsSound p s es → length es ≡ length s.known.entries
  long_of es sound = long_alike es s.known.entries sound.alike

  -- the row of a scope that another one lies in
  implied : (ds es : List Entry) (t : Told) → IsSettled (bare_scene p) s.frame es → LieWithin ds es → Holds ds t
      → Implies p.passage.weights t.frame (facts_of s.frame.homes es)
  implied ds es t settled lies holds = scopes_imply_rows (scene p s) ds es t.frame settled.loops lies holds

  implied_at : (ds es : List Entry) (t : Told) → IsSettled (bare_scene p) s.frame es → LieWithin ds es → Holds ds t
      → Implies p.passage.weights t.frame (facts_in s.frame es)
  implied_at ds es t settled lies holds =
      subst (Implies p.passage.weights t.frame) (sym (row_entries p s es placed)) (implied ds es t settled lies holds)

  told_there : (es : List Entry) → IsSound p s es → Holds es (told_by p.passage (facts_in f es))
  told_there es sound =
      subst (λ (fs : List RowEntry). Holds es (told_by p.passage fs)) (sym (rows es (long_of es sound)))
      (rows_tell_scopes (scene p s) es sound.settled.end (let long = sound.settled.long in omega (arith, long))
      sound.settled.turn)

  -- ---- tests, one after another

  -- where choices end a scope is held
  pub record Tested (es : List Entry) (opened : List OpenLabel) (ps : List Piece) (before : Told) : Type 0 where
    pub after : Told
    pub passes : PassOn p.passage opened (Some before) ps (Some after)
    pub holds : Holds es after

  -- what leads to where it does not hold
  test_passes : (x : PlacedChoice) (next : List Entry) (opened : List OpenLabel) (label : ℕ) (entries : List RowEntry)
      (before : Told) → (t : Tests x next before) → IsOpen opened label entries
      → Implies p.passage.weights (jumped t.shows.after).frame entries
      → PassOn p.passage opened (Some before) (test_code f.homes x.known.entries f.top x.condition label)
      (Some (fallen t.shows.after))
  test_passes x next opened label entries before t leads implies =
      tests_pass p.passage opened before t.shows.after (shown_code x) label t.shows.range entries t.shows.falls
      t.shows.fact t.shows.ranged leads implies

  -- a test is its value, what makes the machine forget, and a jump
  value_fits : (x : PlacedChoice) (label : ℕ) (rest : List Piece)
      → AllFit p.program (test_code f.homes x.known.entries f.top x.condition label ++ rest)
      → AllFit p.program (value_code x)
  value_fits x label rest fit =
      let test = test_code f.homes x.known.entries f.top x.condition label in
      all_first (FitsIn p.program) (value_code x)
      (forgets (may_show x.known.entries x.condition) (test_of x.known.entries x.condition))
      (all_first (FitsIn p.program) (shown_code x) (JumpUnless label ∷ [])
      (all_first (FitsIn p.program) test rest fit))

  -- A choice that is tested, where it lies within what is known at the end.
  choice_tested : (x : PlacedChoice) (mid next ending after : List Entry) (end label : ℕ) (opened : List OpenLabel)
      (before : Told) (c : Code) → ChoiceGoes x mid next ending → IsSettled (bare_scene p) s.frame after
      → LieWithin ending after → s.label ≤ label → tested_code end f x label ≡ Some c → AllFit p.program c.pieces
      → IsOpen opened end (facts_in s.frame after) → Holds mid before → Tested next opened c.pieces before
  choice_tested x mid next ending after end label opened before c goes settled lies low is fit leads holds =
      let test = test_code f.homes x.known.entries f.top x.condition label in
      let last = Jump end ∷ row_of label f x.after ∷ [] in
      let b = before_is test (closed_by last (taken_code f x (label + 1))) c is in
      let d = closed_is last (taken_code f x (label + 1)) b.rest b.is in
      let whole : c.pieces ≡ test ++ (d.first.pieces ++ last) = b.pieces ∙ ap (λ (ps : List Piece). test ++ ps)
      d.pieces in
      let fits = subst (AllFit p.program) whole fit in
      let row = facts_in f x.after.entries in
      let row_is : row ≡ facts_of s.frame.homes next =
      ap (facts_in f) goes.next_is ∙ rows next (long_of next goes.sound) in
      let t = goes.tests (value_fits x label (d.first.pieces ++ last) fits) before holds in
      let tested = test_passes x next (open_label label row ∷ opened) label row before t (inl refl)
      (subst (Implies p.passage.weights (jumped t.shows.after).frame) (sym row_is)
      (implied next next (jumped t.shows.after) goes.sound.settled (scopes_lie_within.itself next) t.not_so)) in
      let taken = goes.takes (label + 1) d.first (omega (arith, low)) d.is
      (all_first (FitsIn p.program) d.first.pieces last
      (all_last (FitsIn p.program) test (d.first.pieces ++ last) fits))
      opened (fallen t.shows.after) t.so in
      record {
        after = told_by p.passage row;
        passes = subst (λ (ps : List Piece). PassOn p.passage opened (Some before) ps (Some (told_by p.passage row)))
            (sym whole)
            (choices_pass p.passage opened end label (facts_in s.frame after) row test d.first.pieces before
            (fallen t.shows.after) taken.after leads tested taken.passes
            (implied_at ending after taken.after settled lies taken.holds));
        holds = subst (λ (es : List Entry). Holds next (told_by p.passage (facts_in f es))) (sym goes.next_is)
            (told_there next goes.sound);
      }

  -- labels rise
  tested_rise : (start : List Entry) (cs : PlacedChoices) (last : List Entry) (ends : Option (List Entry))
      (end label : ℕ) → ChoicesGo start cs last ends → Rises label (all_tested end f cs label)
  tested_rise start NoChoice last ends end label go = omega arith
  tested_rise start (ThenChoice cs x) last ends end label (mid, earlier, ending, go, goes, joined) =
      rises_then label (all_tested end f cs label) (tested_code end f x) (tested_rise start cs mid earlier end label go)
      (λ m. rises_before m (test_code f.homes x.known.entries f.top x.condition m)
      (closed_by (Jump end ∷ row_of m f x.after ∷ []) (taken_code f x (m + 1)))
      (rises_closed m (Jump end ∷ row_of m f x.after ∷ []) (taken_code f x (m + 1))
      (rises_low m (m + 1) (taken_code f x (m + 1)) (omega arith) (goes.rises (m + 1)))))

  rises_of : (n label : ℕ) (o : Option Code) (c : Code) → o ≡ Some c → n ≤ label → Rises label o → n ≤ c.labels
  rises_of n label o c is low rise =
      let further : label ≤ c.labels = subst (Rises label) is rise in omega (arith, low, further)

  tested_pass : (start : List Entry) (cs : PlacedChoices) (last after : List Entry) (ends : Option (List Entry))
      (end label : ℕ) (opened : List OpenLabel) (before : Told) (c : Code) → ChoicesGo start cs last ends
      → IsSettled (bare_scene p) s.frame after → EndsLie ends after → s.label ≤ label → all_tested end f cs
      label ≡ Some c
      → AllFit p.program c.pieces → IsOpen opened end (facts_in s.frame after) → Holds start before
      → Tested last opened c.pieces before
  tested_pass start NoChoice last after ends end label opened before c go settled lie low is fit leads holds = record {
    after = before;
    passes = subst (λ (ps : List Piece). PassOn p.passage opened (Some before) ps (Some before))
        (sym (written_is [] label c is)) none;
    holds = subst (λ (es : List Entry). Holds es before) (sym go.0) holds;
  }
  tested_pass start (ThenChoice cs x) last after ends end label opened before c (mid, earlier, ending, go, goes, joined)
      settled lie low is fit leads holds =
      let lies = subst (λ (o : Option (List Entry)). EndsLie o after) joined lie in
      let known = ends_alike start cs mid earlier go in
      let t = then_is (all_tested end f cs label) (tested_code end f x) c is in
      let fits = subst (AllFit p.program) t.pieces fit in
      let one = tested_pass start cs mid after earlier end label opened before t.first go settled
      (ends_lie earlier ending after known goes.alike goes.indices lies).0 low t.first_is
      (all_first (FitsIn p.program) t.first.pieces t.last.pieces fits) leads holds in
      let two = choice_tested x mid last ending after end t.first.labels opened one.after t.last goes settled
      (ends_lie earlier ending after known goes.alike goes.indices lies).1
      (rises_of s.label label (all_tested end f cs label) t.first t.first_is low
      (tested_rise start cs mid earlier end label go)) t.last_is
      (all_last (FitsIn p.program) t.first.pieces t.last.pieces fits) leads one.holds in
      record {
        after = two.after;
        passes = subst (λ (ps : List Piece). PassOn p.passage opened (Some before) ps (Some two.after)) (sym t.pieces)
            (both {t = Some one.after} {u = Some two.after} one.passes two.passes);
        holds = two.holds;
      }

  -- ---- what is known at the ends is sound, as far as choices have code

  taken_sound : (x : PlacedChoice) (mid next ending : List Entry) (label : ℕ) (c : Code) → ChoiceGoes x mid next ending
      → s.label ≤ label → taken_code f x label ≡ Some c → AllFit p.program c.pieces → IsSound p s ending
  taken_sound x mid next ending label c goes low is fit =
      let taken = goes.takes label c low is fit [] goes.begins.0 goes.begins.1 in
      record { settled = taken.settled; typed = taken.typed; alike = goes.alike; indices = goes.indices }

  with_sound : (o : Option (List Entry)) (es : List Entry) → EndsSound o → IsSound p s es
      → EndsSound (Some (ends_with o es))
  with_sound None es ends sound = sound
  with_sound (Some ds) es ends sound = sound_hulls p s ds es placed ends sound

  tested_sound : (start : List Entry) (cs : PlacedChoices) (last : List Entry) (ends : Option (List Entry))
      (end label : ℕ) (c : Code) → ChoicesGo start cs last ends → s.label ≤ label
      → all_tested end f cs label ≡ Some c → AllFit p.program c.pieces → EndsSound ends
  tested_sound start NoChoice last ends end label c go low is fit = subst EndsSound (sym go.1) tt
  tested_sound start (ThenChoice cs x) last ends end label c (mid, earlier, ending, go, goes, joined) low is fit =
      let t = then_is (all_tested end f cs label) (tested_code end f x) c is in
      let fits = subst (AllFit p.program) t.pieces fit in
      let test = test_code f.homes x.known.entries f.top x.condition t.first.labels in
      let after = Jump end ∷ row_of t.first.labels f x.after ∷ [] in
      let b = before_is test (closed_by after (taken_code f x (t.first.labels + 1))) t.last t.last_is in
      let d = closed_is after (taken_code f x (t.first.labels + 1)) b.rest b.is in
      let rest = subst (AllFit p.program) b.pieces
      (all_last (FitsIn p.program) t.first.pieces t.last.pieces fits) in
      let own = subst (AllFit p.program) d.pieces (all_last (FitsIn p.program) test b.rest.pieces rest) in
      subst EndsSound (sym joined)
      (with_sound earlier ending
      (tested_sound start cs mid earlier end label t.first go low t.first_is
      (all_first (FitsIn p.program) t.first.pieces t.last.pieces fits))
      (taken_sound x mid last ending (t.first.labels + 1) d.first goes
      (let further = rises_of s.label label (all_tested end f cs label) t.first t.first_is low
      (tested_rise start cs mid earlier end label go) in omega (arith, further)) d.is
      (all_first (FitsIn p.program) d.first.pieces after own)))

  sound_or : (o : Option (List Entry)) (last : List Entry) → EndsSound o → IsSound p s last
      → IsSound p s (unwrap_or o last)
  sound_or None last ends sound = sound
  sound_or (Some es) last ends sound = ends

  last_sound : (start : List Entry) (cs : PlacedChoices) (last : List Entry) (ends : Option (List Entry))
      → IsSound p s start → ChoicesGo start cs last ends → IsSound p s last
  last_sound start NoChoice last ends sound go = subst (IsSound p s) (sym go.0) sound
  last_sound start (ThenChoice cs x) last ends sound (mid, earlier, ending, go, goes, joined) = goes.sound

  after_sound : (start : List Entry) (cs : PlacedChoices) (e : IfEnding) (after : List Entry) (end label : ℕ)
      (c d : Code)
      → IsSound p s start → EndingGoes start cs e after → s.label ≤ label → s.label ≤ c.labels
      → all_tested end f cs label ≡ Some c → AllFit p.program c.pieces → ending_code end f e c.labels ≡ Some d
      → AllFit p.program d.pieces → IsSound p s after
  after_sound start cs Stops after end label c d sound (last, ends, go, same) low further is fit ending_is own =
      subst (IsSound p s) (sym same)
      (sound_or ends last (tested_sound start cs last ends end label c go low is fit)
      (last_sound start cs last ends sound go))
  after_sound start cs (Always x) after end label c d sound
      (last, ends, (mid, earlier, ending, go, goes, joined), same, holds) low further is fit ending_is own =
      subst (IsSound p s) (sym (same ∙ ap (λ (o : Option (List Entry)). unwrap_or o last) joined))
      (with_sound earlier ending (tested_sound start cs mid earlier end label c go low is fit)
      (taken_sound x mid last ending c.labels d goes further ending_is own))
  after_sound start cs (Opens x) after end label c d sound
      (last, ends, (mid, earlier, ending, go, goes, joined), same) low further is fit ending_is own =
      let test = test_code f.homes x.known.entries f.top x.condition end in
      let b = before_is test (taken_code f x c.labels) d ending_is in
      let parts = subst (AllFit p.program) b.pieces own in
      let joint = with_sound earlier ending (tested_sound start cs mid earlier end label c go low is fit)
      (taken_sound x mid last ending c.labels b.rest goes further b.is
      (all_last (FitsIn p.program) test b.rest.pieces parts)) in
      subst (IsSound p s) (sym (same ∙ ap (λ (o : Option (List Entry)). ends_with o last) joined))
      (sound_hulls p s (ends_with earlier ending) last placed joint goes.sound)

  -- ---- the ending

  -- what falls in at the end implies its row
  pub record Ended (after : List Entry) (opened : List OpenLabel) (ps : List Piece) (before : Told) : Type 0 where
    pub told : Option Told
    pub passes : PassOn p.passage opened (Some before) ps told
    pub implies : IfSome told (λ t. Implies p.passage.weights t.frame (facts_in s.frame after))

  ending_passes : (start : List Entry) (cs : PlacedChoices) (e : IfEnding) (after : List Entry) (end label : ℕ)
      (opened : List OpenLabel) (before : Told) (c d : Code) → EndingGoes start cs e after
      → IsSettled (bare_scene p) s.frame after → s.label ≤ label → s.label ≤ c.labels
      → all_tested end f cs label ≡ Some c → AllFit p.program c.pieces → ending_code end f e c.labels ≡ Some d
      → AllFit p.program d.pieces
      → IsOpen opened end (facts_in s.frame after) → Holds start before
      → Ended after opened (c.pieces ++ d.pieces) before
  ending_passes start cs Stops after end label opened before c d (last, ends, go, same) settled low further is fit
      ending_is own leads holds =
      let one = tested_pass start cs last after ends end label opened before c go settled
      (all_lie ends last after same) low is fit leads holds in
      record {
        told = None;
        passes = both {t = Some one.after} {u = None} one.passes
            (subst (λ (ps : List Piece). PassOn p.passage opened (Some one.after) ps None)
            (sym (written_is (operates STOP_PROCESS ∷ []) c.labels d ending_is)) stops);
        implies = tt;
      }
  ending_passes start cs (Always x) after end label opened before c d
      (last, ends, (mid, earlier, ending, go, goes, joined), same, always) settled low further is fit ending_is own
      leads holds =
      let lies = subst (λ (o : Option (List Entry)). EndsLie o after) joined (all_lie ends last after same) in
      let known = ends_alike start cs mid earlier go in
      let one = tested_pass start cs mid after earlier end label opened before c go settled
      (ends_lie earlier ending after known goes.alike goes.indices lies).0 low is fit leads holds in
      let two = goes.takes c.labels d further ending_is own opened one.after (goes.always always one.after one.holds) in
      record {
        told = Some two.after;
        passes = both {t = Some one.after} {u = Some two.after} one.passes two.passes;
        implies = implied_at ending after two.after settled
            (ends_lie earlier ending after known goes.alike goes.indices lies).1 two.holds;
      }
  ending_passes start cs (Opens x) after end label opened before c d
      (last, ends, (mid, earlier, ending, go, goes, joined), same) settled low further is fit ending_is own leads
      holds =
      let known = ends_alike start cs mid earlier go in
      let all = with_alike earlier ending known goes.alike goes.indices in
      let whole : after ≡ hulls (ends_with earlier ending) last =
      same ∙ ap (λ (o : Option (List Entry)). ends_with o last) joined in
      let lies = subst (λ (es : List Entry). LieWithin (ends_with earlier ending) es) (sym whole)
      (scopes_lie_within.earlier (ends_with earlier ending) last (all.0 ∙ sym goes.sound.alike)
      (all.1 ∙ sym goes.sound.indices)) in
      let last_lies = subst (λ (es : List Entry). LieWithin last es) (sym whole)
      (scopes_lie_within.this_one (ends_with earlier ending) last (all.0 ∙ sym goes.sound.alike)
      (all.1 ∙ sym goes.sound.indices)) in
      let test = test_code f.homes x.known.entries f.top x.condition end in
      let b = before_is test (taken_code f x c.labels) d ending_is in
      let parts = subst (AllFit p.program) b.pieces own in
      let one = tested_pass start cs mid after earlier end label opened before c go settled
      (ends_lie earlier ending after known goes.alike goes.indices lies).0 low is fit leads holds in
      let t = goes.tests (value_fits x end b.rest.pieces parts) one.after one.holds in
      let tested = test_passes x last opened end (facts_in s.frame after) one.after t leads
      (implied_at last after (jumped t.shows.after) settled last_lies t.not_so) in
      let two = goes.takes c.labels b.rest further b.is (all_last (FitsIn p.program) test b.rest.pieces parts) opened
      (fallen t.shows.after) t.so in
      record {
        told = Some two.after;
        passes = both {t = Some one.after} {u = Some two.after} one.passes
            (subst (λ (ps : List Piece). PassOn p.passage opened (Some one.after) ps (Some two.after)) (sym b.pieces)
            (both {t = Some (fallen t.shows.after)} {u = Some two.after} tested two.passes));
        implies = implied_at ending after two.after settled
            (ends_lie earlier ending after known goes.alike goes.indices lies).1 two.holds;
      }

  -- the label behind the tests
  tested_low : (start : List Entry) (cs : PlacedChoices) (e : IfEnding) (after : List Entry) (c : Code)
      → EndingGoes start cs e after → all_tested s.label f cs (s.label + 1) ≡ Some c → s.label ≤ c.labels
  tested_low start cs Stops after c (last, ends, go, same) is =
      rises_of s.label (s.label + 1) (all_tested s.label f cs (s.label + 1)) c is (omega arith)
      (tested_rise start cs last ends s.label (s.label + 1) go)
  tested_low start cs (Always x) after c (last, ends, (mid, earlier, ending, go, goes, joined), same, holds) is =
      rises_of s.label (s.label + 1) (all_tested s.label f cs (s.label + 1)) c is (omega arith)
      (tested_rise start cs mid earlier s.label (s.label + 1) go)
  tested_low start cs (Opens x) after c (last, ends, (mid, earlier, ending, go, goes, joined), same) is =
      rises_of s.label (s.label + 1) (all_tested s.label f cs (s.label + 1)) c is (omega arith)
      (tested_rise start cs mid earlier s.label (s.label + 1) go)

  -- An IF whose choices and their ending go on so.
  pub if_passes : (after : Known) (x : EndedChoices) (opened : List OpenLabel) (before : Told) (c : Code)
      → IsSound p s s.known.entries → EndedGo s.known.entries x after.entries
      → if_code s f after x ≡ Some c → AllFit p.program c.pieces → Holds s.known.entries before
      → PassesTo p s.frame after.entries opened c.pieces before
  if_passes after x opened before c sound go is fit holds =
      let start = s.known.entries in
      let row = row_of s.label s.frame after ∷ [] in
      let entries = facts_in s.frame after.entries in
      let d = closed_is row (choices_code s.label f x (s.label + 1)) c is in
      let own = all_first (FitsIn p.program) d.first.pieces row (subst (AllFit p.program) d.pieces fit) in
      let t = then_is (all_tested s.label f x.tested (s.label + 1)) (ending_code s.label f x.ending) d.first d.is in
      let fits = subst (AllFit p.program) t.pieces own in
      let first = all_first (FitsIn p.program) t.first.pieces t.last.pieces fits in
      let last = all_last (FitsIn p.program) t.first.pieces t.last.pieces fits in
      let low : s.label ≤ s.label + 1 = omega arith in
      let further = tested_low start x.tested x.ending after.entries t.first go t.first_is in
      let ends = after_sound start x.tested x.ending after.entries s.label (s.label + 1) t.first t.last sound go low
      further t.first_is
      first t.last_is last in
      let e = ending_passes start x.tested x.ending after.entries s.label (s.label + 1)
      (open_label s.label entries ∷ opened)
      before t.first t.last go ends.settled low further t.first_is first t.last_is last (inl refl) holds in
      record {
        after = told_by p.passage entries;
        passes = subst (λ (ps : List Piece). PassOn p.passage opened (Some before) ps
            (Some (told_by p.passage entries)))
            (sym (d.pieces ∙ ap (λ (ps : List Piece). ps ++ row) t.pieces)) (closes {t = e.told} e.passes e.implies);
        holds = row_tells p s after.entries placed ends.settled;
        settled = ends.settled;
        typed = ends.typed;
      }
