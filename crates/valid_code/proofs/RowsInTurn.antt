-- The rows of the code of sequential programs are of words in turn: one induction over processes.
use Rattle.std.proofs.Common.{◌≡◌, ℕ, zero, suc, ◌+◌, ◌≤◌, ℤ, pos, negsuc, Bool, true, false, cond, List, [], ◌∷◌, ◌++◌}
use Rattle.std.proofs.Common.{length, Option, Some, None, refl, sym, ap, subst, ◌∙◌, arith, unwrap_or, max}
use Rattle.std.proofs.Common.{length-append}
use Rattle.std.specs.Prelude.{⊤, map, nat_lt, reverse}
use Rattle.std.proofs.lemmas.Bool.{ltb-true, ltb-false}
use Rattle.std.specs.List.{AllByRecursion}
use Rattle.std.proofs.lemmas.List.{length-map}
use Rattle.occam_layout.specs.declared.mark.Mark.TheVariants as mark
use Rattle.occam_parser.specs.Terminals.{Terminal, Mark}
use Rattle.occam_parser.specs.Expressions.{Expression}
use Rattle.occam_parser.specs.Lines as lines
use Rattle.occam_parser.specs.Lines.{Action, Assign, Constants, Formal, Input, Instance, Output, Replicator, Skip, Stop}
use Rattle.occam_parser.specs.Lines.{Value, block_word}
use Rattle.occam_parser.specs.Blocks.{Act, Block, Body, Chosen, Component, Components, Construct, Declared, Does}
use Rattle.occam_parser.specs.Blocks.{Further, GlobalConstant, GlobalProcedure, Guarded, NoComponent, One, Part, part_of}
use Rattle.occam_parser.specs.Blocks.{Plain, Procedure, Process, ProgramItem, Replicated}
use Rattle.module_format.specs.declared.limits.TheConstants.{MAX_DATA_WORDS}
use Rattle.scalar_ranges.specs.Entries as entries
use Rattle.scalar_ranges.specs.Entries.{Entry, Meaning, Scalar}
use Rattle.scalar_ranges.specs.Moves as moves
use Rattle.scalar_ranges.specs.Moves.{Known, begin, begin_loop, begun_with, end, exclude_from, excluded, outermost, widen}
use Rattle.scalar_ranges.specs.MoveLaws.{shape}
use Rattle.scalar_ranges.specs.Narrowing.{narrow, test_of}
use Rattle.scalar_ranges.proofs.MoveLaws.{shapes_stay}
use Rattle.scalar_ranges.proofs.Nesting.{long_alike, outermost_short}
use Rattle.program_uses.specs.Actions.{Around, is_before}
use Rattle.program_uses.specs.Changes.{changed_by_body, changed_by_component}
use Rattle.program_uses.specs.Changes.{changed_by_components}
use Rattle.program_uses.specs.Declaring.{add, add_declaration, add_formals, constant_meaning, formal_meaning}
use Rattle.program_uses.specs.Indices.{Repeats, index_in, index_meaning, is_seq, repeats_of, turn_by_turn}
use Rattle.program_uses.specs.Outlines.{outline}
use Rattle.program_meaning.specs.Meaning.{port_for}
use Rattle.program_meaning.specs.Sequential.{IsSequential, IsSequentialAction, IsSequentialBody, IsSequentialComponent}
use Rattle.program_meaning.specs.Sequential.{IsSequentialConstruct, AreSequential, IsSequentialProgram}
use Rattle.program_meaning.proofs.MovesWithin.{within_long, within_shape}
use Rattle.usage_checks.specs.AfterProcesses.{after_component, after_components, begun, begun_body, chosen}
use Rattle.usage_checks.specs.AfterProcesses.{ended, inside, repeated, unless}
use Rattle.usage_checks.specs.ItemRules as outside
use Rattle.usage_checks.specs.ItemRules.{Outside, after_item, after_procedure, after_walk, after_weighing, around_in}
use Rattle.usage_checks.specs.ItemRules.{in_body, weighed}
use Rattle.usage_checks.specs.NameRules.{with_entries}
use Rattle.usage_checks.specs.Outlines.{IsMadeOf}
use Rattle.usage_checks.specs.Sizes.{Measured}
use Rattle.usage_checks.proofs.OutlinesStay.{kind_fits}
use Rattle.usage_checks.proofs.RangesStay.{EndsWithin, Low, Remains, Turned, component_stays, components_stay}
use Rattle.usage_checks.proofs.RangesStay.{covers_itself, declared_long, ranges_stay, remains_low, turns_turned}
use Rattle.code_pieces.specs.declared.operations.TheConstants.{STOP_PROCESS}
use Rattle.code_pieces.specs.Pieces.{Code, Direct, Jump, JumpUnless, Piece, TableAddress, before, closed_by}
use Rattle.code_pieces.specs.Pieces.{operates, then_code}
use Rattle.code_pieces.specs.Laying.{words_taken}
use Rattle.code_pieces.proofs.AllOfPieces.{all_both, all_first, all_last}
use Rattle.line_pieces.specs.Actions.{assign_code, forgets, input_code, may_show, output_code, test_code}
use Rattle.line_pieces.specs.Declarations.{Frame, declaration_code, facts_in, home_for, with_block, with_home}
use Rattle.line_pieces.specs.Expressions.{expression_code}
use Rattle.line_pieces.specs.Homes.{Home, Nowhere, facts_at, facts_from}
use Rattle.code_generator.specs.Calls.{Callee, where_called}
use Rattle.code_generator.specs.Processes.{Always, EndedChoices, IfEnding, NoChoice, Opens, PlacedChoice}
use Rattle.code_generator.specs.Processes.{PlacedChoices, Site, Stops, Surroundings, ThenChoice, all_tested}
use Rattle.code_generator.specs.Processes.{at_place, body_code, by_block, choices_code, component_code}
use Rattle.code_generator.specs.Processes.{components_code, construct_code, ending_code, has_scalar, if_code}
use Rattle.code_generator.specs.Processes.{in_each_turn, in_loop, is_true, line_code, loop_code, loop_end, loop_start}
use Rattle.code_generator.specs.Processes.{no_loop, opening, placed, placed_choices, process_code, repeated_seq, row_of}
use Rattle.code_generator.specs.Processes.{taken_code, tested_code, times, turn_begun, turned, value_or_zero}
use Rattle.code_generator.specs.Processes.{with_declaration, with_ending, with_opening}
use Rattle.code_generator.specs.Programs.{callable, code_of, first_word, framed, home_of_port, in_main, items_code}
use Rattle.code_generator.specs.Programs.{last_item_code, no_frame, with_links}
use Rattle.meant_code.specs.AmongOthers.{NamesBelow}
use Rattle.meant_code.specs.Labels.{AreStraight, IsStraight}
use Rattle.meant_code.proofs.AmongOthers.{words_are_taken}
use Rattle.meant_code.proofs.StraightLines.{assign_is, declaration_is, expression_is, forgets_is, input_is}
use Rattle.meant_code.proofs.StraightLines.{loop_start_is, output_is}
use Rattle.valid_code.specs.ValidPieces.{InTurn}
use Rattle.valid_code.specs.RowsInTurn.{IsRowInTurn, RowsAreInTurn}
use Rattle.valid_code.proofs.ScopesInTurn.{IsPlaced, Names, block_placed}
use Rattle.valid_code.proofs.ScopesInTurn.{declared_placed, elsewhere_placed, named_after, row_in_turn, row_in_turn_more}
use Rattle.valid_code.proofs.ScopesInTurn.{shape_placed}

-- ---- what is known keeps its shape

-- what is known at a place has the names of another one, which denote the same but for ranges
record HasShape (l k : Known) : Type 0 where
  shape_is : shape l.entries ≡ shape k.entries
  long : length l.entries ≡ length k.entries

from_shape : (l k : Known) → shape l.entries ≡ shape k.entries → HasShape l k
from_shape l k same = record { shape_is = same; long = long_alike l.entries k.entries same }

remains_shape : (ns : List ℕ) (k l : Known) → Remains ns k l → HasShape l k
remains_shape ns k l h = from_shape l k (within_shape ns l.entries k.entries h.within)

turned_shape : (ns : List ℕ) (k l : Known) → Turned ns k l → HasShape l k
turned_shape ns k l h =
    from_shape l k (ap (λ (x : Known). shape x.entries) h.is ∙ within_shape ns h.start k.entries h.starts)

turned_low : (ns : List ℕ) (k l : Known) → Turned ns k l → Low l
turned_low ns k l h =
    let begun = ap (λ (x : Known). begun_with x.blocks) h.is in
    let long = ap (λ (x : Known). length x.entries) h.is in
    omega (arith, begun, long)

ended_shape : (ns : List ℕ) (k l : Known) → Turned ns k l → HasShape (end l) k
ended_shape ns k l h =
    from_shape (end l) k
    (ap (λ (x : Known). shape (end x).entries) h.is ∙ by_ends h.ends h.ended)
  where
    by_ends : (ends : Option (List Entry)) → EndsWithin ns ends k.entries
        → shape (unwrap_or ends h.start) ≡ shape k.entries
    by_ends None ended = within_shape ns h.start k.entries h.starts
    by_ends (Some es) ended = within_shape ns es k.entries ended

ended_blocks : (ns : List ℕ) (k l : Known) → Turned ns k l → (end l).blocks ≡ k.blocks
ended_blocks ns k l h = ap (λ (x : Known). (end x).blocks) h.is

-- where a condition holds
excluded_low : (e : Expression) (es : List Entry) (bs : List moves.Block)
    → begun_with (exclude_from e es bs) ≡ begun_with bs
excluded_low e es [] = refl
excluded_low e es (b ∷ bs) = long_alike (excluded e es b.start) b.start (shapes_stay.excluding es b.start e)

pub chosen_low : (e : Expression) (k : Known) → Low k → Low (chosen e k)
chosen_low e k low =
    let begun = excluded_low e k.entries k.blocks in
    let long = long_alike (narrow k.entries e true) k.entries (shapes_stay.narrowing k.entries e true) in
    omega (arith, low, begun, long)

chosen_shape : (e : Expression) (k : Known) → HasShape (chosen e k) k
chosen_shape e k = from_shape (chosen e k) k (shapes_stay.narrowing k.entries e true)

further_shape : (l m k : Known) → HasShape l m → HasShape m k → HasShape l k
further_shape l m k first second =
    record { shape_is = first.shape_is ∙ second.shape_is; long = first.long ∙ second.long }

module _ (words : ℕ) (few : words ≤ MAX_DATA_WORDS) where
  abbrev Rows : List Piece → Type 0
  Rows ps = AllByRecursion (IsRowInTurn words) ps

  -- code whose rows are in turn, if its pieces name no word from this one on
  abbrev Good : Option Code → Type 0
  Good None = ⊤
  Good (Some c) = Names words few c.pieces → Rows c.pieces

  -- ---- code put together

  straight_row : (p : Piece) → IsStraight p → IsRowInTurn words p
  straight_row (Direct f e) is = tt
  straight_row (TableAddress values) is = tt
  straight_row p is = absurd is

  straight_rows : (ps : List Piece) → AreStraight ps → Rows ps
  straight_rows [] are = tt
  straight_rows (p ∷ ps) are = (straight_row p are.0, straight_rows ps are.1)

  before_good : (ps : List Piece) (code : Option Code) → (Names words few ps → Rows ps)
      → (Names words few ps → Good code) → Good (before ps code)
  before_good ps None rows good = tt
  before_good ps (Some c) rows good =
      λ names.
      let first = all_first (NamesBelow words) ps c.pieces names in
      all_both (IsRowInTurn words) ps c.pieces (rows first) (good first (all_last (NamesBelow words) ps c.pieces names))

  closed_good : (ps : List Piece) (code : Option Code) → Rows ps → Good code → Good (closed_by ps code)
  closed_good ps None rows good = tt
  closed_good ps (Some c) rows good =
      λ names. all_both (IsRowInTurn words) c.pieces ps (good (all_first (NamesBelow words) c.pieces ps names)) rows

  then_good : (code : Option Code) (next : ℕ → Option Code) → Good code → ((label : ℕ) → Good (next label))
      → Good (then_code code next)
  then_good None next good all = tt
  then_good (Some c) next good all = before_good c.pieces (next c.labels) good (λ names. all c.labels)

  -- ---- sites

  pub record IsSite (f : Frame) (k : Known) : Type 0 where
    pub placed : IsPlaced words f k.entries
    pub low : Low k

  -- what a row says in the frame of a site
  abbrev SaysInTurn : Frame → Known → Type 0
  SaysInTurn f k = InTurn 0 (facts_in f k.entries) words

  says : (f : Frame) (k l : Known) → IsSite f k → HasShape l k → SaysInTurn f l
  says f k l site same = row_in_turn words f k.entries l.entries site.placed same.shape_is

  moved : (f : Frame) (k l : Known) → IsSite f k → HasShape l k → Low l → IsSite f l
  moved f k l site same low =
      record { placed = shape_placed words f k.entries l.entries site.placed same.shape_is same.long; low = low }

  itself : (k : Known) → HasShape k k
  itself k = record { shape_is = refl; long = refl }

  -- ---- actions

  line_good : (w : Surroundings) (action : Action) (s : Site) → IsSequentialAction action → IsSite s.frame s.known
      → Good (line_code w action s)
  line_good w (Instance name actuals) s seq site = absurd seq
  line_good w Skip s seq site = λ names. tt
  line_good w Stop s seq site = λ names. (tt, (says s.frame s.known s.known site (itself s.known), tt))
  line_good w (Assign target value) s seq site =
      λ names. straight_rows (assign_code s.frame.homes s.known.entries s.frame.top target value)
      (assign_is s.frame.homes s.known.entries s.frame.top target value)
  line_good w (Input channel target) s seq site =
      λ names. straight_rows (input_code s.frame.homes s.known.entries s.frame.top channel target)
      (input_is s.frame.homes s.known.entries s.frame.top channel target)
  line_good w (Output channel value) s seq site =
      λ names. straight_rows (output_code s.frame.homes s.known.entries s.frame.top channel value)
      (output_is s.frame.homes s.known.entries s.frame.top channel value)

  -- ---- components, whose processes have such code at all sites

  abbrev IsGood : {part : Part} → Surroundings → Component part → Type 0
  IsGood w (Plain p) = (s : Site) → IsSite s.frame s.known → Good (process_code w p s)
  IsGood w (Chosen line e p) = (s : Site) → IsSite s.frame s.known → Good (process_code w p s)
  IsGood w (Guarded line g p) = ⊤

  abbrev AreGood : {part : Part} → Surroundings → Components part → Type 0
  AreGood w NoComponent = ⊤
  AreGood w (Further cs c) = AreGood w cs × IsGood w c

  component_good : {part : Part} (w : Surroundings) (c : Component part) (s : Site) → IsGood w c
      → IsSite s.frame s.known → Good (component_code w c s)
  component_good w (Plain p) s all site = all s site
  component_good w (Chosen line e p) s all site = tt
  component_good w (Guarded line g p) s all site = tt

  components_good : {part : Part} (w : Surroundings) (cs : Components part) (s : Site) → IsMadeOf (Mark mark.Seq) part
      → AreGood w cs → IsSite s.frame s.known → Good (components_code w cs s)
  components_good w NoComponent s made all site = λ names. tt
  components_good w (Further cs c) s made all site =
      let a = w.around in
      let k = s.known in
      let ns = changed_by_components a.signatures k.entries cs in
      let l = after_components a (Mark mark.Seq) cs k in
      let remains = components_stay a ns (Mark mark.Seq) cs k made (covers_itself ns) site.low in
      then_good (components_code w cs s) (λ label. component_code w c (at_place l label s))
      (components_good w cs s made all.0 site)
      (λ label. component_good w c (at_place l label s) all.1
      (moved s.frame k l site (remains_shape ns k l remains) (remains_low ns k l remains site.low)))

  -- ---- choices of an IF

  record ChoiceGood (f : Frame) (c : PlacedChoice) : Type 0 where
    after : SaysInTurn f c.after
    process : (label : ℕ) → Good (taken_code f c label)

  abbrev AllGood : Frame → PlacedChoices → Type 0
  AllGood f NoChoice = ⊤
  AllGood f (ThenChoice cs c) = AllGood f cs × ChoiceGood f c

  abbrev EndingGood : Frame → IfEnding → Type 0
  EndingGood f Stops = ⊤
  EndingGood f (Always c) = ChoiceGood f c
  EndingGood f (Opens c) = ChoiceGood f c

  abbrev ChoicesGood : Frame → EndedChoices → Type 0
  ChoicesGood f x = AllGood f x.tested × EndingGood f x.ending

  ending_by : (holds : Bool) (f : Frame) (cs : PlacedChoices) (c : PlacedChoice) → AllGood f (ThenChoice cs c)
      → ChoicesGood f (cond holds (record { tested = cs; ending = Always c })
      (record { tested = ThenChoice cs c; ending = Stops }))
  ending_by true f cs c all = (all.0, all.1)
  ending_by false f cs c all = (all, tt)

  ending_good : (f : Frame) (cs : PlacedChoices) → AllGood f cs → ChoicesGood f (with_ending cs)
  ending_good f NoChoice all = (tt, tt)
  ending_good f (ThenChoice cs c) all = ending_by (is_true c.condition) f cs c all

  opening_by : (skips : Bool) (f : Frame) (cs : PlacedChoices) (opened c : PlacedChoice)
      → AllGood f (ThenChoice cs opened) → ChoiceGood f c
      → ChoicesGood f (cond skips (record { tested = cs; ending = Opens opened })
      (record { tested = ThenChoice cs opened; ending = Always c }))
  opening_by true f cs opened c all last = (all.0, all.1)
  opening_by false f cs opened c all last = (all, last)

  opening_good : (f : Frame) (cs : PlacedChoices) (x : IfEnding) → AllGood f cs → EndingGood f x
      → ChoicesGood f (opening cs x)
  opening_good f (ThenChoice cs opened) (Always c) all last = opening_by c.is_skip f cs opened c all last
  opening_good f cs x all last = (all, last)

  test_rows : (f : Frame) (es : List Entry) (e : Expression) (to : ℕ) → Rows (test_code f.homes es f.top e to)
  test_rows f es e to =
      let value = expression_code f.homes es f.top e in
      let forgetting = forgets (may_show es e) (test_of es e) in
      all_both (IsRowInTurn words) (value ++ forgetting) (JumpUnless to ∷ [])
      (all_both (IsRowInTurn words) value forgetting (straight_rows value (expression_is f.homes es f.top e))
      (straight_rows forgetting (forgets_is (may_show es e) (test_of es e)))) (tt, tt)

  tested_good : (to : ℕ) (f : Frame) (c : PlacedChoice) (label : ℕ) → ChoiceGood f c → Good (tested_code to f c label)
  tested_good to f c label good =
      before_good (test_code f.homes c.known.entries f.top c.condition label)
      (closed_by (Jump to ∷ row_of label f c.after ∷ []) (taken_code f c (label + 1)))
      (λ names. test_rows f c.known.entries c.condition label)
      (λ names. closed_good (Jump to ∷ row_of label f c.after ∷ []) (taken_code f c (label + 1)) (tt, (good.after, tt))
      (good.process (label + 1)))

  all_tested_good : (to : ℕ) (f : Frame) (cs : PlacedChoices) (label : ℕ) → AllGood f cs
      → Good (all_tested to f cs label)
  all_tested_good to f NoChoice label all = λ names. tt
  all_tested_good to f (ThenChoice cs c) label all =
      then_good (all_tested to f cs label) (tested_code to f c) (all_tested_good to f cs label all.0)
      (λ next. tested_good to f c next all.1)

  what_ends_good : (to : ℕ) (f : Frame) (x : IfEnding) (label : ℕ) → EndingGood f x → Good (ending_code to f x label)
  what_ends_good to f Stops label good = λ names. (tt, tt)
  what_ends_good to f (Always c) label good = good.process label
  what_ends_good to f (Opens c) label good =
      before_good (test_code f.homes c.known.entries f.top c.condition to) (taken_code f c label)
      (λ names. test_rows f c.known.entries c.condition to) (λ names. good.process label)

  if_good : (s : Site) (f : Frame) (after : Known) (x : EndedChoices) → ChoicesGood f x → SaysInTurn s.frame after
      → Good (if_code s f after x)
  if_good s f after x all turn =
      closed_good (row_of s.label s.frame after ∷ []) (choices_code s.label f x (s.label + 1)) (turn, tt)
      (then_good (all_tested s.label f x.tested (s.label + 1)) (ending_code s.label f x.ending)
      (all_tested_good s.label f x.tested (s.label + 1) all.0)
      (λ label. what_ends_good s.label f x.ending label all.1))

  -- a choice where this is known
  placed_good : {part : Part} (w : Surroundings) (c : Component part) (f : Frame) (k : Known)
      → IsMadeOf (Mark mark.If) part → IsGood w c → IsSite f k
      → SaysInTurn f (after_component w.around (Mark mark.If) c k) → ChoiceGood f (placed w c k)
  placed_good w (Plain p) f k made all site turn = absurd made
  placed_good w (Chosen line e p) f k made all site turn = record {
    after = turn;
    process = λ label. all (record { frame = f; known = chosen e k; label = label })
        (moved f k (chosen e k) site (chosen_shape e k) (chosen_low e k site.low));
  }
  placed_good w (Guarded line g p) f k made all site turn = absurd made

  -- where a choice begins
  choices_turned : {part : Part} (a : Around) (cs : Components part) (k : Known) → IsMadeOf (Mark mark.If) part → Low k
      → Turned (changed_by_components a.signatures k.entries cs) k (after_components a (Mark mark.If) cs (begin k))
  choices_turned a cs k made low =
      components_stay a (changed_by_components a.signatures k.entries cs) (Mark mark.If) cs k made (covers_itself _) low

  placed_all_good : {part : Part} (w : Surroundings) (cs : Components part) (s : Site)
      → IsMadeOf (Mark mark.If) part → AreGood w cs → IsSite s.frame s.known
      → AllGood s.frame (placed_choices w cs (begin s.known))
  placed_all_good w NoComponent s made all site = tt
  placed_all_good w (Further cs c) s made all site =
      let a = w.around in
      let k = s.known in
      let l = after_components a (Mark mark.If) cs (begin k) in
      let here = choices_turned a cs k made site.low in
      let next = choices_turned a (Further cs c) k made site.low in (
        placed_all_good w cs s made all.0 site,
        placed_good w c s.frame l made all.1
            (moved s.frame k l site (turned_shape _ k l here) (turned_low _ k l here))
            (says s.frame k (after_component a (Mark mark.If) c l) site
            (turned_shape _ k (after_component a (Mark mark.If) c l) next)),
      )

  -- ---- loops

  no_loop_good : (changes : Bool) (s : Site) (after : Known) → SaysInTurn s.frame after
      → Good (no_loop changes s after)
  no_loop_good false s after turn = λ names. tt
  no_loop_good true s after turn = λ names. (turn, tt)

  repeated_good : (s : Site) (changed : List ℕ) (after : Known) (base : ℤ) (loop : Option Code) (count : ℤ)
      → SaysInTurn s.frame after → Good loop → Good (repeated_seq s changed after base loop count)
  repeated_good s changed after base loop (pos zero) turn good =
      no_loop_good (has_scalar changed s.known.entries) s after turn
  repeated_good s changed after base loop (pos (suc n)) turn good = good
  repeated_good s changed after base loop (negsuc n) turn good = good

  loop_good : (s inner : Site) (after : Known) (base count : ℤ) (body : Option Code)
      → (Names words few (loop_start s.frame.top base count) → IsSite inner.frame inner.known × Good body)
      → SaysInTurn s.frame after → Good (loop_code s inner after base count body)
  loop_good s inner after base count body enters turn =
      let start = loop_start s.frame.top base count in
      let row = row_of s.label inner.frame inner.known ∷ [] in
      let last = loop_end s.frame.top s.label (row_of (s.label + 1) s.frame after) in
      before_good (start ++ row) (closed_by last body)
      (λ names.
      let site = (enters (all_first (NamesBelow words) start row names)).0 in
      all_both (IsRowInTurn words) start row (straight_rows start (loop_start_is s.frame.top base count))
      (says inner.frame inner.known inner.known site (itself inner.known), tt))
      (λ names. closed_good last body (tt, (tt, (turn, tt))) (enters (all_first (NamesBelow words) start row names)).1)

  -- the site of a loop's body, whose block is named
  loop_site : (s : Site) (changed : List ℕ) (name : List ℕ) (m : Meaning) (kind : _) (type : _) (range : _) (base count : ℤ)
      → m ≡ Scalar kind type range → IsSite s.frame s.known → Names words few (loop_start s.frame.top base count)
      → IsSite (with_block s.label s.frame) (with_entries (add name m) (begin_loop changed s.known))
  loop_site s changed name m kind type range base count is site names =
      let es = s.known.entries in
      let wide = shapes_stay.widening es changed in
      let placed = shape_placed words s.frame es (widen changed es) site.placed wide
      (long_alike (widen changed es) es wide) in
      let named = named_after words s.frame.top 1 few names.1.1.1.0 in
      record {
        placed = subst (λ (x : Meaning). IsPlaced words (with_block s.label s.frame) (add name x (widen changed es))) (sym is)
            (block_placed words few s.frame (widen changed es) name kind type range s.label placed (omega (arith, named)));
        low = omega arith;
      }

  -- what is known after the body of a loop
  loop_shape : {part : Part} (a : Around) (c : Component part) (changed : List ℕ) (name : List ℕ) (m : Meaning)
      (k : Known) → IsMadeOf (Mark mark.Seq) part
      → HasShape (end (after_component a (Mark mark.Seq) c (with_entries (add name m) (begin_loop changed k)))) k
  loop_shape a c changed name m k made =
      let l = with_entries (add name m) (begin_loop changed k) in
      let x = after_component a (Mark mark.Seq) c l in
      let ns = changed_by_component a.signatures l.entries c in
      let remains : Remains ns l x =
      component_stays a ns (Mark mark.Seq) c made l.entries (covers_itself ns) l (omega arith) refl in
      from_shape (end x) k
      (ap (λ (bs : List moves.Block). shape (moves.after_block x.entries bs).entries) remains.blocks
      ∙ shapes_stay.widening k.entries changed)

  -- ---- an IF under a replicator

  unless_same : (happens : Bool) (k : Known) → (unless happens begin k).entries ≡ k.entries
  unless_same true k = refl
  unless_same false k = refl

  repeated_shape : (happens : Bool) (ns : List ℕ) (k : Known) (turns : Known → Known)
      → ((j : Known) → j.entries ≡ k.entries → Turned ns j (turns j))
      → HasShape (repeated happens (turns (unless happens begin k))) k
  repeated_shape true ns k turns turned = ended_shape ns k (turns k) (turned k refl)
  repeated_shape false ns k turns turned =
      let j = begin k in
      let blocks = ended_blocks ns j (turns j) (turned j refl) in
      from_shape (end (end (turns j))) k
      (ap (λ (bs : List moves.Block). shape (moves.after_block (end (turns j)).entries bs).entries) blocks)

  turns_good : (choice : ℕ → PlacedChoice) (f : Frame) (count : ℕ) → ((n : ℕ) → ChoiceGood f (choice n))
      → AllGood f (in_each_turn choice count)
  turns_good choice f zero all = tt
  turns_good choice f (suc n) all = (turns_good choice f n all, all n)

  -- ---- blocks

  by_word : (word : Terminal) (all choices : Option Code) → (word ≡ Mark mark.Seq → Good all)
      → (word ≡ Mark mark.If → Good choices) → Good (by_block word all choices)
  by_word (Mark mark.Seq) all choices first second = first refl
  by_word (Mark mark.If) all choices first second = second refl
  by_word word all choices first second = tt

  block_good : {part : Part} (w : Surroundings) (word : Terminal) (cs : Components part) (s : Site) → IsMadeOf word part
      → AreGood w cs → IsSite s.frame s.known
      → Good (by_block word (components_code w cs s)
      (if_code s s.frame (ended word (after_components w.around word cs (begun word s.known)))
      (with_opening (with_ending (placed_choices w cs (begun word s.known))))))
  block_good {part} w word cs s made all site =
      by_word word (components_code w cs s)
      (if_code s s.frame (ended word (after_components w.around word cs (begun word s.known)))
      (with_opening (with_ending (placed_choices w cs (begun word s.known)))))
      (λ is. components_good w cs s (subst (λ (t : Terminal). IsMadeOf t part) is made) all site)
      (λ is. subst (λ (t : Terminal). Good (if_code s s.frame
      (ended t (after_components w.around t cs (begun t s.known)))
      (with_opening (with_ending (placed_choices w cs (begun t s.known)))))) (sym is)
      (if_block (subst (λ (t : Terminal). IsMadeOf t part) is made)))
    where
      if_block : IsMadeOf (Mark mark.If) part → Good (if_code s s.frame
          (end (after_components w.around (Mark mark.If) cs (begin s.known)))
          (with_opening (with_ending (placed_choices w cs (begin s.known)))))
      if_block is_if =
          let k = s.known in
          let l = after_components w.around (Mark mark.If) cs (begin k) in
          let here = choices_turned w.around cs k is_if site.low in
          let choices = with_ending (placed_choices w cs (begin k)) in
          let have = ending_good s.frame (placed_choices w cs (begin k)) (placed_all_good w cs s is_if all site) in
          if_good s s.frame (end l) (with_opening choices)
          (opening_good s.frame choices.tested choices.ending have.0 have.1)
          (says s.frame k (end l) site (ended_shape _ k l here))

  -- what is known after a body, and its code, by the word of its block
  abbrev repeats_at : Surroundings → ℕ → Replicator → Terminal → Known → Repeats
  repeats_at w line r word k = repeats_of (is_before line w.around.uncounted) k.entries (is_seq word) r

  abbrev after_at : {part : Part} → Surroundings → ℕ → Replicator → List ℕ → Terminal → Component part → Known → Known
  after_at w line r changed word c k =
      let repeats = repeats_at w line r word k in
      repeated repeats.happens
      (turn_by_turn (turned w.around word r.name c repeats) repeats.turns.count
      (begun_body word changed repeats.happens k))

  abbrev seq_at : {part : Part} → Surroundings → ℕ → Replicator → List ℕ → Terminal → Component part → Site
      → Option Code
  seq_at w line r changed word c s =
      let repeats = repeats_at w line r word s.known in
      let inner = in_loop s (begun_body word changed repeats.happens s.known) r.name (index_in repeats 0) in
      let after = after_at w line r changed word c s.known in
      let base = value_or_zero s.known.entries r.base in
      let count = value_or_zero s.known.entries r.count in
      repeated_seq s changed after base (loop_code s inner after base count (component_code w c inner)) count

  abbrev if_at : {part : Part} → Surroundings → ℕ → Replicator → List ℕ → Terminal → Component part → Site
      → Option Code
  if_at w line r changed word c s =
      let repeats = repeats_at w line r word s.known in
      if_code s (with_home Nowhere s.frame) (after_at w line r changed word c s.known) (with_ending (in_each_turn
      (λ n. placed w c (turn_begun w.around word r.name c repeats (begun_body word changed repeats.happens s.known) n))
      (times repeats)))

  seq_good : {part : Part} (w : Surroundings) (line : ℕ) (r : Replicator) (changed : List ℕ) (c : Component part)
      (s : Site) → IsMadeOf (Mark mark.Seq) part → IsGood w c → IsSite s.frame s.known
      → Good (seq_at w line r changed (Mark mark.Seq) c s)
  seq_good w line r changed c s made all site =
      let repeats = repeats_at w line r (Mark mark.Seq) s.known in
      let m = index_in repeats 0 in
      let inner = in_loop s (begin_loop changed s.known) r.name m in
      let after = after_at w line r changed (Mark mark.Seq) c s.known in
      let base = value_or_zero s.known.entries r.base in
      let count = value_or_zero s.known.entries r.count in
      let turn = says s.frame s.known after site (loop_shape w.around c changed r.name m s.known made) in
      repeated_good s changed after base (loop_code s inner after base count (component_code w c inner)) count turn
      (loop_good s inner after base count (component_code w c inner)
      (λ names.
      let there : IsSite inner.frame inner.known =
      loop_site s changed r.name m _ _ repeats.indices base count refl site names in
      (there, component_good w c inner all there)) turn)

  turned_if_good : {part : Part} (w : Surroundings) (line : ℕ) (r : Replicator) (changed : List ℕ) (c : Component part)
      (s : Site) → IsMadeOf (Mark mark.If) part → IsGood w c → IsSite s.frame s.known
      → Good (if_at w line r changed (Mark mark.If) c s)
  turned_if_good {part} w line r changed c s made all site =
      let a = w.around in
      let k = s.known in
      let repeats = repeats_at w line r (Mark mark.If) k in
      let f = with_home Nowhere s.frame in
      let es = add r.name (index_meaning false None) k.entries in
      let ns = changed_by_component a.signatures es c in
      let turns : ℕ → Known → Known =
      λ n j. turn_by_turn (turned a (Mark mark.If) r.name c repeats) n (begin j) in
      let all_turned : (n : ℕ) (j : Known) → j.entries ≡ k.entries → Turned ns j (turns n j) =
      λ n j same.
      turns_turned a ns (Mark mark.If) c r.name repeats changed k.entries j n made tt refl (ap outline same)
      (component_stays a ns (Mark mark.If) c made es (covers_itself ns)) in
      let j = unless repeats.happens begin k in
      let same = unless_same repeats.happens k in
      let alike : HasShape j k = from_shape j k (ap shape same) in
      let choice : ℕ → PlacedChoice =
      λ n. placed w c (turn_begun a (Mark mark.If) r.name c repeats (begin j) n) in
      let after = after_at w line r changed (Mark mark.If) c k in
      if_good s f after (with_ending (in_each_turn choice (times repeats)))
      (ending_good f (in_each_turn choice (times repeats)) (turns_good choice f (times repeats) (λ n.
      let x = turns n j in
      let here = all_turned n j same in
      let next = all_turned (suc n) j same in
      let shaped = further_shape x j k (turned_shape ns j x here) alike in
      let further = further_shape (turns (suc n) j) j k (turned_shape ns j (turns (suc n) j) next) alike in
      let m = index_in repeats n in
      let low = turned_low ns j x here in
      let l = with_entries (add r.name m) x in
      placed_good w c f l made all (record {
        placed = elsewhere_placed words few s.frame x.entries Nowhere r.name m
            (shape_placed words s.frame k.entries x.entries site.placed shaped.shape_is shaped.long) refl;
        low = omega (arith, low);
      }) (row_in_turn_more words s.frame Nowhere k.entries (turns (suc n) j).entries site.placed further.shape_is
      further.long))))
      (says s.frame k after site (repeated_shape repeats.happens ns k (turns repeats.turns.count)
      (λ i alike. all_turned repeats.turns.count i alike)))

  -- ---- processes

  module _ (w : Surroundings) where
    mutual
      process_good : (p : Process) (s : Site) → IsSequential p → IsSite s.frame s.known → Good (process_code w p s)
      process_good (Declared d p) s seq site =
          before_good (declaration_code s.known.entries d s.frame.top) (process_code w p (with_declaration d s))
          (λ names. straight_rows (declaration_code s.known.entries d s.frame.top)
          (declaration_is s.known.entries d s.frame.top))
          (λ names. process_good p (with_declaration d s) seq (record {
            placed = declared_placed words few s.frame s.known.entries d site.placed names;
            low = (let longer = declared_long d s.known.entries in let low = site.low in omega (arith, longer, low));
          }))
      process_good (Does line c) s seq site = construct_good line c s seq site

      construct_good : (line : ℕ) (c : Construct) (s : Site) → IsSequentialConstruct c → IsSite s.frame s.known
          → Good (construct_code w line c s)
      construct_good line (Act action) s seq site = line_good w action s seq site
      construct_good line (Block kind cs) s seq site =
          block_good w (block_word kind) cs s (kind_fits kind) (all_good (block_word kind) cs seq.1) site
      construct_good line (Replicated r b) s seq site = body_good line r b s seq site

      body_good : (line : ℕ) (r : Replicator) (b : Body) (s : Site) → IsSequentialBody b → IsSite s.frame s.known
          → Good (body_code w line r b s)
      body_good line r (One kind c) s seq site =
          let word = block_word kind in
          let changed = changed_by_body w.around.signatures s.known.entries r (One kind c) in
          let good = one_good word c seq in
          let made = kind_fits kind in
          by_word word (seq_at w line r changed word c s) (if_at w line r changed word c s)
          (λ is. subst (λ (t : Terminal). Good (seq_at w line r changed t c s)) (sym is)
          (seq_good w line r changed c s (subst (λ (t : Terminal). IsMadeOf t (part_of kind)) is made) good site))
          (λ is. subst (λ (t : Terminal). Good (if_at w line r changed t c s)) (sym is)
          (turned_if_good w line r changed c s (subst (λ (t : Terminal). IsMadeOf t (part_of kind)) is made) good site))

      all_good : {part : Part} (word : Terminal) (cs : Components part) → AreSequential word cs → AreGood w cs
      all_good word NoComponent seq = tt
      all_good word (Further cs c) seq = (all_good word cs seq.0, one_good word c seq.1)

      one_good : {part : Part} (word : Terminal) (c : Component part) → IsSequentialComponent word c → IsGood w c
      one_good (Mark mark.Seq) (Plain p) seq = λ s site. process_good p s seq site
      one_good (Mark mark.If) (Chosen line e p) seq = λ s site. process_good p s seq site
      one_good word c seq = absurd seq

  -- ---- programs

  -- homes of which nothing is known
  abbrev SayNothing : List Home → Type 0
  SayNothing hs = AllByRecursion (λ h. (m : Meaning) → facts_at h m ≡ []) hs

  no_facts : (hs : List Home) (es : List Entry) → SayNothing hs → facts_from hs es ≡ []
  no_facts [] es none = refl
  no_facts (h ∷ hs) [] none = refl
  no_facts (h ∷ hs) (e ∷ es) none =
      ap (λ (fs : _). fs ++ facts_from hs es) (none.0 e.meaning) ∙ no_facts hs es none.1

  nowhere : (m : Meaning) → facts_at Nowhere m ≡ []
  nowhere m = refl

  -- where an item comes
  record IsOuter (f : Frame) (k : Known) : Type 0 where
    blocks : k.blocks ≡ []
    long : length k.entries ≡ length f.homes
    outer : f.outer ≡ []
    none : SayNothing f.homes
    top : f.top ≡ first_word

  constant_none : (es : List Entry) (type : _) (value : Value) (m : Meaning) → facts_at (home_for es type value) m ≡ []
  constant_none es type (lines.Scalar e) m = refl
  constant_none es type (lines.Table size items) m = refl
  constant_none es type (lines.Bytes size bytes) m = refl

  outer_more : (f : Frame) (k : Known) (h : Home) (name : List ℕ) (m : Meaning) → IsOuter f k
      → ((n : Meaning) → facts_at h n ≡ []) → IsOuter (with_home h f) (with_entries (add name m) k)
  outer_more f k h name m at none =
      let homes = length-append f.homes (h ∷ []) in
      let long = at.long in
      record {
        blocks = at.blocks;
        long = omega (arith, homes, long);
        outer = at.outer;
        none = all_both (λ (x : Home). (n : Meaning) → facts_at x n ≡ []) f.homes (h ∷ []) at.none (none, tt);
        top = at.top;
      }

  -- a formal of main is a link or nowhere
  link_none : (x : Formal) (m : Meaning) → facts_at (home_of_port (port_for x)) m ≡ []
  link_none x m = by_port (port_for x)
    where
      by_port : (p : _) → facts_at (home_of_port p) m ≡ []
      by_port None = refl
      by_port (Some p) = refl

  links_none : (fs : List Formal) → SayNothing (map (λ (x : Formal). home_of_port (port_for x)) fs)
  links_none [] = tt
  links_none (x ∷ fs) = (link_none x, links_none fs)

  formals_long : (outer : List Entry) (fs : List Formal) (es : List Entry)
      → length (add_formals outer fs es) ≡ length es + length fs
  formals_long outer [] es = omega arith
  formals_long outer (x ∷ fs) es =
      let rest = formals_long outer fs (add x.name (formal_meaning outer x) es) in
      omega (arith, rest)

  main_site : (p : _) (f : Frame) (k : Known) → IsOuter f k
      → IsSite (with_links p.head.formals f) (in_body p k)
  main_site p f k at =
      let fs = p.head.formals in
      let links = map (λ (x : Formal). home_of_port (port_for x)) fs in
      let hs = f.homes ++ links in
      let es = add_formals k.entries fs k.entries in
      let homes = length-append f.homes links in
      let count = length-map fs (λ (x : Formal). home_of_port (port_for x)) in
      let more = formals_long k.entries fs k.entries in
      let long = at.long in
      let top = at.top in
      let blocks = ap begun_with at.blocks in
      record {
        placed = record {
          long = omega (arith, homes, count, more, long);
          outer = at.outer;
          end = 0;
          turn = subst (λ (all : _). InTurn 0 all 0) (sym (no_facts hs (reverse es)
              (all_both (λ (x : Home). (n : Meaning) → facts_at x n ≡ []) f.homes links at.none (links_none fs))))
              (omega arith);
          under = omega arith;
          inside = omega arith;
          counts = omega (arith, top);
        };
        low = omega (arith, blocks);
      }

  last_item_good : (item : ProgramItem) (cs : List Callee) (o : Outside) (f : Frame)
      → IsSequentialProgram (item ∷ []) → IsOuter f o.known → Good (last_item_code item cs o f)
  last_item_good (GlobalConstant c) cs o f seq at = tt
  last_item_good (GlobalProcedure p) cs o f seq at =
      let s = in_main p (record { frame = f; known = o.known; label = 0 }) in
      let w = where_called cs (around_in o) (length cs) in
      closed_good (operates STOP_PROCESS ∷ []) (process_code w p.body s) (tt, tt)
      (process_good w p.body s seq (main_site p f o.known at))

  weighed_known : (x : Option ℕ) (ms : List Measured) (o : Outside) → (after_weighing x ms o).known ≡ o.known
  weighed_known None ms o = refl
  weighed_known (Some line) ms o = refl

  -- the outermost of things that are more
  outermost_by : {A : Type 0} (b : Bool) (n : ℕ) (x : A) (xs : List A) → nat_lt (length xs) n ≡ b
      → n ≤ suc (length xs) → (n ≤ length xs → length (outermost n xs) ≡ n)
      → length (cond b (x ∷ xs) (outermost n xs)) ≡ n
  outermost_by true n x xs is fewer rest =
      let less = ltb-true (length xs) n is in
      omega (arith, fewer, less)
  outermost_by false n x xs is fewer rest =
      let more = ltb-false (length xs) n is in
      rest (omega (arith, more))

  outermost_long : {A : Type 0} (n : ℕ) (xs : List A) → n ≤ length xs → length (outermost n xs) ≡ n
  outermost_long n [] fewer = omega (arith, fewer)
  outermost_long n (x ∷ xs) fewer = outermost_by (nat_lt (length xs) n) n x xs refl fewer (outermost_long n xs)

  -- a procedure that is gone over leaves as many names as there were
  procedure_long : (a : Around) (p : Procedure) (k : Known) → k.blocks ≡ []
      → ((after_procedure a p k).blocks ≡ []) × (length (after_procedure a p k).entries ≡ length k.entries)
  procedure_long a p k none =
      let inner = in_body p k in
      let final = inside a p.body inner in
      let begun = ap begun_with none in
      let longer = formals_long k.entries p.head.formals k.entries in
      let stays = ranges_stay.processes a p.body inner (omega (arith, begun)) in
      let whole = within_long _ (outermost (length inner.entries) final.entries) inner.entries stays.within in
      let short = outermost_short (length inner.entries) final.entries in
      let blocks : final.blocks ≡ [] = stays.blocks ∙ none in
      let most : max (length k.entries) (begun_with final.blocks) ≡ length k.entries =
      (let left = ap begun_with blocks in omega (arith, left)) in (
        blocks,
        ap (λ (n : ℕ). length (outermost n final.entries)) most
            ∙ outermost_long (length k.entries) final.entries (omega (arith, whole, short, longer)),
      )

  item_outer : (item : ProgramItem) (o : Outside) (f : Frame) → IsOuter f o.known
      → IsOuter (framed item o f) (after_walk item (weighed item o)).known
  item_outer item o f at = by_item item (weighed item o) (weighed_known o.uncounted _ o)
    where
      by_item : (i : ProgramItem) (v : Outside) → v.known ≡ o.known → IsOuter (framed i o f) (after_walk i v).known
      by_item (GlobalConstant c) v same =
          subst (λ (k : Known). IsOuter (framed (GlobalConstant c) o f) (with_entries (add_declaration (Constants c)) k))
          (sym same)
          (outer_more f o.known (home_for o.known.entries c.value_type c.value) c.name
          (constant_meaning o.known.entries c.value_type c.value) at
          (constant_none o.known.entries c.value_type c.value))
      by_item (GlobalProcedure p) v same =
          let a = around_in v in
          let k = v.known in
          let left = after_procedure a p k in
          let none = ap (λ (l : Known). l.blocks) same ∙ at.blocks in
          let long = procedure_long a p k none in
          let before = ap (λ (l : Known). length l.entries) same in
          outer_more f left Nowhere p.head.name (entries.Procedure (length a.signatures)) (record {
            blocks = long.0;
            long = long.1 ∙ before ∙ at.long;
            outer = at.outer;
            none = at.none;
            top = at.top;
          }) nowhere

  items_good : (item : ProgramItem) (items : List ProgramItem) (cs : List Callee) (o : Outside) (f : Frame)
      → IsSequentialProgram (item ∷ items) → IsOuter f o.known → Good (items_code item items cs o f)
  items_good item [] cs o f seq at =
      last_item_good item cs (weighed item o) f seq
      (subst (IsOuter f) (sym (weighed_known o.uncounted _ o)) at)
  items_good (GlobalConstant c) (next ∷ items) cs o f seq at =
      let item = GlobalConstant c in
      items_good next items (callable item (length f.homes) cs) (after_item item o) (framed item o f) seq
      (item_outer item o f at)
  items_good (GlobalProcedure p) (next ∷ items) cs o f seq at =
      let item = GlobalProcedure p in
      items_good next items (callable item (length f.homes) cs) (after_item item o) (framed item o f) seq
      (item_outer item o f at)

  program_good : (items : List ProgramItem) → IsSequentialProgram items → Good (code_of items)
  program_good [] seq = absurd seq
  program_good (item ∷ items) seq =
      items_good item items [] outside.outermost no_frame seq
      (record { blocks = refl; long = refl; outer = refl; none = tt; top = refl })

pub rows_are_in_turn : RowsAreInTurn
rows_are_in_turn items c seq is few =
    subst (Good (words_taken c.pieces) few) is (program_good (words_taken c.pieces) few items seq)
    (words_are_taken c.pieces)
