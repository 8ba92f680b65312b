-- A file can say what the rows of sequential programs say: one induction over processes, where the walk comes to them.
use Rattle.std.proofs.Common.{◌≡◌, inl, inr, ℕ, zero, suc, ◌+◌, ◌<◌, ◌≤◌, ℤ, pos, negsuc, Bool, true, false, cond, List, []}
use Rattle.std.proofs.Common.{◌∷◌, ◌++◌, length, Option, Some, None, refl, sym, ap, subst, ◌∙◌, arith, unwrap_or, max}
use Rattle.std.proofs.Common.{FitsSigned, length-append}
use Rattle.std.specs.Prelude.{⊤, ◌&&◌, ◌<ℤ◌, ◌+ℤ◌, ◌-ℤ◌, map, nat_eq, reverse}
use Rattle.std.specs.Int.{w32}
use Rattle.std.specs.List.{AllByRecursion, list_all}
use Rattle.std.proofs.lemmas.Bool.{and_parts}
use Rattle.std.proofs.lemmas.Int.{ints}
use Rattle.std.proofs.lemmas.List.{length-map}
use Rattle.occam_layout.specs.declared.mark.Mark.TheVariants as mark
use Rattle.occam_parser.specs.declared.tree.FormalKind.TheVariants as formal_kind
use Rattle.occam_parser.specs.Terminals.{Terminal, Mark}
use Rattle.occam_parser.specs.Expressions.{Expression}
use Rattle.occam_parser.specs.OneOrMore.{as_list}
use Rattle.occam_parser.specs.Lines as lines
use Rattle.occam_parser.specs.Lines.{Action, Assign, Channels, Constants, Declaration, Formal, Input, Instance, Output}
use Rattle.occam_parser.specs.Lines.{Replicator, Skip, Stop, Value, Variables, block_word}
use Rattle.occam_parser.specs.Blocks.{Act, Block, Body, Chosen, Component, Components, Construct, Declared, Does}
use Rattle.occam_parser.specs.Blocks.{Further, GlobalConstant, GlobalProcedure, Guarded, NoComponent, One, Part, part_of}
use Rattle.occam_parser.specs.Blocks.{Plain, Procedure, Process, ProgramItem, Replicated}
use Rattle.occam_parser.specs.Words.{body_has_words, component_has_words, components_have_words}
use Rattle.occam_parser.specs.Words.{construct_has_words, declaration_has_words, formal_has_words, has_words}
use Rattle.occam_parser.specs.Words.{item_has_words, items_have_words, process_has_words, replicator_has_words}
use Rattle.module_format.specs.Order.{greatest_word}
use Rattle.word_arithmetic.specs.Range.{Ends, constant}
use Rattle.scalar_ranges.specs.declared.scope.ArrayKind.TheVariants as array
use Rattle.scalar_ranges.specs.declared.types.ExprType.TheVariants as types
use Rattle.scalar_ranges.specs.Entries as entries
use Rattle.scalar_ranges.specs.Entries.{Array, Entry, Meaning, Scalar, type_range}
use Rattle.scalar_ranges.specs.Moves as moves
use Rattle.scalar_ranges.specs.Moves.{Known, begin, begin_loop, begun_with, end, outermost}
use Rattle.scalar_ranges.specs.Narrowing.{test_of}
use Rattle.scalar_ranges.proofs.Nesting.{further_out, outermost_twice}
use Rattle.program_uses.specs.Actions.{Around, is_before}
use Rattle.program_uses.specs.Changes.{changed_by, changed_by_body, changed_by_component}
use Rattle.program_uses.specs.Changes.{changed_by_components}
use Rattle.program_uses.specs.Constants.{size_in, value_as}
use Rattle.program_uses.specs.Declaring.{add, add_all, add_declaration, add_formals, channel_meaning, constant_meaning}
use Rattle.program_uses.specs.Declaring.{formal_meaning, passed_meaning, range_of_bytes, range_of_items, table_of}
use Rattle.program_uses.specs.Declaring.{variable_meaning}
use Rattle.program_uses.specs.Indices.{Repeats, index_in, index_meaning, index_range, is_count, is_seq, repeats_of}
use Rattle.program_uses.specs.Indices.{turn_by_turn}
use Rattle.program_uses.specs.Outlines.{outline}
use Rattle.program_meaning.specs.Meaning.{port_for}
use Rattle.program_meaning.specs.RangesWithin.{EntriesWithin, MeaningWithin}
use Rattle.program_meaning.specs.Sequential.{IsSequential, IsSequentialAction, IsSequentialBody, IsSequentialComponent}
use Rattle.program_meaning.specs.Sequential.{IsSequentialConstruct, AreSequential, IsSequentialProgram}
use Rattle.program_meaning.proofs.MovesWithin.{narrow_within, within_left, within_long}
use Rattle.usage_checks.specs.declared.channel_rules.Position.{Position}
use Rattle.usage_checks.specs.AfterProcesses.{after_component, after_components, begun, begun_body, chosen, ended, inside}
use Rattle.usage_checks.specs.AfterProcesses.{repeated, unless}
use Rattle.usage_checks.specs.Holding.{ReplicatorHolds}
use Rattle.usage_checks.specs.ItemRules as outside
use Rattle.usage_checks.specs.ItemRules.{BreaksNoRule, Outside, after_item, after_procedure, after_walk, after_weighing}
use Rattle.usage_checks.specs.ItemRules.{around_in, in_body, weighed}
use Rattle.usage_checks.specs.NameRules.{with_entries}
use Rattle.usage_checks.specs.Outlines.{IsMadeOf}
use Rattle.usage_checks.specs.Reaching.{AComponent, AProcess, Comes, Piece as Place, Reaches, Standing, StandsAmong, behind}
use Rattle.usage_checks.specs.Reaching.{entered, in_block, process_of, to_body, to_part, to_process}
use Rattle.usage_checks.specs.Sizes.{Measured}
use Rattle.usage_checks.proofs.OutlinesStay.{kind_fits}
use Rattle.usage_checks.proofs.PlacesHold.{places_hold}
use Rattle.usage_checks.proofs.RangesStay.{EndsWithin, Low, Remains, Turned, all_outermost}
use Rattle.usage_checks.proofs.RangesStay.{component_stays, components_stay, covers_itself, ranges_stay, remains_low}
use Rattle.usage_checks.proofs.RangesStay.{turns_turned}
use Rattle.code_pieces.specs.declared.operations.TheConstants.{STOP_PROCESS}
use Rattle.code_pieces.specs.declared.piece.RowEntry.{RowEntry}
use Rattle.code_pieces.specs.Pieces.{Code, Direct, Jump, JumpUnless, Piece, Row, TableAddress, before, closed_by, operates}
use Rattle.code_pieces.specs.Pieces.{then_code, word_after}
use Rattle.code_pieces.proofs.AllOfPieces.{all_both}
use Rattle.line_pieces.specs.Actions.{assign_code, forgets, input_code, may_show, output_code, test_code}
use Rattle.line_pieces.specs.Declarations.{Frame, channels_in, declaration_code, declared, facts_in, home_for, with_home}
use Rattle.line_pieces.specs.Declarations.{with_names, with_words, words_in}
use Rattle.line_pieces.specs.Expressions.{expression_code}
use Rattle.line_pieces.specs.Homes.{Block as InBlock, Home, Nowhere, Word, facts_of}
use Rattle.code_generator.specs.Calls.{Callee, where_called}
use Rattle.code_generator.specs.Processes.{Always, EndedChoices, IfEnding, NoChoice, Opens, PlacedChoice}
use Rattle.code_generator.specs.Processes.{PlacedChoices, Site, Stops, Surroundings, ThenChoice, all_tested}
use Rattle.code_generator.specs.Processes.{at_place, body_code, by_block, choices_code, component_code}
use Rattle.code_generator.specs.Processes.{components_code, construct_code, ending_code, has_scalar, if_code}
use Rattle.code_generator.specs.Processes.{in_each_turn, in_loop, is_true, line_code, loop_code, loop_end, loop_start}
use Rattle.code_generator.specs.Processes.{no_loop, opening, placed, placed_choices, process_code, repeated_seq, row_of}
use Rattle.code_generator.specs.Processes.{taken_code, tested_code, times, turn_begun, turned, value_or_zero}
use Rattle.code_generator.specs.Processes.{with_declaration, with_ending, with_opening}
use Rattle.code_generator.specs.Programs.{callable, code_of, framed, home_of_port, in_main, items_code, last_item_code}
use Rattle.code_generator.specs.Programs.{no_frame}
use Rattle.placed_code.specs.LaidCode.{labels_in}
use Rattle.meant_code.specs.Labels.{AreStraight, IsStraight}
use Rattle.meant_code.proofs.LabelLists.{labels_both, once_below}
use Rattle.meant_code.proofs.OwnPrograms.{programs_are_own}
use Rattle.meant_code.proofs.StraightLines.{assign_is, declaration_is, expression_is, forgets_is, input_is}
use Rattle.meant_code.proofs.StraightLines.{loop_start_is, output_is}
use Rattle.valid_code.specs.Numbers.{HasNumbers, HaveNumbers}
use Rattle.valid_code.specs.RowsSaid.{RowsAreSaid, SaysWords}
use Rattle.valid_code.specs.ValidPieces.{AreSayable}
use Rattle.code_pieces.specs.WellFormed.{AreBelow, heads_of, heads_said}
use Rattle.valid_code.proofs.BelowLabels.{below_both, below_first, below_second}
use Rattle.valid_code.proofs.BoundsOfNumbers.{of_a_type}
use Rattle.valid_code.proofs.LoopsFit.{IndicesWithin, IsSaidWell, LoopFits, LoopsFit, indices_itself, indices_long}
use Rattle.valid_code.proofs.LoopsFit.{indices_within, loops_kept, loops_more, loops_stay, scope_said, widened_indices}
use Rattle.valid_code.proofs.MovesOfNumbers.{channel_has, moves_keep_numbers, value_has, variable_has}
use Rattle.valid_code.proofs.NumbersStay.{AllKeep, KeepsIn, all_keep, body_ends, choices_end, choices_have, choices_keep}
use Rattle.valid_code.proofs.NumbersStay.{choices_low, components_keep, one_keeps, turns_keep}
use Rattle.valid_code.proofs.RowsInTurn.{chosen_low}

-- what a row says can be said, and the heads of its loops are below this label
abbrev SaysWell : ℕ → Piece → Type 0
SaysWell labels (Row l entries) = AllByRecursion (IsSaidWell labels) entries
SaysWell labels p = ⊤

module _ (items : List ProgramItem) (unbroken : BreaksNoRule items) (labels : ℕ) where
  abbrev Rows : List Piece → Type 0
  Rows ps = AllByRecursion (SaysWell labels) ps

  abbrev Below : List Piece → Type 0
  Below ps = AreBelow labels (labels_in ps)

  -- code whose rows say so, if the labels that it places are below that one
  abbrev Good : Option Code → Type 0
  Good None = ⊤
  Good (Some c) = Below c.pieces → Rows c.pieces

  -- ---- code put together

  below_parts : (ps qs : List Piece) → Below (ps ++ qs) → Below ps × Below qs
  below_parts ps qs below =
      let all = subst (AreBelow labels) (labels_both ps qs) below in
      (below_first labels (labels_in ps) (labels_in qs) all, below_second labels (labels_in ps) (labels_in qs) all)

  straight_row : (p : Piece) → IsStraight p → SaysWell labels p
  straight_row (Direct f e) is = tt
  straight_row (TableAddress values) is = tt
  straight_row p is = absurd is

  straight_rows : (ps : List Piece) → AreStraight ps → Rows ps
  straight_rows [] are = tt
  straight_rows (p ∷ ps) are = (straight_row p are.0, straight_rows ps are.1)

  before_good : (ps : List Piece) (code : Option Code) → (Below ps → Rows ps) → (Below ps → Good code)
      → Good (before ps code)
  before_good ps None rows good = tt
  before_good ps (Some c) rows good =
      λ below.
      let parts = below_parts ps c.pieces below in
      all_both (SaysWell labels) ps c.pieces (rows parts.0) (good parts.0 parts.1)

  closed_good : (ps : List Piece) (code : Option Code) → Rows ps → Good code → Good (closed_by ps code)
  closed_good ps None rows good = tt
  closed_good ps (Some c) rows good =
      λ below. all_both (SaysWell labels) c.pieces ps (good (below_parts c.pieces ps below).0) rows

  then_good : (code : Option Code) (next : ℕ → Option Code) → Good code → ((label : ℕ) → Good (next label))
      → Good (then_code code next)
  then_good None next good all = tt
  then_good (Some c) next good all = before_good c.pieces (next c.labels) good (λ below. all c.labels)

  -- ---- sites

  -- nothing is known of words outside, each range has numbers, and loops fit
  record IsSite (f : Frame) (k : Known) : Type 0 where
    outer : f.outer ≡ []
    long : length k.entries ≡ length f.homes
    low : Low k
    have : HaveNumbers k.entries
    loops : LoopsFit labels f.homes (reverse k.entries)

  abbrev IsSaid : Frame → Known → Type 0
  IsSaid f k = AllByRecursion (IsSaidWell labels) (facts_in f k.entries)

  -- what a row says where indices are within
  says : (f : Frame) (k l : Known) → IsSite f k → IndicesWithin l.entries k.entries → HaveNumbers l.entries → IsSaid f l
  says f k l site within have =
      subst (λ (others : List RowEntry). AllByRecursion (IsSaidWell labels) (others ++ facts_of f.homes l.entries))
      (sym site.outer)
      (scope_said labels f.homes l.entries (loops_stay labels f.homes l.entries k.entries within site.loops) have)

  -- so in a frame with one home more
  says_more : (f : Frame) (h : Home) (k l : Known) → IsSite f k → IndicesWithin l.entries k.entries
      → HaveNumbers l.entries → IsSaid (with_home h f) l
  says_more f h k l site within have =
      let same = indices_long l.entries k.entries within in
      subst (λ (others : List RowEntry). AllByRecursion (IsSaidWell labels)
      (others ++ facts_of (f.homes ++ h ∷ []) l.entries)) (sym site.outer)
      (scope_said labels (f.homes ++ h ∷ []) l.entries
      (loops_kept labels f.homes h l.entries (same ∙ site.long)
      (loops_stay labels f.homes l.entries k.entries within site.loops)) have)

  moved : (f : Frame) (k l : Known) → IsSite f k → IndicesWithin l.entries k.entries → Low l → HaveNumbers l.entries
      → IsSite f l
  moved f k l site within low have = record {
    outer = site.outer;
    long = indices_long l.entries k.entries within ∙ site.long;
    low = low;
    have = have;
    loops = loops_stay labels f.homes l.entries k.entries within site.loops;
  }

  -- a name more
  more : (f : Frame) (k : Known) (h : Home) (top : ℕ) (name : List ℕ) (m : Meaning) → IsSite f k → HasNumbers m
      → LoopFits labels h m
      → IsSite (record f { homes = f.homes ++ h ∷ []; top = top }) (with_entries (add name m) k)
  more f k h top name m site has fits =
      let homes = length-append f.homes (h ∷ []) in
      let long = site.long in
      let low = site.low in
      record {
        outer = site.outer;
        long = omega (arith, homes, long);
        low = omega (arith, low);
        have = (has, site.have);
        loops = loops_more labels f.homes h k.entries (record { name = name; meaning = m }) site.long site.loops fits;
      }

  -- ---- actions

  line_good : (w : Surroundings) (action : Action) (s : Site) → IsSequentialAction action → IsSite s.frame s.known
      → Good (line_code w action s)
  line_good w (Instance name actuals) s seq site = absurd seq
  line_good w Skip s seq site = λ below. tt
  line_good w Stop s seq site =
      λ below. (tt, (says s.frame s.known s.known site (indices_itself s.known.entries) site.have, tt))
  line_good w (Assign target value) s seq site =
      λ below. straight_rows (assign_code s.frame.homes s.known.entries s.frame.top target value)
      (assign_is s.frame.homes s.known.entries s.frame.top target value)
  line_good w (Input channel target) s seq site =
      λ below. straight_rows (input_code s.frame.homes s.known.entries s.frame.top channel target)
      (input_is s.frame.homes s.known.entries s.frame.top channel target)
  line_good w (Output channel value) s seq site =
      λ below. straight_rows (output_code s.frame.homes s.known.entries s.frame.top channel value)
      (output_is s.frame.homes s.known.entries s.frame.top channel value)

  -- ---- components, whose processes have such code where the walk comes to them

  abbrev at_position : Surroundings → Position → Standing
  at_position w position = record { around = w.around; position = position }

  -- the walk comes to this process where this is known
  record IsReached (w : Surroundings) (p : Process) (k : Known) : Type 0 where
    position : Position
    first : ℕ
    is : Reaches items (at_position w position) (AProcess first p) k

  -- or to this component
  record ComesTo {part : Part} (w : Surroundings) (c : Component part) (k : Known) : Type 0 where
    position : Position
    is : Reaches items (at_position w position) (AComponent c) k

  entered_here : {part : Part} (w : Surroundings) (c : Component part) (k : Known) → ComesTo w c k
      → IsReached w (process_of c) (entered c k)
  entered_here w c k comes =
      record { position = comes.position; first = _; is = to_process (at_position w comes.position) c k comes.is }

  abbrev IsGood : {part : Part} → Surroundings → Component part → Type 0
  IsGood w (Plain p) = (s : Site) → IsReached w p s.known → IsSite s.frame s.known → Good (process_code w p s)
  IsGood w (Chosen line e p) = (s : Site) → IsReached w p s.known → IsSite s.frame s.known → Good (process_code w p s)
  IsGood w (Guarded line g p) = ⊤

  abbrev AreGood : {part : Part} → Surroundings → Components part → Type 0
  AreGood w NoComponent = ⊤
  AreGood w (Further cs c) = AreGood w cs × IsGood w c

  -- the walk comes to each of these components
  abbrev AllCome : {part : Part} → Surroundings → Terminal → Components part → Known → Type 0
  AllCome w word NoComponent k = ⊤
  AllCome w word (Further cs c) k = AllCome w word cs k × ComesTo w c (after_components w.around word cs k)

  all_come : {part : Part} (w : Surroundings) (word : Terminal) (cs : Components part) (k : Known) (position : Position)
      → ((piece : Place) (l : Known) → StandsAmong w.around word cs k piece l
      → Reaches items (at_position w position) piece l) → AllCome w word cs k
  all_come w word NoComponent k position reach = tt
  all_come w word (Further cs c) k position reach = (
    all_come w word cs k position (λ piece l stands. reach piece l (inr stands)),
    record { position = position; is = reach _ _ (inl (refl, refl)) },
  )

  block_comes : (w : Surroundings) (line : ℕ) (kind : _) (cs : Components (part_of kind)) (k : Known)
      → IsReached w (Does line (Block kind cs)) k → AllCome w (block_word kind) cs (begun (block_word kind) k)
  block_comes w line kind cs k reached =
      let s = at_position w reached.position in
      all_come w (block_word kind) cs (begun (block_word kind) k) _
      (λ piece l stands. to_part s (in_block (block_word kind) k s) reached.first line (Block kind cs) piece k l
      reached.is (refl, stands))

  component_good : {part : Part} (w : Surroundings) (c : Component part) (s : Site) → IsMadeOf (Mark mark.Seq) part
      → IsGood w c → ComesTo w c s.known → IsSite s.frame s.known → Good (component_code w c s)
  component_good w (Plain p) s made all comes site = all s (entered_here w (Plain p) s.known comes) site
  component_good w (Chosen line e p) s made all comes site = tt
  component_good w (Guarded line g p) s made all comes site = tt

  components_good : {part : Part} (w : Surroundings) (cs : Components part) (s : Site) → IsMadeOf (Mark mark.Seq) part
      → AreGood w cs → AllKeep w.around cs → AllCome w (Mark mark.Seq) cs s.known → IsSite s.frame s.known
      → Good (components_code w cs s)
  components_good w NoComponent s made all keep come site = λ below. tt
  components_good w (Further cs c) s made all keep come site =
      let a = w.around in
      let k = s.known in
      let ns = changed_by_components a.signatures k.entries cs in
      let l = after_components a (Mark mark.Seq) cs k in
      let remains = components_stay a ns (Mark mark.Seq) cs k made (covers_itself ns) site.low in
      then_good (components_code w cs s) (λ label. component_code w c (at_place l label s))
      (components_good w cs s made all.0 keep.0 come.0 site)
      (λ label. component_good w c (at_place l label s) made all.1 come.1
      (moved s.frame k l site (indices_within ns l.entries k.entries remains.within)
      (remains_low ns k l remains site.low) (components_keep a cs k made keep.0 site.low site.have)))

  -- ---- choices of an IF

  record ChoiceGood (f : Frame) (c : PlacedChoice) : Type 0 where
    after : IsSaid f c.after
    process : (label : ℕ) → Good (taken_code f c label)

  abbrev AllGood : Frame → PlacedChoices → Type 0
  AllGood f NoChoice = ⊤
  AllGood f (ThenChoice cs c) = AllGood f cs × ChoiceGood f c

  abbrev EndingGood : Frame → IfEnding → Type 0
  EndingGood f Stops = ⊤
  EndingGood f (Always c) = ChoiceGood f c
  EndingGood f (Opens c) = ChoiceGood f c

  abbrev ChoicesGood : Frame → EndedChoices → Type 0
  ChoicesGood f x = AllGood f x.tested × EndingGood f x.ending

  ending_by : (holds : Bool) (f : Frame) (cs : PlacedChoices) (c : PlacedChoice) → AllGood f (ThenChoice cs c)
      → ChoicesGood f (cond holds (record { tested = cs; ending = Always c })
      (record { tested = ThenChoice cs c; ending = Stops }))
  ending_by true f cs c all = (all.0, all.1)
  ending_by false f cs c all = (all, tt)

  ending_good : (f : Frame) (cs : PlacedChoices) → AllGood f cs → ChoicesGood f (with_ending cs)
  ending_good f NoChoice all = (tt, tt)
  ending_good f (ThenChoice cs c) all = ending_by (is_true c.condition) f cs c all

  opening_by : (skips : Bool) (f : Frame) (cs : PlacedChoices) (opened c : PlacedChoice)
      → AllGood f (ThenChoice cs opened) → ChoiceGood f c
      → ChoicesGood f (cond skips (record { tested = cs; ending = Opens opened })
      (record { tested = ThenChoice cs opened; ending = Always c }))
  opening_by true f cs opened c all last = (all.0, all.1)
  opening_by false f cs opened c all last = (all, last)

  opening_good : (f : Frame) (cs : PlacedChoices) (x : IfEnding) → AllGood f cs → EndingGood f x
      → ChoicesGood f (opening cs x)
  opening_good f (ThenChoice cs opened) (Always c) all last = opening_by c.is_skip f cs opened c all last
  opening_good f cs x all last = (all, last)

  test_rows : (f : Frame) (es : List Entry) (e : Expression) (to : ℕ) → Rows (test_code f.homes es f.top e to)
  test_rows f es e to =
      let value = expression_code f.homes es f.top e in
      let forgetting = forgets (may_show es e) (test_of es e) in
      all_both (SaysWell labels) (value ++ forgetting) (JumpUnless to ∷ [])
      (all_both (SaysWell labels) value forgetting (straight_rows value (expression_is f.homes es f.top e))
      (straight_rows forgetting (forgets_is (may_show es e) (test_of es e)))) (tt, tt)

  tested_good : (to : ℕ) (f : Frame) (c : PlacedChoice) (label : ℕ) → ChoiceGood f c → Good (tested_code to f c label)
  tested_good to f c label good =
      before_good (test_code f.homes c.known.entries f.top c.condition label)
      (closed_by (Jump to ∷ row_of label f c.after ∷ []) (taken_code f c (label + 1)))
      (λ below. test_rows f c.known.entries c.condition label)
      (λ below. closed_good (Jump to ∷ row_of label f c.after ∷ []) (taken_code f c (label + 1)) (tt, (good.after, tt))
      (good.process (label + 1)))

  all_tested_good : (to : ℕ) (f : Frame) (cs : PlacedChoices) (label : ℕ) → AllGood f cs
      → Good (all_tested to f cs label)
  all_tested_good to f NoChoice label all = λ below. tt
  all_tested_good to f (ThenChoice cs c) label all =
      then_good (all_tested to f cs label) (tested_code to f c) (all_tested_good to f cs label all.0)
      (λ next. tested_good to f c next all.1)

  what_ends_good : (to : ℕ) (f : Frame) (x : IfEnding) (label : ℕ) → EndingGood f x → Good (ending_code to f x label)
  what_ends_good to f Stops label good = λ below. (tt, tt)
  what_ends_good to f (Always c) label good = good.process label
  what_ends_good to f (Opens c) label good =
      before_good (test_code f.homes c.known.entries f.top c.condition to) (taken_code f c label)
      (λ below. test_rows f c.known.entries c.condition to) (λ below. good.process label)

  if_good : (s : Site) (f : Frame) (after : Known) (x : EndedChoices) → ChoicesGood f x → IsSaid s.frame after
      → Good (if_code s f after x)
  if_good s f after x all said =
      closed_good (row_of s.label s.frame after ∷ []) (choices_code s.label f x (s.label + 1)) (said, tt)
      (then_good (all_tested s.label f x.tested (s.label + 1)) (ending_code s.label f x.ending)
      (all_tested_good s.label f x.tested (s.label + 1) all.0)
      (λ label. what_ends_good s.label f x.ending label all.1))

  -- a choice where this is known
  placed_good : {part : Part} (w : Surroundings) (c : Component part) (f : Frame) (k : Known)
      → IsMadeOf (Mark mark.If) part → IsGood w c → ComesTo w c k → IsSite f k
      → IsSaid f (after_component w.around (Mark mark.If) c k) → ChoiceGood f (placed w c k)
  placed_good w (Plain p) f k made all comes site after = absurd made
  placed_good w (Chosen line e p) f k made all comes site after = record {
    after = after;
    process = λ label. all (record { frame = f; known = chosen e k; label = label })
        (entered_here w (Chosen line e p) k comes)
        (moved f k (chosen e k) site
        (indices_within [] (chosen e k).entries k.entries (narrow_within [] k.entries e true))
        (chosen_low e k site.low) (moves_keep_numbers.narrowing k.entries e true site.have));
  }
  placed_good w (Guarded line g p) f k made all comes site after = absurd made

  -- where a choice begins
  choice_within : {part : Part} (a : Around) (cs : Components part) (k : Known) → IsMadeOf (Mark mark.If) part → Low k
      → IndicesWithin (after_components a (Mark mark.If) cs (begin k)).entries k.entries
  choice_within a cs k made low =
      let ns = changed_by_components a.signatures k.entries cs in
      let turned : Turned ns k (after_components a (Mark mark.If) cs (begin k)) =
      components_stay a ns (Mark mark.If) cs k made (covers_itself ns) low in
      subst (λ (x : Known). IndicesWithin x.entries k.entries) (sym turned.is)
      (indices_within ns turned.start k.entries turned.starts)

  -- where the choices end
  turned_ends : (ns : List ℕ) (k x : Known) → Turned ns k x → IndicesWithin (end x).entries k.entries
  turned_ends ns k x turned =
      subst (λ (y : Known). IndicesWithin (end y).entries k.entries) (sym turned.is)
      (by_ends turned.ends turned.start turned.ended turned.starts)
    where
      by_ends : (ends : Option (List Entry)) (start : List Entry) → EndsWithin ns ends k.entries
          → EntriesWithin ns start k.entries → IndicesWithin (unwrap_or ends start) k.entries
      by_ends None start ended starts = indices_within ns start k.entries starts
      by_ends (Some es) start ended starts = indices_within ns es k.entries ended

  placed_all_good : {part : Part} (w : Surroundings) (cs : Components part) (s : Site) → IsMadeOf (Mark mark.If) part
      → AreGood w cs → AllKeep w.around cs → AllCome w (Mark mark.If) cs (begin s.known) → IsSite s.frame s.known
      → AllGood s.frame (placed_choices w cs (begin s.known))
  placed_all_good w NoComponent s made all keep come site = tt
  placed_all_good w (Further cs c) s made all keep come site =
      let a = w.around in
      let k = s.known in
      let l = after_components a (Mark mark.If) cs (begin k) in
      let after = after_component a (Mark mark.If) c l in
      let here = choices_keep a cs k made keep.0 site.have in
      let next = choices_keep a (Further cs c) k made keep site.have in (
        placed_all_good w cs s made all.0 keep.0 come.0 site,
        placed_good w c s.frame l made all.1 come.1
            (moved s.frame k l site (choice_within a cs k made site.low) (choices_low k.blocks l here)
            (choices_have k.blocks l here))
            (says s.frame k after site (choice_within a (Further cs c) k made site.low) (choices_have k.blocks after next)),
      )

  -- ---- loops

  no_loop_good : (changes : Bool) (s : Site) (after : Known) → IsSaid s.frame after → Good (no_loop changes s after)
  no_loop_good false s after said = λ below. tt
  no_loop_good true s after said = λ below. (said, tt)

  repeated_good : (s : Site) (changed : List ℕ) (after : Known) (base : ℤ) (loop : Option Code) (count : ℤ)
      → IsSaid s.frame after → Good loop → Good (repeated_seq s changed after base loop count)
  repeated_good s changed after base loop (pos zero) said good =
      no_loop_good (has_scalar changed s.known.entries) s after said
  repeated_good s changed after base loop (pos (suc n)) said good = good
  repeated_good s changed after base loop (negsuc n) said good = good

  -- The head of a loop is placed in its code.
  loop_good : (s inner : Site) (after : Known) (base count : ℤ) (body : Option Code)
      → (s.label < labels → IsSite inner.frame inner.known × Good body) → IsSaid s.frame after
      → Good (loop_code s inner after base count body)
  loop_good s inner after base count body enters said =
      let start = loop_start s.frame.top base count in
      let row = row_of s.label inner.frame inner.known ∷ [] in
      let last = loop_end s.frame.top s.label (row_of (s.label + 1) s.frame after) in
      let head : Below (start ++ row) → s.label < labels = λ below. (below_parts start row below).1.0 in
      before_good (start ++ row) (closed_by last body)
      (λ below.
      let site = (enters (head below)).0 in
      all_both (SaysWell labels) start row (straight_rows start (loop_start_is s.frame.top base count))
      (says inner.frame inner.known inner.known site (indices_itself inner.known.entries) site.have, tt))
      (λ below. closed_good last body (tt, (tt, (said, tt))) (enters (head below)).1)

  turns_good : (choice : ℕ → PlacedChoice) (f : Frame) (count : ℕ) → ((n : ℕ) → n < count → ChoiceGood f (choice n))
      → AllGood f (in_each_turn choice count)
  turns_good choice f zero all = tt
  turns_good choice f (suc n) all =
      (turns_good choice f n (λ m less. all m (omega (arith, less))), all n (omega arith))

  -- ---- blocks

  by_word : (word : Terminal) (all choices : Option Code) → (word ≡ Mark mark.Seq → Good all)
      → (word ≡ Mark mark.If → Good choices) → Good (by_block word all choices)
  by_word (Mark mark.Seq) all choices first second = first refl
  by_word (Mark mark.If) all choices first second = second refl
  by_word word all choices first second = tt

  if_block : {part : Part} (w : Surroundings) (cs : Components part) (s : Site) → IsMadeOf (Mark mark.If) part
      → AreGood w cs → AllKeep w.around cs → AllCome w (Mark mark.If) cs (begin s.known) → IsSite s.frame s.known
      → Good (if_code s s.frame (end (after_components w.around (Mark mark.If) cs (begin s.known)))
      (with_opening (with_ending (placed_choices w cs (begin s.known)))))
  if_block w cs s made all keep come site =
      let a = w.around in
      let k = s.known in
      let l = after_components a (Mark mark.If) cs (begin k) in
      let here = choices_keep a cs k made keep site.have in
      let ns = changed_by_components a.signatures k.entries cs in
      let turned : Turned ns k l = components_stay a ns (Mark mark.If) cs k made (covers_itself ns) site.low in
      let choices = with_ending (placed_choices w cs (begin k)) in
      let have = ending_good s.frame (placed_choices w cs (begin k)) (placed_all_good w cs s made all keep come site) in
      if_good s s.frame (end l) (with_opening choices)
      (opening_good s.frame choices.tested choices.ending have.0 have.1)
      (says s.frame k (end l) site (turned_ends ns k l turned) (choices_end k.blocks l here))

  block_good : {part : Part} (w : Surroundings) (word : Terminal) (cs : Components part) (s : Site)
      → IsMadeOf word part → AreGood w cs → AllKeep w.around cs → AllCome w word cs (begun word s.known)
      → IsSite s.frame s.known
      → Good (by_block word (components_code w cs s)
      (if_code s s.frame (ended word (after_components w.around word cs (begun word s.known)))
      (with_opening (with_ending (placed_choices w cs (begun word s.known))))))
  block_good {part} w word cs s made all keep come site =
      by_word word (components_code w cs s)
      (if_code s s.frame (ended word (after_components w.around word cs (begun word s.known)))
      (with_opening (with_ending (placed_choices w cs (begun word s.known)))))
      (λ is. components_good w cs s (subst (λ (t : Terminal). IsMadeOf t part) is made) all keep
      (subst (λ (t : Terminal). AllCome w t cs (begun t s.known)) is come) site)
      (λ is. subst (λ (t : Terminal). Good (if_code s s.frame
      (ended t (after_components w.around t cs (begun t s.known)))
      (with_opening (with_ending (placed_choices w cs (begun t s.known)))))) (sym is)
      (if_block w cs s (subst (λ (t : Terminal). IsMadeOf t part) is made) all keep
      (subst (λ (t : Terminal). AllCome w t cs (begun t s.known)) is come) site))

  -- ---- replicators

  abbrev repeats_at : Surroundings → ℕ → Replicator → Terminal → Known → Repeats
  repeats_at w line r word k = repeats_of (is_before line w.around.uncounted) k.entries (is_seq word) r

  -- what is known after this number of turns, and after all
  abbrev turns_at : {part : Part} → Surroundings → ℕ → Replicator → List ℕ → Terminal → Component part → Known → ℕ
      → Known
  turns_at w line r changed word c k n =
      turn_by_turn (turned w.around word r.name c (repeats_at w line r word k)) n
      (begun_body word changed (repeats_at w line r word k).happens k)

  abbrev turn_at : {part : Part} → Surroundings → ℕ → Replicator → List ℕ → Terminal → Component part → Known → ℕ
      → Known
  turn_at w line r changed word c k n =
      with_entries (add r.name (index_in (repeats_at w line r word k) n)) (turns_at w line r changed word c k n)

  abbrev after_at : {part : Part} → Surroundings → ℕ → Replicator → List ℕ → Terminal → Component part → Known → Known
  after_at w line r changed word c k =
      repeated (repeats_at w line r word k).happens
      (turns_at w line r changed word c k (repeats_at w line r word k).turns.count)

  -- the walk comes to each turn
  abbrev TurnsCome : {part : Part} → Surroundings → ℕ → Replicator → List ℕ → Terminal → Component part → Known → Type 0
  TurnsCome w line r changed word c k =
      (n : ℕ) → n < (repeats_at w line r word k).turns.count → ComesTo w c (turn_at w line r changed word c k n)

  body_comes : (w : Surroundings) (line : ℕ) (r : Replicator) (kind : _) (c : Component (part_of kind)) (k : Known)
      → IsReached w (Does line (Replicated r (One kind c))) k
      → TurnsCome w line r (changed_by_body w.around.signatures k.entries r (One kind c)) (block_word kind) c k
  body_comes w line r kind c k reached n less =
      let s = at_position w reached.position in
      record {
        position = _;
        is = to_part s (in_block (block_word kind) k s) reached.first line (Replicated r (One kind c)) (AComponent c) k _
            reached.is (n, refl, refl, less, refl);
      }

  abbrev seq_at : {part : Part} → Surroundings → ℕ → Replicator → List ℕ → Terminal → Component part → Site
      → Option Code
  seq_at w line r changed word c s =
      let repeats = repeats_at w line r word s.known in
      let inner = in_loop s (begun_body word changed repeats.happens s.known) r.name (index_in repeats 0) in
      let after = after_at w line r changed word c s.known in
      let base = value_or_zero s.known.entries r.base in
      let count = value_or_zero s.known.entries r.count in
      repeated_seq s changed after base (loop_code s inner after base count (component_code w c inner)) count

  abbrev if_at : {part : Part} → Surroundings → ℕ → Replicator → List ℕ → Terminal → Component part → Site
      → Option Code
  if_at w line r changed word c s =
      let repeats = repeats_at w line r word s.known in
      if_code s (with_home Nowhere s.frame) (after_at w line r changed word c s.known) (with_ending (in_each_turn
      (λ n. placed w c (turn_begun w.around word r.name c repeats (begun_body word changed repeats.happens s.known) n))
      (times repeats)))

  -- the index of a loop that has a base and a count has no more numbers than a loop has turns
  narrow_by : (b : Bool) (base count : ℤ) → is_count base count ≡ b → FitsSigned w32 count
      → ((cond b (record { lo = base; hi = base +ℤ (count -ℤ pos 1) }) (constant base)).hi
      -ℤ (cond b (record { lo = base; hi = base +ℤ (count -ℤ pos 1) }) (constant base)).lo) <ℤ greatest_word
  narrow_by true base count is fits = omega (arith, ints, fits)
  narrow_by false base count is fits = omega (arith, ints)

  index_narrow : (es : List Entry) (r : Replicator) → ReplicatorHolds es r → has_words r.count ≡ true → HaveNumbers es
      → ((index_range (value_as es types.Int r.base) (value_as es types.Int r.count)).hi
      -ℤ (index_range (value_as es types.Int r.base) (value_as es types.Int r.count)).lo) <ℤ greatest_word
  index_narrow es r h words have =
      let count = value_has es types.Int r.count h.count have words h.count_is in
      subst (λ (o : Option ℤ). ((index_range o (value_as es types.Int r.count)).hi
      -ℤ (index_range o (value_as es types.Int r.count)).lo) <ℤ greatest_word) (sym h.base_is)
      (subst (λ (o : Option ℤ). ((index_range (Some h.base) o).hi -ℤ (index_range (Some h.base) o).lo) <ℤ greatest_word)
      (sym h.count_is) (narrow_by (is_count h.base h.count) h.base h.count refl count))

  seq_good : {part : Part} (w : Surroundings) (line : ℕ) (r : Replicator) (changed : List ℕ) (c : Component part)
      (s : Site) → IsMadeOf (Mark mark.Seq) part → IsGood w c
      → TurnsCome w line r changed (Mark mark.Seq) c s.known → replicator_has_words r ≡ true
      → ReplicatorHolds s.known.entries r → IsSite s.frame s.known
      → HaveNumbers (after_at w line r changed (Mark mark.Seq) c s.known).entries
      → Good (seq_at w line r changed (Mark mark.Seq) c s)
  seq_good w line r changed c s made all come words holds site after_has =
      let a = w.around in
      let k = s.known in
      let es = k.entries in
      let f = s.frame in
      let repeats = repeats_at w line r (Mark mark.Seq) k in
      let m = index_in repeats 0 in
      let wide = begin_loop changed k in
      let inner = in_loop s wide r.name m in
      let l = with_entries (add r.name m) wide in
      let after = after_at w line r changed (Mark mark.Seq) c k in
      let base = value_or_zero es r.base in
      let count = value_or_zero es r.count in
      let both = and_parts (has_words r.base) (has_words r.count) words in
      let ns = changed_by_component a.signatures l.entries c in
      let remains : Remains ns l (after_component a (Mark mark.Seq) c l) =
      component_stays a ns (Mark mark.Seq) c made l.entries (covers_itself ns) l (omega arith) refl in
      let ends : IndicesWithin after.entries es =
      subst (λ (bs : List moves.Block). IndicesWithin
      (moves.after_block (after_component a (Mark mark.Seq) c l).entries bs).entries es) (sym remains.blocks)
      (widened_indices changed es) in
      let said = says f k after site ends after_has in
      let opened : IsSite f wide =
      moved f k wide site (widened_indices changed es) (omega arith)
      (moves_keep_numbers.widening changed es site.have) in
      repeated_good s changed after base (loop_code s inner after base count (component_code w c inner)) count said
      (loop_good s inner after base count (component_code w c inner)
      (λ head.
      let there : IsSite inner.frame inner.known =
      more f wide (InBlock f.top s.label) (word_after f.top 2) r.name m opened
      (moves_keep_numbers.indexing (is_before line a.uncounted) true r es 0 words site.have)
      (head, index_narrow es r holds both.1 site.have) in
      (there, component_good w c inner made all (come 0 (omega arith)) there)) said)

  unless_have : (happens : Bool) (k : Known) → HaveNumbers k.entries → HaveNumbers (unless happens begin k).entries
  unless_have true k have = have
  unless_have false k have = have

  unless_same : (happens : Bool) (k : Known) → (unless happens begin k).entries ≡ k.entries
  unless_same true k = refl
  unless_same false k = refl

  repeated_within : (happens : Bool) (ns : List ℕ) (k : Known) (turns : Known → Known)
      → ((j : Known) → j.entries ≡ k.entries → Turned ns j (turns j))
      → IndicesWithin (repeated happens (turns (unless happens begin k))).entries k.entries
  repeated_within true ns k turns turned = turned_ends ns k (turns k) (turned k refl)
  repeated_within false ns k turns turned =
      let j = begin k in
      let blocks = ap (λ (x : Known). (end x).blocks) (turned j refl).is in
      subst (λ (bs : List moves.Block). IndicesWithin (moves.after_block (end (turns j)).entries bs).entries k.entries)
      (sym blocks) (indices_itself k.entries)

  -- a turn that happens is one of all
  turn_is : (happens : Bool) (n count : ℕ) → n < cond happens count 0 → n < count
  turn_is true n count less = less
  turn_is false n count less = absurd (omega (arith, less))

  -- where a turn begins, indices are within what they are before them all
  begun_within : (ns : List ℕ) (i l : Known) (es : List Entry) → Turned ns i l → i.entries ≡ es
      → IndicesWithin l.entries es
  begun_within ns i l es begun same =
      subst (λ (x : Known). IndicesWithin x.entries es) (sym begun.is)
      (subst (λ (xs : List Entry). IndicesWithin begun.start xs) same
      (indices_within ns begun.start i.entries begun.starts))

  turned_good : {part : Part} (w : Surroundings) (line : ℕ) (r : Replicator) (changed : List ℕ) (c : Component part)
      (s : Site) → IsMadeOf (Mark mark.If) part → IsGood w c → KeepsIn w.around c
      → TurnsCome w line r changed (Mark mark.If) c s.known → replicator_has_words r ≡ true → IsSite s.frame s.known
      → HaveNumbers (after_at w line r changed (Mark mark.If) c s.known).entries
      → Good (if_at w line r changed (Mark mark.If) c s)
  turned_good w line r changed c s made all keeps come words site after_has =
      let a = w.around in
      let k = s.known in
      let repeats = repeats_at w line r (Mark mark.If) k in
      let f = with_home Nowhere s.frame in
      let j = unless repeats.happens begin k in
      let have = unless_have repeats.happens k site.have in
      let indices : (m : ℕ) → HasNumbers (index_in repeats m) =
      λ m. moves_keep_numbers.indexing (is_before line a.uncounted) false r k.entries m words site.have in
      let es = add r.name (index_meaning false None) k.entries in
      let ns = changed_by_component a.signatures es c in
      let turns : ℕ → Known → Known =
      λ n i. turn_by_turn (turned a (Mark mark.If) r.name c repeats) n (begin i) in
      let all_turned : (n : ℕ) (i : Known) → i.entries ≡ k.entries → Turned ns i (turns n i) =
      λ n i same.
      turns_turned a ns (Mark mark.If) c r.name repeats changed k.entries i n made tt refl (ap outline same)
      (component_stays a ns (Mark mark.If) c made es (covers_itself ns)) in
      let same = unless_same repeats.happens k in
      let within : (n : ℕ) → IndicesWithin (turns n j).entries k.entries =
      λ n. begun_within ns j (turns n j) k.entries (all_turned n j same) same in
      let choice : ℕ → PlacedChoice =
      λ n. placed w c (turn_begun a (Mark mark.If) r.name c repeats (begin j) n) in
      let after = after_at w line r changed (Mark mark.If) c k in
      if_good s f after (with_ending (in_each_turn choice (times repeats)))
      (ending_good f (in_each_turn choice (times repeats)) (turns_good choice f (times repeats) (λ n less.
      let x = turns n j in
      let here = turns_keep a c r repeats j n made keeps indices have in
      let next = turns_keep a c r repeats j (suc n) made keeps indices have in
      placed_good w c f (with_entries (add r.name (index_in repeats n)) x) made all
      (come n (turn_is repeats.happens n repeats.turns.count less))
      (more s.frame x Nowhere s.frame.top r.name (index_in repeats n)
      (moved s.frame k x site (within n) (choices_low j.blocks x here) (choices_have j.blocks x here)) (indices n) tt)
      (says_more s.frame Nowhere k (turns (suc n) j) site (within (suc n)) (choices_have j.blocks (turns (suc n) j) next)))))
      (says s.frame k after site (repeated_within repeats.happens ns k (turns repeats.turns.count)
      (λ i alike. all_turned repeats.turns.count i alike)) after_has)

  -- ---- declarations

  names_site : (names : List (List ℕ)) (count : ℕ) (f : Frame) (k : Known) (m : Meaning) → IsSite f k → HasNumbers m
      → IsSite (with_names count names f) (with_entries (add_all names m) k)
  names_site [] count f k m site has = site
  names_site (name ∷ names) count f k m site has =
      names_site names count (with_words count f) (with_entries (add name m) k) m
      (more f k (Word f.top) (word_after f.top count) name m site has tt) has

  constant_fits : (es : List Entry) (type : _) (value : Value) (m : Meaning) → LoopFits labels (home_for es type value) m
  constant_fits es type (lines.Scalar e) m = tt
  constant_fits es type (lines.Table size items) m = tt
  constant_fits es type (lines.Bytes size bytes) m = tt

  declared_site : (d : Declaration) (f : Frame) (k : Known) → IsSite f k → declaration_has_words d ≡ true
      → IsSite (declared k.entries d f) (with_entries (add_declaration d) k)
  declared_site (Constants c) f k site words =
      more f k (home_for k.entries c.value_type c.value) f.top c.name
      (constant_meaning k.entries c.value_type c.value) site
      (moves_keep_numbers.declaring (Constants c) k.entries words site.have).0
      (constant_fits k.entries c.value_type c.value (constant_meaning k.entries c.value_type c.value))
  declared_site (Variables n) f k site words =
      names_site (as_list n.names) (words_in k.entries n.value_type n.size) f k
      (variable_meaning k.entries n.value_type n.size) site (variable_has k.entries n.value_type n.size)
  declared_site (Channels n) f k site words =
      names_site (as_list n.names) (channels_in k.entries n.size) f k (channel_meaning k.entries n.value_type n.size) site
      (channel_has k.entries n.value_type n.size)

  -- ---- processes

  -- at a replicator of a program that breaks no rule
  holds_there : (w : Surroundings) (line : ℕ) (r : Replicator) (b : Body) (k : Known)
      → IsReached w (Does line (Replicated r b)) k → ReplicatorHolds k.entries r
  holds_there w line r b k reached =
      (places_hold items (at_position w reached.position) (AProcess reached.first (Does line (Replicated r b))) k unbroken
      reached.is).holds

  module _ (w : Surroundings) where
    mutual
      process_good : (p : Process) (s : Site) → IsSequential p → process_has_words p ≡ true → IsReached w p s.known
          → IsSite s.frame s.known → Good (process_code w p s)
      process_good (Declared d p) s seq words reached site =
          let both = and_parts (declaration_has_words d) (process_has_words p) words in
          let st = at_position w reached.position in
          before_good (declaration_code s.known.entries d s.frame.top) (process_code w p (with_declaration d s))
          (λ below. straight_rows (declaration_code s.known.entries d s.frame.top)
          (declaration_is s.known.entries d s.frame.top))
          (λ below. process_good p (with_declaration d s) seq both.1 (record {
            position = reached.position;
            first = reached.first;
            is = behind st reached.first d p s.known reached.is;
          }) (declared_site d s.frame s.known site both.0))
      process_good (Does line c) s seq words reached site = construct_good line c s seq words reached site

      construct_good : (line : ℕ) (c : Construct) (s : Site) → IsSequentialConstruct c → construct_has_words c ≡ true
          → IsReached w (Does line c) s.known → IsSite s.frame s.known → Good (construct_code w line c s)
      construct_good line (Act action) s seq words reached site = line_good w action s seq site
      construct_good line (Block kind cs) s seq words reached site =
          block_good w (block_word kind) cs s (kind_fits kind) (all_good (block_word kind) cs seq.1 words)
          (all_keep w.around (block_word kind) cs seq.1 words) (block_comes w line kind cs s.known reached) site
      construct_good line (Replicated r b) s seq words reached site = body_good line r b s seq words reached site

      body_good : (line : ℕ) (r : Replicator) (b : Body) (s : Site) → IsSequentialBody b
          → (replicator_has_words r && body_has_words b) ≡ true → IsReached w (Does line (Replicated r b)) s.known
          → IsSite s.frame s.known → Good (body_code w line r b s)
      body_good line r (One kind c) s seq words reached site =
          let both = and_parts (replicator_has_words r) (body_has_words (One kind c)) words in
          let word = block_word kind in
          let k = s.known in
          let changed = changed_by_body w.around.signatures k.entries r (One kind c) in
          let good = one_good word c seq both.1 in
          let keeps = one_keeps w.around word c seq both.1 in
          let made = kind_fits kind in
          let come = body_comes w line r kind c k reached in
          let holds = holds_there w line r (One kind c) k reached in
          let after = body_ends w.around word c line r changed k made seq keeps both.0 site.have in
          by_word word (seq_at w line r changed word c s) (if_at w line r changed word c s)
          (λ is. subst (λ (t : Terminal). Good (seq_at w line r changed t c s)) (sym is)
          (seq_good w line r changed c s (subst (λ (t : Terminal). IsMadeOf t (part_of kind)) is made) good
          (subst (λ (t : Terminal). TurnsCome w line r changed t c k) is come) both.0 holds site
          (subst (λ (t : Terminal). HaveNumbers (after_at w line r changed t c k).entries) is after)))
          (λ is. subst (λ (t : Terminal). Good (if_at w line r changed t c s)) (sym is)
          (turned_good w line r changed c s (subst (λ (t : Terminal). IsMadeOf t (part_of kind)) is made) good keeps
          (subst (λ (t : Terminal). TurnsCome w line r changed t c k) is come) both.0 site
          (subst (λ (t : Terminal). HaveNumbers (after_at w line r changed t c k).entries) is after)))

      all_good : {part : Part} (word : Terminal) (cs : Components part) → AreSequential word cs
          → components_have_words cs ≡ true → AreGood w cs
      all_good word NoComponent seq words = tt
      all_good word (Further cs c) seq words =
          let both = and_parts (components_have_words cs) (component_has_words c) words in
          (all_good word cs seq.0 both.0, one_good word c seq.1 both.1)

      one_good : {part : Part} (word : Terminal) (c : Component part) → IsSequentialComponent word c
          → component_has_words c ≡ true → IsGood w c
      one_good (Mark mark.Seq) (Plain p) seq words = λ s reached site. process_good p s seq words reached site
      one_good (Mark mark.If) (Chosen line e p) seq words =
          λ s reached site.
          process_good p s seq (and_parts (has_words e) (process_has_words p) words).1 reached site
      one_good word c seq words = absurd seq

-- ---- programs

-- constants, tables and procedures: what no process changes
abbrev IsFixed : Meaning → Type 0
IsFixed (Scalar kind type range) = ⊥
IsFixed m = ⊤

abbrev AreFixed : List Entry → Type 0
AreFixed [] = ⊤
AreFixed (e ∷ es) = IsFixed e.meaning × AreFixed es

fixed_as : (free : Bool) (m n : Meaning) → MeaningWithin free m n → IsFixed n → m ≡ n
fixed_as free m n (inl same) fixed = same
fixed_as free (Scalar kind type r) (Scalar k t s) (inr h) fixed = absurd fixed
fixed_as free (Scalar kind type r) n (inr h) fixed = absurd h
fixed_as free m n (inr h) fixed = absurd h

fixed_stay : (ns : List ℕ) (ds es : List Entry) → EntriesWithin ns ds es → AreFixed es → HaveNumbers es
    → HaveNumbers ds × AreFixed ds
fixed_stay ns [] es within fixed have = (tt, tt)
fixed_stay ns (d ∷ ds) [] within fixed have = absurd within
fixed_stay ns (d ∷ ds) (e ∷ es) within fixed have =
    let same = fixed_as _ d.meaning e.meaning within.1 fixed.0 in
    let rest = fixed_stay ns ds es within.2 fixed.1 have.1 in
    ((subst HasNumbers (sym same) have.0, rest.0), (subst IsFixed (sym same) fixed.0, rest.1))

-- no home is that of a loop's block
abbrev NoBlocks : List Home → Type 0
NoBlocks hs = AllByRecursion (λ h. (labels : ℕ) (m : Meaning) → LoopFits labels h m) hs

no_loops : (labels : ℕ) (hs : List Home) (es : List Entry) → NoBlocks hs → LoopsFit labels hs es
no_loops labels [] es none = tt
no_loops labels (h ∷ hs) [] none = tt
no_loops labels (h ∷ hs) (e ∷ es) none = (none.0 labels e.meaning, no_loops labels hs es none.1)

-- where an item comes
record IsOuter (f : Frame) (k : Known) : Type 0 where
  blocks : k.blocks ≡ []
  outer : f.outer ≡ []
  long : length k.entries ≡ length f.homes
  none : NoBlocks f.homes
  have : HaveNumbers k.entries
  fixed : AreFixed k.entries

weighed_known : (x : Option ℕ) (ms : List Measured) (o : Outside) → (after_weighing x ms o).known ≡ o.known
weighed_known None ms o = refl
weighed_known (Some line) ms o = refl

table_by : (b : Bool) (type : _) (n : ℕ) (r : Ends)
    → IsFixed (cond b (Array array.Table type (Some n) r) (Array array.Table type None (type_range type)))
table_by true type n r = tt
table_by false type n r = tt

table_fixed : (type : _) (size : Option ℕ) (count : ℕ) (range : Option Ends) → IsFixed (table_of type size count range)
table_fixed type None count range = tt
table_fixed type (Some n) count None = tt
table_fixed type (Some n) count (Some r) = table_by (nat_eq n count) type n r

constant_fixed : (es : List Entry) (type : _) (value : Value) → IsFixed (constant_meaning es type value)
constant_fixed es type (lines.Scalar e) = tt
constant_fixed es type (lines.Table size items) = table_fixed type (size_in es size) _ (range_of_items es type items)
constant_fixed es type (lines.Bytes size bytes) =
    table_fixed type (size_in es size) (length bytes) (range_of_bytes type bytes)

no_block : (es : List Entry) (type : _) (value : Value) (labels : ℕ) (m : Meaning)
    → LoopFits labels (home_for es type value) m
no_block es type (lines.Scalar e) labels m = tt
no_block es type (lines.Table size items) labels m = tt
no_block es type (lines.Bytes size bytes) labels m = tt

-- formals are in front of the names outside
formals_behind : (n : ℕ) (outer : List Entry) (fs : List Formal) (es : List Entry) → n ≤ length es
    → outermost n (add_formals outer fs es) ≡ outermost n es
formals_behind n outer [] es inner = refl
formals_behind n outer (x ∷ fs) es inner =
    let e : Entry = record { name = x.name; meaning = formal_meaning outer x } in
    formals_behind n outer fs (e ∷ es) (omega (arith, inner)) ∙ further_out n e es inner

formals_long : (outer : List Entry) (fs : List Formal) (es : List Entry)
    → length (add_formals outer fs es) ≡ length es + length fs
formals_long outer [] es = omega arith
formals_long outer (x ∷ fs) es =
    let rest = formals_long outer fs (add x.name (formal_meaning outer x) es) in
    omega (arith, rest)

-- a procedure that is gone over changes nothing of them
procedure_stays : (f : Frame) (a : Around) (p : Procedure) (k : Known) → IsOuter f k
    → IsOuter f (after_procedure a p k)
procedure_stays f a p k at =
    let n = length k.entries in
    let inner = in_body p k in
    let final = inside a p.body inner in
    let begun = ap begun_with at.blocks in
    let longer = formals_long k.entries p.head.formals k.entries in
    let stays = ranges_stay.processes a p.body inner (omega (arith, begun)) in
    let blocks : final.blocks ≡ [] = stays.blocks ∙ at.blocks in
    let most : max n (begun_with final.blocks) ≡ n = (let left = ap begun_with blocks in omega (arith, left)) in
    let outer : outermost n inner.entries ≡ k.entries =
    formals_behind n k.entries p.head.formals k.entries (omega arith) ∙ all_outermost n k.entries refl in
    let cut = outermost n (outermost (length inner.entries) final.entries) in
    let left : cut ≡ outermost (max n (begun_with final.blocks)) final.entries =
    outermost_twice n (length inner.entries) final.entries (omega (arith, longer))
    ∙ ap (λ (i : ℕ). outermost i final.entries) (sym most) in
    let ns = changed_by a.signatures inner.entries p.body in
    let within : EntriesWithin ns cut k.entries =
    subst (λ (es : List Entry). EntriesWithin ns cut es) outer
    (within_left ns n (outermost (length inner.entries) final.entries) inner.entries stays.within) in
    let both = fixed_stay ns cut k.entries within at.fixed at.have in
    record {
      blocks = blocks;
      outer = at.outer;
      long = ap (λ (es : List Entry). length es) (sym left) ∙ within_long ns cut k.entries within ∙ at.long;
      none = at.none;
      have = subst HaveNumbers left both.0;
      fixed = subst AreFixed left both.1;
    }

-- a name more, which has no place in the frame
outer_more : (f : Frame) (k : Known) (h : Home) (name : List ℕ) (m : Meaning) → IsOuter f k
    → ((labels : ℕ) (n : Meaning) → LoopFits labels h n) → HasNumbers m → IsFixed m
    → IsOuter (with_home h f) (with_entries (add name m) k)
outer_more f k h name m at none has fixed =
    let homes = length-append f.homes (h ∷ []) in
    let long = at.long in
    record {
      blocks = at.blocks;
      outer = at.outer;
      long = omega (arith, homes, long);
      none = all_both (λ (x : Home). (labels : ℕ) (n : Meaning) → LoopFits labels x n) f.homes (h ∷ []) at.none (none, tt);
      have = (has, at.have);
      fixed = (fixed, at.fixed);
    }

item_outer : (item : ProgramItem) (o : Outside) (f : Frame) → item_has_words item ≡ true → IsOuter f o.known
    → IsOuter (framed item o f) (after_walk item (weighed item o)).known
item_outer item o f words at = by_item item (weighed item o) words (weighed_known o.uncounted _ o)
  where
    by_item : (i : ProgramItem) (v : Outside) → item_has_words i ≡ true → v.known ≡ o.known
        → IsOuter (framed i o f) (after_walk i v).known
    by_item (GlobalConstant c) v words same =
        subst (λ (k : Known). IsOuter (framed (GlobalConstant c) o f) (with_entries (add_declaration (Constants c)) k))
        (sym same)
        (outer_more f o.known (home_for o.known.entries c.value_type c.value) c.name
        (constant_meaning o.known.entries c.value_type c.value) at (no_block o.known.entries c.value_type c.value)
        (moves_keep_numbers.declaring (Constants c) o.known.entries words at.have).0
        (constant_fixed o.known.entries c.value_type c.value))
    by_item (GlobalProcedure p) v words same =
        let a = around_in v in
        outer_more f (after_procedure a p v.known) Nowhere p.head.name (entries.Procedure (length a.signatures))
        (procedure_stays f a p v.known (subst (IsOuter f) (sym same) at)) (λ labels n. tt) tt tt

-- ---- main

passed_has : (es : List Entry) (kind : _) (many : _) (type : _) (size : Option Expression)
    → HasNumbers (passed_meaning es kind many type size)
passed_has es kind many type None = of_a_type type
passed_has es kind many type (Some e) = of_a_type type

formal_by : (outer : List Entry) (kind : _) (size : Option Expression) (type : _) (name : List ℕ)
    → HasNumbers (formal_meaning outer (record { kind = kind; size = size; value_type = type; name = name }))
formal_by outer formal_kind.Value size type name = passed_has outer _ _ type size
formal_by outer formal_kind.Variable size type name = passed_has outer _ _ type size
formal_by outer formal_kind.Channel size type name = channel_has outer type size

formals_have : (outer : List Entry) (fs : List Formal) (es : List Entry) → HaveNumbers es
    → HaveNumbers (add_formals outer fs es)
formals_have outer [] es have = have
formals_have outer (x ∷ fs) es have =
    formals_have outer fs (add x.name (formal_meaning outer x) es)
    (formal_by outer x.kind x.size x.value_type x.name, have)

port_none : (o : _) (labels : ℕ) (m : Meaning) → LoopFits labels (home_of_port o) m
port_none None labels m = tt
port_none (Some p) labels m = tt

ports_none : (fs : List Formal) → NoBlocks (map (λ (x : Formal). home_of_port (port_for x)) fs)
ports_none [] = tt
ports_none (x ∷ fs) = (port_none (port_for x), ports_none fs)

module _ (items : List ProgramItem) (unbroken : BreaksNoRule items) (labels : ℕ) where
  -- the walk comes to the last items from here on
  abbrev AllItemsCome : List ProgramItem → Outside → Type 0
  AllItemsCome left o = (v : Outside) (item : ProgramItem) → Comes v item left o → Comes v item items outside.outermost

  last_item_good : (item : ProgramItem) (cs : List Callee) (o : Outside) (f : Frame) → IsSequentialProgram (item ∷ [])
      → item_has_words item ≡ true → Comes o item items outside.outermost → IsOuter f o.known
      → Good items unbroken labels (last_item_code item cs o f)
  last_item_good (GlobalConstant c) cs o f seq words comes at = tt
  last_item_good (GlobalProcedure p) cs o f seq words comes at =
      let fs = p.head.formals in
      let s = in_main p (record { frame = f; known = o.known; label = 0 }) in
      let w = where_called cs (around_in o) (length cs) in
      let both = and_parts (list_all formal_has_words fs) (process_has_words p.body) words in
      let links = map (λ (x : Formal). home_of_port (port_for x)) fs in
      let begun = ap begun_with at.blocks in
      let homes = length-append f.homes links in
      let count = length-map fs (λ (x : Formal). home_of_port (port_for x)) in
      let more = formals_long o.known.entries fs o.known.entries in
      let long = at.long in
      closed_good items unbroken labels (operates STOP_PROCESS ∷ []) (process_code w p.body s) (tt, tt)
      (process_good items unbroken labels w p.body s seq both.1
      (record { position = _; first = _; is = to_body o p comes }) (record {
        outer = at.outer;
        long = omega (arith, homes, count, more, long);
        low = omega (arith, begun);
        have = formals_have o.known.entries fs o.known.entries at.have;
        loops = no_loops labels (f.homes ++ links) _
            (all_both (λ (x : Home). (l : ℕ) (n : Meaning) → LoopFits l x n) f.homes links at.none (ports_none fs));
      }))

  items_good : (item : ProgramItem) (left : List ProgramItem) (cs : List Callee) (o : Outside) (f : Frame)
      → IsSequentialProgram (item ∷ left) → items_have_words (item ∷ left) ≡ true → AllItemsCome (item ∷ left) o
      → IsOuter f o.known → Good items unbroken labels (items_code item left cs o f)
  items_good item [] cs o f seq words come at =
      let both = and_parts (item_has_words item) true words in
      last_item_good item cs (weighed item o) f seq both.0 (come (weighed item o) item (inl (refl, refl)))
      (subst (IsOuter f) (sym (weighed_known o.uncounted _ o)) at)
  items_good (GlobalConstant c) (next ∷ left) cs o f seq words come at =
      let item = GlobalConstant c in
      let both = and_parts (item_has_words item) (items_have_words (next ∷ left)) words in
      items_good next left (callable item (length f.homes) cs) (after_item item o) (framed item o f) seq both.1
      (λ v i comes. come v i (inr comes)) (item_outer item o f both.0 at)
  items_good (GlobalProcedure p) (next ∷ left) cs o f seq words come at =
      let item = GlobalProcedure p in
      let both = and_parts (item_has_words item) (items_have_words (next ∷ left)) words in
      items_good next left (callable item (length f.homes) cs) (after_item item o) (framed item o f) seq both.1
      (λ v i comes. come v i (inr comes)) (item_outer item o f both.0 at)

program_good : (items : List ProgramItem) (unbroken : BreaksNoRule items) (labels : ℕ) → IsSequentialProgram items
    → items_have_words items ≡ true → Good items unbroken labels (code_of items)
program_good [] unbroken labels seq words = absurd seq
program_good (item ∷ left) unbroken labels seq words =
    items_good (item ∷ left) unbroken labels item left [] outside.outermost no_frame seq words (λ v i comes. comes)
    (record { blocks = refl; outer = refl; long = refl; none = tt; have = tt; fixed = tt })

-- ---- what the law says of a row

heads_below : (labels : ℕ) (es : List RowEntry) → AllByRecursion (IsSaidWell labels) es
    → AreSayable es × AreBelow labels (heads_said es)
heads_below labels [] said = (tt, tt)
heads_below labels (e ∷ es) said =
    let rest = heads_below labels es said.1 in
    ((said.0.0, rest.0), below_both labels (heads_of e.fact) (heads_said es) said.0.1 rest.1)

piece_says : (labels : ℕ) (p : Piece) → SaysWell labels p → SaysWords labels p
piece_says labels (Row l entries) says = heads_below labels entries says
piece_says labels p says = tt

all_say : (labels : ℕ) (ps : List Piece) → AllByRecursion (SaysWell labels) ps → AllByRecursion (SaysWords labels) ps
all_say labels [] says = tt
all_say labels (p ∷ ps) says = (piece_says labels p says.0, all_say labels ps says.1)

pub rows_are_said : RowsAreSaid
rows_are_said items c seq unbroken words is =
    all_say c.labels c.pieces
    (subst (Good items unbroken c.labels) is (program_good items unbroken c.labels seq words)
    (once_below 0 c.labels (labels_in c.pieces) (programs_are_own items c is).0.once))
