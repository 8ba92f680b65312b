-- The code of a sequential process addresses no empty table, if it declares no empty text and no home is an empty
-- table.
use Rattle.std.proofs.Common.{ℕ, ◌+◌, ◌≤◌, ℤ, pos, Bool, true, false, List, [], ◌∷◌, ◌++◌}
use Rattle.std.proofs.Common.{length, Option, Some, None, arith}
use Rattle.std.specs.Prelude.{⊤, map, pos}
use Rattle.occam_layout.specs.declared.mark.Mark.TheVariants as mark
use Rattle.occam_parser.specs.Terminals.{Terminal, Mark}
use Rattle.occam_parser.specs.Expressions.{Expression}
use Rattle.occam_parser.specs.OneOrMore.{as_list}
use Rattle.occam_parser.specs.Lines as lines
use Rattle.occam_parser.specs.Lines.{Action, Assign, Channels, Constants, Declaration, Input, Instance, Output}
use Rattle.occam_parser.specs.Lines.{Replicator}
use Rattle.occam_parser.specs.Lines.{Skip, Stop, Value, Variables, block_word}
use Rattle.occam_parser.specs.Blocks.{Act, Block, Body, Chosen, Component, Components, Construct, Declared, Does}
use Rattle.occam_parser.specs.Blocks.{Further}
use Rattle.occam_parser.specs.Blocks.{Guarded, NoComponent, One, Part, Plain, Process, Replicated}
use Rattle.scalar_ranges.specs.Entries.{Entry}
use Rattle.scalar_ranges.specs.Moves.{Known}
use Rattle.scalar_ranges.specs.Narrowing.{test_of}
use Rattle.program_meaning.specs.Sequential.{AreSequential, IsSequential, IsSequentialAction, IsSequentialBody}
use Rattle.program_meaning.specs.Sequential.{IsSequentialComponent, IsSequentialConstruct}
use Rattle.usage_checks.specs.AfterProcesses.{after_components, begun, chosen, ended}
use Rattle.code_pieces.specs.Pieces.{Code, Jump, JumpUnless, Piece, before, closed_by, then_code}
use Rattle.code_pieces.proofs.AllOfPieces.{all_both}
use Rattle.line_pieces.specs.Actions.{forgets, may_show, test_code}
use Rattle.line_pieces.specs.Declarations.{Frame, channels_in, declaration_code, declared, home_for, with_home}
use Rattle.line_pieces.specs.Declarations.{with_names, with_words, words_in}
use Rattle.line_pieces.specs.Expressions.{expression_code}
use Rattle.line_pieces.specs.Homes.{Home, Nowhere, Word}
use Rattle.code_generator.specs.Processes.{Always, EndedChoices, IfEnding, NoChoice, Opens, PlacedChoice}
use Rattle.code_generator.specs.Processes.{PlacedChoices, Site, Stops, Surroundings, ThenChoice, all_tested}
use Rattle.code_generator.specs.Processes.{at_place, body_code, by_block, choices_code, component_code}
use Rattle.code_generator.specs.Processes.{components_code, construct_code, ending_code, if_code}
use Rattle.code_generator.specs.Processes.{in_each_turn, line_code, loop_code, loop_end, loop_start}
use Rattle.code_generator.specs.Processes.{no_loop, placed, placed_choices, process_code, row_of}
use Rattle.code_generator.specs.Processes.{taken_code, tested_code}
use Rattle.code_generator.specs.Processes.{with_declaration, with_ending, with_opening}
use Rattle.meant_code.proofs.BlocksHold.{EachChoice, EndedHold, EndingHolds, body_holds, by_word, ending_holds}
use Rattle.meant_code.proofs.BlocksHold.{loop_inside, opening_holds, turns_hold}
use Rattle.certified_modules.specs.Certifying.{HasValues}
use Rattle.certified_programs.proofs.FullLines.{AreFull, HaveValues, IsFull, assign_is, declaration_is, expression_is}
use Rattle.certified_programs.proofs.FullLines.{forgets_is, input_is, loop_start_is, output_is}
use Rattle.certified_programs.proofs.Texts.{BodyHasTexts, ConstructHasTexts, DeclaresText, HasTexts, HaveTexts, IsText}
use Rattle.certified_programs.proofs.Texts.{PartHasTexts}

-- ---- homes

-- a home more
pub homes_more : (hs : List Home) (h : Home) → HaveValues hs → IsFull h → HaveValues (hs ++ h ∷ [])
homes_more hs h have full = all_both IsFull hs (h ∷ []) have (full, tt)

names_full : (names : List (List ℕ)) (count : ℕ) (f : Frame) → HaveValues f.homes
    → HaveValues (with_names count names f).homes
names_full [] count f have = have
names_full (name ∷ names) count f have =
    names_full names count (with_words count f) (homes_more f.homes (Word f.top) have tt)

text_full : (bytes : List ℕ) → 1 ≤ length bytes → 1 ≤ length (map pos bytes)
text_full [] some = absurd (omega (arith, some))
text_full (b ∷ bytes) some = omega arith

pub constant_full : (es : List Entry) (type : _) (value : Value) → IsText value → IsFull (home_for es type value)
constant_full es type (lines.Scalar e) text = tt
constant_full es type (lines.Table size items) text = omega arith
constant_full es type (lines.Bytes size bytes) text = text_full bytes text

declared_full : (es : List Entry) (d : Declaration) (f : Frame) → DeclaresText d → HaveValues f.homes
    → HaveValues (declared es d f).homes
declared_full es (Constants c) f text have =
    homes_more f.homes (home_for es c.value_type c.value) have (constant_full es c.value_type c.value text)
declared_full es (Variables n) f text have =
    names_full (as_list n.names) (words_in es n.value_type n.size) f have
declared_full es (Channels n) f text have = names_full (as_list n.names) (channels_in es n.size) f have

-- ---- code put together

-- code that addresses no empty table
abbrev pub Full : Option Code → Type 0
Full None = ⊤
Full (Some c) = AreFull c.pieces

before_full : (ps : List Piece) (code : Option Code) → AreFull ps → Full code → Full (before ps code)
before_full ps None first full = tt
before_full ps (Some c) first full = all_both HasValues ps c.pieces first full

closed_full : (ps : List Piece) (code : Option Code) → AreFull ps → Full code → Full (closed_by ps code)
closed_full ps None last full = tt
closed_full ps (Some c) last full = all_both HasValues c.pieces ps full last

then_full : (code : Option Code) (next : ℕ → Option Code) → Full code → ((label : ℕ) → Full (next label))
    → Full (then_code code next)
then_full None next full all = tt
then_full (Some c) next full all = before_full c.pieces (next c.labels) full (all c.labels)

line_full : (w : Surroundings) (action : Action) (s : Site) → IsSequentialAction action → HaveValues s.frame.homes
    → Full (line_code w action s)
line_full w (Instance name actuals) s seq have = absurd seq
line_full w Skip s seq have = tt
line_full w Stop s seq have = (tt, (tt, tt))
line_full w (Assign target value) s seq have =
    assign_is s.frame.homes have s.known.entries s.frame.top target value
line_full w (Input channel target) s seq have =
    input_is s.frame.homes have s.known.entries s.frame.top channel target
line_full w (Output channel value) s seq have =
    output_is s.frame.homes have s.known.entries s.frame.top channel value

-- ---- choices of an IF

abbrev ChoiceFull : Frame → PlacedChoice → Type 0
ChoiceFull f c = (label : ℕ) → Full (taken_code f c label)

module _ (f : Frame) (have : HaveValues f.homes) where
  test_full : (es : List Entry) (e : Expression) (to : ℕ) → AreFull (test_code f.homes es f.top e to)
  test_full es e to =
      let value = expression_code f.homes es f.top e in
      let forgetting = forgets (may_show es e) (test_of es e) in
      all_both HasValues (value ++ forgetting) (JumpUnless to ∷ [])
      (all_both HasValues value forgetting (expression_is f.homes have es f.top e)
      (forgets_is (may_show es e) (test_of es e))) (tt, tt)

  tested_full : (to : ℕ) (c : PlacedChoice) (label : ℕ) → ChoiceFull f c → Full (tested_code to f c label)
  tested_full to c label full =
      before_full (test_code f.homes c.known.entries f.top c.condition label)
      (closed_by (Jump to ∷ row_of label f c.after ∷ []) (taken_code f c (label + 1)))
      (test_full c.known.entries c.condition label)
      (closed_full (Jump to ∷ row_of label f c.after ∷ []) (taken_code f c (label + 1)) (tt, (tt, tt))
      (full (label + 1)))

  all_tested_full : (to : ℕ) (cs : PlacedChoices) (label : ℕ) → EachChoice (ChoiceFull f) cs
      → Full (all_tested to f cs label)
  all_tested_full to NoChoice label all = tt
  all_tested_full to (ThenChoice cs c) label all =
      then_full (all_tested to f cs label) (tested_code to f c) (all_tested_full to cs label all.0)
      (λ next. tested_full to c next all.1)

  what_ends_full : (to : ℕ) (x : IfEnding) (label : ℕ) → EndingHolds (ChoiceFull f) x → Full (ending_code to f x label)
  what_ends_full to Stops label full = (tt, tt)
  what_ends_full to (Always c) label full = full label
  what_ends_full to (Opens c) label full =
      before_full (test_code f.homes c.known.entries f.top c.condition to) (taken_code f c label)
      (test_full c.known.entries c.condition to) (full label)

  if_full : (s : Site) (after : Known) (x : EndedChoices) → EndedHold (ChoiceFull f) x → Full (if_code s f after x)
  if_full s after x all =
      closed_full (row_of s.label s.frame after ∷ []) (choices_code s.label f x (s.label + 1)) (tt, tt)
      (then_full (all_tested s.label f x.tested (s.label + 1)) (ending_code s.label f x.ending)
      (all_tested_full s.label x.tested (s.label + 1) all.0) (λ label. what_ends_full s.label x.ending label all.1))

-- ---- loops

no_loop_full : (changes : Bool) (s : Site) (after : Known) → Full (no_loop changes s after)
no_loop_full false s after = tt
no_loop_full true s after = (tt, tt)

loop_full : (s inner : Site) (after : Known) (base count : ℤ) (body : Option Code) → Full body
    → Full (loop_code s inner after base count body)
loop_full s inner after base count body full =
    let start = loop_start s.frame.top base count in
    let row = row_of s.label inner.frame inner.known ∷ [] in
    let last = loop_end s.frame.top s.label (row_of (s.label + 1) s.frame after) in
    before_full (start ++ row) (closed_by last body)
    (all_both HasValues start row (loop_start_is s.frame.top base count) (tt, tt))
    (closed_full last body (tt, (tt, (tt, tt))) full)

-- ---- processes

module _ (w : Surroundings) where
  -- a process whose code is full where homes are
  abbrev IsGood : Process → Type 0
  IsGood p = (s : Site) → HaveValues s.frame.homes → Full (process_code w p s)

  abbrev PartIsGood : {part : Part} → Component part → Type 0
  PartIsGood (Plain p) = IsGood p
  PartIsGood (Chosen line e p) = IsGood p
  PartIsGood (Guarded line g p) = ⊤

  abbrev AreGood : {part : Part} → Components part → Type 0
  AreGood NoComponent = ⊤
  AreGood (Further cs c) = AreGood cs × PartIsGood c

  component_full : {part : Part} (c : Component part) (s : Site) → PartIsGood c → HaveValues s.frame.homes
      → Full (component_code w c s)
  component_full (Plain p) s good have = good s have
  component_full (Chosen line e p) s good have = tt
  component_full (Guarded line g p) s good have = tt

  components_full : {part : Part} (cs : Components part) (s : Site) → AreGood cs → HaveValues s.frame.homes
      → Full (components_code w cs s)
  components_full NoComponent s good have = tt
  components_full (Further cs c) s good have =
      then_full (components_code w cs s)
      (λ label. component_code w c (at_place (after_components w.around (Mark mark.Seq) cs s.known) label s))
      (components_full cs s good.0 have)
      (λ label. component_full c (at_place (after_components w.around (Mark mark.Seq) cs s.known) label s) good.1 have)

  placed_full : {part : Part} (c : Component part) (f : Frame) (k : Known) → PartIsGood c → HaveValues f.homes
      → ChoiceFull f (placed w c k)
  placed_full (Plain p) f k good have = λ label. tt
  placed_full (Chosen line e p) f k good have =
      λ label. good (record { frame = f; known = chosen e k; label = label }) have
  placed_full (Guarded line g p) f k good have = λ label. tt

  all_placed_full : {part : Part} (cs : Components part) (f : Frame) (k : Known) → AreGood cs → HaveValues f.homes
      → EachChoice (ChoiceFull f) (placed_choices w cs k)
  all_placed_full NoComponent f k good have = tt
  all_placed_full (Further cs c) f k good have = (
    all_placed_full cs f k good.0 have,
    placed_full c f (after_components w.around (Mark mark.If) cs k) good.1 have,
  )

  block_full : {part : Part} (word : Terminal) (cs : Components part) (s : Site) → AreGood cs → HaveValues s.frame.homes
      → Full (by_block word (components_code w cs s)
      (if_code s s.frame (ended word (after_components w.around word cs (begun word s.known)))
      (with_opening (with_ending (placed_choices w cs (begun word s.known))))))
  block_full word cs s good have =
      let k = begun word s.known in
      let choices = with_ending (placed_choices w cs k) in
      let all = ending_holds (ChoiceFull s.frame) (placed_choices w cs k) (all_placed_full cs s.frame k good have) in
      by_word Full tt word (components_code w cs s)
      (if_code s s.frame (ended word (after_components w.around word cs k)) (with_opening choices))
      (components_full cs s good have)
      (if_full s.frame have s (ended word (after_components w.around word cs k)) (with_opening choices)
      (opening_holds (ChoiceFull s.frame) choices.tested choices.ending all.0 all.1))

  mutual
    pub process_full : (p : Process) → IsSequential p → HasTexts p → IsGood p
    process_full (Declared d p) seq texts s have =
        before_full (declaration_code s.known.entries d s.frame.top) (process_code w p (with_declaration d s))
        (declaration_is s.known.entries d s.frame.top)
        (process_full p seq texts.1 (with_declaration d s) (declared_full s.known.entries d s.frame texts.0 have))
    process_full (Does line c) seq texts s have = construct_full line c seq texts s have

    construct_full : (line : ℕ) (c : Construct) → IsSequentialConstruct c → ConstructHasTexts c → (s : Site)
        → HaveValues s.frame.homes → Full (construct_code w line c s)
    construct_full line (Act action) seq texts s have = line_full w action s seq have
    construct_full line (Block kind cs) seq texts s have =
        block_full (block_word kind) cs s (all_good (block_word kind) cs seq.1 texts) have
    construct_full line (Replicated r b) seq texts s have = body_full line r b seq texts s have

    body_full : (line : ℕ) (r : Replicator) (b : Body) → IsSequentialBody b → BodyHasTexts b → (s : Site)
        → HaveValues s.frame.homes → Full (body_code w line r b s)
    body_full line r (One kind c) seq texts s have =
        let good = one_good (block_word kind) c seq texts in
        let f = with_home Nowhere s.frame in
        let outside = homes_more s.frame.homes Nowhere have tt in
        body_holds Full tt w line r kind c s (λ after changes. no_loop_full changes s after)
        (λ start after base count.
        let inner = loop_inside s start in
        loop_full s inner after base count (component_code w c inner)
        (component_full c inner good (homes_more s.frame.homes _ have tt)))
        (λ after starts count.
        let choice : ℕ → PlacedChoice = λ n. placed w c (starts n) in
        let turns = in_each_turn choice count in
        if_full f outside s after (with_ending turns)
        (ending_holds (ChoiceFull f) turns
        (turns_hold (ChoiceFull f) choice count (λ n. placed_full c f (starts n) good outside))))

    all_good : {part : Part} (word : Terminal) (cs : Components part) → AreSequential word cs → HaveTexts cs
        → AreGood cs
    all_good word NoComponent seq texts = tt
    all_good word (Further cs c) seq texts = (all_good word cs seq.0 texts.0, one_good word c seq.1 texts.1)

    one_good : {part : Part} (word : Terminal) (c : Component part) → IsSequentialComponent word c → PartHasTexts c
        → PartIsGood c
    one_good (Mark mark.Seq) (Plain p) seq texts = process_full p seq texts
    one_good (Mark mark.If) (Chosen line e p) seq texts = process_full p seq texts
    one_good word c seq texts = absurd seq
