-- Each sequential program has code: so has each process in it, wherever it is.
use Rattle.std.proofs.Common.{◌≡◌, ℕ, ℤ, List, [], ◌∷◌}
use Rattle.std.proofs.Common.{length, Option, refl, subst}
use Rattle.occam_layout.specs.declared.mark.Mark.TheVariants as mark
use Rattle.occam_parser.specs.Terminals.{Terminal, Mark}
use Rattle.occam_parser.specs.Lines.{Replicator, Action, Skip, Stop, Assign, Input, Output, Instance, block_word}
use Rattle.occam_parser.specs.Blocks.{Process, Declared, Does, Construct, Act, Block, Replicated, Body, One, Part}
use Rattle.occam_parser.specs.Blocks.{Components, NoComponent, Further, Component, Plain, Chosen, Guarded}
use Rattle.occam_parser.specs.Blocks.{ProgramItem, GlobalConstant, GlobalProcedure}
use Rattle.scalar_ranges.specs.Moves.{Known}
use Rattle.program_uses.specs.Actions.{is_before}
use Rattle.program_uses.specs.Changes.{changed_by_body}
use Rattle.program_uses.specs.Indices.{Repeats, repeats_of, index_in, is_seq}
use Rattle.program_meaning.specs.Sequential.{IsSequential, IsSequentialAction, IsSequentialConstruct}
use Rattle.program_meaning.specs.Sequential.{IsSequentialBody, AreSequential, IsSequentialComponent}
use Rattle.program_meaning.specs.Sequential.{IsSequentialWord, IsSequentialProgram}
use Rattle.usage_checks.specs.AfterProcesses.{begun, ended, begun_body, after_components, after_body}
use Rattle.usage_checks.specs.ItemRules.{Outside, outermost, around_in, weighed, after_item}
use Rattle.code_pieces.specs.declared.operations.TheConstants.{STOP_PROCESS}
use Rattle.code_pieces.specs.Pieces.{operates, Code}
use Rattle.line_pieces.specs.Homes.{Nowhere}
use Rattle.line_pieces.specs.Declarations.{Frame, with_home, declaration_code}
use Rattle.code_generator.specs.Calls.{Callee, where_called}
use Rattle.code_generator.specs.Processes.{Site, Surroundings, with_declaration, at_place, line_code}
use Rattle.code_generator.specs.Processes.{PlacedChoice}
use Rattle.code_generator.specs.Processes.{with_ending, with_opening}
use Rattle.code_generator.specs.Processes.{if_code, in_loop, value_or_zero, loop_code}
use Rattle.code_generator.specs.Processes.{repeated_seq, by_block, times, turn_begun}
use Rattle.code_generator.specs.Processes.{in_each_turn, process_code, construct_code, body_code, components_code}
use Rattle.code_generator.specs.Processes.{component_code, placed_choices, placed}
use Rattle.code_generator.specs.Programs.{in_main, callable, framed, last_item_code, items_code, no_frame}
use Rattle.code_generator.specs.SequentialCode.{SequentialProgramsHaveCode}
use Rattle.code_generator.proofs.CodeTogether.{HasCode, found, before_has, closed_has, then_has, HasProcess}
use Rattle.code_generator.proofs.CodeTogether.{opened_if_has, repeated_if_has, repeated_has, loop_has}
use Rattle.code_generator.proofs.EachChoice.{AllAre}

-- ---- actions

line_has : (w : Surroundings) (action : Action) (s : Site) → IsSequentialAction action
    → HasCode (line_code w action s)
line_has w (Instance name actuals) s h = absurd h
line_has w Skip s h = tt
line_has w Stop s h = tt
line_has w (Assign target value) s h = tt
line_has w (Input channel target) s h = tt
line_has w (Output channel value) s h = tt

-- ---- components, whose processes have code at all sites

abbrev IsWritten : {part : Part} → Surroundings → Component part → Type 0
IsWritten w (Plain p) = (s : Site) → HasCode (process_code w p s)
IsWritten w (Chosen line e p) = (s : Site) → HasCode (process_code w p s)
IsWritten w (Guarded line g p) = (s : Site) → HasCode (process_code w p s)

abbrev AreWritten : {part : Part} → Surroundings → Components part → Type 0
AreWritten w NoComponent = Unit {0}
AreWritten w (Further cs c) = AreWritten w cs × IsWritten w c

-- ---- components of a SEQ

component_has : {part : Part} (w : Surroundings) (c : Component part) (s : Site)
    → IsSequentialComponent (Mark mark.Seq) c → IsWritten w c → HasCode (component_code w c s)
component_has w (Plain p) s h all = all s
component_has w (Chosen line e p) s h all = absurd h
component_has w (Guarded line g p) s h all = absurd h

components_have : {part : Part} (w : Surroundings) (cs : Components part) (s : Site)
    → AreSequential (Mark mark.Seq) cs → AreWritten w cs → HasCode (components_code w cs s)
components_have w NoComponent s h all = tt
components_have w (Further cs c) s h all =
    then_has (components_code w cs s)
    (λ label. component_code w c (at_place (after_components w.around (Mark mark.Seq) cs s.known) label s))
    (components_have w cs s h.0 all.0)
    (λ label. component_has w c (at_place (after_components w.around (Mark mark.Seq) cs s.known) label s) h.1 all.1)

-- ---- choices of an IF

placed_has : {part : Part} (w : Surroundings) (c : Component part) (k : Known)
    → IsSequentialComponent (Mark mark.If) c → IsWritten w c → HasProcess (placed w c k)
placed_has w (Plain p) k h all = absurd h
placed_has w (Chosen line e p) k h all = λ f label. all _
placed_has w (Guarded line g p) k h all = absurd h

placed_all_have : {part : Part} (w : Surroundings) (cs : Components part) (k : Known)
    → AreSequential (Mark mark.If) cs → AreWritten w cs → AllAre HasProcess (placed_choices w cs k)
placed_all_have w NoComponent k h all = tt
placed_all_have w (Further cs c) k h all = (
  placed_all_have w cs k h.0 all.0,
  placed_has w c (after_components w.around (Mark mark.If) cs k) h.1 all.1,
)

-- ---- blocks, whose word is SEQ or IF

in_block : (word : Terminal) (all choices : Option Code) → IsSequentialWord word
    → (word ≡ Mark mark.Seq → HasCode all) → (word ≡ Mark mark.If → HasCode choices)
    → HasCode (by_block word all choices)
in_block (Mark mark.Seq) all choices h first second = first refl
in_block (Mark mark.If) all choices h first second = second refl
in_block word all choices h first second = absurd h

component_word : {part : Part} (word : Terminal) (c : Component part) → IsSequentialComponent word c
    → IsSequentialWord word
component_word (Mark mark.Seq) (Plain p) h = tt
component_word (Mark mark.If) (Chosen line e p) h = tt
component_word word c h = absurd h

block_has : {part : Part} (w : Surroundings) (word : Terminal) (cs : Components part) (s : Site) (start after : Known)
    → IsSequentialWord word → AreSequential word cs → AreWritten w cs
    → HasCode (by_block word (components_code w cs s)
    (if_code s s.frame after (with_opening (with_ending (placed_choices w cs start)))))
block_has w word cs s start after h each all =
    in_block word (components_code w cs s)
    (if_code s s.frame after (with_opening (with_ending (placed_choices w cs start)))) h
    (λ is. components_have w cs s (subst (λ t. AreSequential t cs) is each) all)
    (λ is. opened_if_has s s.frame after (placed_choices w cs start)
    (placed_all_have w cs start (subst (λ t. AreSequential t cs) is each) all))

repeated_block_has : {part : Part} (w : Surroundings) (word : Terminal) (c : Component part) (s inner : Site)
    (r : Replicator) (changed : List ℕ) (repeats : Repeats) (start after : Known) (base count : ℤ)
    → IsSequentialComponent word c → IsWritten w c
    → HasCode (by_block word
    (repeated_seq s changed after base (loop_code s inner after base count (component_code w c inner)) count)
    (if_code s (with_home Nowhere s.frame) after (with_ending (in_each_turn
    (λ n. placed w c (turn_begun w.around word r.name c repeats start n)) (times repeats)))))
repeated_block_has w word c s inner r changed repeats start after base count h all =
    let body = component_code w c inner in
    let loop = loop_code s inner after base count body in
    let choice : ℕ → PlacedChoice = λ n. placed w c (turn_begun w.around word r.name c repeats start n) in
    let turns = in_each_turn choice (times repeats) in
    in_block word (repeated_seq s changed after base loop count)
    (if_code s (with_home Nowhere s.frame) after (with_ending turns)) (component_word word c h)
    (λ is. repeated_has s changed after base loop count (loop_has s inner after base count body
    (component_has w c inner (subst (λ t. IsSequentialComponent t c) is h) all)))
    (λ is. repeated_if_has s (with_home Nowhere s.frame) after choice (times repeats)
    (λ n less. placed_has w c (turn_begun w.around word r.name c repeats start n)
    (subst (λ t. IsSequentialComponent t c) is h) all))

-- ---- processes

mutual
  process_has : (w : Surroundings) (p : Process) → IsSequential p → (s : Site) → HasCode (process_code w p s)
  process_has w (Declared d p) h s =
      before_has (declaration_code s.known.entries d s.frame.top) (process_code w p (with_declaration d s))
      (process_has w p h (with_declaration d s))
  process_has w (Does line c) h s = construct_has w line c h s

  construct_has : (w : Surroundings) (line : ℕ) (c : Construct) → IsSequentialConstruct c → (s : Site)
      → HasCode (construct_code w line c s)
  construct_has w line (Act action) h s = line_has w action s h
  construct_has w line (Block kind cs) h s =
      let word = block_word kind in
      let start = begun word s.known in
      block_has w word cs s start (ended word (after_components w.around word cs start)) h.0 h.1
      (components_written w word cs h.1)
  construct_has w line (Replicated r b) h s = body_has w line r b h s

  body_has : (w : Surroundings) (line : ℕ) (r : Replicator) (b : Body) → IsSequentialBody b → (s : Site)
      → HasCode (body_code w line r b s)
  body_has w line r (One kind c) h s =
      let word = block_word kind in
      let changed = changed_by_body w.around.signatures s.known.entries r (One kind c) in
      let repeats = repeats_of (is_before line w.around.uncounted) s.known.entries (is_seq word) r in
      let start = begun_body word changed repeats.happens s.known in
      repeated_block_has w word c s (in_loop s start r.name (index_in repeats 0)) r changed repeats start
      (after_body w.around line r (One kind c) s.known) (value_or_zero s.known.entries r.base)
      (value_or_zero s.known.entries r.count) h (component_written w word c h)

  components_written : {part : Part} (w : Surroundings) (word : Terminal) (cs : Components part)
      → AreSequential word cs → AreWritten w cs
  components_written w word NoComponent h = tt
  components_written w word (Further cs c) h = (components_written w word cs h.0, component_written w word c h.1)

  component_written : {part : Part} (w : Surroundings) (word : Terminal) (c : Component part)
      → IsSequentialComponent word c → IsWritten w c
  component_written w (Mark mark.Seq) (Plain p) h = λ s. process_has w p h s
  component_written w (Mark mark.If) (Chosen line e p) h = λ s. process_has w p h s
  component_written w word c h = absurd h

-- ---- programs

last_item_has : (item : ProgramItem) (cs : List Callee) (o : Outside) (f : Frame) → IsSequentialProgram (item ∷ [])
    → HasCode (last_item_code item cs o f)
last_item_has (GlobalConstant c) cs o f h = absurd h
last_item_has (GlobalProcedure p) cs o f h =
    let w = where_called cs (around_in o) (length cs) in
    let s = in_main p (record { frame = f; known = o.known; label = 0 }) in
    closed_has (operates STOP_PROCESS ∷ []) (process_code w p.body s) (process_has w p.body h s)

others_are : (item next : ProgramItem) (items : List ProgramItem) → IsSequentialProgram (item ∷ next ∷ items)
    → IsSequentialProgram (next ∷ items)
others_are (GlobalConstant c) next items h = h
others_are (GlobalProcedure p) next items h = h

items_have : (item : ProgramItem) (items : List ProgramItem) (cs : List Callee) (o : Outside) (f : Frame)
    → IsSequentialProgram (item ∷ items) → HasCode (items_code item items cs o f)
items_have item [] cs o f h = last_item_has item cs (weighed item o) f h
items_have item (next ∷ items) cs o f h =
    items_have next items (callable item (length f.homes) cs) (after_item item o) (framed item o f)
    (others_are item next items h)

pub sequential_programs_have_code : SequentialProgramsHaveCode
sequential_programs_have_code [] h = absurd h
sequential_programs_have_code (item ∷ items) h =
    found (items_code item items [] outermost no_frame) (items_have item items [] outermost no_frame h)
