-- The code of each process has labels of its own: one induction over processes.
use Rattle.std.proofs.Common.{◌≡◌, ◌≤◌, ℕ, zero, suc, ◌+◌, ℤ, Bool, true, false, cond, List, [], ◌∷◌}
use Rattle.std.proofs.Common.{◌++◌, Option, Some, None, ap, ◌∙◌, subst, arith}
use Rattle.std.specs.Prelude.{⊤, length, nat_eq, slice_get}
use Rattle.std.proofs.lemmas.List.{append_assoc}
use Rattle.occam_layout.specs.declared.mark.Mark.TheVariants as mark
use Rattle.occam_parser.specs.Blocks.{Act, Block, Body, Chosen, Component, Components, Construct, Declared, Does}
use Rattle.occam_parser.specs.Blocks.{Further, GlobalConstant, GlobalProcedure, Guarded, NoComponent, One, Part}
use Rattle.occam_parser.specs.Blocks.{Plain, Process, ProgramItem, Replicated}
use Rattle.occam_parser.specs.Expressions.{Expression}
use Rattle.occam_parser.specs.Lines.{Action, Assign, Input, Instance, Output, Replicator, Skip, Stop, block_word}
use Rattle.occam_parser.specs.Terminals.{Mark}
use Rattle.scalar_ranges.specs.Entries.{Entry, Meaning, Procedure, meaning_in}
use Rattle.scalar_ranges.specs.Moves.{Known}
use Rattle.scalar_ranges.specs.Narrowing.{test_of}
use Rattle.program_uses.specs.Actions.{Around}
use Rattle.program_uses.specs.Signatures.{Parameter, parameters_in}
use Rattle.usage_checks.specs.AfterProcesses.{after_components, begun, ended}
use Rattle.usage_checks.specs.ItemRules.{Outside, after_item, around_in, weighed, outermost}
use Rattle.code_pieces.specs.Pieces.{Code, Jump, JumpUnless, Piece, Row, before, closed_by, operates, then_code}
use Rattle.code_pieces.specs.declared.operations.TheConstants.{STOP_PROCESS}
use Rattle.code_pieces.specs.declared.piece.RowEntry.{RowEntry}
use Rattle.line_pieces.specs.Actions.{stop_code, may_show, assign_code, forgets, input_code, output_code, test_code}
use Rattle.line_pieces.specs.Declarations.{Frame, declaration_code, facts_in, with_home}
use Rattle.line_pieces.specs.Expressions.{expression_code}
use Rattle.line_pieces.specs.Homes.{Nowhere}
use Rattle.code_generator.specs.Calls.{Callee, around_before, callee_code, callee_code_if, callee_start, calls_below}
use Rattle.code_generator.specs.Calls.{in_callee, outside_frame, where_called}
use Rattle.code_generator.specs.Instances.{bindings_code, cleaning_code}
use Rattle.code_generator.specs.Processes.{Always, EndedChoices, IfEnding, NoChoice, Opens, PlacedChoice}
use Rattle.code_generator.specs.Processes.{PlacedChoices, Site, Stops, Surroundings, ThenChoice, all_tested}
use Rattle.code_generator.specs.Processes.{at_place, body_code, called, choices_code, component_code}
use Rattle.code_generator.specs.Processes.{components_code, construct_code, ending_code, if_code}
use Rattle.code_generator.specs.Processes.{in_each_turn, line_code, loop_code, loop_start, no_loop}
use Rattle.code_generator.specs.Processes.{placed, placed_choices, process_code, row_of}
use Rattle.code_generator.specs.Processes.{taken_code, tested_code}
use Rattle.code_generator.specs.Processes.{with_declaration, with_ending, with_opening}
use Rattle.code_generator.specs.Programs.{callable, code_of, framed, in_main, items_code, last_item_code, no_frame}
use Rattle.meant_code.specs.Labels.{AreStraight, times_in}
use Rattle.meant_code.specs.OwnCode.{AreOwn, ProcessesAreOwn}
use Rattle.meant_code.proofs.BlocksHold.{EachChoice, EndedHold, EndingHolds, body_holds, by_word, ending_holds}
use Rattle.meant_code.proofs.BlocksHold.{loop_inside, opening_holds, turns_hold}
use Rattle.meant_code.proofs.LabelLists.{one_once}
use Rattle.meant_code.proofs.OwnPieces.{own_anywhere, own_both, own_closed, own_jump, own_loop, own_row, own_straight}
use Rattle.meant_code.proofs.OwnPieces.{own_test}
use Rattle.meant_code.proofs.StraightLines.{assign_is, bindings_are, cleaning_is, declaration_is, expression_is}
use Rattle.meant_code.proofs.StraightLines.{forgets_is, input_is, loop_start_is, output_is, straight_both}

-- What is asked of code from a label on, if there is any.
abbrev IsOwn : ℕ → List ℕ → Option Code → Type 0
IsOwn from after None = ⊤
IsOwn from after (Some c) = AreOwn from c.labels after c.pieces

-- ---- code put together

before_own : (n : ℕ) (after : List ℕ) (ps : List Piece) (code : Option Code) → AreOwn n n after ps
    → IsOwn n after code → IsOwn n after (before ps code)
before_own n after ps None first own = tt
before_own n after ps (Some c) first own = own_both n n c.labels after ps c.pieces first own

-- straight pieces after code
behind_own : (n : ℕ) (after : List ℕ) (ps : List Piece) (code : Option Code) → AreStraight ps → IsOwn n after code
    → IsOwn n after (closed_by ps code)
behind_own n after ps None are own = tt
behind_own n after ps (Some c) are own =
    own_both n c.labels c.labels after c.pieces ps own (own_straight c.labels after ps are)

-- pieces with labels of their own, and then code
joined_own : (from middle : ℕ) (after : List ℕ) (ps : List Piece) (code : Option Code)
    → AreOwn from middle after ps → IsOwn middle after code → IsOwn from after (before ps code)
joined_own from middle after ps None first own = tt
joined_own from middle after ps (Some c) first own = own_both from middle c.labels after ps c.pieces first own

-- code, and then what begins with the label that is left free
then_own : (n : ℕ) (after : List ℕ) (code : Option Code) (next : ℕ → Option Code) → IsOwn n after code
    → ((label : ℕ) → IsOwn label after (next label)) → IsOwn n after (then_code code next)
then_own n after None next own all = tt
then_own n after (Some c) next own all = joined_own n c.labels after c.pieces (next c.labels) own (all c.labels)

anywhere : (n : ℕ) (after : List ℕ) (code : Option Code) → IsOwn n [] code → IsOwn n after code
anywhere n after None own = tt
anywhere n after (Some c) own = own_anywhere n c.labels after c.pieces own

-- ---- actions

stop_own : (f : Frame) (es : List Entry) (n : ℕ) → IsOwn n [] (stop_code f es n)
stop_own f es n =
    own_both n n (n + 1) [] (operates STOP_PROCESS ∷ []) (Row n (facts_in f es) ∷ [])
    (own_straight n [] (operates STOP_PROCESS ∷ []) (tt, tt)) (own_row n [] (facts_in f es))

-- instances have code of their own
abbrev pub CallsAreOwn : Surroundings → Type 0
CallsAreOwn w = (number : ℕ) (qs : List Parameter) (actuals : List Expression) (s : Site)
    → IsOwn s.label [] (w.calls number qs actuals s)

called_own : (w : Surroundings) (m : Option Meaning) (actuals : List Expression) (s : Site) → CallsAreOwn w
    → IsOwn s.label [] (called w m actuals s)
called_own w (Some (Procedure number)) actuals s calls =
    calls number (parameters_in w.around.signatures (Some (Procedure number))) actuals s
called_own w m actuals s calls = tt

line_own : (w : Surroundings) (action : Action) (s : Site) → CallsAreOwn w → IsOwn s.label [] (line_code w action s)
line_own w (Instance name actuals) s calls = called_own w (meaning_in name s.known.entries) actuals s calls
line_own w Skip s calls = own_straight s.label [] [] tt
line_own w Stop s calls = stop_own s.frame s.known.entries s.label
line_own w (Assign target value) s calls =
    own_straight s.label [] (assign_code s.frame.homes s.known.entries s.frame.top target value)
    (assign_is s.frame.homes s.known.entries s.frame.top target value)
line_own w (Input channel target) s calls =
    own_straight s.label [] (input_code s.frame.homes s.known.entries s.frame.top channel target)
    (input_is s.frame.homes s.known.entries s.frame.top channel target)
line_own w (Output channel value) s calls =
    own_straight s.label [] (output_code s.frame.homes s.known.entries s.frame.top channel value)
    (output_is s.frame.homes s.known.entries s.frame.top channel value)

-- ---- components, whose processes have code of their own at all sites

abbrev IsWritten : {part : Part} → Surroundings → Component part → Type 0
IsWritten w (Plain p) = (s : Site) → IsOwn s.label [] (process_code w p s)
IsWritten w (Chosen line e p) = (s : Site) → IsOwn s.label [] (process_code w p s)
IsWritten w (Guarded line g p) = ⊤

abbrev AreWritten : {part : Part} → Surroundings → Components part → Type 0
AreWritten w NoComponent = ⊤
AreWritten w (Further cs c) = AreWritten w cs × IsWritten w c

-- ---- components of a SEQ

component_own : {part : Part} (w : Surroundings) (c : Component part) (s : Site) → IsWritten w c
    → IsOwn s.label [] (component_code w c s)
component_own w (Plain p) s all = all s
component_own w (Chosen line e p) s all = tt
component_own w (Guarded line g p) s all = tt

components_own : {part : Part} (w : Surroundings) (cs : Components part) (s : Site) → AreWritten w cs
    → IsOwn s.label [] (components_code w cs s)
components_own w NoComponent s all = own_straight s.label [] [] tt
components_own w (Further cs c) s all =
    then_own s.label [] (components_code w cs s)
    (λ label. component_code w c (at_place (after_components w.around (Mark mark.Seq) cs s.known) label s))
    (components_own w cs s all.0)
    (λ label. component_own w c (at_place (after_components w.around (Mark mark.Seq) cs s.known) label s) all.1)

-- ---- choices of an IF, whose processes have code of their own at all sites

abbrev HasOwn : PlacedChoice → Type 0
HasOwn c = (s : Site) → IsOwn s.label [] (c.process s)

-- a test that jumps to what is after it
test_own : (f : Frame) (es : List Entry) (e : Expression) (n to : ℕ) (after : List ℕ) → 1 ≤ times_in to after
    → AreOwn n n after (test_code f.homes es f.top e to)
test_own f es e n to after there =
    let value = expression_code f.homes es f.top e in
    let forgetting = forgets (may_show es e) (test_of es e) in
    own_both n n n after (value ++ forgetting) (JumpUnless to ∷ [])
    (own_straight n after (value ++ forgetting)
    (straight_both value forgetting (expression_is f.homes es f.top e) (forgets_is (may_show es e) (test_of es e))))
    (own_test n to after there)

-- a label is once among itself and others
first_is : (l : ℕ) (ls : List ℕ) → 1 ≤ times_in l (l ∷ ls)
first_is l ls = let once = (one_once l).inside l (omega arith) (omega arith) in omega (arith, once)

second_is : (l m : ℕ) (ls : List ℕ) → 1 ≤ times_in l (m ∷ l ∷ ls)
second_is l m ls = let there = first_is l ls in omega (arith, there)

-- the test of a choice, its process, the jump to the end of the IF, and the row where the next choice begins
choice_own : (label end : ℕ) (test : List Piece) (process : Option Code) (entries : List RowEntry)
    → AreOwn (label + 1) (label + 1) (label ∷ end ∷ []) test → IsOwn (label + 1) [] process
    → IsOwn label (end ∷ []) (before test (closed_by (Jump end ∷ Row label entries ∷ []) process))
choice_own label end test None entries tests own = tt
choice_own label end test (Some c) entries tests own =
    let next = label + 1 in
    let after : List ℕ = label ∷ end ∷ [] in
    let row : List Piece = Row label entries ∷ [] in
    let body = c.pieces ++ Jump end ∷ [] in
    let first : AreOwn next c.labels after (test ++ body) =
    own_both next next c.labels after test body tests
    (own_both next c.labels c.labels after c.pieces (Jump end ∷ [])
    (own_anywhere next c.labels after c.pieces own) (own_jump c.labels end after (second_is end label []))) in
    let shape : (test ++ body) ++ row ≡ test ++ (c.pieces ++ Jump end ∷ row) =
    append_assoc test body row ∙ ap (λ (ps : List Piece). test ++ ps) (append_assoc c.pieces (Jump end ∷ []) row) in
    subst (AreOwn label c.labels (end ∷ [])) shape (own_closed label c.labels (end ∷ []) (test ++ body) entries first)

tested_own : (end : ℕ) (f : Frame) (c : PlacedChoice) (label : ℕ) → HasOwn c
    → IsOwn label (end ∷ []) (tested_code end f c label)
tested_own end f c label own =
    choice_own label end (test_code f.homes c.known.entries f.top c.condition label) (taken_code f c (label + 1))
    (facts_in f c.after.entries)
    (test_own f c.known.entries c.condition (label + 1) label (label ∷ end ∷ []) (first_is label (end ∷ []))) (own _)

all_tested_own : (end : ℕ) (f : Frame) (cs : PlacedChoices) (label : ℕ) → EachChoice HasOwn cs
    → IsOwn label (end ∷ []) (all_tested end f cs label)
all_tested_own end f NoChoice label all = own_straight label (end ∷ []) [] tt
all_tested_own end f (ThenChoice cs c) label all =
    then_own label (end ∷ []) (all_tested end f cs label) (tested_code end f c) (all_tested_own end f cs label all.0)
    (λ next. tested_own end f c next all.1)

what_ends_own : (end : ℕ) (f : Frame) (x : IfEnding) (label : ℕ) → EndingHolds HasOwn x
    → IsOwn label (end ∷ []) (ending_code end f x label)
what_ends_own end f Stops label own = own_straight label (end ∷ []) (operates STOP_PROCESS ∷ []) (tt, tt)
what_ends_own end f (Always c) label own = anywhere label (end ∷ []) (taken_code f c label) (own _)
what_ends_own end f (Opens c) label own =
    before_own label (end ∷ []) (test_code f.homes c.known.entries f.top c.condition end) (taken_code f c label)
    (test_own f c.known.entries c.condition label end (end ∷ []) (first_is end []))
    (anywhere label (end ∷ []) (taken_code f c label) (own _))

closed_own : (n : ℕ) (code : Option Code) (entries : List RowEntry) → IsOwn (n + 1) (n ∷ []) code
    → IsOwn n [] (closed_by (Row n entries ∷ []) code)
closed_own n None entries own = tt
closed_own n (Some c) entries own = own_closed n c.labels [] c.pieces entries own

if_own : (s : Site) (f : Frame) (after : Known) (x : EndedChoices) → EndedHold HasOwn x
    → IsOwn s.label [] (if_code s f after x)
if_own s f after x all =
    closed_own s.label (choices_code s.label f x (s.label + 1)) (facts_in s.frame after.entries)
    (then_own (s.label + 1) (s.label ∷ []) (all_tested s.label f x.tested (s.label + 1))
    (ending_code s.label f x.ending) (all_tested_own s.label f x.tested (s.label + 1) all.0)
    (λ label. what_ends_own s.label f x.ending label all.1))

placed_own : {part : Part} (w : Surroundings) (c : Component part) (k : Known) → IsWritten w c
    → HasOwn (placed w c k)
placed_own w (Plain p) k all = λ s. tt
placed_own w (Chosen line e p) k all = all
placed_own w (Guarded line g p) k all = λ s. tt

placed_all_own : {part : Part} (w : Surroundings) (cs : Components part) (k : Known) → AreWritten w cs
    → EachChoice HasOwn (placed_choices w cs k)
placed_all_own w NoComponent k all = tt
placed_all_own w (Further cs c) k all = (
  placed_all_own w cs k all.0,
  placed_own w c (after_components w.around (Mark mark.If) cs k) all.1,
)

-- ---- loops

no_loop_own : (changes : Bool) (s : Site) (after : Known) → IsOwn s.label [] (no_loop changes s after)
no_loop_own false s after = own_straight s.label [] [] tt
no_loop_own true s after = own_row s.label [] (facts_in s.frame after.entries)

loop_own : (s inner : Site) (after : Known) (base count : ℤ) (body : Option Code) → IsOwn (s.label + 2) [] body
    → IsOwn s.label [] (loop_code s inner after base count body)
loop_own s inner after base count None own = tt
loop_own s inner after base count (Some c) own =
    own_loop s.label c.labels s.frame.top [] (loop_start s.frame.top base count) c.pieces
    (facts_in inner.frame inner.known.entries) (facts_in s.frame after.entries)
    (loop_start_is s.frame.top base count) own

-- ---- processes

module _ (w : Surroundings) (calls : CallsAreOwn w) where
  mutual
    pub process_own : (p : Process) (s : Site) → IsOwn s.label [] (process_code w p s)
    process_own (Declared d p) s =
        before_own s.label [] (declaration_code s.known.entries d s.frame.top)
        (process_code w p (with_declaration d s))
        (own_straight s.label [] (declaration_code s.known.entries d s.frame.top)
        (declaration_is s.known.entries d s.frame.top)) (process_own p (with_declaration d s))
    process_own (Does line c) s = construct_own line c s

    construct_own : (line : ℕ) (c : Construct) (s : Site) → IsOwn s.label [] (construct_code w line c s)
    construct_own line (Act action) s = line_own w action s calls
    construct_own line (Block kind cs) s =
        let word = block_word kind in
        let start = begun word s.known in
        let all = components_written cs in
        let choices = with_ending (placed_choices w cs start) in
        let have = ending_holds HasOwn (placed_choices w cs start) (placed_all_own w cs start all) in
        let after = ended word (after_components w.around word cs start) in
        by_word (IsOwn s.label []) tt word (components_code w cs s) (if_code s s.frame after (with_opening choices))
        (components_own w cs s all)
        (if_own s s.frame after (with_opening choices)
        (opening_holds HasOwn choices.tested choices.ending have.0 have.1))
    construct_own line (Replicated r b) s = body_own line r b s

    body_own : (line : ℕ) (r : Replicator) (b : Body) (s : Site) → IsOwn s.label [] (body_code w line r b s)
    body_own line r (One kind c) s =
        let written = component_written c in
        body_holds (IsOwn s.label []) tt w line r kind c s (λ after changes. no_loop_own changes s after)
        (λ start after base count.
        let inner = loop_inside s start in
        loop_own s inner after base count (component_code w c inner) (component_own w c inner written))
        (λ after starts count.
        let choice : ℕ → PlacedChoice = λ n. placed w c (starts n) in
        let turns = in_each_turn choice count in
        if_own s (with_home Nowhere s.frame) after (with_ending turns)
        (ending_holds HasOwn turns
        (turns_hold HasOwn choice count (λ n. placed_own w c (starts n) written))))

    components_written : {part : Part} (cs : Components part) → AreWritten w cs
    components_written NoComponent = tt
    components_written (Further cs c) = (components_written cs, component_written c)

    component_written : {part : Part} (c : Component part) → IsWritten w c
    component_written (Plain p) = λ s. process_own p s
    component_written (Chosen line e p) = λ s. process_own p s
    component_written (Guarded line g p) = tt

-- ---- instances

callee_own : (w : Surroundings) (c : Callee) (qs : List Parameter) (actuals : List Expression) (s : Site)
    → CallsAreOwn w → IsOwn s.label [] (callee_code w c qs actuals s)
callee_own w c qs actuals s calls =
    let inner = in_callee c qs actuals s in
    let bindings = bindings_code s.frame.homes s.known.entries qs 0 actuals (outside_frame c.names qs actuals s) in
    let cleaning = cleaning_code s.frame.homes s.known.entries s.frame.top qs 0 actuals in
    let body = process_code w c.procedure.body inner in
    joined_own s.label (s.label + 1) [] (callee_start c qs actuals s) (closed_by cleaning body)
    (own_both s.label s.label (s.label + 1) [] bindings (row_of s.label inner.frame inner.known ∷ [])
    (own_straight s.label [] bindings
    (bindings_are s.frame.homes s.known.entries qs 0 actuals (outside_frame c.names qs actuals s)))
    (own_row s.label [] (facts_in inner.frame inner.known.entries)))
    (behind_own (s.label + 1) [] cleaning body
    (cleaning_is s.frame.homes s.known.entries s.frame.top qs 0 actuals) (process_own w calls c.procedure.body inner))

callee_own_if : (w : Surroundings) (c : Option Callee) (qs : List Parameter) (actuals : List Expression) (s : Site)
    → CallsAreOwn w → IsOwn s.label [] (callee_code_if w c qs actuals s)
callee_own_if w None qs actuals s calls = tt
callee_own_if w (Some c) qs actuals s calls = callee_own w c qs actuals s calls

-- either of two
either_own : (b : Bool) (n : ℕ) (first second : Option Code) → IsOwn n [] first → IsOwn n [] second
    → IsOwn n [] (cond b first second)
either_own true n first second one other = one
either_own false n first second one other = other

calls_own : (cs : List Callee) (a : Around) (count number : ℕ) (qs : List Parameter) (actuals : List Expression)
    (s : Site) → IsOwn s.label [] (calls_below cs a count number qs actuals s)
calls_own cs a zero number qs actuals s = tt
calls_own cs a (suc n) number qs actuals s =
    let w : Surroundings = record { around = around_before n a; calls = calls_below cs (around_before n a) n } in
    either_own (nat_eq n number) s.label (callee_code_if w (slice_get cs n) qs actuals s)
    (calls_below cs a n number qs actuals s)
    (callee_own_if w (slice_get cs n) qs actuals s
    (λ m others passed site. calls_own cs (around_before n a) n m others passed site))
    (calls_own cs a n number qs actuals s)

pub anything_own : (cs : List Callee) (a : Around) (count : ℕ) (p : Process) (s : Site)
    → IsOwn s.label [] (process_code (where_called cs a count) p s)
anything_own cs a count p s =
    process_own (where_called cs a count) (λ m qs actuals site. calls_own cs a count m qs actuals site) p s

-- ---- programs

last_item_own : (item : ProgramItem) (cs : List Callee) (o : Outside) (f : Frame)
    → IsOwn 0 [] (last_item_code item cs o f)
last_item_own (GlobalConstant c) cs o f = tt
last_item_own (GlobalProcedure p) cs o f =
    let s = in_main p (record { frame = f; known = o.known; label = 0 }) in
    behind_own 0 [] (operates STOP_PROCESS ∷ [])
    (process_code (where_called cs (around_in o) (length cs)) p.body s) (tt, tt)
    (anything_own cs (around_in o) (length cs) p.body s)

items_own : (item : ProgramItem) (items : List ProgramItem) (cs : List Callee) (o : Outside) (f : Frame)
    → IsOwn 0 [] (items_code item items cs o f)
items_own item [] cs o f = last_item_own item cs (weighed item o) f
items_own item (next ∷ items) cs o f =
    items_own next items (callable item (length f.homes) cs) (after_item item o) (framed item o f)

own_if : (n : ℕ) (code : Option Code) (c : Code) → code ≡ Some c → IsOwn n [] code → AreOwn n c.labels [] c.pieces
own_if n code c is own = subst (λ (o : Option Code). IsOwn n [] o) is own

pub processes_are_own : ProcessesAreOwn
processes_are_own cs a count p s c is =
    own_if s.label (process_code (where_called cs a count) p s) c is (anything_own cs a count p s)

pub program_own : (items : List ProgramItem) (c : Code) → code_of items ≡ Some c → AreOwn 0 c.labels [] c.pieces
program_own [] c is = absurd (cc)
program_own (item ∷ items) c is =
    own_if 0 (items_code item items [] outermost no_frame) c is (items_own item items [] outermost no_frame)
