-- If a part of a process is too much, so is the process: what `proofs/Exceeding` says, for each construct.
use Rattle.std.proofs.Common.{◌≡◌, ◌≢◌, ℕ, ◌+◌, ◌<◌, List, [], ◌∷◌, ◌++◌, length, map, take, get_or, Option}
use Rattle.std.proofs.Common.{Bor, sym, ap, subst, arith, add-one}
use Rattle.std.proofs.lemmas.List.{take_all, get_or_default}
use Rattle.occam_layout.specs.declared.mark.Mark.TheVariants as mark
use Rattle.occam_parser.specs.declared.tree.Choice.{Choice}
use Rattle.occam_parser.specs.Terminals.{Mark}
use Rattle.occam_parser.specs.Views.{expression_of}
use Rattle.occam_parser.specs.Lines.{Declaration}
use Rattle.occam_parser.specs.Blocks.{Process, Does, Construct, Part, Choices, Components, Component, Chosen}
use Rattle.occam_parser.specs.BlockReading.{with_declarations}
use Rattle.occam_parser.specs.BlockViews.{all_of, process_of, choice_of, all_choices}
use Rattle.occam_parser.proofs.SeenBlocks.{all_push}
use Rattle.scalar_ranges.specs.declared.scope.Scope as code_scope
use Rattle.scalar_ranges.specs.Entries.{Meaning}
use Rattle.scalar_ranges.specs.Moves.{Known, begin}
use Rattle.scalar_ranges.specs.Scopes.{known_of}
use Rattle.program_uses.specs.Declaring.{add}
use Rattle.program_uses.specs.Indices.{Repeats, index_in}
use Rattle.program_uses.specs.InTurn.{in_turn}
use Rattle.program_uses.proofs.Adding.{taken_one}
use Rattle.usage_checks.specs.AfterProcesses.{after_components, after_component, chosen}
use Rattle.usage_checks.specs.NameRules.{with_entries}
use Rattle.code_pieces.specs.Pieces.{Piece, Jump, Code, then_code, closed_by}
use Rattle.line_pieces.specs.Actions.{test_code}
use Rattle.line_pieces.specs.Declarations.{Frame}
use Rattle.line_pieces.specs.FrameViews.{frame_seen}
use Rattle.code_generator.specs.declared.calling.Surroundings as calling
use Rattle.code_generator.specs.declared.choices.IfEnding as code_ending
use Rattle.code_generator.specs.declared.choices.IfEnding.TheVariants as if_ending
use Rattle.code_generator.specs.declared.limits.Limits.{Limits}
use Rattle.code_generator.specs.declared.processes.ProcessWriter.{ProcessWriter}
use Rattle.code_generator.specs.CallViews.{surroundings_of}
use Rattle.code_generator.specs.Processes.{Site, Surroundings, with_declaration, at_place, row_of, is_true}
use Rattle.code_generator.specs.Processes.{taken_code, tested_code, open_code, all_tested, ending_code, choices_code}
use Rattle.code_generator.specs.Processes.{turn_begun, process_code, construct_code, components_code, component_code}
use Rattle.code_generator.specs.Processes.{placed}
use Rattle.code_generator.specs.Written.{site_of, DeclaresAll, declarations_code, IsTooMuch, Exceeds, Writes}
use Rattle.code_generator.specs.Written.{WritesSeq, choice_as, WritesAs, tested_at, WritesTested, ending_at}
use Rattle.code_generator.specs.Written.{placed_ending, AreEnded, choices_at, after_if, if_at, placed_turns}
use Rattle.code_generator.specs.Written.{turns_tested, WritesSomeTurns, turns_at}
use Rattle.code_generator.proofs.ChoicesWritten.{choice_seen, ending_is, TakenLeft, ChoicesLeft}
use Rattle.code_generator.proofs.Exceeding.{OneMore, exceeds_more, exceeds_before, exceeds_closed, exceeds_behind}
use Rattle.code_generator.proofs.Exceeding.{exceeds_first, exceeds_second, exceeds_all, much_behind}
use Rattle.code_generator.proofs.PartsWritten.{code_behind, site_after}
use Rattle.code_generator.proofs.TurnsWritten.{turn_entered, ends_somehow, last_untested}

-- ---- a process

pub exceeds_process : (l : Limits) {s t : ProcessWriter} (around : calling.Surroundings) (ds : List Declaration)
    (line : ℕ) (c : Construct) (p : Process) → with_declarations ds (Does line c) ≡ p → DeclaresAll s t ds
    → Exceeds l t.listing (construct_code (surroundings_of around) line c (site_of t))
    → Exceeds l s.listing (process_code (surroundings_of around) p (site_of s))
exceeds_process l {s} {t} around ds line c p is declares h =
    let here = surroundings_of around in
    let final = in_turn with_declaration ds (site_of s) in
    subst (λ q. Exceeds l s.listing (process_code here q (site_of s))) is
    (subst (λ o. Exceeds l s.listing o) (sym (code_behind here ds line c (site_of s)))
    (exceeds_before l (construct_code here line c final) s.listing t.listing (declarations_code ds (site_of s))
    declares.code (subst (λ z. Exceeds l t.listing (construct_code here line c z)) declares.site h)))

-- what it declares
pub exceeds_declaring : (l : Limits) (s : ProcessWriter) (here : Surroundings) (ds : List Declaration) (line : ℕ)
    (c : Construct) (p : Process) → with_declarations ds (Does line c) ≡ p
    → IsTooMuch l s.listing (declarations_code ds (site_of s)) → Exceeds l s.listing (process_code here p (site_of s))
exceeds_declaring l s here ds line c p is h =
    subst (λ q. Exceeds l s.listing (process_code here q (site_of s))) is
    (subst (λ o. Exceeds l s.listing o) (sym (code_behind here ds line c (site_of s)))
    (exceeds_more l (construct_code here line c (in_turn with_declaration ds (site_of s))) s.listing
    (declarations_code ds (site_of s)) h))

-- ---- components of a SEQ

abbrev seq_upto : {part : Part} {A : Type 0} → Surroundings → (A → Component part) → List A → Site → ℕ → Option Code
seq_upto here f xs z k = components_code here (all_of (map f (take k xs))) z

seq_split : {part : Part} {A : Type 0} (here : Surroundings) (f : A → Component part) (xs : List A) (z : Site) (k : ℕ)
    (x : A) → k < length xs → x ≡ get_or xs k x → seq_upto here f xs z (k + 1)
    ≡ then_code (seq_upto here f xs z k) (λ label. component_code here (f x)
    (at_place (after_components here.around (Mark mark.Seq) (all_of (map f (take k xs))) z.known) label z))
seq_split here f xs z k x h is =
    ap (λ cs. components_code here cs z) (all_push f (take k xs) (take (k + 1) xs) x (taken_one xs k x x h is))

-- an element is itself at any default
itself : {A : Type 0} (xs : List A) (k : ℕ) (x : A) → k < length xs
    → get_or xs k x ≡ get_or xs k (get_or xs k x)
itself xs k x h = get_or_default xs k x (get_or xs k x) h

pub exceeds_seq : {part : Part} {A : Type 0} (l : Limits) (around : calling.Surroundings) (f : A → Component part)
    (xs : List A) (i : ℕ) (x : A) {s t : ProcessWriter} → i < length xs → x ≡ get_or xs i x
    → WritesSeq s t around (all_of (map f (take i xs)))
    → Exceeds l t.listing (component_code (surroundings_of around) (f x) (site_of t))
    → Exceeds l s.listing (components_code (surroundings_of around) (all_of (map f xs)) (site_of s))
exceeds_seq l around f xs i x {s} {t} h is first one =
    let here = surroundings_of around in
    let z = site_of s in
    let upto = seq_upto here f xs z in
    let steps : (k : ℕ) → k < length xs → OneMore upto k =
    λ k below. (_, seq_split here f xs z k (get_or xs k x) below (itself xs k x below)) in
    let more : Exceeds l s.listing (upto (i + 1)) =
    subst (λ o. Exceeds l s.listing o) (sym (seq_split here f xs z i x h is))
    (exceeds_second l (upto i) (λ label. component_code here (f x)
    (at_place (after_components here.around (Mark mark.Seq) (all_of (map f (take i xs))) z.known) label z)) s.listing
    t.listing t.label first.code
    (subst (λ y. Exceeds l t.listing (component_code here (f x) y)) (site_after first) one)) in
    subst (λ ys. Exceeds l s.listing (components_code here (all_of (map f ys)) z))
    (take_all (length xs) xs (omega arith))
    (exceeds_all l upto (length xs) (i + 1) s.listing steps (omega arith) more)

-- ---- choices of an IF

-- what comes after some code, in the same frame
exceeds_then : (l : Limits) (code : Option Code) (next : Frame → ℕ → Option Code) {s t : ProcessWriter} {known : Known}
    → Writes s t code known → Exceeds l t.listing (next (frame_seen t.frame) t.label)
    → Exceeds l s.listing (then_code code (next (frame_seen s.frame)))
exceeds_then l code next {s} {t} first h =
    exceeds_second l code (next (frame_seen s.frame)) s.listing t.listing t.label first.code
    (subst (λ f. Exceeds l t.listing (next f t.label)) first.frame h)

abbrev choices_upto : {A : Type 0} → Surroundings → ℕ → (A → Component Choices) → List A → Site → ℕ → Option Code
choices_upto here end f xs z k = tested_at here end (all_of (map f (take k xs))) z

-- a choice comes after those before it
choices_split : {A : Type 0} (here : Surroundings) (end : ℕ) (f : A → Component Choices) (xs : List A) (z : Site)
    (k : ℕ) (x : A) → k < length xs → x ≡ get_or xs k x → choices_upto here end f xs z (k + 1)
    ≡ then_code (choices_upto here end f xs z k) (tested_code end z.frame
    (placed here (f x) (after_components here.around (Mark mark.If) (all_of (map f (take k xs))) z.known)))
choices_split here end f xs z k x h is =
    ap (λ cs. tested_at here end cs z) (all_push f (take k xs) (take (k + 1) xs) x (taken_one xs k x x h is))

-- what is too much of the choices that are tested is so of all
pub exceeds_tested_first : (l : Limits) (around : calling.Surroundings) (end : ℕ) (cs : Components Choices)
    (xs : List Choice) (x : code_ending.IfEnding) (s : ProcessWriter) → AreEnded cs xs x
    → Exceeds l s.listing (tested_at (surroundings_of around) end (all_choices xs) (site_of s))
    → Exceeds l s.listing (choices_at (surroundings_of around) end cs (site_of s))
exceeds_tested_first l around end cs xs x s are h =
    let here = surroundings_of around in
    let z = site_of s in
    let k = after_components here.around (Mark mark.If) (all_choices xs) z.known in
    subst (λ x. Exceeds l s.listing (choices_code end z.frame x z.label)) (sym (are.choices here z.known))
    (exceeds_first l (tested_at here end (all_choices xs) z) (ending_code end z.frame (placed_ending here x k))
    s.listing h)

pub exceeds_choices : (l : Limits) (around : calling.Surroundings) (end : ℕ) (cs : Components Choices)
    (xs : List Choice) (y : code_ending.IfEnding) (i : ℕ) (x : Choice) {s t : ProcessWriter} → AreEnded cs xs y
    → i < length xs → x ≡ get_or xs i x → WritesTested s t around end (all_choices (take i xs))
    → Exceeds l t.listing (choice_as (tested_code end) (surroundings_of around) (choice_of x) (site_of t))
    → Exceeds l s.listing (choices_at (surroundings_of around) end cs (site_of s))
exceeds_choices l around end cs xs y i x {s} {t} are h is first one =
    let here = surroundings_of around in
    let z = site_of s in
    let upto = choices_upto here end choice_of xs z in
    let steps : (k : ℕ) → k < length xs → OneMore upto k =
    λ k below. (_, choices_split here end choice_of xs z k (get_or xs k x) below (itself xs k x below)) in
    let k = after_components here.around (Mark mark.If) (all_choices (take i xs)) z.known in
    let more : Exceeds l s.listing (upto (i + 1)) =
    subst (λ o. Exceeds l s.listing o) (sym (choices_split here end choice_of xs z i x h is))
    (exceeds_then l (upto i) (λ g label. tested_code end g (placed here (choice_of x) k) label) first
    (subst (λ k. Exceeds l t.listing (tested_code end (frame_seen t.frame) (placed here (choice_of x) k) t.label))
    first.known one)) in
    exceeds_tested_first l around end cs xs y s are
    (subst (λ ys. Exceeds l s.listing (tested_at here end (all_choices ys) z)) (take_all (length xs) xs (omega arith))
    (exceeds_all l upto (length xs) (i + 1) s.listing steps (omega arith) more))

pub exceeds_ending : (l : Limits) (around : calling.Surroundings) (end : ℕ) (cs : Components Choices)
    (xs : List Choice) (x : code_ending.IfEnding) {s t : ProcessWriter} → AreEnded cs xs x
    → WritesTested s t around end (all_choices xs)
    → Exceeds l t.listing (ending_at (surroundings_of around) end x (site_of t))
    → Exceeds l s.listing (choices_at (surroundings_of around) end cs (site_of s))
exceeds_ending l around end cs xs x {s} {t} are first h =
    let here = surroundings_of around in
    let z = site_of s in
    let k = after_components here.around (Mark mark.If) (all_choices xs) z.known in
    subst (λ x. Exceeds l s.listing (choices_code end z.frame x z.label)) (sym (are.choices here z.known))
    (exceeds_then l (tested_at here end (all_choices xs) z)
    (λ g label. ending_code end g (placed_ending here x k) label) first
    (subst (λ k. Exceeds l t.listing (ending_code end (frame_seen t.frame) (placed_ending here x k) t.label))
    first.known (subst (λ o. Exceeds l t.listing o) (ending_is here end x (site_of t) are.skips) h)))

-- an open choice
pub exceeds_opens : (l : Limits) (around : calling.Surroundings) (end : ℕ) (opened last : Bor Choice)
    (s : ProcessWriter)
    → Exceeds l s.listing (choice_as (open_code end) (surroundings_of around) (choice_of opened.now) (site_of s))
    → Exceeds l s.listing (ending_at (surroundings_of around) end (if_ending.Opens opened last) (site_of s))
exceeds_opens l around end opened last s h =
    let here = surroundings_of around in
    let z = site_of s in
    exceeds_first l (choice_as (open_code end) here (choice_of opened.now) z)
    (λ label. choice_as taken_code here (choice_of last.now)
    (at_place (after_component here.around (Mark mark.If) (choice_of opened.now) z.known) label z)) s.listing h

-- the one after it
pub exceeds_passing : (l : Limits) (around : calling.Surroundings) (end : ℕ) (opened last : Bor Choice)
    {s t : ProcessWriter} → WritesAs s t around (open_code end) (choice_of opened.now)
    → Exceeds l t.listing (choice_as taken_code (surroundings_of around) (choice_of last.now) (site_of t))
    → Exceeds l s.listing (ending_at (surroundings_of around) end (if_ending.Opens opened last) (site_of s))
exceeds_passing l around end opened last {s} {t} first h =
    let here = surroundings_of around in
    let z = site_of s in
    let k = after_component here.around (Mark mark.If) (choice_of opened.now) z.known in
    exceeds_then l (choice_as (open_code end) here (choice_of opened.now) z)
    (λ g label. taken_code g (placed here (choice_of last.now) k) label) first
    (subst (λ k. Exceeds l t.listing (taken_code (frame_seen t.frame) (placed here (choice_of last.now) k) t.label))
    first.known h)

-- a choice without its test
pub exceeds_taken : (l : Limits) (s : ProcessWriter) (here : Surroundings) (x : Choice) (inner : code_scope.Scope)
    → known_of inner ≡ chosen (expression_of x.condition) (known_of s.scope)
    → Exceeds l s.listing (process_code here (process_of x.process) (site_of (record s { scope = inner })))
    → Exceeds l s.listing (choice_as taken_code here (choice_of x) (site_of s))
exceeds_taken l s here x inner narrowed h =
    subst (λ c. Exceeds l s.listing (choice_as taken_code here c (site_of s))) (choice_seen x)
    (subst (λ k. Exceeds l s.listing (process_code here (process_of x.process) (at_place k s.label (site_of s))))
    narrowed h)

-- the process of a choice with its test
pub exceeds_tested : (l : Limits) (here : Surroundings) (end : ℕ) (x : Choice) (s tested : ProcessWriter)
    → tested.listing ≡ s.listing ++ test_code (site_of s).frame.homes (site_of s).known.entries s.frame.top
    (expression_of x.condition) s.label
    → site_of tested ≡ at_place (known_of s.scope) (s.label + 1) (site_of s)
    → Exceeds l tested.listing (choice_as taken_code here (choice_of x) (site_of tested))
    → Exceeds l s.listing (choice_as (tested_code end) here (choice_of x) (site_of s))
exceeds_tested l here end x s tested test place h =
    let z = site_of s in
    let e = expression_of x.condition in
    let seen = Chosen x.line e (process_of x.process) in
    let c = placed here seen z.known in
    let rest = Jump end ∷ row_of s.label z.frame c.after ∷ [] in
    let process = taken_code z.frame c (z.label + 1) in
    subst (λ d. Exceeds l s.listing (choice_as (tested_code end) here d z)) (choice_seen x)
    (exceeds_before l (closed_by rest process) s.listing tested.listing
    (test_code z.frame.homes z.known.entries z.frame.top e z.label) test
    (exceeds_closed l process tested.listing rest
    (subst (λ (y : Component Choices × Site). Exceeds l tested.listing (choice_as taken_code here y.0 y.1))
    (λ i. (sym (choice_seen x) i, place i)) h)))

-- the row after it
pub exceeds_other : (l : Limits) (around : calling.Surroundings) (end : ℕ) (x : Choice)
    (s tested within : ProcessWriter) (jumped : List Piece)
    → tested.listing ≡ s.listing ++ test_code (site_of s).frame.homes (site_of s).known.entries s.frame.top
    (expression_of x.condition) s.label
    → TakenLeft around (choice_of x) s tested within → jumped ≡ within.listing ++ Jump end ∷ []
    → IsTooMuch l jumped (row_of s.label (frame_seen within.frame) (known_of within.scope) ∷ [])
    → Exceeds l s.listing (choice_as (tested_code end) (surroundings_of around) (choice_of x) (site_of s))
exceeds_other l around end x s tested within jumped test taken jumps h =
    let here = surroundings_of around in
    let z = site_of s in
    let e = expression_of x.condition in
    let c = placed here (Chosen x.line e (process_of x.process)) z.known in
    let process = taken_code z.frame c (z.label + 1) in
    let rest = Jump end ∷ row_of s.label z.frame c.after ∷ [] in
    let left = subst (λ d. TakenLeft around d s tested within) (sym (choice_seen x)) taken in
    subst (λ d. Exceeds l s.listing (choice_as (tested_code end) here d z)) (choice_seen x)
    (exceeds_before l (closed_by rest process) s.listing tested.listing
    (test_code z.frame.homes z.known.entries z.frame.top e z.label) test
    (exceeds_behind l process tested.listing within.listing rest within.label left.code
    (much_behind l within.listing jumped (Jump end ∷ []) (row_of s.label z.frame c.after ∷ []) jumps
    (subst (λ (y : Frame × Known). IsTooMuch l jumped (row_of s.label y.0 y.1 ∷ []))
    (λ i. (left.frame i, left.known i)) h))))

-- a choice whose test jumps to the end of the IF
pub exceeds_open : (l : Limits) (here : Surroundings) (end : ℕ) (x : Choice) (s tested : ProcessWriter)
    → tested.listing ≡ s.listing ++ test_code (site_of s).frame.homes (site_of s).known.entries s.frame.top
    (expression_of x.condition) end
    → site_of tested ≡ site_of s
    → Exceeds l tested.listing (choice_as taken_code here (choice_of x) (site_of tested))
    → Exceeds l s.listing (choice_as (open_code end) here (choice_of x) (site_of s))
exceeds_open l here end x s tested test place h =
    let z = site_of s in
    let e = expression_of x.condition in
    subst (λ d. Exceeds l s.listing (choice_as (open_code end) here d z)) (choice_seen x)
    (exceeds_before l (choice_as taken_code here (Chosen x.line e (process_of x.process)) z) s.listing tested.listing
    (test_code z.frame.homes z.known.entries z.frame.top e end) test
    (subst (λ (y : Component Choices × Site). Exceeds l tested.listing (choice_as taken_code here y.0 y.1))
    (λ i. (sym (choice_seen x) i, place i)) h))

-- ---- an IF

pub exceeds_if : {part : Part} (l : Limits) (here : Surroundings) (cs : Components part) (s begun : ProcessWriter)
    → begun.listing ≡ s.listing → site_of begun ≡ at_place (begin (known_of s.scope)) (s.label + 1) (site_of s)
    → Exceeds l begun.listing (choices_at here s.label cs (site_of begun))
    → Exceeds l s.listing (if_at here cs (site_of s))
exceeds_if l here cs s begun same place h =
    let z = site_of s in
    exceeds_closed l (choices_at here s.label cs (at_place (begin z.known) (s.label + 1) z)) s.listing
    (row_of s.label z.frame (after_if here.around cs z.known) ∷ [])
    (subst (λ (v : List Piece × Site). Exceeds l v.0 (choices_at here s.label cs v.1)) (λ i. (same i, place i)) h)

pub exceeds_if_end : {part : Part} (l : Limits) (around : calling.Surroundings) (cs : Components part)
    (s within : ProcessWriter) (ended : code_scope.Scope) → ChoicesLeft around cs s within ended
    → IsTooMuch l within.listing (row_of s.label (frame_seen within.frame) (known_of ended) ∷ [])
    → Exceeds l s.listing (if_at (surroundings_of around) cs (site_of s))
exceeds_if_end l around cs s within ended x h =
    let here = surroundings_of around in
    let z = site_of s in
    exceeds_behind l (choices_at here s.label cs (at_place (begin z.known) (s.label + 1) z)) s.listing within.listing
    (row_of s.label z.frame (after_if here.around cs z.known) ∷ []) within.label x.code
    (subst (λ (y : Frame × Known). IsTooMuch l within.listing (row_of s.label y.0 y.1 ∷ []))
    (λ i. (x.frame i, x.known i)) h)

-- ---- choices under a replicator

abbrev turns_upto : Surroundings → ℕ → List ℕ → Repeats → Component Choices → Site → ℕ → Option Code
turns_upto here end name repeats c z k =
    all_tested end z.frame (placed_turns here name c repeats z.known k) z.label

turns_split : (here : Surroundings) (end : ℕ) (name : List ℕ) (repeats : Repeats) (c : Component Choices) (z : Site)
    (k : ℕ) → turns_upto here end name repeats c z (k + 1)
    ≡ then_code (turns_upto here end name repeats c z k) (tested_code end z.frame
    (placed here c (turn_begun here.around (Mark mark.If) name c repeats z.known k)))
turns_split here end name repeats c z k = ap (turns_upto here end name repeats c z) (add-one k)

-- what is too much of the turns that are tested is so of all
pub exceeds_turns : (l : Limits) (around : calling.Surroundings) (end : ℕ) (name : List ℕ) (repeats : Repeats)
    (x : Choice) (count tested n : ℕ) (m : Meaning) {s t : ProcessWriter} (scope : code_scope.Scope)
    → tested ≡ turns_tested count (is_true (expression_of x.condition)) → n < tested → m ≡ index_in repeats n
    → known_of scope ≡ with_entries (add name m) (known_of t.scope)
    → WritesSomeTurns s t around end name repeats (choice_of x) n
    → Exceeds l t.listing (choice_as (tested_code end) (surroundings_of around) (choice_of x)
    (site_of (record t { scope = scope })))
    → Exceeds l s.listing (turns_at (surroundings_of around) end name (choice_of x) repeats count (site_of s))
exceeds_turns l around end name repeats x count tested n m {s} {t} scope found h means enters first one =
    let here = surroundings_of around in
    let z = site_of s in
    let c = choice_of x in
    let upto = turns_upto here end name repeats c z in
    let begun = turn_entered here.around name repeats c n m z.known (known_of t.scope) (known_of scope) means enters
    first.known in
    let steps : (k : ℕ) → k < tested → OneMore upto k = λ k below. (_, turns_split here end name repeats c z k) in
    let more : Exceeds l s.listing (upto (n + 1)) =
    subst (λ o. Exceeds l s.listing o) (sym (turns_split here end name repeats c z n))
    (exceeds_then l (upto n)
    (λ g label. tested_code end g
    (placed here c (turn_begun here.around (Mark mark.If) name c repeats z.known n)) label) first
    (subst (λ k. Exceeds l t.listing (tested_code end (frame_seen t.frame) (placed here c k) t.label)) begun one)) in
    let ends = ends_somehow here name x.line (expression_of x.condition) (process_of x.process) c repeats z.known count
    tested (choice_seen x) found in
    subst (λ x. Exceeds l s.listing (choices_code end z.frame x z.label)) (sym ends.1)
    (exceeds_first l (upto tested) (ending_code end z.frame ends.0) s.listing
    (exceeds_all l upto tested (n + 1) s.listing steps (omega arith) more))

-- the last turn, where it has no test
pub exceeds_last_turn : (l : Limits) (around : calling.Surroundings) (end : ℕ) (name : List ℕ) (repeats : Repeats)
    (x : Choice) (count tested n : ℕ) (m : Meaning) {s t : ProcessWriter} (scope : code_scope.Scope)
    → tested ≡ turns_tested count (is_true (expression_of x.condition)) → tested ≢ count → n ≡ tested
    → m ≡ index_in repeats tested → known_of scope ≡ with_entries (add name m) (known_of t.scope)
    → WritesSomeTurns s t around end name repeats (choice_of x) n
    → Exceeds l t.listing (choice_as taken_code (surroundings_of around) (choice_of x)
    (site_of (record t { scope = scope })))
    → Exceeds l s.listing (turns_at (surroundings_of around) end name (choice_of x) repeats count (site_of s))
exceeds_last_turn l around end name repeats x count tested n m {s} {t} scope found some all means enters turns h =
    let here = surroundings_of around in
    let z = site_of s in
    let c = choice_of x in
    let first = subst (λ k. WritesSomeTurns s t around end name repeats c k) all turns in
    let begun = turn_entered here.around name repeats c tested m z.known (known_of t.scope) (known_of scope) means
    enters first.known in
    let last = turn_begun here.around (Mark mark.If) name c repeats z.known tested in
    subst (λ x. Exceeds l s.listing (choices_code end z.frame x z.label))
    (sym (last_untested here name x.line (expression_of x.condition) (process_of x.process) c repeats z.known count
    tested (choice_seen x) found some))
    (exceeds_then l (turns_upto here end name repeats c z tested) (λ g label. taken_code g (placed here c last) label)
    first
    (subst (λ k. Exceeds l t.listing (taken_code (frame_seen t.frame) (placed here c k) t.label)) begun h))
