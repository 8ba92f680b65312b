-- How the program's components are seen.
use Rattle.std.proofs.Common.{◌≡◌, ℕ, ◌<◌, List, [], ◌∷◌, ◌++◌, length, map, fold, Option, Some}
use Rattle.std.proofs.Common.{Result, Ok, Err, refl, sym, ap, subst, arith, ◌∙◌, rules, Vec, Global}
use Rattle.std.specs.Borrow.{Bor}
use Rattle.std.proofs.lemmas.List.{length-map, map_push}
use Rattle.std.proofs.lemmas.Simd.{map-map}
use Rattle.occam_layout.specs.declared.token.Line.{Line}
use Rattle.occam_parser.specs.declared.fault.Refusal.{Refusal}
use Rattle.occam_parser.specs.declared.head.BlockKind.{BlockKind}
use Rattle.occam_parser.specs.declared.head.BlockKind.TheVariants as block
use Rattle.occam_parser.specs.declared.block.Components.{Components as CodeComponents}
use Rattle.occam_parser.specs.declared.tree.Replicator.{Replicator as tree_replicator}
use Rattle.occam_parser.specs.declared.tree.Process.{Process as CodeProcess}
use Rattle.occam_parser.specs.declared.tree.Body.{Body as CodeBody, Seq as InSeq, Par as InPar, If as InIf}
use Rattle.occam_parser.specs.declared.tree.Body.{Alt as InAlt, the_lemmas}
use Rattle.occam_parser.specs.declared.tree.Choice.{Choice as CodeChoice}
use Rattle.occam_parser.specs.declared.tree.Branch.{Branch as CodeBranch}
use Rattle.occam_parser.specs.declared.tree.Action.{Action as CodeAction}
use Rattle.occam_parser.specs.declared.tree.Construct.{Action, Seq, Par, If, Alt, Replicated}
use Rattle.occam_parser.specs.declared.tree.Body.TheViews.{roll-Choice, roll-Branch}
use Rattle.occam_parser.specs.declared.tree.Expr.{Expr}
use Rattle.occam_parser.specs.declared.tree.Guard.{Guard as CodeGuard}
use Rattle.occam_parser.specs.Views.{expression_of}
use Rattle.occam_parser.specs.LineViews.{replicator_of, action_of, guard_of, start_of}
use Rattle.occam_parser.specs.Lines.{Declaration}
use Rattle.occam_parser.specs.declared.head.Start as start_type
use Rattle.occam_parser.specs.LineFaults.{Pushes}
use Rattle.occam_parser.specs.Blocks.{Row, row_of, rows_of, Block, Replicated as Repeats, Body, One, Part, part_of}
use Rattle.occam_parser.specs.Blocks.{Components, NoComponent, Further, Component, Plain, Chosen, Guarded, Act}
use Rattle.occam_parser.specs.BlockReading.{Beginning}
use Rattle.occam_parser.specs.BlockViews.{all_of, process_of, construct_of, body_of, choice_of, branch_of}
use Rattle.occam_parser.specs.BlockViews.{all_processes, all_choices, all_branches, components_in, HasOneMore, Adds}

fold_push : {part : Part} (found : Components part) (cs : List (Component part)) (c : Component part)
    → fold Further found (cs ++ c ∷ []) ≡ Further (fold Further found cs) c
fold_push found [] c = refl
fold_push found (b ∷ cs) c = fold_push (Further found b) cs c

pub all_push : {part : Part} {A : Type 0} (f : A → Component part) (found pushed : List A) (x : A)
    → pushed ≡ found ++ x ∷ [] → all_of (map f pushed) ≡ Further (all_of (map f found)) (f x)
all_push f found pushed x e = ap (λ xs. all_of (map f xs)) e ∙ ap all_of (map_push f found x) ∙ fold_push NoComponent
    (map f found) (f x)

-- ---- values of the program

seq_view : (v : Vec CodeProcess Global) → construct_of (Seq v) ≡ Block block.Seq
    (all_of (map Plain (map process_of v.items)))
seq_view v = search (rules, the_lemmas)

par_view : (v : Vec CodeProcess Global) → construct_of (Par v) ≡ Block block.Par
    (all_of (map Plain (map process_of v.items)))
par_view v = search (rules, the_lemmas)

pub view-Seq : (v : Vec CodeProcess Global) → construct_of (Seq v) ≡ Block block.Seq (all_processes v.items)
view-Seq v = seq_view v ∙ ap (λ cs. Block block.Seq (all_of cs)) (map-map Plain process_of v.items)

pub view-Par : (v : Vec CodeProcess Global) → construct_of (Par v) ≡ Block block.Par (all_processes v.items)
view-Par v = par_view v ∙ ap (λ cs. Block block.Par (all_of cs)) (map-map Plain process_of v.items)

pub view-If : (v : Vec CodeChoice Global) → construct_of (If v) ≡ Block block.If (all_choices v.items)
view-If v = search (rules, the_lemmas)

pub view-Alt : (v : Vec CodeBranch Global) → construct_of (Alt v) ≡ Block block.Alt (all_branches v.items)
view-Alt v = search (rules, the_lemmas)

pub view-Replicated : (r : tree_replicator) (b : CodeBody) → construct_of (Replicated r b) ≡ Repeats (replicator_of r)
    (body_of b)
view-Replicated r b = search (rules, the_lemmas)

pub view-Body-Seq : (p : CodeProcess) → body_of (InSeq p) ≡ One block.Seq (Plain (process_of p))
view-Body-Seq p = search (rules, the_lemmas)

pub view-Body-Par : (p : CodeProcess) → body_of (InPar p) ≡ One block.Par (Plain (process_of p))
view-Body-Par p = search (rules, the_lemmas)

pub view-Body-If : (c : CodeChoice) → body_of (InIf c) ≡ One block.If (choice_of c)
view-Body-If c = search (rules, the_lemmas)

pub view-Body-Alt : (b : CodeBranch) → body_of (InAlt b) ≡ One block.Alt (branch_of b)
view-Body-Alt b = search (rules, the_lemmas)

pub rows_less : (ts us : List Line) → length ts < length us → length (rows_of ts) < length (rows_of us)
rows_less ts us h = omega (arith, length-map ts row_of, length-map us row_of)

pub view-Action : (a : CodeAction) → construct_of (Action a) ≡ Act (action_of a)
view-Action a = search (rules, the_lemmas)

-- what an opening with this start is read as
abbrev pub started : List Declaration → ℕ → start_type.Start → List Row → Option (Beginning × List Row)
started ds line s rest = Some (record { declarations = ds; line = line; start = start_of s }, rest)

pub view-Choice : (line : ℕ) (e : Expr) (p : CodeProcess)
    → choice_of (roll-Choice (record { line = line; condition = e; process = p })) ≡ Chosen line (expression_of e)
    (process_of p)
view-Choice line e p = search (rules, the_lemmas)

pub view-Branch : (line : ℕ) (g : CodeGuard) (p : CodeProcess)
    → branch_of (roll-Branch (record { line = line; guard = g; process = p })) ≡ Guarded line (guard_of g)
    (process_of p)
view-Branch line g p = search (rules, the_lemmas)

-- ---- a component more

pushed_of : {A : Type 0} (kind : BlockKind) (view : A → Component (part_of kind)) (x : CodeBody) (item : A)
    (rest : Bor (List Line)) (before after : List A) (old new : CodeComponents)
    (answer : Result (Bor (List Line)) Refusal) → body_of x ≡ One kind (view item)
    → components_in kind old ≡ all_of (map view before) → components_in kind new ≡ all_of (map view after)
    → Pushes (Ok (item, rest)) before after answer → Adds (Ok (x, rest)) old new answer
pushed_of kind view x item rest before after old new (Ok behind) is were are pushes = (
  subst (λ (b : Body). HasOneMore b old new) (sym is)
      (are ∙ all_push view before after item pushes.0 ∙ ap (λ cs. Further cs (view item)) (sym were)),
  pushes.1,
)
pushed_of kind view x item rest before after old new (Err e) is were are pushes = pushes

-- a component that was read, and is pushed to the list of its kind, is added
pub adds_of : {A : Type 0} {read : Result (CodeBody × Bor (List Line)) Refusal} {component x : CodeBody} {item : A}
    {rest : Bor (List Line)} (kind : BlockKind) (view : A → Component (part_of kind)) (before after : List A)
    (old new : CodeComponents) (answer : Result (Bor (List Line)) Refusal) → read ≡ Ok (component, rest)
    → component ≡ x → body_of x ≡ One kind (view item) → components_in kind old ≡ all_of (map view before)
    → components_in kind new ≡ all_of (map view after) → Pushes (Ok (item, rest)) before after answer
    → Adds read old new answer
adds_of {A} {read} {component} {x} {item} {rest} kind view before after old new answer was is seen were are pushes =
    subst (λ (r : Result (CodeBody × Bor (List Line)) Refusal). Adds r old new answer)
    (sym (was ∙ ap (λ (b : CodeBody). Ok (b, rest)) is))
    (pushed_of kind view x item rest before after old new answer seen were are pushes)
