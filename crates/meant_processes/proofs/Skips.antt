-- What the choices of an IF rest on: TRUE holds, and a process that does nothing leaves the environment.
use Rattle.std.proofs.Common.{◌≡◌, true, List, Option, Some, refl, ap, ◌∙◌}
use Rattle.std.proofs.lemmas.Bool.{and_parts}
use Rattle.occam_layout.specs.declared.mark.Mark.TheVariants as mark
use Rattle.occam_parser.specs.Terminals.{Mark, Terminal}
use Rattle.occam_parser.specs.Expressions.{Alone, Bracketed, Expression, Truth}
use Rattle.occam_parser.specs.Lines.{Action, Skip, block_word}
use Rattle.occam_parser.specs.Blocks.{Act, Block, Component, Components, Construct, Does, Further, NoComponent, Part}
use Rattle.occam_parser.specs.Blocks.{Plain, Process}
use Rattle.scalar_ranges.specs.Environments.{Environment}
use Rattle.scalar_ranges.specs.Values.{truth_of}
use Rattle.program_uses.specs.Indices.{is_seq}
use Rattle.program_meaning.specs.Links.{Port}
use Rattle.program_meaning.specs.Doing.{Doing, Leaves, acting, doing, doing_by_word, doing_component, doing_components}
use Rattle.program_meaning.specs.Doing.{doing_construct, doing_first, doing_then}
use Rattle.code_generator.specs.Processes.{all_do_nothing, component_is_skip, does_nothing, is_skip, is_skip_action}
use Rattle.code_generator.specs.Processes.{is_true}

pub true_holds : (env : Environment) (e : Expression) → is_true e ≡ true → truth_of env e ≡ Some true
true_holds env (Alone (Truth holds)) is = ap Some is
true_holds env (Alone (Bracketed e)) is = true_holds env e is
true_holds env e is = absurd (cc is)

skip_acts : (ports : List (Option Port)) (env : Environment) (action : Action) → is_skip_action action ≡ true
    → acting ports action env ≡ Leaves env
skip_acts ports env Skip is = refl
skip_acts ports env action is = absurd (cc is)

-- a block that is a SEQ
all_by_word : (word : Terminal) (all : Doing) (first : Option Doing) (t : Doing) → is_seq word ≡ true → all ≡ t
    → doing_by_word word all first ≡ t
all_by_word (Mark mark.Seq) all first t is same = same
all_by_word word all first t is same = absurd (cc is)

module _ (ports : List (Option Port)) (env : Environment) where
  mutual
    process_leaves : (p : Process) → is_skip p ≡ true → doing ports p env ≡ Leaves env
    process_leaves (Does line c) is = nothing_leaves c is
    process_leaves p is = absurd (cc is)

    nothing_leaves : (c : Construct) → does_nothing c ≡ true → doing_construct ports c env ≡ Leaves env
    nothing_leaves (Act action) is = skip_acts ports env action is
    nothing_leaves (Block kind cs) is =
        let both = and_parts (is_seq (block_word kind)) (all_do_nothing cs) is in
        all_by_word (block_word kind) (doing_components ports cs env) (doing_first ports cs env) (Leaves env) both.0
        (all_leave cs both.1)
    nothing_leaves c is = absurd (cc is)

    all_leave : {part : Part} (cs : Components part) → all_do_nothing cs ≡ true
        → doing_components ports cs env ≡ Leaves env
    all_leave NoComponent is = refl
    all_leave (Further cs c) is =
        let both = and_parts (all_do_nothing cs) (component_is_skip c) is in
        ap (λ t. doing_then t (doing_component ports c)) (all_leave cs both.0) ∙ one_leaves c both.1

    one_leaves : {part : Part} (c : Component part) → component_is_skip c ≡ true
        → doing_component ports c env ≡ Leaves env
    one_leaves (Plain p) is = process_leaves p is
    one_leaves c is = absurd (cc is)

pub skips_leave : (ports : List (Option Port)) (env : Environment) (p : Process) → is_skip p ≡ true
    → doing ports p env ≡ Leaves env
skips_leave ports env p is = process_leaves ports env p is
