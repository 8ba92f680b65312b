use Rattle.std.proofs.Common.{◌≡◌, List, [], ◌∷◌, ◌++◌, length, map, Err, arith, refl, sym, ap, subst}
use Rattle.std.proofs.Common.{◌∙◌}
use Rattle.std.proofs.lemmas.List.{map-append}
use Rattle.module_builder.specs.declared.fault.GenFault.TheVariants.{Limit, Invalid}
use Rattle.occam_parser.specs.declared.parsed.Program.{Program}
use Rattle.occam_parser.specs.declared.tree.Item.{Item}
use Rattle.occam_parser.specs.declared.tree.Item.TheVariants.{Proc, Constant}
use Rattle.occam_parser.specs.LineViews.{constant_of}
use Rattle.occam_parser.specs.BlockViews.{item_of, procedure_of}
use Rattle.program_work.specs.Readings.{capped}
use Rattle.program_work.specs.Programs.{names_in}
use Rattle.usage_checks.specs.ItemRules.{after_items}
use Rattle.code_pieces.proofs.Faults.{handed_on}
use Rattle.program_meaning.specs.Sequential.{IsSequentialProgram}
use Rattle.code_generator.proofs.ItemsPassed.{around_main, begins, program_written, sequential_limits}
use Rattle.code_generator.proofs.ItemsPassed.{program_exceeds, some_signed}
use Rattle.code_generator.proofs.PartsSequential.{no_constant_last, main_sequential}
use Rattle.code_generator.proofs.program.code_of.Goals as goal

pub returns-clause-ok : goal.returns-clause-ok
returns-clause-ok c =
    let start = c.in_ok-start.start in
    let count : c.len-count.result ≡ length start.callees.items = omega arith in
    program_written c.args.program.now.program.items.items c.in-Some.before.now c.in-Proc.main start
    c.write_main.new.self
    (around_main c.in-Some-split_last.signatures c.deref.result c.len-count.result 2048 c.limits_of-limits.result)
    (begins c.in-Some-split_last.field-0-0.now c.in-Some-split_last.signatures c.deref.result c.len-count.result 2048
    c.limits_of-limits.result c.program.ensures.program c.items-items.ensures.items c.program.ensures.unbroken
    c.signatures.ensures.signed c.in-Some.ensures.cases.0 c.in-Proc.is c.in-Some-split_last.ensures.cases.0
    c.deref.ensures.value count c.in_ok-start.ensures)
    c.in_ok-write_main.ensures.ok

pub returns-in_err-write_main-clause-limit : goal.returns-in_err-write_main-clause-limit
returns-in_err-write_main-clause-limit c = λ e sequential few.
    let start = c.in_ok-start.start in
    let fault = handed_on c.from_residual-in_err-write_main.result c.in_err-write_main.field-0.0 Limit
    c.from_residual-in_err-write_main.ensures.1 e in
    let read = c.items-items.ensures.items ∙ ap (λ (q : Program). q.items.items) c.program.ensures.program in
    let count : c.len-count.result ≡ length start.callees.items = omega arith in
    let begun = begins c.in-Some-split_last.field-0-0.now c.in-Some-split_last.signatures c.deref.result
    c.len-count.result 2048 c.limits_of-limits.result c.program.ensures.program c.items-items.ensures.items
    c.program.ensures.unbroken c.signatures.ensures.signed c.in-Some.ensures.cases.0 c.in-Proc.is
    c.in-Some-split_last.ensures.cases.0 c.deref.ensures.value count c.in_ok-start.ensures in
    program_exceeds c.args.program.now.program.items.items c.in-Some.before.now c.in-Proc.main start
    (around_main c.in-Some-split_last.signatures c.deref.result c.len-count.result 2048 c.limits_of-limits.result) begun
    (c.limits_of-limits.ensures.names ∙ ap (λ (xs : List Item). capped (names_in (map item_of xs))) read)
    c.limits_of-limits.ensures.is_sequential sequential (c.in_err-write_main.ensures.limit (ap Err fault))

-- a list without elements is empty
nothing_there : {A : Type 0} (xs : List A) → length xs ≡ 0 → xs ≡ []
nothing_there [] none = refl
nothing_there (x ∷ xs) none = absurd (omega (arith, none))

pub returns-in_default-clause-invalid : goal.returns-in_default-clause-invalid
returns-in_default-clause-invalid c = λ e sequential.
    let all : c.items-items.result.now ≡ c.args.program.now.program.items.items =
    c.items-items.ensures.items ∙ ap (λ (q : Program). q.items.items) c.program.ensures.program in
    subst (λ (xs : List Item). IsSequentialProgram (map item_of xs)) (sym all ∙ nothing_there c.items-items.result.now c.in_default.ensures.cases) sequential

pub returns-in_default-last-clause-invalid : goal.returns-in_default-last-clause-invalid
returns-in_default-last-clause-invalid c = λ e sequential.
    let items = c.items-items.result.now in
    let before = c.in-Some.before.now in
    let constant = c.in_default-last.field-0 in
    let all : items ≡ c.args.program.now.program.items.items =
    c.items-items.ensures.items ∙ ap (λ (q : Program). q.items.items) c.program.ensures.program in
    let split = c.in-Some.ensures.cases.0 ∙ ap (λ (x : Item). before ++ x ∷ []) c.in_default-last.is in
    no_constant_last (map item_of items) (map item_of before) (constant_of constant)
    (ap (map item_of) split ∙ map-append item_of before (Constant constant ∷ []))
    (subst (λ (xs : List Item). IsSequentialProgram (map item_of xs)) (sym all) sequential)

pub returns-in_default-split_last-clause-invalid : goal.returns-in_default-split_last-clause-invalid
returns-in_default-split_last-clause-invalid c = λ e sequential.
    let items = c.items-items.result.now in
    let before = c.in-Some.before.now in
    let all : items ≡ c.args.program.now.program.items.items =
    c.items-items.ensures.items ∙ ap (λ (q : Program). q.items.items) c.program.ensures.program in
    let split = c.in-Some.ensures.cases.0 ∙ ap (λ (x : Item). before ++ x ∷ []) c.in-Proc.is in
    let seen = ap (map item_of) split ∙ map-append item_of before (Proc c.in-Proc.main ∷ []) in
    some_signed (map item_of before) (procedure_of c.in-Proc.main) c.signatures.result.now
    (c.signatures.ensures.signed ∙ ap (λ (xs : List Item). (after_items (map item_of xs)).signatures) (sym all)
    ∙ ap (λ ys. (after_items ys).signatures) seen)
    (nothing_there c.signatures.result.now c.in_default-split_last.ensures.cases)

pub returns-in_err-write_main-clause-invalid : goal.returns-in_err-write_main-clause-invalid
returns-in_err-write_main-clause-invalid c = λ e sequential.
    let items = c.items-items.result.now in
    let before = c.in-Some.before.now in
    let main = procedure_of c.in-Proc.main in
    let all : items ≡ c.args.program.now.program.items.items =
    c.items-items.ensures.items ∙ ap (λ (q : Program). q.items.items) c.program.ensures.program in
    let split = c.in-Some.ensures.cases.0 ∙ ap (λ (x : Item). before ++ x ∷ []) c.in-Proc.is in
    let seen = ap (map item_of) split ∙ map-append item_of before (Proc c.in-Proc.main ∷ []) in
    let whole = subst (λ (xs : List Item). IsSequentialProgram (map item_of xs)) (sym all) sequential in
    let yes = sequential_limits c.limits_of-limits.result (map item_of items) (map item_of before) main seen
    c.limits_of-limits.ensures.is_sequential whole in
    let fault = handed_on c.from_residual-in_err-write_main.result c.in_err-write_main.field-0.0 Invalid
    c.from_residual-in_err-write_main.ensures.1 e in
    let no = c.in_err-write_main.ensures.invalid (ap Err fault)
    (main_sequential (map item_of items) (map item_of before) main seen whole) in
    absurd (cc (yes, no))
