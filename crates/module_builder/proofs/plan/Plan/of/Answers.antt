use Rattle.std.proofs.Common.{◌≡◌, List, map, length, sum, ap, sym, ◌∙◌, arith, Err}
use Rattle.std.proofs.lemmas.List.{length-map}
use Rattle.std.proofs.lemmas.Result.{err_from_is_err_and}
use Rattle.module_builder.specs.declared.fault.GenFault.TheVariants.{Limit}
use Rattle.module_builder.specs.declared.item.Item.{Item}
use Rattle.module_builder.specs.References.{fixed_len, reference_count, references_from}
use Rattle.module_builder.proofs.References.{count_references}
use Rattle.module_builder.proofs.Progress.{none_fits_plan}
use Rattle.module_builder.proofs.plan.Plan.of.Goals as goal

pub returns-in_err-of-clause-limit : goal.returns-in_err-of-clause-limit
returns-in_err-of-clause-limit c = λ is lengths fits.
    let code = c.args.code.now in
    let told = err_from_is_err_and c.from_residual-in_err-of.result c.from_residual-in_err-of.ensures.1 in
    let limit : Err c.in_err-of.field-0.0 ≡ Err Limit = cc in
    let fixed : c.in_ok-fixed.fixed.items ≡ map fixed_len code.items =
    c.in_ok-fixed.ensures ∙ ap (λ (items : List Item). map fixed_len items) c.items.ensures in
    none_fits_plan code (omega (arith, c.in_err-of.ensures.limit limit, ap sum fixed)) lengths fits

pub returns-in_err-of-2-clause-limit : goal.returns-in_err-of-2-clause-limit
returns-in_err-of-2-clause-limit c = λ is lengths fits.
    let code = c.args.code.now in
    let told = err_from_is_err_and c.from_residual-in_err-of-2.result c.from_residual-in_err-of-2.ensures.1 in
    let limit : Err c.in_err-of-2.field-0.0 ≡ Err Limit = cc in
    let counts : c.in_ok-counts.counts.items ≡ map reference_count code.items =
    c.in_ok-counts.ensures ∙ ap (λ (items : List Item). map reference_count items) c.items-2.ensures in
    none_fits_plan code (omega (arith, c.in_err-of-2.ensures.limit limit, ap sum counts)) lengths fits

pub invariant_of-result : goal.invariant_of-result
invariant_of-result c =
    let items = c.args.code.now.items in
    let fixed : c.in_ok-of.field-0.lengths.items ≡ map fixed_len items =
    c.in_ok-of.ensures.same ∙ c.in_ok-fixed.ensures ∙ ap (λ (xs : List Item). map fixed_len xs) c.items.ensures in
    let counts : c.in_ok-of-2.field-0.lengths.items ≡ map reference_count items =
    c.in_ok-of-2.ensures.same ∙ c.in_ok-counts.ensures
    ∙ ap (λ (xs : List Item). map reference_count xs) c.items-2.ensures in
    let references : c.in_ok-references.references.items ≡ references_from 0 items =
    c.in_ok-references.ensures ∙ ap (λ (xs : List Item). references_from 0 xs) c.items-3.ensures in
    record {
      same =
          ap length fixed ∙ length-map items fixed_len ∙ sym (ap length counts ∙ length-map items reference_count);
      all = ap length references ∙ count_references 0 items ∙ sym (ap sum counts);
    }
