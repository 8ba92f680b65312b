-- What a plan says of a draft's code, and the lengths that it gives items.
use Rattle.std.specs.Prelude.{◌≡◌, ◌+◌, ◌≤◌, ℕ, List, length, map, sum}
use Rattle.module_format.specs.declared.limits.TheConstants.{MAX_LONG_CODE}
use Rattle.module_builder.specs.declared.plan.Plan.{Plan}
use Rattle.module_builder.specs.Drafts.{Code}
use Rattle.module_builder.specs.References.{fixed_len, reference_count, references_from, expand}

-- the plan is that of the code
pub record IsPlan (code : Code) (plan : Plan) : Type 0 where
  pub fixed : plan.fixed.lengths.items ≡ map fixed_len code.items
  pub counts : plan.counts.lengths.items ≡ map reference_count code.items
  pub references : plan.references.items ≡ references_from 0 code.items

-- the lengths of all items, where references have these lengths
abbrev pub planned : Plan → List ℕ → List ℕ
planned plan sizes = expand plan.fixed.lengths.items plan.counts.lengths.items sizes

-- there is a length for each reference, and the code isn't too long
pub record HasSizes (plan : Plan) (sizes : List ℕ) : Type 0 where
  pub each : length sizes ≡ length plan.references.items
  pub short : sum plan.fixed.lengths.items + sum sizes ≤ MAX_LONG_CODE
