use Rattle.std.proofs.Common.{◌≡◌, List, ℕ, length, ap, arith}
use Rattle.module_builder.specs.Spelling.{spelled}
use Rattle.module_builder.proofs.Places.{one_least}
use Rattle.module_builder.proofs.assembling.assemble.Goals as goal

pub returns-then-len-max_code : goal.returns-then-len-max_code
returns-then-len-max_code c = λ lengths least within.
    let code = c.args.draft.now.code in
    let least_one = c.in_ok-layout.layout.lengths.items in
    let same : lengths ≡ least_one = one_least code lengths least_one least c.in_ok-layout.ensures.least in
    let none : ⊥ =
    omega (
      arith,
      within.code,
      ap (λ (xs : List ℕ). length (spelled code xs)) same,
      ap length c.in_ok-code.ensures.code,
      c.in_ok-code.code.ok.0,
      c.len.ensures,
      c.max_code.ensures,
      c.if-len-max_code.true,
    ) in
    none
