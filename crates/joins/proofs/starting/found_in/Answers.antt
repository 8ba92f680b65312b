use Rattle.std.proofs.Common.{◌≡◌, ℕ, ◌+◌, ◌^◌, ◌<◌, Option, Some, None, IfSome, MatchOption, ◌∙◌, ap, sym}
use Rattle.module_format.specs.Contents.{Contents}
use Rattle.module_format.specs.Keeping.{Keeps}
use Rattle.machine_state.specs.JoinLookups.{found_at}
use Rattle.joins.specs.Finding.{found_view}
use Rattle.joins.specs.declared.found.Found.{Found}
use Rattle.joins.proofs.SmallNumbers.{small_numbers}
use Rattle.joins.proofs.starting.found_in.Goals as goal

small : (c mine : Contents) (target : ℕ) (result : Option Found) → mine ≡ c → Keeps c
    → MatchOption result (found_at mine target ≡ None) (λ f. found_at mine target ≡ Some (found_view f))
    → IfSome result (λ f. (f.row < 2 ^ 32) × (f.number + 1 < 2 ^ 32))
small c mine target None same keeps found = tt
small c mine target (Some f) same keeps found =
    small_numbers c target (found_view f) keeps (sym (ap (λ (d : Contents). found_at d target) same) ∙ found)

row : (result : Option Found) → IfSome result (λ f. (f.row < 2 ^ 32) × (f.number + 1 < 2 ^ 32))
    → IfSome result (λ f. f.row < 2 ^ 32)
row None h = tt
row (Some f) h = h.0

number : (result : Option Found) → IfSome result (λ f. (f.row < 2 ^ 32) × (f.number + 1 < 2 ^ 32))
    → IfSome result (λ f. f.number + 1 < 2 ^ 32)
number None h = tt
number (Some f) h = h.1

pub returns-clause-row : goal.returns-clause-row
returns-clause-row c =
    row c.found_at.result (small c.args.module.now _ c.args.target c.found_at.result c.tables.ensures.contents
    c.tables.ensures.kept c.found_at.ensures)

pub returns-clause-number : goal.returns-clause-number
returns-clause-number c =
    number c.found_at.result (small c.args.module.now _ c.args.target c.found_at.result c.tables.ensures.contents
    c.tables.ensures.kept c.found_at.ensures)
