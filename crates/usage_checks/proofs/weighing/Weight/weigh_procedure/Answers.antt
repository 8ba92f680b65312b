use Rattle.std.proofs.Common.{map, ap, ◌∙◌, refl}
use Rattle.occam_parser.specs.LineViews.{formal_of}
use Rattle.occam_parser.specs.BlockViews.{process_of, procedure_of}
use Rattle.scalar_ranges.specs.Scopes.{entries_of, known_of}
use Rattle.program_uses.specs.Declaring.{add_formals}
use Rattle.program_uses.specs.Signatures.{signatures_of}
use Rattle.program_uses.proofs.ScopesExtended.{left_again}
use Rattle.program_sizes.specs.LineSizes.{size_of_head}
use Rattle.usage_checks.specs.Sizes.{measures_of}
use Rattle.usage_checks.proofs.PartsWeighed.{weighs_both, weighs_if, counts_line}
use Rattle.usage_checks.proofs.weighing.Weight.weigh_procedure.Goals as goal

pub returns : goal.returns
returns c =
    let signatures = signatures_of c.args.signatures.now in
    let es = entries_of c.args.scope.now in
    let p = c.args.proc.now in
    let body = process_of p.body in
    let entered = c.enter_formals.ensures in
    let below = c.weigh.ensures.weight in
    let formals = ap (λ fs. add_formals es (map formal_of fs) es) c.deref.ensures.value in
    record {
      weight = weighs_both
          (counts_line p.line (size_of_head (procedure_of p).head) c.size_of_head.ensures c.count.ensures)
          (weighs_both entered.weight
          (weighs_both (weighs_if (λ e. ap (λ inner. measures_of signatures inner body)
          (entered.entries (below.complete e) ∙ formals)) below)
          (counts_line p.line 1 refl c.count-2.ensures)));
      scope = left_again (known_of c.args.scope.now) (known_of c.enter_formals.new.scope)
          (known_of c.weigh.new.scope) (known_of c.leave.new.self) c.len-count.result c.args.scope.now.nested
          c.len-count.ensures entered.extends c.weigh.ensures.scope c.leave.ensures.entries c.leave.ensures.blocks;
    }
