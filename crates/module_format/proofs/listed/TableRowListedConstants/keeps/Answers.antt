use Rattle.std.proofs.Common.{◌-◌, sym, ◌∙◌, rules, take, drop, w32, FitsSigned}
use Rattle.std.proofs.lemmas.Int.{to_z-of_z}
use Rattle.module_format.specs.Procedures.{words_in_bytes}
use Rattle.module_format.proofs.ProcedureLaws.{all_within, within_all}
use Rattle.module_format.proofs.listed.TableRowListedConstants.keeps.Goals as goal

pub returns-then-self : goal.returns-then-self
returns-then-self c =
    let row = c.args.self.now in
    let constants = c.args.constants.now.0.now in
    let lo_fits : FitsSigned w32 row.lo = search rules in
    let hi_fits : FitsSigned w32 row.hi = search rules in
    let lo = to_z-of_z w32 row.lo lo_fits in
    let hi = to_z-of_z w32 row.hi hi_fits in
    let told = rw (lo, hi) at c.words_lie_within.ensures in
    let words = words_in_bytes (take (row.end - row.start) (drop row.start constants)) in (
      λ t. record {
        start_aligned = search rules;
        apart = search rules;
        end_aligned = search rules;
        ordered = search rules;
        inside = search rules;
        range = record { lo_fits = lo_fits; hi_fits = hi_fits; ordered = search rules };
        words = all_within row.lo row.hi words (sym told ∙ t);
      },
      λ h. told ∙ within_all row.lo row.hi words h.words,
    )
