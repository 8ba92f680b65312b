use Rattle.std.proofs.Common.{◌≡◌, map, take, option_map}
use Rattle.occam_parser.specs.Views.{expression_of}
use Rattle.scalar_ranges.specs.Scopes.{entries_of, blocks_of, meaning_of}
use Rattle.program_uses.specs.Signatures.{signatures_of, parameters_in}
use Rattle.usage_checks.specs.Following.{after_actuals}
use Rattle.usage_checks.proofs.following.after_actuals.Given as goal

abbrev pub invariant-loop-place : goal.invariant-loop-place
invariant-loop-place l = record {
  entries : entries_of l.scope
      ≡ after_actuals (parameters_in (signatures_of l.signatures) (option_map meaning_of l.procedure)) 0
      (map expression_of (take l.place l.actuals)) (entries_of l.fn.scope);
  blocks : blocks_of l.scope ≡ blocks_of l.fn.scope;
}
