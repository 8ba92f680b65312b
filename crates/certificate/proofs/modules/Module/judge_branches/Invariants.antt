use Rattle.std.proofs.Common.{◌≡◌, ◌+◌, length}
use Rattle.module_format.specs.Contexts.{first_branch}
use Rattle.certificate.specs.Judged.{AreJudged}
use Rattle.certificate.proofs.modules.Module.judge_branches.Given as goal

abbrev pub invariant-loop-place : goal.invariant-loop-place
invariant-loop-place l = record {
  are : AreJudged l.self l.judged.items;
  many : length l.judged.items ≡ l.place-index;
  context : l.context ≡ first_branch l.self + l.place-index;
}
