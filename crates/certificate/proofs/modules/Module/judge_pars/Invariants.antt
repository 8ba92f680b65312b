use Rattle.std.proofs.Common.{◌≡◌, length}
use Rattle.certificate.specs.Judged.{AreRowsJudged}
use Rattle.certificate.proofs.modules.Module.judge_pars.Given as goal

abbrev pub invariant-loop-row : goal.invariant-loop-row
invariant-loop-row l = record {
  are : AreRowsJudged l.self l.judged.items;
  many : length l.judged.items ≡ l.row;
}
