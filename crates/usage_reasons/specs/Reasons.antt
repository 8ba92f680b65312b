-- When a reason is one of a fault: it is of its line and of its number, and the tokens are some of that line's.
use Rattle.std.specs.Prelude.{◌≡◌, ℕ, ◌+◌, ◌≤◌}
use Rattle.program_uses.specs.declared.telling.UsageFault.{UsageFault}
use Rattle.usage_reasons.specs.declared.reason.Reason.{Reason}
use Rattle.usage_reasons.specs.Numbers.{number_of}

-- on a line with this many tokens
pub record IsReasonOf (count : ℕ) (fault : UsageFault) (reason : Reason) : Type 0 where
  pub line : reason.line ≡ fault.line
  pub number : number_of reason.why ≡ fault.number
  pub tokens : reason.tokens.at + reason.tokens.len ≤ count
