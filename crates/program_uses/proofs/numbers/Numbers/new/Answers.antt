use Rattle.std.proofs.Common.{◌/◌, ◌%◌, cond, nat_eq, ap, ◌∙◌}
use Rattle.std.specs.BTreeMap.{is_at}
use Rattle.std.specs.Map.{lookup}
use Rattle.std.specs.Option.{unwrap_or}
use Rattle.std.specs.Ordering.{nat_cmp}
use Rattle.program_uses.specs.Words.{has_bit}
use Rattle.program_uses.proofs.NumbersJoined.{nothing_either}
use Rattle.program_uses.proofs.numbers.Numbers.new.Goals as goal

pub returns : goal.returns
returns c n =
    ap (λ es. has_bit (cond (nat_eq 0 (n / 64)) 0 (unwrap_or (lookup (is_at (nat_cmp (n / 64))) es) 0)) (n % 64))
    c.new.ensures.empty ∙ nothing_either (nat_eq 0 (n / 64)) (n % 64)
