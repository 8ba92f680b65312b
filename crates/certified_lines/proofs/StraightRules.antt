-- Straight pieces break no rule, one after the other.
use Rattle.std.proofs.Common.{List, ◌++◌}
use Rattle.code_pieces.specs.Pieces.{Piece}
use Rattle.certified_lines.specs.StraightRules.{Setting, Told, FallOn, done, next, table, StraightRulesFollow}

pub fall_both : {g : Setting} {ps qs : List Piece} {s t u : Told} → FallOn g ps s t → FallOn g qs t u
    → FallOn g (ps ++ qs) s u
fall_both done b = b
fall_both (next x a) b = next x (fall_both a b)
fall_both (table a) b = table (fall_both a b)

pub straight_rules_follow : StraightRulesFollow
straight_rules_follow g ps qs s t u a b = fall_both a b
