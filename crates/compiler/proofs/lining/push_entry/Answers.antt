use Rattle.std.proofs.Common.{rules, refl, sym, subst}
use Rattle.std.specs.List.{All}
use Rattle.std.proofs.lemmas.List.Elements.{All-push}
use Rattle.compiler.specs.CodeLines.{IsOnLine}
use Rattle.compiler.proofs.lining.push_entry.Goals as goal

pub returns : goal.returns
returns c = λ before.
    subst (All (IsOnLine c.args.ends)) (sym c.in_ok-push.ensures.items)
    (All-push (IsOnLine c.args.ends) c.args.entries.now.items _ before (c.is_line.ensures (search rules) _ refl))
