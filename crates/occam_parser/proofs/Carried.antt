-- What was read, carried past what follows it.
use Rattle.std.proofs.Common.{◌≡◌, List, Option, Some, Result, Ok, Err, sym, ap, subst, ◌∙◌}
use Rattle.std.specs.Borrow.{Bor}
use Rattle.occam_layout.specs.declared.token.Token.{Token}
use Rattle.occam_parser.specs.declared.fault.LineError.{LineError}
use Rattle.occam_layout.specs.declared.mark.Mark.{Mark}
use Rattle.occam_parser.specs.declared.tree.Expr.{Expr}
use Rattle.occam_parser.specs.declared.tree.Operation.{Operation}
use Rattle.occam_parser.specs.Terminals.{Terminal, terminals_of}
use Rattle.occam_parser.specs.Reading.{Fails, Gives, behind, up_to}
use Rattle.occam_parser.specs.Expressions.{Expression}
use Rattle.occam_parser.specs.Views.{expression_of, operation_of}
use Rattle.occam_parser.specs.LineFaults.{GoesUpTo, IsMadeOf}
use Rattle.occam_parser.proofs.Levels.{fails_on, up_to_none, up_to_fails, up_to_found}

-- what was read, seen as the grammar sees it, up to a mark
pub seen_up_to : {A Y : Type 0} (view : A → Y) (m : Mark) (read answer : Result (A × Bor (List Token)) LineError)
    (parsed : Option (Y × List Terminal)) → Gives (λ x. (view x.0, terminals_of x.1.now)) read parsed
    → GoesUpTo m read answer
    → Gives (λ x. (view x.0, terminals_of x.1.now)) answer (up_to m parsed)
seen_up_to view m (Err e) (Err f) parsed given u =
    let same : e ≡ f = cc u in
    subst (λ (d : LineError). Fails d (up_to m parsed)) same
    (fails_on e parsed (up_to m parsed) (up_to_none m parsed) given)
seen_up_to view m (Err e) (Ok y) parsed given u = absurd (cc u)
seen_up_to view m (Ok x) (Err f) parsed given u =
    fails_on f (behind m (terminals_of x.1.now)) (up_to m parsed)
    (λ none. up_to_fails m parsed (view x.0) (terminals_of x.1.now) given none) u
seen_up_to view m (Ok x) (Ok y) parsed given u =
    up_to_found m parsed (view x.0) (terminals_of x.1.now) (terminals_of y.1.now) given u.1 ∙ ap
    (λ z. Some (view z, terminals_of y.1.now)) (sym u.0)

-- an expression that was made of what was read
pub made_gives : (operation : Operation) (tree : Expression) (rest : Bor (List Token))
    (answer : Result (Expr × Bor (List Token)) LineError) (read : Option (Expression × List Terminal))
    → operation_of operation ≡ tree → IsMadeOf operation rest answer → read ≡ Some (tree, terminals_of rest.now)
    → Gives (λ x. (expression_of x.0, terminals_of x.1.now)) answer read
made_gives operation tree rest (Ok x) read view made found =
    found ∙ ap (λ t. Some (t, terminals_of rest.now)) (sym (made.0 ∙ view)) ∙ ap
    (λ (b : Bor (List Token)). Some (expression_of x.0, terminals_of b.now)) (sym made.1)
made_gives operation tree rest (Err e) read view made found = subst (λ (d : LineError). Fails d read) (sym made) tt
