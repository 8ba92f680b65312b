-- A procedure is found by its number, whatever procedures are after it.
use Rattle.std.proofs.Common.{◌≡◌, ℕ, zero, suc, ◌<◌, Bool, true, false, cond, nat_eq, List, Option, Some, slice_get}
use Rattle.std.proofs.Common.{refl, ap, ◌∙◌, arith}
use Rattle.std.proofs.lemmas.Bool.Decides.{nat_tests}
use Rattle.std.proofs.lemmas.Bool.{eqb-true}
use Rattle.occam_parser.specs.Expressions.{Expression}
use Rattle.program_uses.specs.Actions.{Around}
use Rattle.program_uses.specs.Signatures.{Parameter}
use Rattle.code_pieces.specs.Pieces.{Code}
use Rattle.code_generator.specs.Calls.{Callee, callee_code_if, callee_code, around_before, calls_below, where_called}
use Rattle.code_generator.specs.Processes.{Site}

is_below : (m n : ℕ) → nat_eq n m ≡ false → m < suc n → m < n
is_below m n other h = grind (arith, nat_tests)

pub calls_found : (cs : List Callee) (a : Around) (number count : ℕ) (c : Callee) → number < count
    → slice_get cs number ≡ Some c → (qs : List Parameter) (actuals : List Expression) (s : Site)
    → calls_below cs a count number qs actuals s
    ≡ callee_code (where_called cs (around_before number a) number) c qs actuals s
calls_found cs a number zero c h is qs actuals s = absurd (omega (arith, h))
calls_found cs a number (suc n) c h is qs actuals s =
    by_number (λ below. calls_found cs a number n c below is qs actuals s) (nat_eq n number) refl
  where
    here : Option Code
    here = callee_code_if (where_called cs (around_before n a) n) (slice_get cs n) qs actuals s

    by_number : (number < n → calls_below cs a n number qs actuals s
        ≡ callee_code (where_called cs (around_before number a) number) c qs actuals s)
        → (b : Bool) → nat_eq n number ≡ b
        → cond b here (calls_below cs a n number qs actuals s)
        ≡ callee_code (where_called cs (around_before number a) number) c qs actuals s
    by_number rest true same =
        (λ i. callee_code_if (where_called cs (around_before (eqb-true n number same i) a) (eqb-true n number same i))
        (slice_get cs (eqb-true n number same i)) qs actuals s)
        ∙ ap (λ x. callee_code_if (where_called cs (around_before number a) number) x qs actuals s) is
    by_number rest false other = rest (is_below number n other h)
