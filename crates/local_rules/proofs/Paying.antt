-- What a state may go on as with less to pay, it may with more.
use Rattle.std.proofs.Common.{◌≡◌, ℕ, ◌≤◌, Bool, true, false, Option, Some, None, refl, sym, ap, ◌∙◌, arith}
use Rattle.std.specs.Prelude.{Result, Ok, Err, is_ok, nat_lt, if◌then◌else◌}
use Rattle.std.proofs.lemmas.Bool.Decides.{nat_tests}
use Rattle.module_format.specs.Contents.{Contents, Label}
use Rattle.states.specs.declared.rule.Rule.{Rule}
use Rattle.states.specs.declared.rule.Rule.TheVariants as rules
use Rattle.states.specs.State.{State}
use Rattle.states.specs.Below.{view, cost, agrees, compared, below, below_at}
use Rattle.local_rules.specs.LoopRules.{MayGoOn}

with-more : (n number : ℕ) (s : State) (t : Label) → n ≤ number → is_ok (compared n (view s) t) ≡ true
    → (total : ℕ) × (compared number (view s) t ≡ Ok total)
with-more n number s t less ok = on (nat_lt n (cost (view s) t)) (agrees (view s) t) refl refl ok
  where
    on : (a b : Bool) → nat_lt n (cost (view s) t) ≡ a → agrees (view s) t ≡ b
        → is_ok (if a then Err rules.Budget else if b then Ok (cost (view s) t) else Err rules.Label) ≡ true
        → (total : ℕ) × (compared number (view s) t ≡ Ok total)
    on true b covers agreed h = absurd (cc)
    on false false covers agreed h = absurd (cc)
    on false true covers agreed h =
        let enough : nat_lt number (cost (view s) t) ≡ false = grind (arith, nat_tests) in
        (cost (view s) t, rw (enough, agreed) refl)

-- the label at an offset with no more than a number
pub may-with-more : (m : Contents) (to n number : ℕ) (s : State) (r : Result ℕ Rule) → n ≤ number
    → r ≡ below_at m to (record s { number = n }) → is_ok r ≡ true → MayGoOn m to number s
unfolding below
may-with-more m to n number s r less is ok t found =
    let at : below_at m to (record s { number = n }) ≡ compared n (view s) t =
    ap (λ (o : Option Label). elim o as (λ _. Result ℕ Rule) [
      | None ↦ Err rules.Label
      | Some x ↦ compared n (view s) x
    ]) found in
    with-more n number s t less (sym (ap is_ok (is ∙ at)) ∙ ok)
