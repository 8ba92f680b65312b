-- In an alternation, and among the starts of a PAR, a call and a return break a rule.
use Rattle.std.proofs.Common.{◌+◌, ℤ, Option, Some, None}
use Rattle.certificate.specs.Starts.{Entered, procedure_at}
use Rattle.machine_state.specs.LocalStep.{target}
use Rattle.states.specs.declared.rule.Rule.TheVariants as rules
use Rattle.states.specs.State.{State}
use Rattle.rulings.specs.Rulings.{Ruling, Site, breaks, alone}
use Rattle.call_rules.specs.CallRules.{calls_procedure, call_rule, return_rule, passes_all, Calling}
use Rattle.rulings.proofs.OtherModes.{Breaks, IsBusy, wants_break, alone_breaks}

module _ (site : Site) (s : State) (busy : IsBusy s.mode) where
  passes_break : (c : Calling) (r : Ruling) → Breaks r → Breaks (passes_all c r)
  passes_break c r all =
      wants_break _ _ _ (wants_break _ _ _ (wants_break _ _ _ (wants_break _ _ _ (wants_break _ _ _ all))))

  pub call_breaks : (e : ℤ) → Breaks (call_rule site e s)
  unfolding call_rule calls_procedure
  call_breaks e = on (procedure_at site.contents (target (site.at + site.length) e))
    where
      on : (o : Option Entered) → Breaks (elim o as (λ o. Ruling) [
        | None ↦ alone s.mode (breaks rules.Call)
        | Some found ↦ calls_procedure site (target (site.at + site.length) e) s found
      ])
      on None = alone_breaks s.mode busy _
      on (Some found) = passes_break _ _ (alone_breaks s.mode busy _)

  pub return_breaks : Breaks (return_rule site s)
  unfolding return_rule
  return_breaks = alone_breaks s.mode busy _
