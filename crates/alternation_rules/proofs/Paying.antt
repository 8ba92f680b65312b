-- To pay for an instruction leaves the guards.
use Rattle.std.proofs.Common.{◌≡◌, refl, sym, ◌∙◌, ap, Bool, true, false, List, nat_lt, if◌then◌else◌, ◌-◌}
use Rattle.states.specs.declared.known.Guard.{Guard}
use Rattle.states.specs.State.{State}
use Rattle.rulings.specs.Rulings.{Ruling, Site, pays, falls, falling, breaks}
use Rattle.states.specs.declared.rule.Rule.TheVariants as rules
use Rattle.std.specs.Prelude.{Some, None}

-- the guards of what falls, or these
abbrev falling_guards : List Guard → Ruling → List Guard
falling_guards guards ruling = elim (falling ruling) [ None ↦ guards | Some s ↦ s.guards ]

paid_guards : (site : Site) (s : State) → falling_guards s.guards (pays site s falls) ≡ s.guards
unfolding pays
paid_guards site s = by (nat_lt s.number site.length)
  where
    by : (b : Bool)
        → falling_guards s.guards (if b then breaks rules.Budget
        else falls (record s { number = s.number - site.length })) ≡ s.guards
    by true = refl
    by false = refl

pub paying_keeps_guards : (site : Site) (s after : State) → ((k : State → Ruling) → pays site s k ≡ k after)
    → after.guards ≡ s.guards
paying_keeps_guards site s after paid = sym (ap (falling_guards s.guards) (paid falls)) ∙ paid_guards site s
