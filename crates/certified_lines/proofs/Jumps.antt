-- What the rule of a conditional jump leaves.
use Rattle.std.proofs.Common.{◌≡◌, ℕ, ◌+◌, ◌-◌, ◌^◌, ◌<◌, pos, true, Option, Some, None, Result, Ok, Err, refl, ap}
use Rattle.std.proofs.Common.{◌∙◌, arith}
use Rattle.std.specs.Prelude.{is_some}
use Rattle.std.proofs.lemmas.Bool.{le-ltb}
use Rattle.std.proofs.lemmas.Int.{ints}
use Rattle.word_arithmetic.specs.Range.{Ends, IsRange}
use Rattle.word_arithmetic.proofs.EndsLaws.{words_in_order_are_ranges}
use Rattle.module_format.specs.Rows.{Fact}
use Rattle.machine_state.specs.Instructions.{instruction_of}
use Rattle.machine_state.specs.LocalStep.{target}
use Rattle.rulings.specs.Rulings.{Ruling, Site, falls_or_leads, breaks, outside_alternation, outside_starts, in_bounds}
use Rattle.rulings.specs.Rulings.{forward, pays, forks_to}
use Rattle.module_format.specs.Contents.{Label, label_at}
use Rattle.states.specs.Below.{below}
use Rattle.states.specs.State.{State}
use Rattle.states.specs.declared.rule.Rule.{Rule}
use Rattle.states.specs.declared.rule.Rule.TheVariants as rules
use Rattle.certified_lines.specs.StraightRules.{state_of}
use Rattle.local_rules.specs.LocalRules.{local_rule}
use Rattle.local_rules.specs.WordRules.{number_in, has_range}
use Rattle.facts.specs.Rules.{rule, rule_of, instruction_rule}
use Rattle.certified_lines.specs.Instructions.{is_told}
use Rattle.certified_lines.specs.Jumps.{fallen, jumped, JumpsFork}
use Rattle.certified_lines.proofs.Instructions.{uses_told}

-- a jump leads so many bytes behind the instruction
pub leads_behind : (next bytes : ℕ) → next + bytes < 2 ^ 32 → target next (pos bytes) ≡ next + bytes
leads_behind next bytes small = omega (arith, ints, small)

has_its_range : (fact : Fact) (r : Ends) → fact ≡ number_in r → IsRange r → has_range fact ≡ true
has_its_range fact r is ranged =
    ap has_range is
    ∙ ap (λ (o : Option Ends). is_some o) ((words_in_order_are_ranges r.lo r.hi r).1 (ranged, refl, refl))

forks_is : (site : Site) (to : ℕ) (there here : State) (row : Label) (cost : ℕ) → label_at site.contents to ≡ Some row
    → below there row ≡ Ok cost → forks_to site to there here ≡ falls_or_leads here to
unfolding forks_to
forks_is site to there here row cost row_is cost_is =
    ap (λ (o : Option Label). elim o as (λ o. Ruling) [
      | None ↦ breaks rules.Label
      | Some t ↦ elim (below there t) as (λ r. Ruling) [
        | Ok cost ↦ falls_or_leads here to
        | Err broken ↦ breaks broken
      ]
    ]) row_is
    ∙ ap (λ (r : Result ℕ Rule). elim r as (λ r. Ruling) [
      | Ok cost ↦ falls_or_leads here to
      | Err broken ↦ breaks broken
    ]) cost_is

pub jumps_fork : JumpsFork
unfolding rule rule_of instruction_rule local_rule instruction_of outside_alternation outside_starts in_bounds forward
    pays
jumps_fork g at size number bytes cost s r row small is ranged enough row_is cost_is =
    let told = ap is_told is in
    let range = has_its_range s.stack.a.fact r is ranged in
    let leads = leads_behind (at + size) bytes small in
    rw (uses_told, range, le-ltb number size enough, leads)
    (forks_is (record { contents = g.contents; at = at; length = size }) (at + size + bytes)
    (state_of g (jumped s) (number - size)) (state_of g (fallen s) (number - size)) row cost row_is cost_is)
