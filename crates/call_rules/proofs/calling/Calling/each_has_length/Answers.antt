use Rattle.std.proofs.Common.{◌≡◌, ◌∙◌, ℕ, ◌+◌, ◌<◌, true, sym, ap, arith}
use Rattle.module_format.specs.declared.rows.EndKind.{EndKind}
use Rattle.rulings.specs.Channels.{message_length}
use Rattle.rulings.specs.Channels.{further, is_length}
use Rattle.rulings.specs.Channels.{has_length_further}
use Rattle.call_rules.proofs.EndRuns.{all_from, one_fails}
use Rattle.rulings.proofs.EndNumbers.{one_length}
use Rattle.call_rules.proofs.calling.Calling.each_has_length.Goals.{in-Parameter, in_default}
use Rattle.call_rules.proofs.calling.Calling.each_has_length.Goals as goal

pub returns-then-not-has_length : goal.returns-then-not-has_length
returns-then-not-has_length c =
    let within : c.loop-n.n < c.args.count = elim c.match-first.branch [
      | in-Parameter w ↦ let is = w.end-is in let least = w.min-end.ensures in omega (arith, is, least)
      | in_default w ↦ let is = w.end-is in omega (arith, is)
    ] in
    one_fails c.args.count c.loop-n.n _ within (sym c.has_length.ensures ∙ c.if-not-has_length.true)

pub returns : goal.returns
returns c =
    let m = c.args.self.now.place.module.now in
    let context = c.args.self.now.state.now.context in
    let each : (i : ℕ) → i < c.args.count → has_length_further m context c.args.first c.args.length i ≡ true =
    elim c.match-first.branch [
      | in-Parameter w ↦ λ i low.
          let is = w.end-is in
          let least = w.min-end.ensures in
          ap (λ (e : EndKind). is_length c.args.length (message_length m context (further e i))) w.in-Parameter.is
          ∙ ap (is_length c.args.length) (one_length m context w.in-Parameter.number (w.in-Parameter.element + i)
          (w.in-Parameter.element + 0))
          ∙ sym (ap (λ (e : EndKind). is_length c.args.length (message_length m context (further e 0)))
          w.in-Parameter.is)
          ∙ c.loop-n.invariant 0 (omega (arith, is, least))
      | in_default w ↦ λ i low. c.loop-n.invariant i (let is = w.end-is in omega (arith, is))
    ] in
    sym (all_from c.args.count _ each)
