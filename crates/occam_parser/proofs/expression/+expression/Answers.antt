use Rattle.std.proofs.Common.{◌≡◌, ◌-◌, map, sym, refl, ap, subst}
use Rattle.std.proofs.Common.{arith, ◌∙◌}
use Rattle.std.proofs.lemmas.Result.{err_from_is_err_and}
use Rattle.occam_parser.specs.Terminals.{terminals_of}
use Rattle.occam_parser.specs.Expressions.{Two}
use Rattle.occam_parser.specs.Views.{expression_of, term_of, with_others}
use Rattle.occam_parser.specs.Reading.{up_to, term_at, operand_within, expression_at}
use Rattle.occam_parser.proofs.Levels.{inner_below, inner_none, operand_below, fails_on, up_to_none, converted_fails}
use Rattle.occam_parser.proofs.Levels.{converted_found}
use Rattle.occam_parser.proofs.Carried.{seen_up_to, made_gives}
use Rattle.occam_parser.proofs.ListsAreRead.{Chains, chain_begins, chain_goes_on, chain_fails, chain_ends}
use Rattle.occam_parser.proofs.Seen.{no_more, chain_pushed, view-Chain, view-Converted}
use Rattle.occam_parser.proofs.expression.+expression.Goals as goal

pub chain-loop-after-init : goal.chain-loop-after-init
chain-loop-after-init t c = record {
  within = c.in_ok-second.ensures.within;
  same = refl;
  reads =
      let begun = chain_begins (term_at c.args.levels) c.args.operator c.args.mark (term_of c.args.first)
      (terminals_of c.args.tokens.now) (terminals_of c.in_ok-second.rest.now) (term_of c.in_ok-second.second)
      c.in_ok-second.ensures.found (no_more c.in_ok-second.rest.now c.args.tokens.now c.in_ok-second.ensures.within) in
      rw c.new-others.ensures.items begun;
}

pub chain-returns-in_err-other-clause-found : goal.chain-returns-in_err-other-clause-found
chain-returns-in_err-other-clause-found t c =
    let p = err_from_is_err_and c.from_residual-in_err-other.result c.from_residual-in_err-other.ensures.1 in
    rw (p.1, p.2)
    (fails_on _ _ _
    (λ none. chain_fails (term_at c.args.levels) c.args.operator c.args.mark (term_of c.args.first)
    (terminals_of c.args.tokens.now) (terminals_of c.loop-after.rest.now) (terminals_of c.in-Some.after.now) _
    (sym c.in-Some.ensures.behind) none c.loop-after.invariant.reads)
    c.in_err-other.ensures.found)

pub chain-loop-after-preserved : goal.chain-loop-after-preserved
chain-loop-after-preserved t c = record {
  within = omega (arith, c.in_ok-other.ensures.within, c.in-Some.ensures.shorter);
  same = c.loop-after.invariant.same;
  reads =
      chain_pushed (term_at c.args.levels) c.args.operator c.args.mark (term_of c.args.first)
      (terminals_of c.args.tokens.now) (terminals_of c.loop-after.rest.now) (terminals_of c.in-Some.after.now)
      (terminals_of c.in_ok-other.behind.now) _ c.loop-after.others.items c.push.new.self.items c.in_ok-other.other
      c.in_ok-push.ensures.items (sym c.in-Some.ensures.behind) c.in_ok-other.ensures.found
      (no_more c.in_ok-other.behind.now c.in-Some.after.now c.in_ok-other.ensures.within)
      c.loop-after.invariant.reads;
}

pub chain-returns-clause-found : goal.chain-returns-clause-found
chain-returns-clause-found t c =
    let done = chain_ends (term_at c.args.levels) c.args.operator c.args.mark (term_of c.args.first)
    (terminals_of c.args.tokens.now) (terminals_of c.loop-after.rest.now) _
    (sym c.in_default.ensures.behind) c.loop-after.invariant.reads in
    made_gives _ _ c.loop-after.rest c.made_of.result _
    (view-Chain _ _ _ _) c.made_of.ensures
    (rw c.loop-after.invariant.same done)

pub deeper-returns-clause-found : goal.deeper-returns-clause-found
deeper-returns-clause-found t c =
    let ts = terminals_of c.args.tokens.now in
    let below = inner_below c.args.levels ts (omega arith) in
    rw (ap (up_to c.args.close) below)
    (seen_up_to expression_of c.args.close c.nested.result c.up_to.result (expression_at (c.args.levels - 1) ts)
    c.nested.ensures.found c.up_to.ensures)

pub converted-returns-in_err-inner-clause-found : goal.converted-returns-in_err-inner-clause-found
converted-returns-in_err-inner-clause-found t c =
    let ts = terminals_of c.args.tokens.now in
    let p = err_from_is_err_and c.from_residual.result c.from_residual.ensures.1 in
    rw (p.1, p.2) (fails_on _ _ _ (λ none. converted_fails (operand_within c.args.levels) c.args.to ts
    (operand_below c.args.levels ts (omega arith) ∙ none)) c.in_err-inner.ensures.found)

pub converted-returns-clause-found : goal.converted-returns-clause-found
converted-returns-clause-found t c =
    let ts = terminals_of c.args.tokens.now in
    let found = converted_found (operand_within c.args.levels) c.args.to ts _ _
    (operand_below c.args.levels ts (omega arith) ∙ c.in_ok-inner.ensures.found) in
    rw view-Converted (rw c.in_ok-operand.ensures.ok found)

pub deeper-returns-then-levels-eq0-clause-found : goal.deeper-returns-then-levels-eq0-clause-found
deeper-returns-then-levels-eq0-clause-found t c =
    up_to_none c.args.close _ (inner_none c.args.levels (terminals_of c.args.tokens.now) c.if-levels-eq0.true)
