use Rattle.std.proofs.Common.{map, sym, arith}
use Rattle.std.proofs.lemmas.Result.{err_from_is_err_and}
use Rattle.std.proofs.lemmas.List.{map_push}
use Rattle.occam_parser.specs.Terminals.{terminals_of}
use Rattle.occam_parser.proofs.Levels.{fails_on}
use Rattle.occam_parser.proofs.ListsAreRead.{list_begins, list_stops, list_goes_on, list_fails, list_ends}
use Rattle.occam_parser.proofs.Seen.{no_more}
use Rattle.occam_parser.proofs.list.list.Goals as goal

pub returns-in_err-first-clause-found : goal.returns-in_err-first-clause-found
returns-in_err-first-clause-found g c =
    let p = err_from_is_err_and c.from_residual.result c.from_residual.ensures.1 in
    rw (p.1, p.2) (fails_on _ _ _ (λ none. list_stops g.T.FromTokens.reads (terminals_of c.args.tokens.now) none)
    c.in_err-first.ensures.found)

pub loop-after-init : goal.loop-after-init
loop-after-init g c = record {
  within = c.in_ok-first.ensures.within;
  reads =
      let begun = list_begins g.T.FromTokens.reads (terminals_of c.args.tokens.now)
      (terminals_of c.in_ok-first.rest.now) (g.T.FromTokens.tree c.in_ok-first.first) c.in_ok-first.ensures.found
      (no_more c.in_ok-first.rest.now c.args.tokens.now c.in_ok-first.ensures.within) in
      rw c.new-others.ensures.items begun;
}

pub returns-in_err-next-clause-found : goal.returns-in_err-next-clause-found
returns-in_err-next-clause-found g c =
    let p = err_from_is_err_and c.from_residual-in_err-next.result c.from_residual-in_err-next.ensures.1 in
    rw (p.1, p.2)
    (fails_on _ _ _
    (λ none. list_fails g.T.FromTokens.reads (terminals_of c.args.tokens.now) (terminals_of c.loop-after.rest.now)
    (terminals_of c.in-Some.after.now) _ _ (sym c.in-Some.ensures.behind) none c.loop-after.invariant.reads)
    c.in_err-next.ensures.found)

pub loop-after-preserved : goal.loop-after-preserved
loop-after-preserved g c = record {
  within = omega (arith, c.in_ok-next.ensures.within, c.in-Some.ensures.shorter);
  reads =
      let going =
      list_goes_on g.T.FromTokens.reads (terminals_of c.args.tokens.now) (terminals_of c.loop-after.rest.now)
      (terminals_of c.in-Some.after.now) (terminals_of c.in_ok-next.behind.now)
      (g.T.FromTokens.tree c.in_ok-first.first)
      (map g.T.FromTokens.tree c.loop-after.others.items) (g.T.FromTokens.tree c.in_ok-next.next)
      (sym c.in-Some.ensures.behind)
      c.in_ok-next.ensures.found
      (no_more c.in_ok-next.behind.now c.in-Some.after.now c.in_ok-next.ensures.within)
      c.loop-after.invariant.reads
      in
      rw (c.in_ok-push.ensures.items, map_push g.T.FromTokens.tree c.loop-after.others.items c.in_ok-next.next) going;
}

pub returns-clause-found : goal.returns-clause-found
returns-clause-found g c =
    list_ends g.T.FromTokens.reads (terminals_of c.args.tokens.now) (terminals_of c.loop-after.rest.now) _ _
    (sym c.in_default.ensures.behind) c.loop-after.invariant.reads
