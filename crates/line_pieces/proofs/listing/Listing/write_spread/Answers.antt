use Rattle.std.proofs.Common.{◌≡◌, ◌-◌, ◌++◌, min, arith, ap, ◌∙◌}
use Rattle.code_pieces.specs.Pieces.{moves}
use Rattle.line_pieces.proofs.SpreadOut.{spread_more}
use Rattle.line_pieces.proofs.listing.Listing.write_spread.Goals as goal

pub loop-done-preserved : goal.loop-done-preserved
loop-done-preserved c =
    let least : c.min-more.result ≡ min c.loop-done.done (c.args.count - c.loop-done.done) = omega arith in
    record {
      some = omega arith;
      written = spread_more c.args.word c.args.count c.loop-done.done c.min-more.result _ c.loop-done.self
          c.write_moves.new.self c.loop-done-test.true c.loop-done.invariant.some least c.loop-done.invariant.written
          (c.in_ok-write_moves.ensures
          ∙ ap (λ w. c.loop-done.self ++ moves c.min-more.result c.args.word w) c.word_after.ensures);
    }
