use Rattle.std.proofs.Common.{rules, arith, ◌≡◌, ◌-ℤ◌, nat_abs}
use Rattle.std.proofs.lemmas.Int.{ints, to_z-of_z}
use Rattle.std.specs.Int.{w64}
use Rattle.states.specs.Frames.{frame_facts}
use Rattle.states.proofs.KnownRuns.{together-run}
use Rattle.states.proofs.frame.Frame.known_piece.Goals as goal

pub returns-clause-all : goal.returns-clause-all
returns-clause-all c =
    let run = c.in_ok-run.run' in
    let holds = rw (to_z-of_z w64 c.args.word c.ranges.word) at c.in_ok-run.ensures in
    let ahead = holds.ahead in
    let count : c.abs_diff.result ≡ nat_abs (run.end -ℤ c.args.word) = search (rules, arith, ints) in
    together-run (frame_facts c.args.self.now) c.args.word run.end run.fact c.abs_diff.result c.of_fact.result
    holds.same ahead count c.of_fact.ensures
