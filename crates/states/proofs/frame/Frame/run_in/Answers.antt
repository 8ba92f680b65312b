use Rattle.std.proofs.Common.{rules, arith, SFits, refl, ap}
use Rattle.std.proofs.lemmas.Int.{ints, to_z-of_z}
use Rattle.std.specs.Int.{w64}
use Rattle.states.specs.declared.blocks.Block.{Block}
use Rattle.states.specs.Frames.{over_facts}
use Rattle.states.proofs.KnownRuns.{alike-left, alike-became}
use Rattle.states.proofs.frame.Frame.run_in.Goals as goal

pub returns-in-Some-Become : goal.returns-in-Some-Become
returns-in-Some-Become c =
    let frame = c.args.self.now in
    rw (to_z-of_z w64 c.args.end c.ranges.end)
    (record {
      ahead = c.requires.some;
      within = omega (arith, ints);
      same = alike-became frame.lo c.args.word c.args.end frame.by_block.kept.items (over_facts frame) c.args.number
          c.get-left.result.left c.in-Some-Become.fact c.requires.low c.requires.high
          (ap (λ (b : Block). b.left) c.get-left.ensures) (search rules);
    })

pub returns : goal.returns
returns c =
    let frame = c.args.self.now in
    let run = c.in_ok-run.run' in
    let fits : SFits w64 run.end = search rules in
    let holds = rw (to_z-of_z w64 c.args.word c.ranges.word, to_z-of_z w64 c.args.end c.ranges.end)
    at c.in_ok-run.ensures in
    rw (to_z-of_z w64 run.end fits)
    (record {
      ahead = holds.ahead;
      within = holds.within;
      same = alike-left frame.lo c.args.word c.args.end run.end frame.row.now frame.overlay.written.items
          frame.by_block.kept.items c.args.number c.get-left.result.left run.fact c.left_fact.result c.requires.low
          c.requires.high holds.within (ap (λ (b : Block). b.left) c.get-left.ensures) (c.if-is_touched.ensures refl)
          holds.same c.left_fact.ensures;
    })
