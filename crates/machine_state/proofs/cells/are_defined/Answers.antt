use Rattle.std.proofs.Common.{rules, ◌≡◌, true, false, ap, is_some, arith}
use Rattle.machine_state.proofs.Copying.{all_places-refused, all_places-on, all_places-end}
use Rattle.machine_state.proofs.TaggedCells.{is_defined}
use Rattle.machine_state.proofs.cells.are_defined.Goals as goal

pub loop-k-preserved : goal.loop-k-preserved
loop-k-preserved c =
    let passed : is_some c.byte_at.result ≡ true = search rules in
    all_places-on (is_defined c.args.bytes.now c.args.tags.now) c.args.place c.loop-k.k c.args.count
    (is_some c.byte_at.result) (omega arith) (ap is_some c.byte_at.ensures) passed c.loop-k.invariant

pub returns : goal.returns
returns c =
    all_places-end (is_defined c.args.bytes.now c.args.tags.now) c.args.place c.loop-k.k c.args.count (omega arith)
    c.loop-k.invariant

pub returns-then-is_none : goal.returns-then-is_none
returns-then-is_none c =
    let refused : is_some c.byte_at.result ≡ false = search rules in
    all_places-refused (is_defined c.args.bytes.now c.args.tags.now) c.args.place c.loop-k.k c.args.count
    (is_some c.byte_at.result) (omega arith) (ap is_some c.byte_at.ensures) refused c.loop-k.invariant
