use Rattle.std.proofs.Common.{option_map, sym, ◌∙◌, ap, max, arith, ◌≡◌}
use Rattle.scalar_ranges.specs.Moves.{outermost, begun_with}
use Rattle.scalar_ranges.specs.Scopes.{entries_of, blocks_of, entry_of}
use Rattle.code_generator.proofs.OutermostNames.{next_outermost}
use Rattle.code_generator.proofs.lending.extend.Goals as goal

pub loop-number-init : goal.loop-number-init
loop-number-init c =
    let names = c.args.names.now in
    let none = ap begun_with c.requires.plain in
    let most : max c.args.kept (begun_with (blocks_of names)) ≡ c.args.kept = omega (arith, none) in
    record {
      entries = c.leave.ensures.entries ∙ ap (λ n. outermost n (entries_of names)) most ∙ c.requires.same;
      blocks = c.leave.ensures.blocks ∙ c.requires.plain;
    }

pub loop-number-preserved : goal.loop-number-preserved
loop-number-preserved c = record {
  entries = next_outermost c.loop-number.number (entries_of c.args.scope.now) (entries_of c.loop-number.names)
      (entries_of c.declare_if.new.names) (option_map entry_of c.entry.result) c.loop-number.invariant.entries
      c.entry.ensures c.in_ok-declare_if.ensures.entries;
  blocks = c.declare_if.ensures.blocks ∙ c.loop-number.invariant.blocks;
}
