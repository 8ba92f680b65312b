use Rattle.std.proofs.Common.{rules, sym, subst, List}
use Rattle.std.proofs.lemmas.List.{nil_from_length}
use Rattle.module_format.specs.Rows.{Entry}
use Rattle.states.specs.Cutting.{IsCutBefore}
use Rattle.states.proofs.CutEntries.{cut-begun, cut-next, cut-done}
use Rattle.states.proofs.cutting.cut.Goals as goal

pub loop-entry-init : goal.loop-entry-init
loop-entry-init c = record {
  order = c.requires.order;
  cut = subst (λ (pieces : List Entry). IsCutBefore c.args.side c.args.intervals.now c.args.entries.now
      c.args.entries.now pieces c.args.intervals.now) (sym c.clear.ensures.items)
      (cut-begun c.args.side c.args.intervals.now c.args.entries.now c.requires.apart);
}

pub loop-entry-preserved : goal.loop-entry-preserved
loop-entry-preserved c = record {
  order = c.in_ok-left.ensures.order;
  cut = cut-next c.args.side c.args.intervals.now c.args.entries.now c.loop-entry.rest.now c.loop-entry.pieces.items
      c.loop-entry.left.now c.in-Some.entry.now c.in-Some.later.now c.cut_entry.new.pieces.items
      c.in_ok-left.left.now c.loop-entry.invariant.cut (search rules) c.in_ok-left.ensures.cut;
}

pub returns : goal.returns
returns c =
    cut-done c.args.side c.args.intervals.now c.args.entries.now c.loop-entry.rest.now c.loop-entry.pieces.items
    c.loop-entry.left.now c.loop-entry.invariant.cut
    (nil_from_length c.loop-entry.rest.now c.in_default.ensures.cases)
