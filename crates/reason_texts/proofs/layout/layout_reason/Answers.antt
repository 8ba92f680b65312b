use Rattle.std.proofs.Common.{◌≡◌, ℕ, List, Option, Err, subst, sym, ap}
use Rattle.occam_layout.specs.declared.fault.LayoutFault.{LayoutFault}
use Rattle.occam_layout.specs.Reading.{read}
use Rattle.reason_texts.specs.declared.layout.LayoutReason.{LayoutReason}
use Rattle.reason_texts.specs.LayoutReasons.{layout_reason, Explains}
use Rattle.reason_texts.proofs.FaultsExplained.{fault_explained}
use Rattle.reason_texts.proofs.layout.layout_reason.Goals as goal

explained : (source : List ℕ) (line : ℕ) (found : Option LayoutReason) (fault : LayoutFault)
    → found ≡ layout_reason source line → read source ≡ Err fault → fault.line ≡ line → Explains fault found
explained source line found fault is_found e same =
    rw (is_found, ← same) (fault_explained source fault e)

pub returns-clause-explains : goal.returns-clause-explains
returns-clause-explains c fault e same =
    explained c.args.source.now c.args.line c.reason_at.result fault c.reason_at.ensures.exact e same
