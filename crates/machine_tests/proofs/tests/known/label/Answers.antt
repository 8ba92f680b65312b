use Rattle.std.proofs.Common.{ℕ, zero, suc, ◌<◌, List, [], ◌∷◌, length, map, get_or, ◌∙◌, sym, ap, subst, arith}
use Rattle.std.specs.List.{AllByRecursion}
use Rattle.module_format.specs.Rows.{LabelRow}
use Rattle.module_format.specs.Contents.{Contents, label_of}
use Rattle.states.specs.Rows.{IsRowOf}
use Rattle.machine_tests.proofs.tests.known.label.Goals as goal

row_at : (m : Contents) (rows : List LabelRow) (i : ℕ) (d : LabelRow)
    → AllByRecursion (IsRowOf m) (map label_of rows) → i < length rows → IsRowOf m (label_of (get_or rows i d))
row_at m [] i d all low = absurd (omega arith)
row_at m (row ∷ rows) zero d all low = all.0
row_at m (row ∷ rows) (suc i) d all low = row_at m rows i d all.1 (omega arith)

pub returns : goal.returns
returns c =
    let labels = ap (λ (m : Contents). m.labels) (sym c.tables.ensures.contents) ∙ ap
    (λ (rows : List LabelRow). map label_of rows) (sym c.as_slice-rows.ensures.value) in
    subst (λ (row : LabelRow). IsRowOf c.args.module.now (label_of row)) (sym c.index-rows-index.is)
    (row_at c.args.module.now c.as_slice-rows.result.now c.args.index c.index-rows-index.result
    (subst (AllByRecursion (IsRowOf c.args.module.now)) labels
    (c.label_rows_are_sound.ensures.each c.args.module.now c.tables.ensures.kept)) c.if-index-rows.false)
