use Rattle.std.proofs.Common.{IfSome, ◌≡◌, ◌∙◌, List, [], ◌∷◌, map, length, Option, Some, None, sym, ap, subst, Bor}
use Rattle.std.proofs.Common.{arith}
use Rattle.std.specs.Prelude.{slice_get}
use Rattle.std.specs.Option.{option_copied}
use Rattle.module_format.specs.Rows.{LabelRow}
use Rattle.module_format.specs.Contents.{Contents, label_of}
use Rattle.std.specs.List.{AllByRecursion}
use Rattle.states.specs.Rows.{IsRowOf}
use Rattle.machine_cases.proofs.following.first_label.Goals as goal

first_of : (m : Contents) (rows : List LabelRow) (found : Option (Bor LabelRow))
    → AllByRecursion (IsRowOf m) (map label_of rows) → option_copied found ≡ slice_get rows 0
    → IfSome found (λ row. IsRowOf m (label_of row.now))
first_of m rows None all e = tt
first_of m [] (Some row) all e = absurd (cc)
first_of m (r ∷ rows) (Some row) all e =
    let same : row.now ≡ r = cc in
    subst (λ (x : LabelRow). IsRowOf m (label_of x)) (sym same) all.0

pub returns : goal.returns
returns c =
    let is = ap (λ m. m.labels) (sym c.tables.ensures.contents) ∙ ap (map label_of) (sym c.deref.ensures.value) in
    first_of c.args.module.now c.deref.result.now c.first.result
    (subst (AllByRecursion (IsRowOf c.args.module.now)) is
    (c.label_rows_are_sound.ensures.each c.args.module.now c.tables.ensures.kept)) c.first.ensures.value
