-- The last item of a program.
use Rattle.std.proofs.Common.{◌≡◌, suc, ◌-◌, List, [], ◌∷◌, ◌++◌, length, Some, refl, ap, arith, ◌∙◌, option_and_then}
use Rattle.std.specs.List.{slice_get}
use Rattle.occam_parser.specs.Blocks.{Procedure, ProgramItem, GlobalProcedure}
use Rattle.program_work.specs.Programs.{procedure_in, main_of}

pub main_is_last : (items : List ProgramItem)
    → option_and_then procedure_in (slice_get items (length items - 1)) ≡ main_of items
main_is_last [] = refl
main_is_last (item ∷ []) = refl
main_is_last (item ∷ next ∷ items) =
    let behind : length (item ∷ next ∷ items) - 1 ≡ suc (length items) = omega arith in
    let last : length items ≡ length (next ∷ items) - 1 = omega arith in
    ap (λ n. option_and_then procedure_in (slice_get (item ∷ next ∷ items) n)) behind
    ∙ ap (λ n. option_and_then procedure_in (slice_get (next ∷ items) n)) last ∙ main_is_last (next ∷ items)

pub last_is_main : (before : List ProgramItem) (p : Procedure)
    → main_of (before ++ GlobalProcedure p ∷ []) ≡ Some p
last_is_main [] p = refl
last_is_main (item ∷ []) p = refl
last_is_main (item ∷ next ∷ before) p = last_is_main (next ∷ before) p
