-- Where the pieces of one process pass, the module that says them is certified.
use Rattle.std.proofs.Common.{◌≡◌, ℕ, List, [], ◌++◌, length, Option, Some, None, refl, sym, ap, subst, ◌∙◌}
use Rattle.std.proofs.Common.{arith}
use Rattle.std.specs.List.{AllByRecursion}
use Rattle.std.proofs.lemmas.List.{append-nil}
use Rattle.module_builder.specs.Layouts.{offset}
use Rattle.states.specs.State.{State, root_state}
use Rattle.certified_worlds.specs.Certified.{IsCertified}
use Rattle.code_pieces.specs.Pars.{in_root}
use Rattle.code_pieces.specs.Pieces.{Piece}
use Rattle.code_pieces.specs.LaidModule.{Says, laid_module}
use Rattle.code_pieces.specs.Laying.{draft_code, tables_before}
use Rattle.placed_code.specs.LaidCode.{LabelsArePlacedOnce, StaysAt, item_count}
use Rattle.placed_code.specs.NumbersCover.{needs_after}
use Rattle.code_pieces.specs.Laid.{needs_in}
use Rattle.placed_code.proofs.Finishing.{length-spelled}
use Rattle.placed_code.proofs.PiecesLie.{length-items}
use Rattle.certified_modules.specs.Certifying.{AllPass, HasValues, PassedModulesAreCertified}
use Rattle.certified_modules.specs.Ways.{Passes}
use Rattle.certified_modules.proofs.PieceLists.{IsAlone, passing_alone}
use Rattle.certified_modules.proofs.PiecesPass.{Stands, nowhere, fallen, pieces_move}
use Rattle.certified_modules.proofs.Ways.{ways_certify}

module _ (ps : List Piece) (labels : ℕ) (links bytes : List ℕ) (says : Says ps labels links bytes)
    (once : LabelsArePlacedOnce ps labels) (stays : AllByRecursion (StaysAt 0) ps)
    (filled : AllByRecursion HasValues ps) (pass : AllPass ps labels links says.arrangement) where
  abbrev alone : AllByRecursion IsAlone ps
  alone = passing_alone pass

  -- where nothing is told nothing falls in
  nothing_falls : (front rest : List Piece) (fell : Option State)
      → Stands ps labels links bytes says once stays alone filled front rest None fell → fell ≡ None
  nothing_falls front rest _ nowhere = refl

  certified : IsCertified (laid_module ps labels links says.arrangement)
  certified =
      let m = laid_module ps labels links says.arrangement in
      let lengths : List ℕ = says.arrangement.lengths in
      let all : ps ++ [] ≡ ps = append-nil ps in
      let need : (needs_after [] lengths (ps ++ [])).need ≡ (needs_in ps lengths).need =
      ap (λ (qs : List Piece). (needs_after [] lengths qs).need) all in
      let moves = pieces_move ps labels links bytes says once stays alone filled pass [] [] (Some (root_state m))
      (sym all) tt (fallen {number = (needs_in ps lengths).need} refl (omega (arith, need))) in
      let end : offset lengths (item_count ps) ≡ length m.code =
      ap (λ (n : ℕ). offset lengths n) (sym (length-items (tables_before [] ps) in_root ps))
      ∙ sym (length-spelled (draft_code ps labels) lengths says.arranged.least.fits) in
      ways_certify m (λ n. says.format.keeps.code_bytes n)
      (subst (λ (n : ℕ). Passes m 0 (Some (root_state m)) n None) end
      (subst (λ (o : Option State). Passes m 0 (Some (root_state m)) (offset lengths (item_count ps)) o)
      (nothing_falls ([] ++ ps) [] moves.after moves.stands) moves.way))

pub passed_modules_are_certified : PassedModulesAreCertified
passed_modules_are_certified = certified
