-- The pieces of sequential programs are not refused, and so they are made a module.
use Rattle.std.proofs.Common.{◌⊎◌, inl, inr, arith}
use Rattle.module_builder.specs.Assembled.{IsInvalid}
use Rattle.module_builder.specs.Whole.{IsWhole}
use Rattle.code_pieces.specs.Laying.{apart}
use Rattle.meant_code.proofs.AmongOthers.{apart_takes_no_more}
use Rattle.valid_code.specs.Refused.{ProgramsAreMade, ProgramsAreNotRefused}
use Rattle.valid_code.proofs.ValidDrafts.{sequential_drafts_are_valid}
use Rattle.valid_code.proofs.WellFormed.{names_are_there, programs_are_well_formed}
use Rattle.valid_code.proofs.WholeDrafts.{code_is_complete, sequential_drafts_are_whole}

pub programs_are_not_refused : ProgramsAreNotRefused
programs_are_not_refused items c links seq unbroken literals is tables eight (inl incomplete) =
    incomplete (code_is_complete (apart c.pieces) c.labels (names_are_there items c seq unbroken literals is))
programs_are_not_refused items c links seq unbroken literals is tables eight (inr none) = either none.refused
  where
    either : (IsWhole none.draft → ⊥) ⊎ IsInvalid none.draft → ⊥
    either (inl unplaced) =
        unplaced (sequential_drafts_are_whole items c links none.draft none.out seq unbroken literals is)
    either (inr invalid) =
        sequential_drafts_are_valid items c links none.draft none.out seq unbroken literals is tables eight none.needs
        invalid

pub programs_are_made : ProgramsAreMade
programs_are_made items c links seq unbroken literals is tables eight invalid =
    let same = apart_takes_no_more c.pieces in
    let few = invalid.few in
    programs_are_not_refused items c links seq unbroken literals is tables eight
    (invalid.refused (programs_are_well_formed items c seq unbroken literals is (omega (arith, same, few))))
