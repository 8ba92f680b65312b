-- The module of a sequential program's pieces is certified.
use Rattle.std.proofs.Common.{◌≡◌, List, [], ◌∷◌}
use Rattle.std.specs.List.{AllByRecursion}
use Rattle.code_pieces.specs.Laying.{apart, pars_of, words_taken}
use Rattle.code_pieces.specs.LaidModule.{laid_module}
use Rattle.code_pieces.specs.Pieces.{Piece, Within, Par}
use Rattle.placed_code.specs.Closing.{first_point}
use Rattle.placed_code.specs.LaidCode.{laid_code}
use Rattle.meant_code.specs.Labels.{ArePlain, IsPlain}
use Rattle.meant_code.proofs.OwnPrograms.{labels_stay_once, programs_are_own}
use Rattle.meant_programs.proofs.MainMemory.{memory_begins}
use Rattle.valid_code.proofs.WellFormed.{operands_are_words}
use Rattle.verifier.proofs.Judging.{not_both}
use Rattle.certified_modules.proofs.ApartCertified.{pieces_kept_apart_are_certified}
use Rattle.certified_modules.proofs.PieceLists.{IsAlone, no_pars}
use Rattle.certified_programs.specs.Foundations.{root_scene}
use Rattle.certified_programs.specs.Programs.{ProgramsAreCertified, ProgramsAreNotRefused}
use Rattle.certified_programs.proofs.Foundations.{roots_are_founded}
use Rattle.certified_programs.proofs.FullPrograms.{no_table_is_empty}
use Rattle.certified_programs.proofs.Items.{main_is_settled}
use Rattle.certified_programs.proofs.Mains.{main_passes}

-- ---- one process

plain_alone : (p : Piece) → IsPlain p → IsAlone p
plain_alone (Within workspace) plain = plain
plain_alone (Par par) plain = plain
plain_alone p plain = tt

all_alone : (ps : List Piece) → ArePlain ps → AllByRecursion IsAlone ps
all_alone [] plain = tt
all_alone (p ∷ ps) plain = (plain_alone p plain.0, all_alone ps plain.1)

-- ---- the whole

pub programs_are_certified : ProgramsAreCertified
programs_are_certified items code links bytes none sequential has_words is fit lengths says =
    let ps = apart code.pieces in
    let a = says.arrangement in
    let footing = (laid_code ps code.labels a.lengths 0).footing in
    let memory = (first_point (laid_module ps code.labels links a)).held.memory in
    let alone : pars_of ps ≡ [] = no_pars ps (all_alone ps (programs_are_own items code is).1.plain) in
    let founded = roots_are_founded ps code.labels links bytes says [] alone in
    let g = root_scene ps code.labels links a [] in
    let main = main_is_settled items code footing (words_taken ps) ps memory g founded none sequential has_words is
    (memory_begins ps code.labels links bytes says) in
    pieces_kept_apart_are_certified code.pieces code.labels links bytes says (labels_stay_once items code is)
    (operands_are_words items code is fit) (no_table_is_empty items code none sequential has_words is)
    (main_passes items code links bytes none has_words lengths says alone memory main)

pub programs_are_not_refused : ProgramsAreNotRefused
programs_are_not_refused items code links bytes none sequential has_words is fit lengths says rule at =
    not_both (laid_module (apart code.pieces) code.labels links says.arrangement) rule at
    (programs_are_certified items code links bytes none sequential has_words is fit lengths says)
