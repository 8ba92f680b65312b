-- Main's code does what main does, and where that leaves names, the module finishes next.
use Rattle.std.proofs.Common.{◌≡◌, ℕ, ◌<◌, ℤ, pos, true, List, [], ◌∷◌, length, Some}
use Rattle.std.proofs.Common.{inl, inr, refl, sym, subst, ap, ◌∙◌}
use Rattle.std.specs.List.{AllByRecursion}
use Rattle.std.proofs.lemmas.Bool.{cases_lt}
use Rattle.std.proofs.lemmas.List.{append-nil}
use Rattle.std.proofs.Math.ListN.{drop_of_length-le}
use Rattle.prefix_decoder.specs.Fetching.{if_spelled_once, read}
use Rattle.prefix_decoder.specs.declared.function.Fun.{Fun}
use Rattle.prefix_decoder.specs.declared.function.Fun.TheVariants as fun
use Rattle.machine_state.specs.Instructions.{instruction_of, op_of}
use Rattle.module_builder.specs.Layouts.{offset}
use Rattle.occam_parser.specs.Blocks.{ProgramItem}
use Rattle.scalar_ranges.specs.Environments.{Environment}
use Rattle.usage_checks.specs.ItemRules.{BreaksNoRule, in_body}
use Rattle.usage_checks.specs.Reaching.{to_body}
use Rattle.code_pieces.specs.declared.operations.TheConstants.{STOP_PROCESS}
use Rattle.code_pieces.specs.Pars.{in_root}
use Rattle.code_pieces.specs.Pieces.{Code, Piece, operates}
use Rattle.code_pieces.specs.Laying.{apart, draft_code, tables_before}
use Rattle.code_pieces.specs.Laying.{words_taken}
use Rattle.code_pieces.specs.LaidModule.{Says, laid_module}
use Rattle.code_pieces.proofs.AllOfPieces.{all_first}
use Rattle.code_generator.specs.Programs.{code_of}
use Rattle.code_generator.specs.Processes.{Site, process_code}
use Rattle.placed_code.specs.Behaves.{Finishes, over}
use Rattle.placed_code.specs.Closing.{first_point}
use Rattle.placed_code.specs.LaidCode as laid
use Rattle.placed_code.specs.LaidCode.{LaidCode, Fetches, Lie, item_count, laid_code}
use Rattle.placed_code.specs.Points.{Point}
use Rattle.placed_code.specs.StraightPieces.{Held}
use Rattle.placed_code.proofs.Finishing.{length-spelled}
use Rattle.placed_code.proofs.PiecesLie.{length-items, pieces_lie}
use Rattle.meant_lines.proofs.PartsStand.{code_stores_within, parts_stand}
use Rattle.meant_code.proofs.RowsApart.{unfilled}
use Rattle.meant_code.specs.OwnCode.{OperandFits}
use Rattle.meant_code.proofs.AmongOthers.{parts_stay_parts}
use Rattle.meant_code.proofs.OwnPrograms.{labels_stay_once}
use Rattle.meant_processes.specs.Lying.{LieApart}
use Rattle.meant_processes.specs.Places.{AllFit, CarriedAt, FitsIn, Program, ground, surroundings}
use Rattle.meant_processes.proofs.Behaving.{goes_on_behind}
use Rattle.meant_processes.proofs.CodeParts.{closed_is}
use Rattle.meant_processes.proofs.Lying.{apart_both, pieces_lie_apart, straight_lie}
use Rattle.meant_processes.proofs.Processes.{processes_behave}
use Rattle.meant_runs.specs.MainsRun.{MainBehaves}
use Rattle.meant_programs.specs.Mains.{FoundMain}
use Rattle.meant_programs.proofs.MainPlaces.{main_carried, main_names, main_placed, main_program, main_site}

-- ---- the end of code

-- what is fetched and ends with the code begins before that
fetched_before : (code : List ℕ) (at to : ℕ) (f : Fun) (e : ℤ) → Fetches code at f e to → to ≡ length code
    → at < length code
fetched_before code at to f e there same = elim (cases_lt at (length code)) [
  | inl less ↦ less
  | inr past ↦
      absurd (cc (sym there.there ∙ ap (λ bytes. if_spelled_once bytes (read 8 bytes (pos 0) 0))
      (drop_of_length-le code past)))
]

-- where `stopp` lies at the end, the module finishes
finishes_there : (c : LaidCode) (at to : ℕ) (q : Point) → Lie c at (operates STOP_PROCESS ∷ []) to
    → to ≡ length c.code → q.at ≡ at → Finishes c q
unfolding instruction_of op_of
finishes_there c at to q (laid.more {middle = middle} stop laid.none) ends same = record {
  executes = record {
    function = fun.Operate;
    operand = STOP_PROCESS;
    behind = to;
    fetches = subst (λ n. Fetches c.code n fun.Operate STOP_PROCESS to) (sym same) stop;
    is = refl;
  };
  ends = ends;
}

stop_before : (c : LaidCode) (at to : ℕ) → Lie c at (operates STOP_PROCESS ∷ []) to → to ≡ length c.code
    → at < length c.code
stop_before c at to (laid.more {middle = middle} stop laid.none) ends =
    fetched_before c.code at to fun.Operate STOP_PROCESS stop ends

-- ---- main

module _ (items : List ProgramItem) (code : Code) (links bytes : List ℕ) (none : BreaksNoRule items)
    (is : code_of items ≡ Some code) (says : Says (apart code.pieces) code.labels links bytes)
    (fit : AllByRecursion OperandFits code.pieces) where
  abbrev ps : List Piece
  ps = apart code.pieces

  abbrev c : LaidCode
  c = laid_code ps code.labels says.arrangement.lengths 0

  abbrev end : ℕ
  end = offset says.arrangement.lengths (item_count ps)

  -- all pieces lie from the start of the code to its end
  pieces_apart : LieApart c true 0 code.pieces end
  pieces_apart =
      pieces_lie_apart c true code.pieces 0 end
      (pieces_lie ps code.labels links bytes says [] ps 0 (labels_stay_once items code is)
      (parts_stay_parts items code is [] code.pieces [] (sym (append-nil code.pieces)) fit))

  code_ends : end ≡ length c.code
  code_ends =
      ap (offset says.arrangement.lengths) (sym (length-items (tables_before [] ps) in_root ps))
      ∙ sym (length-spelled (draft_code ps code.labels) says.arrangement.lengths says.arranged.least.fits)

  module _ (found : FoundMain items c.footing (words_taken ps) ps
      (first_point (laid_module ps code.labels links says.arrangement)).held.memory code) where
    abbrev h : Held
    h = (first_point (laid_module ps code.labels links says.arrangement)).held

    abbrev p : Program
    p = main_program items c (words_taken ps) ps h.memory code found

    -- all pieces of the whole stand on it
    all_fit : AllFit p code.pieces
    all_fit =
        unfilled (FitsIn p) true code.pieces
        (parts_stand (ground p [] (λ w. pos 0)) [] ps [] (code_stores_within ps) (sym (append-nil ps)))

    abbrev site : Site
    site = main_site items c (words_taken ps) ps h.memory code found

    abbrev names : Environment
    names = main_names items c (words_taken ps) ps h.memory code found

    carried_there : CarriedAt p site (λ w. pos 0) names h.memory
    carried_there = record { carries = main_carried items c (words_taken ps) ps h.memory code found }

    pub main_behaves : MainBehaves c (first_point (laid_module ps code.labels links says.arrangement)) items
    main_behaves =
        let o = found.main.outside in
        let main = found.main.procedure in
        let stops : List Piece = operates STOP_PROCESS ∷ [] in
        let closed = closed_is stops (process_code (surroundings p) main.body site) code found.main.is in
        let lie = subst (λ qs. LieApart c true 0 qs end) closed.pieces pieces_apart in
        let both = apart_both c true 0 end closed.first.pieces stops lie in
        let stop = straight_lie c both.after_row both.middle end stops (tt, tt) both.second in
        let inside = stop_before c both.middle end stop code_ends in
        let fits = all_first (FitsIn p) closed.first.pieces stops (subst (AllFit p) closed.pieces all_fit) in
        let means = processes_behave p main.body none found.main.sequential found.main.has_words refl
        (length (in_body main o.known).entries) site (λ w. pos 0) names closed.first
        (to_body o main found.main.comes) (main_placed items c (words_taken ps) ps h.memory code found) closed.is
        fits in
        record {
          main = record { ports = p.ports; body = main.body; names = names; runs = found.runs };
          behaves = goes_on_behind c (means.behaves true 0 both.middle h both.first inside carried_there)
              (λ env q came. over (finishes_there c both.middle end q stop code_ends came.0));
        }
