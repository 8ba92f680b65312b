-- The code of main passes, from where nothing is known to where nothing goes on.
use Rattle.std.proofs.Common.{◌≡◌, ℕ, pos, true, List, [], ◌∷◌, length, Some, None}
use Rattle.std.proofs.Common.{refl, sym, subst, arith}
use Rattle.std.specs.List.{AllByRecursion}
use Rattle.std.proofs.lemmas.List.{append-nil}
use Rattle.machine_state.specs.Memory.{Memory}
use Rattle.occam_parser.specs.Blocks.{ProgramItem}
use Rattle.occam_parser.specs.Words.{items_have_words}
use Rattle.scalar_ranges.specs.Environments.{item_at}
use Rattle.scalar_ranges.proofs.MoveLaws.{shape_long}
use Rattle.program_meaning.specs.Links.{Port}
use Rattle.usage_checks.specs.ItemRules.{BreaksNoRule, in_body}
use Rattle.usage_checks.specs.Reaching.{to_body}
use Rattle.usage_checks.proofs.ActionsGoWell.{at_below}
use Rattle.code_pieces.specs.declared.operations.TheConstants.{STOP_PROCESS}
use Rattle.code_pieces.specs.Pieces.{Code, Piece, operates}
use Rattle.code_pieces.specs.Laying.{apart, pars_of, words_taken}
use Rattle.code_pieces.specs.LaidModule.{Says}
use Rattle.code_pieces.proofs.AllOfPieces.{all_first}
use Rattle.line_pieces.specs.Homes.{Block, Home}
use Rattle.code_generator.specs.Processes.{Site, process_code}
use Rattle.placed_code.specs.LaidCode.{LaidCode, laid_code}
use Rattle.meant_lines.proofs.PartsStand.{code_stores_within, parts_stand}
use Rattle.meant_code.proofs.RowsApart.{unfilled}
use Rattle.meant_processes.specs.Places.{AllFit, FitsIn, ground, surroundings}
use Rattle.meant_processes.proofs.CodeParts.{closed_is}
use Rattle.meant_programs.proofs.MainPlaces.{main_placed, main_program, main_site}
use Rattle.certified_scopes.specs.Settled.{HasNoWord}
use Rattle.certified_modules.specs.Certifying.{nothing_told}
use Rattle.certified_modules.specs.Passing.{PassOn, both, stops}
use Rattle.certified_modules.specs.RootRows.{root_passage}
use Rattle.certified_actions.proofs.Roots.{roots_may_schedule, roots_may_use_words}
use Rattle.certified_processes.specs.Places.{Coded, HasEnd, IsHeadBefore, IsInRoot, IsPlaced}
use Rattle.certified_processes.proofs.Processes.{processes_pass}
use Rattle.certified_programs.specs.Foundations.{root_scene}
use Rattle.certified_programs.specs.Mains.{SaysNothing, SettledMain}
use Rattle.certified_programs.specs.Programs.{LinksHaveLengths}
use Rattle.certified_programs.proofs.Foundations.{root_settings_are_roots, roots_are_founded}
use Rattle.certified_programs.proofs.MainScope.{end_there, links_say, port_few, ports_have_lengths}

-- ---- homes

-- no home is the block of a loop
none_before : (label : ℕ) (hs : List Home) → AllByRecursion HasNoWord hs → AllByRecursion (IsHeadBefore label) hs
none_before label [] none = tt
none_before label (h ∷ hs) none = (here h none.0, none_before label hs none.1)
  where
    here : (h : Home) → HasNoWord h → IsHeadBefore label h
    here (Block w head) none = absurd none
    here h none = tt

-- ---- main

module _ (items : List ProgramItem) (code : Code) (links bytes : List ℕ) (none : BreaksNoRule items)
    (literals : items_have_words items ≡ true) (lengths : LinksHaveLengths links items)
    (says : Says (apart code.pieces) code.labels links bytes) (alone : pars_of (apart code.pieces) ≡ []) where
  abbrev ps : List Piece
  ps = apart code.pieces

  abbrev c : LaidCode
  c = laid_code ps code.labels says.arrangement.lengths 0

  module _ (m : Memory) (main : SettledMain items c.footing (words_taken ps) ps m
      (root_scene ps code.labels links says.arrangement []) code) where
    abbrev site : Site
    site = main_site items c (words_taken ps) ps m code main.found

    abbrev coded : Coded
    coded = record {
      program = main_program items c (words_taken ps) ps m code main.found;
      passage = root_passage ps code.labels links says.arrangement;
    }

    -- the scope with its links says nothing of words
    main_says : SaysNothing (root_scene ps code.labels links says.arrangement []) site.frame site.known.entries
    main_says =
        let o = main.found.main.outside in
        links_say (root_scene ps code.labels links says.arrangement []) o.known.entries
        main.found.main.procedure.head.formals main.found.main.frame o.known.entries main.found.main.links main.scope

    main_at : IsPlaced coded site
    main_at =
        let placed = main_placed items c (words_taken ps) ps m code main.found in
        let top = main.found.top in
        record {
          sited = placed.sited;
          outer = main.scope.outer;
          heads = none_before site.label site.frame.homes main_says.wordless;
          room = omega (arith, top);
          settled = main_says.settled;
        }

    has_ends : (n : ℕ) (port : Port) → item_at n coded.program.ports ≡ Some (Some port) → HasEnd coded port
    has_ends n port at =
        let long = ports_have_lengths links main.found.main.names main.found.main.procedure.head.formals n port
        (lengths main.found.main.procedure main.last) at in
        let less = at_below n _ _ (main_at.sited.channels n port at) in
        let shaped = shape_long site.known.entries in
        record {
          length = long;
          end = end_there ps code.labels links says.arrangement alone port
              (port_few coded.program n port _ at (main_at.sited.channels n port at) (omega (arith, less, shaped))
              main_at.sited.linked)
              long;
        }

    in_root : IsInRoot coded
    in_root =
        let few = says.format.keeps.sizes.data_limit in
        let root = root_settings_are_roots ps code.labels links says.arrangement alone in
        record {
          unbroken = none;
          literals = literals;
          root = refl;
          few = omega (arith, few);
          uses = roots_may_use_words coded.passage.setting ps code.labels links says.arrangement 0 (words_taken ps) root
              (omega arith) (omega (arith, few));
          schedules = roots_may_schedule coded.passage.setting ps code.labels links says.arrangement root;
          founded = roots_are_founded ps code.labels links bytes says [] alone;
          ends = has_ends;
          calls = record { callees = main.found.main.callees; count = length main.found.main.callees; is = refl };
        }

    -- all pieces of the whole stand on it
    all_fit : AllFit coded.program code.pieces
    all_fit =
        unfilled (FitsIn coded.program) true code.pieces
        (parts_stand (ground coded.program [] (λ w. pos 0)) [] ps [] (code_stores_within ps) (sym (append-nil ps)))

    -- so they pass
    pub main_passes : PassOn (root_passage ps code.labels links says.arrangement) [] (Some nothing_told) code.pieces
        None
    main_passes =
        let o = main.found.main.outside in
        let p = main.found.main.procedure in
        let last : List Piece = operates STOP_PROCESS ∷ [] in
        let closed = closed_is last (process_code (surroundings coded.program) p.body site) code main.found.main.is in
        let fits = all_first (FitsIn coded.program) closed.first.pieces last
        (subst (AllFit coded.program) closed.pieces all_fit) in
        let passes = processes_pass coded p.body in_root main.found.main.sequential main.found.main.has_words
        (length (in_body p o.known).entries) site [] nothing_told closed.first
        (to_body o p main.found.main.comes) main_at closed.is fits (main_says.holds nothing_told.frame) in
        subst (λ (qs : List Piece). PassOn coded.passage [] (Some nothing_told) qs None)
        (sym closed.pieces) (both passes.passes stops)
