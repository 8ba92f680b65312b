-- A replicated SEQ: its loop.
use Rattle.std.proofs.Common.{◌≡◌, ℕ, suc, ◌+◌, ◌≤◌, ℤ, pos, Bool, true, List, [], ◌∷◌, ◌++◌, length}
use Rattle.std.proofs.Common.{Option, Some, inl, inr, refl, sym, ap, subst, ◌∙◌, arith}
use Rattle.std.specs.Prelude.{slice_get}
use Rattle.word_arithmetic.specs.Range.{Ends, IsRange}
use Rattle.module_format.specs.declared.limits.TheConstants.{MAX_DATA_WORDS}
use Rattle.module_format.specs.declared.fact.Fact.TheVariants.{Number}
use Rattle.states.specs.declared.known.WordFact.TheVariants.{Alone}
use Rattle.states.specs.State.{Facts, known}
use Rattle.occam_parser.specs.declared.tree.ValueType.{ValueType}
use Rattle.occam_parser.specs.declared.tree.ValueType.TheVariants as value_type
use Rattle.occam_parser.specs.Lines.{Replicator}
use Rattle.occam_parser.specs.Blocks.{Plain, Process}
use Rattle.occam_parser.specs.Words.{process_has_words}
use Rattle.scalar_ranges.specs.declared.types.ExprType.TheVariants as types
use Rattle.scalar_ranges.specs.declared.scope.ScalarKind.TheVariants as kinds
use Rattle.scalar_ranges.specs.Entries.{Entry, Meaning, Scalar}
use Rattle.scalar_ranges.specs.MoveLaws.{shape}
use Rattle.scalar_ranges.specs.Moves.{begin_loop, outermost, widen}
use Rattle.scalar_ranges.proofs.MoveLaws.{shapes_stay}
use Rattle.scalar_ranges.proofs.Nesting.{long_alike}
use Rattle.program_uses.specs.Constants.{value_as}
use Rattle.program_uses.specs.Indices.{index_range}
use Rattle.program_meaning.specs.Sequential.{IsSequential}
use Rattle.program_meaning.proofs.MovesWithin.{within_same, within_shape}
use Rattle.usage_checks.specs.AfterProcesses.{inside}
use Rattle.usage_checks.specs.Reaching.{AComponent, Reaches, to_process}
use Rattle.usage_checks.specs.TypedRanges.{AreInTypes}
use Rattle.usage_checks.proofs.RangesStay.{all_but_one, left_is, ranges_stay}
use Rattle.usage_checks.proofs.TypedMoves.{typed_left, typed_widen}
use Rattle.code_pieces.specs.Numbers.{turns_at}
use Rattle.code_pieces.specs.Pieces.{Code, LoopBack, Row, counted, points, stores, word_after}
use Rattle.line_pieces.specs.Declarations.{facts_in}
use Rattle.line_pieces.specs.Homes.{Block, Home, count_in, facts_of}
use Rattle.code_generator.specs.Processes.{Site, in_loop, loop_start, process_code}
use Rattle.meant_lines.proofs.Housing.{get_last}
use Rattle.certified_lines.specs.Instructions.{word_pointer}
use Rattle.certified_lines.specs.Scopes.{AreKnownThere, HasTurns, HoldsScope, IsScalarKnown, Scene, loop_of}
use Rattle.certified_lines.specs.StraightRules.{Told, with_pushed}
use Rattle.certified_lines.specs.Telling.{IsAllowed}
use Rattle.certified_lines.proofs.Telling.{few_counted, scopes_stay}
use Rattle.certified_modules.specs.Passing.{EndsTurn, OpenLabel, after_turns, straight, told_by}
use Rattle.certified_modules.specs.RowsSay.{Enters, Implies}
use Rattle.certified_modules.proofs.Shapes.{loops_pass}
use Rattle.certified_scopes.specs.Processes.{at_head, changed_in, turn_ended}
use Rattle.certified_scopes.specs.Settled.{IsSettled}
use Rattle.certified_scopes.specs.Within.{LieWithin, TellsMore, indices_of}
use Rattle.certified_scopes.proofs.Indices.{indices_stay}
use Rattle.certified_scopes.proofs.Kept.{left_scopes_are_held}
use Rattle.certified_scopes.proofs.ProcessesKeep.{indices_are_kept}
use Rattle.certified_scopes.proofs.Settled.{blocks_are_settled}
use Rattle.certified_scopes.proofs.TurnsWithin.{turns_lie_within}
use Rattle.certified_scopes.proofs.Within.{lies_long, scopes_lie_within}
use Rattle.meant_processes.specs.Places.{AllFit, standing, surroundings}
use Rattle.certified_processes.specs.Places.{Coded, IsInRoot, bare_scene, scene}
use Rattle.certified_processes.proofs.There.{IsThere}
use Rattle.certified_processes.specs.ProcessesPass.{PassesTo, left_by}
use Rattle.certified_processes.proofs.Choices.{sound_moved}
use Rattle.certified_processes.proofs.There.{IsSound}
use Rattle.certified_processes.proofs.Lines.{row_entries, row_tells}
use Rattle.certified_processes.proofs.LoopRows.{head_turns, last_is, loop_starts, turns_stay}
use Rattle.certified_processes.proofs.Ordered.{left_ordered, scope_ordered, widen_ordered}
use Rattle.certified_processes.proofs.Placing.{placed_more, placed_ordered}
use Rattle.certified_processes.proofs.Rows.{scopes_enter_loops, scopes_imply_rows}
use Rattle.certified_processes.proofs.Sequences.{ProcessGoes}

-- what is known of an index is known where as much is known
index_known : (g : Scene) (f : Facts) (o : Option Home) (m : Meaning) (type : ValueType) (range : Ends)
    → AreKnownThere g f o m → TellsMore m (Scalar kinds.Index type range)
    → AreKnownThere g f o (Scalar kinds.Index type range)
index_known g f o m type range is (inl same) = subst (λ (k : Meaning). AreKnownThere g f o k) same is
index_known g f o (Scalar kind t r) type range is (inr h) = absurd (h.2 refl)
index_known g f o m type range is (inr h) = absurd h

first_known : (g : Scene) (f : Facts) (hs : List Home) (h : Home) (ds es : List Entry) (name : List ℕ)
    (type : ValueType) (range : Ends) → length hs ≡ length es
    → LieWithin ds (record { name = name; meaning = Scalar kinds.Index type range } ∷ es)
    → HoldsScope (record g { homes = hs ++ h ∷ [] }) ds f → IsScalarKnown g f h range
first_known g f hs h [] es name type range long lies holds = absurd lies
first_known g f hs h (d ∷ ds) es name type range long lies holds =
    let same = lies_long ds es lies.1 in
    subst (λ (o : Option Home). AreKnownThere g f o (Scalar kinds.Index type range))
    (get_last hs h (length ds) (long ∙ sym same))
    (index_known g f (slice_get (hs ++ h ∷ []) (length ds)) d.meaning type range holds.0 lies.0)

-- A loop at a site, whose body is reached.
module _ (p : Coded) (root : IsInRoot p) (q : Process) (r : Replicator) (s : Site) (placed : IsThere p s)
    (counts_turns : Bool) where
  abbrev ns : List ℕ
  ns = changed_in p.program.around r (Plain q) s.known

  abbrev wide : List Entry
  wide = widen ns s.known.entries

  abbrev pub indices : Ends
  indices = index_range (value_as s.known.entries types.Int r.base) (value_as s.known.entries types.Int r.count)

  abbrev index : Meaning
  index = Scalar kinds.Index value_type.Int indices

  abbrev pub body_site : Site
  body_site = in_loop s (begin_loop ns s.known) r.name index

  -- what is known of the loop
  pub record Loop : Type 0 where
    pub reached : Reaches p.program.items (standing p.program) (AComponent (Plain q))
        (at_head p.program.around r (Plain q) counts_turns s.known)
    pub goes : ProcessGoes p q
    pub sequential : IsSequential q
    pub words : process_has_words q ≡ true
    pub typed : AreInTypes s.known.entries
    pub ranged : IsRange indices
    pub turns : HasTurns indices
    pub room : s.frame.top + 2 ≤ p.program.words
    pub next : IsAllowed (bare_scene p) (stores (word_after s.frame.top 1))

  module _ (l : Loop) where
    few_words : s.frame.top + 2 ≤ MAX_DATA_WORDS
    few_words = let room = l.room in let few = root.few in omega (arith, room, few)

    -- what is known where the body begins is sound
    pub wide_sound : IsSound p s wide
    wide_sound =
        sound_moved p s wide placed (shapes_stay.widening s.known.entries ns) (indices_stay.widening ns s.known.entries)
        (typed_widen ns s.known.entries l.typed) (widen_ordered ns s.known.entries (placed_ordered p s placed))

    wide_long : length wide ≡ length s.known.entries
    wide_long = long_alike wide s.known.entries (shapes_stay.widening s.known.entries ns)

    settled_inside : IsSettled (bare_scene p) body_site.frame body_site.known.entries
    settled_inside =
        blocks_are_settled (bare_scene p) s.frame wide r.name value_type.Int indices s.label root.founded l.next
        l.ranged
        l.turns wide_sound.settled

    top_is : body_site.frame.top ≡ s.frame.top + 2
    unfolding word_after counted
    top_is = let few = few_words in omega (arith, few)

    placed_inside : IsThere p body_site
    placed_inside =
        let room = l.room in
        let top = top_is in
        let few = root.few in
        placed_more p s body_site (Block s.frame.top s.label) (record { name = r.name; meaning = index }) wide placed
        (omega arith) (omega arith) refl refl refl (shapes_stay.widening s.known.entries ns) tt tt tt (omega arith)
        (omega (arith, room, top, few)) body_site.frame.top (omega (arith, room, top)) (omega arith) settled_inside
        settled_inside

    -- ---- where a turn ends

    abbrev ended : List Entry
    ended = left_by p q body_site

    here_low : length wide ≤ suc (length wide)
    here_low = omega arith

    ended_is : (turn_ended p.program.around r (Plain q) counts_turns s.known).entries ≡ ended
    ended_is =
        let stays = ranges_stay.processes p.program.around q body_site.known here_low in
        left_is _ body_site.known (inside p.program.around q body_site.known) stays here_low

    lies : AreInTypes ended → LieWithin ended body_site.known.entries
        × LieWithin (outermost (length s.known.entries) ended) wide
    lies typed =
        subst (λ (es : List Entry). LieWithin es body_site.known.entries
        × LieWithin (outermost (length s.known.entries) es) wide) ended_is
        (turns_lie_within _ p.program.around r (Plain q) counts_turns s.known tt l.sequential
        (subst AreInTypes (sym ended_is) typed))

    -- the names around the loop, where a turn ends
    outer_sound : AreInTypes ended → IsSettled (bare_scene p) body_site.frame ended
        → IsSound p s (outermost (length s.known.entries) ended)
    outer_sound typed settled =
        let n = length s.known.entries in
        let m = body_site.known in
        let cut : outermost n m.entries ≡ wide =
        all_but_one n (record { name = r.name; meaning = index }) wide wide_long in
        let stays = ranges_stay.processes p.program.around q m here_low in
        sound_moved p s (outermost n ended) placed
        (shapes_stay.leaving ended m.entries n (within_shape _ ended m.entries stays.within) ∙ ap shape cut
        ∙ shapes_stay.widening s.known.entries ns)
        (indices_stay.leaving n ended m.entries (indices_are_kept.processes p.program.around q m l.sequential here_low)
        ∙ ap (λ (es : List Entry). indices_of es) cut ∙ indices_stay.widening ns s.known.entries)
        (typed_left n ended typed)
        (left_ordered n ended (scope_ordered (scene p body_site) settled.end ended settled.scope))

    -- The turns of the loop, from what is told before it to the row behind it.
    pub loop_passes : (base : ℤ) (count : ℕ) (opened : List OpenLabel) (before : Told) (body : Code)
        → indices.lo ≡ base → count_in indices ≡ count
        → process_code (surroundings p.program) q body_site ≡ Some body → AllFit p.program body.pieces
        → HoldsScope (scene p s) s.known.entries before.frame
        → PassesTo p s.frame wide opened
        ((loop_start s.frame.top base (pos count)
        ++ Row s.label (facts_in body_site.frame body_site.known.entries) ∷ [])
        ++ (body.pieces ++ points s.frame.top ∷ LoopBack s.label (s.label + 1)
        ∷ Row (s.label + 1) (facts_in s.frame wide) ∷ [])) before
    loop_passes base count opened before body first counts is fit holds =
        let top = s.frame.top in
        let es = s.known.entries in
        let g = scene p s in
        let m = body_site.known in
        let few = few_words in
        let room = l.room in
        let entries = facts_in body_site.frame m.entries in
        let left = facts_in s.frame wide in
        let first_may = root.uses.writes top (omega arith) (omega (arith, room)) in
        let second_may = root.uses.writes (top + 1) (omega arith) (omega (arith, room)) in
        let start = loop_starts p.passage.setting top base (pos count) before (omega (arith, few)) first_may
        second_may in
        let scope = placed.settled.scope in
        let started : HoldsScope g es start.after.frame =
        scopes_stay g placed.settled.end top es before.frame start.after.frame scope placed.settled.under start.stay
        holds in
        let row : entries ≡ facts_of body_site.frame.homes m.entries = row_entries p body_site m.entries
        placed_inside in
        let enters : Enters p.passage.weights start.after.frame s.label (count_in indices) entries =
        subst (Enters p.passage.weights start.after.frame s.label (count_in indices)) (sym row)
        (scopes_enter_loops g es wide r.name value_type.Int indices top s.label start.after.frame
        wide_sound.settled.long
        wide_sound.settled.loops (scopes_lie_within.widened ns es es (within_same ns es) refl l.typed) started (
          start.index ∙ ap (λ (v : ℤ). Alone (Number v v)) (sym first),
          start.count_is ∙ ap (λ (n : ℕ). Alone (Number (pos n) (pos n))) (sym counts),
        )) in
        let run = l.goes.passes (length m.entries) body_site opened (told_by p.passage entries) body
        (to_process (standing p.program) (Plain q) m l.reached) l.sequential l.words placed_inside is fit
        (row_tells p body_site m.entries placed_inside settled_inside) in
        let within = lies run.typed in
        let block = first_known g run.after.frame s.frame.homes (Block top s.label) ended wide r.name value_type.Int
        indices
        wide_sound.settled.long within.0 run.holds in
        let outer = outer_sound run.typed run.settled in
        let left_behind : HoldsScope g (outermost (length es) ended) run.after.frame =
        subst (λ (n : ℕ). HoldsScope g (outermost n ended) run.after.frame) placed.settled.long
        (left_scopes_are_held g (Block top s.label ∷ []) ended run.after.frame run.holds) in
        let turned : HoldsScope g (outermost (length es) ended) (after_turns top indices.hi run.after.frame) =
        scopes_stay g outer.settled.end top (outermost (length es) ended) run.after.frame
        (after_turns top indices.hi run.after.frame) outer.settled.scope outer.settled.under
        (turns_stay top indices.hi run.after.frame) left_behind in
        let ends : EndsTurn p.passage s.label entries top indices.hi
        (with_pushed (known (word_pointer top)) run.after) = record {
          loop = loop_of g s.label indices;
          weight = refl;
          block = refl;
          index = block.0;
          count = block.1;
          ends = last_is g s.label indices l.ranged l.turns;
          writes_index = first_may;
          writes_count = second_may;
          again = subst (Implies p.passage.weights run.after.frame) (sym row)
              (scopes_imply_rows (scene p body_site) ended m.entries run.after.frame settled_inside.loops within.0
              run.holds);
        } in
        record {
          after = told_by p.passage left;
          passes = loops_pass p.passage opened s.label (s.label + 1) (count_in indices) top indices.hi entries left
              (loop_start top base (pos count)) body.pieces before start.after run.after (straight start.falls) enters
              (ap (turns_at s.label) row
              ∙ head_turns s.frame.homes wide r.name kinds.Index value_type.Int indices top s.label
              wide_sound.settled.long placed.heads) run.passes (few_counted top (omega (arith, few)))
              (omega (arith, few)) ends
              (subst (Implies p.passage.weights (after_turns top indices.hi run.after.frame))
              (sym (row_entries p s wide placed))
              (scopes_imply_rows g (outermost (length es) ended) wide (after_turns top indices.hi run.after.frame)
              wide_sound.settled.loops within.1 turned));
          holds = row_tells p s wide placed wide_sound.settled;
          settled = wide_sound.settled;
          typed = wide_sound.typed;
        }
