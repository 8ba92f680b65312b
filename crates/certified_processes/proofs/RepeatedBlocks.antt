-- Blocks under a replicator.
use Rattle.std.proofs.Common.{◌≡◌, ℕ, suc, ◌+◌, ◌≤◌, ℤ, pos, ◌+ℤ◌, ◌-ℤ◌, ◌≤ℤ◌, Bool, true, false, cond, ◌&&◌}
use Rattle.std.proofs.Common.{List, [], ◌∷◌, ◌++◌, Option, Some, refl, sym, ap, subst, ◌∙◌, arith}
use Rattle.std.specs.Prelude.{int_le}
use Rattle.std.proofs.lemmas.Bool.{and_parts}
use Rattle.std.proofs.lemmas.Int.{ints}
use Rattle.word_arithmetic.specs.Range.{Ends, InRange, IsRange, constant}
use Rattle.word_arithmetic.specs.Word.{greatest_word, is_word}
use Rattle.occam_layout.specs.declared.mark.Mark.TheVariants as mark
use Rattle.occam_parser.specs.declared.tree.ValueType.TheVariants as value_type
use Rattle.occam_parser.specs.Expressions.{Expression}
use Rattle.occam_parser.specs.Terminals.{Mark}
use Rattle.occam_parser.specs.Lines as lines
use Rattle.occam_parser.specs.Lines.{Constants, Replicator}
use Rattle.occam_parser.specs.Blocks.{Plain, Process}
use Rattle.occam_parser.specs.Words.{has_words}
use Rattle.scalar_ranges.specs.declared.types.ExprType.TheVariants as types
use Rattle.scalar_ranges.specs.Entries.{Constant, Entry}
use Rattle.scalar_ranges.specs.Moves as moves
use Rattle.scalar_ranges.specs.Moves.{Known, after_block, begin_loop, widen}
use Rattle.scalar_ranges.proofs.MoveLaws.{shapes_stay}
use Rattle.program_uses.specs.Constants.{value_as}
use Rattle.program_uses.specs.Indices.{index_range, is_count}
use Rattle.program_meaning.proofs.MovesWithin.{within_same}
use Rattle.usage_checks.specs.Holding.{ReplicatorHolds}
use Rattle.usage_checks.specs.LineRules.{fits_word}
use Rattle.usage_checks.specs.TypedRanges.{AreInTypes, IsInType}
use Rattle.usage_checks.proofs.RangesStay.{body_ended, ranges_stay}
use Rattle.usage_checks.proofs.TypedMoves.{declared_typed, typed_widen}
use Rattle.code_pieces.specs.Pieces.{Code, Piece, Row, counted, closed_by, stores, word_after}
use Rattle.code_pieces.proofs.AllOfPieces.{all_first, all_last}
use Rattle.line_pieces.specs.Declarations.{facts_in}
use Rattle.code_generator.specs.Processes.{Site, has_scalar, loop_code, loop_end, loop_start, no_loop}
use Rattle.code_generator.specs.Processes.{process_code, row_of}
use Rattle.certified_lines.specs.Scopes.{HasTurns, HoldsScope}
use Rattle.certified_lines.specs.StraightRules.{Told}
use Rattle.certified_lines.specs.Telling.{IsAllowed}
use Rattle.certified_modules.specs.Passing.{OpenLabel, PassOn, none, told_by}
use Rattle.certified_modules.specs.RowsSay.{Implies}
use Rattle.certified_modules.proofs.Shapes.{rows_pass}
use Rattle.certified_scopes.specs.Processes.{at_head, changed_in, turn_ended}
use Rattle.certified_scopes.proofs.Indices.{indices_stay}
use Rattle.certified_scopes.proofs.Settled.{indices_have_turns}
use Rattle.certified_scopes.proofs.Within.{scopes_lie_within}
use Rattle.line_pieces.specs.Homes.{count_in}
use Rattle.meant_processes.specs.Places.{AllFit, FitsIn, surroundings}
use Rattle.meant_processes.proofs.CodeParts.{before_is, closed_is, written_is}
use Rattle.certified_processes.specs.Places.{Coded, IsInRoot, bare_scene, scene}
use Rattle.certified_processes.proofs.There.{IsThere}
use Rattle.certified_processes.specs.ProcessesPass.{PassesTo}
use Rattle.certified_processes.proofs.Allowed.{allowed}
use Rattle.certified_processes.proofs.Choices.{sound_moved}
use Rattle.certified_processes.proofs.There.{IsSound}
use Rattle.certified_processes.proofs.Lines.{row_entries, row_tells}
use Rattle.certified_processes.proofs.Loops.{Loop, body_site, loop_passes}
use Rattle.certified_processes.proofs.NoTurns.{no_scalar_widens}
use Rattle.certified_processes.proofs.Ordered.{widen_ordered}
use Rattle.certified_processes.proofs.Placing.{placed_ordered}
use Rattle.certified_processes.proofs.Rows.{scopes_imply_rows}

-- ---- bases and counts

-- A constant that is a number is a word.
pub number_lies : (es : List Entry) (e : Expression) (v : ℤ) → has_words e ≡ true → AreInTypes es
    → value_as es types.Int e ≡ Some v → v ≤ℤ greatest_word
number_lies es e v words typed is =
    let declared = declared_typed
    (Constants (record { line = 0; value_type = value_type.Int; name = []; value = lines.Scalar e })) es words typed in
    let lies : InRange _ v = subst (λ (o : Option ℤ). IsInType (Constant value_type.Int o)) is declared.0 in
    lies.to_hi

at_least_one : (n : ℕ) → int_le (pos 1) (pos (suc n)) ≡ true
at_least_one n = grind (arith, ints)

-- a base and a count from 1 on that break no rule
pub counts_on : (base : ℤ) (n : ℕ)
    → (int_le (pos 0) (pos (suc n)) && fits_word (Some base) (pos (suc n))) ≡ true
    → (is_word base ≡ true) × (is_count base (pos (suc n)) ≡ true)
counts_on base n h =
    let both = and_parts (int_le (pos 0) (pos (suc n))) (fits_word (Some base) (pos (suc n))) h in
    let fits = and_parts (is_word base) (int_le (base +ℤ pos (suc n)) (greatest_word +ℤ pos 1)) both.1 in (
      fits.0,
      ap (λ (t : Bool). t && int_le (base +ℤ pos (suc n)) (greatest_word +ℤ pos 1)) (at_least_one n) ∙ fits.1,
    )

-- the range of the index of a loop
pub record HasIndices (r : Ends) (base : ℤ) (count : ℕ) : Type 0 where
  pub ranged : IsRange r
  pub turns : HasTurns r
  pub counts : count_in r ≡ count
  pub first : r.lo ≡ base

-- The range of the index has as many numbers as there are turns.
pub indices_there : (es : List Entry) (r : Replicator) (h : ReplicatorHolds es r) (n : ℕ) → h.count ≡ pos (suc n)
    → has_words r.count ≡ true → AreInTypes es
    → HasIndices (index_range (value_as es types.Int r.base) (value_as es types.Int r.count)) h.base (suc n)
indices_there es r h n count words typed =
    let count_is : value_as es types.Int r.count ≡ Some (pos (suc n)) = h.count_is ∙ ap (λ (v : ℤ). Some v) count in
    let fits = ap (λ (v : ℤ). int_le (pos 0) v && fits_word (Some h.base) v) (sym count) ∙ h.fits in
    let on = counts_on h.base n fits in
    let all = indices_have_turns h.base (pos (suc n)) on.0 on.1
    (number_lies es r.count (pos (suc n)) words typed count_is)
    in
    subst (λ (range : Ends). HasIndices range h.base (suc n))
    (λ i. index_range (sym h.base_is i) (sym count_is i))
    (record {
      ranged = all.0;
      turns = all.1;
      counts = let same = all.2 in omega (arith, ints, same);
      first = ap (λ (t : Bool). (cond t (record { lo = h.base; hi = h.base +ℤ (pos (suc n) -ℤ pos 1) })
          (constant h.base)).lo) on.1;
    })

module _ (p : Coded) (root : IsInRoot p) (s : Site) (placed : IsThere p s) where
  -- the block of a loop is in the frame
  room_for : (top : ℕ) (base count : ℤ) → AllFit p.program (loop_start top base count) → top + 2 ≤ p.program.words
  unfolding word_after counted
  room_for top base count fit = let few = root.few in let second = fit.1.1.1.0 in omega (arith, few, second)

  -- what the pieces of a loop store
  pub loop_fits : (q : Process) (r : Replicator) (counted : Bool) (after : Known) (base count : ℤ) (c : Code)
      → loop_code s (body_site p root q r s placed counted) after base count
      (process_code (surroundings p.program) q (body_site p root q r s placed counted)) ≡ Some c
      → AllFit p.program c.pieces
      → (s.frame.top + 2 ≤ p.program.words) × IsAllowed (bare_scene p) (stores (word_after s.frame.top 1))
  loop_fits q r counted after base count c is fit =
      let inner = body_site p root q r s placed counted in
      let start = loop_start s.frame.top base count in
      let row = row_of s.label inner.frame inner.known in
      let last = loop_end s.frame.top s.label (row_of (s.label + 1) s.frame after) in
      let b = before_is (start ++ row ∷ []) (closed_by last (process_code (surroundings p.program) q inner)) c is in
      let own = all_first (FitsIn p.program) start (row ∷ [])
      (all_first (FitsIn p.program) (start ++ row ∷ []) b.rest.pieces (subst (AllFit p.program) b.pieces fit)) in (
        room_for s.frame.top base count own,
        (allowed p root [] (stores (word_after s.frame.top 1) ∷ []) (own.1.1.1.0, tt)).0,
      )

  -- the variables that a loop changes may be any numbers behind it
  pub loop_sound : (ns : List ℕ) → AreInTypes s.known.entries → IsSound p s (widen ns s.known.entries)
  loop_sound ns typed =
      sound_moved p s (widen ns s.known.entries) placed (shapes_stay.widening s.known.entries ns)
      (indices_stay.widening ns s.known.entries) (typed_widen ns s.known.entries typed)
      (widen_ordered ns s.known.entries (placed_ordered p s placed))

  -- what is known behind a loop
  pub after_loop : (q : Process) (r : Replicator) (counted : Bool)
      → (body_ended p.program.around (Mark mark.Seq) (Plain q) r counted s.known).entries
      ≡ widen (changed_in p.program.around r (Plain q) s.known) s.known.entries
  after_loop q r counted =
      let m = at_head p.program.around r (Plain q) counted s.known in
      let x = turn_ended p.program.around r (Plain q) counted s.known in
      let stays = ranges_stay.processes p.program.around q m (omega arith) in
      ap (λ (bs : List moves.Block). (after_block x.entries bs).entries) stays.blocks

  -- a loop without turns
  pub no_turns : (changes : Bool) (ns : List ℕ) (after : Known) (opened : List OpenLabel) (before : Told) (c : Code)
      → after.entries ≡ widen ns s.known.entries → has_scalar ns s.known.entries ≡ changes
      → IsSound p s (widen ns s.known.entries) → AreInTypes s.known.entries → no_loop changes s after ≡ Some c
      → HoldsScope (scene p s) s.known.entries before.frame
      → PassesTo p s.frame (widen ns s.known.entries) opened c.pieces before
  no_turns false ns after opened before c known none_changed sound typed is holds = record {
    after = before;
    passes = subst (λ (ps : List Piece). PassOn p.passage opened (Some before) ps (Some before))
        (sym (written_is [] s.label c is)) none;
    holds = subst (λ (es : List Entry). HoldsScope (scene p s) es before.frame)
        (sym (no_scalar_widens ns s.known.entries none_changed)) holds;
    settled = sound.settled;
    typed = sound.typed;
  }
  no_turns true ns after opened before c known changed sound typed is holds =
      let es = s.known.entries in
      let wide = widen ns es in
      let row : facts_in s.frame after.entries ≡ facts_in s.frame wide = ap (facts_in s.frame) known in
      let implied = subst (Implies p.passage.weights before.frame) (sym (row_entries p s wide placed))
      (scopes_imply_rows (scene p s) es wide before.frame sound.settled.loops
      (scopes_lie_within.widened ns es es (within_same ns es) refl typed) holds) in
      record {
        after = told_by p.passage (facts_in s.frame wide);
        passes = subst (λ (ps : List Piece).
            PassOn p.passage opened (Some before) ps (Some (told_by p.passage (facts_in s.frame wide))))
            (sym (written_is (row_of s.label s.frame after ∷ []) (s.label + 1) c is
            ∙ ap (λ fs. Row s.label fs ∷ []) row))
            (rows_pass p.passage opened before s.label (facts_in s.frame wide) implied);
        holds = row_tells p s wide placed sound.settled;
        settled = sound.settled;
        typed = sound.typed;
      }

  -- a loop with turns
  pub turns_pass : (q : Process) (r : Replicator) (counted : Bool) (after : Known) (base : ℤ) (count : ℕ)
      (opened : List OpenLabel) (before : Told) (c : Code)
      → (l : Loop p root q r s placed counted)
      → HasIndices (index_range (value_as s.known.entries types.Int r.base)
      (value_as s.known.entries types.Int r.count))
      base count → after.entries ≡ widen (changed_in p.program.around r (Plain q) s.known) s.known.entries
      → loop_code s (body_site p root q r s placed counted) after base (pos count)
      (process_code (surroundings p.program) q (body_site p root q r s placed counted)) ≡ Some c
      → AllFit p.program c.pieces → HoldsScope (scene p s) s.known.entries before.frame
      → PassesTo p s.frame (widen (changed_in p.program.around r (Plain q) s.known) s.known.entries) opened c.pieces
      before
  turns_pass q r counted after base count opened before c l indices known is fit holds =
      let inner = body_site p root q r s placed counted in
      let wide = widen (changed_in p.program.around r (Plain q) s.known) s.known.entries in
      let start = loop_start s.frame.top base (pos count) in
      let row = row_of s.label inner.frame inner.known in
      let last = loop_end s.frame.top s.label (row_of (s.label + 1) s.frame after) in
      let body = process_code (surroundings p.program) q inner in
      let b = before_is (start ++ row ∷ []) (closed_by last body) c is in
      let d = closed_is last body b.rest b.is in
      let whole : c.pieces ≡ (start ++ row ∷ []) ++ (d.first.pieces ++ last) =
      b.pieces ∙ ap (λ (ps : List Piece). (start ++ row ∷ []) ++ ps) d.pieces in
      let fits = subst (AllFit p.program) whole fit in
      let own = all_first (FitsIn p.program) d.first.pieces last
      (all_last (FitsIn p.program) (start ++ row ∷ []) (d.first.pieces ++ last) fits) in
      subst (λ (ps : List Piece). PassesTo p s.frame wide opened ps before)
      (ap (λ (es : List Entry). (start ++ row ∷ [])
      ++ (d.first.pieces ++ loop_end s.frame.top s.label (Row (s.label + 1) (facts_in s.frame es)))) (sym known)
      ∙ sym whole)
      (loop_passes p root q r s placed counted l base count opened before d.first indices.first indices.counts d.is own
      holds)
