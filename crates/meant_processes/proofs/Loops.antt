-- The turns of a loop, one after another, from its head to what is behind it.
use Rattle.std.proofs.Common.{◌≡◌, ℕ, suc, ◌+◌, ◌<◌, pos, Bool, true, false, List, [], ◌∷◌, ◌++◌, length}
use Rattle.std.proofs.Common.{inl, inr, refl, sym, ap, subst, ◌∙◌, arith}
use Rattle.std.specs.Prelude.{int_lt, nat_lt, ◌⊎◌}
use Rattle.std.proofs.lemmas.Bool.Decides.{nat_tests}
use Rattle.machine_state.specs.LocalStep.{address, word_of}
use Rattle.machine_state.specs.Memory.{Memory}
use Rattle.plain_machine.specs.PlainStep.{with_turn}
use Rattle.scalar_ranges.specs.Environments.{Environment}
use Rattle.program_uses.specs.Indices.{turn_by_turn}
use Rattle.program_meaning.specs.Doing.{Doing, Leaves, doing_then}
use Rattle.code_pieces.specs.declared.piece.RowEntry.{RowEntry}
use Rattle.code_pieces.specs.Pieces.{LoopBack, Piece, Row, points}
use Rattle.placed_code.specs.LaidCode.{LaidCode, Lie, LoopsBack}
use Rattle.placed_code.specs.StraightPieces.{Held, with_pushed, word_address}
use Rattle.placed_code.specs.Points.{GoesTo, Point, count_in, index_in, point, turned}
use Rattle.placed_code.specs.Behaves.{Behaves, over}
use Rattle.placed_code.proofs.PiecesGo.{goes_both, pieces_go, straight_goes}
use Rattle.placed_code.proofs.Behaves.{steps_behave, turns_behave}
use Rattle.meant_lines.specs.Instructions.{IsInside}
use Rattle.meant_lines.specs.Words.{IsInFrame}
use Rattle.meant_lines.proofs.Instructions.{addresses_are_pushed}
use Rattle.meant_lines.proofs.Words.{address_reads_back}
use Rattle.meant_processes.specs.Lying.{ComesTo, LieApart, PiecesBehave}
use Rattle.meant_processes.proofs.Lying.{LoopEnd, apart_both, apart_rises, first_apart, loop_lies, row_passes}
use Rattle.meant_processes.proofs.Behaving.{goes_on_behind}

-- memory once a turn is counted of the loop whose block is at this word
abbrev pub counted_turn : ℕ → Memory → Memory
counted_turn word m =
    with_turn (word_address word) (index_in m (word_address word)) (count_in m (word_address word)) m

-- whether turns are left
abbrev pub goes_back : ℕ → Memory → Bool
goes_back word m = int_lt (pos 1) (count_in m (word_address word))

-- A turn begins and ends where these things hold of memory, by its number, and another one behind the loop.
module _ (c : LaidCode) (head word count : ℕ) (In Out : ℕ → Environment → Memory → Type 0)
    (After : Environment → Memory → Type 0) where
  -- once a turn is counted, the next one begins, or the loop is over
  pub record Turns : Type 0 where
    pub more_left : (k : ℕ) (e : Environment) (m : Memory) → suc k < count → Out k e m → goes_back word m ≡ true
    pub again : (k : ℕ) (e : Environment) (m : Memory) → suc k < count → Out k e m
        → In (suc k) e (counted_turn word m)
    pub last : (k : ℕ) (e : Environment) (m : Memory) → suc k ≡ count → Out k e m → goes_back word m ≡ false
    pub behind : (k : ℕ) (e : Environment) (m : Memory) → suc k ≡ count → Out k e m → After e (counted_turn word m)

  -- where the process is after this number of turns
  abbrev Comes : (to k : ℕ) → Environment → Point → Type 0
  Comes to k e q =
      ((k < count) × ComesTo (c.labels head) (In k) e q) ⊎ ((k ≡ count) × ComesTo to After e q)

  -- the end of a turn
  turn_ends : (k at to : ℕ) (e : Environment) (h : Held) → IsInside c.footing → IsInFrame word → Turns → k < count
      → (middle third : ℕ) → Lie c at (points word ∷ []) middle → LoopsBack c middle head (head + 1) third
      → third ≡ to → c.labels (head + 1) ≡ to → Out k e h.memory → Behaves c (Comes to (suc k)) (point at h) (Leaves e)
  turn_ends k at to e h inside few turns less middle third pointed back same label out =
      let block = address_reads_back word few in
      by_left (nat_lt (suc k) count) refl (straight_goes c pointed (addresses_are_pushed c.footing word h inside few))
      (label ∙ sym same)
      (ap (λ a. with_turn a (index_in h.memory a) (count_in h.memory a) h.memory) block)
      (ap (λ a. int_lt (pos 1) (count_in h.memory a)) block)
    where
      pushed : Held
      pushed = with_pushed (word_of (word_address word)) h

      by_left : (left : Bool) → nat_lt (suc k) count ≡ left → GoesTo c (point at h) (point middle pushed)
          → c.labels (head + 1) ≡ third → (turned back.distance pushed).memory ≡ counted_turn word h.memory
          → int_lt (pos 1) (count_in pushed.memory (address pushed.stack.a)) ≡ goes_back word h.memory
          → Behaves c (Comes to (suc k)) (point at h) (Leaves e)
      by_left true is first behind memory tests =
          let left : suc k < count = grind (arith, nat_tests, is) in
          steps_behave c
          (goes_both first
          (pieces_go.turns c middle head (head + 1) third pushed back behind
          (tests ∙ turns.more_left k e h.memory left out)))
          (over (inl (left, (refl, subst (In (suc k) e) (sym memory) (turns.again k e h.memory left out)))))
      by_left false is first behind memory tests =
          let last : suc k ≡ count = grind (arith, nat_tests, is, less) in
          steps_behave c
          (goes_both first
          (pieces_go.ends c middle head (head + 1) third pushed back behind
          (tests ∙ turns.last k e h.memory last out)))
          (over (inr (last, (same, subst (After e) (sym memory) (turns.behind k e h.memory last out)))))

  -- The head, the body, and the end of a loop.
  pub loop_behaves : (turn : ℕ → Environment → Doing) (body : List Piece) (env : Environment)
      (heads behinds : List RowEntry) → IsInside c.footing → IsInFrame word → Turns → 0 < count
      → ((k : ℕ) (e : Environment) → k < count → PiecesBehave c (In k e) body (Out k) (turn k e))
      → PiecesBehave c (In 0 env)
      (Row head heads ∷ (body ++ points word ∷ LoopBack head (head + 1) ∷ Row (head + 1) behinds ∷ [])) After
      (turn_by_turn (λ k t. doing_then t (turn k)) count (Leaves env))
  loop_behaves turn body env heads behinds footing few turns some each = record {
    behaves = λ at_row at to h lie inside begins.
        let last : List Piece = points word ∷ LoopBack head (head + 1) ∷ Row (head + 1) behinds ∷ [] in
        let f = first_apart c at_row at (Row head heads) (body ++ last) to lie in
        let p = row_passes c at_row at head heads f.middle h f.is in
        let both = apart_both c true f.middle to body last f.rest in
        let rises = apart_rises c both.after_row both.middle to last both.second in
        let ends = loop_lies c both.after_row both.middle word head (head + 1) (head + 1) behinds to both.second in
        steps_behave c p.goes
        (goes_on_behind c
        (turns_behave c {End = Comes to} turn count env
        (inl (some, (sym p.label, subst (In 0 env) (sym p.same) begins)))
        (λ k e q less comes.
        by_place to k e q less comes f.middle (sym p.label) both.middle both.first (omega (arith, rises, inside)) ends))
        (λ e q comes. comes_behind to e q comes));
  }
    where
      comes_behind : (to : ℕ) (e : Environment) (q : Point) → Comes to count e q
          → Behaves c (ComesTo to After) q (Leaves e)
      comes_behind to e q (inl here) = absurd (let less = here.0 in omega (arith, less))
      comes_behind to e q (inr gone) = over gone.1

      by_place : (to k : ℕ) (e : Environment) (q : Point) → k < count → Comes to k e q → (start : ℕ)
          → start ≡ c.labels head → (middle : ℕ) → LieApart c true start body middle → middle < length c.code
          → LoopEnd c middle word head (head + 1) (head + 1) to → Behaves c (Comes to (suc k)) q (turn k e)
      by_place to k e q less (inr gone) start head_is middle lies low ends =
          absurd (let last = gone.0 in omega (arith, less, last))
      by_place to k e q less (inl here) start head_is middle lies low ends =
          goes_on_behind c
          ((each k e less).behaves true q.at middle q.held
          (subst (λ (n : ℕ). LieApart c true n body middle) (head_is ∙ sym here.1.0) lies) low here.1.1)
          (λ left p came.
          turn_ends k p.at to left p.held footing few turns less ends.second ends.third
          (subst (λ (n : ℕ). Lie c n (points word ∷ []) ends.second) (sym came.0) ends.points) ends.back ends.same
          ends.label came.1)
