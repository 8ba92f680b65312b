-- Small pieces pass.
use Rattle.std.proofs.Common.{◌≡◌, ℕ, ◌+◌, ◌<◌, ℤ, pos, true, List, [], ◌∷◌, ◌++◌, Some, None, inl, refl}
use Rattle.std.proofs.Common.{subst, arith, lit<}
use Rattle.std.proofs.lemmas.Int.{ints}
use Rattle.word_arithmetic.specs.Range as ranges
use Rattle.module_format.specs.declared.fact.Fact.TheVariants.{Number}
use Rattle.states.specs.State.{Facts, by_itself}
use Rattle.states.specs.Below.{implies}
use Rattle.states.specs.State.{known}
use Rattle.local_rules.specs.LoopRules.{last_index}
use Rattle.local_rules.specs.WordRules.{known_constant}
use Rattle.code_pieces.specs.LaidModule.{Arrangement}
use Rattle.code_pieces.specs.Pieces.{Row, counted, constant, stores}
use Rattle.placed_code.proofs.OneProcess.{root_has_its_words}
use Rattle.certified_lines.specs.StraightRules.{Told, FallOn, with_pushed}
use Rattle.certified_lines.specs.Instructions.{MayWrite, without_a, with_word, word_pointer}
use Rattle.certified_lines.proofs.StraightRules.{fall_both}
use Rattle.certified_lines.proofs.Instructions.{constants_are_known, stored_words_are_known, addresses_are_known}
use Rattle.certified_lines.proofs.Telling.{few_counted}
use Rattle.certified_modules.specs.RowsSay.{Implies, loop_said, block}
use Rattle.certified_modules.specs.Passing.{Passage, PassOn, told_by, EndsTurn, after_turns, both, straight}
use Rattle.certified_modules.specs.Passing.{stops, tests, closes, loops}
use Rattle.certified_modules.specs.RootRows.{root_passage}
use Rattle.certified_modules.specs.Certifying.{nothing_told}
use Rattle.certified_modules.specs.SmallPieces.{enters_small_loop, small_turn, in_small_loop, behind_small_loop}
use Rattle.certified_modules.specs.SmallPieces.{small_loop, small_test, small_pieces, SmallPiecesPass}

module _ (labels : ℕ) (links : List ℕ) (a : Arrangement) where
  abbrev g : Passage
  g = root_passage small_pieces labels links a

  may_write : (word : ℕ) → word < 5 → MayWrite g.setting word
  unfolding counted
  may_write word few =
      (root_has_its_words small_pieces labels links a refl (pos word) (omega (arith, ints))
      (omega (arith, ints, few))).0

  -- a number is stored in a word
  abbrev with_number : ℕ → ℤ → Told → Told
  with_number word v s = without_a (with_word word (Number v v) (with_pushed (known_constant v) s))

  stored : (word : ℕ) (v : ℤ) (s : Told) → word < 5
      → FallOn g.setting (constant v ∷ stores word ∷ []) s (with_number word v s)
  stored word v s few =
      fall_both (constants_are_known g.setting v s)
      (stored_words_are_known g.setting word (with_pushed (known_constant v) s) (few_counted word (omega (arith, few)))
      (may_write word few) refl)

  -- where the loop is entered
  abbrev entering : Told
  entering = with_number 3 (pos 3) (with_number 2 (pos 1) nothing_told)

  first_pass : PassOn g [] (Some nothing_told) enters_small_loop (Some entering)
  first_pass =
      straight (fall_both (stored 2 (pos 1) nothing_told (omega arith))
      (stored 3 (pos 3) (with_number 2 (pos 1) nothing_told) (omega arith)))

  -- at the end of a turn
  abbrev turned : Told
  turned = with_pushed (known (word_pointer 2)) (with_number 4 (pos 7) (told_by g in_small_loop))

  turn_passes : PassOn g [] (Some (told_by g in_small_loop)) small_turn (Some turned)
  turn_passes =
      straight (fall_both (stored 4 (pos 7) (told_by g in_small_loop) (omega arith))
      (addresses_are_known g.setting 2 (with_number 4 (pos 7) (told_by g in_small_loop)) (few_counted 2 (omega arith))
      (omega arith)))

  turn_ends : EndsTurn g 0 in_small_loop 2 (pos 3) turned
  unfolding last_index
  turn_ends = record {
    loop = loop_said g.weights 0 (pos 1) 3;
    weight = refl;
    block = refl;
    index = refl;
    count = refl;
    ends = refl;
    writes_index = may_write 2 (omega arith);
    writes_count = may_write 3 (omega arith);
    again = ((refl, refl, refl), tt);
  }

  -- a range of one word is implied if it is there
  one_word : (f : Facts) (word : ℕ) (lo hi : ℤ) → implies (by_itself (f (pos word))) (Number lo hi) ≡ true → (n : ℕ)
      → n < 1 → implies (by_itself (f (pos (word + n)))) (Number lo hi) ≡ true
  one_word f word lo hi is n few =
      let same : word ≡ word + n = omega (arith, few) in
      subst (λ (k : ℕ). implies (by_itself (f (pos k))) (Number lo hi) ≡ true) same is

  left_implied : Implies g.weights (after_turns 2 (pos 3) turned.frame) behind_small_loop
  left_implied =
      let f : Facts = after_turns 2 (pos 3) turned.frame in
      (one_word f 2 (pos 3) (pos 3) refl, (one_word f 3 (pos 0) (pos 9) refl, tt))

  loop_passes : PassOn g [] (Some entering) small_loop (Some (told_by g behind_small_loop))
  loop_passes =
      loops 1 2 (pos 3) behind_small_loop
      (block (record { base = pos 1; turns = refl; span = refl; constants = (refl, refl) }) tt) refl turn_passes
      turn_ends left_implied

  test_passes : (s : Told) → PassOn g [] (Some s) (small_test ++ Row 2 [] ∷ []) (Some (told_by g []))
  test_passes s =
      closes (both (straight (constants_are_known g.setting (pos 1) s))
      (both (tests (ranges.constant (pos 1)) [] (inl refl) refl
      (record {
        lo_fits = record { sfits = lit< tt };
        hi_fits = record { sfits = lit< tt };
        ordered = omega (arith, ints);
      })
      tt) stops)) tt

  all_pass : PassOn g [] (Some nothing_told) small_pieces None
  all_pass = both first_pass (both loop_passes (both (test_passes (told_by g behind_small_loop)) stops))

pub small_pieces_pass : SmallPiecesPass
small_pieces_pass = all_pass
