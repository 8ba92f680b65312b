-- The choices of an IF, one after another: what is tested, and what comes after the tests.
use Rattle.std.proofs.Common.{◌≡◌, ℕ, ◌+◌, ◌<◌, ◌==◌, Bool, true, false, cond, List, [], ◌∷◌, ◌++◌, length, Option, Some}
use Rattle.std.proofs.Common.{None, inl, inr, refl, sym, ap, subst, ◌∙◌, arith}
use Rattle.std.specs.List.{AllByRecursion}
use Rattle.std.specs.Prelude.{not, ◌⊎◌}
use Rattle.prefix_decoder.specs.declared.function.Fun.TheVariants as fun
use Rattle.machine_state.specs.Instructions.{instruction_of, op_of}
use Rattle.machine_state.specs.LocalStep.{address}
use Rattle.machine_state.specs.Memory.{Memory}
use Rattle.scalar_ranges.specs.Environments.{Environment}
use Rattle.scalar_ranges.specs.Narrowing.{test_of}
use Rattle.program_meaning.specs.Doing.{Doing, Fails, Halts, Leaves, chosen, else_doing}
use Rattle.program_meaning.specs.Doing.{or_halts}
use Rattle.code_pieces.specs.declared.operations.TheConstants.{STOP_PROCESS}
use Rattle.code_pieces.specs.declared.piece.RowEntry.{RowEntry}
use Rattle.code_pieces.specs.Pieces.{Code, Jump, JumpUnless, Piece, Row}
use Rattle.code_pieces.specs.Pieces.{closed_by, operates, then_code, written}
use Rattle.code_pieces.proofs.AllOfPieces.{all_first, all_last}
use Rattle.line_pieces.specs.Actions.{forgets, may_show, test_code}
use Rattle.line_pieces.specs.Declarations.{Frame, facts_in}
use Rattle.line_pieces.specs.Expressions.{expression_code}
use Rattle.code_generator.specs.Processes.{Always, EndedChoices, IfEnding, NoChoice, Opens, PlacedChoice}
use Rattle.code_generator.specs.Processes.{PlacedChoices, Stops, ThenChoice, all_tested, choices_code, ending_code}
use Rattle.code_generator.specs.Processes.{is_true, opening, row_of, taken_code, tested_code, with_ending}
use Rattle.placed_code.specs.LaidCode as laid
use Rattle.placed_code.specs.LaidCode.{LaidCode, Lie, Reaches}
use Rattle.placed_code.specs.StraightPieces.{Held, LeadOn}
use Rattle.placed_code.specs.Points.{GoesTo, Point, point, steps, there, without_top}
use Rattle.placed_code.specs.Behaves.{Behaves, any, halts, over}
use Rattle.placed_code.specs.Behaves as behaves
use Rattle.placed_code.proofs.PiecesGo.{goes_both, pieces_go, straight_goes}
use Rattle.placed_code.proofs.Behaves.{steps_behave}
use Rattle.meant_code.specs.Labels.{AreStraight}
use Rattle.meant_code.proofs.StraightLines.{expression_is, forgets_is, straight_both}
use Rattle.meant_processes.specs.Lying.{ComesTo, IsAtApart, LieApart, PiecesBehave, none}
use Rattle.meant_processes.proofs.Lying.{apart_both, apart_rises, jump_and_row, jump_lies, row_lies}
use Rattle.meant_processes.proofs.Lying.{row_passes, straight_lie}
use Rattle.meant_processes.proofs.Behaving.{goes_on_behind}
use Rattle.meant_processes.proofs.CodeParts.{before_is, closed_is, then_is, written_is}

-- Choices in a frame, that begin with one environment, where one thing holds of memory before each test, and another
-- after the process that is chosen.
module _ (c : LaidCode) (Fit : Piece → Type 0) (f : Frame) (env : Environment) (A : Memory → Type 0)
    (M : Environment → Memory → Type 0) where
  -- a condition with what makes the machine forget what was compared
  abbrev pub value_code : PlacedChoice → List Piece
  value_code x = expression_code f.homes x.known.entries f.top x.condition

  abbrev pub shown_code : PlacedChoice → List Piece
  shown_code x = value_code x ++ forgets (may_show x.known.entries x.condition) (test_of x.known.entries x.condition)

  -- the code of a condition leads to where A is 0 if it does not hold
  pub record Shows (x : PlacedChoice) (holds : Bool) (before : Held) : Type 0 where
    pub after : Held
    pub leads : LeadOn c.footing (shown_code x) before after
    pub zero : (address after.stack.a == 0) ≡ not holds
    pub kept : A after.memory

  -- what a choice does, if its condition holds
  pub record ChoiceMeans (x : PlacedChoice) (found : Option Doing) : Type 0 where
    pub truth : Option Bool
    pub process : Doing
    pub is : found ≡ chosen Fails process truth
    pub shows : (holds : Bool) → truth ≡ Some holds → AllByRecursion Fit (value_code x) → (h : Held) → A h.memory
        → Shows x holds h
    pub behaves : truth ≡ Some true → (label : ℕ) (code : Code) → taken_code f x label ≡ Some code
        → AllByRecursion Fit code.pieces → PiecesBehave c A code.pieces M process
    pub always : is_true x.condition ≡ true → truth ≡ Some true
    pub skips : x.is_skip ≡ true → process ≡ Leaves env

  -- each choice does what it means if none before it was chosen, and this is the first one that is
  abbrev pub ChoicesMean : PlacedChoices → Option Doing → Type 0
  ChoicesMean NoChoice found = found ≡ None
  ChoicesMean (ThenChoice cs x) found = (first : Option Doing) × (next : Option Doing) × ChoicesMean cs first
      × (first ≡ None → ChoiceMeans x next) × (found ≡ else_doing first next)

  -- so do those with an ending
  abbrev pub EndingMeans : PlacedChoices → IfEnding → Option Doing → Type 0
  EndingMeans cs Stops found = ChoicesMean cs found
  EndingMeans cs (Always x) found = (is_true x.condition ≡ true) × ChoicesMean (ThenChoice cs x) found
  EndingMeans cs (Opens x) found = (first : Option Doing) × ChoicesMean (ThenChoice cs x) first
      × (found ≡ else_doing first (Some (Leaves env)))

  abbrev pub EndedMean : EndedChoices → Option Doing → Type 0
  EndedMean x found = EndingMeans x.tested x.ending found

  ending_by : (holds : Bool) (cs : PlacedChoices) (x : PlacedChoice) (found : Option Doing) → is_true x.condition ≡ holds
      → ChoicesMean (ThenChoice cs x) found
      → EndedMean (cond holds (record { tested = cs; ending = Always x })
      (record { tested = ThenChoice cs x; ending = Stops })) found
  ending_by true cs x found is mean = (is, mean)
  ending_by false cs x found is mean = mean

  pub ending_means : (cs : PlacedChoices) (found : Option Doing) → ChoicesMean cs found
      → EndedMean (with_ending cs) found
  ending_means NoChoice found mean = mean
  ending_means (ThenChoice cs x) found mean = ending_by (is_true x.condition) cs x found refl mean

  -- the last choice does nothing
  last_leaves : (x : PlacedChoice) (next : Option Doing) → ChoiceMeans x next → is_true x.condition ≡ true
      → x.is_skip ≡ true → next ≡ Some (Leaves env)
  last_leaves x next mean holds skips =
      mean.is ∙ (λ i. chosen Fails (mean.skips skips i) (mean.always holds i))

  else_leaves : (first next : Option Doing) → (first ≡ None → next ≡ Some (Leaves env))
      → else_doing first next ≡ else_doing first (Some (Leaves env))
  else_leaves None next same = same refl
  else_leaves (Some t) next same = refl

  opening_by : (skips : Bool) (cs : PlacedChoices) (opened x : PlacedChoice) (found : Option Doing) → x.is_skip ≡ skips
      → EndingMeans (ThenChoice cs opened) (Always x) found
      → EndedMean (cond skips (record { tested = cs; ending = Opens opened })
      (record { tested = ThenChoice cs opened; ending = Always x })) found
  opening_by true cs opened x found is mean = (
    mean.1.0,
    mean.1.2,
    mean.1.4 ∙ else_leaves mean.1.0 mean.1.1 (λ first. last_leaves x mean.1.1 (mean.1.3 first) mean.0 is),
  )
  opening_by false cs opened x found is mean = mean

  pub opening_means : (cs : PlacedChoices) (e : IfEnding) (found : Option Doing) → EndingMeans cs e found
      → EndedMean (opening cs e) found
  opening_means NoChoice (Always x) found mean = mean
  opening_means NoChoice Stops found mean = mean
  opening_means NoChoice (Opens x) found mean = mean
  opening_means (ThenChoice cs opened) (Always x) found mean =
      opening_by x.is_skip cs opened x found refl mean
  opening_means (ThenChoice cs x) Stops found mean = mean
  opening_means (ThenChoice cs y) (Opens x) found mean = mean

  -- ---- tests, one after another

  -- Of what was tested one choice was chosen, and ends at the label; or none, and the process goes on.
  abbrev Tested : (end at : ℕ) → Held → (to : ℕ) → Option Doing → Type 0
  Tested end at h to None = (k : Held) × GoesTo c (point at h) (point to k) × A k.memory
  Tested end at h to (Some t) = Behaves c (ComesTo (c.labels end) M) (point at h) t

  abbrev TestsBehave : (end : ℕ) → List Piece → Option Doing → Type 0
  TestsBehave end ps found = (at_row : Bool) (at to : ℕ) (h : Held) → LieApart c at_row at ps to → to < length c.code → A h.memory
      → Tested end at h to found

  tested_on : (end at middle to : ℕ) (h k : Held) (found : Option Doing) → GoesTo c (point at h) (point middle k)
      → Tested end middle k to found → Tested end at h to found
  tested_on end at middle to h k None goes tested = (tested.0, goes_both goes tested.1, tested.2)
  tested_on end at middle to h k (Some t) goes tested = steps_behave c goes tested

  tests_both : (end : ℕ) (ps qs : List Piece) (first next : Option Doing) → TestsBehave end ps first
      → (first ≡ None → TestsBehave end qs next) → TestsBehave end (ps ++ qs) (else_doing first next)
  tests_both end ps qs None next one other at_row at to h lie inside a =
      let both = apart_both c at_row at to ps qs lie in
      let rises = apart_rises c both.after_row both.middle to qs both.second in
      let g = one at_row at both.middle h both.first (omega (arith, rises, inside)) a in
      tested_on end at both.middle to h g.0 next g.1 (other refl both.after_row both.middle to g.0 both.second inside g.2)
  tests_both end ps qs (Some t) next one other at_row at to h lie inside a =
      let both = apart_both c at_row at to ps qs lie in
      let rises = apart_rises c both.after_row both.middle to qs both.second in
      one at_row at both.middle h both.first (omega (arith, rises, inside)) a

  -- ---- one test

  shown_is : (x : PlacedChoice) → AreStraight (shown_code x)
  shown_is x =
      straight_both (value_code x) (forgets (may_show x.known.entries x.condition) (test_of x.known.entries x.condition))
      (expression_is f.homes x.known.entries f.top x.condition)
      (forgets_is (may_show x.known.entries x.condition) (test_of x.known.entries x.condition))

  -- a test that jumps to a label if its condition does not hold
  record Tests (x : PlacedChoice) (label at to : ℕ) (h : Held) (holds : Bool) : Type 0 where
    after : Held
    goes : GoesTo c (point at h) (point (cond holds to (c.labels label)) after)
    kept : A after.memory

  test_goes : (x : PlacedChoice) (next : Option Doing) (label : ℕ) (at_row : Bool) (at to : ℕ) (h : Held) (holds : Bool)
      → (mean : ChoiceMeans x next) → mean.truth ≡ Some holds → AllByRecursion Fit (value_code x)
      → LieApart c at_row at (test_code f.homes x.known.entries f.top x.condition label) to → A h.memory
      → Tests x label at to h holds
  test_goes x next label at_row at to h holds mean is fit lie a =
      let both = apart_both c at_row at to (shown_code x) (JumpUnless label ∷ []) lie in
      let s = mean.shows holds is fit h a in
      let first = straight_goes c (straight_lie c at_row at both.middle (shown_code x) (shown_is x) both.first) s.leads in
      by_truth holds both.middle (jump_lies c both.after_row both.middle label to both.second) s.after s.zero s.kept first
    where
      by_truth : (holds : Bool) (middle : ℕ) → Reaches c middle fun.ConditionalJump label to → (k : Held)
          → (address k.stack.a == 0) ≡ not holds → A k.memory → GoesTo c (point at h) (point middle k)
          → Tests x label at to h holds
      by_truth true middle jump k zero kept first = record {
        after = without_top k;
        goes = goes_both first (steps (pieces_go.goes_on c middle label to k jump zero) there);
        kept = kept;
      }
      by_truth false middle jump k zero kept first = record {
        after = k;
        goes = goes_both first (steps (pieces_go.tests c middle label to k jump zero) there);
        kept = kept;
      }

  -- ---- a choice that is tested

  choice_tested : (end label : ℕ) (x : PlacedChoice) (found : Option Doing) (code inner : Code)
      → ChoiceMeans x found → taken_code f x (label + 1) ≡ Some inner
      → AllByRecursion Fit (test_code f.homes x.known.entries f.top x.condition label
      ++ (inner.pieces ++ Jump end ∷ row_of label f x.after ∷ []))
      → TestsBehave end (test_code f.homes x.known.entries f.top x.condition label
      ++ (inner.pieces ++ Jump end ∷ row_of label f x.after ∷ [])) found
  choice_tested end label x found code inner mean is fit at_row at to h lie inside a =
      let test = test_code f.homes x.known.entries f.top x.condition label in
      let last = Jump end ∷ row_of label f x.after ∷ [] in
      let behind = inner.pieces ++ last in
      let all = apart_both c at_row at to test behind lie in
      let rest = apart_both c all.after_row all.middle to inner.pieces last all.second in
      let fits = all_first Fit test behind fit in
      let value = all_first Fit (value_code x)
      (forgets (may_show x.known.entries x.condition) (test_of x.known.entries x.condition))
      (all_first Fit (shown_code x) (JumpUnless label ∷ []) fits) in
      let own = all_first Fit inner.pieces last (all_last Fit test behind fit) in
      let rises = apart_rises c rest.after_row rest.middle to last rest.second in
      let ends = jump_and_row c rest.after_row rest.middle end label (facts_in f x.after.entries) to rest.second in
      subst (Tested end at h to) (sym mean.is)
      (by_truth mean.truth refl value own all.middle all.first all.after_row rest.middle rest.first
      (omega (arith, rises, inside)) ends.0 ends.1 ends.2)
    where
      by_truth : (truth : Option Bool) → mean.truth ≡ truth → AllByRecursion Fit (value_code x)
          → AllByRecursion Fit inner.pieces → (first : ℕ)
          → LieApart c at_row at (test_code f.homes x.known.entries f.top x.condition label) first → (after_row : Bool)
          → (second : ℕ) → LieApart c after_row first inner.pieces second → second < length c.code → (third : ℕ)
          → Reaches c second fun.Jump end third → c.labels label ≡ to
          → Tested end at h to (chosen Fails mean.process truth)
      by_truth None truth value own first tests after_row second lies low third jump label_is = any
      by_truth (Some true) truth value own first tests after_row second lies low third jump label_is =
          let t = test_goes x found label at_row at first h true mean truth value tests a in
          steps_behave c t.goes
          (goes_on_behind c
          ((mean.behaves truth (label + 1) inner is own).behaves after_row first second t.after lies low t.kept)
          (λ e q came.
          behaves.steps
          (pieces_go.jumps c q.at end third q.held (subst (λ (n : ℕ). Reaches c n fun.Jump end third) (sym came.0) jump))
          (over (refl, came.1))))
      by_truth (Some false) truth value own first tests after_row second lies low third jump label_is =
          let t = test_goes x found label at_row at first h false mean truth value tests a in
          (t.after, subst (λ n. GoesTo c (point at h) (point n t.after)) label_is t.goes, t.kept)

  -- a choice after those before it
  tested_choice : (end label : ℕ) (x : PlacedChoice) (found : Option Doing) (code : Code)
      → ChoiceMeans x found → tested_code end f x label ≡ Some code → AllByRecursion Fit code.pieces
      → TestsBehave end code.pieces found
  tested_choice end label x found code mean is fit =
      let test = test_code f.homes x.known.entries f.top x.condition label in
      let behind = Jump end ∷ row_of label f x.after ∷ [] in
      let b = before_is test (closed_by behind (taken_code f x (label + 1))) code is in
      let d = closed_is behind (taken_code f x (label + 1)) b.rest b.is in
      let whole : code.pieces ≡ test ++ (d.first.pieces ++ behind) = b.pieces ∙ ap (λ ps. test ++ ps) d.pieces in
      subst (λ ps. TestsBehave end ps found) (sym whole)
      (choice_tested end label x found code d.first mean d.is (subst (AllByRecursion Fit) whole fit))

  all_behave : (end : ℕ) (cs : PlacedChoices) (label : ℕ) (found : Option Doing) (code : Code) → ChoicesMean cs found
      → all_tested end f cs label ≡ Some code → AllByRecursion Fit code.pieces → TestsBehave end code.pieces found
  all_behave end NoChoice label found code mean is fit =
      subst (TestsBehave end code.pieces) (sym mean)
      (subst (λ ps. TestsBehave end ps None) (sym (written_is [] label code is))
      (nothing_tested end))
    where
      nothing_tested : (end : ℕ) → TestsBehave end [] None
      nothing_tested end at_row at to h none inside a = (h, there, a)
  all_behave end (ThenChoice cs x) label found code mean is fit =
      let p = then_is (all_tested end f cs label) (tested_code end f x) code is in
      let fits = subst (AllByRecursion Fit) p.pieces fit in
      subst (TestsBehave end code.pieces) (sym mean.4)
      (subst (λ ps. TestsBehave end ps (else_doing mean.0 mean.1)) (sym p.pieces)
      (tests_both end p.first.pieces p.last.pieces mean.0 mean.1
      (all_behave end cs label mean.0 p.first mean.2 p.first_is (all_first Fit p.first.pieces p.last.pieces fits))
      (λ no. tested_choice end p.first.labels x mean.1 p.last (mean.3 no) p.last_is
      (all_last Fit p.first.pieces p.last.pieces fits))))

  -- ---- how choices end

  -- where the process ends, it is behind the choices or at the label at the end of the IF
  abbrev Either : (end behind : ℕ) → Environment → Point → Type 0
  Either end behind e q = ComesTo behind M e q ⊎ ComesTo (c.labels end) M e q

  chosen_before : (end behind : ℕ) {p : Point} {t : Doing} → Behaves c (ComesTo (c.labels end) M) p t
      → Behaves c (Either end behind) p t
  chosen_before end behind b = goes_on_behind c b (λ e q came. over (inr came))

  falls_behind : (end behind : ℕ) {p : Point} {t : Doing} → Behaves c (ComesTo behind M) p t
      → Behaves c (Either end behind) p t
  falls_behind end behind b = goes_on_behind c b (λ e q came. over (inl came))

  stop_there : (end at to : ℕ) (k : Held) → Lie c at (operates STOP_PROCESS ∷ []) to → to < length c.code
      → Behaves c (Either end to) (point at k) Halts
  unfolding instruction_of op_of
  stop_there end at to k (laid.more stop laid.none) inside = halts (record {
    executes = record { function = fun.Operate; operand = STOP_PROCESS; behind = to; fetches = stop; is = refl };
    inside = inside;
  })

  stops_there : (end : ℕ) (at_row : Bool) (at to : ℕ) (k : Held) (label : ℕ) (code : Code)
      → written (operates STOP_PROCESS ∷ []) label ≡ Some code → LieApart c at_row at code.pieces to
      → to < length c.code → Behaves c (Either end to) (point at k) Halts
  stops_there end at_row at to k label code is lie inside =
      stop_there end at to k
      (straight_lie c at_row at to (operates STOP_PROCESS ∷ []) (tt, tt)
      (subst (λ ps. LieApart c at_row at ps to) (written_is (operates STOP_PROCESS ∷ []) label code is) lie)) inside

  -- what the choices before an ending do, and then the ending if none of them was chosen
  ended : (end at middle to : ℕ) (h : Held) (first next : Option Doing) → Tested end at h middle first
      → (first ≡ None → (k : Held) → A k.memory → Behaves c (Either end to) (point middle k) (or_halts next))
      → Behaves c (Either end to) (point at h) (or_halts (else_doing first next))
  ended end at middle to h None next tested last = steps_behave c tested.1 (last refl tested.0 tested.2)
  ended end at middle to h (Some t) next tested last = chosen_before end to tested

  else_none : (o : Option Doing) → else_doing o None ≡ o
  else_none None = refl
  else_none (Some t) = refl

  else_else : (x y z : Option Doing) → else_doing (else_doing x y) z ≡ else_doing x (else_doing y z)
  else_else None y z = refl
  else_else (Some t) y z = refl

  -- the last choice, without its test
  last_taken : (end label : ℕ) (at_row : Bool) (at to : ℕ) (k : Held) (x : PlacedChoice) (next : Option Doing) (code : Code)
      → ChoiceMeans x next → is_true x.condition ≡ true → taken_code f x label ≡ Some code
      → AllByRecursion Fit code.pieces → LieApart c at_row at code.pieces to → to < length c.code → A k.memory
      → Behaves c (Either end to) (point at k) (or_halts next)
  last_taken end label at_row at to k x next code mean holds is fit lie inside a =
      let truth = mean.always holds in
      subst (λ o. Behaves c (Either end to) (point at k) (or_halts o))
      (sym (mean.is ∙ ap (chosen Fails mean.process) truth))
      (falls_behind end to ((mean.behaves truth label code is fit).behaves at_row at to k lie inside a))

  -- a choice whose test jumps to the end of the IF, where nothing is done if it does not hold
  open_taken : ((m : Memory) → A m → M env m) → (end label : ℕ) (at_row : Bool) (at to : ℕ) (k : Held)
      (x : PlacedChoice) (next : Option Doing) (inner : Code) → ChoiceMeans x next → taken_code f x label ≡ Some inner
      → AllByRecursion Fit (test_code f.homes x.known.entries f.top x.condition end ++ inner.pieces)
      → LieApart c at_row at (test_code f.homes x.known.entries f.top x.condition end ++ inner.pieces) to
      → to < length c.code → A k.memory
      → Behaves c (Either end to) (point at k) (or_halts (else_doing next (Some (Leaves env))))
  open_taken leaves end label at_row at to k x next inner mean is fit lie inside a =
      let test = test_code f.homes x.known.entries f.top x.condition end in
      let all = apart_both c at_row at to test inner.pieces lie in
      let value = all_first Fit (value_code x)
      (forgets (may_show x.known.entries x.condition) (test_of x.known.entries x.condition))
      (all_first Fit (shown_code x) (JumpUnless end ∷ []) (all_first Fit test inner.pieces fit)) in
      let own = all_last Fit test inner.pieces fit in
      subst (λ o. Behaves c (Either end to) (point at k) (or_halts (else_doing o (Some (Leaves env))))) (sym mean.is)
      (by_truth mean.truth refl value own all.middle all.first all.after_row all.second)
    where
      by_truth : (truth : Option Bool) → mean.truth ≡ truth → AllByRecursion Fit (value_code x)
          → AllByRecursion Fit inner.pieces → (middle : ℕ)
          → LieApart c at_row at (test_code f.homes x.known.entries f.top x.condition end) middle → (after_row : Bool)
          → LieApart c after_row middle inner.pieces to
          → Behaves c (Either end to) (point at k)
          (or_halts (else_doing (chosen Fails mean.process truth) (Some (Leaves env))))
      by_truth None truth value own middle tests after_row lies = any
      by_truth (Some true) truth value own middle tests after_row lies =
          let t = test_goes x next end at_row at middle k true mean truth value tests a in
          steps_behave c t.goes
          (falls_behind end to
          ((mean.behaves truth label inner is own).behaves after_row middle to t.after lies inside t.kept))
      by_truth (Some false) truth value own middle tests after_row lies =
          let t = test_goes x next end at_row at middle k false mean truth value tests a in
          steps_behave c t.goes (over (inr (refl, leaves t.after.memory t.kept)))

  choices_end : ((m : Memory) → A m → M env m) → (end label : ℕ) (cs : PlacedChoices) (e : IfEnding)
      (found : Option Doing) (code : Code) → EndingMeans cs e found
      → then_code (all_tested end f cs label) (ending_code end f e) ≡ Some code → AllByRecursion Fit code.pieces
      → (at_row : Bool) (at to : ℕ) (h : Held) → LieApart c at_row at code.pieces to → to < length c.code → A h.memory
      → Behaves c (Either end to) (point at h) (or_halts found)
  choices_end leaves end label cs e found code mean is fit at_row at to h lie inside a =
      let p = then_is (all_tested end f cs label) (ending_code end f e) code is in
      let fits = subst (AllByRecursion Fit) p.pieces fit in
      let both = apart_both c at_row at to p.first.pieces p.last.pieces
      (subst (λ ps. LieApart c at_row at ps to) p.pieces lie) in
      by_ending e mean p.first p.last p.first_is p.last_is (all_first Fit p.first.pieces p.last.pieces fits)
      (all_last Fit p.first.pieces p.last.pieces fits) both.middle both.first both.after_row both.second
    where
      by_ending : (e : IfEnding) → EndingMeans cs e found → (first last : Code)
          → all_tested end f cs label ≡ Some first → ending_code end f e first.labels ≡ Some last
          → AllByRecursion Fit first.pieces → AllByRecursion Fit last.pieces → (middle : ℕ)
          → LieApart c at_row at first.pieces middle → (after_row : Bool) → LieApart c after_row middle last.pieces to
          → Behaves c (Either end to) (point at h) (or_halts found)
      by_ending Stops mean first last first_is last_is fit_first fit_last middle lies after_row rest =
          let rises = apart_rises c after_row middle to last.pieces rest in
          subst (λ o. Behaves c (Either end to) (point at h) (or_halts o)) (else_none found)
          (ended end at middle to h found None
          (all_behave end cs label found first mean first_is fit_first at_row at middle h lies
          (omega (arith, rises, inside)) a)
          (λ no k kept. stops_there end after_row middle to k first.labels last last_is rest inside))
      by_ending (Always x) mean first last first_is last_is fit_first fit_last middle lies after_row rest =
          let rises = apart_rises c after_row middle to last.pieces rest in
          subst (λ o. Behaves c (Either end to) (point at h) (or_halts o)) (sym mean.1.4)
          (ended end at middle to h mean.1.0 mean.1.1
          (all_behave end cs label mean.1.0 first mean.1.2 first_is fit_first at_row at middle h lies
          (omega (arith, rises, inside)) a)
          (λ no k kept.
          last_taken end first.labels after_row middle to k x mean.1.1 last (mean.1.3 no) mean.0 last_is fit_last rest inside
          kept))
      by_ending (Opens x) mean first last first_is last_is fit_first fit_last middle lies after_row rest =
          let rises = apart_rises c after_row middle to last.pieces rest in
          let b = before_is (test_code f.homes x.known.entries f.top x.condition end) (taken_code f x first.labels) last
          last_is in
          subst (λ o. Behaves c (Either end to) (point at h) (or_halts o))
          (sym (mean.2 ∙ ap (λ o. else_doing o (Some (Leaves env))) mean.1.4
          ∙ else_else mean.1.0 mean.1.1 (Some (Leaves env))))
          (ended end at middle to h mean.1.0 (else_doing mean.1.1 (Some (Leaves env)))
          (all_behave end cs label mean.1.0 first mean.1.2 first_is fit_first at_row at middle h lies
          (omega (arith, rises, inside)) a)
          (λ no k kept.
          open_taken leaves end first.labels after_row middle to k x mean.1.1 b.rest (mean.1.3 no) b.is
          (subst (AllByRecursion Fit) b.pieces fit_last) (subst (λ ps. LieApart c after_row middle ps to) b.pieces rest) inside
          kept))

  -- All choices of an IF, and the row at its end.
  pub choices_behave : ((m : Memory) → A m → M env m) → (end label : ℕ) (entries : List RowEntry) (x : EndedChoices)
      (found : Option Doing) (code : Code) → EndingMeans x.tested x.ending found
      → choices_code end f x label ≡ Some code → AllByRecursion Fit code.pieces
      → PiecesBehave c A (code.pieces ++ Row end entries ∷ []) M (or_halts found)
  choices_behave leaves end label entries x found code mean is fit = record {
    behaves = λ at_row at to h lie inside a.
        let both = apart_both c at_row at to code.pieces (Row end entries ∷ []) lie in
        let rises = apart_rises c both.after_row both.middle to (Row end entries ∷ []) both.second in
        let row = row_lies c both.after_row both.middle end entries to both.second in
        goes_on_behind c
        (choices_end leaves end label x.tested x.ending found code mean is fit at_row at both.middle h both.first
        (omega (arith, rises, inside)) a)
        (λ e q came. by_way to both.after_row both.middle row e q came);
  }
    where
      by_way : (to : ℕ) (after_row : Bool) (middle : ℕ) → IsAtApart c after_row middle (Row end entries) to → (e : Environment)
          → (q : Point) → Either end middle e q → Behaves c (ComesTo to M) q (Leaves e)
      by_way to after_row middle row e q (inl fell) =
          let p = row_passes c after_row middle end entries to q.held row in
          steps_behave c (subst (λ n. GoesTo c (point n q.held) (point to p.after)) (sym fell.0) p.goes)
          (over (refl, subst (M e) (sym p.same) fell.1))
      by_way to after_row middle row e q (inr jumped) =
          let p = row_passes c after_row middle end entries to q.held row in over (jumped.0 ∙ p.label, jumped.1)
