-- What the code of operators pushes.
use Rattle.std.proofs.Common.{◌≡◌, ℕ, ◌+◌, ◌<◌, ◌≤◌, inl, inr, ℤ, Bool, true, false, ◌&&◌, ◌||◌, List}
use Rattle.std.proofs.Common.{[], ◌∷◌, ◌++◌, Some, FitsSigned, refl, sym, ap, subst, ◌∙◌, arith}
use Rattle.std.specs.Int.{w32}
use Rattle.std.specs.List.{AllByRecursion}
use Rattle.machine_state.specs.Memory.{Memory}
use Rattle.machine_state.proofs.Reading.{word_at-with_word}
use Rattle.module_format.specs.declared.stack.Stack.{Stack}
use Rattle.module_format.specs.Stack.{reversed}
use Rattle.word_arithmetic.specs.Binary.{computed}
use Rattle.word_arithmetic.specs.declared.binary.Binary.{Binary}
use Rattle.scalar_ranges.specs.Entries.{Entry}
use Rattle.scalar_ranges.specs.Environments.{Environment, Meets}
use Rattle.code_pieces.specs.Pieces.{Piece, operates, stores, counted, word_after}
use Rattle.code_pieces.proofs.AllOfPieces.{all_first, all_last}
use Rattle.line_pieces.specs.Expressions.{both, comes_last, back, exchanged}
use Rattle.placed_code.specs.StraightPieces as pieces
use Rattle.placed_code.specs.StraightPieces.{LeadOn, done, with_pushed, word_place}
use Rattle.placed_code.proofs.StraightPieces.{lead_both}
use Rattle.meant_lines.specs.Words.{IsInFrame, Holds, ChangesWithin, with_frame_word}
use Rattle.placed_code.specs.OperandsName.{IsBinary}
use Rattle.meant_lines.specs.Instructions.{with_memory, without_a, with_result}
use Rattle.meant_lines.specs.Carrying.{Ground, Carries}
use Rattle.meant_lines.specs.Pushing.{Pushed, StandsOn, AllStandOn, Pushes, IsCounted, AreOperands}
use Rattle.meant_lines.specs.Pushing.{PushedBoth, keeps}
use Rattle.meant_lines.specs.OperatorLaws.{BothPush, OperationsPush}
use Rattle.meant_lines.proofs.Words.{changes_both, changes_wider, changes_writing, other_word}
use Rattle.meant_lines.proofs.Carrying.{outer_words_stay}
use Rattle.meant_lines.proofs.Instructions.{words_are_loaded, words_are_stored, registers_are_reversed}
use Rattle.meant_lines.proofs.Instructions.{operations_are_computed}
use Rattle.meant_lines.proofs.Pushing.{carries_after}

-- ---- parts of code

pub first_stand : (g : Ground) (ps qs : List Piece) → AllStandOn g (ps ++ qs) → AllStandOn g ps
first_stand g ps qs all = all_first (StandsOn g.words g.pieces) ps qs all

pub rest_stand : (g : Ground) (ps qs : List Piece) → AllStandOn g (ps ++ qs) → AllStandOn g qs
rest_stand g ps qs all = all_last (StandsOn g.words g.pieces) ps qs all

-- a temporary that is stored is a word of the frame
pub temporary_within : (words t : ℕ) → IsCounted t → counted t < words → t < words
unfolding counted
temporary_within words t few is = omega (arith, few, is)

next_counted : (t : ℕ) → IsCounted t → t ≤ word_after t 1
unfolding word_after counted
next_counted t few = omega (arith, few)

next_is : (t : ℕ) → IsInFrame t → word_after t 1 ≡ t + 1
unfolding word_after counted
next_is t inside = omega (arith, inside)

-- ---- order

in_either : (in_order : Bool) (x y : ℤ) (s : Stack ℤ) → s.b ≡ x → s.a ≡ y → AreOperands in_order x y s
in_either true x y s first second = (first, second)
in_either false x y s first second = inl (first, second)

-- what was in A is below a value
pub keeps_a : (g : Ground) (ps : List Piece) (t : ℕ) (leaf small : Bool) (v : ℤ) (h : pieces.Held)
    → (p : Pushed g ps t leaf small v h) → (small || leaf) ≡ true → p.after.stack.b ≡ h.stack.a
keeps_a g ps t leaf true v h p is = p.below refl
keeps_a g ps t true false v h p is = ap (λ (k : pieces.Held). k.stack.b) (p.alone refl)
keeps_a g ps t false false v h p is = absurd (cc is)

pub both_true : (a b : Bool) → (a && b) ≡ true → (a ≡ true) × (b ≡ true)
both_true true true is = (refl, refl)
both_true true false is = absurd (cc is)
both_true false b is = absurd (cc is)

-- what is in A and B is exchanged, or not
exchange_leads : (g : Ground) (in_order : Bool) (x y : ℤ) (k : pieces.Held) → k.stack.a ≡ x → k.stack.b ≡ y
    → (after : pieces.Held) × LeadOn g.footing (exchanged in_order) k after × AreOperands in_order x y after.stack
    × (after.memory ≡ k.memory) × (after.stack.c ≡ k.stack.c)
exchange_leads g true x y k first second =
    (record k { stack = reversed k.stack }, registers_are_reversed g.footing k, (first, second), refl, refl)
exchange_leads g false x y k first second = (k, done, inr (second, first), refl, refl)

module _ (g : Ground) (top t : ℕ) (es : List Entry) (env : Environment) (meets : Meets env es) (low : top ≤ t)
    (few : IsCounted t) (in_order : Bool) (x y : ℤ) (xs ys : List Piece) (lx sx ly sy : Bool) (h : pieces.Held)
    (carries : Carries g top es env h.memory) where
  -- the second operand leaves what is in A below its value
  pub on_it : Pushes g top es env xs t lx sx x → Pushes g top es env ys (word_after t 1) ly sy y → sy ≡ true
      → AllStandOn g (xs ++ ys) → PushedBoth g (xs ++ ys) t in_order ((sx || lx) && ly) x y h
  on_it push_x push_y small stores =
      let first = push_x (first_stand g xs ys stores) h carries in
      let k = first.after in
      let kept = carries_after g top t es env xs lx sx x h meets low first carries in
      let second = push_y (rest_stand g xs ys stores) k kept in
      record {
        after = second.after;
        leads = lead_both first.leads second.leads;
        operands = in_either in_order x y second.after.stack (second.below small ∙ first.a) second.a;
        changes = changes_both first.changes (changes_wider (next_counted t few) (omega arith) second.changes);
        below = λ is.
            let both = both_true (sx || lx) ly is in
            ap (λ (k : pieces.Held). k.stack.c) (second.alone both.1) ∙ keeps_a g xs t lx sx x h first both.0;
      }

  -- the first operand is one push, after the second one
  on_other : Pushes g top es env xs t lx sx x → Pushes g top es env ys t ly sy y → lx ≡ true
      → AllStandOn g (ys ++ (xs ++ exchanged in_order))
      → PushedBoth g (ys ++ (xs ++ exchanged in_order)) t in_order ((sx || lx) && ly) x y h
  on_other push_x push_y leaf stores =
      let second = push_y (first_stand g ys (xs ++ exchanged in_order) stores) h carries in
      let k = second.after in
      let kept = carries_after g top t es env ys ly sy y h meets low second carries in
      let rest = rest_stand g ys (xs ++ exchanged in_order) stores in
      let first = push_x (first_stand g xs (exchanged in_order) rest) k kept in
      let alone = first.alone leaf in
      let last = exchange_leads g in_order x y first.after first.a
      (ap (λ (k : pieces.Held). k.stack.b) alone ∙ second.a) in
      record {
        after = last.0;
        leads = lead_both second.leads (lead_both first.leads last.1);
        operands = last.2;
        changes = changes_both second.changes
            (subst (λ (m : Memory). ChangesWithin t g.words k.memory m) (sym last.3) first.changes);
        below = λ is.
            let both = both_true (sx || lx) ly is in
            last.4 ∙ ap (λ (k : pieces.Held). k.stack.c) alone
            ∙ ap (λ (k : pieces.Held). k.stack.b) (second.alone both.1);
      }

  -- where the first operand is stored, and the second one and then the first one are pushed
  record Waited (k : pieces.Held) : Type 0 where
    after : pieces.Held
    leads : LeadOn g.footing (stores t ∷ (ys ++ back in_order t)) k after
    operands : AreOperands in_order x y after.stack
    changes : ChangesWithin t g.words k.memory after.memory
    below : ly ≡ true → after.stack.c ≡ k.stack.b

  came_back : (k stored : pieces.Held) → LeadOn g.footing (stores t ∷ []) k stored
      → ChangesWithin t g.words k.memory stored.memory → stored.stack.a ≡ k.stack.b → Holds stored.memory t x
      → IsInFrame g.footing.depth → IsInFrame t → Pushed g ys (word_after t 1) ly sy y stored → Waited k
  came_back k stored stores writes below there workspace inside second =
      let next : word_after t 1 ≡ t + 1 = next_is t inside in
      let waits : Holds second.after.memory t x =
      other_word t (inl (omega (arith, next))) second.changes ∙ there in
      let last = exchange_leads g in_order x y (with_pushed x second.after) refl second.a in
      let later : ChangesWithin t g.words stored.memory second.after.memory =
      changes_wider (next_counted t few) (omega arith) second.changes in
      record {
        after = last.0;
        leads = lead_both stores (lead_both second.leads
            (lead_both (words_are_loaded g.footing t x second.after workspace inside waits) last.1));
        operands = last.2;
        changes = changes_both writes
            (subst (λ (m : Memory). ChangesWithin t g.words stored.memory m) (sym last.3) later);
        below = λ is. last.4 ∙ (ap (λ (k : pieces.Held). k.stack.b) (second.alone is) ∙ below);
      }

  behind_stored : (k : pieces.Held) → Carries g top es env k.memory → FitsSigned w32 x → k.stack.a ≡ x
      → t < g.words → Pushes g top es env ys (word_after t 1) ly sy y → AllStandOn g (ys ++ back in_order t)
      → Waited k
  behind_stored k kept fits is within push_y all =
      let inside : IsInFrame t = omega (arith, within, kept.frame.few) in
      let stored : pieces.Held = with_memory (with_frame_word t k.stack.a k.memory) (without_a k) in
      let writes : ChangesWithin t g.words k.memory stored.memory =
      changes_writing t g.words t k.memory k.stack.a (omega arith) within in
      let still = outer_words_stay g top t g.words es env k.memory stored.memory meets low (omega arith) writes kept in
      let there : Holds stored.memory t x =
      subst (λ (v : ℤ). Holds (with_frame_word t v k.memory) t x) (sym is)
      (word_at-with_word k.memory (word_place t) x (omega (arith, within, kept.frame.inside)) fits) in
      came_back k stored (words_are_stored g.footing t k kept.frame.workspace inside) writes refl there
      kept.frame.workspace inside (push_y (first_stand g ys (back in_order t) all) stored still)

  -- the first operand waits in a temporary
  pub waiting : FitsSigned w32 x → Pushes g top es env xs t lx sx x → Pushes g top es env ys (word_after t 1) ly sy y
      → AllStandOn g (xs ++ (stores t ∷ (ys ++ back in_order t)))
      → PushedBoth g (xs ++ (stores t ∷ (ys ++ back in_order t))) t in_order ((sx || lx) && ly) x y h
  waiting fits push_x push_y all =
      let first = push_x (first_stand g xs (stores t ∷ (ys ++ back in_order t)) all) h carries in
      let rest = rest_stand g xs (stores t ∷ (ys ++ back in_order t)) all in
      let kept = carries_after g top t es env xs lx sx x h meets low first carries in
      let second = behind_stored first.after kept fits first.a (temporary_within g.words t few rest.0) push_y rest.1 in
      record {
        after = second.after;
        leads = lead_both first.leads second.leads;
        operands = second.operands;
        changes = changes_both first.changes second.changes;
        below = λ is.
            let both = both_true (sx || lx) ly is in
            second.below both.1 ∙ keeps_a g xs t lx sx x h first both.0;
      }

-- ---- two operands

both_by : (lx sy : Bool) (g : Ground) (top t : ℕ) (es : List Entry) (env : Environment) (in_order : Bool)
    (xs xs2 ys ys2 : List Piece) (sx ly : Bool) (x y : ℤ) (h : pieces.Held) → Meets env es → top ≤ t → IsCounted t
    → FitsSigned w32 x → Pushes g top es env xs t lx sx x → Pushes g top es env ys t ly sy y
    → Pushes g top es env ys2 (word_after t 1) ly sy y
    → AllStandOn g (both in_order (comes_last lx sy) t
    (record { first = xs; second = xs2; leaf = lx; small = sx })
    (record { first = ys; second = ys2; leaf = ly; small = sy }))
    → Carries g top es env h.memory
    → PushedBoth g (both in_order (comes_last lx sy) t (record { first = xs; second = xs2; leaf = lx; small = sx })
    (record { first = ys; second = ys2; leaf = ly; small = sy })) t in_order ((sx || lx) && ly) x y h
both_by true true g top t es env in_order xs xs2 ys ys2 sx ly x y h meets low few fits px py py2 all carries =
    on_it g top t es env meets low few in_order x y xs ys2 true sx ly true h carries px py2 refl all
both_by false true g top t es env in_order xs xs2 ys ys2 sx ly x y h meets low few fits px py py2 all carries =
    on_it g top t es env meets low few in_order x y xs ys2 false sx ly true h carries px py2 refl all
both_by true false g top t es env in_order xs xs2 ys ys2 sx ly x y h meets low few fits px py py2 all carries =
    on_other g top t es env meets low few in_order x y xs ys true sx ly false h carries px py refl all
both_by false false g top t es env in_order xs xs2 ys ys2 sx ly x y h meets low few fits px py py2 all carries =
    waiting g top t es env meets low few in_order x y xs ys2 false sx ly false h carries fits px py2 all

pub both_push : BothPush
both_push g top t es env in_order a b x y h meets low few fits push_a push_b all carries =
    both_by a.leaf b.small g top t es env in_order a.first a.second b.first b.second a.small b.leaf x y h meets low few
    fits push_a.first push_b.first push_b.second all carries

-- ---- operations

operands_give : (in_order : Bool) (op : Binary) (x y v : ℤ) (s : Stack ℤ) → AreOperands in_order x y s
    → computed op x y ≡ Some v → (in_order ≡ false → computed op y x ≡ Some v) → computed op s.b s.a ≡ Some v
operands_give true op x y v s are gives either =
    ap (λ (u : ℤ). computed op u s.a) are.0 ∙ ap (computed op x) are.1 ∙ gives
operands_give false op x y v s (inl are) gives either =
    ap (λ (u : ℤ). computed op u s.a) are.0 ∙ ap (computed op x) are.1 ∙ gives
operands_give false op x y v s (inr are) gives either =
    ap (λ (u : ℤ). computed op u s.a) are.0 ∙ ap (computed op y) are.1 ∙ either refl

-- an operation of two operands that are pushed
pub operation_behind : (g : Ground) (ps : List Piece) (t : ℕ) (in_order kept : Bool) (operation : ℤ) (op : Binary)
    (x y v : ℤ) (h : pieces.Held) → IsBinary operation op → computed op x y ≡ Some v
    → (in_order ≡ false → computed op y x ≡ Some v) → PushedBoth g ps t in_order kept x y h
    → Pushed g (ps ++ operates operation ∷ []) t false kept v h
operation_behind g ps t in_order kept operation op x y v h is gives either two =
    let k = two.after in
    record {
      after = with_result v k;
      leads = lead_both two.leads (operations_are_computed g.footing operation op v k is
          (operands_give in_order op x y v k.stack two.operands gives either));
      a = refl;
      changes = two.changes;
      below = λ is. two.below is;
      alone = λ is. absurd (cc is);
    }

pub operations_push : OperationsPush
operations_push g top t es env in_order a b operation op x y v h meets low few fits push_a push_b is gives either all
    carries =
    let code : List Piece = both in_order (comes_last a.leaf b.small) t a b in
    operation_behind g code t in_order (keeps a b) operation op x y v h is gives either
    (both_push g top t es env in_order a b x y h meets low few fits push_a push_b
    (first_stand g code (operates operation ∷ []) all) carries)
