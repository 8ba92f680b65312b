-- What the code of two operands leaves known, and that of an operation of both.
use Rattle.std.proofs.Common.{◌≡◌, ℕ, ◌+◌, ◌<◌, ◌≤◌, inl, inr, ℤ, pos, ◌+ℤ◌, ◌-ℤ◌, Bool, true, false, ◌&&◌, ◌||◌, cond}
use Rattle.std.proofs.Common.{List, [], ◌∷◌, ◌++◌, Some, refl, sym, ap, subst, ◌∙◌, arith}
use Rattle.std.proofs.lemmas.Int.{ints}
use Rattle.std.proofs.lemmas.Bool.{and_parts}
use Rattle.small_laws.proofs.Comparisons.{eqb-self}
use Rattle.states.specs.declared.known.Loop.{Loop as CountedLoop}
use Rattle.states.specs.Below.{is_same_loop}
use Rattle.word_arithmetic.specs.Range.{Ends, IsRange}
use Rattle.word_arithmetic.specs.Binary.{result_range}
use Rattle.word_arithmetic.specs.declared.binary.Binary.{Binary}
use Rattle.module_format.specs.Rows.{Fact}
use Rattle.module_format.specs.declared.limits.TheConstants.{MAX_DATA_WORDS}
use Rattle.module_format.specs.declared.stack.Stack.{Stack}
use Rattle.module_format.specs.Stack.{reversed}
use Rattle.machine_state.specs.declared.op.Op.TheVariants as ops
use Rattle.machine_state.specs.Instructions.{op_of}
use Rattle.states.specs.declared.known.Known.{Known}
use Rattle.states.specs.declared.known.Source.{Source}
use Rattle.states.specs.declared.known.Source.TheVariants.{Nowhere}
use Rattle.states.specs.declared.known.WordFact.{WordFact}
use Rattle.states.specs.declared.known.WordFact.TheVariants.{Alone, Index, Count}
use Rattle.states.specs.State.{Facts, is_same_number, is_at, is_parted, by_itself, with_fact}
use Rattle.local_rules.specs.WordRules.{number_in, result_source, word_as_known}
use Rattle.scalar_ranges.specs.Entries.{Entry}
use Rattle.code_pieces.specs.Pieces.{Piece, operates, stores, counted, word_after}
use Rattle.line_pieces.specs.Expressions.{both, comes_last, back, exchanged}
use Rattle.certified_lines.specs.StraightRules.{Setting, Told, FallOn, done, with_pushed}
use Rattle.certified_lines.specs.Instructions.{IsCounted, MayRead, MayWrite, is_told, with_word, without_a}
use Rattle.certified_lines.specs.Instructions.{with_result}
use Rattle.certified_lines.specs.Numbers.{IsNumberIn}
use Rattle.certified_lines.specs.Scopes.{Scene, HoldsScope, IsScope, IsNumber}
use Rattle.certified_lines.specs.Telling.{IsWhole, StayBefore, AreAllowed, PushedFact, Tells, IsFree, AreTold}
use Rattle.certified_lines.specs.Telling.{IsLike, IsQuiet, ComesFromNowhere, AreFromNowhere}
use Rattle.certified_lines.specs.Telling.{PushedBoth, keeps}
use Rattle.certified_lines.specs.OperandLaws.{BothTell, OperationsTell}
use Rattle.certified_lines.proofs.StraightRules.{fall_both}
use Rattle.certified_lines.proofs.Instructions.{loaded_words_are_known, stored_words_are_known, registers_are_reversed}
use Rattle.certified_lines.proofs.Numbers.{results_lie_in_ranges}
use Rattle.certified_lines.proofs.Telling.{scopes_stay, stay_both, stay_fewer}
use Rattle.certified_lines.proofs.Telling.{like_of, like_both, like_forgotten}

-- ---- what is allowed

pub allowed_first : (g : Scene) (ps qs : List Piece) → AreAllowed g (ps ++ qs) → AreAllowed g ps
allowed_first g [] qs all = tt
allowed_first g (p ∷ ps) qs all = (all.0, allowed_first g ps qs all.1)

pub allowed_rest : (g : Scene) (ps qs : List Piece) → AreAllowed g (ps ++ qs) → AreAllowed g qs
allowed_rest g [] qs all = all
allowed_rest g (p ∷ ps) qs all = allowed_rest g ps qs all.1

-- a temporary that is stored
pub record IsTemporary (g : Setting) (t : ℕ) : Type 0 where
  pub few : t < MAX_DATA_WORDS
  pub counts : IsCounted t
  pub writes : MayWrite g t
  pub reads : MayRead g t

free_counts : (t : ℕ) → IsFree t → IsCounted t
unfolding counted
free_counts t few = omega (arith, few)

temporary_of : (g : Setting) (t : ℕ) → IsFree t → (counted t < MAX_DATA_WORDS) × MayWrite g (counted t)
    × MayRead g (counted t) → IsTemporary g t
temporary_of g t few may =
    let same = free_counts t few in
    record {
      few = subst (λ (n : ℕ). n < MAX_DATA_WORDS) same may.0;
      counts = same;
      writes = subst (λ (n : ℕ). MayWrite g n) same may.1;
      reads = subst (λ (n : ℕ). MayRead g n) same may.2;
    }

pub next_counted : (t : ℕ) → IsFree t → t ≤ word_after t 1
unfolding word_after counted
next_counted t few = omega (arith, few)

pub next_free : (t : ℕ) → IsFree (word_after t 1)
unfolding word_after counted
next_free t = omega arith

next_is : (t : ℕ) → t < MAX_DATA_WORDS → word_after t 1 ≡ t + 1
unfolding word_after counted
next_is t few = omega (arith, few)

-- ---- a word that is stored stays alone

pub same_word : (k : ℤ) → is_same_number k k ≡ true
same_word k = grind (arith, ints)

pub other_word : (j k : ℤ) → (j ≡ k → ⊥) → is_same_number j k ≡ false
other_word j k apart = grind (arith, ints)

pub same_loop : (loop : CountedLoop) → is_same_loop loop loop ≡ true
same_loop loop = rw (same_word loop.base, eqb-self loop.count, eqb-self loop.weight) refl

before_word : (t k : ℕ) → k < t → is_same_number (pos k) (pos t) ≡ false
before_word t k less = grind (arith, ints)

before_in_loop : (t k : ℕ) → k + 1 < t → is_same_number (pos k +ℤ pos 1) (pos t) ≡ false
before_in_loop t k less = grind (arith, ints)

count_before : (t k : ℕ) → k < t → is_same_number (pos k -ℤ pos 1) (pos t) ≡ false
count_before t k less = grind (arith, ints)

not_parted : (t k : ℕ) (w : WordFact) → k < t → IsWhole t k w → is_parted (is_at (pos t)) (pos k) w ≡ false
not_parted t k (Alone fact) less whole = refl
not_parted t k (Index loop) less whole = before_in_loop t k (omega (arith, whole))
not_parted t k (Count loop) less whole = count_before t k less

pub stored_by : (here parted : Bool) (fact : Fact) (w : WordFact) → here ≡ false → parted ≡ false
    → cond here (Alone fact) (cond parted (Alone (by_itself w)) w) ≡ w
stored_by true parted fact w away apart = absurd (cc away)
stored_by false true fact w away apart = absurd (cc apart)
stored_by false false fact w away apart = refl

pub stored_stay : (t : ℕ) (fact : Fact) (f : Facts) → StayBefore t f (with_fact (pos t) fact f)
stored_stay t fact f k less whole =
    stored_by (is_at (pos t) (pos k)) (is_parted (is_at (pos t)) (pos k) (f (pos k))) fact (f (pos k))
    (before_word t k less) (not_parted t k (f (pos k)) less whole)

pub stored_there : (t : ℕ) (fact : Fact) (f : Facts) → with_fact (pos t) fact f (pos t) ≡ Alone fact
stored_there t fact f =
    ap (λ (here : Bool). cond here (Alone fact) (cond (is_parted (is_at (pos t)) (pos t) (f (pos t)))
    (Alone (by_itself (f (pos t)))) (f (pos t)))) (same_word (pos t))

-- ---- order

in_either : (in_order : Bool) (r s : Ends) (k : Stack Known) → k.b.fact ≡ number_in r → k.a.fact ≡ number_in s
    → AreTold in_order r s k
in_either true r s k first second = (first, second)
in_either false r s k first second = inl (first, second)

-- what was in A is known below a value
pub keeps_a : (g : Setting) (ps : List Piece) (t : ℕ) (leaf small : Bool) (r : Ends) (before : Told)
    → (p : PushedFact g ps t leaf small r before) → (small || leaf) ≡ true
    → IsLike before.stack.a p.after.stack.b
keeps_a g ps t leaf true r before p is = p.below refl
keeps_a g ps t true false r before p is = like_of (ap (λ (k : Told). k.stack.b) (p.alone refl))
keeps_a g ps t false false r before p is = absurd (cc is)

-- what is in A and B is exchanged, or not
exchange_falls : (g : Setting) (in_order : Bool) (r s : Ends) (k : Told) → k.stack.a.fact ≡ number_in r
    → k.stack.b.fact ≡ number_in s
    → (after : Told) × FallOn g (exchanged in_order) k after × AreTold in_order r s after.stack
    × (after.frame ≡ k.frame) × (after.stack.c ≡ k.stack.c)
    × ((Q : Source → Type 0) → Q k.stack.a.source → Q k.stack.b.source
    → Q after.stack.b.source × Q after.stack.a.source)
exchange_falls g true r s k first second =
    (record k { stack = reversed k.stack }, registers_are_reversed g k, (first, second), refl, refl, λ Q a b. (a, b))
exchange_falls g false r s k first second = (k, done, inr (second, first), refl, refl, λ Q a b. (b, a))

-- what comes from nowhere comes from no word
pub quiet_of : (t : ℕ) (source : Source) → source ≡ Nowhere → IsQuiet t source
quiet_of t source is = subst (IsQuiet t) (sym is) tt

pub still_nowhere : (old new : Known) → IsLike old new → old.source ≡ Nowhere → new.source ≡ Nowhere
still_nowhere old new like none = elim like.source [ inl same ↦ same ∙ none | inr gone ↦ gone ]

told_number : (fact : Fact) (r : Ends) → fact ≡ number_in r → is_told fact ≡ true
told_number fact r is = ap is_told is

module _ (g : Scene) (top t : ℕ) (es : List Entry) (scope : IsScope g top es) (low : top ≤ t) (few : IsFree t)
    (in_order : Bool) (r s : Ends) (xs ys : List Piece) (lx sx ly sy : Bool) (before : Told)
    (holds : HoldsScope g es before.frame) where
  -- the second operand leaves what is in A below its value
  pub on_it : Tells g es xs t lx sx r → Tells g es ys (word_after t 1) ly sy s → sy ≡ true
      → AreAllowed g (xs ++ ys)
      → PushedBoth g.setting (xs ++ ys) t in_order ((sx || lx) && ly)
      (ComesFromNowhere g.setting xs × ComesFromNowhere g.setting ys) r s before
  on_it push_x push_y small may =
      let first = push_x (allowed_first g xs ys may) before holds in
      let k = first.after in
      let kept = scopes_stay g top t es before.frame k.frame scope low first.stay holds in
      let second = push_y (allowed_rest g xs ys may) k kept in
      record {
        after = second.after;
        falls = fall_both first.falls second.falls;
        operands = in_either in_order r s second.after.stack ((second.below small).fact ∙ first.a) second.a;
        sources = λ calm. (
          quiet_of t second.after.stack.b.source (still_nowhere k.stack.a second.after.stack.b (second.below small)
              (calm.0 before k first.falls)),
          quiet_of t second.after.stack.a.source (calm.1 k second.after second.falls),
        );
        stay = stay_both t before.frame k.frame second.after.frame first.stay
            (stay_fewer t (word_after t 1) k.frame second.after.frame (next_counted t few) second.stay);
        below = λ is.
            let both = and_parts (sx || lx) ly is in
            like_both (keeps_a g.setting xs t lx sx r before first both.0)
            (like_of (ap (λ (k : Told). k.stack.c) (second.alone both.1)));
      }

  -- the first operand is one push, after the second one
  pub on_other : Tells g es xs t lx sx r → Tells g es ys t ly sy s → lx ≡ true
      → AreAllowed g (ys ++ (xs ++ exchanged in_order))
      → PushedBoth g.setting (ys ++ (xs ++ exchanged in_order)) t in_order ((sx || lx) && ly)
      (ComesFromNowhere g.setting xs × ComesFromNowhere g.setting ys) r s before
  on_other push_x push_y leaf may =
      let second = push_y (allowed_first g ys (xs ++ exchanged in_order) may) before holds in
      let k = second.after in
      let kept = scopes_stay g top t es before.frame k.frame scope low second.stay holds in
      let rest = allowed_rest g ys (xs ++ exchanged in_order) may in
      let first = push_x (allowed_first g xs (exchanged in_order) rest) k kept in
      let alone = first.alone leaf in
      let last = exchange_falls g.setting in_order r s first.after first.a
      (ap (λ (k : Told). k.stack.b.fact) alone ∙ second.a) in
      record {
        after = last.0;
        falls = fall_both second.falls (fall_both first.falls last.1);
        operands = last.2;
        sources = λ calm.
            last.5 (IsQuiet t) (quiet_of t first.after.stack.a.source (calm.0 k first.after first.falls))
            (quiet_of t first.after.stack.b.source
            (ap (λ (j : Told). j.stack.b.source) alone ∙ calm.1 before k second.falls));
        stay = stay_both t before.frame k.frame last.0.frame second.stay
            (subst (λ (f : Facts). StayBefore t k.frame f) (sym last.3) first.stay);
        below = λ is.
            let both = and_parts (sx || lx) ly is in
            like_of (last.4 ∙ ap (λ (k : Told). k.stack.c) alone ∙ ap (λ (k : Told). k.stack.b) (second.alone both.1));
      }

  -- where the first operand is stored, and the second one and then the first one are pushed
  record Waited (k : Told) : Type 0 where
    after : Told
    falls : FallOn g.setting (stores t ∷ (ys ++ back in_order t)) k after
    operands : AreTold in_order r s after.stack
    sources : ComesFromNowhere g.setting ys → IsQuiet t after.stack.b.source × IsQuiet t after.stack.a.source
    stay : StayBefore t k.frame after.frame
    below : ly ≡ true → IsLike k.stack.b after.stack.c

  came_back : (k stored : Told) → FallOn g.setting (stores t ∷ []) k stored → StayBefore t k.frame stored.frame
      → IsLike k.stack.b stored.stack.a → IsNumber stored.frame t r → IsTemporary g.setting t
      → PushedFact g.setting ys (word_after t 1) ly sy s stored → Waited k
  came_back k stored stores stay below there temporary second =
      let next : word_after t 1 ≡ t + 1 = next_is t temporary.few in
      let waits : IsNumber second.after.frame t r =
      second.stay t (omega (arith, next)) (subst (IsWhole (word_after t 1) t) (sym there) tt) ∙ there in
      let loaded : Known = word_as_known (pos t) (second.after.frame (pos t)) in
      let last = exchange_falls g.setting in_order r s (with_pushed loaded second.after)
      (ap (λ (w : WordFact). (word_as_known (pos t) w).fact) waits) second.a in
      let later : StayBefore t stored.frame second.after.frame =
      stay_fewer t (word_after t 1) stored.frame second.after.frame (next_counted t few) second.stay in
      record {
        after = last.0;
        falls = fall_both stores (fall_both second.falls
            (fall_both (loaded_words_are_known g.setting t second.after temporary.counts temporary.reads) last.1));
        operands = last.2;
        sources = λ calm.
            last.5 (IsQuiet t)
            (subst (IsQuiet t) (sym (ap (λ (w : WordFact). (word_as_known (pos t) w).source) waits))
            (omega (arith, ints)))
            (quiet_of t second.after.stack.a.source (calm stored second.after second.falls));
        stay = stay_both t k.frame stored.frame last.0.frame stay
            (subst (λ (f : Facts). StayBefore t stored.frame f) (sym last.3) later);
        below = λ is.
            like_both below (like_of (last.4 ∙ ap (λ (k : Told). k.stack.b) (second.alone is)));
      }

  behind_stored : (k : Told) → HoldsScope g es k.frame → k.stack.a.fact ≡ number_in r → IsTemporary g.setting t
      → Tells g es ys (word_after t 1) ly sy s → AreAllowed g (ys ++ back in_order t) → Waited k
  behind_stored k kept is temporary push_y may =
      let stored : Told = without_a (with_word t k.stack.a.fact k) in
      let stay : StayBefore t k.frame stored.frame = stored_stay t k.stack.a.fact k.frame in
      let still = scopes_stay g top t es k.frame stored.frame scope low stay kept in
      let there : IsNumber stored.frame t r =
      stored_there t k.stack.a.fact k.frame ∙ ap (λ (f : Fact). Alone f) is in
      came_back k stored
      (stored_words_are_known g.setting t k temporary.counts temporary.writes (told_number k.stack.a.fact r is)) stay
      (like_forgotten (is_at (pos t)) k.stack.b) there temporary
      (push_y (allowed_first g ys (back in_order t) may) stored still)

  -- the first operand waits in a temporary
  pub waiting : Tells g es xs t lx sx r → Tells g es ys (word_after t 1) ly sy s
      → AreAllowed g (xs ++ (stores t ∷ (ys ++ back in_order t)))
      → PushedBoth g.setting (xs ++ (stores t ∷ (ys ++ back in_order t))) t in_order ((sx || lx) && ly)
      (ComesFromNowhere g.setting xs × ComesFromNowhere g.setting ys) r s before
  waiting push_x push_y may =
      let first = push_x (allowed_first g xs (stores t ∷ (ys ++ back in_order t)) may) before holds in
      let rest = allowed_rest g xs (stores t ∷ (ys ++ back in_order t)) may in
      let kept = scopes_stay g top t es before.frame first.after.frame scope low first.stay holds in
      let second = behind_stored first.after kept first.a (temporary_of g.setting t few rest.0) push_y rest.1 in
      record {
        after = second.after;
        falls = fall_both first.falls second.falls;
        operands = second.operands;
        sources = λ calm. second.sources calm.1;
        stay = stay_both t before.frame first.after.frame second.after.frame first.stay second.stay;
        below = λ is.
            let both = and_parts (sx || lx) ly is in
            like_both (keeps_a g.setting xs t lx sx r before first both.0) (second.below both.1);
      }

-- ---- two operands

calmer : {g : Setting} {ps : List Piece} {t : ℕ} {in_order kept : Bool} {calm other : Type 0} {r s : Ends}
    {before : Told} → (other → calm) → PushedBoth g ps t in_order kept calm r s before
    → PushedBoth g ps t in_order kept other r s before
calmer further two = record {
  after = two.after;
  falls = two.falls;
  operands = two.operands;
  sources = λ calm. two.sources (further calm);
  stay = two.stay;
  below = two.below;
}

both_by : (lx sy : Bool) (g : Scene) (top t : ℕ) (es : List Entry) (in_order : Bool) (xs xs2 ys ys2 : List Piece)
    (sx ly : Bool) (r s : Ends) (before : Told) → IsScope g top es → top ≤ t → IsFree t → Tells g es xs t lx sx r
    → Tells g es ys t ly sy s → Tells g es ys2 (word_after t 1) ly sy s
    → AreAllowed g (both in_order (comes_last lx sy) t
    (record { first = xs; second = xs2; leaf = lx; small = sx })
    (record { first = ys; second = ys2; leaf = ly; small = sy }))
    → HoldsScope g es before.frame
    → PushedBoth g.setting (both in_order (comes_last lx sy) t
    (record { first = xs; second = xs2; leaf = lx; small = sx })
    (record { first = ys; second = ys2; leaf = ly; small = sy })) t in_order ((sx || lx) && ly)
    (ComesFromNowhere g.setting xs × ComesFromNowhere g.setting ys × ComesFromNowhere g.setting ys2) r s before
both_by true true g top t es in_order xs xs2 ys ys2 sx ly r s before scope low few px py py2 all holds =
    calmer (λ calm. (calm.0, calm.2))
    (on_it g top t es scope low few in_order r s xs ys2 true sx ly true before holds px py2 refl all)
both_by false true g top t es in_order xs xs2 ys ys2 sx ly r s before scope low few px py py2 all holds =
    calmer (λ calm. (calm.0, calm.2))
    (on_it g top t es scope low few in_order r s xs ys2 false sx ly true before holds px py2 refl all)
both_by true false g top t es in_order xs xs2 ys ys2 sx ly r s before scope low few px py py2 all holds =
    calmer (λ calm. (calm.0, calm.1))
    (on_other g top t es scope low few in_order r s xs ys true sx ly false before holds px py refl all)
both_by false false g top t es in_order xs xs2 ys ys2 sx ly r s before scope low few px py py2 all holds =
    calmer (λ calm. (calm.0, calm.2))
    (waiting g top t es scope low few in_order r s xs ys2 false sx ly false before holds px py2 all)

pub both_tell : BothTell
both_tell g top t es in_order a b r s before scope low few push_a push_b all holds =
    both_by a.leaf b.small g top t es in_order a.first a.second b.first b.second a.small b.leaf r s before scope low
    few push_a.first push_b.first push_b.second all holds

-- ---- operations

-- the ranges of what is in B and A, whichever they are
record AreRanged (op : Binary) (q : Ends) (k : Stack Known) : Type 0 where
  first : Ends
  second : Ends
  b : IsNumberIn k.b first
  a : IsNumberIn k.a second
  gives : result_range op first second ≡ Some q

ranged_in_order : (op : Binary) (r s q : Ends) (k : Stack Known) → IsRange r → IsRange s → AreTold true r s k
    → result_range op r s ≡ Some q → AreRanged op q k
ranged_in_order op r s q k x y are gives = record {
  first = r;
  second = s;
  b = record { is = are.0; range = x };
  a = record { is = are.1; range = y };
  gives = gives;
}

ranged : (in_order : Bool) (op : Binary) (r s q : Ends) (k : Stack Known) → IsRange r → IsRange s
    → AreTold in_order r s k → result_range op r s ≡ Some q → (in_order ≡ false → result_range op s r ≡ Some q)
    → AreRanged op q k
ranged true op r s q k x y are gives either = ranged_in_order op r s q k x y are gives
ranged false op r s q k x y (inl are) gives either = ranged_in_order op r s q k x y are gives
ranged false op r s q k x y (inr are) gives either = ranged_in_order op s r q k y x are (either refl)

-- an operation of two operands that are pushed
pub operation_behind : (g : Setting) (ps : List Piece) (t : ℕ) (in_order kept : Bool) (calm : Type 0)
    (operation : ℤ) (op : Binary) (r s q : Ends) (before : Told) → IsRange r → IsRange s
    → op_of operation ≡ Some (ops.Binary op)
    → result_range op r s ≡ Some q → (in_order ≡ false → result_range op s r ≡ Some q)
    → PushedBoth g ps t in_order kept calm r s before
    → PushedFact g (ps ++ operates operation ∷ []) t false kept q before
operation_behind g ps t in_order kept calm operation op r s q before x y named gives either two =
    let k = two.after in
    let are = ranged in_order op r s q k.stack x y two.operands gives either in
    record {
      after = with_result (record { fact = number_in q; source = result_source op k.stack.b k.stack.a }) k;
      falls = fall_both two.falls (results_lie_in_ranges g operation op are.first are.second q k named are.b are.a
          are.gives);
      a = refl;
      stay = two.stay;
      below = λ is. two.below is;
      alone = λ is. absurd (cc is);
    }

pub operations_tell : OperationsTell
operations_tell g top t es in_order a b operation op r s q before scope low few x y push_a push_b named gives either
    all holds =
    let code : List Piece = both in_order (comes_last a.leaf b.small) t a b in
    operation_behind g.setting code t in_order (keeps a b) (AreFromNowhere g.setting a b) operation op r s q before x
    y named gives either
    (both_tell g top t es in_order a b r s before scope low few push_a push_b
    (allowed_first g code (operates operation ∷ []) all) holds)
