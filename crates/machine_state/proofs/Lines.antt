-- The line after a task was changed, and after its moves.
use Rattle.std.proofs.Common.{◌≡◌, ◌≢◌, ◌⊎◌, ℕ, zero, suc, ◌%◌, ◌<◌, inl, inr, List, [], ◌∷◌, ◌++◌, length, Option}
use Rattle.std.proofs.Common.{Some, None, refl, sym, ap, ◌∙◌, subst, arith}
use Rattle.std.proofs.lemmas.Bool.{cases_eq}
use Rattle.std.proofs.lemmas.Option.{slice_get_within}
use Rattle.std.specs.Prelude.{slice_get, slice_set}
use Rattle.std.specs.List.{remove}
use Rattle.small_laws.proofs.Lookups.{slice_get-append_left}
use Rattle.machine_state.specs.declared.process.Task.{Task}
use Rattle.machine_state.specs.declared.process.Condition.TheVariants.{Ready}
use Rattle.machine_state.specs.Moves.{picked}
use Rattle.machine_state.specs.Waiting.{IsReadyAt, AllReady, IsAbsent, AllDiffer, line_of, Line}

pub got_set : {A : Type 0} (xs : List A) (p : ℕ) (x y : A) → slice_get xs p ≡ Some x
    → slice_get (slice_set xs p y) p ≡ Some y
got_set [] p x y h = absurd (cc)
got_set (z ∷ zs) zero x y h = refl
got_set (z ∷ zs) (suc p) x y h = got_set zs p x y h

pub got_other : {A : Type 0} (xs : List A) (p q : ℕ) (y : A) → p ≢ q → slice_get (slice_set xs p y) q ≡ slice_get xs q
got_other [] p q y differ = refl
got_other (z ∷ zs) zero zero y differ = absurd (differ refl)
got_other (z ∷ zs) zero (suc q) y differ = refl
got_other (z ∷ zs) (suc p) zero y differ = refl
got_other (z ∷ zs) (suc p) (suc q) y differ = got_other zs p q y (λ e. differ (ap suc e))

pub got_within : {A : Type 0} (xs : List A) (p : ℕ) → p < length xs → (x : A) × (slice_get xs p ≡ Some x)
got_within [] p low = absurd (omega (arith, low))
got_within (x ∷ xs) zero low = (x, refl)
got_within (x ∷ xs) (suc p) low = got_within xs p (omega (arith, low))

-- what is there after one was set: the new one, at its place, or what was there, at another
pub set_either : {A : Type 0} (xs : List A) (k : ℕ) (y : A) (j : ℕ) (x : A) → slice_get (slice_set xs k y) j ≡ Some x
    → ((k ≡ j) × (x ≡ y)) ⊎ ((k ≢ j) × (slice_get xs j ≡ Some x))
set_either [] k y j x is = absurd (cc)
set_either (z ∷ zs) zero y zero x is = inl (refl, let e : y ≡ x = cc in sym e)
set_either (z ∷ zs) zero y (suc j) x is = inr ((λ e. omega (arith, e)), is)
set_either (z ∷ zs) (suc k) y zero x is = inr ((λ e. omega (arith, e)), is)
set_either (z ∷ zs) (suc k) y (suc j) x is = elim (set_either zs k y j x is) [
  | inl new ↦ inl (ap suc new.0, new.1)
  | inr old ↦ inr ((λ e. old.0 (omega (arith, e))), old.1)
]

-- the item of which a function returns something
pub told_in : {A B : Type 0} (told : B → Option A) (xs : List B) (p : ℕ) (x : A)
    → elim (slice_get xs p) as (λ o. Option A) [ None ↦ None | Some y ↦ told y ] ≡ Some x
    → (y : B) × (slice_get xs p ≡ Some y) × (told y ≡ Some x)
told_in {A} {B} told xs p x is = on (slice_get xs p) refl is
  where
    on : (o : Option B) → slice_get xs p ≡ o
        → elim o as (λ o. Option A) [ None ↦ None | Some y ↦ told y ] ≡ Some x
        → (y : B) × (slice_get xs p ≡ Some y) × (told y ≡ Some x)
    on None here is = absurd (cc)
    on (Some y) here is = (y, here, is)

-- ---- the line

pub ready_same : (tasks : List Task) (p : ℕ) (t : Task) (q : ℕ) → t.condition ≡ Ready → IsReadyAt tasks q
    → IsReadyAt (slice_set tasks p t) q
ready_same tasks p t q ready r = elim (cases_eq p q) [
  | inl e ↦ record {
    task = t;
    here = subst (λ n. slice_get (slice_set tasks p t) n ≡ Some t) e
        (got_set tasks p r.task t (subst (λ n. slice_get tasks n ≡ Some r.task) (sym e) r.here));
    ready = ready;
  }
  | inr differ ↦ record { task = r.task; here = got_other tasks p q t differ ∙ r.here; ready = r.ready }
]

pub all_ready_same : (tasks : List Task) (p : ℕ) (t : Task) (qs : List ℕ) → t.condition ≡ Ready → AllReady tasks qs
    → AllReady (slice_set tasks p t) qs
all_ready_same tasks p t [] ready all = tt
all_ready_same tasks p t (q ∷ qs) ready all =
    (ready_same tasks p t q ready all.0, all_ready_same tasks p t qs ready all.1)

pub all_ready_without : (tasks : List Task) (p : ℕ) (t : Task) (qs : List ℕ) → IsAbsent p qs → AllReady tasks qs
    → AllReady (slice_set tasks p t) qs
all_ready_without tasks p t [] absent all = tt
all_ready_without tasks p t (q ∷ qs) absent all = (
  record { task = all.0.task; here = got_other tasks p q t absent.0 ∙ all.0.here; ready = all.0.ready },
  all_ready_without tasks p t qs absent.1 all.1,
)

-- a process that is not ready is in no line
pub absent_by_condition : (tasks : List Task) (p : ℕ) (t : Task) (qs : List ℕ) → slice_get tasks p ≡ Some t
    → (t.condition ≡ Ready → ⊥) → AllReady tasks qs → IsAbsent p qs
absent_by_condition tasks p t [] here waits all = tt
absent_by_condition tasks p t (q ∷ qs) here waits all = (
  λ e. let there : slice_get tasks p ≡ Some all.0.task =
      subst (λ n. slice_get tasks n ≡ Some all.0.task) (sym e) all.0.here in
      let both : Some t ≡ Some all.0.task = sym here ∙ there in
      let same : t ≡ all.0.task = cc in
      waits (ap (λ (u : Task). u.condition) same ∙ all.0.ready),
  absent_by_condition tasks p t qs here waits all.1,
)

all_push : (tasks : List Task) (qs : List ℕ) (p : ℕ) → AllReady tasks qs → IsReadyAt tasks p
    → AllReady tasks (qs ++ p ∷ [])
all_push tasks [] p all ready = (ready, tt)
all_push tasks (q ∷ qs) p all ready = (all.0, all_push tasks qs p all.1 ready)

absent_push : (qs : List ℕ) (p r : ℕ) → IsAbsent r qs → r ≢ p → IsAbsent r (qs ++ p ∷ [])
absent_push [] p r absent differ = (differ, tt)
absent_push (q ∷ qs) p r absent differ = (absent.0, absent_push qs p r absent.1 differ)

differ_push : (qs : List ℕ) (p : ℕ) → AllDiffer qs → IsAbsent p qs → AllDiffer (qs ++ p ∷ [])
differ_push [] p all absent = (tt, tt)
differ_push (q ∷ qs) p all absent = (absent_push qs p q all.0 (λ e. absent.0 (sym e)), differ_push qs p all.1 absent.1)

all_remove : (tasks : List Task) (qs : List ℕ) (i : ℕ) → AllReady tasks qs → AllReady tasks (remove qs i)
all_remove tasks [] zero all = tt
all_remove tasks [] (suc i) all = tt
all_remove tasks (q ∷ qs) zero all = all.1
all_remove tasks (q ∷ qs) (suc i) all = (all.0, all_remove tasks qs i all.1)

absent_remove : (qs : List ℕ) (i r : ℕ) → IsAbsent r qs → IsAbsent r (remove qs i)
absent_remove [] zero r absent = tt
absent_remove [] (suc i) r absent = tt
absent_remove (q ∷ qs) zero r absent = absent.1
absent_remove (q ∷ qs) (suc i) r absent = (absent.0, absent_remove qs i r absent.1)

differ_remove : (qs : List ℕ) (i : ℕ) → AllDiffer qs → AllDiffer (remove qs i)
differ_remove [] zero all = tt
differ_remove [] (suc i) all = tt
differ_remove (q ∷ qs) zero all = all.1
differ_remove (q ∷ qs) (suc i) all = (absent_remove qs i q all.0, differ_remove qs i all.1)

ready_at : (tasks : List Task) (qs : List ℕ) (i q : ℕ) → AllReady tasks qs → slice_get qs i ≡ Some q → IsReadyAt tasks q
ready_at tasks [] i q all h = absurd (cc)
ready_at tasks (r ∷ rs) zero q all h = let same : r ≡ q = cc in subst (λ n. IsReadyAt tasks n) same all.0
ready_at tasks (r ∷ rs) (suc i) q all h = ready_at tasks rs i q all.1 h

absent_at : (qs : List ℕ) (i q r : ℕ) → IsAbsent r qs → slice_get qs i ≡ Some q → r ≢ q
absent_at [] i q r absent h = absurd (cc)
absent_at (x ∷ xs) zero q r absent h = let same : x ≡ q = cc in λ e. absent.0 (e ∙ sym same)
absent_at (x ∷ xs) (suc i) q r absent h = absent_at xs i q r absent.1 h

taken_absent : (qs : List ℕ) (i q : ℕ) → AllDiffer qs → slice_get qs i ≡ Some q → IsAbsent q (remove qs i)
taken_absent [] i q all h = absurd (cc)
taken_absent (x ∷ xs) zero q all h = let same : x ≡ q = cc in subst (λ n. IsAbsent n xs) same all.0
taken_absent (x ∷ xs) (suc i) q all h = (λ e. absent_at xs i q x all.0 h (sym e), taken_absent xs i q all.1 h)

some_at : (qs : List ℕ) (i : ℕ) → i < length qs → (q : ℕ) × (slice_get qs i ≡ Some q)
some_at [] i h = absurd (omega arith)
some_at (q ∷ qs) zero h = (q, refl)
some_at (q ∷ qs) (suc i) h = some_at qs i (omega arith)

-- ---- moves of the queue

pub leave_line : (tasks : List Task) (p : ℕ) (ready : List ℕ) → Line tasks (record { running = Some p; ready = ready })
    → Line tasks (record { running = None; ready = ready }) × IsAbsent p ready × IsReadyAt tasks p
leave_line tasks p ready l = (record { ready = l.ready.1; once = l.once.1 }, l.once.0, l.ready.0)

pub push_line : (tasks : List Task) (running : Option ℕ) (ready : List ℕ) (p : ℕ)
    → Line tasks (record { running = running; ready = ready }) → IsReadyAt tasks p → IsAbsent p (line_of running ready)
    → Line tasks (record { running = running; ready = ready ++ p ∷ [] })
push_line tasks None ready p l here absent =
    record { ready = all_push tasks ready p l.ready here; once = differ_push ready p l.once absent }
push_line tasks (Some r) ready p l here absent = record {
  ready = (l.ready.0, all_push tasks ready p l.ready.1 here);
  once = (absent_push ready p r l.once.0 (λ e. absent.0 (sym e)), differ_push ready p l.once.1 absent.1);
}

pub pick_line : (tasks : List Task) (running : Option ℕ) (ready : List ℕ) (pick : ℕ)
    → Line tasks (record { running = running; ready = ready })
    → Line tasks (picked pick (record { running = running; ready = ready }))
pick_line tasks (Some p) ready pick l = l
pick_line tasks None [] pick l = l
pick_line tasks None (p ∷ ps) pick l =
    let place = pick % length (p ∷ ps) in
    let some = some_at (p ∷ ps) place (omega arith) in
    record {
      ready = subst (λ (o : Option ℕ). AllReady tasks (line_of o (remove (p ∷ ps) place))) (sym some.1)
          (ready_at tasks (p ∷ ps) place some.0 l.ready some.1, all_remove tasks (p ∷ ps) place l.ready);
      once = subst (λ (o : Option ℕ). AllDiffer (line_of o (remove (p ∷ ps) place))) (sym some.1)
          (taken_absent (p ∷ ps) place some.0 l.once some.1, differ_remove (p ∷ ps) place l.once);
    }

-- ---- one more at the end

pub got_last : {A : Type 0} (xs : List A) (y : A) → slice_get (xs ++ y ∷ []) (length xs) ≡ Some y
got_last [] y = refl
got_last (x ∷ xs) y = got_last xs y

-- what is there is the last, or was there before
pub got_either : {A : Type 0} (xs : List A) (y : A) (p : ℕ) (x : A) → slice_get (xs ++ y ∷ []) p ≡ Some x
    → (slice_get xs p ≡ Some x) ⊎ ((p ≡ length xs) × (x ≡ y))
got_either [] y zero x h = inr (refl, let e : y ≡ x = cc in sym e)
got_either [] y (suc p) x h = absurd (cc)
got_either (z ∷ zs) y zero x h = inl h
got_either (z ∷ zs) y (suc p) x h = elim (got_either zs y p x h) [
  | inl before ↦ inl before
  | inr last ↦ inr (ap suc last.0, last.1)
]

pub all_ready_before : (tasks more : List Task) (qs : List ℕ) → AllReady tasks qs → AllReady (tasks ++ more) qs
all_ready_before tasks more [] all = tt
all_ready_before tasks more (q ∷ qs) all = (
  record {
    task = all.0.task;
    here = slice_get-append_left tasks more q all.0.task all.0.here;
    ready = all.0.ready;
  },
  all_ready_before tasks more qs all.1,
)

-- a number after the last is in no line
pub new_absent : (tasks : List Task) (qs : List ℕ) → AllReady tasks qs → IsAbsent (length tasks) qs
new_absent tasks [] all = tt
new_absent tasks (q ∷ qs) all = (
  (λ e. let inside = slice_get_within tasks q all.0.task all.0.here in omega arith),
  new_absent tasks qs all.1,
)
