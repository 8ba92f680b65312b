-- What a reader takes and what it reads again: the tools, for any kind of value.
use Rattle.std.proofs.Common.{◌≡◌, ℕ, zero, suc, Bool, true, false, cond, List, [], ◌∷◌, ◌++◌, length, Result, Ok, Err}
use Rattle.std.proofs.Common.{refl, sym, ap, subst, ◌∙◌, append_assoc}
use Rattle.std.specs.Prelude.{IfOk}
use Rattle.std.specs.List.{flat_map}
use Rattle.std.proofs.lemmas.List.Concat.{flat_map-cons}
use Rattle.module_format.specs.declared.fault.FormatFault.{FormatFault}
use Rattle.module_format.specs.Order.{IsBytes, InOrder}
use Rattle.module_format.specs.declared.fault.FormatFaultKind.{FormatFaultKind}
use Rattle.module_format.specs.Reading.{◌>>=◌, and_then, Read, fault, tested, list_at}

-- what is known of a value that was given
pub record Has {A : Type 0} (read : Result A FormatFault) (Q : A → Type 0) : Type 0 where
  pub given : IfOk read Q

pub has_ok : {A : Type 0} {Q : A → Type 0} (x : A) → Q x → Has (Ok x) Q
has_ok x h = record { given = h }

pub has_err : {A : Type 0} {Q : A → Type 0} (f : FormatFault) → Has {A = A} (Err f) Q
has_err f = record { given = tt }

-- step by step
pub has_then : {A B : Type 0} {Q : A → Type 0} {R : B → Type 0} (r : Result A FormatFault)
    (k : A → Result B FormatFault) → Has r Q → ((x : A) → Q x → Has (k x) R) → Has (and_then r k) R
unfolding and_then
has_then (Ok x) k h next = next x h.given
has_then (Err f) k h next = has_err f

-- after a test that fails
pub has_unless : {A : Type 0} {Q : A → Type 0} (b : Bool) (f : FormatFault) (r : Result A FormatFault)
    → (b ≡ false → Has r Q) → Has (cond b (Err f) r) Q
has_unless true f r h = has_err f
has_unless false f r h = h refl

-- after a test that lets pass
pub has_if : {A : Type 0} {Q : A → Type 0} (b : Bool) (f : FormatFault) (r : Result A FormatFault)
    → (b ≡ true → Has r Q) → Has (cond b r (Err f)) Q
has_if true f r h = h refl
has_if false f r h = has_err f

-- after a choice
pub has_cond : {A : Type 0} {Q : A → Type 0} (b : Bool) (r s : Result A FormatFault) → (b ≡ true → Has r Q)
    → (b ≡ false → Has s Q) → Has (cond b r s) Q
has_cond true r s h g = h refl
has_cond false r s h g = g refl

pub has_weaker : {A : Type 0} {Q R : A → Type 0} (r : Result A FormatFault) → Has r Q → ((x : A) → Q x → R x) → Has r R
has_weaker (Ok x) h w = has_ok x (w x h.given)
has_weaker (Err f) h w = has_err f

pub has_at : {A : Type 0} {Q : A → Type 0} (r : Result A FormatFault) (x : A) → Has r Q → r ≡ Ok x → Q x
has_at {A = A} {Q = Q} r x h e = (subst (λ (s : Result A FormatFault). Has s Q) e h).given

-- a step whose value is known
pub step : {A B : Type 0} {r : Result A FormatFault} {x : A} {y : Result B FormatFault} (k : A → Result B FormatFault)
    → r ≡ Ok x → k x ≡ y → and_then r k ≡ y
unfolding and_then
step k e f = rw e f

-- what a reader took from the front: the bytes of a value that keeps P
pub record Spelled {A : Type 0} (bytes : List ℕ) (spelling : A → List ℕ) (P : A → Type 0)
    (x : A × List ℕ) : Type 0 where
  pub parts : bytes ≡ spelling x.0 ++ x.1
  pub rest_fits : IsBytes x.1
  pub keeps : P x.0

-- a field with a test of its own
pub tested_takes : {A : Type 0} {bytes : List ℕ} {spelling : A → List ℕ} {P Q : A → Type 0}
    (read : Read A) (test : A → Bool) (kind : FormatFaultKind) (at : ℕ)
    → Has read (Spelled bytes spelling P) → ((x : A) → P x → test x ≡ true → Q x)
    → Has (tested read test kind at) (Spelled bytes spelling Q)
unfolding tested
tested_takes (Ok x) test kind at h kept =
    let g = h.given in
    has_if (test x.0) (fault kind at) (Ok x) (λ passed.
    has_ok x (record { parts = g.parts; rest_fits = g.rest_fits; keeps = kept x.0 g.keeps passed }))
tested_takes (Err f) test kind at h kept = has_err f

pub tested_again : {A : Type 0} {x : A} {rest : List ℕ} (read : Read A) (test : A → Bool) (kind : FormatFaultKind)
    (at : ℕ)
    → read ≡ Ok (x, rest) → test x ≡ true → tested read test kind at ≡ Ok (x, rest)
unfolding tested
tested_again read test kind at e passed = rw (e, passed) refl

-- one piece after another
pub join : (a b s : List ℕ) {bytes r : List ℕ} → bytes ≡ a ++ r → r ≡ b ++ s → bytes ≡ (a ++ b) ++ s
join a b s p q = p ∙ ap (λ (t : List ℕ). a ++ t) q ∙ sym (append_assoc a b s)

-- what was taken from the front of bytes so far, and what is left
pub record Taken (bytes taken rest : List ℕ) : Type 0 where
  pub parts : bytes ≡ taken ++ rest
  pub rest_fits : IsBytes rest

pub nothing_taken : {bytes : List ℕ} → IsBytes bytes → Taken bytes [] bytes
nothing_taken fits = record { parts = refl; rest_fits = fits }

-- a tag, which is known
pub tag_taken : {bytes : List ℕ} {tag n : ℕ} → tag ≡ n → IsBytes bytes → Taken (tag ∷ bytes) (n ∷ []) bytes
tag_taken {bytes = bytes} same fits = record { parts = ap (λ (t : ℕ). t ∷ bytes) same; rest_fits = fits }

-- one field more
pub field : {A B : Type 0} {bytes taken rest : List ℕ} {spelling : A → List ℕ} {P : A → Type 0} {R : B → Type 0}
    {r : Read A} {k : A × List ℕ → Result B FormatFault}
    → Taken bytes taken rest → (IsBytes rest → Has r (Spelled rest spelling P))
    → ((x : A × List ℕ) → P x.0 → Taken bytes (taken ++ spelling x.0) x.1 → Has (k x) R) → Has (and_then r k) R
field {taken = taken} {spelling = spelling} t one next =
    has_then _ _ (one t.rest_fits) (λ x h.
    next x h.keeps (record { parts = join taken (spelling x.0) x.1 t.parts h.parts; rest_fits = h.rest_fits }))

-- what was taken, in other groups
pub regroup : {bytes taken other rest : List ℕ} → taken ≡ other → Taken bytes taken rest → Taken bytes other rest
regroup {rest = rest} same t =
    record { parts = t.parts ∙ ap (λ (front : List ℕ). front ++ rest) same; rest_fits = t.rest_fits }

-- and no more
pub all_taken : {A : Type 0} {bytes rest : List ℕ} {spelling : A → List ℕ} {P : A → Type 0} {x : A}
    → Taken bytes (spelling x) rest → P x → Has (Ok (x, rest)) (Spelled bytes spelling P)
all_taken t kept = has_ok _ (record { parts = t.parts; rest_fits = t.rest_fits; keeps = kept })

module _ {A S : Type 0} {item : S → List ℕ → Read A} {next : S → A → S} {spelling : A → List ℕ}
    {Keeps : S → A → Type 0} where
  -- a list of what an item's reader takes
  pub list_takes : ((low : S) (bytes : List ℕ) → IsBytes bytes → Has (item low bytes)
      (Spelled bytes spelling (Keeps low)))
      → (n : ℕ) (low : S) (bytes : List ℕ) → IsBytes bytes
      → Has (list_at item next n low bytes)
      (Spelled bytes (flat_map spelling) (λ xs. (length xs ≡ n) × InOrder Keeps next low xs))
  unfolding list_at
  list_takes one zero low bytes fits =
      has_ok ([], bytes) (record { parts = refl; rest_fits = fits; keeps = (refl, tt) })
  list_takes one (suc n) low bytes fits =
      has_then (item low bytes) (λ first. list_at item next n (next low first.0) first.1 >>= λ others. Ok
      (first.0 ∷ others.0, others.1)) (one low bytes fits) (λ first h.
      has_then (list_at item next n (next low first.0) first.1) (λ others. Ok (first.0 ∷ others.0, others.1))
      (list_takes one n (next low first.0) first.1 h.rest_fits) (λ others g.
      has_ok (first.0 ∷ others.0, others.1) (record {
        parts = rw flat_map-cons (join (spelling first.0) (flat_map spelling others.0) others.1 h.parts g.parts);
        rest_fits = g.rest_fits;
        keeps = (ap suc g.keeps.0, (h.keeps, g.keeps.1));
      })))

module _ {A S : Type 0} (item : S → List ℕ → Read A) (next : S → A → S) (spelling : A → List ℕ)
    {Keeps : S → A → Type 0} where
  -- and read again
  pub list_again : ((low : S) (x : A) (rest : List ℕ) → Keeps low x → item low (spelling x ++ rest) ≡ Ok (x, rest))
      → (xs : List A) (low : S) (rest : List ℕ) → InOrder Keeps next low xs
      → list_at item next (length xs) low (flat_map spelling xs ++ rest) ≡ Ok (xs, rest)
  unfolding list_at
  list_again one [] low rest h = refl
  list_again one (x ∷ xs) low rest h =
      let regrouped : flat_map spelling (x ∷ xs) ++ rest ≡ spelling x ++ (flat_map spelling xs ++ rest) =
      ap (λ (t : List ℕ). t ++ rest) (flat_map-cons spelling x xs)
      ∙ append_assoc (spelling x) (flat_map spelling xs) rest in
      ap (list_at item next (suc (length xs)) low) regrouped
      ∙ step _ (one low x (flat_map spelling xs ++ rest) h.0)
      (step _ (list_again one xs (next low x) rest h.1) refl)
