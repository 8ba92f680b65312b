-- The words that a context may use are words of its frame.
use Rattle.std.proofs.Common.{◌≡◌, ℕ, ℤ, pos, ◌+ℤ◌, ◌≤ℤ◌, ◌<ℤ◌, Bool, true, false, ◌&&◌, ◌||◌, Option, Some, None}
use Rattle.std.proofs.Common.{refl, sym, ap, ◌∙◌, subst, inl, inr}
use Rattle.std.proofs.Common.{to_z, of_z}
use Rattle.std.proofs.lemmas.Bool.{cases_Bool, and_parts, and_right}
use Rattle.std.proofs.lemmas.Int.{to_z-of_z}
use Rattle.std.specs.Prelude.{FitsSigned, IsTrue, SomeIff, int_lt}
use Rattle.std.specs.Int.{w32, w64}
use Rattle.small_laws.proofs.Comparisons.{lt-int_le, le-int_lt}
use Rattle.module_format.specs.Contents.{Contents, Par, Branch}
use Rattle.module_format.specs.Contexts.{context_at}
use Rattle.module_format.specs.declared.contexts.Context.{Context}
use Rattle.certificate.specs.Rights.{has_word, is_among, may_write_word, may_read_word}
use Rattle.certificate.specs.Branches.{numbered_branch}
use Rattle.states.specs.declared.state.State.{State as InMemory}
use Rattle.states.specs.Views.{BelongsTo, CanWrite, IsUsable, AreUsable}
use Rattle.states.proofs.States.{room-fits}
use Rattle.states.proofs.SpanFacts.{all-from-each, all-fail-at}

pub written-own : (m : Contents) (n : ℕ) (k : ℤ) → may_write_word m n k ≡ true → has_word (context_at m n) k ≡ true
written-own m n k h = (and_parts _ _ h).0

pub read-own : (m : Contents) (n : ℕ) (k : ℤ) → may_read_word m n k ≡ true → has_word (context_at m n) k ≡ true
read-own m n k h = (and_parts _ _ h).0

module _ {may_use : Contents → ℕ → ℤ → Bool}
    (own : (m : Contents) (n : ℕ) (k : ℤ) → may_use m n k ≡ true → has_word (context_at m n) k ≡ true)
    (s : InMemory) (word : ℤ) where
  -- a word that the state's module lets its context use is within the capacity
  has-room : (m : Contents) → BelongsTo m s → may_use s.module.now s.context word ≡ true → CanWrite s word
  has-room m b h =
      b.room s.context word (own m s.context word (ap (λ (m : Contents). may_use m s.context word) (sym b.is) ∙ h))

  -- so it is returned exactly if the module lets the context use it
  handed-out : (may : Bool) (o : Option ℤ) → may ≡ may_use s.module.now s.context word
      → SomeIff o (IsTrue may × FitsSigned w32 word) word → IsUsable may_use s word o
  handed-out may (Some x) asked h = record {
    some = h.1;
    allowed = λ m b. sym h.0.0 ∙ (asked ∙ ap (λ (m : Contents). may_use m s.context word) b.is);
    room = λ m b. subst (λ (k : ℤ). CanWrite s k) (sym h.1) (has-room m b (sym asked ∙ h.0.0));
  }
  handed-out may None asked h = record {
    some = tt;
    allowed = λ m b. elim (cases_Bool may) [
      | inl t ↦ absurd (h (t, room-fits s word (has-room m b (sym asked ∙ t))))
      | inr f ↦ sym f ∙ (asked ∙ ap (λ (m : Contents). may_use m s.context word) b.is)
    ];
    room = λ m b. tt;
  }

  -- the same, of the word as it is passed on
  pub usable : FitsSigned w64 word → (may : Bool) (o : Option ℤ)
      → may ≡ may_use s.module.now s.context (to_z w64 (of_z w64 word))
      → SomeIff o (IsTrue may × FitsSigned w32 (to_z w64 (of_z w64 word))) (to_z w64 (of_z w64 word))
      → IsUsable may_use s word o
  usable fits may o asked h =
      let same = to_z-of_z w64 word fits in
      handed-out may o (rw same at asked) (rw same at h)

-- the words of a span are those from its first up to its end
abbrev Spanned : ℤ → ℕ → (ℤ → Type 0) → Type 0
Spanned first count Holds = (k : ℤ) → first ≤ℤ k → k <ℤ (first +ℤ pos count) → Holds k

module _ {may_use : Contents → ℕ → ℤ → Bool}
    (own : (m : Contents) (n : ℕ) (k : ℤ) → may_use m n k ≡ true → has_word (context_at m n) k ≡ true)
    (s : InMemory) (first : ℤ) (count : ℕ) where
  -- a span is one that the state's context may use where the module lets it use each word
  pub each-usable : Spanned first count (λ k. may_use s.module.now s.context k ≡ true)
      → AreUsable may_use s first count true
  each-usable each = record {
    allowed = λ m b. sym (all-from-each (may_use m s.context) first count (λ k low high.
        ap (λ (m : Contents). may_use m s.context k) (sym b.is) ∙ each k low high));
    room = λ m b yes. record {
      each = λ k low high. b.room s.context k
          (own m s.context k (ap (λ (m : Contents). may_use m s.context k) (sym b.is) ∙ each k low high));
    };
  }

  -- it is not where there is a word that the module does not let it use
  pub one-unusable : (k : ℤ) → first ≤ℤ k → k <ℤ (first +ℤ pos count) → may_use s.module.now s.context k ≡ false
      → AreUsable may_use s first count false
  one-unusable k low high fails = record {
    allowed = λ m b. sym (all-fail-at (may_use m s.context) first count k low high
        (ap (λ (m : Contents). may_use m s.context k) (sym b.is) ∙ fails));
    room = λ m b yes. absurd (cc);
  }

  pub usable-if : (usable : Bool)
      → (usable ≡ true → Spanned first count (λ k. may_use s.module.now s.context k ≡ true))
      → (usable ≡ false → (k : ℤ) × (first ≤ℤ k) × (k <ℤ (first +ℤ pos count))
      × (may_use s.module.now s.context k ≡ false))
      → AreUsable may_use s first count usable
  usable-if true each one = each-usable (each refl)
  usable-if false each one = let at = one refl in one-unusable at.0 at.1 at.2 at.3

-- ---- what may be used of a context's frame

-- no word that it does not have
pub unwritten : (m : Contents) (n : ℕ) (k : ℤ) → has_word (context_at m n) k ≡ false → may_write_word m n k ≡ false
unwritten m n k h = ap (λ (b : Bool). b && elim (numbered_branch m n) [
  | None ↦ true
  | Some found ↦ is_among found.1.writes k
]) h

pub unread : (m : Contents) (n : ℕ) (k : ℤ) → has_word (context_at m n) k ≡ false → may_read_word m n k ≡ false
unread m n k h = ap (λ (b : Bool). b && elim (numbered_branch m n) [
  | None ↦ true
  | Some found ↦ is_among found.1.writes k || is_among found.1.reads k
]) h

-- those that it has as its branch says
pub written-as : (m : Contents) (n : ℕ) (k : ℤ) (o : Option (Par × Branch)) → numbered_branch m n ≡ o
    → has_word (context_at m n) k ≡ true
    → may_write_word m n k ≡ elim o [ None ↦ true | Some found ↦ is_among found.1.writes k ]
written-as m n k o is h =
    ap (λ (b : Bool). b && elim (numbered_branch m n) [
      | None ↦ true
      | Some found ↦ is_among found.1.writes k
    ]) h
    ∙ ap (λ (o : Option (Par × Branch)). elim o [ None ↦ true | Some found ↦ is_among found.1.writes k ]) is

pub read-as : (m : Contents) (n : ℕ) (k : ℤ) (o : Option (Par × Branch)) → numbered_branch m n ≡ o
    → has_word (context_at m n) k ≡ true
    → may_read_word m n k
    ≡ elim o [ None ↦ true | Some found ↦ is_among found.1.writes k || is_among found.1.reads k ]
read-as m n k o is h =
    ap (λ (b : Bool). b && elim (numbered_branch m n) [
      | None ↦ true
      | Some found ↦ is_among found.1.writes k || is_among found.1.reads k
    ]) h
    ∙ ap (λ (o : Option (Par × Branch)). elim o [
      | None ↦ true
      | Some found ↦ is_among found.1.writes k || is_among found.1.reads k
    ]) is

-- ---- the ends of a frame

pub not-before : (context : Context) (k : ℤ) → k <ℤ context.lo → has_word (Some context) k ≡ false
not-before context k less = ap (λ (b : Bool). b && int_lt k context.hi) (lt-int_le context.lo k less)

pub not-behind : (context : Context) (k : ℤ) → context.hi ≤ℤ k → has_word (Some context) k ≡ false
not-behind context k more = and_right _ _ (le-int_lt k context.hi more)
