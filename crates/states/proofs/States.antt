-- States that are equal field by field, and the words of all contexts.
use Rattle.std.proofs.Common.{◌≡◌, ℕ, zero, suc, ◌+◌, ◌-◌, ◌<◌, ℤ, ◌≤ℤ◌, ◌<ℤ◌, true, cond, List, [], ◌∷◌, length}
use Rattle.std.proofs.Common.{get_or, map, Option, Some, None, refl, sym, ap, ◌∙◌, subst, arith, rules}
use Rattle.std.proofs.Common.{inl, inr}
use Rattle.std.specs.Prelude.{slice_get, option_map, nat_lt, ◌==◌, FitsSigned}
use Rattle.std.specs.Int.{w32}
use Rattle.std.proofs.lemmas.List.{get_or_default}
use Rattle.std.proofs.lemmas.Bool.{cases_Bool, cases_lt, and_parts}
use Rattle.std.proofs.lemmas.Int.{ints}
use Rattle.small_laws.proofs.Comparisons.{int_le-true, int_lt-true}
use Rattle.module_format.specs.Rows.{Fact}
use Rattle.module_format.specs.declared.contexts.Context.{Context}
use Rattle.module_format.specs.Rows.{ProcedureRow}
use Rattle.module_format.specs.Contents.{Contents, procedure_of}
use Rattle.module_format.specs.Contexts.{context_at, own_context, owner, branch_count, root_context, procedure_context}
use Rattle.certificate.specs.Rights.{has_word}
use Rattle.states.specs.declared.known.Known.{Known}
use Rattle.states.specs.State.{State, Facts, is_at, with_fact, forgets, written}
use Rattle.states.specs.Room.{Covers}
use Rattle.states.specs.declared.state.State.{State as InMemory}
use Rattle.states.specs.Views.{CanWrite}

-- a state whose fields are those of one with a word written is that one
pub written-fields : (word w v : ℤ) (fact : Fact) (s : State) (a b c : Known) (frame : Facts)
    → a ≡ forgets (is_at w) s.stack.a → b ≡ forgets (is_at w) s.stack.b → c ≡ forgets (is_at w) s.stack.c
    → frame ≡ with_fact v fact s.frame → w ≡ word → v ≡ word
    → ◌≡◌ {A = State} (record s { stack = record { a = a; b = b; c = c }; frame = frame }) (written word fact s)
unfolding written
written-fields word w v fact s a b c frame p q r f w_is v_is =
    let a_is = p ∙ ap (λ (z : ℤ). forgets (is_at z) s.stack.a) w_is in
    let b_is = q ∙ ap (λ (z : ℤ). forgets (is_at z) s.stack.b) w_is in
    let c_is = r ∙ ap (λ (z : ℤ). forgets (is_at z) s.stack.c) w_is in
    let frame_is = f ∙ ap (λ (z : ℤ). with_fact z fact s.frame) v_is in
    λ i. record s { stack = record { a = a_is i; b = b_is i; c = c_is i }; frame = frame_is i }

-- ---- the words of all contexts

-- the words of a context lie from lo up to hi
pub record Within (lo hi : ℤ) (context : Context) : Type 0 where
  pub low : lo ≤ℤ context.lo
  pub high : context.hi ≤ℤ hi

-- so do those of a row
pub record RowWithin (lo hi : ℤ) (row : ProcedureRow) : Type 0 where
  pub low : lo ≤ℤ row.lo
  pub high : row.hi ≤ℤ hi

-- so do those of the first `n` rows
abbrev pub RowsWithin : ℤ → ℤ → List ProcedureRow → ℕ → Type 0
RowsWithin lo hi rows n = (i : ℕ) → i < n → (d : ProcedureRow) → RowWithin lo hi (get_or rows i d)

procedure-within : (lo hi : ℤ) (rows : List ProcedureRow) (i : ℕ) (context : Context)
    → RowsWithin lo hi rows (length rows)
    → option_map procedure_context (slice_get (map procedure_of rows) i) ≡ Some context → Within lo hi context
procedure-within lo hi [] i context each h = absurd (cc)
procedure-within lo hi (row ∷ rows) zero context each h =
    let w = each 0 (omega arith) row in
    let is : procedure_context (procedure_of row) ≡ context = cc in
    subst (λ (x : Context). Within lo hi x) is (record { low = w.low; high = w.high })
procedure-within lo hi (row ∷ rows) (suc i) context each h =
    procedure-within lo hi rows i context (λ j l d. each (suc j) (omega arith) d) h

own-within : (m : Contents) (lo hi : ℤ) (rows : List ProcedureRow) (n : ℕ) (context : Context)
    → m.procedures ≡ map procedure_of rows → Within lo hi (root_context m) → RowsWithin lo hi rows (length rows)
    → own_context m n ≡ Some context → Within lo hi context
own-within m lo hi rows n context is root each h = elim (cases_Bool (n == 0)) [
  | inl e ↦
      let chosen : Some (root_context m) ≡ Some context =
      sym (ap (λ b. cond b (Some (root_context m)) (option_map procedure_context
      (slice_get m.procedures (n - 1)))) e) ∙ h in
      let same : root_context m ≡ context = cc in
      subst (λ (x : Context). Within lo hi x) same root
  | inr e ↦
      procedure-within lo hi rows (n - 1) context each
      (ap (λ ps. option_map procedure_context (slice_get ps (n - 1))) (sym is)
      ∙ (sym (ap (λ b. cond b (Some (root_context m)) (option_map procedure_context
      (slice_get m.procedures (n - 1)))) e) ∙ h))
]

context-within : (m : Contents) (lo hi : ℤ) (rows : List ProcedureRow) (n : ℕ) (context : Context)
    → m.procedures ≡ map procedure_of rows → Within lo hi (root_context m) → RowsWithin lo hi rows (length rows)
    → context_at m n ≡ Some context → Within lo hi context
unfolding context_at
context-within m lo hi rows n context is root each h =
    elim (cases_Bool (nat_lt n (1 + length m.procedures + branch_count m.pars))) [
      | inl e ↦ own-within m lo hi rows (owner (1 + length m.procedures) m.pars n) context is root each
          (sym (ap (λ b. cond b (own_context m (owner (1 + length m.procedures) m.pars n)) None) e) ∙ h)
      | inr e ↦
          let none : None ≡ Some context =
          sym (ap (λ b. cond b (own_context m (owner (1 + length m.procedures) m.pars n)) None) e) ∙ h in
          absurd (cc)
    ]

word-within : (lo hi : ℤ) (o : Option Context) (k : ℤ) → ((context : Context) → o ≡ Some context → Within lo hi context)
    → has_word o k ≡ true → (lo ≤ℤ k) × (k <ℤ hi)
word-within lo hi None k each h = absurd (cc)
word-within lo hi (Some context) k each h =
    let w = each context refl in
    let p = and_parts _ _ h in
    let low = int_le-true context.lo k p.0 in
    let high = int_lt-true k context.hi p.1 in
    let below = w.low in
    let above = w.high in
    (omega (arith, ints), omega (arith, ints))

pub covers : (m : Contents) (lo hi : ℤ) (rows : List ProcedureRow) → m.procedures ≡ map procedure_of rows
    → Within lo hi (root_context m) → RowsWithin lo hi rows (length rows) → Covers m lo hi
covers m lo hi rows is root each = record {
  low = λ n k h. (word-within lo hi (context_at m n) k (λ context e.
      context-within m lo hi rows n context is root each e) h).0;
  high = λ n k h. (word-within lo hi (context_at m n) k (λ context e.
      context-within m lo hi rows n context is root each e) h).1;
}

-- one row more
pub rows-within-more : (lo hi low high : ℤ) (rows : List ProcedureRow) (n : ℕ) (e : ProcedureRow) → n < length rows
    → RowsWithin lo hi rows n → low ≤ℤ lo → hi ≤ℤ high → e ≡ get_or rows n e → low ≤ℤ e.lo → e.hi ≤ℤ high
    → RowsWithin low high rows (n + 1)
rows-within-more lo hi low high rows n e inside earlier l h item row_low row_high = λ i less d. elim (cases_lt i n) [
  | inl before ↦
      let w = earlier i before d in
      let below = w.low in
      let above = w.high in
      record { low = omega (arith, ints); high = omega (arith, ints) }
  | inr behind ↦
      let same : i ≡ n = omega arith in
      let row : get_or rows i d ≡ e = ap (λ j. get_or rows j d) same ∙ (get_or_default rows n d e inside ∙ sym item) in
      subst (λ (x : ProcedureRow). RowWithin low high x) (sym row) (record { low = row_low; high = row_high })
]

pub covered : (m tables : Contents) (lo hi : ℤ) (n : ℕ) (k : ℤ) → tables ≡ m → Covers tables lo hi
    → has_word (context_at m n) k ≡ true → (lo ≤ℤ k) × (k <ℤ hi)
covered m tables lo hi n k is c h =
    let there = ap (λ t. has_word (context_at t n) k) is ∙ h in
    (c.low n k there, c.high n k there)

-- a word that can be written is a number of 32 bits
pub room-fits : (s : InMemory) (k : ℤ) → CanWrite s k → FitsSigned w32 k
room-fits s k c =
    let low = c.room.low in
    let high = c.room.high in
    let least = s.frame.low in
    let most = s.frame.high in
    search (rules, arith, ints)
