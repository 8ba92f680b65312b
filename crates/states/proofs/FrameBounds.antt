-- The frame of each context is small.
use Rattle.std.proofs.Common.{◌≡◌, ℕ, ◌+◌, ◌-◌, pos, negsuc, ◌≤ℤ◌, cond, inl, inr, length, Option, Some}
use Rattle.std.proofs.Common.{None, refl, sym, ap, ◌∙◌, subst, arith}
use Rattle.std.specs.Prelude.{slice_get, nat_lt, ◌==◌}
use Rattle.std.specs.Option.{option_map}
use Rattle.std.proofs.lemmas.Bool.{cases_Bool}
use Rattle.std.proofs.lemmas.Int.{ints}
use Rattle.module_format.specs.declared.contexts.Context.{Context}
use Rattle.module_format.specs.Contents.{Contents, Procedure}
use Rattle.module_format.specs.Contexts.{context_at, own_context, owner, branch_count, root_context, procedure_context}
use Rattle.module_format.specs.Keeping.{Keeps}
use Rattle.states.proofs.Procedures.{at-row}

-- no frame has words farther than 2^14 from its word 0
pub record IsSmallFrame (context : Context) : Type 0 where
  pub low : negsuc 16383 ≤ℤ context.lo
  pub high : context.hi ≤ℤ pos 16384

root-small : (m : Contents) → Keeps m → IsSmallFrame (root_context m)
root-small m k =
    let few = k.sizes.data_limit in
    let base = k.sizes.base in
    record { low = omega (arith, ints); high = omega (arith, ints) }

procedure-small : (m : Contents) → Keeps m → (n : ℕ) (o : Option Procedure) → slice_get m.procedures n ≡ o
    → (context : Context) → option_map procedure_context o ≡ Some context → IsSmallFrame context
procedure-small m k n None is context h = absurd (cc)
procedure-small m k n (Some p) is context h =
    let same : procedure_context p ≡ context = cc in
    let row = (at-row (length m.code) 0 m.procedures n p k.rows.procedures is).1 in
    subst (λ (c : Context). IsSmallFrame c) same (record { low = row.lo_low; high = row.hi_high })

own-small : (m : Contents) → Keeps m → (n : ℕ) (context : Context) → own_context m n ≡ Some context
    → IsSmallFrame context
own-small m k n context h = elim (cases_Bool (n == 0)) [
  | inl e ↦
      let chosen : Some (root_context m) ≡ Some context =
      sym (ap (λ b. cond b (Some (root_context m)) (option_map procedure_context
      (slice_get m.procedures (n - 1)))) e) ∙ h in
      let same : root_context m ≡ context = cc in
      subst (λ (c : Context). IsSmallFrame c) same (root-small m k)
  | inr e ↦
      procedure-small m k (n - 1) (slice_get m.procedures (n - 1)) refl context
      (sym (ap (λ b. cond b (Some (root_context m)) (option_map procedure_context
      (slice_get m.procedures (n - 1)))) e) ∙ h)
]

-- the frame of each context is small
pub frame-is-small : (m : Contents) → Keeps m → (n : ℕ) (context : Context) → context_at m n ≡ Some context
    → IsSmallFrame context
unfolding context_at
frame-is-small m k n context h = elim (cases_Bool (nat_lt n (1 + length m.procedures + branch_count m.pars))) [
  | inl e ↦ own-small m k (owner (1 + length m.procedures) m.pars n) context
      (sym (ap (λ b. cond b (own_context m (owner (1 + length m.procedures) m.pars n)) None) e) ∙ h)
  | inr e ↦
      let none : None ≡ Some context =
      sym (ap (λ b. cond b (own_context m (owner (1 + length m.procedures) m.pars n)) None) e) ∙ h in
      absurd (cc)
]
