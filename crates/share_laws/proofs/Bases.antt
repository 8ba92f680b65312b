-- A frame lies in the first bytes of memory, so the address of its word 0 is none that goes round.
use Rattle.std.proofs.Common.{◌≡◌, ℕ, ◌+◌, ◌-◌, ◌%◌, ℤ, pos, negsuc, ◌+ℤ◌, ◌≤ℤ◌, FitsSigned, cond, inl, inr, length}
use Rattle.std.proofs.Common.{Option, Some, None, refl, sym, ap, ◌∙◌, subst, arith}
use Rattle.std.proofs.lemmas.Bool.{cases_Bool}
use Rattle.std.proofs.lemmas.Int.{ints}
use Rattle.std.specs.Int.{w32, cast_unsigned}
use Rattle.std.specs.Option.{option_map}
use Rattle.std.specs.Prelude.{slice_get, nat_lt, ◌==◌}
use Rattle.module_format.specs.declared.contexts.Context.{Context}
use Rattle.module_format.specs.Contents.{Contents, Procedure}
use Rattle.module_format.specs.Contexts.{context_at, own_context, owner, branch_count, root_context, procedure_context}
use Rattle.module_format.specs.Keeping.{Keeps}
use Rattle.machine_state.specs.BranchShares.{frame_base}
use Rattle.machine_state.specs.Holding.{Holding}
use Rattle.machine_state.specs.Memory.{data_start}
use Rattle.states.proofs.Procedures.{at-row}
use Rattle.rulings.specs.Meaning.{HasFrame, words_in, word_of, place_in, frame_lo, frame_hi}
use Rattle.rulings.proofs.Offsets.{address_of_word}
use Rattle.share_laws.specs.Bases.{BasesAreFrames, FramesAreBases}

-- word 0 is a word of the frame, or the first after it
record IsAround (lo hi : ℤ) : Type 0 where
  low : lo ≤ℤ pos 0
  high : pos 0 ≤ℤ hi

-- so of the root's frame
root_around : (m : Contents) → Keeps m → IsAround (root_context m).lo (root_context m).hi
root_around m k = let base = k.sizes.base in record { low = omega (arith, ints); high = omega (arith, ints, base) }

-- of a procedure's
procedure_around : (m : Contents) → Keeps m → (n : ℕ) (o : Option Procedure) → slice_get m.procedures n ≡ o
    → (context : Context) → option_map procedure_context o ≡ Some context → IsAround context.lo context.hi
procedure_around m k n None is context h = absurd (cc)
procedure_around m k n (Some p) is context h =
    let same : procedure_context p ≡ context = cc in
    let row = (at-row (length m.code) 0 m.procedures n p k.rows.procedures is).1 in
    let lo = row.lo_high in
    let hi = row.hi_low in
    subst (λ (c : Context). IsAround c.lo c.hi) same (record { low = lo; high = omega (arith, ints, hi) })

-- of those that have a frame of their own
own_around : (m : Contents) → Keeps m → (n : ℕ) (context : Context) → own_context m n ≡ Some context
    → IsAround context.lo context.hi
own_around m k n context h = elim (cases_Bool (n == 0)) [
  | inl e ↦
      let chosen : Some (root_context m) ≡ Some context =
      sym (ap (λ b. cond b (Some (root_context m)) (option_map procedure_context
      (slice_get m.procedures (n - 1)))) e) ∙ h in
      let same : root_context m ≡ context = cc in
      subst (λ (c : Context). IsAround c.lo c.hi) same (root_around m k)
  | inr e ↦
      procedure_around m k (n - 1) (slice_get m.procedures (n - 1)) refl context
      (sym (ap (λ b. cond b (Some (root_context m)) (option_map procedure_context
      (slice_get m.procedures (n - 1)))) e) ∙ h)
]

-- of each context
context_around : (m : Contents) → Keeps m → (n : ℕ) (context : Context) → context_at m n ≡ Some context
    → IsAround context.lo context.hi
unfolding context_at
context_around m k n context h = elim (cases_Bool (nat_lt n (1 + length m.procedures + branch_count m.pars))) [
  | inl e ↦ own_around m k (owner (1 + length m.procedures) m.pars n) context
      (sym (ap (λ b. cond b (own_context m (owner (1 + length m.procedures) m.pars n)) None) e) ∙ h)
  | inr e ↦
      let none : None ≡ Some context =
      sym (ap (λ b. cond b (own_context m (owner (1 + length m.procedures) m.pars n)) None) e) ∙ h in
      absurd (cc)
]

-- also where there is no such context
frame_around : (m : Contents) → Keeps m → (n : ℕ) → IsAround (frame_lo m n) (frame_hi m n)
frame_around m k n = on (context_at m n) refl
  where
    on : (o : Option Context) → context_at m n ≡ o
        → IsAround (elim o as (λ o. ℤ) [ None ↦ pos 0 | Some context ↦ context.lo ])
        (elim o as (λ o. ℤ) [ None ↦ pos 0 | Some context ↦ context.hi ])
    on None e = record { low = omega (arith, ints); high = omega (arith, ints) }
    on (Some context) e = context_around m k n context e

-- where word 0 lies
record LiesLow (origin : ℤ) : Type 0 where
  low : pos 0 ≤ℤ origin
  high : origin ≤ℤ pos 1048576

-- a frame that lies in memory has its word 0 there, or directly after it
lies_low : (m : Contents) (n : ℕ) (h : Holding) (size : ℕ) (origin depth : ℤ) (workspace : ℕ) → Keeps m
    → HasFrame h size (words_in m n) origin depth workspace → LiesLow origin
lies_low m n h size origin depth workspace k frame =
    let around = frame_around m k n in
    let lo = around.low in
    let hi = around.high in
    let from = frame.from_start in
    let to = frame.to_end in
    let small = frame.small in
    record { low = omega (arith, ints, lo, from); high = omega (arith, ints, hi, to, small) }

-- the base is found from the workspace without going round
base_of : (workspace : ℕ) (origin depth : ℤ) → FitsSigned w32 depth → pos 0 ≤ℤ origin → origin ≤ℤ pos 1048576
    → pos workspace ≡ pos data_start +ℤ place_in origin depth
    → pos (frame_base workspace depth) ≡ pos data_start +ℤ origin
base_of workspace origin depth fits low high at = omega (arith, ints, fits, low, high, at)

-- the base that a first start finds is where the frame lies
pub bases_are_frames : BasesAreFrames
bases_are_frames m context h size origin depth workspace keeps fits frame =
    let lies = lies_low m context h size origin depth workspace keeps frame in
    base_of workspace origin depth fits lies.low lies.high frame.start

-- an address that low is the word that it is
as_word : (origin : ℤ) (base : ℕ) → pos 0 ≤ℤ origin → origin ≤ℤ pos 1048576
    → base ≡ cast_unsigned w32 (word_of (pos data_start +ℤ place_in origin (pos 0)))
    → pos base ≡ pos data_start +ℤ origin
as_word (negsuc n) base low high is = absurd (omega (arith, ints, low))
as_word (pos n) base low high is =
    let sum : pos data_start +ℤ place_in (pos n) (pos 0) ≡ pos (data_start + n) = omega (arith, ints) in
    let word : base ≡ (data_start + n) % 4294967296 =
    is ∙ ap (λ (z : ℤ). cast_unsigned w32 (word_of z)) sum ∙ address_of_word (data_start + n) in
    omega (arith, ints, word, high)

-- and a join's base, as a word, is there
pub frames_are_bases : FramesAreBases
frames_are_bases m context h size origin depth workspace base keeps frame is =
    let lies = lies_low m context h size origin depth workspace keeps frame in
    as_word origin base lies.low lies.high is
