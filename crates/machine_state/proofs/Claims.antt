-- Laws of what holdings claim.
use Rattle.std.proofs.Common.{◌≡◌, ℕ, ◌≤◌, true, Some, None}
use Rattle.std.proofs.lemmas.Bool.{or_left}
use Rattle.machine_state.specs.Holding.{Holding, nothing, may_write, may_read, IsApart}
use Rattle.machine_state.specs.Ownership.{Claim, to_write, to_read, to_use, claims, rival, NoClash}

pub is_apart : (g h : Holding) → NoClash g h → IsApart g h
is_apart g h a = record { written = λ x. a (to_write x); read = λ x. a (to_read x); ends = λ e. a (to_use e) }

-- what clashes with what clashes with a claim is that claim
pub twice : (h : Holding) (c : Claim) → claims h c ≡ true → claims h (rival (rival c)) ≡ true
twice h (to_write x) claimed = claimed
twice h (to_read x) claimed = claimed
twice h (to_use e) claimed = claimed

pub nothing_claimed : (c : Claim) → claims nothing c ≡ true → ⊥
nothing_claimed (to_write x) claimed = cc
nothing_claimed (to_read x) claimed = cc
nothing_claimed (to_use e) claimed = cc

pub written_is_read : (h : Holding) (x : ℕ) → may_write h x ≡ true → may_read h x ≡ true
written_is_read h x own = or_left _ _ own

-- a place from this one on, to read: the constants lie there
abbrev pub IsBehind : ℕ → Claim → Type 0
IsBehind size (to_write x) = ⊥
IsBehind size (to_read x) = size ≤ x
IsBehind size (to_use e) = ⊥

pub not_some : {A B : Type 0} (x : B) → None ≡ Some x → A
not_some x e = absurd (cc)
