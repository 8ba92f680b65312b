-- The loaded plain machine agrees with the loaded world.
use Rattle.std.proofs.Common.{◌≡◌, ℕ, zero, suc, ◌*◌, [], ◌∷◌, ◌++◌, map, length, replicate, Option, Some}
use Rattle.std.proofs.Common.{None, refl, ap, ◌∙◌, sym, subst, slice_get, arith}
use Rattle.std.proofs.lemmas.List.{map-append}
use Rattle.module_format.specs.Contents.{Contents}
use Rattle.machine_state.specs.declared.process.Channel.{Channel}
use Rattle.machine_state.specs.declared.process.Task.{Task}
use Rattle.machine_state.specs.JoinLookups.{opened_by}
use Rattle.machine_state.specs.Memory.{Memory, byte_at}
use Rattle.machine_state.specs.World.{Join, loaded, loaded_memory, root_task, padding}
use Rattle.world_laws.proofs.StepLeaves.{plain_is_outside}
use Rattle.plain_machine.specs.Plain.{defined}
use Rattle.agreement.specs.Agrees as agree
use Rattle.agreement.specs.Loading.{loaded_bytes, loaded_machine, LoadedAgrees}
use Rattle.agreement.specs.Matching.{MatchesByte, MatchesMemory}

-- ---- memory

without_first : (x y : Option ℕ) (a c : Memory) → MatchesMemory (x ∷ a) (y ∷ c) → MatchesMemory a c
without_first x y a c matches =
    let size = matches.size in
    record { size = omega arith; bytes = λ k b is. matches.bytes (suc k) b is }

with_first : (x y : Option ℕ) (a c : Memory) → MatchesByte x y → MatchesMemory a c → MatchesMemory (x ∷ a) (y ∷ c)
with_first x y a c first rest = record { size = ap suc rest.size; bytes = at }
  where
    at : (k : ℕ) → MatchesByte (byte_at (x ∷ a) k) (byte_at (y ∷ c) k)
    at zero b is = first b is
    at (suc k) b is = rest.bytes k b is

append_matches : (a c b d : Memory) → MatchesMemory a c → MatchesMemory b d → MatchesMemory (a ++ b) (c ++ d)
append_matches [] [] b d first second = second
append_matches [] (y ∷ c) b d first second = absurd (let size = first.size in omega arith)
append_matches (x ∷ a) [] b d first second = absurd (let size = first.size in omega arith)
append_matches (x ∷ a) (y ∷ c) b d first second =
    with_first x y (a ++ b) (c ++ d) (first.bytes zero)
    (append_matches a c b d (without_first x y a c first) second)

unknown_matches : (n : ℕ) → MatchesMemory (replicate n None) (map Some (replicate n 0))
unknown_matches zero = record { size = refl; bytes = λ k b is. is }
unknown_matches (suc n) =
    with_first None (Some 0) (replicate n None) (map Some (replicate n 0)) (λ b is. absurd (cc)) (unknown_matches n)

same_matches : (m : Memory) → MatchesMemory m m
same_matches m = record { size = refl; bytes = λ k b is. is }

memory_matches : (m : Contents) → MatchesMemory (loaded_memory m) (defined (loaded_bytes m))
memory_matches m =
    subst (λ (n : Memory). MatchesMemory (loaded_memory m) n) (sym split)
    (append_matches _ _ _ _ (append_matches _ _ _ _ (append_matches _ _ _ _ (unknown_matches (4 * m.data_words))
    (same_matches (map Some m.code))) (unknown_matches (padding (length m.code))))
    (same_matches (map Some m.constants)))
  where
    split : defined (loaded_bytes m) ≡ map Some (replicate (4 * m.data_words) 0) ++ map Some m.code
        ++ map Some (replicate (padding (length m.code)) 0) ++ map Some m.constants
    split = simp map-append

-- ---- the root

no_channel : (n k : ℕ) (c : Channel) → slice_get (replicate n None) k ≡ Some (Some c) → ⊥
no_channel zero k c is = cc
no_channel (suc n) zero c is = cc
no_channel (suc n) (suc k) c is = no_channel n k c is

is_root : (m : Contents) (p : ℕ) (t : Task) → slice_get (loaded m).tasks p ≡ Some t → (p ≡ 0) × (root_task m ≡ t)
is_root m zero t is = (refl, cc)
is_root m (suc p) t is = absurd (cc)

no_join : (m : Contents) (p : ℕ) (j : Join) → opened_by (loaded m) p ≡ Some j → ⊥
no_join m zero j is = cc
no_join m (suc p) j is = cc

pub loaded_agrees : LoadedAgrees
loaded_agrees m = record {
  memory = memory_matches m;
  running = refl;
  registers = λ p t runs here.
      let root = is_root m p t here in
      subst (λ (t : Task). agree.HasRegisters (loaded_machine m) t.registers) root.1 (record {
        workspace = refl;
        at = refl;
        operand = refl;
        stack = record { a = tt; b = tt; c = tt };
      });
  ready = refl;
  parked = λ p t x. absurd (x.aside (ap Some (sym (is_root m p t x.here).0)));
  channels = λ k c there. absurd (no_channel m.data_words k c there);
  messages = λ p t e here waits.
      let root = is_root m p t here in
      let none : None ≡ Some e = ap (λ (t : Task). agree.waits_inside t.condition) root.1 ∙ waits in
      absurd (cc);
  alternations = λ p t x.
      let root = is_root m p t x.here in
      absurd (plain_is_outside t.mode (ap (λ (t : Task). t.mode) (sym root.1)) x.inside);
  outputs = refl;
  inputs = refl;
  joins = λ p j par is row. absurd (no_join m p j is);
  counters = refl;
}
