-- A byte of the running process that is a prefix: it lives on one byte further in its instruction. Each byte is in the
-- code.
use Rattle.std.proofs.Common.{◌≡◌, ℕ, zero, suc, ◌+◌, ◌≤◌, ◌<◌, true, false, ℤ, inl, inr, length, Some, None, refl, sym}
use Rattle.std.proofs.Common.{◌∙◌, subst, arith}
use Rattle.std.proofs.lemmas.Bool.Decides.{leb_tells}
use Rattle.std.proofs.lemmas.Option.{slice_get_within}
use Rattle.std.specs.Prelude.{slice_get}
use Rattle.prefix_decoder.specs.Functions.{fun_of, function_code, nibble}
use Rattle.prefix_decoder.specs.Operand.{with_nibble, after_prefix}
use Rattle.module_format.specs.Contents.{Contents}
use Rattle.machine_state.specs.declared.process.Task.{Task}
use Rattle.machine_state.specs.Endings.{IsOutsideCode, no_byte, no_byte_follows}
use Rattle.machine_state.specs.Moves.{counted, put}
use Rattle.machine_state.specs.World.{World, held}
use Rattle.rulings.proofs.Combining.{elsewhere}
use Rattle.certified_worlds.specs.Point.{Point}
use Rattle.certified_worlds.specs.Invariant.{Holds}
use Rattle.certified_worlds.proofs.LivesAs.{LivesAs}
use Rattle.certified_worlds.proofs.Steps.{byte_here, prefixed_point}
use Rattle.verifier.proofs.Tables.{row_of}
use Rattle.verifier.proofs.Tables.{channels_equal, Living, Puts}

-- the task one byte further, with this operand so far
abbrev pub prefixed : Task → ℤ → Task
prefixed t operand = record t { registers = record t.registers { at = t.registers.at + 1; operand = operand } }

abbrev pub world_prefixed : ℕ → Task → ℤ → World → World
world_prefixed p t operand w = counted (put p (prefixed t operand) w.memory w)

-- what is owed is one more than something
pub some_owed : (due : ℕ) → 1 ≤ due → (less : ℕ) × (due ≡ suc less)
some_owed zero some = absurd (omega (arith, some))
some_owed (suc less) some = (less, refl)

module _ (m : Contents) (w : World) (h : Holds m w) (p : ℕ) (t : Task) where
  pub puts_prefixed : (operand : ℤ) → Puts w (world_prefixed p t operand w) p (prefixed t operand) w.memory
  puts_prefixed operand = record {
    tasks = refl;
    memory = refl;
    roles = refl;
    channels = channels_equal refl;
    kept = h.kept;
    fault = refl;
  }

  module _ (r : Living m w h p t) where
    abbrev point : Point m t
    point = r.lives.point

    module _ (byte : ℕ) (operand : ℤ) (here : slice_get m.code t.registers.at ≡ Some byte)
        (none : fun_of (function_code byte) ≡ None)
        (is : after_prefix (function_code byte) (with_nibble t.registers.operand (nibble byte)) ≡ operand) where
      -- it lives on one byte further in its instruction
      further_lives : (due : ℕ) → (row_of r).due ≡ suc due → LivesAs m (held (row_of r).role) (row_of r).start w.memory
          (prefixed t (after_prefix (function_code byte) (with_nibble t.registers.operand (nibble byte)))) due
          point.state
          point.act
      further_lives due one = record {
        state_is = refl;
        act_is = refl;
        lives = record {
          point = prefixed_point byte point here none;
          claim = λ later size agree bytes.
              let old = r.lives.claim later size agree bytes in
              record {
                here = elsewhere (t.registers.at + 1) t.registers.began (after_prefix (function_code byte)
                    (with_nibble t.registers.operand (nibble byte))) old.here;
                behind = old.behind;
              };
          room = r.lives.room;
          sends = r.lives.sends;
          fills = r.lives.fills;
          named = r.lives.named;
          behind = r.lives.behind;
          known_length = r.lives.known_length;
          paid = let paid = r.lives.paid in omega (arith, paid, one);
        };
      }

      pub prefixed_lives : (due : ℕ) → (row_of r).due ≡ suc due
          → LivesAs m (held (row_of r).role) (row_of r).start w.memory (prefixed t operand) due point.state point.act
      prefixed_lives due one =
          subst (λ n. LivesAs m (held (row_of r).role) (row_of r).start w.memory (prefixed t n) due point.state
          point.act) is (further_lives due one)

      -- another byte follows
      pub prefix_followed : t.registers.at + 1 < length m.code
      prefix_followed =
          let moved = prefixed_point byte point here none in
          let b = byte_here m (record t.registers {
            at = t.registers.at + 1;
            operand = after_prefix (function_code byte) (with_nibble t.registers.operand (nibble byte));
          }) moved.instr moved.taken moved.reading in
          slice_get_within m.code (t.registers.at + 1) b.byte b.here

    -- the process is inside the code
    pub never_outside : IsOutsideCode m t → ⊥
    never_outside (no_byte none) =
        let b = byte_here m t.registers point.instr point.taken point.reading in
        let both : None ≡ Some b.byte = sym none ∙ b.here in
        cc
    never_outside (no_byte_follows byte here none last) =
        let operand = after_prefix (function_code byte) (with_nibble t.registers.operand (nibble byte)) in
        let low = prefix_followed byte operand here none refl in
        elim (leb_tells (suc (t.registers.at + 1)) (length m.code)) [
          | inl is ↦ let no' : true ≡ false = sym is.0 ∙ last in cc
          | inr is ↦ let high = is.1 in omega arith
        ]
