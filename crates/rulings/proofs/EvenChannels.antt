-- Channels are words: the address of a channel of which the length of messages is known is a multiple of 4.
use Rattle.std.proofs.Common.{◌≡◌, ℕ, ◌+◌, ◌*◌, ◌%◌, ℤ, pos, negsuc, ◌+ℤ◌, ◌*ℤ◌, Bool, true, false, cond, Option, Some}
use Rattle.std.proofs.Common.{None, refl, ap, ◌∙◌, arith}
use Rattle.std.proofs.lemmas.Bool.{eqb-true}
use Rattle.std.proofs.lemmas.Int.{ints}
use Rattle.std.specs.Int.{int_rem_euclid}
use Rattle.std.specs.Prelude.{IsTrue, unsigned_abs, slice_get, option_map}
use Rattle.module_format.specs.declared.rows.EndKind.{EndKind}
use Rattle.module_format.specs.declared.rows.EndKind.TheVariants as kinds
use Rattle.module_format.specs.declared.rows.Ends.{Ends}
use Rattle.module_format.specs.declared.rows.Parameter.{Parameter}
use Rattle.module_format.specs.declared.rows.ParameterKind.{ParameterKind}
use Rattle.module_format.specs.declared.rows.ParameterKind.TheVariants.{Value, ReadRegion, WrittenRegion, Channels}
use Rattle.module_format.specs.Order.{is_multiple_of_four}
use Rattle.module_format.specs.Contents.{Contents}
use Rattle.module_format.specs.Contexts.{parameters_at}
use Rattle.machine_state.specs.Memory.{Memory, data_start}
use Rattle.machine_state.specs.Holding.{Holding}
use Rattle.rulings.specs.Meaning.{Layout, place_in}
use Rattle.rulings.specs.Regions.{scope_of, HoldsNamed, IsNamed, channel_address, kind_used}
use Rattle.rulings.specs.Reach.{may_write_parameter, may_read_parameter}
use Rattle.rulings.specs.Remaining.{only_read, not_used}
use Rattle.rulings.specs.Channels.{message_length}
use Rattle.rulings.proofs.Addresses.{stepped_quotient}
use Rattle.rulings.proofs.Reaching.{address_of}

-- a multiple of 4 is one modulo 2^32
pub even_rest : (z q : ℤ) → z ≡ pos 4 *ℤ q → unsigned_abs (int_rem_euclid z (pos 4294967296)) % 4 ≡ 0
even_rest (pos a) q is = omega (arith, ints)
even_rest (negsuc a) q is = omega (arith, ints)

module _ (m : Contents) (h : Holding) (context : ℕ) (layout : Layout) (memory : Memory)
    (named : HoldsNamed m h (scope_of m context layout) memory) where
  -- channels that a parameter names, however a context uses it
  named_channels : (j count len : ℕ) (ends : Ends) (write read : Bool)
      → IsNamed m h (scope_of m context layout) memory
      (cond write (Channels count len ends) (cond read (only_read (Channels count len ends))
      (not_used (Channels count len ends)))) (layout.starts j)
      → IsTrue (is_multiple_of_four (layout.starts j))
  named_channels j count len ends true read known = known
  named_channels j count len ends false true known = known
  named_channels j count len ends false false known = known

  used_channels : (j word count len : ℕ) (ends : Ends)
      → slice_get (parameters_at m context) j ≡ Some (record { word = word; kind = Channels count len ends })
      → IsTrue (is_multiple_of_four (layout.starts j))
  used_channels j word count len ends found =
      named_channels j count len ends (may_write_parameter m context j) (may_read_parameter m context j)
      (named.each j (record { word = word; kind = kind_used m context j (Channels count len ends) })
      (ap (option_map (λ (p : Parameter). record p { kind = kind_used m context j p.kind })) found))

  element_even : (start element : ℕ) → start % 4 ≡ 0 → (start + 4 * element) % 4294967296 % 4 ≡ 0
  element_even start element even = omega (arith, even)

  of_parameter : (j element len : ℕ) → message_length m context (kinds.Parameter (pos j) element) ≡ Some len
      → channel_address layout (kinds.Parameter (pos j) element) % 4 ≡ 0
  of_parameter j element len known = on (slice_get (parameters_at m context) j) refl known
    where
      of_kind : (word : ℕ) (kind : ParameterKind)
          → slice_get (parameters_at m context) j ≡ Some (record { word = word; kind = kind })
          → (elim kind as (λ k. Option ℕ) [ Channels count len ends ↦ Some len | _ ↦ None ]) ≡ Some len
          → (layout.starts j + 4 * element) % 4294967296 % 4 ≡ 0
      of_kind word (Value lo hi) found e = absurd (cc)
      of_kind word (ReadRegion size lo hi) found e = absurd (cc)
      of_kind word (WrittenRegion size lo hi) found e = absurd (cc)
      of_kind word (Channels count size ends) found e =
          element_even (layout.starts j) element
          (eqb-true (layout.starts j % 4) 0 (used_channels j word count size ends found))

      on : (o : Option Parameter) → slice_get (parameters_at m context) j ≡ o
          → (elim o as (λ o. Option ℕ) [
            | None ↦ None
            | Some p ↦ elim p.kind as (λ k. Option ℕ) [ Channels count len ends ↦ Some len | _ ↦ None ]
          ]) ≡ Some len
          → (layout.starts j + 4 * element) % 4294967296 % 4 ≡ 0
      on None found e = absurd (cc)
      on (Some p) found e = of_kind p.word p.kind found e

  -- the address of a channel whose messages the context knows the length of
  pub channel_even : (kind : EndKind) (len : ℕ) → message_length m context kind ≡ Some len
      → channel_address layout kind % 4 ≡ 0
  channel_even (kinds.FrameWord word) len known =
      let q = stepped_quotient layout.origin named.even in
      ap (λ (n : ℕ). n % 4) (address_of (pos data_start +ℤ place_in layout.origin word))
      ∙ even_rest (pos data_start +ℤ place_in layout.origin word) (pos 536870976 +ℤ q.0 +ℤ word)
      (omega (arith, ints, q.1))
  channel_even (kinds.Parameter (pos j) element) len known = of_parameter j element len known
  channel_even (kinds.Parameter (negsuc j) element) len known = absurd (cc)
  channel_even (kinds.Link link) len known = omega arith
