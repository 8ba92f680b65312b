-- One turn of the loop that reads: what is left to read gives what was asked.
use Rattle.std.proofs.Common.{◌≡◌, ℕ, suc, ◌+◌, ◌-◌, ◌<◌, ◌≤◌, List, ◌∷◌, length, get_or, drop, Some, None, Ok, Err, ℤ}
use Rattle.std.proofs.Common.{pos, refl, arith, sym, ◌∙◌}
use Rattle.std.proofs.lemmas.List.{drop_more, drop_all}
use Rattle.prefix_decoder.specs.declared.function.Fun.{Fun}
use Rattle.prefix_decoder.specs.declared.decoding.DecodeFault.TheVariants.{EndOfCode, TooLong}
use Rattle.prefix_decoder.specs.Functions.{fun_of, function_code, nibble}
use Rattle.prefix_decoder.specs.Operand.{with_nibble, after_prefix}
use Rattle.prefix_decoder.specs.Fetching.{read}
use Rattle.prefix_decoder.proofs.Reading.{read-function, read-prefix}

-- reading on from this index, with this register, gives what reading from the start gives
pub record GoesOn (bytes : List ℕ) (register : ℤ) (index : ℕ) : Type 0 where
  pub rest : (more : ℕ) → index + more ≡ 8 → read more (drop index bytes) register index ≡ read 8 bytes (pos 0) 0

pub starts : (bytes : List ℕ) → GoesOn bytes (pos 0) 0
starts bytes = record { rest = λ more is. let all : more ≡ 8 = omega arith in rw all refl }

pub ends : (bytes : List ℕ) (register : ℤ) → GoesOn bytes register 8 → Err TooLong ≡ read 8 bytes (pos 0) 0
ends bytes register g = g.rest 0 (omega arith)

pub ends_early : (bytes : List ℕ) (register : ℤ) (index : ℕ)
    → index < 8
    → length bytes ≤ index
    → GoesOn bytes register index
    → Err EndOfCode ≡ read 8 bytes (pos 0) 0
ends_early bytes register index below past g =
    let more : 8 - index ≡ suc (7 - index) = omega arith in
    let h = g.rest (8 - index) (omega arith) in
    rw (more, drop_all index bytes past) at h

module _
    (bytes : List ℕ) (register : ℤ) (index byte : ℕ) (below : index < 8) (within : index < length bytes)
    (is : byte ≡ get_or bytes index 0) (g : GoesOn bytes register index) where
  next : (more : ℕ)
      → index + suc more ≡ 8
      → read (suc more) (byte ∷ drop (index + 1) bytes) register index ≡ read 8 bytes (pos 0) 0
  next more all = rw is (rw (drop_more bytes index 0 within) at (g.rest (suc more) all))

  pub ends_with : (f : Fun)
      → fun_of (function_code byte) ≡ Some f
      → Ok (record { fun = f; operand = with_nibble register (nibble byte); len = index + 1 }) ≡ read 8 bytes (pos 0) 0
  ends_with f some =
      sym (read-function (7 - index) byte (drop (index + 1) bytes) register index f some)
      ∙ next (7 - index) (omega arith)

  pub goes_on : fun_of (function_code byte) ≡ None
      → GoesOn bytes (after_prefix (function_code byte) (with_nibble register (nibble byte))) (index + 1)
  goes_on none = record {
    rest = λ more all.
        sym (read-prefix more byte (drop (index + 1) bytes) register index none) ∙ next more (omega arith);
  }
