-- What one more byte gives to what is read, and that a spelling is read as what it spells.
use Rattle.std.proofs.Common.{◌≡◌, ℕ, zero, suc, ◌+◌, ◌-◌, ◌≤◌, List, [], ◌∷◌, ◌++◌, length, Option, Some, None, Result}
use Rattle.std.proofs.Common.{Ok, ℤ, pos, FitsSigned, w32, refl, ap, arith, ◌∙◌, append_assoc, length-append}
use Rattle.prefix_decoder.specs.declared.function.Fun.{Fun}
use Rattle.prefix_decoder.specs.declared.function.Fun.TheVariants.{Jump, LoadLocalPointer, LoadNonLocal, LoadConstant}
use Rattle.prefix_decoder.specs.declared.function.Fun.TheVariants.{LoadNonLocalPointer, LoadLocal, AddConstant, Call}
use Rattle.prefix_decoder.specs.declared.function.Fun.TheVariants.{ConditionalJump, AdjustWorkspace, EqualsConstant}
use Rattle.prefix_decoder.specs.declared.function.Fun.TheVariants.{StoreLocal, StoreNonLocal, Operate}
use Rattle.prefix_decoder.specs.declared.decoding.Instr.{Instr}
use Rattle.prefix_decoder.specs.declared.decoding.DecodeFault.{DecodeFault}
use Rattle.prefix_decoder.specs.Functions.{code_of, fun_of, function_code, nibble}
use Rattle.prefix_decoder.specs.Operand.{low_nibble, without_low_nibble, complement, with_nibble, prefixed, negated}
use Rattle.prefix_decoder.specs.Operand.{after_prefix}
use Rattle.prefix_decoder.specs.Spelling.{byte_of, Spells, alone, above, below, IsSpelling}
use Rattle.prefix_decoder.specs.Fetching.{ended_or, read}
use Rattle.prefix_decoder.proofs.Operands.{low_nibble_below, FitsSigned-above, FitsSigned-complement, alone_is}
use Rattle.prefix_decoder.proofs.Operands.{above_is, below_is}
use Rattle.prefix_decoder.proofs.Spellings.{IsSpelling-same, at_most_eight}

-- ---- one byte

-- one more byte with another function is the last
pub read-function : (more byte : ℕ) (bytes : List ℕ) (register : ℤ) (taken : ℕ) (f : Fun)
    → fun_of (function_code byte) ≡ Some f
    → read (suc more) (byte ∷ bytes) register taken
    ≡ Ok (record { fun = f; operand = with_nibble register (nibble byte); len = taken + 1 })
read-function more byte bytes register taken f is = rw is refl

-- one more byte with either prefix
pub read-prefix : (more byte : ℕ) (bytes : List ℕ) (register : ℤ) (taken : ℕ)
    → fun_of (function_code byte) ≡ None
    → read (suc more) (byte ∷ bytes) register taken
    ≡ read more bytes (after_prefix (function_code byte) (with_nibble register (nibble byte))) (taken + 1)
read-prefix more byte bytes register taken is = rw is refl

-- ---- lengths

-- a bound on the bytes taken holds in both cases
ended-within : (o : Option Fun) (e : ℤ) (len bound : ℕ) (r : Result Instr DecodeFault) (i : Instr)
    → len ≤ bound
    → (r ≡ Ok i → i.len ≤ bound)
    → ended_or o e len r ≡ Ok i
    → i.len ≤ bound
ended-within (Some f) e len bound r i h later is =
    let last : Instr = record { fun = f; operand = e; len = len } in
    let same : last ≡ i = cc in
    let same_len : len ≡ i.len = ap (λ (j : Instr). j.len) same in
    omega arith
ended-within None e len bound r i h later is = later is

-- what is read takes no more bytes than there are
pub read-within : (fuel : ℕ) (bytes : List ℕ) (register : ℤ) (taken : ℕ) (i : Instr)
    → read fuel bytes register taken ≡ Ok i
    → i.len ≤ taken + length bytes
read-within zero bytes register taken i is = absurd cc
read-within (suc fuel) [] register taken i is = absurd cc
read-within (suc fuel) (byte ∷ bytes) register taken i is =
    let e = with_nibble register (nibble byte) in
    let code = function_code byte in
    ended-within (fun_of code) e (taken + 1) (taken + suc (length bytes))
    (read fuel bytes (after_prefix code e) (taken + 1)) i (omega arith)
    (λ later. omega (arith, read-within fuel bytes (after_prefix code e) (taken + 1) i later)) is

-- ---- a spelling

-- the two halves of a written byte
pub byte_code : (code : ℕ) (e : ℤ) → function_code (byte_of code e) ≡ code
byte_code code e = omega (arith, low_nibble_below e)

pub byte_nibble : (code : ℕ) (e : ℤ) → nibble (byte_of code e) ≡ low_nibble e
byte_nibble code e = omega (arith, low_nibble_below e)

-- the byte that completes an operand
read-byte : (more code : ℕ) (e register : ℤ) (rest : List ℕ) (taken : ℕ)
    → with_nibble register (low_nibble e) ≡ e
    → read (suc more) (byte_of code e ∷ rest) register taken
    ≡ ended_or (fun_of code) e (taken + 1) (read more rest (after_prefix code e) (taken + 1))
read-byte more code e register rest taken is = rw (byte_code code e, byte_nibble code e, is) refl

-- the bytes of a spelling, from an operand register of 0, leave the operand for the last byte's function
pub read-spells : {code : ℕ} {e : ℤ} {bytes : List ℕ}
    → Spells code e bytes
    → FitsSigned w32 e
    → (fuel more taken end : ℕ) (rest : List ℕ)
    → fuel ≡ length bytes + more
    → end ≡ taken + length bytes
    → read fuel (bytes ++ rest) (pos 0) taken ≡ ended_or (fun_of code) e end (read more rest (after_prefix code e) end)
read-spells {code} {e} (alone p q) h fuel more taken end rest fuel-is end-is =
    let one : fuel ≡ suc more = omega arith in
    rw (one, end-is) (read-byte more code e (pos 0) rest taken (alone_is e p q))
read-spells {code} {e} (above {front = front} p x) h fuel more taken end rest fuel-is end-is =
    let last = byte_of code e in
    let longer = length-append front (last ∷ []) in
    let first = read-spells x (FitsSigned-above e h) fuel (suc more) taken (taken + length front) (last ∷ rest)
    (omega arith) refl in
    let one_more : end ≡ taken + length front + 1 = omega arith in
    rw (append_assoc front (last ∷ []) rest, one_more)
    (first ∙ read-byte more code e (prefixed (without_low_nibble e)) rest (taken + length front) (above_is e p h))
read-spells {code} {e} (below {front = front} p x) h fuel more taken end rest fuel-is end-is =
    let last = byte_of code e in
    let longer = length-append front (last ∷ []) in
    let first = read-spells x (FitsSigned-above (complement e) (FitsSigned-complement e h)) fuel (suc more) taken
    (taken + length front) (last ∷ rest) (omega arith) refl in
    let one_more : end ≡ taken + length front + 1 = omega arith in
    rw (append_assoc front (last ∷ []) rest, one_more)
    (first
    ∙ read-byte more code e (negated (without_low_nibble (complement e))) rest (taken + length front) (below_is e p h))

-- a function is found by its code
pub fun_of-code_of : (f : Fun) → fun_of (code_of f) ≡ Some f
fun_of-code_of Jump = refl
fun_of-code_of LoadLocalPointer = refl
fun_of-code_of LoadNonLocal = refl
fun_of-code_of LoadConstant = refl
fun_of-code_of LoadNonLocalPointer = refl
fun_of-code_of LoadLocal = refl
fun_of-code_of AddConstant = refl
fun_of-code_of Call = refl
fun_of-code_of ConditionalJump = refl
fun_of-code_of AdjustWorkspace = refl
fun_of-code_of EqualsConstant = refl
fun_of-code_of StoreLocal = refl
fun_of-code_of StoreNonLocal = refl
fun_of-code_of Operate = refl

-- a spelling is read as its function and operand, whatever follows it
pub read-spelling : (f : Fun) (e : ℤ) (bytes rest : List ℕ)
    → IsSpelling f e bytes
    → read 8 (bytes ++ rest) (pos 0) 0 ≡ Ok (record { fun = f; operand = e; len = length bytes })
read-spelling f e bytes rest s =
    let short = at_most_eight e s.spells s.fits in
    let r = read-spells s.spells s.fits 8 (8 - length bytes) 0 (length bytes) rest (omega arith) (omega arith) in
    rw fun_of-code_of at r

-- no spelling begins another
pub IsSpelling-apart : (f g : Fun) (e d : ℤ) (a b x y : List ℕ)
    → IsSpelling f e a
    → IsSpelling g d b
    → a ++ x ≡ b ++ y
    → (f ≡ g) × (e ≡ d) × (a ≡ b)
IsSpelling-apart f g e d a b x y p q is =
    let r = read-spelling f e a x p in
    let s = read-spelling g d b y q in
    let alike : read 8 (a ++ x) (pos 0) 0 ≡ read 8 (b ++ y) (pos 0) 0 =
    ap (λ (bytes : List ℕ). read 8 bytes (pos 0) 0) is in
    let first : Instr = record { fun = f; operand = e; len = length a } in
    let second : Instr = record { fun = g; operand = d; len = length b } in
    let same : first ≡ second = cc in
    let same_fun : f ≡ g = ap (λ (i : Instr). i.fun) same in
    let same_operand : e ≡ d = ap (λ (i : Instr). i.operand) same in
    (same_fun, same_operand, IsSpelling-same f e a b p (rw (same_fun, same_operand) q))
