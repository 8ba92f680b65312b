-- What can come of reading, in terms of the bytes: the three faults and the one instruction.
use Rattle.std.proofs.Common.{◌≡◌, ◌↔◌, ◌⊎◌, ℕ, zero, suc, ◌+◌, ◌<◌, ◌≤◌, Bool, true, false, cond, eqb, List, [], ◌∷◌}
use Rattle.std.proofs.Common.{◌++◌, length, get_or, take, drop, Option, Some, None, Result, Ok, Err, ℤ, pos, FitsSigned}
use Rattle.std.proofs.Common.{w32, refl, ap, arith, inl, inr, sym, subst, ◌∙◌, append_assoc, length-append, length-drop}
use Rattle.std.proofs.Common.{length-take, rules}
use Rattle.std.specs.Prelude.{All, IfOk}
use Rattle.std.specs.Str.{bytes_eq}
use Rattle.std.proofs.lemmas.Bool.{eqb-false, false_from_ne_true}
use Rattle.std.proofs.lemmas.Int.{ints}
use Rattle.std.proofs.lemmas.List.{take_at, get_or-drop}
use Rattle.std.proofs.lemmas.List.Elements.{All-nil, All-cons, All-head, All-tail, All-same}
use Rattle.std.proofs.lemmas.Slice.Eq.{bytes_eq-Decides}
use Rattle.prefix_decoder.specs.declared.function.Fun.{Fun}
use Rattle.prefix_decoder.specs.declared.function.Fun.TheVariants.{Jump, LoadLocalPointer, LoadNonLocal, LoadConstant}
use Rattle.prefix_decoder.specs.declared.function.Fun.TheVariants.{LoadNonLocalPointer, LoadLocal, AddConstant, Call}
use Rattle.prefix_decoder.specs.declared.function.Fun.TheVariants.{ConditionalJump, AdjustWorkspace, EqualsConstant}
use Rattle.prefix_decoder.specs.declared.function.Fun.TheVariants.{StoreLocal, StoreNonLocal, Operate}
use Rattle.prefix_decoder.specs.declared.decoding.Instr.{Instr}
use Rattle.prefix_decoder.specs.declared.decoding.DecodeFault.{DecodeFault}
use Rattle.prefix_decoder.specs.declared.decoding.DecodeFault.TheVariants.{EndOfCode, SecondSpelling, TooLong}
use Rattle.prefix_decoder.specs.Functions.{pfix, nfix, code_of, fun_of, function_code, nibble, IsPrefix}
use Rattle.prefix_decoder.specs.Operand.{IsRegister, with_nibble, after_prefix}
use Rattle.prefix_decoder.specs.Spelling.{byte_of, Spells, alone, IsSpelling, spelling}
use Rattle.prefix_decoder.specs.Fetching.{ended_or, read, if_spelled_once, fetched, EndsTooSoon, IsTooLong}
use Rattle.prefix_decoder.specs.Fetching.{IsSecondSpelling}
use Rattle.prefix_decoder.specs.Fetching.{StandsAt}
use Rattle.prefix_decoder.proofs.Operands.{IsRegister-zero, IsRegister-after, FitsSigned-with_nibble}
use Rattle.prefix_decoder.proofs.Spellings.{IsSpelling-spelling, IsSpelling-same, not_empty, at_most_eight}
use Rattle.prefix_decoder.proofs.Reading.{read-spelling}

-- each number is a byte
abbrev pub IsBytes : List ℕ → Type 0
IsBytes bytes = (i : ℕ) → get_or bytes i 0 < 256

IsBytes-tail : (byte : ℕ) (bytes : List ℕ) → IsBytes (byte ∷ bytes) → IsBytes bytes
IsBytes-tail byte bytes h i = h (suc i)

-- ---- a code is that of a prefix or of a function

abbrev IsPrefixCode : ℕ → Type 0
IsPrefixCode code = (code ≡ pfix) ⊎ (code ≡ nfix)

data Kind (code : ℕ) : Option Fun → Type 0 where
  prefix : IsPrefixCode code → Kind code None
  function : (f : Fun) → code_of f ≡ code → ¬ IsPrefixCode code → Kind code (Some f)

other : (code : ℕ) → eqb code pfix ≡ false → eqb code nfix ≡ false → ¬ IsPrefixCode code
other code p n (inl is) = eqb-false code pfix p is
other code p n (inr is) = eqb-false code nfix n is

kind : (code : ℕ) → code < 16 → Kind code (fun_of code)
kind zero h = function Jump refl (other 0 refl refl)
kind (suc zero) h = function LoadLocalPointer refl (other 1 refl refl)
kind (suc (suc zero)) h = prefix (inl refl)
kind (suc (suc (suc zero))) h = function LoadNonLocal refl (other 3 refl refl)
kind (suc (suc (suc (suc zero)))) h = function LoadConstant refl (other 4 refl refl)
kind (suc (suc (suc (suc (suc zero))))) h = function LoadNonLocalPointer refl (other 5 refl refl)
kind (suc (suc (suc (suc (suc (suc zero)))))) h = prefix (inr refl)
kind (suc (suc (suc (suc (suc (suc (suc zero))))))) h = function LoadLocal refl (other 7 refl refl)
kind (suc (suc (suc (suc (suc (suc (suc (suc zero)))))))) h = function AddConstant refl (other 8 refl refl)
kind (suc (suc (suc (suc (suc (suc (suc (suc (suc zero))))))))) h = function Call refl (other 9 refl refl)
kind (suc (suc (suc (suc (suc (suc (suc (suc (suc (suc zero)))))))))) h = function ConditionalJump refl (other 10 refl refl)
kind (suc (suc (suc (suc (suc (suc (suc (suc (suc (suc (suc zero))))))))))) h =
    function AdjustWorkspace refl (other 11 refl refl)
kind (suc (suc (suc (suc (suc (suc (suc (suc (suc (suc (suc (suc zero)))))))))))) h =
    function EqualsConstant refl (other 12 refl refl)
kind (suc (suc (suc (suc (suc (suc (suc (suc (suc (suc (suc (suc (suc zero))))))))))))) h =
    function StoreLocal refl (other 13 refl refl)
kind (suc (suc (suc (suc (suc (suc (suc (suc (suc (suc (suc (suc (suc (suc zero)))))))))))))) h =
    function StoreNonLocal refl (other 14 refl refl)
kind (suc (suc (suc (suc (suc (suc (suc (suc (suc (suc (suc (suc (suc (suc (suc zero))))))))))))))) h =
    function Operate refl (other 15 refl refl)
kind (suc (suc (suc (suc (suc (suc (suc (suc (suc (suc (suc (suc (suc (suc (suc (suc code)))))))))))))))) h =
    absurd (omega arith)

kind_code : {code : ℕ} {o : Option Fun} → Kind code o → (f : Fun) → o ≡ Some f → code_of f ≡ code
kind_code (prefix is-prefix) f is = absurd cc
kind_code (function g code-is not) f is =
    let same : g ≡ f = cc in
    rw (← same) code-is

-- ---- the outcome of reading

-- the three ways in which reading ends, each with the bytes that lead there
data Outcome (fuel : ℕ) (bytes : List ℕ) (taken : ℕ) : Result Instr DecodeFault → Type 0 where
  too_long : fuel ≤ length bytes → All IsPrefix (take fuel bytes) → Outcome fuel bytes taken (Err TooLong)
  too_soon : length bytes < fuel → All IsPrefix bytes → Outcome fuel bytes taken (Err EndOfCode)
  found : (prefixes : List ℕ) (last : ℕ) (rest : List ℕ) (f : Fun) (e : ℤ) (len : ℕ)
      → bytes ≡ prefixes ++ last ∷ rest
      → length prefixes < fuel
      → All IsPrefix prefixes
      → ¬ IsPrefix last
      → FitsSigned w32 e
      → len ≡ taken + length prefixes + 1
      → Outcome fuel bytes taken (Ok (record { fun = f; operand = e; len = len }))

-- a prefix in front changes the count alone
one_more : (fuel byte taken : ℕ) (bytes : List ℕ) (r : Result Instr DecodeFault)
    → IsPrefix byte
    → Outcome fuel bytes (taken + 1) r
    → Outcome (suc fuel) (byte ∷ bytes) taken r
one_more fuel byte taken bytes r p (too_long h all) =
    too_long (omega arith) (All-cons IsPrefix byte (take fuel bytes) p all)
one_more fuel byte taken bytes r p (too_soon h all) = too_soon (omega arith) (All-cons IsPrefix byte bytes p all)
one_more fuel byte taken bytes r p (found prefixes last rest f e len parts short all not fits len-is) =
    found (byte ∷ prefixes) last rest f e len (ap (λ (xs : List ℕ). byte ∷ xs) parts) (omega arith)
    (All-cons IsPrefix byte prefixes p all) not fits (omega arith)

stepped : (fuel byte taken : ℕ) (bytes : List ℕ) (e : ℤ) (o : Option Fun) (r : Result Instr DecodeFault)
    → FitsSigned w32 e
    → Kind (function_code byte) o
    → Outcome fuel bytes (taken + 1) r
    → Outcome (suc fuel) (byte ∷ bytes) taken (ended_or o e (taken + 1) r)
stepped fuel byte taken bytes e o r fits (prefix p) out = one_more fuel byte taken bytes r p out
stepped fuel byte taken bytes e o r fits (function f code-is not) out =
    found [] byte bytes f e (taken + 1) refl (omega arith) (All-nil IsPrefix) not fits (omega arith)

outcome : (fuel : ℕ) (bytes : List ℕ) (register : ℤ) (taken : ℕ)
    → IsRegister register
    → IsBytes bytes
    → Outcome fuel bytes taken (read fuel bytes register taken)
outcome zero bytes register taken ok h = too_long (omega arith) (All-nil IsPrefix)
outcome (suc fuel) [] register taken ok h = too_soon (omega arith) (All-nil IsPrefix)
outcome (suc fuel) (byte ∷ bytes) register taken ok h =
    let e = with_nibble register (nibble byte) in
    let fits : FitsSigned w32 e = FitsSigned-with_nibble register (nibble byte) ok (omega arith) in
    let below : byte < 256 = h 0 in
    stepped fuel byte taken bytes e _ _ fits (kind (function_code byte) (omega arith))
    (outcome fuel bytes (after_prefix (function_code byte) e) (taken + 1) (IsRegister-after (function_code byte) e fits)
    (IsBytes-tail byte bytes h))

-- ---- where the first byte that is no prefix is

All-middle : (xs : List ℕ) (y : ℕ) (ys : List ℕ) → All IsPrefix (xs ++ y ∷ ys) → IsPrefix y
All-middle [] y ys all = All-head IsPrefix y ys all
All-middle (x ∷ xs) y ys all = All-middle xs y ys (All-tail IsPrefix x (xs ++ y ∷ ys) all)

All-middle_taken : (n : ℕ) (xs : List ℕ) (y : ℕ) (ys : List ℕ)
    → length xs < n
    → All IsPrefix (take n (xs ++ y ∷ ys))
    → IsPrefix y
All-middle_taken zero xs y ys h all = absurd (omega arith)
All-middle_taken (suc n) [] y ys h all = All-head IsPrefix y (take n ys) all
All-middle_taken (suc n) (x ∷ xs) y ys h all =
    All-middle_taken n xs y ys (omega arith) (All-tail IsPrefix x (take n (xs ++ y ∷ ys)) all)

-- the bytes up to the first that is no prefix are determined
same_split : (a b : List ℕ) (x y : ℕ) (after rest : List ℕ)
    → All IsPrefix a
    → All IsPrefix b
    → ¬ IsPrefix x
    → ¬ IsPrefix y
    → a ++ x ∷ after ≡ b ++ y ∷ rest
    → (a ≡ b) × (x ≡ y)
same_split [] [] x y after rest p q nx ny is = (refl, cc)
same_split [] (d ∷ b) x y after rest p q nx ny is =
    let same : x ≡ d = cc in absurd (nx (rw same (All-head IsPrefix d b q)))
same_split (c ∷ a) [] x y after rest p q nx ny is =
    let same : y ≡ c = cc in absurd (ny (rw same (All-head IsPrefix c a p)))
same_split (c ∷ a) (d ∷ b) x y after rest p q nx ny is =
    let heads : c ≡ d = cc in
    let tails : a ++ x ∷ after ≡ b ++ y ∷ rest = cc in
    let others = same_split a b x y after rest (All-tail IsPrefix c a p) (All-tail IsPrefix d b q) nx ny tails in
    (let fronts = others.0 in cc, others.1)

-- ---- what a check of the spelling makes of it

abbrev done : Instr → Result Instr DecodeFault
done i = Ok i

-- which way a check went
checked_fault : (b : Bool) (i : Instr) (fault : DecodeFault)
    → cond b (done i) (Err SecondSpelling) ≡ Err fault
    → (b ≡ false) × (SecondSpelling ≡ fault)
checked_fault true i fault is = absurd cc
checked_fault false i fault is = (refl, cc)

checked_done : (b : Bool) (i j : Instr) → cond b (done i) (Err SecondSpelling) ≡ Ok j → (b ≡ true) × (i ≡ j)
checked_done true i j is = (refl, cc)
checked_done false i j is = absurd cc

-- the bytes up to the one that is no prefix
taken_is : (bytes prefixes : List ℕ) (last : ℕ) (rest : List ℕ) (len : ℕ)
    → bytes ≡ prefixes ++ last ∷ rest
    → len ≡ 0 + length prefixes + 1
    → take len bytes ≡ prefixes ++ last ∷ []
taken_is bytes prefixes last rest len parts len-is =
    rw (parts, ← append_assoc prefixes (last ∷ []) rest)
    (take_at (prefixes ++ last ∷ []) rest len (omega (arith, length-append prefixes (last ∷ []))))

-- a spelling is found, whatever follows it
checked-spelling : (f : Fun) (e : ℤ) (front rest bytes : List ℕ)
    → IsSpelling f e front
    → bytes ≡ front ++ rest
    → if_spelled_once bytes (read 8 bytes (pos 0) 0) ≡ Ok (record { fun = f; operand = e; len = length front })
checked-spelling f e front rest bytes s parts =
    let first : take (length front) (front ++ rest) ≡ spelling f e = take_at front rest (length front) refl
    ∙ IsSpelling-same f e front (spelling f e) s (IsSpelling-spelling f e s.fits) in
    let passes : bytes_eq (take (length front) (front ++ rest)) (spelling f e) ≡ true =
    (bytes_eq-Decides (take (length front) (front ++ rest)) (spelling f e)).1 first in
    rw (parts, read-spelling f e front rest s, passes) refl

-- when each fault is reported
ends_is : (bytes : List ℕ) (r : Result Instr DecodeFault)
    → Outcome 8 bytes 0 r
    → (if_spelled_once bytes r ≡ Err EndOfCode) ↔ EndsTooSoon bytes
ends_is bytes r (too_long h all) = (λ is. absurd cc, λ s. absurd (omega (arith, s.0)))
ends_is bytes r (too_soon h all) = (λ is. (h, all), λ s. refl)
ends_is bytes r (found prefixes last rest f e len parts short all not ok len-is) = (
  λ is. absurd (let d = (checked_fault _ _ EndOfCode is).1 in cc),
  λ s. absurd (not (All-middle prefixes last rest
      (All-same IsPrefix (prefixes ++ last ∷ rest) bytes (sym parts) s.1))),
)

long_is : (bytes : List ℕ) (r : Result Instr DecodeFault)
    → Outcome 8 bytes 0 r
    → (if_spelled_once bytes r ≡ Err TooLong) ↔ IsTooLong bytes
long_is bytes r (too_long h all) = (λ is. (h, all), λ s. refl)
long_is bytes r (too_soon h all) = (λ is. absurd cc, λ s. absurd (omega (arith, s.0)))
long_is bytes r (found prefixes last rest f e len parts short all not ok len-is) = (
  λ is. absurd (let d = (checked_fault _ _ TooLong is).1 in cc),
  λ s. absurd (not (All-middle_taken 8 prefixes last rest short
      (All-same IsPrefix (take 8 (prefixes ++ last ∷ rest)) (take 8 bytes)
      (ap (λ (xs : List ℕ). take 8 xs) (sym parts)) s.1))),
)

second_is : (bytes : List ℕ) (r : Result Instr DecodeFault)
    → read 8 bytes (pos 0) 0 ≡ r
    → Outcome 8 bytes 0 r
    → (if_spelled_once bytes r ≡ Err SecondSpelling) ↔ IsSecondSpelling bytes
second_is bytes r was (too_long h all) = (
  λ is. absurd cc,
  λ s. absurd (s.no_prefix (All-middle_taken 8 s.prefixes s.last s.rest s.short
      (All-same IsPrefix (take 8 (s.prefixes ++ s.last ∷ s.rest)) (take 8 bytes)
      (ap (λ (xs : List ℕ). take 8 xs) (sym s.parts)) all))),
)
second_is bytes r was (too_soon h all) = (
  λ is. absurd cc,
  λ s. absurd (s.no_prefix (All-middle s.prefixes s.last s.rest
      (All-same IsPrefix (s.prefixes ++ s.last ∷ s.rest) bytes (sym s.parts) all))),
)
second_is bytes r was (found prefixes last rest f e len parts short all not ok len-is) =
    let i : Instr = record { fun = f; operand = e; len = len } in
    let decides = bytes_eq-Decides (take len bytes) (spelling f e) in
    let taken : take len bytes ≡ prefixes ++ last ∷ [] = taken_is bytes prefixes last rest len parts len-is in (
      λ is. record {
        prefixes = prefixes;
        last = last;
        rest = rest;
        parts = parts;
        short = short;
        all_prefixes = all;
        no_prefix = not;
        no_spelling = λ g d s.
            let fine = checked-spelling g d (prefixes ++ last ∷ []) rest bytes s
            (parts ∙ sym (append_assoc prefixes (last ∷ []) rest)) in
            cc;
      },
      λ s.
          let same = same_split prefixes s.prefixes last s.last rest s.rest all s.all_prefixes not s.no_prefix
          (sym parts ∙ s.parts) in
          let same_prefixes : prefixes ≡ s.prefixes = same.0 in
          let same_last : last ≡ s.last = same.1 in
          let front : take len bytes ≡ s.prefixes ++ s.last ∷ [] = rw (← same_prefixes, ← same_last) taken in
          let fails : bytes_eq (take len bytes) (spelling f e) ≡ false =
          false_from_ne_true _ (λ t. s.no_spelling f e (rw (← front, decides.0 t) (IsSpelling-spelling f e ok))) in
          rw fails refl,
    )

-- what is found is spelled at the bytes taken
found_is : (bytes : List ℕ) (r : Result Instr DecodeFault)
    → Outcome 8 bytes 0 r
    → (i : Instr)
    → if_spelled_once bytes r ≡ Ok i
    → IsSpelling i.fun i.operand (take i.len bytes) × (i.len ≤ length bytes)
found_is bytes r (too_long h all) i is = absurd cc
found_is bytes r (too_soon h all) i is = absurd cc
found_is bytes r (found prefixes last rest f e len parts short all not ok len-is) i is =
    let c = checked_done _ _ i is in
    let same : take len bytes ≡ spelling f e = (bytes_eq-Decides (take len bytes) (spelling f e)).0 c.0 in
    let within : len ≤ length bytes = omega (arith, length-append prefixes (last ∷ rest), ap length parts) in
    let at_first : IsSpelling f e (take len bytes) × (len ≤ length bytes) =
    (rw same (IsSpelling-spelling f e ok), within) in
    subst (λ (j : Instr). IsSpelling j.fun j.operand (take j.len bytes) × (j.len ≤ length bytes)) c.1 at_first

-- what holds of each value that it may be holds of the value
pub IfOk-from : (r : Result Instr DecodeFault) (P : Instr → Type 0) → ((i : Instr) → r ≡ Ok i → P i) → IfOk r P
IfOk-from (Ok i) P h = h i refl
IfOk-from (Err e) P h = tt

-- ---- the same at a place of the code

module _ (code : List ℕ) (at : ℕ) (fits : IsBytes code) where
  outcome_at : Outcome 8 (drop at code) 0 (read 8 (drop at code) (pos 0) 0)
  outcome_at = outcome 8 (drop at code) (pos 0) 0 IsRegister-zero (λ i. rw get_or-drop (fits (at + i)))

  pub fetched-end : (fetched code at ≡ Err EndOfCode) ↔ EndsTooSoon (drop at code)
  fetched-end = ends_is (drop at code) _ outcome_at

  pub fetched-long : (fetched code at ≡ Err TooLong) ↔ IsTooLong (drop at code)
  fetched-long = long_is (drop at code) _ outcome_at

  pub fetched-second : (fetched code at ≡ Err SecondSpelling) ↔ IsSecondSpelling (drop at code)
  fetched-second = second_is (drop at code) _ refl outcome_at

  pub fetched-found : (i : Instr) → fetched code at ≡ Ok i → StandsAt code at i
  fetched-found i is =
      let found = found_is (drop at code) _ outcome_at i is in
      let some = not_empty found.0.spells in
      record {
        within = omega (arith, length-drop at code, length-take i.len (drop at code), found.1, some);
        spelled = found.0;
      }

pub fetched-only : (code : List ℕ) (at : ℕ) (f : Fun) (e : ℤ) (bytes rest : List ℕ)
    → IsSpelling f e bytes
    → drop at code ≡ bytes ++ rest
    → fetched code at ≡ Ok (record { fun = f; operand = e; len = length bytes })
fetched-only code at f e bytes rest s parts = checked-spelling f e bytes rest (drop at code) s parts

-- a byte that is no prefix is an instruction
pub fetched-single : (code : List ℕ) (at byte : ℕ) (rest : List ℕ) (f : Fun)
    → byte < 256
    → drop at code ≡ byte ∷ rest
    → fun_of (function_code byte) ≡ Some f
    → fetched code at ≡ Ok (record { fun = f; operand = with_nibble (pos 0) (nibble byte); len = 1 })
fetched-single code at byte rest f small parts is =
    let e = pos (nibble byte) in
    let code-is : code_of f ≡ function_code byte = kind_code (kind (function_code byte) (omega arith)) f is in
    let byte-is : byte_of (code_of f) e ≡ byte = rw code-is (omega arith) in
    let spells : Spells (code_of f) e (byte ∷ []) =
    subst (λ (b : ℕ). Spells (code_of f) e (b ∷ [])) byte-is (alone (omega (arith, ints)) (omega (arith, ints))) in
    let sum : 0 + nibble byte ≡ nibble byte = omega arith in
    rw sum (fetched-only code at f e (byte ∷ []) rest (record { fits = search rules; spells = spells }) parts)

-- an instruction takes 1 to 8 bytes
pub StandsAt-length : (code : List ℕ) (at : ℕ) (i : Instr) → StandsAt code at i → (1 ≤ i.len) × (i.len ≤ 8)
StandsAt-length code at i s =
    let long = not_empty s.spelled.spells in
    let short = at_most_eight i.operand s.spelled.spells s.spelled.fits in
    let within = s.within in (
      omega (arith, length-take i.len (drop at code)),
      omega (arith, length-take i.len (drop at code), length-drop at code),
    )
