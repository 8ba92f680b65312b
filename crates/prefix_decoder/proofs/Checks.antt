-- How a test of the written spelling decides what is fetched.
use Rattle.std.proofs.Common.{◌≡◌, ℕ, ◌-◌, Bool, true, false, cond, not, List, length, take, drop, Ok, Err, pos, refl}
use Rattle.std.proofs.Common.{sym, min, ◌∙◌}
use Rattle.std.specs.Str.{bytes_eq}
use Rattle.std.proofs.lemmas.List.{take_rest, drop_min}
use Rattle.prefix_decoder.specs.declared.decoding.Instr.{Instr}
use Rattle.prefix_decoder.specs.declared.decoding.DecodeFault.{DecodeFault}
use Rattle.prefix_decoder.specs.declared.decoding.DecodeFault.TheVariants.{SecondSpelling}
use Rattle.prefix_decoder.specs.Spelling.{spelling}
use Rattle.prefix_decoder.specs.Fetching.{read, fetched}

turned : (b : Bool) (i : Instr) → cond b (Ok i) (Err SecondSpelling) ≡ cond (not b) (Err SecondSpelling) (Ok i)
turned true i = refl
turned false i = refl

-- the bytes from this index on
abbrev pub slice_from : List ℕ → ℕ → List ℕ
slice_from code start = take (length code - start) (drop start code)

-- from a place that may be beyond the end
slice_from_is : (code : List ℕ) (at start : ℕ) → start ≡ min at (length code) → slice_from code start ≡ drop at code
slice_from_is code at start is = rw is (take_rest code (min at (length code)) ∙ drop_min at code)

pub tested : (code : List ℕ) (at start : ℕ) (i : Instr) (written : List ℕ) (differs : Bool)
    → start ≡ min at (length code)
    → read 8 (slice_from code start) (pos 0) 0 ≡ Ok i
    → written ≡ spelling i.fun i.operand
    → differs ≡ not (bytes_eq (take i.len (slice_from code start)) written)
    → cond differs (Err SecondSpelling) (Ok i) ≡ fetched code at
tested code at start i written differs start-is was is test =
    let all = slice_from_is code at start start-is in
    let was' : read 8 (drop at code) (pos 0) 0 ≡ Ok i = rw all at was in
    let test' : differs ≡ not (bytes_eq (take i.len (drop at code)) (spelling i.fun i.operand)) =
    rw (all, is) at test in
    rw (was', test') (sym (turned (bytes_eq (take i.len (drop at code)) (spelling i.fun i.operand)) i))

-- a fault that was read is the result
pub refused : (code : List ℕ) (at start : ℕ) (e : DecodeFault)
    → start ≡ min at (length code)
    → read 8 (slice_from code start) (pos 0) 0 ≡ Err e
    → Err e ≡ fetched code at
refused code at start e start-is was =
    let was' : read 8 (drop at code) (pos 0) 0 ≡ Err e = rw (slice_from_is code at start start-is) at was in
    rw was' refl
