-- A text that is written in parts.
use Rattle.std.proofs.Common.{◌≡◌, ℕ, ◌+◌, ◌-◌, ◌≤◌, List, length, take, drop, Option, ap, sym}
use Rattle.std.proofs.Common.{◌∙◌, arith, subst}
use Rattle.std.specs.Io.KnownBytes.{Appends, Keeps}
use Rattle.std.proofs.KnownBytes.{Appends-trans, Appends-kept}
use Rattle.std.proofs.Math.Seq.{take-add}
use Rattle.std.proofs.lemmas.List.{length-drop, take_rest}

-- The first bytes of the text were written, this number of them.
pub record IsWritten (before after : Option (List ℕ)) (text : List ℕ) (written : ℕ) : Type 0 where
  pub beginning : Appends before after (take written text)
  pub within : written ≤ length text

-- this number of bytes more
pub more_written : (a b c : Option (List ℕ)) (text : List ℕ) (n count : ℕ) → IsWritten a b text n
    → count ≤ length (take (length text - n) (drop n text))
    → Appends b c (take count (take (length text - n) (drop n text))) → IsWritten a c text (n + count)
more_written a b c text n count first bound second =
    let rest : take (length text - n) (drop n text) ≡ drop n text = take_rest text n in
    let size : length (take (length text - n) (drop n text)) ≡ length text - n = ap length rest ∙ length-drop n text in
    let within = first.within in
    record {
      beginning = subst (Appends a c) (sym (take-add n count text))
          (Appends-trans a b c (take n text) (take count (drop n text)) first.beginning
          (subst (λ (bytes : List ℕ). Appends b c (take count bytes)) rest second));
      within = omega arith;
    }

pub none_written : (a b c : Option (List ℕ)) (text : List ℕ) (n : ℕ) → IsWritten a b text n → Keeps b c
    → IsWritten a c text n
none_written a b c text n first same =
    record { beginning = Appends-kept a b c (take n text) first.beginning same; within = first.within }
