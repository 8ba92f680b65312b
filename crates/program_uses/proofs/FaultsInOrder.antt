-- The first fault of several parts of a program.
use Rattle.std.proofs.Common.{◌≡◌, ℕ, Bool, true, false, cond, Option, Some, None, inl, inr, refl}
use Rattle.std.proofs.Common.{sym, subst, ◌∙◌, ◌⊎◌, arith}
use Rattle.std.proofs.lemmas.Bool.Decides.{nat_tests}
use Rattle.program_uses.specs.declared.telling.UsageFault.{UsageFault}
use Rattle.program_uses.specs.Lowest.{IsLowest}
use Rattle.program_uses.specs.Telling.{NotAfter, IsFirst, is_before, earlier, fault_at, At, Among}

-- ---- the order of faults

not_after_itself : (f : UsageFault) → NotAfter f f
not_after_itself f = inr (refl, omega arith)

not_after_both : (f g h : UsageFault) → NotAfter f g → NotAfter g h → NotAfter f h
not_after_both f g h (inl a) (inl b) = inl (omega arith)
not_after_both f g h (inl a) (inr b) = inl (let e = b.0 in omega arith)
not_after_both f g h (inr a) (inl b) = inl (let e = a.0 in omega arith)
not_after_both f g h (inr a) (inr b) = inr (a.0 ∙ b.0, (let l = a.1 in let m = b.1 in omega arith))

before_lines : (f g : UsageFault) → is_before f g ≡ true → NotAfter f g
before_lines f g e = grind (arith, nat_tests)

not_before_lines : (f g : UsageFault) → is_before f g ≡ false → NotAfter g f
not_before_lines f g e = grind (arith, nat_tests)

-- ---- faults one after another

pub first_both : {P Q : UsageFault → Type 0} (o m n : Option UsageFault) → IsFirst (Among o P) m → IsFirst (Among m Q) n
    → IsFirst (Among o (λ f. P f ⊎ Q f)) n
first_both o None None a b = record {
  broken = tt;
  first = λ f h. elim h [
    | inl e ↦ a.first f (inl e)
    | inr x ↦ elim x [ inl p ↦ a.first f (inr p) | inr q ↦ b.first f (inr q) ]
  ];
}
first_both o None (Some h) a b = record {
  broken = elim b.broken [ inl e ↦ absurd (let k = e in cc) | inr q ↦ inr (inr q) ];
  first = λ f x. elim x [
    | inl e ↦ absurd (a.first f (inl e))
    | inr y ↦ elim y [ inl p ↦ absurd (a.first f (inr p)) | inr q ↦ b.first f (inr q) ]
  ];
}
first_both o (Some g) None a b = record { broken = tt; first = λ f x. absurd (b.first g (inl refl)) }
first_both {P} {Q} o (Some g) (Some h) a b =
    let up : (f : UsageFault) → NotAfter g f → NotAfter h f =
    λ f n. not_after_both h g f (b.first g (inl refl)) n in
    record {
      broken = elim b.broken [
        | inl e ↦ (let same : g ≡ h = cc in
            elim (subst (λ f. (o ≡ Some f) ⊎ P f) same a.broken) [ inl x ↦ inl x | inr p ↦ inr (inl p) ])
        | inr q ↦ inr (inr q)
      ];
      first = λ f x. elim x [
        | inl e ↦ up f (a.first f (inl e))
        | inr y ↦ elim y [ inl p ↦ up f (a.first f (inr p)) | inr q ↦ b.first f (inr q) ]
      ];
    }

pub first_none : (o : Option UsageFault) → IsFirst (Among o (λ f. ⊥)) o
first_none None = record { broken = tt; first = λ f h. elim h [ inl e ↦ (let k = e in cc) | inr x ↦ x ] }
first_none (Some g) = record {
  broken = inl refl;
  first = λ f h. elim h [
    | inl e ↦ (let same : g ≡ f = cc in subst (λ f. NotAfter g f) same (not_after_itself g))
    | inr x ↦ absurd x
  ];
}

-- what is reported on one line
pub line_first : {Breaks : ℕ → Type 0} (line : ℕ) (told : Option ℕ) → IsLowest Breaks told
    → IsFirst (At line Breaks) (fault_at line told)
line_first line None x = record { broken = tt; first = λ f h. x.least f.number h.1 }
line_first line (Some m) x = record {
  broken = (refl, x.broken);
  first = λ f h. inr (sym h.0, x.least f.number h.1);
}

earlier_by : {P : UsageFault → Type 0} (f g : UsageFault) (t : Bool) → t ≡ is_before g f → IsFirst P (Some g)
    → IsFirst (Among (Some f) P) (cond t (Some g) (Some f))
earlier_by {P} f g true e x = record {
  broken = inr x.broken;
  first = λ h y. elim y [
    | inl s ↦ (let same : f ≡ h = cc in subst (λ h. NotAfter g h) same (before_lines g f (sym e)))
    | inr p ↦ x.first h p
  ];
}
earlier_by {P} f g false e x = record {
  broken = inl refl;
  first = λ h y. elim y [
    | inl s ↦ (let same : f ≡ h = cc in subst (λ h. NotAfter f h) same (not_after_itself f))
    | inr p ↦ not_after_both f g h (not_before_lines g f (sym e)) (x.first h p)
  ];
}

pub earlier_first : {P : UsageFault → Type 0} (o n : Option UsageFault) → IsFirst P n
    → IsFirst (Among o P) (earlier o n)
earlier_first None None x = record {
  broken = tt;
  first = λ f h. elim h [ inl e ↦ (let k = e in cc) | inr p ↦ x.first f p ];
}
earlier_first None (Some g) x = record {
  broken = inr x.broken;
  first = λ f h. elim h [ inl e ↦ absurd (let k = e in cc) | inr p ↦ x.first f p ];
}
earlier_first {P} (Some f) None x = record {
  broken = inl refl;
  first = λ h y. elim y [
    | inl s ↦ (let same : f ≡ h = cc in subst (λ h. NotAfter f h) same (not_after_itself f))
    | inr p ↦ absurd (x.first h p)
  ];
}
earlier_first (Some f) (Some g) x = earlier_by f g (is_before g f) refl x

-- the same of other words for the same faults
pub first_as : {P Q : UsageFault → Type 0} {o n : Option UsageFault} → ((f : UsageFault) → P f → Q f)
    → ((f : UsageFault) → Q f → P f) → IsFirst (Among o P) n → IsFirst (Among o Q) n
first_as {n = None} there back x = record {
  broken = tt;
  first = λ f h. elim h [ inl e ↦ x.first f (inl e) | inr q ↦ x.first f (inr (back f q)) ];
}
first_as {n = Some g} there back x = record {
  broken = elim x.broken [ inl e ↦ inl e | inr p ↦ inr (there g p) ];
  first = λ f h. elim h [ inl e ↦ x.first f (inl e) | inr q ↦ x.first f (inr (back f q)) ];
}
