-- What is one level down.
use Rattle.std.proofs.Common.{◌≡◌, ℕ, zero, suc, pred, ◌-◌, ◌<◌, List, Option, Some, None, refl, ap, arith, ◌∙◌}
use Rattle.occam_parser.specs.declared.fault.LineError.{LineError}
use Rattle.occam_parser.specs.declared.fault.LineError.TheVariants as errors
use Rattle.occam_layout.specs.declared.mark.Mark as mark_type
use Rattle.occam_parser.specs.declared.tree.ValueType.{ValueType}
use Rattle.occam_parser.specs.Terminals.{Terminal}
use Rattle.occam_parser.specs.Expressions.{Term, Converted}
use Rattle.occam_parser.specs.Reading.{Fails, Reads, ◌>>=◌, behind, up_to, converted, term_at, inner_at, operand_within}
use Rattle.occam_parser.specs.Reading.{expression_at}

pub inner_is : (n : ℕ) (ts : List Terminal) → 0 < n → inner_at n ts ≡ expression_at (pred n) ts
unfolding inner_at expression_at term_at
inner_is zero ts h = absurd (omega arith)
inner_is (suc n) ts h = refl

pub operand_is : (n : ℕ) (ts : List Terminal) → 0 < n → operand_within n ts ≡ term_at (pred n) ts
unfolding operand_within term_at
operand_is zero ts h = absurd (omega arith)
operand_is (suc n) ts h = refl

-- the same, as the program counts
pub inner_below : (n : ℕ) (ts : List Terminal) → 0 < n → inner_at n ts ≡ expression_at (n - 1) ts
inner_below n ts h = let one : pred n ≡ n - 1 = omega arith in inner_is n ts h ∙ ap (λ m. expression_at m ts) one

-- a fault of one reading is a fault of another that rests on it
pub fails_on : {A B : Type 0} (e : LineError) (read : Option A) (whole : Option B) → (read ≡ None → whole ≡ None)
    → Fails e read → Fails e whole
fails_on errors.Memory read whole f h = tt
fails_on (errors.Fault fault) read whole f h = f h

pub operand_below : (n : ℕ) (ts : List Terminal) → 0 < n → operand_within n ts ≡ term_at (n - 1) ts
operand_below n ts h = let one : pred n ≡ n - 1 = omega arith in operand_is n ts h ∙ ap (λ m. term_at m ts) one

pub up_to_none : {A : Type 0} (close : mark_type.Mark) (read : Option (A × List Terminal)) → read ≡ None
    → up_to close read ≡ None
unfolding up_to
up_to_none {A} close read e = ap (λ (o : Option (A × List Terminal)). o >>= λ y. behind close y.1 >>= λ us. Some
    (y.0, us)) e

pub up_to_fails : {A : Type 0} (close : mark_type.Mark) (read : Option (A × List Terminal)) (x : A)
    (ts : List Terminal) → read ≡ Some (x, ts) → behind close ts ≡ None → up_to close read ≡ None
unfolding up_to
up_to_fails {A} close read x ts e b = ap (λ (o : Option (A × List Terminal)). o >>= λ y. behind close y.1 >>= λ us.
    Some (y.0, us)) e ∙ ap (λ o. o >>= λ us. Some (x, us)) b

pub up_to_found : {A : Type 0} (close : mark_type.Mark) (read : Option (A × List Terminal)) (x : A)
    (ts rest : List Terminal) → read ≡ Some (x, ts) → behind close ts ≡ Some rest → up_to close read ≡ Some (x, rest)
unfolding up_to
up_to_found {A} close read x ts rest e b = ap
    (λ (o : Option (A × List Terminal)). o >>= λ y. behind close y.1 >>= λ us. Some (y.0, us)) e ∙ ap
    (λ o. o >>= λ us. Some (x, us)) b

pub converted_fails : (operand : Reads Term) (to : ValueType) (ts : List Terminal) → operand ts ≡ None
    → converted operand to ts ≡ None
unfolding converted
converted_fails operand to ts e = ap (λ o. o >>= λ x. Some (Converted to x.0, x.1)) e

pub converted_found : (operand : Reads Term) (to : ValueType) (ts rest : List Terminal) (t : Term)
    → operand ts ≡ Some (t, rest) → converted operand to ts ≡ Some (Converted to t, rest)
unfolding converted
converted_found operand to ts rest t e = ap (λ o. o >>= λ x. Some (Converted to x.0, x.1)) e

pub inner_none : (n : ℕ) (ts : List Terminal) → n ≡ 0 → inner_at n ts ≡ None
unfolding inner_at
inner_none zero ts e = refl
inner_none (suc n) ts e = absurd (omega arith)
