-- What the program returns.
use Rattle.std.proofs.Common.{◌≡◌, ℕ, List, [], ◌∷◌, Option, Some, None, Result, Ok, Err, refl, ap, subst, ◌∙◌}
use Rattle.std.proofs.Common.{inl, inr, sym}
use Rattle.occam_parser.specs.declared.fault.LineError.{LineError}
use Rattle.occam_parser.specs.declared.fault.LineError.TheVariants as errors
use Rattle.occam_parser.specs.declared.fault.Refusal.{Refusal}
use Rattle.occam_parser.specs.declared.fault.Refusal.TheVariants as refusals
use Rattle.occam_parser.specs.declared.fault.ParseFault.{ParseFault}
use Rattle.occam_parser.specs.Reading.{Gives}
use Rattle.occam_parser.specs.Blocks.{Row}
use Rattle.occam_parser.specs.LineFaults.{out_of_memory, Lacks, IsToldOf, IsTold, IsRefusal}

-- a fault of what was read is a fault of what rests on it
pub passed_on : {A B : Type 0} (t : Refusal) (read : Option A) (whole : Option B) → (read ≡ None → whole ≡ None)
    → Lacks t read → Lacks t whole
passed_on refusals.Memory read whole f h = tt
passed_on (refusals.Fault fault left) read whole f h = f h

pub lacks_none : {A : Type 0} (t : Refusal) (read : Option A) → read ≡ None → Lacks t read
lacks_none refusals.Memory read e = tt
lacks_none (refusals.Fault fault left) read e = e

-- what a line gave, reported as a whole
pub told_found : {X Y : Type 0} (view : X → Y) (gave : Result X LineError) (left : ℕ) (x : X) (read : Option Y)
    → IsToldOf gave left (Ok x) → Gives view gave read → read ≡ Some (view x)
told_found view (Ok y) left x read i g = let same : y ≡ x = cc in g ∙ ap (λ z. Some (view z)) same
told_found view (Err errors.Memory) left x read i g = absurd (cc)
told_found view (Err (errors.Fault fault)) left x read i g = absurd (cc)

pub told_lost : {X Y B : Type 0} (view : X → Y) (gave : Result X LineError) (left : ℕ) (t : Refusal) (read : Option Y)
    (whole : Option B) → IsToldOf gave left (Err t) → Gives view gave read → (read ≡ None → whole ≡ None)
    → Lacks t whole
told_lost view (Ok y) left t read whole i g f = absurd (cc)
told_lost view (Err errors.Memory) left t read whole i g f =
    let same : t ≡ refusals.Memory = cc in subst (λ u. Lacks u whole) (sym same) tt
told_lost view (Err (errors.Fault fault)) left t read whole i g f =
    let same : t ≡ refusals.Fault fault left = cc in subst (λ u. Lacks u whole) (sym same) (f g)

-- what is there isn't missed
pub told_of_program : {A : Type 0} (rows : List Row) (t : Refusal) (told : ParseFault) (read : Option A) (x : A)
    → read ≡ Some x → Lacks t read → IsTold rows t told → told ≡ out_of_memory
told_of_program rows refusals.Memory told read x e h i = i
told_of_program rows (refusals.Fault fault left) told read x e h i = absurd (cc)

-- why these lines are refused, where no line is at fault of no lines
pub refused_so : {A : Type 0} (rows : List Row) (t : Refusal) (told : ParseFault) (read : Option A)
    → (rows ≡ [] → read ≡ None → ⊥) → Lacks t read → IsTold rows t told → IsRefusal rows told
refused_so rows refusals.Memory told read none h i = inl i
refused_so [] (refusals.Fault fault left) told read none h i = absurd (none refl h)
refused_so (row ∷ rows) (refusals.Fault fault left) told read none h i = inr i
