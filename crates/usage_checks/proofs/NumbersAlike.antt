-- Of a list of variables, loops and PARs use only which numbers are in it.
use Rattle.std.proofs.Common.{◌≡◌, ℕ, true, List, [], ◌∷◌, length, Some, None, option_map, refl, ap, ◌∙◌}
use Rattle.scalar_ranges.specs.Entries.{Entry}
use Rattle.scalar_ranges.specs.Moves.{is_one_of, widened_if, widen, of_both, taken, Block, Known, begin, end_of}
use Rattle.scalar_ranges.specs.Moves.{component_end, component_from, next_component, begin_loop}
use Rattle.program_uses.specs.Listing.{SameNumbers}
use Rattle.program_uses.specs.declared.telling.UsageFault.{UsageFault}
use Rattle.usage_checks.specs.declared.telling.Findings.{Findings}
use Rattle.usage_checks.specs.Telling.{Walks}

widened_alike : (ms ns : List ℕ) (es : List Entry) → SameNumbers ms ns → widen ms es ≡ widen ns es
widened_alike ms ns [] same = refl
widened_alike ms ns (e ∷ es) same = λ i. widened_if (same (length es) i) e ∷ widened_alike ms ns es same i

taken_alike : {A : Type 0} (ms ns : List ℕ) (xs ys : List A) → SameNumbers ms ns → taken ms xs ys ≡ taken ns xs ys
taken_alike ms ns [] ys same = refl
taken_alike ms ns (x ∷ xs) [] same = refl
taken_alike ms ns (x ∷ xs) (y ∷ ys) same =
    λ i. of_both (same (length xs) i) x y ∷ taken_alike ms ns xs ys same i

pub loop_alike : (ms ns : List ℕ) (k : Known) → SameNumbers ms ns → begin_loop ms k ≡ begin_loop ns k
loop_alike ms ns k same =
    λ i. begin (record { entries = widened_alike ms ns k.entries same i; blocks = k.blocks })

end_alike : (ms ns : List ℕ) (b : Block) (es : List Entry) → SameNumbers ms ns
    → component_end ms b es ≡ component_end ns b es
end_alike ms ns b es same = λ i. option_map (λ ds. taken_alike ms ns ds (end_of b es) same i) b.ends

from_alike : (ms ns : List ℕ) (es : List Entry) (bs : List Block) → SameNumbers ms ns
    → component_from ms es bs ≡ component_from ns es bs
from_alike ms ns es [] same = refl
from_alike ms ns es (b ∷ bs) same =
    λ i. record { entries = b.start; blocks = record { start = b.start; ends = end_alike ms ns b es same i } ∷ bs }

pub component_alike : (ms ns : List ℕ) (k : Known) → SameNumbers ms ns → next_component ms k ≡ next_component ns k
component_alike ms ns k same = from_alike ms ns k.entries k.blocks same

-- what is known after a part of the walk, if memory was enough, is known in another way
pub walks_known : {K : Type 0} {s t : Findings} {k l m : K} {P : UsageFault → Type 0} → Walks s t k l P
    → (t.complete ≡ true → l ≡ m) → Walks s t k m P
walks_known a same = record { complete = a.complete; known = λ e. a.known e ∙ same e; first = a.first }
