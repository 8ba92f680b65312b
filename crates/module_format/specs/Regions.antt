-- The regions that pointers lead to, and their numbers in a module file, which are our own choice.
use Rattle.std.specs.Prelude.{ℕ, ◌+◌, ◌-◌, ◌==◌, if◌then◌else◌, Bool, true, false}
use Rattle.module_format.specs.declared.fact.Region.{Region}
use Rattle.module_format.specs.declared.fact.Region.TheVariants.{Frame, Constants, Parameter}

-- the number of a region
abbrev pub region_number : Region → ℕ
region_number Frame = 0
region_number Constants = 1
region_number (Parameter j) = 2 + j

-- the region with this number
abbrev pub region_numbered : ℕ → Region
region_numbered n = if n == 0 then Frame else (if n == 1 then Constants else Parameter (n - 2))

-- it is the frame
abbrev pub is_frame : Region → Bool
is_frame Frame = true
is_frame Constants = false
is_frame (Parameter j) = false

-- both are the same
abbrev pub is_same_region : Region → Region → Bool
is_same_region Frame Frame = true
is_same_region Constants Constants = true
is_same_region (Parameter j) (Parameter k) = j == k
is_same_region _ _ = false
