-- What a call lends its callee, and a start its branch.
use Rattle.std.specs.Prelude.{◌≡◌, ◌⊎◌, ⊤, ℕ, ◌+◌, ◌*◌, ◌≤◌, ◌<◌, ℤ, pos, ◌+ℤ◌, ◌*ℤ◌, ◌≤ℤ◌, Bool, true, false, length}
use Rattle.std.specs.Prelude.{Some}
use Rattle.module_format.specs.declared.fact.Region.{Region}
use Rattle.module_format.specs.declared.fact.Region.TheVariants as regions
use Rattle.module_format.specs.declared.rows.Parameter.{Parameter}
use Rattle.module_format.specs.declared.rows.ParameterKind.{ParameterKind}
use Rattle.module_format.specs.declared.rows.ParameterKind.TheVariants.{Value, ReadRegion, WrittenRegion, Channels}
use Rattle.module_format.specs.Contents.{Contents}
use Rattle.machine_state.specs.Memory.{place_of}
use Rattle.machine_state.specs.World.{constants_start}
use Rattle.rulings.specs.Meaning.{place_in}
use Rattle.rulings.specs.Regions.{Scope}

-- ---- what one parameter is lent

abbrev pub IsRegionKind : ParameterKind → ℕ → ℤ → ℤ → Type 0
IsRegionKind kind size lo hi = (kind ≡ ReadRegion size lo hi) ⊎ (kind ≡ WrittenRegion size lo hi)

-- The `count` words of a region from a byte on, where the caller has them: `base` is its word that is word 0 of the
-- callee's frame.
pub data IsPart (m : Contents) (caller callee : Scope) (base : ℤ) (region : Region) (first : ℤ) (count : ℕ) (lo hi : ℤ)
    (written : Bool) (place : ℕ) : Type 0 where
  of_frame : (word : ℤ) → region ≡ regions.Frame → first ≡ pos 4 *ℤ word
      → pos place ≡ place_in caller.layout.origin word
      → ((i : ℕ) → i < count → caller.words.reads (word +ℤ pos i) ≡ true)
      → ((i : ℕ) → i < count → written ≡ true → caller.words.writes (word +ℤ pos i) ≡ true)
      → ((i : ℕ) (k : ℤ) → i < count → callee.words.reads k ≡ true → word +ℤ pos i ≡ base +ℤ k → ⊥)
      → IsPart m caller callee base region first count lo hi written place
  of_constants : (n : ℕ) → region ≡ regions.Constants → first ≡ pos n → written ≡ false → place ≡ constants_start m + n
      → n + 4 * count ≤ length m.constants
      → IsPart m caller callee base region first count lo hi written place
  of_parameter : (q : ℕ) (p : Parameter) (n total : ℕ) (low high : ℤ) → region ≡ regions.Parameter q
      → first ≡ pos (4 * n) → caller.parameters q ≡ Some p
      → IsRegionKind p.kind total low high → (written ≡ true → p.kind ≡ WrittenRegion total lo hi) → lo ≤ℤ low
      → high ≤ℤ hi → place ≡ place_of (caller.layout.starts q) + 4 * n → 4 * n + 4 * count ≤ total
      → IsPart m caller callee base region first count lo hi written place

-- what a parameter of this kind is lent, where the callee's begins at this address
abbrev pub PartOf : Contents → Scope → Scope → ℤ → ParameterKind → ℕ → Region → ℤ → ℕ → Type 0
PartOf m caller callee base (Value lo hi) start region first count = ⊤
PartOf m caller callee base (ReadRegion size lo hi) start region first count =
    (size ≡ 4 * count) × IsPart m caller callee base region first count lo hi false (place_of start)
PartOf m caller callee base (WrittenRegion size lo hi) start region first count =
    (size ≡ 4 * count) × IsPart m caller callee base region first count lo hi true (place_of start)
PartOf m caller callee base (Channels count' len ends) start region first count = ⊤

-- where each parameter of the callee lies
pub record Part (m : Contents) (caller callee : Scope) (base : ℤ) (kind : ParameterKind) (start : ℕ) : Type 0 where
  pub region : Region
  pub first : ℤ
  pub count : ℕ
  pub is : PartOf m caller callee base kind start region first count

-- What an activation lends another one: of a call the callee, of a start the branch. It says nothing of memory.
pub record Lends (m : Contents) (caller callee : Scope) (base : ℤ) : Type 0 where
  pub origin : callee.layout.origin ≡ place_in caller.layout.origin base
  pub writes : (k : ℤ) → callee.words.writes k ≡ true → caller.words.writes (base +ℤ k) ≡ true
  pub reads : (k : ℤ) → callee.words.reads k ≡ true → caller.words.reads (base +ℤ k) ≡ true
  pub callee_reads : (k : ℤ) → callee.words.writes k ≡ true → callee.words.reads k ≡ true
  pub caller_reads : (k : ℤ) → caller.words.writes k ≡ true → caller.words.reads k ≡ true
  pub parts : (j : ℕ) (p : Parameter) → callee.parameters j ≡ Some p
      → Part m caller callee base p.kind (callee.layout.starts j)
