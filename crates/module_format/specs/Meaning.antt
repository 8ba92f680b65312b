-- What rows and their items say, how the file spells them, and how they are read and looked at.
use Rattle.std.specs.Prelude.{⊤, ℕ, List, Result}
use Rattle.module_format.specs.declared.fault.FormatFault.{FormatFault}
use Rattle.module_format.specs.declared.tables.Version.{Version}
use Rattle.module_format.specs.Reading.{Read}

-- ---- spelling

pub record Meaning (T : Type 0) : Type 1 where
  -- what an item says, apart from where it lies in memory
  pub Value : Type 0
  pub view : T → Value
  pub bytes : Version → Value → List ℕ
  -- what has a spelling
  pub Fits : Value → Type 0

-- of an item without lists, which says what it is and is spelled alike in both versions
abbrev pub without_lists : {T : Type 0} → (T → List ℕ) → Meaning T
without_lists {T = T} bytes = record { Value = T; view = λ item. item; bytes = λ version. bytes; Fits = λ item. ⊤ }

-- of an item with lists
abbrev pub viewed : {T V : Type 0} → (T → V) → (Version → V → List ℕ) → (V → Type 0) → Meaning T
viewed {V = V} view bytes Fits = record { Value = V; view = view; bytes = bytes; Fits = Fits }

-- ---- lists

-- How items of type T are read one after the other, where an item leaves an L to the next and a C is the same for
-- each of them.
pub record Listing (C T L : Type 0) : Type 1 where
  pub Value : Type 0
  pub view : T → Value
  -- what the item at the front of these bytes is, in a file of this length
  pub reads : C → ℕ → L → List ℕ → Read Value
  pub behind : L → Value → L

abbrev pub listed : {C T L : Type 0} → (C → ℕ → L → List ℕ → Read T) → (L → T → L) → Listing C T L
listed {T = T} reads behind = record { Value = T; view = λ item. item; reads = reads; behind = behind }

abbrev pub listed_as : {C T V L : Type 0} → (T → V) → (C → ℕ → L → List ℕ → Read V) → (L → V → L) → Listing C T L
listed_as {V = V} view reads behind = record { Value = V; view = view; reads = reads; behind = behind }

-- what a reader of a list keeps of it: what is the same for each item, and what those before it leave
pub record Walk (R T : Type 0) : Type 1 where
  pub Context : Type 0
  pub State : Type 0
  pub context : R → Context
  pub state : R → State
  pub listing : Listing Context T State

abbrev pub walk : {R T C L : Type 0} → (R → C) → (R → L) → Listing C T L → Walk R T
walk {C = C} {L = L} context state listing =
    record { Context = C; State = L; context = context; state = state; listing = listing }

-- ---- names

-- whether what the item at an offset names is there in a context
pub record Naming (C T : Type 0) : Type 1 where
  pub Value : Type 0
  pub view : T → Value
  pub bytes : Value → List ℕ
  pub looked : C → ℕ → Value → Result ⊤ FormatFault

abbrev pub naming : {C T V : Type 0} → (T → V) → (V → List ℕ) → (C → ℕ → V → Result ⊤ FormatFault) → Naming C T
naming {V = V} view bytes looked = record { Value = V; view = view; bytes = bytes; looked = looked }
