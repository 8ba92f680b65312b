-- Names with the innermost declaration first, and which of them each declaration hides.
use Rattle.std.specs.Prelude.{ℕ, List, [], ◌∷◌, map, reverse, length, bytes_eq, if◌then◌else◌, Option, Some, None}
use Rattle.std.specs.Prelude.{slice_index_or}
use Rattle.std.specs.Borrow.{Bor}
use Rattle.std.specs.BTreeMap.{BTreeMap, get_by}
use Rattle.std.specs.Cmp.Lexicographic.{slice_cmp}
use Rattle.std.specs.Ordering.{nat_cmp}
use Rattle.scalar_ranges.specs.declared.names.Row.{Row}

-- the number of the innermost declaration of a name, counted from the outermost one
abbrev pub number_of : List ℕ → List (List ℕ) → Option ℕ
number_of name [] = None
number_of name (n ∷ ns) = if bytes_eq n name then Some (length ns) else number_of name ns

-- for each declaration the number of the one that it hides
abbrev pub hidden_by : List (List ℕ) → List (Option ℕ)
hidden_by [] = []
hidden_by (n ∷ ns) = number_of n ns ∷ hidden_by ns

abbrev pub without_first : {A : Type 0} → List A → List A
without_first [] = []
without_first (x ∷ xs) = xs

-- the innermost one first, where the program has it last
abbrev pub names_from : List Row → List (List ℕ)
names_from rows = reverse (map (λ r. r.name.now) rows)

abbrev pub hides_from : List Row → List (Option ℕ)
hides_from rows = reverse (map (λ r. r.hides) rows)

abbrev pub spellings_from : List Row → List ℕ
spellings_from rows = reverse (map (λ r. r.spelling) rows)

-- the number of a spelling, if it has one
abbrev pub spelling_of : List ℕ → BTreeMap (Bor (List ℕ)) ℕ → Option ℕ
spelling_of name spellings = get_by (λ k. slice_cmp nat_cmp name k.now) spellings

-- what a list has of the spelling with this number
abbrev pub innermost_of : Option ℕ → List (Option ℕ) → Option ℕ
innermost_of None innermost = None
innermost_of (Some number) innermost = slice_index_or innermost number None
