-- The parameters that the branches of PAR rows name.
use Rattle.std.specs.Prelude.{◌≡◌, ℕ, ◌<◌, ◌||◌, ℤ, pos, Bool, false, List, length, get_or, Vec, Option, Some, None}
use Rattle.std.specs.Prelude.{slice_get}
use Rattle.std.specs.Global.{Global}
use Rattle.std.specs.List.{list_any}
use Rattle.std.specs.List.Sorted.{IsStrictlySortedBy}
use Rattle.std.specs.Ordering.{int_eq, int_cmp}
use Rattle.module_format.specs.declared.rows.EndKind.{EndKind}
use Rattle.module_format.specs.declared.rows.EndKind.TheVariants as ends
use Rattle.module_format.specs.declared.rows.EndRow.{EndRow}
use Rattle.module_format.specs.Contents.{Branch, Contents}

-- j is one of these numbers
abbrev pub is_one_of : List ℤ → ℤ → Bool
is_one_of numbers j = list_any (int_eq j) numbers

-- j is one of these numbers of parameters
abbrev pub is_parameter_of : List ℕ → ℤ → Bool
is_parameter_of parameters j = list_any (λ n. int_eq j (pos n)) parameters

-- the number of the parameter whose channel this is, if it is a parameter's
abbrev pub parameter_of : EndKind → Option ℤ
parameter_of (ends.Parameter number element) = Some number
parameter_of kind = None

-- the channel is one of parameter j
abbrev pub is_of_parameter : ℤ → EndKind → Bool
is_of_parameter j kind = elim (parameter_of kind) [ None ↦ false | Some number ↦ int_eq j number ]

-- one of these ends is that of a channel of parameter j
abbrev pub is_end_of : List EndRow → ℤ → Bool
is_end_of listed j = list_any (λ (e : EndRow). is_of_parameter j e.kind) listed

-- the branch names parameter j: it writes or reads what that names, or has an end of one of its channels
abbrev pub names_parameter : ℤ → Branch → Bool
names_parameter j b =
    is_parameter_of b.written_parameters j || is_parameter_of b.read_parameters j || is_end_of b.ends j

-- a branch of the PAR row of this number names parameter j
abbrev pub names_parameter_in : Contents → ℕ → ℤ → Bool
names_parameter_in c row j =
    elim (slice_get c.pars row) [ None ↦ false | Some par ↦ list_any (names_parameter j) par.branches ]

-- these are the parameters that the branches of the row name, each once, in rising order
pub record AreNamed (c : Contents) (row : ℕ) (numbers : List ℤ) : Type 0 where
  pub each : (j : ℤ) → is_one_of numbers j ≡ names_parameter_in c row j
  pub rise : IsStrictlySortedBy int_cmp numbers

-- these are those of the first `count` rows
pub record AreAllNamed (c : Contents) (count : ℕ) (named : List (Vec ℤ Global)) : Type 0 where
  pub many : length named ≡ count
  pub each : (row : ℕ) (d : Vec ℤ Global) → row < length named → AreNamed c row (get_or named row d).items
