-- What guards wait for, and their names, are compared by tests that hold of equals alone.
use Rattle.std.specs.Prelude.{◌≡◌, ℕ, ℤ, true, false, List, Some, slice_get}
use Rattle.std.specs.List.{list_any}
use Rattle.module_format.specs.declared.rows.EndKind.{EndKind}
use Rattle.states.specs.declared.known.Guard.{Guard}
use Rattle.states.specs.declared.known.GuardKind.TheVariants.{Channel}
use Rattle.states.specs.declared.known.GuardName.TheVariants.{Word}
use Rattle.states.specs.declared.known.GuardKind.{GuardKind}
use Rattle.states.specs.declared.known.GuardName.{GuardName}
use Rattle.alternation_rules.specs.Guards.{is_same_kind, is_same_name, is_new, is_named_by}

-- The tests distinguish equals from all others. So a new channel is that of no guard in the list, and if no guard
-- passes the test of a word, none is named by it.
pub record TestsCompare : Type 0 where
  pub kinds : (kind other : GuardKind) → is_same_kind kind other ≡ true → kind ≡ other
  pub kind_itself : (kind : GuardKind) → is_same_kind kind kind ≡ true
  pub names : (name other : GuardName) → is_same_name name other ≡ true → name ≡ other
  pub name_itself : (name : GuardName) → is_same_name name name ≡ true
  pub other_channels : (kind : EndKind) (guards : List Guard) → is_new (Channel kind) guards ≡ true
      → (i : ℕ) (g : Guard) → slice_get guards i ≡ Some g → g.kind ≡ Channel kind → ⊥
  pub other_words : (word : ℤ) (guards : List Guard) → list_any (is_named_by word) guards ≡ false
      → (i : ℕ) (g : Guard) → slice_get guards i ≡ Some g → g.name ≡ Word word → ⊥
