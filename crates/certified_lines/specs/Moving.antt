-- What is known after bytes are moved from one place to another.
use Rattle.std.specs.Prelude.{◌≡◌, ◌&&◌, ℤ, pos, ◌+ℤ◌, true, false, Ok}
use Rattle.module_format.specs.Stack.{of_empty}
use Rattle.states.specs.State.{unknown, is_same_number}
use Rattle.rulings.specs.declared.pointers.Pointed.{Pointed}
use Rattle.rulings.specs.Pointers.{constant_of, exact_pointer, takes_any}
use Rattle.rulings.specs.Filling.{are_numbers, filled}
use Rattle.local_rules.specs.MoveRules.{is_movable, may_come}
use Rattle.code_pieces.specs.declared.operations.TheConstants.{MOVE}
use Rattle.code_pieces.specs.Pieces.{operates}
use Rattle.certified_lines.specs.StraightRules.{Setting, Told}
use Rattle.certified_lines.specs.Instructions.{PieceFalls}
use Rattle.certified_lines.specs.Addresses.{told_state, MayReadBytes, MayWriteBytes}

-- A bytes, at least one, go from where C points to where B points, and both lead to one byte alone.
pub record MayMove (g : Setting) (s : Told) (count : ℤ) (to from : Pointed) : Type 0 where
  pub counts : constant_of s.stack.a.fact ≡ Ok count
  pub comes_to : exact_pointer s.stack.b.fact ≡ Ok to
  pub comes_from : exact_pointer s.stack.c.fact ≡ Ok from
  pub some : is_same_number count (pos 0) ≡ false
  pub fits : (is_movable count && takes_any g.contents g.context s.stack.b.fact) ≡ true
  pub reads : MayReadBytes g from.region from.lo (from.hi +ℤ count)
  pub writes : MayWriteBytes g to.region to.lo (to.hi +ℤ count)
  pub apart : may_come count from to (are_numbers (told_state g s) from count) ≡ true

-- nothing is known of registers, and of words what is left where bytes of numbers come, or others
abbrev pub moved : Setting → Told → ℤ → Pointed → Pointed → Told
moved g s count to from = record {
  stack = of_empty unknown;
  frame =
      (filled (are_numbers (told_state g s) from count) to (to.hi +ℤ count) (told_state g s)).frame;
}

abbrev pub MovedBytesAreKnown : Type 0
MovedBytesAreKnown = (g : Setting) (count : ℤ) (to from : Pointed) (s : Told) → MayMove g s count to from
    → PieceFalls g (operates MOVE) s (moved g s count to from)
