-- Three registers as a stack: A is on top.
use Rattle.module_format.specs.declared.stack.Stack.{Stack}

-- the same in all three registers, as in an empty stack
abbrev pub of_empty : {T : Type 0} → T → Stack T
of_empty empty = record { a = empty; b = empty; c = empty }

abbrev pub pushed : {T : Type 0} → T → Stack T → Stack T
pushed value s = record { a = value; b = s.a; c = s.b }

abbrev pub popped : {T : Type 0} → T → Stack T → Stack T
popped empty s = record { a = s.b; b = s.c; c = empty }

abbrev pub reversed : {T : Type 0} → Stack T → Stack T
reversed s = record { a = s.b; b = s.a; c = s.c }

-- another value in A
abbrev pub with_top : {T : Type 0} → T → Stack T → Stack T
with_top value s = record s { a = value }

-- each value as this makes of it
abbrev pub mapped : {A B : Type 0} → (A → B) → Stack A → Stack B
mapped f s = record { a = f s.a; b = f s.b; c = f s.c }

-- register by register, the one is so related to the other
pub record AreRelated {A B : Type 0} (IsRelated : A → B → Type 0) (s : Stack A) (t : Stack B) : Type 0 where
  pub a : IsRelated s.a t.a
  pub b : IsRelated s.b t.b
  pub c : IsRelated s.c t.c
