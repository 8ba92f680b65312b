-- What a process holds: the places that it may write, those that it may only read, and the channel ends that it may
-- use.
use Rattle.std.specs.Prelude.{ℕ, ◌+◌, ◌≡◌, ◌==◌, ◌&&◌, ◌||◌, nat_le, nat_lt, Bool, true, false, List, []}
use Rattle.std.specs.List.{list_any}
use Rattle.module_format.specs.declared.rows.Direction.{Direction}
use Rattle.module_format.specs.declared.rows.Direction.TheVariants.{In, Out}
use Rattle.machine_state.specs.declared.holding.Span.{Span}
use Rattle.machine_state.specs.declared.holding.End.{End}

pub record Holding : Type 0 where
  pub writes : List Span
  pub reads : List Span
  pub ends : List End

abbrev pub nothing : Holding
nothing = record { writes = []; reads = []; ends = [] }

abbrev pub covers : Span → ℕ → Bool
covers span place = nat_le span.start place && nat_lt place span.end

abbrev pub may_write : Holding → ℕ → Bool
may_write h place = list_any (λ span. covers span place) h.writes

abbrev pub may_read : Holding → ℕ → Bool
may_read h place = may_write h place || list_any (λ span. covers span place) h.reads

-- the same of all four bytes of a word
unfoldable pub may_write_word : Holding → ℕ → Bool
may_write_word h place =
    may_write h place && may_write h (place + 1) && may_write h (place + 2) && may_write h (place + 3)

unfoldable pub may_read_word : Holding → ℕ → Bool
may_read_word h place =
    may_read h place && may_read h (place + 1) && may_read h (place + 2) && may_read h (place + 3)

abbrev pub same_direction : Direction → Direction → Bool
same_direction In In = true
same_direction Out Out = true
same_direction In Out = false
same_direction Out In = false

abbrev pub has_end : Holding → End → Bool
has_end h end = list_any (λ held. (held.address == end.address) && same_direction held.direction end.direction) h.ends

-- What one may write the other may not touch, and no end is held by both.
pub record IsApart (g h : Holding) : Type 0 where
  pub written : (place : ℕ) → may_write g place ≡ true → may_read h place ≡ true → ⊥
  pub read : (place : ℕ) → may_read g place ≡ true → may_write h place ≡ true → ⊥
  pub ends : (end : End) → has_end g end ≡ true → has_end h end ≡ true → ⊥
