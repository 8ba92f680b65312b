-- Sets of places as spans, and what is taken from a holding.
use Rattle.std.specs.Prelude.{ℕ, zero, suc, ◌+◌, ◌==◌, ◌&&◌, ◌||◌, not, Bool, true}
use Rattle.std.specs.Prelude.{if◌then◌else◌, ℤ, pos, ◌+ℤ◌, int_le, nat_abs, List, [], ◌∷◌, filter}
use Rattle.std.specs.List.{list_any}
use Rattle.machine_state.specs.declared.holding.Span.{Span}
use Rattle.machine_state.specs.declared.holding.End.{End}
use Rattle.machine_state.specs.Holding.{Holding, may_write, may_read, same_direction}

-- ---- spans in normal form: rising, with a gap between any two

-- one place in front of spans after it
abbrev pub with_place : ℕ → List Span → List Span
with_place place [] = record { start = place; end = place + 1 } ∷ []
with_place place (span ∷ spans) =
    if span.start == place + 1
    then record { start = place; end = span.end } ∷ spans
    else record { start = place; end = place + 1 } ∷ span ∷ spans

-- of n places from this one on, those that pass a test
unfoldable pub runs : (ℕ → Bool) → ℕ → ℕ → List Span
runs test place zero = []
runs test place (suc n) =
    if test place then with_place place (runs test (place + 1) n) else runs test (place + 1) n

-- ---- what a branch is given

-- places from one up to another, which need not lie in memory
pub record Stretch : Type 0 where
  pub start : ℤ
  pub size : ℕ

-- of a memory of n places
abbrev pub lies_in : ℕ → Stretch → Bool
lies_in n s = int_le (pos 0) s.start && int_le (s.start +ℤ pos s.size) (pos n)

abbrev pub stretches_over : Stretch → ℕ → Bool
stretches_over s place = int_le s.start (pos place) && int_le (pos (place + 1)) (s.start +ℤ pos s.size)

-- the bytes to write, those only to read, and the ends
pub record Share : Type 0 where
  pub writes : List Stretch
  pub reads : List Stretch
  pub ends : List End

abbrev pub writes_place : Share → ℕ → Bool
writes_place share place = list_any (λ s. stretches_over s place) share.writes

abbrev pub reads_place : Share → ℕ → Bool
reads_place share place = list_any (λ s. stretches_over s place) share.reads

abbrev pub is_same_end : End → End → Bool
is_same_end a b = (a.address == b.address) && same_direction a.direction b.direction

abbrev pub is_among_ends : List End → End → Bool
is_among_ends ends end = list_any (is_same_end end) ends

-- no end occurs twice
abbrev pub differ : List End → Bool
differ [] = true
differ (end ∷ ends) = not (is_among_ends ends end) && differ ends

-- n places from this one on pass a test
unfoldable pub all_places : (ℕ → Bool) → ℕ → ℕ → Bool
all_places test place zero = true
all_places test place (suc n) = test place && all_places test (place + 1) n

-- each place of a stretch lies in a memory of n places, and passes a test
abbrev pub all_pass_within : ℕ → (ℕ → Bool) → Stretch → Bool
all_pass_within n test s = lies_in n s && all_places test (nat_abs s.start) s.size

-- what is left of a holding
unfoldable pub less : ℕ → Holding → Share → Holding
less n h share = record {
  writes = runs (λ place. may_write h place && not (writes_place share place) && not (reads_place share place)) 0 n;
  reads = runs (λ place. may_read h place && not (writes_place share place)
      && (not (may_write h place) || reads_place share place)) 0 n;
  ends = filter (λ end. not (is_among_ends share.ends end)) h.ends;
}
