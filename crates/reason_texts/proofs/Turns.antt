-- A loop over items with a mark between them.
use Rattle.std.proofs.Common.{◌≡◌, ℕ, zero, suc, ◌-◌, ◌<◌, List, Some, None, Ok, Err, refl, arith}
use Rattle.occam_layout.specs.declared.mark.Mark as mark_type
use Rattle.occam_parser.specs.Terminals.{Terminal}
use Rattle.occam_parser.specs.Reading.{behind}
use Rattle.reason_texts.specs.declared.stuck.Stuck.{Stuck}
use Rattle.reason_texts.specs.Stuck.{Past}
use Rattle.reason_texts.specs.Expressions.{past_more}

-- no turns are left
pub more_none : (item : Past) (m : mark_type.Mark) (turns : ℕ) (ts : List Terminal) → turns ≡ 0
    → past_more item m turns ts ≡ Ok ts
unfolding past_more
more_none item m zero ts none = refl
more_none item m (suc n) ts none = absurd (omega (arith, none))

-- the mark does not come
pub more_ends : (item : Past) (m : mark_type.Mark) (turns : ℕ) (ts : List Terminal) → None ≡ behind m ts
    → past_more item m turns ts ≡ Ok ts
unfolding past_more
more_ends item m zero ts none = refl
more_ends item m (suc n) ts none = rw (← none) refl

-- the mark comes, and no item after it
pub more_fails : (item : Past) (m : mark_type.Mark) (turns : ℕ) (ts after : List Terminal) (s : Stuck) → 0 < turns
    → Some after ≡ behind m ts → Err s ≡ item after → past_more item m turns ts ≡ Err s
unfolding past_more
more_fails item m zero ts after s some comes fails = absurd (omega (arith, some))
more_fails item m (suc n) ts after s some comes fails = rw (← comes, ← fails) refl

-- the mark comes, and an item after it
pub more_step : (item : Past) (m : mark_type.Mark) (turns : ℕ) (ts after rest : List Terminal) → 0 < turns
    → Some after ≡ behind m ts → Ok rest ≡ item after
    → past_more item m turns ts ≡ past_more item m (turns - 1) rest
unfolding past_more
more_step item m zero ts after rest some comes goes_on = absurd (omega (arith, some))
more_step item m (suc n) ts after rest some comes goes_on =
    let less : suc n - 1 ≡ n = omega arith in
    rw (less, ← comes, ← goes_on) refl
