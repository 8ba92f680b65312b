-- What is one level down.
use Rattle.std.proofs.Common.{◌≡◌, ℕ, zero, suc, ◌-◌, ◌<◌, List, refl, arith}
use Rattle.occam_layout.specs.declared.mark.Mark as mark_type
use Rattle.occam_parser.specs.Terminals.{Terminal}
use Rattle.reason_texts.specs.declared.stuck.Lack.TheVariants.{Nesting}
use Rattle.reason_texts.specs.Stuck.{lacking, ◌then◌, past_mark}
use Rattle.reason_texts.specs.Expressions.{past_inner, past_within, past_operand, past_expression}

pub inner_none : (levels : ℕ) (close : mark_type.Mark) (ts : List Terminal) → levels ≡ 0
    → past_inner levels close ts ≡ lacking Nesting ts
unfolding past_inner
inner_none zero close ts none = refl
inner_none (suc n) close ts none = absurd (omega (arith, none))

pub inner_below : (levels : ℕ) (close : mark_type.Mark) (ts : List Terminal) → 0 < levels
    → past_inner levels close ts ≡ (past_expression (levels - 1) ts then past_mark close)
unfolding past_inner past_expression past_operand
inner_below zero close ts some = absurd (omega (arith, some))
inner_below (suc n) close ts some = let less : suc n - 1 ≡ n = omega arith in rw less refl

pub within_none : (levels : ℕ) (ts : List Terminal) → levels ≡ 0 → past_within levels ts ≡ lacking Nesting ts
unfolding past_within
within_none zero ts none = refl
within_none (suc n) ts none = absurd (omega (arith, none))

pub within_below : (levels : ℕ) (ts : List Terminal) → 0 < levels → past_within levels ts ≡ past_operand (levels - 1) ts
unfolding past_within past_operand
within_below zero ts some = absurd (omega (arith, some))
within_below (suc n) ts some = let less : suc n - 1 ≡ n = omega arith in rw less refl
