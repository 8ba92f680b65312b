use Rattle.std.proofs.Common.{◌≡◌, ◌-◌, ◌∷◌, false, Ok, sym, ◌∙◌, arith}
use Rattle.occam_layout.specs.Reading.{begins_comment}
use Rattle.reason_texts.specs.Tokens.{token_len, bad_token}
use Rattle.reason_texts.proofs.BadTokens.{bad-passed, bad-space, bad-others}
use Rattle.reason_texts.proofs.tokens.bad_token.Goals as goal
use Rattle.reason_texts.proofs.tokens.bad_token.Goals.{then-passed-gt0}
use Rattle.reason_texts.proofs.tokens.bad_token.Goals.{else-passed-gt0+then-first-ne32+else-starts_with+in-Ok}
use Rattle.reason_texts.proofs.tokens.bad_token.Goals.{else-passed-gt0+else-first-ne32}

pub loop-first-preserved : goal.loop-first-preserved
loop-first-preserved c =
    let split = c.in-Some.ensures.cases in
    let so_far : bad_token c.loop-first.passed c.loop-first.at (c.in-Some.first.now ∷ c.in-Some.others.now)
    ≡ bad_token 0 c.args.column c.args.line.now = rw split.0 at c.loop-first.invariant.1 in (
      omega (arith, split.1, c.loop-first.invariant.0),
      elim c.if-passed-gt0.branch [
        | then-passed-gt0 w ↦ rw w.passed-is (sym (bad-passed c.loop-first.passed c.loop-first.at c.in-Some.first.now
            c.in-Some.others.now w.if-passed-gt0.true) ∙ so_far)
        | else-passed-gt0+then-first-ne32+else-starts_with+in-Ok w ↦
            (let found : Ok w.in-Ok.len ≡ token_len (c.in-Some.first.now ∷ c.in-Some.others.now) =
            rw split.0 at w.in-Ok.ensures.found in
            let next : c.if-passed-gt0.passed ≡ w.in-Ok.len - 1 =
            omega (arith, w.passed-is, w.saturating_sub-passed.ensures) in
            let none : c.loop-first.passed ≡ 0 = omega (arith, w.if-passed-gt0.false) in
            let counts : begins_comment (c.in-Some.first.now ∷ c.in-Some.others.now) ≡ false =
            rw split.0 at (sym w.starts_with.ensures.value ∙ w.if-starts_with.false) in
            sym (bad-others c.loop-first.passed c.if-passed-gt0.passed c.loop-first.at c.in-Some.first.now w.in-Ok.len
            c.in-Some.others.now none w.if-first-ne32.true
            counts found next) ∙ so_far)
        | else-passed-gt0+else-first-ne32 w ↦
            (let none : c.loop-first.passed ≡ 0 = omega (arith, w.if-passed-gt0.false) in
            rw w.passed-is (sym (bad-space c.loop-first.passed c.loop-first.at c.in-Some.first.now c.in-Some.others.now
            none w.if-first-ne32.false) ∙ so_far))
      ],
    )
