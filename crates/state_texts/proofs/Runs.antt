-- The runs of words, one word after another.
use Rattle.std.proofs.Common.{◌≡◌, ◌∙◌, ℕ, zero, suc, ℤ, pos, negsuc, ◌+ℤ◌, ◌-ℤ◌}
use Rattle.std.proofs.Common.{◌≤ℤ◌, ◌<ℤ◌, ◌++◌, refl, sym, ap, subst}
use Rattle.std.proofs.Common.{append_assoc, arith}
use Rattle.std.proofs.lemmas.Int.{ints}
use Rattle.states.specs.declared.known.WordFact.{WordFact}
use Rattle.states.specs.State.{Facts}
use Rattle.fact_texts.specs.Texts.{Text}
use Rattle.state_texts.specs.declared.frames.Run.{Run}
use Rattle.state_texts.specs.FrameTexts.{count, size_between, parted, run_after, run_text, runs_from, runs_text}

count_step : (d e : ℤ) → pos 0 <ℤ d → e ≡ d -ℤ pos 1 → count d ≡ suc (count e)
count_step (pos zero) e low is = absurd (omega (arith, ints))
count_step (pos (suc n)) e low is = let same : e ≡ pos n = omega (arith, ints) in rw same refl
count_step (negsuc n) e low is = absurd (omega (arith, ints))

-- a word less
pub one_less : (at after hi end : ℤ) → at <ℤ hi → after ≡ at +ℤ pos 1 → end ≡ hi
    → size_between at hi ≡ suc (size_between after end)
unfolding size_between
one_less at after hi end low after_is end_is =
    count_step (hi -ℤ at) (end -ℤ after) (omega (arith, ints)) (omega (arith, ints))

count_none : (d : ℤ) → d ≤ℤ pos 0 → count d ≡ 0
count_none (pos zero) low = refl
count_none (pos (suc n)) low = absurd (omega (arith, ints))
count_none (negsuc n) low = refl

pub none_between : (at hi : ℤ) → hi ≤ℤ at → size_between at hi ≡ 0
unfolding size_between
none_between at hi low = count_none (hi -ℤ at) (omega (arith, ints))

-- the run of one word more
pub one_more : (facts : Facts) (run after : Run) (place at : ℤ) (n more : ℕ) (old new all : Text) (next : WordFact)
    → old ++ runs_from facts run place n ≡ all → next ≡ facts place → after ≡ run_after run place next
    → new ≡ old ++ parted run place next → n ≡ suc more → at ≡ place +ℤ pos 1
    → new ++ runs_from facts after at more ≡ all
one_more facts run after place at n more old new all next h next_is after_is new_is n_is at_is =
    ap (λ (t : Text). t ++ runs_from facts after at more) new_is
    ∙ ap (λ (r : Run). (old ++ parted run place next) ++ runs_from facts r at more) after_is
    ∙ ap (λ (z : ℤ). (old ++ parted run place next) ++ runs_from facts (run_after run place next) z more) at_is
    ∙ ap (λ (w : WordFact). (old ++ parted run place w)
    ++ runs_from facts (run_after run place w) (place +ℤ pos 1) more) next_is
    ∙ append_assoc old (parted run place (facts place))
    (runs_from facts (run_after run place (facts place)) (place +ℤ pos 1) more)
    ∙ ap (λ (k : ℕ). old ++ runs_from facts run place k) (sym n_is) ∙ h

pub same_size : (low lo high hi : ℤ) → low ≡ lo → high ≡ hi → size_between low high ≡ size_between lo hi
same_size low lo high hi low_is high_is =
    ap (λ (z : ℤ). size_between z high) low_is ∙ ap (λ (z : ℤ). size_between lo z) high_is

-- the last run
pub last_run : (facts : Facts) (run : Run) (place hi low lo : ℤ) (n whole size : ℕ) (old new first : Text)
    → old ++ runs_from facts run place n ≡ first ++ runs_text facts low whole → new ≡ old ++ run_text run hi
    → n ≡ 0 → place ≡ hi → low ≡ lo → whole ≡ size → new ≡ first ++ runs_text facts lo size
last_run facts run place hi low lo n whole size old new first h new_is n_is at_is low_is whole_is =
    new_is ∙ ap (λ (z : ℤ). old ++ run_text run z) (sym at_is)
    ∙ ap (λ (k : ℕ). old ++ runs_from facts run place k) (sym n_is) ∙ h
    ∙ ap (λ (z : ℤ). first ++ runs_text facts z whole) low_is
    ∙ ap (λ (k : ℕ). first ++ runs_text facts lo k) whole_is
