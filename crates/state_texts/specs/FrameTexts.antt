-- What is known of the words of a frame, as runs of words of which the same is known.
use Rattle.std.specs.Prelude.{ℕ, zero, suc, ◌+◌, ◌==◌, ◌&&◌, Bool, true, false, if◌then◌else◌}
use Rattle.std.specs.Prelude.{ℤ, pos, negsuc, ◌+ℤ◌, int_le}
use Rattle.std.specs.Prelude.{◌-ℤ◌, [], ◌∷◌, ◌++◌, codes, Option, Some, None}
use Rattle.module_format.specs.Rows.{Fact}
use Rattle.module_format.specs.Regions.{is_same_region}
use Rattle.module_format.specs.declared.fact.Fact.TheVariants.{Unknown, Number, Pointer, CodeAddress}
use Rattle.module_format.specs.declared.fact.Fact.TheVariants.{ReturnAddress}
use Rattle.module_format.specs.declared.fact.Region.{Region}
use Rattle.module_format.specs.declared.fact.Step.{Step}
use Rattle.module_format.specs.declared.fact.Step.TheVariants.{Byte, Word}
use Rattle.module_format.specs.declared.contexts.Context.{Context}
use Rattle.module_format.specs.Contexts.{context_at}
use Rattle.module_format.specs.Contents.{Contents}
use Rattle.states.specs.declared.known.Loop.{Loop as CountedLoop}
use Rattle.states.specs.declared.known.WordFact.{WordFact}
use Rattle.states.specs.declared.known.WordFact.TheVariants.{Alone, Index, Count}
use Rattle.states.specs.State.{State, Facts, is_silent}
use Rattle.states.specs.Below.{is_same_loop}
use Rattle.state_texts.specs.declared.frames.Run.{Run}
use Rattle.fact_texts.specs.Texts.{Text, is_one, range_text}
use Rattle.fact_texts.specs.FactTexts.{fact_text, loop_text}

-- ---- the same is known

abbrev pub is_same_step : Step → Step → Bool
is_same_step Byte Byte = true
is_same_step Word Word = true
is_same_step _ _ = false

-- the same range
abbrev pub is_same_range : ℤ → ℤ → ℤ → ℤ → Bool
is_same_range lo hi low high = is_one lo low && is_one hi high

abbrev pub is_same_place : Region → Region → Bool → Bool
is_same_place region other has_range = is_same_region region other && has_range

abbrev pub is_same_fact : Fact → Fact → Bool
is_same_fact Unknown Unknown = true
is_same_fact (Number lo hi) (Number low high) = is_same_range lo hi low high
is_same_fact (Pointer region lo hi step) (Pointer other low high stride) =
    is_same_place region other (is_same_range lo hi low high) && is_same_step step stride
is_same_fact (CodeAddress offset) (CodeAddress other) = offset == other
is_same_fact ReturnAddress ReturnAddress = true
is_same_fact _ _ = false

abbrev pub is_same_word : WordFact → WordFact → Bool
is_same_word (Alone fact) (Alone other) = is_same_fact fact other
is_same_word (Index loop) (Index other) = is_same_loop loop other
is_same_word (Count loop) (Count other) = is_same_loop loop other
is_same_word _ _ = false

-- ---- words

abbrev pub turns_text : CountedLoop → Text
turns_text loop = loop_text loop.base loop.count loop.weight

abbrev pub word_text : WordFact → Text
word_text (Alone fact) = fact_text fact
word_text (Index loop) = codes "index of a " ++ turns_text loop
word_text (Count loop) = codes "count of a " ++ turns_text loop

-- the words up to the one before `end`, and what is known of each
unfoldable pub words_text : Run → ℤ → Text
words_text run end =
    codes "word " ++ (range_text run.first (end -ℤ pos 1) ++ (codes ": " ++ word_text run.fact))

unfoldable pub words_after : Run → ℤ → Text
words_after run end = words_text run end ++ 10 ∷ []

unfoldable pub run_line : Run → ℤ → Text
run_line run end = codes "       " ++ words_after run end

-- the line of a run of words up to the one before `end`; none where nothing is known
abbrev pub run_text : Run → ℤ → Text
run_text run end = if is_silent run.fact then [] else run_line run end

-- a run that ends before a word of which this is known has its line
abbrev pub parted : Run → ℤ → WordFact → Text
parted run at next = if is_same_word run.fact next then [] else run_text run at

-- the run of a word of which this is known
abbrev pub run_after : Run → ℤ → WordFact → Run
run_after run at next = if is_same_word run.fact next then run else record { first = at; fact = next }

-- the runs from this one on, where `more` words follow from `at` on
abbrev pub runs_from : Facts → Run → ℤ → ℕ → Text
runs_from facts run at zero = run_text run at
runs_from facts run at (suc more) =
    parted run at (facts at) ++ runs_from facts (run_after run at (facts at)) (at +ℤ pos 1) more

abbrev pub runs_text : Facts → ℤ → ℕ → Text
runs_text facts first count = runs_from facts (record { first = first; fact = Alone Unknown }) first count

abbrev pub count : ℤ → ℕ
count (pos n) = n
count (negsuc n) = 0

-- how many numbers there are from lo up to hi, which is not included
unfoldable pub size_between : ℤ → ℤ → ℕ
size_between lo hi = count (hi -ℤ lo)

abbrev pub words_of : Facts → Option Context → Text
words_of facts None = []
words_of facts (Some context) =
    if int_le context.lo context.hi then runs_text facts context.lo (size_between context.lo context.hi) else []

-- what is known of the words of a state's frame
abbrev pub frame_text : Contents → State → Text
frame_text m s = words_of s.frame (context_at m s.context)
