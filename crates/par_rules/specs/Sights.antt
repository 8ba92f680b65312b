-- What the code compares labels with, as what is known of words.
use Rattle.std.specs.Prelude.{⊤, ℕ, ◌==◌, ◌&&◌, ◌||◌, ℤ, Bool, true}
use Rattle.module_format.specs.declared.fact.Fact.TheVariants.{Unknown}
use Rattle.module_format.specs.Contents.{Label}
use Rattle.module_format.specs.Order.{InOrder, least_word}
use Rattle.module_format.specs.Pars.{IntervalKeeps, behind_interval}
use Rattle.certificate.specs.Rights.{is_among}
use Rattle.states.specs.declared.known.WordFact.{WordFact}
use Rattle.states.specs.State.{Facts, is_same_number}
use Rattle.states.specs.Below.{says, implies}
use Rattle.states.specs.Views.{state_of}
use Rattle.par_rules.specs.declared.sights.Sight.{Sight}
use Rattle.par_rules.specs.declared.sights.Sight.TheVariants.{AtBranch, InState}
use Rattle.par_rules.specs.declared.sights.Asked.{Asked}
use Rattle.par_rules.specs.declared.sights.Asked.TheVariants.{Implied, Left, Kept}
use Rattle.par_rules.specs.Comparisons.{branch_facts, is_kept}

-- what is known there of words
abbrev pub facts_in : Sight → Facts
facts_in (AtBranch m state context workspace) = branch_facts m.now context workspace (state_of state.now).frame
facts_in (InState state) = (state_of state.now).frame

-- what is asked of a word, of which the label wants this
abbrev pub passes : Asked → ℤ → WordFact → Bool
passes (Implied sight) = λ k wanted. says (facts_in sight k) wanted
passes (Left written state) = λ k wanted. is_among written.now k || says ((state_of state.now).frame k) wanted
passes (Kept m state) = is_kept m.now (state_of state.now).context (state_of state.now).frame

-- the intervals rise in which words are sought
abbrev pub IsOrdered : Asked → Type 0
IsOrdered (Left written state) = InOrder IntervalKeeps behind_interval least_word written.now
IsOrdered asked = ⊤

-- the label is where a branch begins that is this context, and says nothing of the registers, as `stands` says of the
-- branch's view
abbrev pub begins_there : ℕ → ℤ → Label → Bool
begins_there context workspace t =
    (context == t.context) && is_same_number workspace t.depth && true && implies Unknown t.stack.a
    && implies Unknown t.stack.b && implies Unknown t.stack.c
