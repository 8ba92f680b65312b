-- Blocks of words: as many words each, counted from the first word of a frame on, and what is kept for them.
use Rattle.std.specs.Prelude.{◌≡◌, ◌≤◌, ℕ, ◌*◌, ◌/◌, ℤ, pos, negsuc, ◌+ℤ◌, ◌-ℤ◌, List, get_or, Option, Bool}
use Rattle.std.specs.Prelude.{true, false, ◌&&◌, if◌then◌else◌}
use Rattle.std.specs.Prelude.{Some, None}
use Rattle.std.specs.Int.{int_min, int_max}
use Rattle.std.proofs.Props.{props}
use Rattle.states.specs.declared.blocks.Block.{Block}
use Rattle.states.specs.declared.span.Together.{Together}
use Rattle.states.specs.declared.span.Leaving.{Leaving}
use Rattle.states.specs.declared.span.Leaving.TheVariants.{Become, Widen}
use Rattle.states.specs.declared.known.WordFact.{WordFact}
use Rattle.states.specs.declared.known.WordFact.TheVariants.{Alone}
use Rattle.module_format.specs.Rows.{Fact}
use Rattle.module_format.specs.declared.fact.Fact.TheVariants.{Number}
use Rattle.module_format.specs.Order.{least_word, greatest_word}
use Rattle.states.specs.State.{Facts, by_itself, is_same_number}
use Rattle.states.specs.Spans.{of_none, with_one, together, widened, left_of}

-- how many words a block has
unfoldable pub block_words : ℕ
block_words = 64

-- nothing is kept for a block
abbrev pub no_block : Block
no_block = record { sum = None; left = None }

-- what is kept for the block of this number
abbrev pub block_numbered : List Block → ℕ → Block
block_numbered blocks number = get_or blocks number no_block

-- the first word of a block, where the frame begins at word `lo`
abbrev pub first_of : ℤ → ℕ → ℤ
first_of lo number = lo +ℤ pos (number * block_words)

-- this number of words holds this number of blocks
unfoldable pub HaveRoom : ℕ → ℕ → Type 0
HaveRoom words blocks = blocks * block_words ≤ words

pub HaveRoom-prop : (words blocks : ℕ) → IsProp (HaveRoom words blocks)
unfolding HaveRoom
HaveRoom-prop words blocks = hlevel props

-- what is kept of a block as its sum is what is known of its words together
unfoldable pub AreSummed : Facts → ℤ → List Block → Type 0
AreSummed facts lo blocks =
    (number : ℕ) (sum : Together) → (block_numbered blocks number).sum ≡ Some sum
    → sum ≡ together facts (first_of lo number) block_words

pub AreSummed-prop : (facts : Facts) (lo : ℤ) (blocks : List Block) → IsProp (AreSummed facts lo blocks)
unfolding AreSummed
AreSummed-prop facts lo blocks = hlevel props

-- ---- blocks whose words are left in some way

-- what is known of a word once it was left so, if it was
abbrev pub fact_left_by : Option Leaving → WordFact → WordFact
fact_left_by None said = said
fact_left_by (Some leaving) said = Alone (left_of leaving (by_itself said))

-- what is left of a fact once it was left so, if it was
abbrev pub left_fact : Option Leaving → Fact → Fact
left_fact None said = said
left_fact (Some leaving) said = left_of leaving said

-- two ways of leaving, the second after the first, if there was a first
abbrev pub left_after : Option Leaving → Leaving → Leaving
left_after (Some (Become said)) (Widen lo hi) = Become (widened lo hi said)
left_after (Some (Widen low high)) (Widen lo hi) = Widen (int_min low lo) (int_max high hi)
left_after before leaving = leaving

-- it is a number
abbrev pub is_number : Fact → Bool
is_number (Number lo hi) = true
is_number _ = false

-- no number may be among words of which this is known together: its bounds are those of none
abbrev pub is_unbounded : Together → Bool
is_unbounded t = is_same_number t.lo greatest_word && is_same_number t.hi least_word

-- what is known together of a block's words once they are left so, where that follows from what was
abbrev pub sum_left : Option Together → Leaving → Option Together
sum_left sum (Become fact) = Some (with_one (Alone fact) of_none)
sum_left None (Widen lo hi) = None
sum_left (Some t) (Widen lo hi) =
    if is_unbounded t then None
    else Some (record t { lo = int_min t.lo lo; hi = int_max t.hi hi; are_alone = true })

-- how the word of an index was left, if it was
abbrev pub leaving_at : List Block → ℤ → Option Leaving
leaving_at blocks (pos index) = (block_numbered blocks (index / block_words)).left
leaving_at blocks (negsuc n) = None

-- it only widens what was known
abbrev pub is_widening : Leaving → Bool
is_widening (Become fact) = false
is_widening (Widen lo hi) = true

-- what is known once the words of blocks were left
unfoldable pub facts_left : ℤ → List Block → Facts → Facts
facts_left lo blocks facts = λ k. fact_left_by (leaving_at blocks (k -ℤ lo)) (facts k)
