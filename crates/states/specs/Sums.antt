-- The sums of spans of words of several sizes, each size counted from the first word of a frame on.
use Rattle.std.specs.Prelude.{◌≡◌, ℕ, ◌*◌, ℤ, pos, ◌+ℤ◌, List, get_or, Option, Some, None}
use Rattle.std.proofs.Props.{props}
use Rattle.states.specs.declared.span.Leaving.{Leaving}
use Rattle.states.specs.declared.span.Together.{Together}
use Rattle.states.specs.declared.sums.Layer.{Layer}
use Rattle.states.specs.declared.sums.Size.{Size}
use Rattle.states.specs.declared.sums.Size.TheVariants.{Group, Page, Zone}
use Rattle.states.specs.declared.sums.Sums.{Sums}
use Rattle.states.specs.State.{Facts}
use Rattle.states.specs.Blocks.{sum_left}
use Rattle.states.specs.Spans.{together}

-- how many words a span of a size has
abbrev pub words_of : Size → ℕ
words_of Group = 8
words_of Page = 512
words_of Zone = 4096

-- what is kept for the spans of a size
abbrev pub layer_of : Size → Sums → Layer
layer_of Group s = s.groups
layer_of Page s = s.pages
layer_of Zone s = s.zones

-- what is kept as the sum of the span of this number
abbrev pub sum_numbered : List (Option Together) → ℕ → Option Together
sum_numbered kept number = get_or kept number None

-- what is known together of the words of a span that was summed, once they are left so, where that follows
abbrev pub sum_after : Option Together → Leaving → Option Together
sum_after None leaving = None
sum_after (Some sum) leaving = sum_left (Some sum) leaving

-- what is kept as the sum of a span of `size` words is what is known of its words together
unfoldable pub AreSumsOf : Facts → ℤ → ℕ → List (Option Together) → Type 0
AreSumsOf facts lo size kept =
    (number : ℕ) (sum : Together) → sum_numbered kept number ≡ Some sum
    → sum ≡ together facts (lo +ℤ pos (number * size)) size

-- so it is of each size
unfoldable pub AreSums : Facts → ℤ → Sums → Type 0
AreSums facts lo s = (size : Size) → AreSumsOf facts lo (words_of size) (layer_of size s).kept.items

pub AreSums-prop : (facts : Facts) (lo : ℤ) (s : Sums) → IsProp (AreSums facts lo s)
unfolding AreSums AreSumsOf
AreSums-prop facts lo s = hlevel props
