-- When a state is at least as strong as a label's state: it knows at least as much, and can pay.
use Rattle.std.specs.Prelude.{ℕ, zero, suc, ◌+◌, ◌-◌, ◌*◌, ℤ, pos, ◌+ℤ◌, int_le, nat_lt, ◌==◌, ◌&&◌, Bool, true, false}
use Rattle.std.specs.Prelude.{not, if◌then◌else◌, List, sum_by, Result, Ok, Err, Some, None}
use Rattle.std.specs.List.{list_all}
use Rattle.module_format.specs.Rows.{Fact}
use Rattle.module_format.specs.declared.fact.Fact.TheVariants.{Unknown, Number, Pointer, CodeAddress, Loop}
use Rattle.module_format.specs.declared.fact.Fact.TheVariants.{ReturnAddress}
use Rattle.module_format.specs.declared.fact.Step.{Step}
use Rattle.module_format.specs.declared.fact.Step.TheVariants.{Byte, Word}
use Rattle.module_format.specs.Rows.{Entry}
use Rattle.module_format.specs.Regions.{is_same_region}
use Rattle.module_format.specs.declared.stack.Stack.{Stack}
use Rattle.module_format.specs.Stack.{mapped}
use Rattle.module_format.specs.Contents.{Contents, Label, label_at}
use Rattle.states.specs.declared.rule.Rule.{Rule}
use Rattle.states.specs.declared.rule.Rule.TheVariants as rules
use Rattle.states.specs.declared.known.Loop.{Loop as CountedLoop}
use Rattle.states.specs.declared.known.WordFact.{WordFact}
use Rattle.states.specs.declared.known.WordFact.TheVariants.{Alone, Index, Count}
use Rattle.states.specs.declared.known.Mode.{Mode}
use Rattle.states.specs.declared.known.Mode.TheVariants.{Plain, Enabling, Disabling, Starting}
use Rattle.states.specs.State.{State, Facts, by_itself, is_alone, is_same_number, said_of}

-- ---- facts

-- the range from lo to hi lies within the other
abbrev pub lies_within : ℤ → ℤ → ℤ → ℤ → Bool
lies_within lo hi low high = int_le low lo && int_le hi high

-- what is a multiple of four is any offset too
abbrev pub step_implies : Step → Step → Bool
step_implies step Byte = true
step_implies Word Word = true
step_implies Byte Word = false

-- the first fact says at least what the second says
abbrev pub implies : Fact → Fact → Bool
implies fact Unknown = true
implies (Number lo hi) (Number low high) = lies_within lo hi low high
implies (Pointer region lo hi step) (Pointer other low high stride) =
    is_same_region region other && lies_within lo hi low high && step_implies step stride
implies (CodeAddress offset) (CodeAddress other) = offset == other
implies ReturnAddress ReturnAddress = true
implies _ _ = false

-- it is a number that is exactly this one
abbrev pub is_exactly : Fact → ℤ → Bool
is_exactly (Number lo hi) number = is_same_number lo number && is_same_number hi number
is_exactly _ number = false

-- two loops are the same
abbrev pub is_same_loop : CountedLoop → CountedLoop → Bool
is_same_loop loop other = is_same_number loop.base other.base && (loop.count == other.count)
    && (loop.weight == other.weight)

-- What is known of a word says at least what is wanted. A number that is the base implies the index, and one that is
-- the
-- number of turns the count: so a loop is entered.
abbrev pub says : WordFact → WordFact → Bool
says fact (Alone wanted) = implies (by_itself fact) wanted
says (Alone fact) (Index loop) = is_exactly fact loop.base
says (Alone fact) (Count loop) = is_exactly fact (pos loop.count)
says (Index loop) (Index other) = is_same_loop loop other
says (Count loop) (Count other) = is_same_loop loop other
says _ _ = false

-- ---- entries

-- the first `n` words of an entry say at least what the entry says
abbrev pub words_say : Facts → Entry → ℕ → Bool
words_say facts entry zero = true
words_say facts entry (suc more) =
    says (facts (entry.word +ℤ pos more)) (said_of entry.fact (more == 0)) && words_say facts entry more

abbrev pub entries_hold : Facts → List Entry → Bool
entries_hold facts entries = list_all (λ entry. words_say facts entry entry.span) entries

-- both or neither
abbrev pub are_alike : Bool → Bool → Bool
are_alike true b = b
are_alike false b = not b

-- both words of a loop come from that loop, or neither does
abbrev pub is_whole : Facts → Entry → Bool
is_whole facts entry = elim entry.fact [
  | Loop base count weight ↦ are_alike (is_alone (facts entry.word)) (is_alone (facts (entry.word +ℤ pos 1)))
  | _ ↦ true
]

-- ---- the price

-- the word has this number, which is no loop's
abbrev pub holds_constant : WordFact → ℤ → Bool
holds_constant (Alone fact) number = is_exactly fact number
holds_constant _ number = false

-- what it costs to enter a loop: its weight for each turn but the first
abbrev pub price : Facts → Entry → ℕ
price facts entry = elim entry.fact [
  | Loop base count weight ↦
      if holds_constant (facts entry.word) base
      && holds_constant (facts (entry.word +ℤ pos 1)) (pos count) then weight * (count - 1) else 0
  | _ ↦ 0
]

-- ---- what is compared with a label

-- Where a process would go on, and what is known there.
pub record View : Type 0 where
  pub context : ℕ
  pub depth : ℤ
  pub stack : Stack Fact
  pub frame : Facts
  pub is_settled : Bool  -- it is in the middle of nothing

-- the label's number, and the loops that are entered
abbrev pub cost : View → Label → ℕ
cost v t = t.number + sum_by (price v.frame) t.entries

-- it is where the label is, and knows at least as much
abbrev pub agrees : View → Label → Bool
agrees v t =
    (v.context == t.context) && is_same_number v.depth t.depth && v.is_settled
    && implies v.stack.a t.stack.a && implies v.stack.b t.stack.b && implies v.stack.c t.stack.c
    && entries_hold v.frame t.entries && list_all (is_whole v.frame) t.entries

-- What it costs to go on as the label with this number to pay from, or the rule that is broken: the number does not
-- cover the cost, or less is known than the label says. The number has no bound.
abbrev pub compared : ℕ → View → Label → Result ℕ Rule
compared number v t =
    if nat_lt number (cost v t) then Err rules.Budget
    else if agrees v t then Ok (cost v t)
    else Err rules.Label

-- ---- states

abbrev pub is_plain : Mode → Bool
is_plain Plain = true
is_plain Enabling = false
is_plain (Disabling done) = false
is_plain (Starting row started) = false

-- a state, as it is compared
abbrev pub view : State → View
view s = record {
  context = s.context;
  depth = s.depth;
  stack = mapped (λ known. known.fact) s.stack;
  frame = s.frame;
  is_settled = is_plain s.mode;
}

-- what going on as the label costs, or the rule that is broken: the state cannot pay, or it knows less
unfoldable pub below : State → Label → Result ℕ Rule
below s t = compared s.number (view s) t

-- what going on as the label at an offset costs, or the rule that is broken: there is none, or as above
abbrev pub below_at : Contents → ℕ → State → Result ℕ Rule
below_at m to s = elim (label_at m to) [ None ↦ Err rules.Label | Some t ↦ below s t ]
