-- What the labels of a PAR are compared with: at the start of a branch the label at its first byte, at the first start
-- the one after the PAR, and the latter again where a branch ends.
use Rattle.std.specs.Prelude.{ℕ, zero, suc, ◌+◌, ◌==◌, ◌&&◌, ◌||◌, not, Bool, true, if◌then◌else◌, ℤ, pos}
use Rattle.std.specs.Prelude.{◌+ℤ◌, sum_by, Option, Some, None}
use Rattle.std.specs.List.{list_any, list_all}
use Rattle.module_format.specs.Rows.{Entry}
use Rattle.module_format.specs.declared.fact.Fact.TheVariants.{Unknown}
use Rattle.module_format.specs.Stack.{of_empty}
use Rattle.module_format.specs.Contents.{Contents, Par, Branch, Label}
use Rattle.certificate.specs.Rights.{may_write_word}
use Rattle.certificate.specs.Starting.{is_read_beside_scheduling, is_written, says_of_hidden}
use Rattle.states.specs.declared.known.WordFact.{WordFact}
use Rattle.states.specs.declared.known.WordFact.TheVariants.{Alone}
use Rattle.states.specs.State.{State, Facts, plain, is_same_number, is_alone, is_silent, said_of}
use Rattle.states.specs.Below.{View, says, price, is_whole}

-- ---- words of a label, by a test

-- this number of words of an entry pass a test, each with what the entry says of it
abbrev pub words_pass : (ℤ → WordFact → Bool) → Entry → ℕ → Bool
words_pass test entry zero = true
words_pass test entry (suc more) =
    test (entry.word +ℤ pos more) (said_of entry.fact (more == 0)) && words_pass test entry more

-- so do all words of which a label says something
abbrev pub label_passes : (ℤ → WordFact → Bool) → Label → Bool
label_passes test t = list_all (λ entry. words_pass test entry entry.span) t.entries

-- ---- where a branch begins

-- what a branch, which is this context, knows of words: of those that it may read, what reading shows, but nothing of
-- those that scheduling takes
abbrev pub branch_facts : Contents → ℕ → ℤ → Facts → Facts
branch_facts m context workspace facts = λ k.
    if is_read_beside_scheduling m context workspace k then Alone (plain (facts k)) else Alone Unknown

-- what the label of a branch is compared with
abbrev pub branch_view : Contents → ℕ → Branch → State → View
branch_view m context b s = record {
  context = context;
  depth = b.workspace;
  stack = of_empty Unknown;
  frame = branch_facts m context b.workspace s.frame;
  is_settled = true;
}

-- ---- after the PAR

-- The label is where the PAR leads, and says nothing of the registers, the block and the channels.
abbrev pub is_after : Par → Label → Bool
is_after par t =
    (t.context == par.context) && is_same_number t.depth par.block
    && is_silent (Alone t.stack.a) && is_silent (Alone t.stack.b) && is_silent (Alone t.stack.c)
    && not (list_any (says_of_hidden par) t.entries)

-- what is known of a word that no branch writes is what the label says
abbrev pub is_left : Par → Facts → ℤ → WordFact → Bool
is_left par facts k wanted = is_written par k || says (facts k) wanted

-- at the first start the state knows what the label says of words that no branch writes; later none is compared
abbrev pub agrees_after : Par → State → Option Label → Bool
agrees_after par s None = true
agrees_after par s (Some t) = label_passes (is_left par s.frame) t && list_all (is_whole s.frame) t.entries

-- what going on at the label costs, if it is compared
abbrev pub cost_after : State → Option Label → ℕ
cost_after s None = 0
cost_after s (Some t) = t.number + sum_by (price s.frame) t.entries

-- ---- where a branch ends

-- what is known of a word says what is wanted, and enters no loop
abbrev pub keeps : WordFact → WordFact → Bool
keeps fact wanted = says fact wanted && (is_alone wanted || not (is_alone fact))

-- what the context knows of a word that it may write is what the label says
abbrev pub is_kept : Contents → ℕ → Facts → ℤ → WordFact → Bool
is_kept m context facts k wanted = not (may_write_word m context k) || keeps (facts k) wanted

-- a branch that ends knows what the label after its PAR says of the words that it writes
abbrev pub ends_below : Contents → State → Label → Bool
ends_below m s t = label_passes (is_kept m s.context s.frame) t
