-- What is known of a process at a place of its code.
use Rattle.std.specs.Prelude.{ℕ, ◌+◌, ℤ, pos, ◌+ℤ◌, ◌-ℤ◌, int_le, int_lt, ◌&&◌, Bool, true, false, if◌then◌else◌, List}
use Rattle.std.specs.Prelude.{[], ◌∷◌}
use Rattle.module_format.specs.Rows.{Fact}
use Rattle.module_format.specs.declared.fact.Fact.TheVariants.{Unknown, Number, Pointer, Loop, ReturnAddress}
use Rattle.module_format.specs.declared.fact.Region.TheVariants as regions
use Rattle.module_format.specs.declared.fact.Step.TheVariants.{Word}
use Rattle.module_format.specs.Rows.{Entry}
use Rattle.module_format.specs.declared.rows.Parameter.{Parameter}
use Rattle.module_format.specs.declared.rows.ParameterKind.{ParameterKind}
use Rattle.module_format.specs.declared.rows.ParameterKind.TheVariants.{Value}
use Rattle.module_format.specs.declared.stack.Stack.{Stack}
use Rattle.module_format.specs.Stack.{of_empty, mapped}
use Rattle.module_format.specs.Contents.{Contents, Procedure, Label}
use Rattle.states.specs.declared.known.WordFact.{WordFact}
use Rattle.states.specs.declared.known.WordFact.TheVariants.{Alone, Index, Count}
use Rattle.states.specs.declared.known.Known.{Known}
use Rattle.states.specs.declared.known.Source.{Source}
use Rattle.states.specs.declared.known.Source.TheVariants.{Nowhere, From, Test}
use Rattle.states.specs.declared.known.Guard.{Guard}
use Rattle.states.specs.declared.known.Mode.{Mode}
use Rattle.states.specs.declared.known.Mode.TheVariants.{Plain}

-- what is known of the frame's words, by their numbers
abbrev pub Facts : Type 0
Facts = ℤ → WordFact

pub record State : Type 0 where
  pub context : ℕ
  pub depth : ℤ
  pub stack : Stack Known
  pub frame : Facts
  pub number : ℕ
  pub mode : Mode
  pub guards : List Guard

-- ---- facts of registers

abbrev pub unknown : Known
unknown = record { fact = Unknown; source = Nowhere }

abbrev pub known : Fact → Known
known fact = record { fact = fact; source = Nowhere }

-- ---- facts of words

-- What a word says by itself: the index of a loop lies from its base to its last value, and the count from 1 to the
-- number of turns.
abbrev pub by_itself : WordFact → Fact
by_itself (Alone fact) = fact
by_itself (Index loop) = Number loop.base (loop.base +ℤ pos loop.count -ℤ pos 1)
by_itself (Count loop) = Number (pos 1) (pos loop.count)

-- what an instruction learns of a fact: it does not learn a return address, and no word is a loop
abbrev pub handed_out : Fact → Fact
handed_out (Loop base count weight) = Unknown
handed_out ReturnAddress = Unknown
handed_out fact = fact

-- what an instruction learns that reads a word
abbrev pub plain : WordFact → Fact
plain fact = handed_out (by_itself fact)

abbrev pub is_alone : WordFact → Bool
is_alone (Alone fact) = true
is_alone (Index loop) = false
is_alone (Count loop) = false

-- nothing is known of the word
abbrev pub is_silent : WordFact → Bool
is_silent (Alone Unknown) = true
is_silent (Alone fact) = false
is_silent (Index loop) = false
is_silent (Count loop) = false

abbrev pub no_facts : Facts
no_facts = λ _. Alone Unknown

-- the same number
abbrev pub is_same_number : ℤ → ℤ → Bool
is_same_number j k = int_le j k && int_le k j

-- this word
abbrev pub is_at : ℤ → ℤ → Bool
is_at k = λ j. is_same_number j k

-- ---- changes of what is known of words

-- How what is known of words changes: which words are touched, and what is known of each of these afterwards, by its
-- number and what it said by itself before.
pub record Change : Type 0 where
  pub touches : ℤ → Bool
  pub leaves : ℤ → Fact → Fact

-- the other word of the loop is touched in which this word is
abbrev pub is_parted : (ℤ → Bool) → ℤ → WordFact → Bool
is_parted touches k (Alone fact) = false
is_parted touches k (Index loop) = touches (k +ℤ pos 1)
is_parted touches k (Count loop) = touches (k -ℤ pos 1)

-- What is known after a change. A loop that loses one of its words leaves what the other says by itself.
abbrev pub changed : Change → Facts → Facts
changed change facts = λ k.
    if change.touches k then Alone (change.leaves k (by_itself (facts k)))
    else if is_parted change.touches k (facts k) then Alone (by_itself (facts k)) else facts k

-- word k has this fact from now on
abbrev pub one_word : ℤ → Fact → Change
one_word k fact = record { touches = is_at k; leaves = λ j said. fact }

abbrev pub with_fact : ℤ → Fact → Facts → Facts
with_fact k fact facts = changed (one_word k fact) facts

-- ---- entries

-- the entry is about word k
abbrev pub is_about : Entry → ℤ → Bool
is_about entry k = int_le entry.word k && int_lt k (entry.word +ℤ pos entry.span)

-- what an entry's fact says of one of its words, which is the first or another one: the first word of a loop is the
-- index
abbrev pub said_of : Fact → Bool → WordFact
said_of (Loop base count weight) true = Index (record { base = base; count = count; weight = weight })
said_of (Loop base count weight) false = Count (record { base = base; count = count; weight = weight })
said_of fact is_first = Alone fact

-- what the entries of a label say of word k: entries do not overlap
abbrev pub entry_fact : List Entry → Facts
entry_fact [] k = Alone Unknown
entry_fact (entry ∷ entries) k =
    if is_about entry k then said_of entry.fact (is_same_number entry.word k) else entry_fact entries k

-- ---- sources

-- a source that speaks of a word says nothing once the word is touched
abbrev pub without_source : (ℤ → Bool) → Source → Source
without_source touches Nowhere = Nowhere
without_source touches (From word) = if touches word then Nowhere else From word
without_source touches (Test word lo hi inside) = if touches word then Nowhere else Test word lo hi inside

abbrev pub forgets : (ℤ → Bool) → Known → Known
forgets touches known = record known { source = without_source touches known.source }

-- word k has this fact, and no register speaks of what it was
unfoldable pub written : ℤ → Fact → State → State
written k fact s = record s { stack = mapped (forgets (is_at k)) s.stack; frame = with_fact k fact s.frame }

-- ---- states

-- the state in a context at a depth, with this known of the frame, nothing of the registers, and this number to pay
abbrev pub fresh_state : ℕ → ℤ → ℕ → Facts → State
fresh_state context depth number frame = record {
  context = context;
  depth = depth;
  stack = of_empty unknown;
  frame = frame;
  number = number;
  mode = Plain;
  guards = [];
}

-- the state of the root when the module begins
abbrev pub root_state : Contents → State
root_state m = fresh_state 0 (pos 0) m.budget no_facts

-- the state that a label row gives
abbrev pub label_state : Label → State
label_state t = record (fresh_state t.context t.depth t.number (entry_fact t.entries)) { stack = mapped known t.stack }

-- ---- procedures

-- What the word of the parameter with this number holds where the procedure begins: a number, or the address of what
-- the parameter names.
abbrev pub parameter_fact : ℕ → ParameterKind → Fact
parameter_fact number (Value lo hi) = Number lo hi
parameter_fact number kind = Pointer (regions.Parameter number) (pos 0) (pos 0) Word

-- what the words of parameters hold, where this is the number of the first of them
abbrev pub parameter_facts : ℕ → List Parameter → Facts
parameter_facts number [] k = Alone Unknown
parameter_facts number (parameter ∷ parameters) k =
    if is_same_number k (pos parameter.word) then Alone (parameter_fact number parameter.kind)
    else parameter_facts (number + 1) parameters k

-- word 0 is the return address, and the others are those of parameters
abbrev pub procedure_facts : Procedure → Facts
procedure_facts p k = if is_same_number k (pos 0) then Alone ReturnAddress else parameter_facts 0 p.parameters k

-- the state in which a procedure begins, whose number as a context is this
abbrev pub procedure_state : ℕ → Procedure → State
procedure_state context p = fresh_state context (pos 0) p.number (procedure_facts p)
