-- One map of facts against another, word by word.
use Rattle.std.specs.Prelude.{◌≡◌, ◌⊎◌, ℕ, ◌+◌, ◌*◌, ◌-◌, ◌<◌, ℤ, pos, ◌+ℤ◌, ◌-ℤ◌, ◌≤ℤ◌, ◌<ℤ◌, Bool}
use Rattle.std.specs.Prelude.{true, false, ◌&&◌, ◌==◌}
use Rattle.std.specs.Prelude.{if◌then◌else◌, List, [], ◌∷◌, Option, Some, None, sum_by}
use Rattle.std.specs.List.{list_all}
use Rattle.module_format.specs.Rows.{Fact, Entry}
use Rattle.module_format.specs.Contents.{Label}
use Rattle.module_format.specs.declared.fact.Fact.TheVariants.{Loop}
use Rattle.states.specs.declared.overlay.Written.{Written}
use Rattle.states.specs.declared.blocks.Block.{Block}
use Rattle.states.specs.declared.span.Leaving.{Leaving}
use Rattle.states.specs.declared.known.Loop.{Loop as CountedLoop}
use Rattle.states.specs.declared.known.WordFact.{WordFact}
use Rattle.states.specs.declared.known.WordFact.TheVariants.{Index, Count}
use Rattle.module_format.specs.Facts.{end_of}
use Rattle.states.specs.State.{Facts, is_alone, is_same_number, said_of, entry_fact}
use Rattle.states.specs.Below.{View, implies, says, is_exactly, are_alike, is_whole, holds_constant, price}
use Rattle.states.specs.Blocks.{leaving_at}
use Rattle.states.specs.Lookup.{fact_of_index}
use Rattle.states.specs.Rows.{rise_from, AreApart}

-- the one says of each word at least what the other says
abbrev pub SaysAll : Facts → Facts → Type 0
SaysAll facts wanted = (k : ℤ) → says (facts k) (wanted k) ≡ true

-- of some word the one says less than the other
abbrev pub SaysLess : Facts → Facts → Type 0
SaysLess facts wanted = (k : ℤ) × (says (facts k) (wanted k) ≡ false)

-- of each word one of the two says at least what is wanted
abbrev pub OneSaysAll : Facts → Facts → Facts → Type 0
OneSaysAll facts others wanted = (k : ℤ) → (says (facts k) (wanted k) ≡ true) ⊎ (says (others k) (wanted k) ≡ true)

-- of each word that was written, at least what is wanted is known
abbrev pub WrittenSaysAll : List Written → ℤ → Facts → Facts → Type 0
WrittenSaysAll written lo facts wanted =
    (k : ℤ) (fact : Fact) → fact_of_index written (k -ℤ lo) ≡ Some fact → says (facts k) (wanted k) ≡ true

-- so it is of `count` words from `first` on
abbrev pub BlockSaysAll : ℤ → Facts → Facts → ℕ → Type 0
BlockSaysAll first facts wanted count =
    (j : ℕ) → j < count → says (facts (first +ℤ pos j)) (wanted (first +ℤ pos j)) ≡ true

-- so it is of each word of a block that was left
abbrev pub LeftSaysAll : List Block → ℤ → Facts → Facts → Type 0
LeftSaysAll blocks lo facts wanted =
    (k : ℤ) (leaving : Leaving) → leaving_at blocks (k -ℤ lo) ≡ Some leaving → says (facts k) (wanted k) ≡ true

-- one of two facts says at least what is wanted
abbrev pub OneSays : WordFact → WordFact → WordFact → Type 0
OneSays said known wanted = (says said wanted ≡ true) ⊎ (says known wanted ≡ true)

-- ---- an entry against a row

-- an entry is about all words of another one, and says of them what that one wants
abbrev pub IsOver : Entry → Entry → Type 0
IsOver entry wanted =
    (entry.word ≤ℤ wanted.word) × (end_of wanted ≤ℤ end_of entry) × (implies entry.fact wanted.fact ≡ true)

-- so is the first entry of a row
abbrev pub SaysEntry : List Entry → Entry → Type 0
SaysEntry [] wanted = ⊥
SaysEntry (entry ∷ later) wanted = IsOver entry wanted

-- What is left of a row from the word `next` on: it says of the words from there on what the row says. Of the words
-- before, from `word` on, none of which is after `end`, the row says what is wanted.
pub record IsPast (row : List Entry) (word end : ℤ) (wanted : Fact) (left : List Entry) (next : ℤ) : Type 0 where
  pub ahead : word ≤ℤ next
  pub within : next ≤ℤ end
  pub apart : AreApart left
  pub same : (k : ℤ) → next ≤ℤ k → entry_fact left k ≡ entry_fact row k
  pub each : (k : ℤ) → word ≤ℤ k → k <ℤ next → (is_first : Bool)
      → says (entry_fact row k) (said_of wanted is_first) ≡ true

-- ---- loops that are wanted

-- the loop of a fact, if it is of one
abbrev pub loop_of : Fact → Option CountedLoop
loop_of (Loop base count weight) = Some (record { base = base; count = count; weight = weight })
loop_of _ = None

-- What is paid for a loop whose words say this: they say what it wants, both by the loop or both by themselves.
pub record IsDue (wanted : CountedLoop) (first second : WordFact) (paid : ℕ) : Type 0 where
  pub index : says first (Index wanted) ≡ true
  pub count : says second (Count wanted) ≡ true
  pub alike : are_alike (is_alone first) (is_alone second) ≡ true
  pub price : (if holds_constant first wanted.base && holds_constant second (pos wanted.count)
      then wanted.weight * (wanted.count - 1) else 0) ≡ paid

-- ---- what a label wants

-- of each word of an entry one of the two says at least what the entry says
abbrev pub EntryHolds : Facts → Facts → Entry → Type 0
EntryHolds said facts entry =
    (k : ℤ) → entry.word ≤ℤ k → k <ℤ end_of entry
    → OneSays (said k) (facts k) (said_of entry.fact (is_same_number entry.word k))

-- an entry holds by one of the two, its loop, if it is of one, is not half known, and this is paid for it
pub record IsEntered (said facts : Facts) (entry : Entry) (paid : ℕ) : Type 0 where
  pub each : EntryHolds said facts entry
  pub whole : is_whole facts entry ≡ true
  pub due : price facts entry ≡ paid

-- so it is of all entries of a row
pub record AreEntered (said facts : Facts) (entries : List Entry) (paid : ℕ) : Type 0 where
  pub each : OneSaysAll said facts (entry_fact entries)
  pub whole : list_all (is_whole facts) entries ≡ true
  pub due : sum_by (price facts) entries ≡ paid

-- ---- one pass over two rows

-- what is left of the one row says what the row says, from a word on
abbrev pub IsBase : Facts → List Entry → ℤ → Type 0
IsBase said base word = (k : ℤ) → word ≤ℤ k → entry_fact base k ≡ said k

-- a word and the next one are what the row says
abbrev pub AreKept : Facts → Facts → ℤ → Type 0
AreKept said facts k = (facts k ≡ said k) × (facts (k +ℤ pos 1) ≡ said (k +ℤ pos 1))

-- two entries are of the same loop, whose words are what the row says
pub record IsKeptLoop (said facts : Facts) (entry wanted : Entry) : Type 0 where
  pub loop : CountedLoop
  pub is : loop_of entry.fact ≡ Some loop
  pub wanted_is : loop_of wanted.fact ≡ Some loop
  pub span : wanted.span ≡ 2
  pub kept : AreKept said facts wanted.word

-- two entries are about the same words, and the one says what the other wants, or both are of the same loop
pub record IsPair (said facts : Facts) (entry wanted : Entry) : Type 0 where
  pub word : entry.word ≡ wanted.word
  pub span : entry.span ≡ wanted.span
  pub either : (implies entry.fact wanted.fact ≡ true) ⊎ IsKeptLoop said facts entry wanted

-- an entry is about this word alone, and says that it is this number
abbrev pub IsConstantAt : Entry → ℤ → ℤ → Type 0
IsConstantAt entry word number = (entry.word ≡ word) × (entry.span ≡ 1) × (is_exactly entry.fact number ≡ true)

-- an entry wants a loop that is entered: two entries say its first constants of its words, which are what the row says
pub record IsInto (said facts : Facts) (first second wanted : Entry) (paid next : ℕ) : Type 0 where
  pub loop : CountedLoop
  pub is : loop_of wanted.fact ≡ Some loop
  pub span : wanted.span ≡ 2
  pub kept : AreKept said facts wanted.word
  pub index : IsConstantAt first wanted.word loop.base
  pub count : IsConstantAt second (wanted.word +ℤ pos 1) (pos loop.count)
  pub sum : next ≡ paid + loop.weight * (loop.count - 1)

-- What is left of a row that is wanted. Of each word before, one of the two says at least what the row wants, and
-- `paid` is paid. From its first word on, what is left of the one row says what that row says.
pub record IsWalk (said facts : Facts) (row base rest : List Entry) (paid : ℕ) : Type 0 where
  pub low : ℤ
  pub rises : rise_from low rest ≡ true
  pub same : IsBase said base low
  pub each : (k : ℤ) → (entry_fact row k ≡ entry_fact rest k) ⊎ OneSays (said k) (facts k) (entry_fact row k)
  pub whole : list_all (is_whole facts) row ≡ list_all (is_whole facts) rest
  pub due : sum_by (price facts) row ≡ paid + sum_by (price facts) rest

-- further entries are passed, for which nothing is paid
abbrev pub WalksOn : Facts → Facts → List Entry → List Entry → List Entry → List Entry → Type 0
WalksOn said facts base rest next_base next_rest =
    (row : List Entry) (paid : ℕ) → IsWalk said facts row base rest paid
    → IsWalk said facts row next_base next_rest paid

-- ---- the place and the registers

-- it is where the label is, and knows at least as much of the registers
abbrev pub stands : View → Label → Bool
stands v t =
    (v.context == t.context) && is_same_number v.depth t.depth && v.is_settled
    && implies v.stack.a t.stack.a && implies v.stack.b t.stack.b && implies v.stack.c t.stack.c
