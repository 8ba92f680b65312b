-- What a row of pieces says of words, and that what is known of words says as much: what `below` asks, without numbers.
use Rattle.std.specs.Prelude.{◌≡◌, ◌⊎◌, ℕ, ◌+◌, ◌<◌, ◌≤◌, ◌==◌, ℤ, pos, true, List, ◌∷◌, ◌++◌, map}
use Rattle.std.specs.List.{AllByRecursion}
use Rattle.module_format.specs.Rows.{Fact, Entry}
use Rattle.module_format.specs.declared.fact.Fact.TheVariants.{Unknown, Number, Loop}
use Rattle.states.specs.declared.known.Loop.{Loop as CountedLoop}
use Rattle.states.specs.declared.known.WordFact.TheVariants.{Alone, Index, Count}
use Rattle.states.specs.State.{Facts, by_itself, said_of, entry_fact}
use Rattle.states.specs.Below.{implies}
use Rattle.code_pieces.specs.declared.piece.RowEntry.{RowEntry}
use Rattle.code_pieces.specs.declared.piece.WordFact.{WordFact}
use Rattle.code_pieces.specs.declared.piece.WordFact.TheVariants.{Between, Turning}

-- ---- what a row says

-- the fact of an entry, where this is what a turn of the loop with its head at each label costs
abbrev pub fact_said : (ℕ → ℕ) → WordFact → Fact
fact_said weights (Between lo hi) = Number lo hi
fact_said weights (Turning head base count) = Loop base count (weights head)

-- An entry as a module has it. Neighbours with one range may share an entry there, which says the same.
abbrev pub entry_said : (ℕ → ℕ) → RowEntry → Entry
entry_said weights e = record { word = pos e.word; span = e.span; fact = fact_said weights e.fact }

-- exactly this is known of words at a row
abbrev pub facts_said : (ℕ → ℕ) → List RowEntry → Facts
facts_said weights es = entry_fact (map (entry_said weights) es)

-- ---- what says as much

-- the loop with its head at a label
abbrev pub loop_said : (ℕ → ℕ) → (head : ℕ) → ℤ → ℕ → CountedLoop
loop_said weights head base count = record { base = base; count = count; weight = weights head }

-- What is known of each of these words lies in the range. Or the two words are the block of the loop, which goes on.
abbrev pub IsSaid : (ℕ → ℕ) → Facts → (word span : ℕ) → WordFact → Type 0
IsSaid weights f word span (Between lo hi) =
    (n : ℕ) → n < span → implies (by_itself (f (pos (word + n)))) (Number lo hi) ≡ true
IsSaid weights f word span (Turning head base count) =
    (span ≡ 2) × (f (pos word) ≡ Index (loop_said weights head base count))
    × (f (pos (word + 1)) ≡ Count (loop_said weights head base count))

-- So it is of each entry: what is known of words implies the row, and no loop is entered.
abbrev pub Implies : (ℕ → ℕ) → Facts → List RowEntry → Type 0
Implies weights f es = AllByRecursion (λ (e : RowEntry). IsSaid weights f e.word e.span e.fact) es

-- Of the two words of a block exactly this is known: the base, and the count of turns.
abbrev pub AreConstants : Facts → (word : ℕ) → ℤ → (count : ℕ) → Type 0
AreConstants f word base count =
    (f (pos word) ≡ Alone (Number base base)) × (f (pos (word + 1)) ≡ Alone (Number (pos count) (pos count)))

-- The entry is the block of the loop with its head at this label, which has so many turns, and is entered there.
pub record IsEntered (f : Facts) (head count : ℕ) (e : RowEntry) : Type 0 where
  pub base : ℤ
  pub turns : e.fact ≡ Turning head base count
  pub span : e.span ≡ 2
  pub constants : AreConstants f e.word base count

-- What is known of words implies the row at the head of a loop, where that one is entered and no other.
pub data Enters (weights : ℕ → ℕ) (f : Facts) (head count : ℕ) : List RowEntry → Type 0 where
  block : {e : RowEntry} {es : List RowEntry} → IsEntered f head count e → Implies weights f es
      → Enters weights f head count (e ∷ es)
  other : {e : RowEntry} {es : List RowEntry} → IsSaid weights f e.word e.span e.fact
      → Enters weights f head count es → Enters weights f head count (e ∷ es)

-- ---- laws

-- none of these entries is about the word
abbrev pub NoneIsAbout : ℕ → List RowEntry → Type 0
NoneIsAbout k es = AllByRecursion (λ (e : RowEntry). (k < e.word) ⊎ (e.word + e.span ≤ k)) es

-- A row tells of each word of an entry what the entry says, if no entry before it is about the word.
abbrev pub RowsTellTheirEntries : Type 0
RowsTellTheirEntries = (weights : ℕ → ℕ) (front rest : List RowEntry) (e : RowEntry) (n : ℕ) → n < e.span
    → NoneIsAbout (e.word + n) front
    → facts_said weights (front ++ e ∷ rest) (pos (e.word + n)) ≡ said_of (fact_said weights e.fact) (n == 0)

-- Of a word that no entry is about it tells nothing.
abbrev pub RowsTellNothingElse : Type 0
RowsTellNothingElse = (weights : ℕ → ℕ) (es : List RowEntry) (k : ℕ) → NoneIsAbout k es
    → facts_said weights es (pos k) ≡ Alone Unknown

-- What implies a row implies part of it, and what implies two implies both.
pub record ImplyingIsOfEntries : Type 0 where
  pub front : (weights : ℕ → ℕ) (f : Facts) (es ds : List RowEntry) → Implies weights f (es ++ ds)
      → Implies weights f es
  pub back : (weights : ℕ → ℕ) (f : Facts) (es ds : List RowEntry) → Implies weights f (es ++ ds)
      → Implies weights f ds
  pub both : (weights : ℕ → ℕ) (f : Facts) (es ds : List RowEntry) → Implies weights f es → Implies weights f ds
      → Implies weights f (es ++ ds)

-- A loop is entered whose block is among entries that are implied.
abbrev pub LoopsAreEnteredAmongOthers : Type 0
LoopsAreEnteredAmongOthers = (weights : ℕ → ℕ) (f : Facts) (head count : ℕ) (front rest : List RowEntry) (e : RowEntry)
    → Implies weights f front → IsEntered f head count e → Implies weights f rest
    → Enters weights f head count (front ++ e ∷ rest)

-- What implies a row does so as long as the words before this one stay, if no entry is about another one.
abbrev pub RowsStayImplied : Type 0
RowsStayImplied = (weights : ℕ → ℕ) (old new : Facts) (top : ℕ) (es : List RowEntry)
    → AllByRecursion (λ (e : RowEntry). e.word + e.span ≤ top) es
    → ((k : ℕ) → k < top → new (pos k) ≡ old (pos k)) → Implies weights old es → Implies weights new es
