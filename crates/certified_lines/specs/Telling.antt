-- What it is that the code of an expression leaves a number in a range in A.
use Rattle.std.specs.Prelude.{◌≡◌, ⊤, ℕ, suc, ◌<◌, ◌≤◌, ◌⊎◌, pos, ◌≤ℤ◌, Bool, true, false, ◌&&◌, ◌||◌, List, Option}
use Rattle.std.specs.Prelude.{Some, None}
use Rattle.std.specs.List.{AllByRecursion}
use Rattle.word_arithmetic.specs.Word.{truth}
use Rattle.word_arithmetic.specs.Range.{Ends, truths}
use Rattle.word_arithmetic.specs.Range as ranges
use Rattle.prefix_decoder.specs.declared.function.Fun.TheVariants as fun
use Rattle.module_format.specs.declared.limits.TheConstants.{MAX_DATA_WORDS}
use Rattle.module_format.specs.declared.stack.Stack.{Stack}
use Rattle.states.specs.declared.known.Known.{Known}
use Rattle.states.specs.declared.known.Source.{Source}
use Rattle.states.specs.declared.known.Source.TheVariants.{Nowhere, From, Test}
use Rattle.states.specs.declared.known.WordFact.{WordFact}
use Rattle.states.specs.declared.known.WordFact.TheVariants.{Alone, Index, Count}
use Rattle.states.specs.State.{Facts}
use Rattle.local_rules.specs.WordRules.{number_in}
use Rattle.scalar_ranges.specs.Entries.{Entry}
use Rattle.code_pieces.specs.declared.words.TheConstants.{GREATEST_WORD}
use Rattle.code_pieces.specs.Pieces.{Piece, Direct, TableAddress, word_after}
use Rattle.placed_code.specs.TablesInMemory.{ReadsTable}
use Rattle.line_pieces.specs.Expressions.{Operand}
use Rattle.certified_lines.specs.StraightRules.{Setting, Told, FallOn, with_pushed}
use Rattle.certified_lines.specs.Instructions.{MayRead, MayWrite}
use Rattle.certified_lines.specs.Scopes.{Scene, HoldsScope}

-- ---- words that stay

-- The word is by itself, or the other word of its loop lies before this word too.
abbrev pub IsWhole : (t k : ℕ) → WordFact → Type 0
IsWhole t k (Alone fact) = ⊤
IsWhole t k (Index loop) = suc k < t
IsWhole t k (Count loop) = ⊤

-- What is known of the words before this one stays, but for a loop that goes on behind it.
abbrev pub StayBefore : ℕ → (old new : Facts) → Type 0
StayBefore t old new = (k : ℕ) → k < t → IsWhole t k (old (pos k)) → new (pos k) ≡ old (pos k)

-- A word that a piece stores is one of a frame, and may be written and read. A table that it addresses is one of those
-- that pieces read.
abbrev pub IsAllowed : Scene → Piece → Type 0
IsAllowed g (Direct fun.StoreLocal (pos word)) =
    (word < MAX_DATA_WORDS) × MayWrite g.setting word × MayRead g.setting word
IsAllowed g (TableAddress values) = ReadsTable g.pieces values
IsAllowed g p = ⊤

abbrev pub AreAllowed : Scene → List Piece → Type 0
AreAllowed g ps = AllByRecursion (IsAllowed g) ps

-- ---- one value

-- It comes from nowhere, or from a word from this one on.
abbrev pub IsQuiet : ℕ → Source → Type 0
IsQuiet t Nowhere = ⊤
IsQuiet t (From word) = pos t ≤ℤ word
IsQuiet t (Test word lo hi inside) = pos t ≤ℤ word

-- Whatever is told before, what pieces leave in A comes from nowhere.
abbrev pub ComesFromNowhere : Setting → List Piece → Type 0
ComesFromNowhere g ps = (s t : Told) → FallOn g ps s t → t.stack.a.source ≡ Nowhere

-- The same is known of a register, and where it comes from, if that is still known.
pub record IsLike (old new : Known) : Type 0 where
  pub fact : new.fact ≡ old.fact
  pub source : (new.source ≡ old.source) ⊎ (new.source ≡ Nowhere)

-- From what is told before, pieces fall to where A is a number in the range. What is known of words before t stays.
-- Where they are small, B is known as A was, and where they are one push, all else is told as before.
pub record PushedFact (g : Setting) (ps : List Piece) (t : ℕ) (leaf small : Bool) (r : Ends) (before : Told) : Type 0
  where
    pub after : Told
    pub falls : FallOn g ps before after
    pub a : after.stack.a.fact ≡ number_in r
    pub stay : StayBefore t before.frame after.frame
    pub below : small ≡ true → IsLike before.stack.a after.stack.b
    pub alone : leaf ≡ true → after ≡ with_pushed after.stack.a before

-- so they do wherever this holds of words
abbrev pub PushesFact : Setting → (Facts → Type 0) → List Piece → (t : ℕ) → (leaf small : Bool) → Ends → Type 0
PushesFact g P ps t leaf small r = (s : Told) → P s.frame → PushedFact g ps t leaf small r s

-- where of the words of a scope exactly that is known which the scope says
abbrev pub Tells : Scene → List Entry → List Piece → (t : ℕ) → (leaf small : Bool) → Ends → Type 0
Tells g es ps t leaf small r = AreAllowed g ps → PushesFact g.setting (HoldsScope g es) ps t leaf small r

-- The first word that is free is counted.
abbrev pub IsFree : ℕ → Type 0
IsFree t = t ≤ GREATEST_WORD

-- ---- two operands

-- an operand beside another one, where a temporary is free and where the next one is
pub record OperandTells (g : Scene) (es : List Entry) (t : ℕ) (o : Operand) (r : Ends) : Type 0 where
  pub first : Tells g es o.first t o.leaf o.small r
  pub second : Tells g es o.second (word_after t 1) o.leaf o.small r

-- the first one in B and the second one in A, or in any order
abbrev pub AreTold : (in_order : Bool) → (r s : Ends) → Stack Known → Type 0
AreTold true r s k = (k.b.fact ≡ number_in r) × (k.a.fact ≡ number_in s)
AreTold false r s k =
    ((k.b.fact ≡ number_in r) × (k.a.fact ≡ number_in s)) ⊎ ((k.b.fact ≡ number_in s) × (k.a.fact ≡ number_in r))

-- what was in A is known below both of these operands
abbrev pub keeps : (first second : Operand) → Bool
keeps x y = (x.small || x.leaf) && y.leaf

-- where each of both operands comes from nowhere
abbrev pub AreFromNowhere : Setting → (first second : Operand) → Type 0
AreFromNowhere g x y =
    ComesFromNowhere g x.first × ComesFromNowhere g y.first × ComesFromNowhere g y.second

-- Two operands are told, and come from no word before t where this holds.
pub record PushedBoth (g : Setting) (ps : List Piece) (t : ℕ) (in_order kept : Bool) (calm : Type 0) (r s : Ends)
    (before : Told) : Type 0 where
  pub after : Told
  pub falls : FallOn g ps before after
  pub operands : AreTold in_order r s after.stack
  pub sources : calm → IsQuiet t after.stack.b.source × IsQuiet t after.stack.a.source
  pub stay : StayBefore t before.frame after.frame
  pub below : kept ≡ true → IsLike before.stack.a after.stack.c

-- ---- conditions

-- what is known of a truth: which one it is, or nothing
abbrev pub truth_range : Option Bool → Ends
truth_range None = truths
truth_range (Some b) = ranges.constant (truth b)
