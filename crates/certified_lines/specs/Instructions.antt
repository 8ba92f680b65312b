-- What is known after each instruction of straight code, which breaks no rule where what is asked of it is known.
use Rattle.std.specs.Prelude.{◌≡◌, ℕ, ◌*◌, ◌≤◌, ℤ, pos, Bool, true, false, List, [], ◌∷◌}
use Rattle.std.specs.Prelude.{Some}
use Rattle.prefix_decoder.specs.declared.function.Fun.TheVariants as fun
use Rattle.word_arithmetic.specs.Word.{least_word}
use Rattle.word_arithmetic.specs.declared.binary.Binary.{Binary}
use Rattle.word_arithmetic.specs.declared.binary.Binary.TheVariants as binary
use Rattle.word_arithmetic.specs.declared.unary.Unary.TheVariants as unary
use Rattle.module_format.specs.Rows.{Fact}
use Rattle.module_format.specs.declared.fact.Fact.TheVariants.{Unknown, Number, Pointer}
use Rattle.module_format.specs.declared.fact.Region.TheVariants as regions
use Rattle.module_format.specs.declared.fact.Step.TheVariants.{Word}
use Rattle.module_format.specs.Stack.{popped, reversed, with_top, mapped}
use Rattle.certificate.specs.Rights.{may_write_word, may_read_word}
use Rattle.machine_state.specs.declared.op.Op.TheVariants as ops
use Rattle.machine_state.specs.declared.op.Shift.{Shift}
use Rattle.machine_state.specs.Instructions.{op_of}
use Rattle.states.specs.declared.known.Known.{Known}
use Rattle.states.specs.State.{unknown, known, with_fact, forgets, is_at}
use Rattle.local_rules.specs.WordRules.{known_constant, word_as_known, result_fact, unary_result_fact, shift_range}
use Rattle.local_rules.specs.WordRules.{fact_of_two, result_source, constant_source}
use Rattle.code_pieces.specs.declared.operations.TheConstants.{REVERSE, NOT, MINIMUM_INTEGER}
use Rattle.code_pieces.specs.Pieces.{Piece, Direct, TableAddress, operates, loads, stores, points, constant, counted}
use Rattle.code_pieces.specs.Pieces.{below}
use Rattle.certified_lines.specs.StraightRules.{Setting, Told, FallOn, with_pushed, table_known}

-- ---- what is known afterwards

-- A is another value, of which this is known
abbrev pub with_a : Known → Told → Told
with_a v t = record t { stack = with_top v t.stack }

-- A is not needed any more
abbrev pub without_a : Told → Told
without_a t = record t { stack = popped unknown t.stack }

-- this is known of what is in the place of A and B
abbrev pub with_result : Known → Told → Told
with_result v t = with_a v (without_a t)

-- this is known of a word, and registers do not tell any more of what it was
abbrev pub with_word : ℕ → Fact → Told → Told
with_word word fact t = record {
  stack = mapped (forgets (is_at (pos word))) t.stack;
  frame = with_fact (pos word) fact t.frame;
}

-- ---- what is asked

-- something is known
abbrev pub is_told : Fact → Bool
is_told Unknown = false
is_told fact = true

-- the word is one that code counts
abbrev pub IsCounted : ℕ → Type 0
IsCounted word = counted word ≡ word

abbrev pub MayRead : Setting → ℕ → Type 0
MayRead g word = may_read_word g.contents g.context (pos word) ≡ true

abbrev pub MayWrite : Setting → ℕ → Type 0
MayWrite g word = may_write_word g.contents g.context (pos word) ≡ true

-- this piece alone breaks no rule
abbrev pub PieceFalls : Setting → Piece → Told → Told → Type 0
PieceFalls g p s t = FallOn g (p ∷ []) s t

-- ---- constants and words of the frame

abbrev pub LeastWordIsKnown : Type 0
LeastWordIsKnown = (g : Setting) (s : Told)
    → PieceFalls g (operates MINIMUM_INTEGER) s (with_pushed (known_constant least_word) s)

abbrev pub ConstantsAreKnown : Type 0
ConstantsAreKnown = (g : Setting) (v : ℤ) (s : Told)
    → PieceFalls g (constant v) s (with_pushed (known_constant v) s)

-- what is known of a word is known of A
abbrev pub LoadedWordsAreKnown : Type 0
LoadedWordsAreKnown = (g : Setting) (word : ℕ) (s : Told) → IsCounted word → MayRead g word
    → PieceFalls g (loads word) s (with_pushed (word_as_known (pos word) (s.frame (pos word))) s)

-- what is known of A is known of a word
abbrev pub StoredWordsAreKnown : Type 0
StoredWordsAreKnown = (g : Setting) (word : ℕ) (s : Told) → IsCounted word → MayWrite g word
    → is_told s.stack.a.fact ≡ true
    → PieceFalls g (stores word) s (without_a (with_word word s.stack.a.fact s))

-- the address of a word
abbrev pub word_pointer : ℕ → Fact
word_pointer word = Pointer regions.Frame (pos (4 * word)) (pos (4 * word)) Word

abbrev pub AddressesAreKnown : Type 0
AddressesAreKnown = (g : Setting) (word : ℕ) (s : Told) → IsCounted word → 4 * word ≤ 16777216
    → PieceFalls g (points word) s (with_pushed (known (word_pointer word)) s)

abbrev pub TablesAreKnown : Type 0
TablesAreKnown = (g : Setting) (values : List ℤ) (s : Told)
    → PieceFalls g (TableAddress values) s (with_pushed (table_known g values) s)

-- ---- operators

abbrev pub RegistersAreReversed : Type 0
RegistersAreReversed = (g : Setting) (s : Told)
    → PieceFalls g (operates REVERSE) s (record s { stack = reversed s.stack })

-- the result of A and a constant has this range
abbrev pub SumsWithConstantsAreKnown : Type 0
SumsWithConstantsAreKnown = (g : Setting) (e : ℤ) (fact : Fact) (s : Told)
    → result_fact binary.Add s.stack.a.fact (Number e e) ≡ Some fact
    → PieceFalls g (Direct fun.AddConstant e) s (with_a (known fact) s)

-- so has that of a comparison, which comes from where a comparison with the constant comes from
abbrev pub ComparedConstantsAreKnown : Type 0
ComparedConstantsAreKnown = (g : Setting) (e : ℤ) (fact : Fact) (s : Told)
    → result_fact binary.Equal s.stack.a.fact (Number e e) ≡ Some fact
    → PieceFalls g (Direct fun.EqualsConstant e) s
    (with_a (record { fact = fact; source = constant_source binary.Equal s.stack.a e }) s)

abbrev pub TurnedBitsAreKnown : Type 0
TurnedBitsAreKnown = (g : Setting) (fact : Fact) (s : Told) → unary_result_fact unary.Not s.stack.a.fact ≡ Some fact
    → PieceFalls g (operates NOT) s (with_a (known fact) s)

-- the results of an operation of B and A have this range
abbrev pub ResultsAreKnown : Type 0
ResultsAreKnown = (g : Setting) (operation : ℤ) (op : Binary) (fact : Fact) (s : Told)
    → op_of operation ≡ Some (ops.Binary op) → result_fact op s.stack.b.fact s.stack.a.fact ≡ Some fact
    → PieceFalls g (operates operation) s
    (with_result (record { fact = fact; source = result_source op s.stack.b s.stack.a }) s)

-- B is shifted by A bits
abbrev pub ShiftedWordsAreKnown : Type 0
ShiftedWordsAreKnown = (g : Setting) (operation : ℤ) (op : Shift) (fact : Fact) (s : Told)
    → op_of operation ≡ Some (ops.Shift op)
    → fact_of_two (shift_range op) s.stack.b.fact s.stack.a.fact ≡ Some fact
    → PieceFalls g (operates operation) s (with_result (known fact) s)

-- ---- several

-- what waited in a word of the frame is known below what is in A
abbrev pub WaitingIsKnownBelow : Type 0
WaitingIsKnownBelow = (g : Setting) (word : ℕ) (s : Told) → IsCounted word → MayRead g word
    → FallOn g (below word) s (record s {
      stack = record {
        a = s.stack.a;
        b = word_as_known (pos word) (s.frame (pos word));
        c = s.stack.b;
      };
    })
