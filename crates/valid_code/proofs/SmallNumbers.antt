-- Numbers and weights of pieces are within a budget, if what is needed from each piece on is.
use Rattle.std.proofs.Common.{ℕ, suc, ◌+◌, ◌-◌, ◌≤◌, Bool, true, false, List, [], ◌∷◌}
use Rattle.std.proofs.Common.{drop, Option, Some, None, arith}
use Rattle.std.specs.Prelude.{nat_eq, if◌then◌else◌}
use Rattle.code_pieces.specs.Pieces.{Piece, Direct, Jump, JumpUnless, LoopBack, Distance, StartBranch, Select}
use Rattle.code_pieces.specs.Pieces.{TableAddress, Row, Place, Within, Par}
use Rattle.code_pieces.specs.Numbers.{Numbered, number_at, with_number, Needs, needs, needs_of, needed_before}
use Rattle.code_pieces.specs.Numbers.{is_stop, turns_at, at_head}

module _ (most : ℕ) where
  -- of each label
  abbrev AreSmall : List Numbered → Type 0
  AreSmall ns = (l : ℕ) → number_at l ns ≤ most

  record NumbersAreSmall (n : Needs) : Type 0 where
    pub labels : AreSmall n.labels
    pub weights : AreSmall n.weights

  small_with : (label number : ℕ) (ns : List Numbered) → number ≤ most → AreSmall ns
      → AreSmall (with_number label number ns)
  small_with label number ns few small l = by_label (nat_eq label l)
    where
      by_label : (same : Bool) → (if same then number else number_at l ns) ≤ most
      by_label true = few
      by_label false = small l

  by_stop : (stops : Bool) (a b : ℕ) (n : Needs) → NumbersAreSmall n
      → NumbersAreSmall (if stops then needs a n else needs b n)
  by_stop true a b n small = record { labels = small.labels; weights = small.weights }
  by_stop false a b n small = record { labels = small.labels; weights = small.weights }

  head_small : (l : ℕ) (turns : Option ℕ) (n : Needs) → n.need ≤ most → NumbersAreSmall n
      → NumbersAreSmall (at_head l turns n)
  head_small l None n few small = small
  head_small l (Some count) n few small = record {
    labels = small.labels;
    weights = small_with l (n.need - number_at l n.ends) n.weights (omega (arith, few)) small.weights;
  }

  piece_small : (p : Piece) (bytes : ℕ) (n : Needs) → n.need ≤ most → NumbersAreSmall n
      → NumbersAreSmall (needed_before p bytes n)
  piece_small (Direct f e) bytes n few small = by_stop (is_stop f e) bytes (bytes + n.need) n small
  piece_small (Row l entries) bytes n few small =
      head_small l (turns_at l entries) (record n { labels = with_number l n.need n.labels }) few
      (record { labels = small_with l n.need n.labels few small.labels; weights = small.weights })
  piece_small (Jump to) bytes n few small = record { labels = small.labels; weights = small.weights }
  piece_small (JumpUnless to) bytes n few small = record { labels = small.labels; weights = small.weights }
  piece_small (LoopBack head behind) bytes n few small = record { labels = small.labels; weights = small.weights }
  piece_small (Distance from to) bytes n few small = record { labels = small.labels; weights = small.weights }
  piece_small (StartBranch entry successor) bytes n few small =
      record { labels = small.labels; weights = small.weights }
  piece_small (Select targets) bytes n few small = record { labels = small.labels; weights = small.weights }
  piece_small (TableAddress values) bytes n few small = record { labels = small.labels; weights = small.weights }
  piece_small (Place l) bytes n few small = record { labels = small.labels; weights = small.weights }
  piece_small (Within workspace) bytes n few small = record { labels = small.labels; weights = small.weights }
  piece_small (Par par) bytes n few small = record { labels = small.labels; weights = small.weights }

  none_small : NumbersAreSmall (record { need = 0; labels = []; ends = []; weights = [] })
  none_small = record { labels = λ l. omega arith; weights = λ l. omega arith }

  all_small : (ps : List Piece) (sizes : List ℕ)
      → ((k : ℕ) → (needs_of (drop k ps) (drop k sizes)).need ≤ most) → NumbersAreSmall (needs_of ps sizes)
  all_small [] sizes few = none_small
  all_small (p ∷ ps) [] few = none_small
  all_small (p ∷ ps) (size ∷ sizes) few =
      piece_small p size (needs_of ps sizes) (few 1) (all_small ps sizes (λ k. few (suc k)))

pub numbers_within : (most : ℕ) (ps : List Piece) (sizes : List ℕ)
    → ((k : ℕ) → (needs_of (drop k ps) (drop k sizes)).need ≤ most) → (l : ℕ)
    → number_at l (needs_of ps sizes).labels ≤ most
numbers_within most ps sizes few = (all_small most ps sizes few).labels

pub weights_within : (most : ℕ) (ps : List Piece) (sizes : List ℕ)
    → ((k : ℕ) → (needs_of (drop k ps) (drop k sizes)).need ≤ most) → (l : ℕ)
    → number_at l (needs_of ps sizes).weights ≤ most
weights_within most ps sizes few = (all_small most ps sizes few).weights
