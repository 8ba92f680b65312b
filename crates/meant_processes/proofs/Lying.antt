-- Where pieces lie whose rows are kept apart.
use Rattle.std.proofs.Common.{◌≡◌, ℕ, ◌≤◌, ℤ, pos, Bool, true, false, cond, List, [], ◌∷◌, ◌++◌}
use Rattle.std.proofs.Common.{inl, inr, refl, subst, arith}
use Rattle.std.specs.Prelude.{◌&&◌}
use Rattle.prefix_decoder.specs.declared.function.Fun.{Fun}
use Rattle.prefix_decoder.specs.declared.function.Fun.TheVariants as fun
use Rattle.code_pieces.specs.declared.operations.TheConstants.{STOP_PROCESS}
use Rattle.code_pieces.specs.declared.piece.RowEntry.{RowEntry}
use Rattle.code_pieces.specs.Pieces.{Direct, Distance, Jump, JumpUnless, LoopBack, Par, Piece, Place, Row, Select}
use Rattle.code_pieces.specs.Pieces.{StartBranch, TableAddress, Within, constant, counted, operates, points}
use Rattle.code_pieces.specs.Laying.{apart_from, at_row_behind, is_row}
use Rattle.placed_code.specs.LaidCode as laid
use Rattle.placed_code.specs.LaidCode.{LaidCode, Fetches, IsAt, Lie, LoopsBack, Reaches}
use Rattle.placed_code.specs.StraightPieces.{Held, with_pushed}
use Rattle.placed_code.specs.Points.{GoesTo, point, there}
use Rattle.placed_code.proofs.PiecesGo.{straight_goes}
use Rattle.meant_lines.proofs.Instructions.{constants_are_pushed}
use Rattle.meant_code.specs.Labels.{AreStraight}
use Rattle.meant_processes.specs.Lying.{IsAtApart, LieApart, PiecesLieApart, none, more}

-- ---- rows kept apart

-- what is no row lies as ever
is_as_ever : (c : LaidCode) (at_row : Bool) (at : ℕ) (p : Piece) (to : ℕ) → (at_row && is_row p) ≡ false
    → IsAt c at p to → IsAtApart c at_row at p to
is_as_ever c true at (Row l entries) to other is = absurd (cc other)
is_as_ever c true at p to other is = is
is_as_ever c false at p to other is = is

is_filled : (c : LaidCode) (at_row : Bool) (at middle : ℕ) (p : Piece) (to : ℕ) → (at_row && is_row p) ≡ true
    → IsAt c at (constant (pos 0)) middle → IsAt c middle p to → IsAtApart c at_row at p to
is_filled c true at middle (Row l entries) to row zero is =
    (subst (λ n. IsAt c at (constant (pos 0)) n) is.0 zero, is.1)
is_filled c true at middle p to row zero is = absurd (cc row)
is_filled c false at middle p to row zero is = absurd (cc row)

one_apart : (c : LaidCode) (at_row : Bool) (p : Piece) (ps : List Piece) (at to : ℕ) (fills : Bool)
    → (at_row && is_row p) ≡ fills
    → Lie c at (cond fills (constant (pos 0) ∷ p ∷ []) (p ∷ []) ++ apart_from (at_row_behind p at_row) ps) to
    → ((middle : ℕ) → Lie c middle (apart_from (at_row_behind p at_row) ps) to
    → LieApart c (at_row_behind p at_row) middle ps to)
    → LieApart c at_row at (p ∷ ps) to
one_apart c at_row p ps at to false is (laid.more {middle = middle} here rest) further =
    more (is_as_ever c at_row at p middle is here) (further middle rest)
one_apart c at_row p ps at to true is (laid.more {middle = middle} zero (laid.more {middle = next} here rest)) further =
    more (is_filled c at_row at middle p next is zero here) (further next rest)

pub pieces_lie_apart : PiecesLieApart
pieces_lie_apart c at_row [] at to laid.none = none
pieces_lie_apart c at_row (p ∷ ps) at to lie =
    one_apart c at_row p ps at to (at_row && is_row p) refl lie
    (λ middle rest. pieces_lie_apart c (at_row_behind p at_row) ps middle to rest)

-- ---- parts

-- two parts of pieces, where the first one ends
pub record Parts (c : LaidCode) (at_row : Bool) (at : ℕ) (ps qs : List Piece) (to : ℕ) : Type 0 where
  pub middle : ℕ
  pub after_row : Bool
  pub first : LieApart c at_row at ps middle
  pub second : LieApart c after_row middle qs to

pub apart_both : (c : LaidCode) (at_row : Bool) (at to : ℕ) (ps qs : List Piece) → LieApart c at_row at (ps ++ qs) to
    → Parts c at_row at ps qs to
apart_both c at_row at to [] qs lie = record { middle = at; after_row = at_row; first = none; second = lie }
apart_both c at_row at to (p ∷ ps) qs (more {middle = next} is rest) =
    let both = apart_both c (at_row_behind p at_row) next to ps qs rest in
    record {
      middle = both.middle;
      after_row = both.after_row;
      first = more is both.first;
      second = both.second;
    }

pub none_end : (c : LaidCode) (at_row : Bool) (at to : ℕ) → LieApart c at_row at [] to → at ≡ to
none_end c at_row at to none = refl

-- the first piece, and those behind it
pub record First (c : LaidCode) (at_row : Bool) (at : ℕ) (p : Piece) (ps : List Piece) (to : ℕ) : Type 0 where
  pub middle : ℕ
  pub is : IsAtApart c at_row at p middle
  pub rest : LieApart c (at_row_behind p at_row) middle ps to

pub first_apart : (c : LaidCode) (at_row : Bool) (at : ℕ) (p : Piece) (ps : List Piece) (to : ℕ)
    → LieApart c at_row at (p ∷ ps) to → First c at_row at p ps to
first_apart c at_row at p ps to (more {middle = middle} is rest) = record { middle = middle; is = is; rest = rest }

direct_is : (c : LaidCode) (at_row : Bool) (at : ℕ) (f : Fun) (e : ℤ) (to : ℕ) → IsAtApart c at_row at (Direct f e) to
    → IsAt c at (Direct f e) to
direct_is c true at f e to is = is
direct_is c false at f e to is = is

table_is : (c : LaidCode) (at_row : Bool) (at : ℕ) (values : List ℤ) (to : ℕ)
    → IsAtApart c at_row at (TableAddress values) to → IsAt c at (TableAddress values) to
table_is c true at values to is = is
table_is c false at values to is = is

pub straight_lie : (c : LaidCode) (at_row : Bool) (at to : ℕ) (ps : List Piece) → AreStraight ps
    → LieApart c at_row at ps to → Lie c at ps to
straight_lie c at_row at to [] are none = laid.none
straight_lie c at_row at to (Direct f e ∷ ps) are (more {middle = next} is rest) =
    laid.more (direct_is c at_row at f e next is) (straight_lie c false next to ps are.1 rest)
straight_lie c at_row at to (TableAddress values ∷ ps) are (more {middle = next} is rest) =
    laid.more (table_is c at_row at values next is) (straight_lie c false next to ps are.1 rest)
straight_lie c at_row at to (p ∷ ps) are lie = absurd are.0

-- ---- offsets rise

fetched_rises : {code : List ℕ} {at to : ℕ} {f : Fun} {e : ℤ} → Fetches code at f e to → at ≤ to
fetched_rises x = let ends = x.ends in omega (arith, ends)

there_rises : (c : LaidCode) (at : ℕ) (p : Piece) (to : ℕ) → IsAt c at p to → at ≤ to
there_rises c at (Direct f e) to is = fetched_rises is
there_rises c at (Jump l) to is = fetched_rises is.fetches
there_rises c at (JumpUnless l) to is = fetched_rises is.fetches
there_rises c at (LoopBack head behind) to is =
    let first = fetched_rises is.loads in
    let second = fetched_rises is.loops in
    omega (arith, first, second)
there_rises c at (Distance from end) to is = fetched_rises is
there_rises c at (StartBranch entry successor) to is = fetched_rises is
there_rises c at (Select targets) to is = fetched_rises is
there_rises c at (TableAddress values) to is =
    let first = fetched_rises is.loads in
    let last = fetched_rises is.points in
    elim is.fills [
      | inl same ↦ omega (arith, first, last, same)
      | inr filled ↦ let between = fetched_rises filled in omega (arith, first, last, between)
    ]
there_rises c at (Row l entries) to is = let same = is.0 in omega (arith, same)
there_rises c at (Place l) to is = let same = is.0 in omega (arith, same)
there_rises c at (Within workspace) to is = let same = is.0 in omega (arith, same)
there_rises c at (Par par) to is = omega (arith, is)

piece_rises : (c : LaidCode) (at_row : Bool) (at : ℕ) (p : Piece) (to : ℕ) → IsAtApart c at_row at p to → at ≤ to
piece_rises c true at (Row l entries) to is = there_rises c at (constant (pos 0)) to is.0
piece_rises c true at p to is = there_rises c at p to is
piece_rises c false at p to is = there_rises c at p to is

pub apart_rises : (c : LaidCode) (at_row : Bool) (at to : ℕ) (ps : List Piece) → LieApart c at_row at ps to → at ≤ to
apart_rises c at_row at to [] none = omega arith
apart_rises c at_row at to (p ∷ ps) (more {middle = next} is rest) =
    let first = piece_rises c at_row at p next is in
    let second = apart_rises c (at_row_behind p at_row) next to ps rest in
    omega (arith, first, second)

-- ---- a row is gone over

-- the process comes behind a row, with what it holds in memory
pub record Passes (c : LaidCode) (at l to : ℕ) (before : Held) : Type 0 where
  pub after : Held
  pub goes : GoesTo c (point at before) (point to after)
  pub same : after.memory ≡ before.memory
  pub label : c.labels l ≡ to

pub row_passes : (c : LaidCode) (at_row : Bool) (at l : ℕ) (entries : List RowEntry) (to : ℕ) (h : Held)
    → IsAtApart c at_row at (Row l entries) to → Passes c at l to h
row_passes c false at l entries to h is = record {
  after = h;
  goes = subst (λ n. GoesTo c (point at h) (point n h)) is.0 there;
  same = refl;
  label = is.1;
}
row_passes c true at l entries to h is = record {
  after = with_pushed (pos 0) h;
  goes = straight_goes c (laid.more is.0 laid.none) (constants_are_pushed c.footing (pos 0) h);
  same = refl;
  label = is.1;
}

-- ---- single pieces

pub row_lies : (c : LaidCode) (at_row : Bool) (at l : ℕ) (entries : List RowEntry) (to : ℕ)
    → LieApart c at_row at (Row l entries ∷ []) to → IsAtApart c at_row at (Row l entries) to
row_lies c at_row at l entries to (more is none) = is

-- a jump is no row
jump_is : (c : LaidCode) (at_row : Bool) (at l : ℕ) (to : ℕ) → IsAtApart c at_row at (Jump l) to
    → Reaches c at fun.Jump l to
jump_is c true at l to is = is
jump_is c false at l to is = is

test_is : (c : LaidCode) (at_row : Bool) (at l : ℕ) (to : ℕ) → IsAtApart c at_row at (JumpUnless l) to
    → Reaches c at fun.ConditionalJump l to
test_is c true at l to is = is
test_is c false at l to is = is

pub jump_lies : (c : LaidCode) (at_row : Bool) (at l to : ℕ) → LieApart c at_row at (JumpUnless l ∷ []) to
    → Reaches c at fun.ConditionalJump l to
jump_lies c at_row at l to (more is none) = test_is c at_row at l to is

-- a jump to a label, and a row with another one
pub jump_and_row : (c : LaidCode) (at_row : Bool) (at end l : ℕ) (entries : List RowEntry) (to : ℕ)
    → LieApart c at_row at (Jump end ∷ Row l entries ∷ []) to
    → (middle : ℕ) × Reaches c at fun.Jump end middle × (c.labels l ≡ to)
jump_and_row c at_row at end l entries to (more {middle = middle} jump (more row none)) =
    (middle, jump_is c at_row at end middle jump, row.1)

-- the end of a loop, right behind which its label is
pub record LoopEnd (c : LaidCode) (at word head behind l to : ℕ) : Type 0 where
  pub second : ℕ
  pub third : ℕ
  pub points : Lie c at (points word ∷ []) second
  pub back : LoopsBack c second head behind third
  pub same : third ≡ to
  pub label : c.labels l ≡ to

loop_is : (c : LaidCode) (at_row : Bool) (at head behind to : ℕ) → IsAtApart c at_row at (LoopBack head behind) to
    → LoopsBack c at head behind to
loop_is c true at head behind to is = is
loop_is c false at head behind to is = is

pub loop_lies : (c : LaidCode) (at_row : Bool) (at word head behind l : ℕ) (entries : List RowEntry) (to : ℕ)
    → LieApart c at_row at (points word ∷ LoopBack head behind ∷ Row l entries ∷ []) to
    → LoopEnd c at word head behind l to
loop_lies c at_row at word head behind l entries to
    (more {middle = second} points_there (more {middle = third} back (more row none))) = record {
      second = second;
      third = third;
      points = laid.more (direct_is c at_row at fun.LoadLocalPointer (pos (counted word)) second points_there) laid.none;
      back = loop_is c false second head behind third back;
      same = row.0;
      label = row.1;
    }

-- after an instruction a row is not kept apart
pub stop_lies : (c : LaidCode) (at_row : Bool) (at to l : ℕ) (entries : List RowEntry)
    → LieApart c at_row at (operates STOP_PROCESS ∷ Row l entries ∷ []) to
    → Lie c at (operates STOP_PROCESS ∷ Row l entries ∷ []) to
stop_lies c at_row at to l entries (more {middle = middle} stop (more row none)) =
    laid.more (direct_is c at_row at fun.Operate STOP_PROCESS middle stop) (laid.more row laid.none)
