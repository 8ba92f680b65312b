-- Tables, one of which may be added.
use Rattle.std.proofs.Common.{◌≡◌, ◌≤◌, ◌+◌, ℤ, Bool, true, false, List, [], ◌∷◌, ◌++◌, length, refl, ap, arith, subst}
use Rattle.std.specs.Prelude.{◌&&◌, if◌then◌else◌}
use Rattle.std.specs.Cmp.Lexicographic.{pointwise}
use Rattle.std.specs.Ordering.{int_eq}
use Rattle.std.proofs.lemmas.List.{length-append}
use Rattle.std.proofs.lemmas.List.Sums.{sum_by-append}
use Rattle.code_pieces.specs.Pieces.{Piece, Direct, Jump, JumpUnless, LoopBack, Distance, StartBranch, Select}
use Rattle.code_pieces.specs.Pieces.{TableAddress, Row, Place, Within, Par}
use Rattle.code_pieces.specs.Laying.{are_same, with_table, tables_before}
use Rattle.code_pieces.specs.Tables.{has_table, value_count, TablesAreWithin}

-- `==` of slices is that of tables
pub pointwise_same : (xs ys : List ℤ) → pointwise int_eq xs ys ≡ are_same xs ys
pointwise_same [] [] = refl
pointwise_same [] (y ∷ ys) = refl
pointwise_same (x ∷ xs) [] = refl
pointwise_same (x ∷ xs) (y ∷ ys) = ap (λ b. int_eq x y && b) (pointwise_same xs ys)

added_behind : (first others : Bool) (t : List ℤ) (ts more new : List (List ℤ))
    → more ≡ (if others then ts else ts ++ new)
    → (if first then t ∷ ts else t ∷ more)
    ≡ (if (if first then true else others) then t ∷ ts else t ∷ ts ++ new)
added_behind true others t ts more new h = refl
added_behind false true t ts more new h = ap (λ rest. t ∷ rest) h
added_behind false false t ts more new h = ap (λ rest. t ∷ rest) h

-- a table that is new comes last
pub with_table_is : (values : List ℤ) (ts : List (List ℤ))
    → with_table values ts ≡ (if has_table ts values then ts else ts ++ values ∷ [])
with_table_is values [] = refl
with_table_is values (t ∷ ts) =
    added_behind (are_same t values) (has_table ts values) t ts (with_table values ts) (values ∷ [])
    (with_table_is values ts)

-- a table that is there already is not added
pub with_known : (values : List ℤ) (ts : List (List ℤ)) → has_table ts values ≡ true → with_table values ts ≡ ts
with_known values ts known =
    subst (λ (b : Bool). with_table values ts ≡ (if b then ts else ts ++ values ∷ [])) known (with_table_is values ts)

pub with_new : (values : List ℤ) (ts : List (List ℤ)) → has_table ts values ≡ false
    → with_table values ts ≡ ts ++ values ∷ []
with_new values ts new =
    subst (λ (b : Bool). with_table values ts ≡ (if b then ts else ts ++ values ∷ [])) new (with_table_is values ts)

-- how many tables and values there are with one more
pub one_more : (values : List ℤ) (ts : List (List ℤ)) → (length (ts ++ values ∷ []) ≡ length ts + 1)
    × (value_count (ts ++ values ∷ []) ≡ value_count ts + length values)
one_more values ts = (
  omega (arith, length-append ts (values ∷ [])),
  omega (arith, sum_by-append (λ (t : List ℤ). length t) ts (values ∷ [])),
)

grown : (known : Bool) (values : List ℤ) (ts all : List (List ℤ)) → all ≡ (if known then ts else ts ++ values ∷ [])
    → (length ts ≤ length all) × (value_count ts ≤ value_count all)
grown true values ts all e = (omega (arith, ap length e), omega (arith, ap value_count e))
grown false values ts all e = (
  omega (arith, ap length e, length-append ts (values ∷ [])),
  omega (arith, ap value_count e, sum_by-append (λ (t : List ℤ). length t) ts (values ∷ [])),
)

-- tables that are within the limits were so before one was added
pub within_without : (values : List ℤ) (ts : List (List ℤ)) → TablesAreWithin (with_table values ts)
    → TablesAreWithin ts
within_without values ts w =
    let more = grown (has_table ts values) values ts (with_table values ts) (with_table_is values ts) in
    record { few = omega arith; short = omega arith }

-- tables that are within the limits were so before others were read
pub within_before : (ts : List (List ℤ)) (ps : List Piece) → TablesAreWithin (tables_before ts ps) → TablesAreWithin ts
within_before ts [] w = w
within_before ts (TableAddress values ∷ ps) w = within_without values ts (within_before (with_table values ts) ps w)
within_before ts (Direct f n ∷ ps) w = within_before ts ps w
within_before ts (Jump to ∷ ps) w = within_before ts ps w
within_before ts (JumpUnless to ∷ ps) w = within_before ts ps w
within_before ts (LoopBack head behind ∷ ps) w = within_before ts ps w
within_before ts (Distance from to ∷ ps) w = within_before ts ps w
within_before ts (StartBranch entry successor ∷ ps) w = within_before ts ps w
within_before ts (Select targets ∷ ps) w = within_before ts ps w
within_before ts (Row l entries ∷ ps) w = within_before ts ps w
within_before ts (Place l ∷ ps) w = within_before ts ps w
within_before ts (Within workspace ∷ ps) w = within_before ts ps w
within_before ts (Par par ∷ ps) w = within_before ts ps w
