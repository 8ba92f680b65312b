-- What an instance passes: the code before and after the body of its procedure, and where its formals are.
use Rattle.std.specs.Prelude.{ℕ, suc, nat_eq, ℤ, Bool, ◌||◌, List, [], ◌∷◌, ◌++◌, map, if◌then◌else◌}
use Rattle.std.specs.Prelude.{Option, Some, None, option_map}
use Rattle.word_arithmetic.specs.Range.{Ends, full}
use Rattle.occam_parser.specs.Expressions.{Expression}
use Rattle.occam_parser.specs.Lines.{Place}
use Rattle.scalar_ranges.specs.declared.scope.ScalarKind.TheVariants as kinds
use Rattle.scalar_ranges.specs.declared.scope.ArrayKind.TheVariants as arrays
use Rattle.scalar_ranges.specs.Entries.{Meaning, Scalar, Array, Entry, type_range, meaning_in}
use Rattle.scalar_ranges.specs.Environments.{item_at}
use Rattle.program_uses.specs.Instances.{place_in}
use Rattle.program_uses.specs.Signatures.{Parameter}
use Rattle.code_pieces.specs.declared.piece.RowEntry.{RowEntry}
use Rattle.code_pieces.specs.Pieces.{Piece, stores}
use Rattle.line_pieces.specs.Homes.{Home, Nowhere, Word, Table, Passed, is_in}
use Rattle.line_pieces.specs.Declarations.{Frame, with_home, with_words}
use Rattle.line_pieces.specs.Expressions.{expression_code}
use Rattle.line_pieces.specs.Actions.{Target, NoTarget, OwnWord, target_of, channel_home, cleaned}

-- ---- formals

abbrev pub meaning_at : ℕ → List Parameter → Option Meaning
meaning_at i qs = option_map (λ q. q.meaning) (item_at i qs)

-- A table that is passed has words of its own, with the ends of its type's range in two more behind it. So what a row
-- says of it is what is known of an element in the procedure.
abbrev pub with_ends : Ends → List ℤ → List ℤ
with_ends r values = values ++ r.lo ∷ r.hi ∷ []

-- what is passed, as the procedure has it, by what it is and where; a table that was passed before stays as it is
abbrev pub as_passed : Option Meaning → Option Home → Home
as_passed m None = Nowhere
as_passed m (Some (Word w)) = Passed w
as_passed (Some (Array arrays.Table type size range)) (Some (Table values)) =
    Table (with_ends (type_range type) values)
as_passed m (Some h) = h

abbrev pub passed_place : List Home → List Entry → Option Place → Home
passed_place hs es None = Nowhere
passed_place hs es (Some p) = as_passed (meaning_in p.name es) (channel_home hs es p)

abbrev pub passed_home : List Home → List Entry → Expression → Home
passed_home hs es e = passed_place hs es (place_in e)

-- The value of a VAL scalar is stored in the first word that is free, which then is its own.
abbrev pub binding_code : List Home → List Entry → Option Meaning → Expression → ℕ → List Piece
binding_code hs es (Some (Scalar kinds.Value type range)) e top = expression_code hs es top e ++ stores top ∷ []
binding_code hs es m e top = []

abbrev pub bound : List Home → List Entry → Option Meaning → Expression → Frame → Frame
bound hs es (Some (Scalar kinds.Value type range)) e f = with_words 1 f
bound hs es m e f = with_home (passed_home hs es e) f

-- each actual from a place on, with the parameter at its place; the frame is that of the procedure so far
abbrev pub bindings_code : List Home → List Entry → List Parameter → ℕ → List Expression → Frame → List Piece
bindings_code hs es qs i [] f = []
bindings_code hs es qs i (e ∷ actuals) f =
    binding_code hs es (meaning_at i qs) e f.top
    ++ bindings_code hs es qs (suc i) actuals (bound hs es (meaning_at i qs) e f)

abbrev pub all_bound : List Home → List Entry → List Parameter → ℕ → List Expression → Frame → Frame
all_bound hs es qs i [] f = f
all_bound hs es qs i (e ∷ actuals) f = all_bound hs es qs (suc i) actuals (bound hs es (meaning_at i qs) e f)

-- ---- variables that are passed

-- the scalar that an actual is, if its parameter is a variable
abbrev pub target_if : List Home → List Entry → ℕ → Option Place → Target
target_if hs es t None = NoTarget
target_if hs es t (Some p) = target_of hs es t p

abbrev pub passed_target : List Home → List Entry → ℕ → Option Meaning → Expression → Target
passed_target hs es t (Some (Scalar kinds.Reference type range)) e = target_if hs es t (place_in e)
passed_target hs es t m e = NoTarget

-- nothing is known of the number in a word
abbrev pub unknown_at : ℕ → RowEntry → RowEntry
unknown_at w r = if nat_eq r.word w then is_in w 1 full else r

abbrev pub forgotten : Target → List RowEntry → List RowEntry
forgotten (OwnWord type w) rs = map (unknown_at w) rs
forgotten other rs = rs

-- what is known outside of a procedure, of what was known where it is called
abbrev pub all_forgotten : List Home → List Entry → ℕ → List Parameter → ℕ → List Expression → List RowEntry
    → List RowEntry
all_forgotten hs es t qs i [] rs = rs
all_forgotten hs es t qs i (e ∷ actuals) rs =
    all_forgotten hs es t qs (suc i) actuals (forgotten (passed_target hs es t (meaning_at i qs) e) rs)

-- nothing is known of the number in a word that is one of these
abbrev pub unknown_in : (ℕ → Bool) → RowEntry → RowEntry
unknown_in words r = if words r.word then is_in r.word 1 full else r

-- the words of targets are these and that of one target more
abbrev pub with_target : Target → (ℕ → Bool) → ℕ → Bool
with_target (OwnWord type w) words v = nat_eq v w || words v
with_target other words v = words v

-- Behind the body a BYTE scalar that was passed as a variable has its byte alone again.
abbrev pub cleaning_code : List Home → List Entry → ℕ → List Parameter → ℕ → List Expression → List Piece
cleaning_code hs es t qs i [] = []
cleaning_code hs es t qs i (e ∷ actuals) =
    cleaned (passed_target hs es t (meaning_at i qs) e) ++ cleaning_code hs es t qs (suc i) actuals
