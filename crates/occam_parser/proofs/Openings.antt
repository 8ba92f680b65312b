-- The lines before a construct, one by one.
use Rattle.std.proofs.Common.{◌≡◌, ℕ, Bool, true, false, cond, List, [], ◌∷◌, ◌++◌, Option, Some, None, refl}
use Rattle.std.proofs.Common.{ap, ◌∙◌}
use Rattle.occam_parser.specs.declared.head.Start as start_type
use Rattle.occam_parser.specs.declared.head.Start.TheVariants as start
use Rattle.occam_parser.specs.Lines.{Declaration, Declares}
use Rattle.occam_parser.specs.LineReading.{head_at}
use Rattle.occam_parser.specs.LineViews.{start_of}
use Rattle.occam_parser.specs.Blocks.{Row}
use Rattle.occam_parser.specs.BlockReading.{is_at, first_row, Beginning, begun, beginning_from}
use Rattle.occam_parser.proofs.Turns.{first_row_is}

none_if : (b : Bool) (level : ℕ) (found : List Declaration) (r : Row) (rows : List Row) → is_at level r ≡ b
    → cond {A = Option (Row × List Row)} b (Some (r, rows)) None ≡ None → beginning_from level found (r ∷ rows) ≡ None
unfolding beginning_from
none_if true level found r rows b e = absurd (cc)
none_if false level found r rows b e = ap (λ c. cond c
    (begun found r.number rows (λ more. beginning_from level more rows) (head_at r.number r.terminals)) None) b

pub opening_none : (level : ℕ) (found : List Declaration) (rows : List Row) → first_row level rows ≡ None
    → beginning_from level found rows ≡ None
unfolding beginning_from
opening_none level found [] e = refl
opening_none level found (r ∷ rows) e = none_if (is_at level r) level found r rows refl e

pub opening_is : (level : ℕ) (found : List Declaration) (r : Row) (rows : List Row) → is_at level r ≡ true
    → beginning_from level found (r ∷ rows) ≡ begun found r.number rows (λ more. beginning_from level more rows)
    (head_at r.number r.terminals)
unfolding beginning_from
opening_is level found r rows e = ap (λ b. cond b
    (begun found r.number rows (λ more. beginning_from level more rows) (head_at r.number r.terminals)) None) e

begun_start : (found : List Declaration) (line : ℕ) (rows : List Row)
    (more : List Declaration → Option (Beginning × List Row)) (s : start_type.Start)
    → begun found line rows more (Some (start_of s)) ≡ Some
    (record { declarations = found; line = line; start = start_of s }, rows)
begun_start found line rows more (start.Action a) = refl
begun_start found line rows more (start.Block kind replicator) = refl

pub opening_starts : (level : ℕ) (found : List Declaration) (r : Row) (rows : List Row) (s : start_type.Start)
    → is_at level r ≡ true → head_at r.number r.terminals ≡ Some (start_of s)
    → beginning_from level found (r ∷ rows) ≡ Some
    (record { declarations = found; line = r.number; start = start_of s }, rows)
opening_starts level found r rows s a e =
    opening_is level found r rows a ∙ ap (begun found r.number rows (λ more. beginning_from level more rows))
    e ∙ begun_start found r.number rows (λ more. beginning_from level more rows) s

pub opening_declares : (level : ℕ) (found : List Declaration) (r : Row) (rows : List Row) (d : Declaration)
    → is_at level r ≡ true → head_at r.number r.terminals ≡ Some (Declares d)
    → beginning_from level found (r ∷ rows) ≡ beginning_from level (found ++ d ∷ []) rows
opening_declares level found r rows d a e = opening_is level found r rows a ∙ ap
    (begun found r.number rows (λ more. beginning_from level more rows)) e

pub opening_fails : (level : ℕ) (found : List Declaration) (r : Row) (rows : List Row) → is_at level r ≡ true
    → head_at r.number r.terminals ≡ None → beginning_from level found (r ∷ rows) ≡ None
opening_fails level found r rows a e = opening_is level found r rows a ∙ ap
    (begun found r.number rows (λ more. beginning_from level more rows)) e

-- the line that was found comes first
pub opening_first : (level : ℕ) (found : List Declaration) (rows rest : List Row) (r : Row)
    → first_row level rows ≡ Some (r, rest) → (is_at level r ≡ true) ×
    (beginning_from level found rows ≡ beginning_from level found (r ∷ rest))
opening_first level found rows rest r e = let h =
    first_row_is level rows r rest e in (h.1, ap (beginning_from level found) h.0)
