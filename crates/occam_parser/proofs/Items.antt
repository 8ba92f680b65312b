-- What was read, pushed.
use Rattle.std.proofs.Common.{◌≡◌, ℕ, ◌≤◌, ◌∷◌, ◌++◌, [], List, length, Option, Some}
use Rattle.std.proofs.Common.{Result, Ok, Err, sym, ap, subst, ◌∙◌}
use Rattle.std.specs.Prelude.{IfOk}
use Rattle.std.specs.Borrow.{Bor}
use Rattle.occam_layout.specs.declared.token.Line.{Line}
use Rattle.occam_parser.specs.declared.fault.Refusal.{Refusal}
use Rattle.occam_parser.specs.Blocks.{Row, rows_of}
use Rattle.occam_parser.specs.LineFaults.{Lacks, Tells, Pushes}

pub pushed_lost : {A Y : Type 0} (view : A × Bor (List Line) → Y) (read : Result (A × Bor (List Line)) Refusal)
    (old new : List A) (t : Refusal) (got : Option Y) → Pushes read old new (Err t) → Tells view read got → Lacks t got
pushed_lost view (Err e) old new t got pushes told =
    let same : e ≡ t = cc pushes in subst (λ (u : Refusal). Lacks u got) same told
pushed_lost view (Ok x) old new t got pushes told = subst (λ (u : Refusal). Lacks u got) (sym pushes) tt

-- the item that was pushed
pub pushed_found : {A Y : Type 0} (view : A → Y) (read : Result (A × Bor (List Line)) Refusal) (old new : List A)
    (rest : Bor (List Line)) (n : ℕ) (got : Option (Y × List Row)) → Pushes read old new (Ok rest)
    → Tells (λ x. (view x.0, rows_of x.1.now)) read got → IfOk read (λ x. length x.1.now ≤ n)
    → (x : A) × (new ≡ old ++ x ∷ []) × (got ≡ Some (view x, rows_of rest.now)) × (length rest.now ≤ n)
pushed_found view (Err e) old new rest n got pushes told within = absurd (cc pushes)
pushed_found {A} {Y} view (Ok x) old new rest n got pushes told within = (
  x.0,
  pushes.0,
  told ∙ ap (λ (us : List Line). Some (view x.0, rows_of us)) (sym pushes.1),
  subst (λ (us : List Line). length us ≤ n) (sym pushes.1) within,
)
