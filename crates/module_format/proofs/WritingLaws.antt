-- What writing needs of valid contents.
use Rattle.std.proofs.Common.{◌≡◌, ℕ, ◌<◌, ◌^◌, arith, length, List, [], ◌∷◌, ◌++◌, map, All, append_assoc, Bool, false}
use Rattle.std.specs.Prelude.{⊤}
use Rattle.std.specs.List.{AllByRecursion}
use Rattle.std.proofs.lemmas.List.Elements.{All-from_recursion}
use Rattle.module_format.specs.Contents.{Procedure, Label, Par, Contents}
use Rattle.module_format.specs.Contexts.{first_branch}
use Rattle.module_format.specs.Facts.{LabelKeeps, behind_label}
use Rattle.module_format.specs.Procedures.{ProcedureKeeps, behind_procedure}
use Rattle.module_format.specs.Pars.{Before, BranchKeeps, behind_branch, ParKeeps, behind_par, no_branches}
use Rattle.module_format.specs.Keeping.{RowsKeep}
use Rattle.module_format.specs.Writable.{BranchIsWritable, ParIsWritable}
use Rattle.module_format.proofs.OrderLaws.{each}

-- what one call wrote after the bytes from before, unless memory ran out
pub record Piece (started : Bool) (before piece : List ℕ) (done : Bool) (after : List ℕ) : Type 0 where
  pub wrote : done ≡ false → (started ≡ false) × (after ≡ before ++ piece)

pub piece : (before p : List ℕ) {started done : Bool} {after : List ℕ}
    → (done ≡ false → (started ≡ false) × (after ≡ before ++ p)) → Piece started before p done after
piece before p wrote = record { wrote = wrote }

-- one piece after another
infixl 10 ◌>>◌
pub ◌>>◌ : {before p q between after : List ℕ} {started half done : Bool}
    → Piece started before p half between → Piece half between q done after → Piece started before (p ++ q) done after
◌>>◌ {before = before} {p = p} {q = q} e f = record {
  wrote = λ ok.
      let second = f.wrote ok in
      let first = e.wrote second.0 in
      (first.0, rw (second.1, first.1) (append_assoc before p q));
}

unmapped : {A B : Type 0} (view : A → B) (Fits : B → Type 0) (xs : List A) → AllByRecursion Fits (map view xs)
    → AllByRecursion (λ x. Fits (view x)) xs
unmapped view Fits [] h = tt
unmapped view Fits (x ∷ xs) h = (h.0, unmapped view Fits xs h.1)

-- the item at an index fits where all do
pub item_fits : {A B : Type 0} (view : A → B) (Fits : B → Type 0) (xs : List A) → AllByRecursion Fits (map view xs)
    → All (λ x. Fits (view x)) xs
item_fits view Fits xs h = All-from_recursion (λ x. Fits (view x)) xs (unmapped view Fits xs h)

-- ---- valid rows can be written

pub nothing_asked : {A : Type 0} (xs : List A) → AllByRecursion (λ (x : A). ⊤) xs
nothing_asked [] = tt
nothing_asked (x ∷ xs) = (tt, nothing_asked xs)

pub procedures_writable : (c : Contents) → RowsKeep c
    → AllByRecursion (λ (row : Procedure). length row.parameters < 2 ^ 16) c.procedures
procedures_writable c k =
    each (ProcedureKeeps (length c.code)) behind_procedure (λ row. length row.parameters < 2 ^ 16)
    (λ low row h. omega (arith, h.few)) 0 c.procedures k.procedures

pub labels_writable : (c : Contents) → RowsKeep c
    → AllByRecursion (λ (row : Label). length row.entries < 2 ^ 16) c.labels
labels_writable c k = each (LabelKeeps (length c.code) c.procedures) behind_label (λ row. length row.entries < 2 ^ 16)
    (λ low row h. h.facts.count_fits) 0 c.labels k.labels

par_writable : (own code_len : ℕ) (before : Before) (row : Par) → ParKeeps own code_len before row → ParIsWritable row
par_writable own code_len before row h =
    record {
      channels = h.channel_count;
      branch_count = omega (arith, h.branch_limit);
      branches = each (BranchKeeps code_len) behind_branch BranchIsWritable
          (λ low b kept. kept.gifts.counts) before row.branches h.branches;
    }

pub pars_writable : (c : Contents) → RowsKeep c → AllByRecursion ParIsWritable c.pars
pars_writable c k = each (ParKeeps (first_branch c) (length c.code)) behind_par ParIsWritable
    (par_writable (first_branch c) (length c.code)) no_branches c.pars k.pars
