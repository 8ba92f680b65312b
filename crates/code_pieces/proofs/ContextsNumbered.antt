-- The numbers of contexts, and the PAR rows of a draft, by its PARs.
use Rattle.std.proofs.Common.{◌≡◌, ℕ, ◌+◌, Bool, true, false, List, [], ◌∷◌, length, map, take, Option, Some, None}
use Rattle.std.proofs.Common.{option_map, refl, sym, ap, ◌∙◌, arith}
use Rattle.std.specs.Prelude.{IsSome, unwrap_or, if◌then◌else◌, nat_lt, slice_get}
use Rattle.std.specs.List.{AllByRecursion, cons_option, sum, sum_by}
use Rattle.std.proofs.lemmas.Bool.{le-ltb}
use Rattle.std.proofs.lemmas.List.{length-map}
use Rattle.std.proofs.lemmas.List.Sums.{sum-map}
use Rattle.std.proofs.lemmas.Option.{slice_get-map}
use Rattle.std.proofs.lemmas.Simd.{map-map}
use Rattle.small_laws.proofs.Mapped.{map_same}
use Rattle.module_format.specs.Contents as contents
use Rattle.module_format.specs.declared.rows.BranchRow.{BranchRow}
use Rattle.module_format.specs.declared.rows.ParRow.{ParRow}
use Rattle.module_builder.specs.declared.limits.TheConstants.{MAX_CONTEXTS}
use Rattle.module_builder.specs.declared.item.Label.{Label}
use Rattle.module_builder.specs.declared.draft.ContextName.{ContextName}
use Rattle.module_builder.specs.declared.draft.ContextName.TheVariants.{Root, Procedure, Branch}
use Rattle.module_builder.specs.declared.draft.Draft.{Draft}
use Rattle.module_builder.specs.Limits as limits
use Rattle.module_builder.specs.Placing.{placed_branch, placed_par}
use Rattle.module_builder.specs.Ordering.{rows_in, position}
use Rattle.module_builder.specs.Assembled as assembled
use Rattle.module_builder.specs.Assembled.{IsThere, number_in, entry_of, first_entry}
use Rattle.code_pieces.specs.Pars as pars
use Rattle.code_pieces.specs.Pars.{Par}
use Rattle.code_pieces.specs.DraftedPars.{laid_branch, laid_par, AreRows}
use Rattle.code_pieces.specs.LaidModule.{branch_count, name_number, first_branch}

-- ---- lists

one_mapped : {X Y : Type 0} (f : X → Y) (o : Option X) (xs : List X)
    → map f (cons_option o xs) ≡ cons_option (option_map f o) (map f xs)
one_mapped f None xs = refl
one_mapped f (Some x) xs = refl

-- rows in an order, each changed
rows_mapped : {X Y : Type 0} (f : X → Y) (order : List (ℕ × ℕ)) (rows : List X)
    → map f (rows_in order rows) ≡ rows_in order (map f rows)
rows_mapped f [] rows = refl
rows_mapped f (pair ∷ order) rows =
    one_mapped f (slice_get rows pair.1) (rows_in order rows)
    ∙ (λ j. cons_option (sym (slice_get-map f rows pair.1) j) (rows_mapped f order rows j))

-- two lists that become the same do so in each order
pub both_mapped : {X Y Z : Type 0} (f : X → Z) (g : Y → Z) (order : List (ℕ × ℕ)) (xs : List X) (ys : List Y)
    → map f xs ≡ map g ys → map f (rows_in order xs) ≡ map g (rows_in order ys)
both_mapped f g order xs ys e =
    rows_mapped f order xs ∙ ap (λ zs. rows_in order zs) e ∙ sym (rows_mapped g order ys)

mapped_sum : {X Y : Type 0} (f : X → Y) (m : Y → ℕ) (n : X → ℕ) → ((x : X) → m (f x) ≡ n x) → (xs : List X)
    → sum_by m (map f xs) ≡ sum_by n xs
mapped_sum f m n e xs =
    sym (sum-map m (map f xs)) ∙ ap sum (map-map m f xs ∙ map_same xs e) ∙ sum-map n xs

-- ---- PAR rows

-- the row of a file, where no context has a number
placed : List (Option ℕ) → ParRow Label ContextName → contents.Par
placed offsets row = placed_par offsets 0 row

laid : List (Option ℕ) → Par → contents.Par
laid offsets p = laid_par (λ context. 0) offsets p

-- rows have as many branches as PARs have
as_many : (all ps : List Par) (rows : List (ParRow Label ContextName)) (order : List (ℕ × ℕ)) → AreRows all ps rows
    → limits.branch_count (rows_in order rows) ≡ branch_count (rows_in order ps)
unfolding placed laid
as_many all ps rows order are =
    let size = λ (p : contents.Par). length p.branches in
    sym (mapped_sum (placed []) size (λ row. length row.branches.items)
    (λ row. length-map row.branches.items (placed_branch [])) (rows_in order rows))
    ∙ ap (λ cs. sum_by size cs) (both_mapped (placed []) (laid []) order rows ps (are (λ name. 0) []))
    ∙ mapped_sum (laid []) size (λ p. length p.branches)
    (λ p. length-map p.branches (laid_branch [])) (rows_in order ps)

first_of_branches : List contents.Branch → ℕ
first_of_branches [] = 0
first_of_branches (b ∷ bs) = b.entry

first_placed : (offsets : List (Option ℕ)) (bs : List (BranchRow Label))
    → entry_of offsets (slice_get bs 0) ≡ first_of_branches (map (placed_branch offsets) bs)
unfolding first_of_branches
first_placed offsets [] = refl
first_placed offsets (b ∷ bs) = refl

first_laid : (offsets : List (Option ℕ)) (bs : List pars.ParBranch)
    → first_branch offsets bs ≡ first_of_branches (map (laid_branch offsets) bs)
unfolding first_of_branches
first_laid offsets [] = refl
first_laid offsets (b ∷ bs) = refl

-- and they begin at the same places
pub same_entries : (all ps : List Par) (rows : List (ParRow Label ContextName)) (offsets : List (Option ℕ))
    → AreRows all ps rows
    → map (first_entry offsets) rows ≡ map (λ (p : Par). first_branch offsets p.branches) ps
unfolding placed laid
same_entries all ps rows offsets are =
    let first = λ (p : contents.Par). first_of_branches p.branches in
    map_same {f = first_entry offsets} {g = λ row. first (placed offsets row)} rows
    (λ row. first_placed offsets row.branches.items)
    ∙ sym (map-map first (placed offsets) rows)
    ∙ ap (λ cs. map first cs) (are (λ name. 0) offsets)
    ∙ map-map first (laid offsets) ps
    ∙ sym (map_same {f = λ (p : Par). first_branch offsets p.branches} {g = λ p. first (laid offsets p)} ps
    (λ p. first_laid offsets p.branches))

-- ---- numbers

nothing_there : (o : Option ℕ) → IsSome o → o ≡ None → ⊥
nothing_there (Some n) there e = cc
nothing_there None there e = cc

no_procedure : {X : Type 0} (row number : ℕ) (rows : List X) → rows ≡ []
    → IsSome (if nat_lt row (length rows) then assembled.nameable number else None) → ⊥
no_procedure row number rows e there =
    let none : length rows ≡ 0 = ap (λ xs. length xs) e in
    let past : nat_lt row (length rows) ≡ false = le-ltb row (length rows) (omega arith) in
    nothing_there (if nat_lt row (length rows) then assembled.nameable number else None) there
    (ap (λ (b : Bool). if b then assembled.nameable number else None) past)

number_is : (b c : Bool) (n : ℕ) → IsSome (if b then (if c then Some n else None) else None)
    → unwrap_or (if b then (if c then Some n else None) else None) 0 ≡ n
number_is true true n there = refl
number_is true false n there = cc
number_is false c n there = cc

branch_is : (first branch : ℕ) (row : Option (ParRow Label ContextName))
    → IsSome (assembled.branch_number first branch row)
    → unwrap_or (assembled.branch_number first branch row) 0 ≡ first + branch
branch_is first branch None there = cc
branch_is first branch (Some row) there =
    number_is (nat_lt branch (length row.branches.items)) (nat_lt (first + branch) MAX_CONTEXTS) (first + branch) there

-- the number of a context that is there
pub numbered_as : (all ps : List Par) (d : Draft) (a : assembled.Arrangement) → d.procedures.items ≡ []
    → AreRows all ps d.pars.items → (name : ContextName) → IsThere d a.procedures a.pars name
    → number_in d a name ≡ name_number ps a.pars name
numbered_as all ps d a none are Root there = refl
numbered_as all ps d a none are (Procedure row) there =
    absurd (no_procedure row (1 + position a.procedures row) d.procedures.items none there)
numbered_as all ps d a none are (Branch par branch) there =
    let counted = as_many all ps d.pars.items (take (position a.pars par) a.pars) are in
    let is = branch_is (assembled.first_context d a.pars par) branch (slice_get d.pars.items par) there in
    omega (arith, ap length none)

-- rows whose contexts are there are the same by both numbers
pub renumbered : {R Y : Type 0} (context : R → ContextName) (row_with : ℕ → R → Y) (m n : ContextName → ℕ)
    (IsNamed : ContextName → Type 0) → ((name : ContextName) → IsNamed name → m name ≡ n name) → (rows : List R)
    → AllByRecursion (λ row. IsNamed (context row)) rows
    → map (λ row. row_with (m (context row)) row) rows ≡ map (λ row. row_with (n (context row)) row) rows
renumbered context row_with m n IsNamed e [] named = refl
renumbered context row_with m n IsNamed e (row ∷ rows) named =
    λ j. row_with (e (context row) named.0 j) row ∷ renumbered context row_with m n IsNamed e rows named.1 j
