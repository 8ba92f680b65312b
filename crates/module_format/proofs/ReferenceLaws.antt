-- References, which are checked once all rows are read: none is at fault exactly if all is there.
use Rattle.std.proofs.Common.{◌≡◌, ℕ, ◌+◌, cond, ltb, List, [], ◌∷◌, length, Option, Some, None, Result, Err, refl}
use Rattle.std.specs.Prelude.{⊤, int_lt, IsTrue, MatchOption}
use Rattle.std.specs.List.{flat_map, AllByRecursion}
use Rattle.std.proofs.lemmas.Bool.{ltb-true, lt-ltb}
use Rattle.small_laws.proofs.Comparisons.{int_lt-false, le-int_lt}
use Rattle.module_format.specs.declared.fault.FormatFault.{FormatFault}
use Rattle.module_format.specs.declared.fault.FormatFaultKind.TheVariants as faults
use Rattle.module_format.specs.Rows.{Fact}
use Rattle.module_format.specs.declared.fact.Fact.TheVariants as facts
use Rattle.module_format.specs.Rows.{Entry}
use Rattle.module_format.specs.declared.rows.EndRow.{EndRow}
use Rattle.module_format.specs.declared.rows.Parameter.{Parameter}
use Rattle.module_format.specs.declared.contexts.Context.{Context}
use Rattle.module_format.specs.Contents.{Label, Branch, Par, Contents}
use Rattle.module_format.specs.Contexts.{context_at, parameters_at}
use Rattle.module_format.specs.Facts.{end_of}
use Rattle.module_format.specs.Keeping.{FactFits, EntryFits, RowFits, LabelFits, is_region, names, end_is_there}
use Rattle.module_format.specs.Keeping.{BranchFits, ParFits, NamesAreThere}
use Rattle.module_format.specs.Spelling.{u16_bytes, fact_bytes, entry_bytes, label_bytes, channel_bytes, interval_bytes}
use Rattle.module_format.specs.Spelling.{end_bytes, branch_bytes, par_bytes}
use Rattle.module_format.specs.Reading.{fault}
use Rattle.module_format.specs.Regions.{region_number}
use Rattle.module_format.specs.References.{is_without_fault, fact_references, entry_references, list_references}
use Rattle.module_format.specs.References.{row_references}
use Rattle.module_format.specs.References.{references_in, label_references}
use Rattle.module_format.specs.References.{parameter_references, end_references, branch_references, par_references}
use Rattle.module_format.specs.References.{references_at}
use Rattle.module_format.proofs.ReadsInSteps.{Has, has_ok, has_err, has_then, has_unless, has_if, has_weaker, step}

fact_fits : (parameters at : ℕ) (f : Fact) → Has (fact_references parameters at f) (λ _. FactFits parameters f)
unfolding fact_references
fact_fits parameters at facts.Unknown = has_ok tt tt
fact_fits parameters at (facts.Number lo hi) = has_ok tt tt
fact_fits parameters at (facts.Pointer region lo hi s) =
    has_if (ltb (region_number region) (2 + parameters)) (fault faults.Range (at + 1)) is_without_fault (λ there. has_ok tt (ltb-true _ _ there))
fact_fits parameters at (facts.CodeAddress offset) = has_ok tt tt
fact_fits parameters at (facts.Loop base count weight) = has_ok tt tt
fact_fits parameters at facts.ReturnAddress = has_ok tt tt

fact_passes : (parameters at : ℕ) (f : Fact) → FactFits parameters f
    → fact_references parameters at f ≡ is_without_fault
unfolding fact_references
fact_passes parameters at facts.Unknown h = refl
fact_passes parameters at (facts.Number lo hi) h = refl
fact_passes parameters at (facts.Pointer region lo hi s) h = rw (lt-ltb _ _ h) refl
fact_passes parameters at (facts.CodeAddress offset) h = refl
fact_passes parameters at (facts.Loop base count weight) h = refl
fact_passes parameters at facts.ReturnAddress h = refl

entry_fits : (context : Context) (at : ℕ) (e : Entry) → Has (entry_references context at e) (λ _. EntryFits context e)
unfolding entry_references
entry_fits context at e =
    has_unless (int_lt e.word context.lo) (fault faults.Range at)
    (cond (int_lt context.hi (end_of e)) (Err (fault faults.Range at))
    (fact_references context.parameters (at + 8) e.fact)) (λ low.
    has_unless (int_lt context.hi (end_of e)) (fault faults.Range at)
    (fact_references context.parameters (at + 8) e.fact)
    (λ high.
    has_weaker (fact_references context.parameters (at + 8) e.fact) (fact_fits context.parameters (at + 8) e.fact)
    (λ u h.
    record { low = int_lt-false _ _ low; high = int_lt-false _ _ high; fact = h })))

entry_passes : (context : Context) (at : ℕ) (e : Entry) → EntryFits context e
    → entry_references context at e ≡ is_without_fault
unfolding entry_references
entry_passes context at e h =
    rw (le-int_lt _ _ h.low, le-int_lt _ _ h.high) (fact_passes context.parameters (at + 8) e.fact h.fact)

-- ---- lists

module _ {A : Type 0} (item : ℕ → A → Result ⊤ FormatFault) (spelled : A → List ℕ) (Fits : A → Type 0) where
  list_fits : ((at : ℕ) (x : A) → Has (item at x) (λ _. Fits x)) → (at : ℕ) (xs : List A)
      → Has (list_references item spelled at xs) (λ _. AllByRecursion Fits xs)
  unfolding list_references
  list_fits one at [] = has_ok tt tt
  list_fits one at (x ∷ xs) = has_then _ _ (one at x) (λ u h. has_weaker
      (list_references item spelled (at + length (spelled x)) xs) (list_fits one (at + length (spelled x)) xs)
      (λ v g. (h, g)))

  list_passes : ((at : ℕ) (x : A) → Fits x → item at x ≡ is_without_fault) → (at : ℕ) (xs : List A)
      → AllByRecursion Fits xs
      → list_references item spelled at xs ≡ is_without_fault
  unfolding list_references
  list_passes one at [] h = refl
  list_passes one at (x ∷ xs) h = step _ (one at x h.0) (list_passes one (at + length (spelled x)) xs h.1)

-- ---- label rows

row_fits : (context : Context) (at : ℕ) (row : Label) → Has (row_references context at row) (λ _. RowFits row context)
unfolding row_references
row_fits context at row =
    let at_a = at + 18 in
    let at_b = at_a + length (fact_bytes row.stack.a) in
    let at_c = at_b + length (fact_bytes row.stack.b) in
    let at_es = at_c + length (fact_bytes row.stack.c) + 2 in
    has_then _ _ (fact_fits context.parameters at_a row.stack.a) (λ u a.
    has_then _ _ (fact_fits context.parameters at_b row.stack.b) (λ v b.
    has_then _ _ (fact_fits context.parameters at_c row.stack.c) (λ w c.
    has_weaker (list_references (entry_references context) entry_bytes at_es row.entries)
    (list_fits (entry_references context) entry_bytes (EntryFits context) (entry_fits context) at_es row.entries)
    (λ x es.
    record { a = a; b = b; c = c; entries = es }))))

row_passes : (context : Context) (at : ℕ) (row : Label) → RowFits row context
    → row_references context at row ≡ is_without_fault
unfolding row_references
row_passes context at row h =
    step _ (fact_passes context.parameters _ row.stack.a h.a)
    (step _ (fact_passes context.parameters _ row.stack.b h.b)
    (step _ (fact_passes context.parameters _ row.stack.c h.c)
    (list_passes (entry_references context) entry_bytes (EntryFits context)
    (entry_passes context) _ row.entries h.entries)))

in_fits : (o : Option Context) (at : ℕ) (row : Label)
    → Has (references_in o at row) (λ _. MatchOption o ⊥ (RowFits row))
in_fits None at row = has_err (fault faults.Range (at + 4))
in_fits (Some context) at row = row_fits context at row

in_passes : (o : Option Context) (at : ℕ) (row : Label) → MatchOption o ⊥ (RowFits row)
    → references_in o at row ≡ is_without_fault
in_passes None at row h = elim h [ ]
in_passes (Some context) at row h = row_passes context at row h

label_fits : (c : Contents) (at : ℕ) (row : Label) → Has (label_references c at row) (λ _. LabelFits c row)
unfolding label_references
label_fits c at row = in_fits (context_at c row.context) at row

label_passes : (c : Contents) (at : ℕ) (row : Label) → LabelFits c row → label_references c at row ≡ is_without_fault
unfolding label_references
label_passes c at row h = in_passes (context_at c row.context) at row h

-- ---- PAR rows

parameter_fits : (parameters : List Parameter) (at j : ℕ)
    → Has (parameter_references parameters at j) (λ _. IsTrue (names is_region parameters j))
unfolding parameter_references
parameter_fits parameters at j =
    has_if (names is_region parameters j) (fault faults.Range at) is_without_fault (λ there. has_ok tt there)

parameter_passes : (parameters : List Parameter) (at j : ℕ) → IsTrue (names is_region parameters j)
    → parameter_references parameters at j ≡ is_without_fault
unfolding parameter_references
parameter_passes parameters at j there = rw there refl

end_fits : (parameters : List Parameter) (at : ℕ) (e : EndRow)
    → Has (end_references parameters at e) (λ _. IsTrue (end_is_there parameters e.kind))
unfolding end_references
end_fits parameters at e =
    has_if (end_is_there parameters e.kind) (fault faults.Range (at + 1)) is_without_fault (λ there. has_ok tt there)

end_passes : (parameters : List Parameter) (at : ℕ) (e : EndRow) → IsTrue (end_is_there parameters e.kind)
    → end_references parameters at e ≡ is_without_fault
unfolding end_references
end_passes parameters at e there = rw there refl

module _ (parameters : List Parameter) where
  numbers_fit : (at : ℕ) (js : List ℕ) → Has (list_references (parameter_references parameters) u16_bytes at js)
      (λ _. AllByRecursion (λ j. IsTrue (names is_region parameters j)) js)
  numbers_fit at js = list_fits (parameter_references parameters) u16_bytes (λ j. IsTrue (names is_region parameters j))
      (parameter_fits parameters) at js

  numbers_pass : (at : ℕ) (js : List ℕ) → AllByRecursion (λ j. IsTrue (names is_region parameters j)) js
      → list_references (parameter_references parameters) u16_bytes at js ≡ is_without_fault
  numbers_pass at js h = list_passes (parameter_references parameters) u16_bytes
      (λ j. IsTrue (names is_region parameters j))
      (parameter_passes parameters) at js h

  ends_fit : (at : ℕ) (es : List EndRow)
      → Has (list_references (end_references parameters) end_bytes at es)
      (λ _. AllByRecursion (λ (e : EndRow). IsTrue (end_is_there parameters e.kind)) es)
  ends_fit at es =
      list_fits (end_references parameters) end_bytes (λ e. IsTrue (end_is_there parameters e.kind))
      (end_fits parameters) at es

  ends_pass : (at : ℕ) (es : List EndRow) → AllByRecursion (λ (e : EndRow). IsTrue (end_is_there parameters e.kind)) es
      → list_references (end_references parameters) end_bytes at es ≡ is_without_fault
  ends_pass at es h = list_passes (end_references parameters) end_bytes (λ e. IsTrue (end_is_there parameters e.kind))
      (end_passes parameters) at es h

  branch_fits : (at : ℕ) (b : Branch) → Has (branch_references parameters at b) (λ _. BranchFits parameters b)
  unfolding branch_references
  branch_fits at b =
      let at_written = at + 18 + length (flat_map interval_bytes b.writes) + length (flat_map interval_bytes b.reads) in
      let at_read = at_written + length (flat_map u16_bytes b.written_parameters) in
      let at_ends = at_read + length (flat_map u16_bytes b.read_parameters) in
      has_then _ _ (numbers_fit at_written b.written_parameters) (λ u written.
      has_then _ _ (numbers_fit at_read b.read_parameters) (λ v read.
      has_weaker (list_references (end_references parameters) end_bytes at_ends b.ends) (ends_fit at_ends b.ends)
      (λ w ends.
      record { written = written; read = read; ends = ends })))

  branch_passes : (at : ℕ) (b : Branch) → BranchFits parameters b → branch_references parameters at b ≡ is_without_fault
  unfolding branch_references
  branch_passes at b h = step _ (numbers_pass _ b.written_parameters h.written)
      (step _ (numbers_pass _ b.read_parameters h.read) (ends_pass _ b.ends h.ends))

par_fits : (c : Contents) (at : ℕ) (row : Par) → Has (par_references c at row) (λ _. ParFits c row)
unfolding par_references
par_fits c at row =
    let parameters = parameters_at c row.context in
    list_fits (branch_references parameters) branch_bytes (BranchFits parameters) (branch_fits parameters)
    (at + 18 + length (flat_map channel_bytes row.channels)) row.branches

par_passes : (c : Contents) (at : ℕ) (row : Par) → ParFits c row → par_references c at row ≡ is_without_fault
unfolding par_references
par_passes c at row h =
    let parameters = parameters_at c row.context in
    list_passes (branch_references parameters) branch_bytes (BranchFits parameters) (branch_passes parameters)
    (at + 18 + length (flat_map channel_bytes row.channels)) row.branches h

-- ---- both

pub references_fit : (at : ℕ) (c : Contents) → Has (references_at at c) (λ _. NamesAreThere c)
unfolding references_at
references_fit at c =
    let at_pars = at + length (flat_map label_bytes c.labels) in
    has_then _ _ (list_fits (label_references c) label_bytes (LabelFits c) (label_fits c) at c.labels) (λ u labels.
    has_weaker (list_references (par_references c) par_bytes at_pars c.pars)
    (list_fits (par_references c) par_bytes (ParFits c) (par_fits c) at_pars c.pars) (λ v pars.
    record { labels = labels; pars = pars }))

pub references_pass : (at : ℕ) (c : Contents) → NamesAreThere c → references_at at c ≡ is_without_fault
unfolding references_at
references_pass at c h =
    step _ (list_passes (label_references c) label_bytes (LabelFits c) (label_passes c) at c.labels h.labels)
    (list_passes (par_references c) par_bytes (ParFits c) (par_passes c) _ c.pars h.pars)
