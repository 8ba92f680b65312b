-- The laws of reading a file: what is read is the file of what it says, and the file of valid contents is read.
use Rattle.std.proofs.Common.{◌≡◌, ℕ, ◌+◌, ◌*◌, ◌<◌, ◌≤◌, ◌^◌, eqb, List, [], ◌∷◌, ◌++◌, length, Result, Ok, Err, refl}
use Rattle.std.proofs.Common.{sym, ap, ◌∙◌, append_assoc, arith}
use Rattle.std.specs.Prelude.{None}
use Rattle.std.specs.List.{flat_map, AllByRecursion}
use Rattle.std.proofs.lemmas.Bool.{eqb-true}
use Rattle.std.proofs.lemmas.List.{append-nil, length-append, nil_from_length}
use Rattle.std.proofs.lemmas.List.Elements.{All-from_recursion}
use Rattle.std.proofs.lemmas.List.Sums.{sum_by-le}
use Rattle.module_format.specs.declared.fault.FormatFault.{FormatFault}
use Rattle.module_format.specs.declared.fault.ReadError.{ReadError}
use Rattle.module_format.specs.declared.fault.ReadError.TheVariants as errors
use Rattle.module_format.specs.declared.fault.FormatFaultKind.TheVariants as faults
use Rattle.module_format.specs.declared.limits.TheConstants.{MAX_BRANCHES, MAX_LONG_CODE}
use Rattle.module_format.specs.declared.reading.header.Header.{Header}
use Rattle.module_format.specs.declared.rows.Parameter.{Parameter}
use Rattle.module_format.specs.declared.rows.ParameterKind.{ParameterKind}
use Rattle.module_format.specs.declared.rows.ParameterKind.TheVariants as kinds
use Rattle.module_format.specs.declared.tables.Version.{Version}
use Rattle.module_format.specs.declared.tables.Version.TheVariants as versions
use Rattle.module_format.specs.Order.{IsBytes}
use Rattle.module_format.specs.Contents.{Procedure, Contents}
use Rattle.module_format.specs.Contexts.{branch_count, first_branch, HasFewContexts}
use Rattle.module_format.specs.Procedures.{KindFits, ProcedureFits}
use Rattle.module_format.specs.Pars.{ParKeeps, behind_par, no_branches}
use Rattle.module_format.specs.Keeping.{max_code, SizesKeep, BoundsKeep, LimitsKeep, RowsKeep, NamesAreThere, Keeps}
use Rattle.module_format.specs.Keeping.{FitsFirst, FitsVersion, IsFile, IsUpgraded, Format}
use Rattle.module_format.specs.Spelling.{procedure_bytes, label_bytes, par_bytes, table_row_bytes, header_bytes}
use Rattle.module_format.specs.Spelling.{rows_bytes, file_of}
use Rattle.module_format.specs.declared.reading.cursor.Cursor.{Cursor}
use Rattle.module_format.specs.Reading.{Fails, fault, out_of_memory, fault_of, place}
use Rattle.module_format.specs.Taking.{Takes}
use Rattle.module_format.proofs.TakingLaws.{took_ok}
use Rattle.module_format.specs.ReadingRows.{table_rows_at}
use Rattle.module_format.specs.ReadingFile.{sizes_with, header_at, contents_from, ended_at, tables_at, read_file}
use Rattle.module_format.proofs.ReadsInSteps.{Has, has_ok, has_then, has_if, has_at, step, join}
use Rattle.module_format.proofs.OrderLaws.{each}
use Rattle.module_format.proofs.FieldLaws.{bytes_take, bytes_again}
use Rattle.module_format.proofs.RowLaws.{labels_take, labels_again}
use Rattle.module_format.proofs.ProcedureLaws.{procedures_take, procedures_again, tables_take as table_rows_take}
use Rattle.module_format.proofs.ProcedureLaws.{tables_again as table_rows_again}
use Rattle.module_format.proofs.ParLaws.{pars_take, pars_again}
use Rattle.module_format.proofs.ReferenceLaws.{references_fit, references_pass}
use Rattle.module_format.proofs.HeaderLaws.{sizes_bytes, max_code_small, max_code_most, FlagFits, head_bytes}
use Rattle.module_format.proofs.HeaderLaws.{HeaderFits, header_takes, header_again}

-- ---- the end

ended_takes : (size at : ℕ) (c : Contents) (rest : List ℕ) {Q : Contents → Type 0} → (NamesAreThere c → rest ≡ [] → Q c)
    → Has (ended_at size at c rest) Q
unfolding ended_at
ended_takes size at c rest h =
    has_then _ _ (references_fit at c) (λ u there.
    has_if (eqb (length rest) 0) (fault faults.LeftOver (place size rest)) (Ok c) (λ none.
    has_ok c (h there (nil_from_length rest (eqb-true _ _ none)))))

ended_again : (size at : ℕ) (c : Contents) → NamesAreThere c → ended_at size at c [] ≡ Ok c
unfolding ended_at
ended_again size at c there = step _ (references_pass at c there) refl

-- ---- the code, the constants and the rows

-- contents with what the header says
pub record IsFrom (h : Header) (c : Contents) : Type 0 where
  pub made : c ≡ contents_from h c.code c.constants c.procedures c.labels c.pars c.table_rows
  pub code : length c.code ≡ h.sizes.code_len
  pub constants : length c.constants ≡ h.sizes.const_len
  pub procedures : length c.procedures ≡ h.counts.procedures
  pub labels : length c.labels ≡ h.counts.labels
  pub pars : length c.pars ≡ h.counts.pars
  pub table_rows : length c.table_rows ≡ h.counts.table_rows
  pub code_bytes : IsBytes c.code
  pub constant_bytes : IsBytes c.constants
  pub rows : RowsKeep c
  pub fits : AllByRecursion (ProcedureFits h.version) c.procedures

-- what follows the header, and where its label rows begin
pub record IsTables (size : ℕ) (h : Header) (bytes : List ℕ) (t : (Contents × ℕ) × List ℕ) : Type 0 where
  pub parts : bytes ≡ (t.0.0.code ++ t.0.0.constants ++ rows_bytes h.version t.0.0) ++ t.1
  pub from : IsFrom h t.0.0
  pub inside : length bytes ≤ size → t.0.1 + length (flat_map label_bytes t.0.0.labels) + length
      (flat_map par_bytes t.0.0.pars) ≤ size

-- where the label rows begin, and all that is before them, after them and between them
rows_inside : (size : ℕ) (bytes front labels pars behind rest last : List ℕ) → bytes ≡ front ++ behind
    → behind ≡ labels ++ rest → rest ≡ pars ++ last
    → length bytes ≤ size → place size behind + length labels + length pars ≤ size
rows_inside size bytes front labels pars behind rest last p q r fits =
    let whole : length bytes ≡ length front + length behind = ap length p ∙ length-append front behind in
    let most : length behind ≡ length labels + length rest = ap length q ∙ length-append labels rest in
    let less : length rest ≡ length pars + length last = ap length r ∙ length-append pars last in
    omega arith

pub tables_take : (size : ℕ) (h : Header) (bytes : List ℕ) → IsBytes bytes
    → Has (tables_at size h bytes) (IsTables size h bytes)
unfolding tables_at rows_bytes
tables_take size h bytes fits =
    has_then _ _ (bytes_take size h.sizes.code_len bytes fits) (λ x0 h0.
    has_then _ _ (bytes_take size h.sizes.const_len x0.1 h0.rest_fits) (λ x1 h1.
    has_then _ _ (procedures_take size h.version h.sizes.code_len h.counts.procedures x1.1 h1.rest_fits) (λ x2 h2.
    has_then _ _ (labels_take size h.sizes.code_len x2.0 h.counts.labels x2.1 h2.rest_fits) (λ x3 h3.
    has_then _ _ (pars_take size (1 + length x2.0) h.sizes.code_len h.counts.pars x3.1 h3.rest_fits) (λ x4 h4.
    has_then _ _ (table_rows_take size x1.0 h.counts.table_rows x4.1 h4.rest_fits) (λ x5 h5.
    let c = contents_from h x0.0 x1.0 x2.0 x3.0 x4.0 x5.0 in
    let rows : RowsKeep c = record {
      procedures = rw h0.keeps.0 h2.keeps.1;
      labels = rw h0.keeps.0 h3.keeps.1;
      pars = rw h0.keeps.0 h4.keeps.1;
      table_rows = h5.keeps.1;
    } in
    let from : IsFrom h c = record {
      made = refl;
      code = h0.keeps.0;
      constants = h1.keeps.0;
      procedures = h2.keeps.0;
      labels = h3.keeps.0;
      pars = h4.keeps.0;
      table_rows = h5.keeps.0;
      code_bytes = h0.keeps.1;
      constant_bytes = h1.keeps.1;
      rows = rows;
      fits = h2.keeps.2;
    } in
    let procedures = flat_map (procedure_bytes h.version) x2.0 in
    let labels = flat_map label_bytes x3.0 in
    let pars = flat_map par_bytes x4.0 in
    let table_rows = flat_map table_row_bytes x5.0 in
    let j1 = join x0.0 x1.0 x1.1 h0.parts h1.parts in
    let j2 = join (x0.0 ++ x1.0) procedures x2.1 j1 h2.parts in
    let j3 = join (x0.0 ++ x1.0 ++ procedures) labels x3.1 j2 h3.parts in
    let j4 = join (x0.0 ++ x1.0 ++ procedures ++ labels) pars x4.1 j3 h4.parts in
    let j5 = join (x0.0 ++ x1.0 ++ procedures ++ labels ++ pars) table_rows x5.1 j4 h5.parts in
    let regrouped : x0.0 ++ x1.0 ++ procedures ++ labels ++ pars ++ table_rows ≡ x0.0 ++ x1.0
    ++ rows_bytes h.version c = simp append_assoc in
    let parts : bytes ≡ (x0.0 ++ x1.0 ++ rows_bytes h.version c) ++ x5.1 =
    j5 ∙ ap (λ (t : List ℕ). t ++ x5.1) regrouped in
    has_ok ((c, place size x2.1), x5.1) (record {
      parts = parts;
      from = from;
      inside = rows_inside size bytes (x0.0 ++ x1.0 ++ procedures) labels pars x2.1 x3.1 x4.1 j2 h3.parts h4.parts;
    })))))))

-- ---- contexts

pub few_contexts : (c : Contents) → LimitsKeep c → RowsKeep c → HasFewContexts c
few_contexts c l r =
    let few = each (ParKeeps (first_branch c) (length c.code)) behind_par (λ row. length row.branches ≤ MAX_BRANCHES)
    (λ low row h. h.branch_limit) no_branches c.pars r.pars in
    let most : branch_count c.pars ≤ length c.pars * MAX_BRANCHES =
    sum_by-le (λ row. length row.branches) MAX_BRANCHES c.pars (All-from_recursion _ c.pars few) in
    omega (arith, most, l.procedures, l.pars)

-- ---- what is read is the file of what it says

-- the parts of what a version asks of contents
record PartsFit (version : Version) (c : Contents) : Type 0 where
  code : length c.code ≤ max_code version
  flag : FlagFits version c.has_long_operations (length c.table_rows)
  ranges : AllByRecursion (ProcedureFits version) c.procedures

parts_fit : (version : Version) (c : Contents) → PartsFit version c → FitsVersion version c
parts_fit versions.One c h = record {
  code = h.code;
  flag = h.flag.0;
  ranges = h.ranges;
  table_rows = nil_from_length c.table_rows h.flag.1;
}
parts_fit versions.Two c h = tt

-- version 2 can say each range
kind_fits : (kind : ParameterKind) → KindFits versions.Two kind
kind_fits (kinds.Value lo hi) = tt
kind_fits (kinds.ReadRegion size lo hi) = tt
kind_fits (kinds.WrittenRegion size lo hi) = tt
kind_fits (kinds.Channels count len ends) = tt

parameters_fit : (ps : List Parameter) → AllByRecursion (λ (p : Parameter). KindFits versions.Two p.kind) ps
parameters_fit [] = tt
parameters_fit (p ∷ ps) = (kind_fits p.kind, parameters_fit ps)

procedures_fit : (rows : List Procedure) → AllByRecursion (ProcedureFits versions.Two) rows
procedures_fit [] = tt
procedures_fit (row ∷ rows) = (parameters_fit row.parameters, procedures_fit rows)

fit_parts : (version : Version) (c : Contents) → Keeps c → FitsVersion version c → PartsFit version c
fit_parts versions.One c k h =
    record { code = h.code; flag = (h.flag, ap length h.table_rows); ranges = h.ranges }
fit_parts versions.Two c k h =
    record { code = k.sizes.code_limit; flag = tt; ranges = procedures_fit c.procedures }

module _ (h : Header) (c : Contents) (f : HeaderFits h) (e : IsFrom h c) where
  -- the numbers of rows are within their limits
  pub limits_keep : LimitsKeep c
  limits_keep = record {
    procedures = rw e.procedures f.counts.procedures;
    labels = rw e.labels f.counts.labels;
    pars = rw e.pars f.counts.pars;
    table_rows = rw e.table_rows f.counts.table_rows;
  }

  sizes_keep : SizesKeep c
  sizes_keep =
      let words : c.data_words ≡ h.sizes.data_words = ap (λ (d : Contents). d.data_words) e.made in
      let base : c.base ≡ h.sizes.base = ap (λ (d : Contents). d.base) e.made in
      record {
        has_code = rw e.code f.sizes.code.0;
        code_limit = let most = f.sizes.code.1 in rw e.code (omega (arith, max_code_most h.version, most));
        constants_limit = rw e.constants f.sizes.constants;
        has_data = rw words f.sizes.words.0;
        data_limit = rw words f.sizes.words.1;
        base = rw (base, words) f.sizes.base;
      }

  bounds_keep : BoundsKeep c
  bounds_keep =
      let budget : c.budget ≡ h.sizes.budget = ap (λ (d : Contents). d.budget) e.made in
      let finish : c.finish ≡ h.sizes.finish = ap (λ (d : Contents). d.finish) e.made in
      let lengths : c.lengths ≡ h.lengths = ap (λ (d : Contents). d.lengths) e.made in
      record {
        budget = rw budget f.sizes.budget;
        finish = rw (finish, e.code) f.sizes.finish;
        eight = rw lengths f.lengths.eight;
        lengths = rw lengths f.lengths.limit;
      }

  all_keeps : NamesAreThere c → Keeps c
  all_keeps there = record {
    sizes = sizes_keep;
    bounds = bounds_keep;
    limits = limits_keep;
    code_bytes = e.code_bytes;
    constant_bytes = e.constant_bytes;
    rows = e.rows;
    names = there;
  }

  fits_version : FitsVersion h.version c
  fits_version =
      let flag : c.has_long_operations ≡ h.counts.has_long_operations =
      ap (λ (d : Contents). d.has_long_operations) e.made in
      parts_fit h.version c
      (record { code = rw e.code f.sizes.code.1; flag = rw (flag, e.table_rows) f.counts.flag; ranges = e.fits })

-- rows that were read lie in the file, are few and keep their rules
pub rows_ready : (bytes : List ℕ) → IsBytes bytes → {h : Header × List ℕ} {t : (Contents × ℕ) × List ℕ}
    → header_at bytes ≡ Ok h → tables_at (length bytes) h.0 h.1 ≡ Ok t
    → (t.0.1 + length (flat_map label_bytes t.0.0.labels) + length (flat_map par_bytes t.0.0.pars) ≤ length bytes)
    × LimitsKeep t.0.0 × RowsKeep t.0.0
rows_ready bytes fits {h} {t} p q =
    let f = has_at (header_at bytes) h (header_takes bytes fits) p in
    let g = has_at (tables_at (length bytes) h.0 h.1) t (tables_take (length bytes) h.0 h.1 f.rest_fits) q in
    let whole : length bytes ≡ length (head_bytes h.0) + length h.1 =
    ap length f.parts ∙ length-append (head_bytes h.0) h.1 in
    (g.inside (omega arith), limits_keep h.0 t.0.0 f.keeps g.from, g.from.rows)

-- the same of a cursor that went over the header and the tables
pub rows_taken : (bytes : List ℕ) → IsBytes bytes → (front behind last : Cursor) {h : Header} {t : Contents × ℕ}
    → front.rest.now ≡ bytes → front.size ≡ length bytes
    → Takes (λ size. header_at) front h behind → Takes (λ size. tables_at size h) behind t last → last.failure ≡ None
    → (t.1 + length (flat_map label_bytes t.0.labels) + length (flat_map par_bytes t.0.pars) ≤ length bytes)
    × LimitsKeep t.0 × RowsKeep t.0
rows_taken bytes fits front behind last {h} {t} at_front whole head rows still =
    let took = rw (head.same, whole) at rows.took in
    let g = took_ok
    (tables_at (length bytes) h) behind.failure behind.rest.now t last.failure last.rest.now still took in
    let took_first = rw at_front at head.took in
    let f = took_ok header_at front.failure bytes h behind.failure behind.rest.now g.0 took_first in
    rows_ready bytes fits f.1 g.1

-- the header of these contents in a version
header_of : Version → Contents → Header
header_of version c = record {
  version = version;
  sizes = sizes_with (length c.code) (length c.constants) c.data_words c.base c.budget c.finish;
  lengths = c.lengths;
  counts = record {
    procedures = length c.procedures;
    labels = length c.labels;
    pars = length c.pars;
    has_long_operations = c.has_long_operations;
    table_rows = length c.table_rows;
  };
}

header_is : (h : Header) (c : Contents) → IsFrom h c → header_of h.version c ≡ h
unfolding header_of
header_is h c e =
    let same : header_of h.version (contents_from h c.code c.constants c.procedures c.labels c.pars c.table_rows) ≡ h =
    rw (e.code, e.constants, e.procedures, e.labels, e.pars, e.table_rows) refl in
    ap (header_of h.version) e.made ∙ same

file_regrouped : (version : Version) (c : Contents)
    → file_of version c ≡ head_bytes (header_of version c) ++ (c.code ++ c.constants ++ rows_bytes version c)
unfolding header_of file_of header_bytes sizes_bytes head_bytes
file_regrouped version c = simp append_assoc

pub read_finds : (bytes : List ℕ) → IsBytes bytes
    → Has (read_file bytes) (λ (file : Version × Contents). IsFile file.0 bytes file.1)
unfolding read_file
read_finds bytes fits =
    let size = length bytes in
    has_then _ _ (header_takes bytes fits) (λ h f.
    has_then _ _ (tables_take size h.0 h.1 f.rest_fits) (λ t g.
    let c = t.0.0 in
    let version = h.0.version in
    has_then _ _ (ended_takes size t.0.1 c t.1 {Q = λ d. IsFile version bytes d} (λ there none.
    let body = c.code ++ c.constants ++ rows_bytes version c in
    let j1 : bytes ≡ (head_bytes h.0 ++ body) ++ t.1 = join (head_bytes h.0) body t.1 f.parts g.parts in
    let j2 : bytes ≡ head_bytes h.0 ++ body =
    j1 ∙ ap (λ (r : List ℕ). (head_bytes h.0 ++ body) ++ r) none ∙ append-nil (head_bytes h.0 ++ body) in
    let spelled : bytes ≡ file_of version c =
    j2 ∙ ap (λ (x : Header). head_bytes x ++ body) (sym (header_is h.0 c g.from)) ∙ sym (file_regrouped version c) in
    let whole : IsFile version bytes c = record {
      spelled = spelled;
      keeps = all_keeps h.0 c f.keeps g.from there;
      fits = fits_version h.0 c f.keeps g.from;
    } in
    whole)) (λ d file. has_ok (version, d) file)))

-- ---- the file of valid contents is read

header_fits : (version : Version) (c : Contents) → Keeps c → PartsFit version c → HeaderFits (header_of version c)
unfolding header_of
header_fits version c k told =
    let h = k.sizes in
    let g = k.bounds in
    let l = k.limits in
    record {
      sizes = record {
        code = (h.has_code, told.code);
        constants = h.constants_limit;
        words = (h.has_data, h.data_limit);
        base = h.base;
        budget = g.budget;
        finish = g.finish;
      };
      lengths = record { eight = g.eight; limit = g.lengths };
      counts = record {
        procedures = l.procedures;
        labels = l.labels;
        pars = l.pars;
        table_rows = l.table_rows;
        flag = told.flag;
      };
    }

read_body : (size : ℕ) (version : Version) (c : Contents) → Keeps c → PartsFit version c
    → tables_at size (header_of version c) (c.code ++ c.constants ++ rows_bytes version c)
    ≡ Ok (
      (
        c,
        place size (flat_map label_bytes c.labels ++
            (flat_map par_bytes c.pars ++ flat_map table_row_bytes c.table_rows)),
      ),
      [],
    )
unfolding tables_at header_of rows_bytes
read_body size version c k told =
    let code_len = length c.code in
    let t4 = flat_map table_row_bytes c.table_rows in
    let t3 = flat_map par_bytes c.pars ++ t4 in
    let t2 = flat_map label_bytes c.labels ++ t3 in
    let t1 = flat_map (procedure_bytes version) c.procedures ++ t2 in
    let t0 = c.constants ++ t1 in
    let regrouped : c.code ++ c.constants ++ rows_bytes version c ≡ c.code ++ t0 = simp append_assoc in
    let small : code_len < 2 ^ 32 = let a = k.sizes.code_limit in omega arith in
    let constants_small : length c.constants < 2 ^ 32 = let a = k.sizes.constants_limit in omega arith in
    let table_rows : table_rows_at size c.constants (length c.table_rows) t4 ≡ Ok (c.table_rows, []) =
    ap (table_rows_at size c.constants (length c.table_rows)) (sym (append-nil t4))
    ∙ table_rows_again size c.constants constants_small c.table_rows [] k.rows.table_rows in
    ap (tables_at size (header_of version c)) regrouped
    ∙ step _ (bytes_again size c.code t0)
    (step _ (bytes_again size c.constants t1)
    (step _ (procedures_again size version code_len small c.procedures t2 k.rows.procedures told.ranges)
    (step _ (labels_again size code_len c.procedures small c.labels t3 k.rows.labels)
    (step _ (pars_again size (1 + length c.procedures) code_len small c.pars t4 k.rows.pars)
    (step _ table_rows refl)))))

pub read_again : (version : Version) (c : Contents) → Keeps c → FitsVersion version c
    → read_file (file_of version c) ≡ Ok (version, c)
unfolding read_file header_of
read_again version c k h =
    let told = fit_parts version c k h in
    let size = length (file_of version c) in
    let body = c.code ++ c.constants ++ rows_bytes version c in
    step _
    (ap header_at (file_regrouped version c) ∙ header_again (header_of version c) body (header_fits version c k told))
    (step _ (read_body size version c k told) (step _ (ended_again size _ c k.names) refl))

-- ---- no second partner

abbrev given : Version → Contents → Result (Version × Contents) FormatFault
given version c = Ok (version, c)

ok_same : {v w : Version} {c d : Contents} → given v c ≡ given w d → (v ≡ w) × (c ≡ d)
ok_same {v = v} {w = w} {c = c} {d = d} e =
    let same : (v, c) ≡ (w, d) = cc in
    (ap (λ (p : Version × Contents). p.0) same, ap (λ (p : Version × Contents). p.1) same)

pub file_read : (version : Version) (bytes : List ℕ) (c : Contents) → IsFile version bytes c
    → read_file bytes ≡ Ok (version, c)
file_read version bytes c f = ap read_file f.spelled ∙ read_again version c f.keeps f.fits

pub one_file : (bytes : List ℕ) (v w : Version) (c d : Contents) → IsFile v bytes c → IsFile w bytes d
    → (v ≡ w) × (c ≡ d)
one_file bytes v w c d f g = ok_same (sym (file_read v bytes c f) ∙ file_read w bytes d g)

pub one_contents : (bytes : List ℕ) (c d : Contents) → Format bytes c → Format bytes d → c ≡ d
one_contents bytes c d f g = (one_file bytes f.version g.version c d f.file g.file).1

-- what spells contents isn't refused
pub not_refused : (version : Version) (bytes : List ℕ) (c : Contents) (f : FormatFault) → IsFile version bytes c
    → read_file bytes ≡ Err f → ⊥
not_refused version bytes c f g e = let a = file_read version bytes c g in absurd cc

-- a reader of what spells contents fails only if memory runs out
pub only_memory : (version : Version) (bytes : List ℕ) (c : Contents) (e : ReadError) → IsFile version bytes c
    → Fails e (read_file bytes) → fault_of e ≡ out_of_memory
only_memory version bytes c errors.Memory g h = refl
only_memory version bytes c (errors.Fault f) g h = absurd (not_refused version bytes c f g h)

-- ---- upgraded files

pub upgraded : (old : List ℕ) (c : Contents) → IsFile versions.One old c → IsUpgraded old (file_of versions.Two c)
upgraded old c f = record {
  contents = c;
  before = f;
  after = record { spelled = refl; keeps = f.keeps; fits = tt };
}

pub upgraded_same : (old new : List ℕ) (c d : Contents) → IsUpgraded old new → Format old c → Format new d → c ≡ d
upgraded_same old new c d u f g =
    let first : c ≡ u.contents = one_contents old c u.contents f (record { version = versions.One; file = u.before }) in
    first ∙ one_contents new u.contents d (record { version = versions.Two; file = u.after }) g
