use Rattle.std.proofs.Common.{◌≡◌, ℕ, ◌+◌, ◌≤◌, ◌<◌, List, [], ◌∷◌, ◌++◌, length, take, map, get_or, sym, ap, ◌∙◌}
use Rattle.std.proofs.Common.{arith}
use Rattle.std.specs.List.{flat_map}
use Rattle.std.proofs.lemmas.List.{append-nil, map_more, length-append, length-map}
use Rattle.std.proofs.lemmas.Grind.{flat_map-append}
use Rattle.std.proofs.lemmas.List.Concat.{flat_map-cons}
use Rattle.module_format.specs.declared.limits.TheConstants.{MAX_BRANCHES}
use Rattle.module_format.specs.Rows.{ParRow}
use Rattle.module_format.specs.Contents.{Par, branch_of, par_of}
use Rattle.module_format.specs.Pars.{Before, ParKeeps, behind_par, entries_of, entries_of_rows}
use Rattle.module_format.proofs.OrderLaws.{order_goes_on, order_fails, order_is_done, is_broken, is_kept}
use Rattle.module_format.proofs.keeping.pars.pars_keep.Goals as goal

-- one more row
row_entries_more : (rows : List ParRow) (i : ℕ) (row : ParRow) → i < length rows → row ≡ get_or rows i row
    → entries_of_rows (map par_of (take (i + 1) rows))
    ≡ entries_of_rows (map par_of (take i rows)) ++ entries_of (map branch_of row.branches.items)
row_entries_more rows i row there is =
    let entries = λ (p : Par). entries_of p.branches in
    let before = flat_map entries (map par_of (take i rows)) in
    rw (map_more par_of rows i row there, ← is)
    (flat_map-append entries (map par_of (take i rows)) (par_of row ∷ [])
    ∙ ap (λ (ns : List ℕ). before ++ ns)
    (flat_map-cons entries (par_of row) [] ∙ append-nil (entries_of (map branch_of row.branches.items))))

-- what the rows before one leave
abbrev before : ℕ → List ParRow → ℕ → Before
before low rows i = record { low = low; entries = entries_of_rows (map par_of (take i rows)) }

pub loop-row-init : goal.loop-row-init
loop-row-init c = record {
  rest = (λ h. h, λ h. h);
  taken = record { each = c.new-taken.ensures };
  contexts = omega arith;
  few = omega arith;
}

pub returns-then-not-par_keeps : goal.returns-then-not-par_keeps
returns-then-not-par_keeps c =
    let so_far = c.loop-row.invariant in
    let state = before c.loop-row.low c.args.rows.now c.loop-row.row-index in
    let same = c.par_keeps.ensures.kept c.args.own state.entries so_far.contexts so_far.taken in
    order_fails (ParKeeps c.args.own c.args.code_len) behind_par par_of c.args.rows.now c.loop-row.row-index state
    so_far.rest c.row-item.result c.loop-row-test.true c.row-item.is
    (is_broken c.par_keeps.result c.if-not-par_keeps.true same)

pub overflow_add-contexts : goal.overflow_add-contexts
overflow_add-contexts c =
    let so_far = c.loop-row.invariant in
    let row = c.row-item.result in
    let entries = entries_of_rows (map par_of (take c.loop-row.row-index c.args.rows.now)) in
    let kept = is_kept c.par_keeps.result c.if-not-par_keeps.false
    (c.par_keeps.ensures.kept c.args.own entries so_far.contexts so_far.taken) in
    let most : length row.branches.items ≤ MAX_BRANCHES = rw length-map at kept.branch_limit in
    let here : c.len-contexts.result ≡ length row.branches.items =
    c.len-contexts.ensures ∙ sym c.deref.ensures.len ∙ ap length c.deref.ensures.value in
    omega (arith, so_far.few, c.requires.few, c.requires.own)

pub loop-row-preserved : goal.loop-row-preserved
loop-row-preserved c =
    let rows = c.args.rows.now in
    let i = c.loop-row.row-index in
    let row = c.row-item.result in
    let so_far = c.loop-row.invariant in
    let state = before c.loop-row.low rows i in
    let kept = is_kept c.par_keeps.result c.if-not-par_keeps.false
    (c.par_keeps.ensures.kept c.args.own state.entries so_far.contexts so_far.taken) in
    let more = row_entries_more rows i row c.loop-row-test.true c.row-item.is in
    let most : length row.branches.items ≤ MAX_BRANCHES = rw length-map at kept.branch_limit in
    let count : c.len-contexts.result ≡ length row.branches.items =
    c.len-contexts.ensures ∙ sym c.deref.ensures.len ∙ ap length c.deref.ensures.value in
    let longer : length (entries_of_rows (map par_of (take (i + 1) rows)))
    ≡ length state.entries + length row.branches.items =
    rw more (simp (length-append, length-map)) in
    let contexts = so_far.contexts in
    let few = so_far.few in
    record {
      rest = rw (c.first_entry-low.ensures, c.deref.ensures.value, more)
          (order_goes_on (ParKeeps c.args.own c.args.code_len) behind_par par_of rows i state so_far.rest row
          c.loop-row-test.true c.row-item.is kept);
      taken = rw more (c.par_keeps.ensures.taken state.entries so_far.taken c.if-not-par_keeps.false);
      contexts = omega arith;
      few = omega arith;
    }

pub returns : goal.returns
returns c =
    order_is_done (ParKeeps c.args.own c.args.code_len) behind_par par_of c.args.rows.now c.loop-row.row-index
    (before c.loop-row.low c.args.rows.now c.loop-row.row-index) c.loop-row.invariant.rest c.loop-row-test.false
