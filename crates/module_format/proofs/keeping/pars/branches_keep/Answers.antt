use Rattle.std.proofs.Common.{◌≡◌, ℕ, ◌+◌, ◌<◌, List, [], ◌∷◌, ◌++◌, length, take, map, get_or, append_assoc}
use Rattle.std.proofs.lemmas.List.{append-nil, map_more, map-append, take_all}
use Rattle.module_format.specs.Rows.{BranchRow}
use Rattle.module_format.specs.Contents.{Branch, branch_of}
use Rattle.module_format.specs.Pars.{Before, BranchKeeps, behind_branch, entries_of}
use Rattle.module_format.proofs.OffsetSetLaws.{one_more}
use Rattle.module_format.proofs.OrderLaws.{order_goes_on, order_fails, order_is_done, is_broken, is_kept}
use Rattle.module_format.proofs.keeping.pars.branches_keep.Goals as goal

-- one more branch
entries_more : (rows : List BranchRow) (i : ℕ) (row : BranchRow) → i < length rows → row ≡ get_or rows i row
    → entries_of (map branch_of (take (i + 1) rows)) ≡ entries_of (map branch_of (take i rows)) ++ row.entry ∷ []
entries_more rows i row there is =
    rw (map_more branch_of rows i row there, ← is)
    (map-append (λ (b : Branch). b.entry) (map branch_of (take i rows)) (branch_of row ∷ []))

-- what is known before a branch after others
abbrev before : ℕ → List ℕ → List BranchRow → ℕ → Before
before low entries rows i = record { low = low; entries = entries ++ entries_of (map branch_of (take i rows)) }

pub loop-row-init : goal.loop-row-init
loop-row-init c entries has = rw (append-nil entries) ((λ h. h, λ h. h), has)

pub returns-then-not-branch_keeps-clause-kept : goal.returns-then-not-branch_keeps-clause-kept
returns-then-not-branch_keeps-clause-kept c entries has =
    let so_far = c.loop-row.invariant entries has in
    let state = before c.loop-row.above entries c.args.rows.now c.loop-row.row-index in
    order_fails (BranchKeeps c.args.code_len) behind_branch branch_of c.args.rows.now c.loop-row.row-index state
    so_far.0 c.row-item.result c.loop-row-test.true c.row-item.is
    (is_broken c.branch_keeps.result c.if-not-branch_keeps.true (c.branch_keeps.ensures.kept state.entries so_far.1))

pub loop-row-preserved : goal.loop-row-preserved
loop-row-preserved c entries has =
    let rows = c.args.rows.now in
    let i = c.loop-row.row-index in
    let row = c.row-item.result in
    let so_far = c.loop-row.invariant entries has in
    let state = before c.loop-row.above entries rows i in
    let more = entries_more rows i row c.loop-row-test.true c.row-item.is in
    let grouped = append_assoc entries (entries_of (map branch_of (take i rows))) (row.entry ∷ []) in
    rw (more, ← grouped) (
      order_goes_on (BranchKeeps c.args.code_len) behind_branch branch_of rows i state so_far.0 row
          c.loop-row-test.true c.row-item.is
          (is_kept c.branch_keeps.result c.if-not-branch_keeps.false
          (c.branch_keeps.ensures.kept state.entries so_far.1)),
      one_more c.loop-row.taken.words _ row.entry state.entries c.add.ensures so_far.1,
    )

pub returns : goal.returns
returns c =
    let rows = c.args.rows.now in
    let i = c.loop-row.row-index in
    let all : take i rows ≡ rows = take_all i rows c.loop-row-test.false in
    record {
      kept = λ entries has.
          order_is_done (BranchKeeps c.args.code_len) behind_branch branch_of rows i
          (before c.loop-row.above entries rows i) (c.loop-row.invariant entries has).0 c.loop-row-test.false;
      taken = λ entries has t. rw all at ((c.loop-row.invariant entries has).1);
    }
