use Rattle.std.proofs.Common.{◌≡◌, ◌+◌, length, subst, arith, lit<}
use Rattle.std.proofs.lemmas.List.{length-map}
use Rattle.module_format.specs.Contents.{contents_of, par_of}
use Rattle.module_format.specs.Places.{AreRowOwners}
use Rattle.module_format.proofs.FileLaws.{few_contexts}
use Rattle.module_format.proofs.PlaceLaws.{count_more}
use Rattle.module_format.proofs.RowOwnerLaws.{rows_end_few, row_here, branches_here, context_there, more_row_owners}
use Rattle.module_format.proofs.row_owners.row_owners.Goals as goal

pub row_owner_of-owner-requires : goal.row_owner_of-owner-requires
row_owner_of-owner-requires c =
    let t = c.args.tables.now in
    let i = c.loop-row.row-index in
    let is = row_here t _ i c.row-item.result c.deref-rows.ensures.value c.loop-row-test.true c.row-item.is in
    let many = c.loop-row.invariant.owners.many in
    rw (c.from.ensures, c.deref.ensures.0, many) record {
      there = context_there (contents_of t) i (par_of c.row-item.result) c.requires.rows is;
      owners = c.loop-row.invariant.owners;
    }

pub overflow_add-end : goal.overflow_add-end
overflow_add-end c =
    let m = contents_of c.args.tables.now in
    let i = c.loop-row.row-index in
    let row = c.row-item.result in
    let is = row_here c.args.tables.now _ i row c.deref-rows.ensures.value c.loop-row-test.true c.row-item.is in
    let count = count_more m.pars i (par_of row) is in
    let few = rows_end_few m (i + 1) (few_contexts m c.requires.limits c.requires.rows) in
    omega (arith, branches_here row _ c.len-end.ensures, c.loop-row.invariant.end, count, few)

pub push-requires : goal.push-requires
push-requires c =
    let rows = c.args.tables.now.pars.items in
    let inside = rw c.deref-rows.ensures.value at c.loop-row-test.true in
    (lit< tt, omega (arith, length-map rows par_of, inside, c.requires.limits.pars, c.loop-row.invariant.owners.many))

pub loop-row-preserved : goal.loop-row-preserved
loop-row-preserved c =
    let m = contents_of c.args.tables.now in
    let so_far = c.loop-row.invariant in
    let i = c.loop-row.row-index in
    let row = c.row-item.result in
    let is = row_here c.args.tables.now _ i row c.deref-rows.ensures.value c.loop-row-test.true c.row-item.is in
    let owns = rw c.from.ensures at c.row_owner_of-owner.ensures in
    let more = branches_here row _ c.len-end.ensures in
    record {
      owners = rw c.push.ensures.items
          (more_row_owners m i (par_of row) c.loop-row.owners.items _ c.requires.rows is
          (omega (arith, more, so_far.end)) owns so_far.owners);
      end = omega (arith, more, so_far.end, count_more m.pars i (par_of row) is);
    }

pub returns : goal.returns
returns c =
    let m = contents_of c.args.tables.now in
    let rows = c.args.tables.now.pars.items in
    let past = rw c.deref-rows.ensures.value at c.loop-row-test.false in
    let upto = rw c.deref-rows.ensures.value at c.loop-row.auto.row-index-end in
    let all : c.loop-row.row-index ≡ length m.pars = omega (arith, length-map rows par_of, past, upto) in
    subst (λ k. AreRowOwners m k c.loop-row.owners.items) all c.loop-row.invariant.owners
