use Rattle.std.proofs.Common.{◌<◌, length, sym, rules}
use Rattle.module_format.specs.Contents.{contents_of}
use Rattle.module_format.specs.Contexts.{first_branch}
use Rattle.module_format.proofs.PlaceLaws.{owner_below}
use Rattle.module_format.proofs.row_owners.row_owner_of.Goals as goal

pub returns-then-number-first_branch : goal.returns-then-number-first_branch
returns-then-number-first_branch c =
    let m = contents_of c.args.tables.now in
    let below = rw c.first_branch.ensures at c.if-number-first_branch.true in
    sym (owner_below (first_branch m) m.pars c.args.context below)

pub bounds-rows-row_of : goal.bounds-rows-row_of
bounds-rows-row_of c =
    let branch = rw c.first_branch.ensures at c.if-number-first_branch.false in
    (c.row_of.ensures (contents_of c.args.tables.now) branch c.requires.there c.requires.owners).inside

pub returns : goal.returns
returns c =
    let branch = rw c.first_branch.ensures at c.if-number-first_branch.false in
    (c.row_of.ensures (contents_of c.args.tables.now) branch c.requires.there c.requires.owners).owner _

pub offset_bounds-rows-row_of : goal.offset_bounds-rows-row_of
offset_bounds-rows-row_of c =
    let branch = rw c.first_branch.ensures at c.if-number-first_branch.false in
    let row = c.row_of.ensures (contents_of c.args.tables.now) branch c.requires.there c.requires.owners in
    let inside : c.row_of.result < length c.args.rows.now = row.inside in
    search rules
