use Rattle.std.proofs.Common.{◌≡◌, ◌<◌, length, refl, sym, ap, ◌∙◌, rules, arith}
use Rattle.std.proofs.lemmas.List.{length-map}
use Rattle.module_format.specs.Contents.{contents_of, par_of, branch_of}
use Rattle.module_format.specs.Contexts.{first_branch}
use Rattle.module_format.specs.Pars.{no_branches}
use Rattle.module_format.proofs.PlaceLaws.{context_before, item_there, branches_few, more_places, row_placed}
use Rattle.module_format.proofs.places.places_of.Goals as goal

pub owner_of-owner-requires-clause-there : goal.owner_of-owner-requires-clause-there
owner_of-owner-requires-clause-there c =
    let m = contents_of c.args.tables.now in
    let is = item_there par_of c.args.tables.now.pars.items c.loop-par.par c.index-row.result.now
    (search rules) c.index-row.ensures in
    let known = context_before (first_branch m) (length m.code) no_branches m.pars c.loop-par.par
    (par_of c.index-row.result.now) c.requires.rows.pars is in
    omega (arith, known, c.loop-par.invariant.many, ap length c.deref.ensures.value)

pub overflow_cast-branch : goal.overflow_cast-branch
overflow_cast-branch c =
    let m = contents_of c.args.tables.now in
    let few = branches_few (first_branch m) (length m.code) no_branches m.pars c.loop-par.par
    (par_of c.index-row.result.now) c.requires.rows.pars
    (item_there par_of c.args.tables.now.pars.items c.loop-par.par c.index-row.result.now
    (search rules) c.index-row.ensures) in
    let long = length-map c.index-row.result.now.branches.items branch_of in
    omega (arith, c.loop-branch-test.true)

pub loop-branch-preserved : goal.loop-branch-preserved
loop-branch-preserved c =
    let row = par_of c.index-row.result.now in
    let is = item_there par_of c.args.tables.now.pars.items c.loop-par.par c.index-row.result.now
    (search rules) c.index-row.ensures in
    let inside : c.loop-branch.branch < length row.branches = rw length-map (search rules) in
    rw (c.in_ok-push.ensures.items)
    (more_places (contents_of c.args.tables.now) c.loop-par.par c.loop-branch.branch row c.loop-branch.places.items _
    c.requires.rows is inside refl refl (rw c.from.ensures at c.owner_of-owner.ensures) c.loop-branch.invariant)

pub loop-par-preserved : goal.loop-par-preserved
loop-par-preserved c =
    let is = item_there par_of c.args.tables.now.pars.items c.loop-par.par c.index-row.result.now
    (search rules) c.index-row.ensures in
    let past : c.loop-branch.branch ≡ length c.index-row.result.now.branches.items = search rules in
    row_placed (contents_of c.args.tables.now) c.loop-par.par c.loop-branch.branch _ c.loop-branch.places.items is
    (past ∙ sym (length-map c.index-row.result.now.branches.items branch_of)) c.loop-branch.invariant
