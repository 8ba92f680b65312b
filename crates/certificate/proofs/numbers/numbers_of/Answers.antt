use Rattle.std.proofs.Common.{◌≡◌, ℕ, List, ◌<◌, length, get_or, ◌∙◌, rules, arith}
use Rattle.std.proofs.lemmas.List.{get_or_default}
use Rattle.module_format.specs.declared.places.Place.{Place}
use Rattle.module_format.specs.Contents.{contents_of, par_of, branch_of}
use Rattle.module_format.specs.Contexts.{first_branch}
use Rattle.module_format.specs.Places.{branches_of}
use Rattle.certificate.proofs.NumberLaws.{contexts_fit, par_inside, branch_inside, place_stands, numbers_more}
use Rattle.certificate.proofs.NumberLaws.{numbers_all}
use Rattle.certificate.proofs.numbers.numbers_of.Goals as goal

nowhere : Place
nowhere = record { par = 0; branch = 0; owner = 0 }

-- the place at an index
abbrev place_at : List Place → ℕ → Place
place_at places i = get_or places i nowhere

stands_at : (places : List Place) (i : ℕ) → i < length places
    → place_at places i ≡ get_or places i (place_at places i)
stands_at places i lt = get_or_default places i nowhere (place_at places i) lt

pub overflow_cast-first : goal.overflow_cast-first
overflow_cast-first c =
    let t = c.args.tables.now in
    let first = c.first_branch-first.ensures in
    let fit = contexts_fit (contents_of t) c.requires.keeps in
    let many = c.requires.places.many in
    let inside : c.loop-index.index < length c.args.places.now = search rules in
    omega arith

pub index-row-requires : goal.index-row-requires
unfolding nowhere
index-row-requires c =
    let is = stands_at c.args.places.now c.loop-index.index c.loop-index-test.true in
    let inside = par_inside c.args.tables.now _ _ _ c.requires.places c.loop-index-test.true is in
    search (rules, inside)

pub index-branch-requires : goal.index-branch-requires
unfolding nowhere
index-branch-requires c =
    let is = stands_at c.args.places.now c.loop-index.index c.loop-index-test.true in
    let inside =
    branch_inside c.args.tables.now _ _ _ c.requires.places c.loop-index-test.true is
    c.index-row.result.now (rw c.from.ensures at c.index-row.ensures) in
    search (rules, inside)

pub loop-index-preserved : goal.loop-index-preserved
unfolding nowhere
loop-index-preserved c = λ at.
    let t = c.args.tables.now in
    let places = c.args.places.now in
    let i = c.loop-index.index in
    let is = stands_at places i c.loop-index-test.true in
    let stands = place_stands t places i _ c.requires.places c.loop-index-test.true is c.index-row.result.now
    (rw c.from.ensures at c.index-row.ensures) c.index-branch.result.now
    (rw c.from-in-loop-index.ensures at c.index-branch.ensures) in
    let first = c.first_branch-first.ensures in
    numbers_more (first_branch (contents_of t)) (branches_of (contents_of t).pars) i
    (par_of c.index-row.result.now, branch_of c.index-branch.result.now) at _ _ (omega arith) stands
    (c.loop-index.invariant at) (rw first at (c.in_ok-note.ensures at))

pub returns : goal.returns
returns c =
    λ at. c.loop-index.invariant at
    ∙ numbers_all (contents_of c.args.tables.now) c.args.places.now c.loop-index.index at c.requires.places
    (search rules)
