use Rattle.std.proofs.Common.{◌≡◌, ℕ, List, ◌-◌, ◌<◌, ◌≤◌, length, get_or, Some, sym, refl, rules}
use Rattle.std.proofs.lemmas.Bool.{ltb-true, ltb-false}
use Rattle.module_format.specs.declared.places.Place.{Place}
use Rattle.module_format.specs.Rows.{BranchRow}
use Rattle.module_format.specs.Rows.{ParRow}
use Rattle.module_format.specs.declared.tables.Tables.{Tables}
use Rattle.module_format.specs.Contents.{contents_of, par_of, branch_of}
use Rattle.module_format.specs.Contexts.{first_branch, branch_count}
use Rattle.module_format.specs.Places.{ArePlaces}
use Rattle.certificate.specs.Branches.{numbered_branch}
use Rattle.certificate.proofs.NumberLaws.{branch_missing, par_inside, branch_inside, place_stands, branch_found}
use Rattle.module_format.proofs.PlaceLaws.{item_there}
use Rattle.certificate.proofs.branches.numbered_branch.Goals as goal

-- a place that was got from the places as they were seen
got_place : (seen places : List Place) (n had first : ℕ) (place : Place) → seen ≡ places → had ≡ first
    → n - had < length seen → place ≡ get_or seen (n - had) place
    → (n - first < length places) × (place ≡ get_or places (n - first) place)
got_place seen places n had first place same from lt is = (rw (same, from) at lt, rw (same, from) at is)

-- the branch of the number whose place was got
got_branch : (t : Tables) (seen places : List Place) (n had : ℕ) (place : Place) (row : ParRow) (b : BranchRow)
    → ArePlaces (contents_of t) (branch_count (contents_of t).pars) places
    → seen ≡ places → had ≡ first_branch (contents_of t) → had ≤ n → n - had < length seen
    → place ≡ get_or seen (n - had) place
    → row ≡ get_or t.pars.items place.par row → b ≡ get_or row.branches.items place.branch b
    → numbered_branch (contents_of t) n ≡ Some (par_of row, branch_of b)
got_branch t seen places n had place row b are same from ge lt is row_is b_is =
    let got = got_place seen places n had (first_branch (contents_of t)) place same from lt is in
    branch_found (contents_of t) n (par_of row, branch_of b) (rw from at ge)
    (place_stands t places (n - first_branch (contents_of t)) place are got.0 got.1 row row_is b b_is)

pub returns-in_err-place-clause-found : goal.returns-in_err-place-clause-found
returns-in_err-place-clause-found c =
    let t = c.args.tables.now in
    let n = c.args.number in
    let first = c.first_branch-first.ensures in
    let ge : first_branch (contents_of t) ≤ n = rw first at c.if-number-first.false in
    let past : length c.args.places.now ≤ n - first_branch (contents_of t) =
    rw first at (ltb-false _ _ (sym c.in_err-place.ensures.lookup.0)) in
    rw c.from_residual.ensures (branch_missing (contents_of t) c.args.places.now n c.requires ge past)

pub index-row-requires : goal.index-row-requires
index-row-requires c =
    let t = c.args.tables.now in
    let n = c.args.number in
    let got = got_place c.args.places.now c.args.places.now n _ _ _ refl c.first_branch-first.ensures
    (ltb-true _ _ (sym c.in_ok-place.ensures.lookup.0)) c.in_ok-place.ensures.lookup.1 in
    let inside = par_inside t c.args.places.now
    (n - first_branch (contents_of t)) c.in_ok-place.place.now c.requires got.0 got.1 in
    search (rules, inside)

pub index-requires : goal.index-requires
index-requires c =
    let t = c.args.tables.now in
    let n = c.args.number in
    let got = got_place c.args.places.now c.args.places.now n _ _ _ refl c.first_branch-first.ensures
    (ltb-true _ _ (sym c.in_ok-place.ensures.lookup.0)) c.in_ok-place.ensures.lookup.1 in
    let inside = branch_inside t c.args.places.now
    (n - first_branch (contents_of t)) c.in_ok-place.place.now c.requires got.0 got.1 c.index-row.result.now
    (rw c.from.ensures at c.index-row.ensures) in
    search (rules, inside)

pub returns-clause-found : goal.returns-clause-found
returns-clause-found c =
    got_branch c.args.tables.now c.args.places.now c.args.places.now c.args.number _ _ _ _ c.requires refl
    c.first_branch-first.ensures c.if-number-first.false (ltb-true _ _ (sym c.in_ok-place.ensures.lookup.0))
    c.in_ok-place.ensures.lookup.1 (rw c.from.ensures at c.index-row.ensures)
    (rw c.from-2.ensures at c.index.ensures)

pub returns-clause-row : goal.returns-clause-row
returns-clause-row c =
    let t = c.args.tables.now in
    let n = c.args.number in
    let got = got_place c.args.places.now c.args.places.now n _ _ _ refl c.first_branch-first.ensures
    (ltb-true _ _ (sym c.in_ok-place.ensures.lookup.0)) c.in_ok-place.ensures.lookup.1 in
    let inside = par_inside t c.args.places.now
    (n - first_branch (contents_of t)) c.in_ok-place.place.now c.requires got.0 got.1 in
    item_there par_of t.pars.items c.in_ok-place.place.now.par c.index-row.result.now inside
    (rw c.from.ensures at c.index-row.ensures)
