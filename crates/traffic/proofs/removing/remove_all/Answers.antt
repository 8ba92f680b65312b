use Rattle.std.proofs.Common.{◌≡◌, ◌<◌, ◌≤◌, length, refl, sym, arith, None, slice_get, ⊎_elim, true, false}
use Rattle.std.proofs.lemmas.Bool.{cases_lt}
use Rattle.std.proofs.lemmas.Option.{slice_get_read, slice_get_past}
use Rattle.traffic.proofs.ListedCells.{all_in, listed_but_for}
use Rattle.traffic.proofs.Removed.{all_removed, none_of}
use Rattle.traffic.proofs.removing.remove_all.Goals as goal

pub returns-then-not-opened-clause-channels : goal.returns-then-not-opened-clause-channels
returns-then-not-opened-clause-channels c =
    all_removed c.args.opener c.args.channels.now.items c.remove_searched.new.channels.items c.args.counts.now.items
    c.remove_searched.new.counts.items c.remove_searched.ensures.removes c.remove_searched.ensures.gone

pub returns-in-Some-clause-channels : goal.returns-in-Some-clause-channels
returns-in-Some-clause-channels c =
    let lists = c.args.opened.now.lists.items in
    let there = slice_get_read lists (length lists) c.args.opener c.in-Some.cells.now refl
    (omega (arith, c.in-Some.ensures.variant.0 refl)) c.in-Some.ensures.value in
    all_removed c.args.opener c.args.channels.now.items c.remove_listed.new.channels.items c.args.counts.now.items
    c.remove_listed.new.counts.items c.remove_listed.ensures.removes
    (c.remove_listed.ensures.gone (all_in c.args.opened.now c.args.channels.now.items c.args.opener _
    c.if-not-opened.false there c.requires))

pub returns-in-Some-clause-listed : goal.returns-in-Some-clause-listed
returns-in-Some-clause-listed c =
    let lists = c.args.opened.now.lists.items in
    let there = slice_get_read lists (length lists) c.args.opener c.in-Some.cells.now refl
    (omega (arith, c.in-Some.ensures.variant.0 refl)) c.in-Some.ensures.value in
    listed_but_for c.args.opened.now _ c.args.channels.now.items c.remove_listed.new.channels.items c.args.opener
    c.remove_listed.new.cells refl refl c.remove_listed.ensures.removes.kept
    (c.remove_listed.ensures.gone (all_in c.args.opened.now c.args.channels.now.items c.args.opener _
    c.if-not-opened.false there c.requires)) c.requires

pub returns-in_default-clause-channels : goal.returns-in_default-clause-channels
returns-in_default-clause-channels c =
    let lists = c.args.opened.now.lists.items in
    let past : length lists ≤ c.args.opener =
    ⊎_elim (λ (within : c.args.opener < length lists).
    absurd (let none : false ≡ true = c.in_default.ensures.variant.1 (omega (arith, within)) in cc))
    (λ (past : length lists ≤ c.args.opener). past) (cases_lt c.args.opener (length lists)) in
    let there : slice_get lists c.args.opener ≡ None = slice_get_past lists c.args.opener past in
    sym (none_of c.args.opener c.args.channels.now.items (all_in c.args.opened.now c.args.channels.now.items
    c.args.opener None c.if-not-opened.false there c.requires))
