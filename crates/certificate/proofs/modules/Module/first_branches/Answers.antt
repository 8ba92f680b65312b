use Rattle.std.proofs.Common.{sym, arith}
use Rattle.std.proofs.lemmas.Bool.{ltb-true}
use Rattle.certificate.proofs.SiblingLaws.{some_are, all_are, some_kept, all_kept}
use Rattle.certificate.proofs.modules.Module.first_branches.Goals as goal

pub returns-then-count-len-clause-are : goal.returns-then-count-len-clause-are
returns-then-count-len-clause-are c =
    some_are c.tables.result.now c.args.self.now c.args.row c.args.count c.in-Some.par.now
    c.tables.ensures.contents (rw c.deref.ensures.value at (ltb-true _ _ (sym c.in-Some.ensures.lookup.0)))
    (rw c.deref.ensures.value at c.in-Some.ensures.lookup.1)
    c.deref-then-count-len.result.now c.deref-then-count-len.ensures.value

pub returns-then-count-len-clause-kept : goal.returns-then-count-len-clause-kept
returns-then-count-len-clause-kept c =
    some_kept c.tables.result.now c.args.self.now c.args.row c.args.count c.in-Some.par.now
    c.tables.ensures.contents (rw c.deref.ensures.value at (ltb-true _ _ (sym c.in-Some.ensures.lookup.0)))
    (rw c.deref.ensures.value at c.in-Some.ensures.lookup.1)
    c.deref-then-count-len.result.now c.deref-then-count-len.ensures.value c.tables.ensures.kept

pub returns-else-count-len-clause-are : goal.returns-else-count-len-clause-are
returns-else-count-len-clause-are c =
    let few = rw c.len.ensures at c.if-count-len.false in
    let long = c.deref-else-count-len.ensures.len in
    all_are c.tables.result.now c.args.self.now c.args.row c.args.count c.in-Some.par.now
    c.tables.ensures.contents (rw c.deref.ensures.value at (ltb-true _ _ (sym c.in-Some.ensures.lookup.0)))
    (rw c.deref.ensures.value at c.in-Some.ensures.lookup.1)
    c.deref-else-count-len.result.now c.deref-else-count-len.ensures.value
    (omega (arith, few, long))

pub returns-else-count-len-clause-kept : goal.returns-else-count-len-clause-kept
returns-else-count-len-clause-kept c =
    all_kept c.tables.result.now c.args.self.now c.args.row c.args.count c.in-Some.par.now
    c.tables.ensures.contents (rw c.deref.ensures.value at (ltb-true _ _ (sym c.in-Some.ensures.lookup.0)))
    (rw c.deref.ensures.value at c.in-Some.ensures.lookup.1)
    c.deref-else-count-len.result.now c.deref-else-count-len.ensures.value c.tables.ensures.kept
