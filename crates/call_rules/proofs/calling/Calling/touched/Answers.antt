use Rattle.std.proofs.Common.{rules, ◌∙◌, sym, ap, subst, List, Option, length, arith}
use Rattle.std.specs.Int.{w32}
use Rattle.std.specs.List.{AllByRecursion}
use Rattle.std.proofs.lemmas.Int.{to_z-of_z}
use Rattle.module_format.specs.Contents.{procedure_of}
use Rattle.call_rules.specs.declared.lent.Lent.{Lent}
use Rattle.std.proofs.lemmas.List.{length-map}
use Rattle.call_rules.specs.Callings.{calling_of, passed_to, OwnsLent}
use Rattle.call_rules.proofs.PassedOnce.{lent_passed}
use Rattle.call_rules.proofs.Touching.{row_keeps, frame_some, all_owned}
use Rattle.call_rules.proofs.calling.Calling.touched.Goals as goal

pub admits-requires-clause-some : goal.admits-requires-clause-some
admits-requires-clause-some c =
    let m = c.args.self.now.place.module.now in
    let row = row_keeps m c.requires.belongs.kept c.requires.row.0 (procedure_of c.args.self.now.callee.now)
    c.requires.row.1 in
    frame_some (length m.code) row.0 (procedure_of c.args.self.now.callee.now) row.1

pub all_lent-lent-requires : goal.all_lent-lent-requires
all_lent-lent-requires c =
    let call = calling_of c.args.self.now in
    let m = c.args.self.now.place.module.now in
    let row = row_keeps m c.requires.belongs.kept c.requires.row.0 (procedure_of c.args.self.now.callee.now)
    c.requires.row.1 in
    let few = row.1.few in
    let many = ap length c.requires.passed ∙ length-map call.callee.parameters (passed_to call) in
    omega (arith, few, many)

pub admits-requires-clause-lent : goal.admits-requires-clause-lent
admits-requires-clause-lent c =
    c.deref.ensures.0
    ∙ lent_passed (calling_of c.args.self.now) c.args.all.now c.all_lent-lent.result.items c.requires.passed
    c.all_lent-lent.ensures

pub returns-clause-touched : goal.returns-clause-touched
returns-clause-touched c =
    let m = c.args.self.now.place.module.now in
    let p = procedure_of c.args.self.now.callee.now in
    let row = row_keeps m c.requires.belongs.kept c.requires.row.0 p c.requires.row.1 in
    let some = frame_some (length m.code) row.0 p row.1 in
    let size = c.frame_size.ensures in
    let lent_is = lent_passed (calling_of c.args.self.now) c.args.all.now c.all_lent-lent.result.items
    c.requires.passed c.all_lent-lent.ensures in
    record {
      first = to_z-of_z w32 c.in_ok-first.first (search rules) ∙ c.in_ok-first.ensures.first;
      count = size;
      some = omega (arith, some, size);
      lent = lent_is;
      own = subst (λ (all : List (Option Lent)). AllByRecursion (OwnsLent m c.args.self.now.state.now.context) all)
          (sym lent_is)
          (all_owned (calling_of c.args.self.now) p.hi 0 p.parameters row.1.parameters
          c.in_ok-first.ensures.pointers);
    }
