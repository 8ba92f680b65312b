use Rattle.module_format.specs.Contents.{contents_of, par_of, branch_of, Par, Branch}
use Rattle.certificate.proofs.AroundLaws.{saved_left, around_left, context_below}
use Rattle.certificate.proofs.around.Around.leave_until.Goals.{in-Some-pop+in_ok-restore, in_default-pop}
use Rattle.certificate.proofs.around.Around.leave_until.Goals as goal

pub loop-number-smaller : goal.loop-number-smaller
loop-number-smaller c =
    rw c.from-self.ensures (context_below (contents_of c.args.tables.now) c.requires.keeps c.loop-number.self.context
    (par_of c.in-Some.par.now, branch_of c.in-Some._branch.now) c.in-Some.ensures.found)

pub loop-number-preserved : goal.loop-number-preserved
loop-number-preserved c =
    let m = contents_of c.args.tables.now in
    let x : Par × Branch = (par_of c.in-Some.par.now, branch_of c.in-Some._branch.now) in
    let left = saved_left m c.loop-number.self.context x c.loop-number.self.saved.items c.pop.new.self.items
    c.pop.result
    c.in-Some.ensures.found c.loop-number.invariant.saved c.pop.ensures.items
    (λ lt. c.pop.ensures.variant.1 (rw c.loop-number.self.saved.ok.0 lt)) in
    elim c.match-pop.branch [
      | in-Some-pop+in_ok-restore w ↦
          rw w.self-is (around_left m c.requires.keeps c.loop-number.self (record {
            context = c.from-self.result;
            lengths = w.restore.new.lengths;
            saved = c.pop.new.self;
          }) x w.in-Some-pop.saved c.in-Some.ensures.found c.loop-number.invariant (rw w.in-Some-pop.is at left)
          (rw (w.deref.ensures.value, w.deref-in-Some-pop.ensures.value) at w.in_ok-restore.ensures)
          c.from-self.ensures)
      | in_default-pop w ↦ absurd (rw w.in_default-pop.is at left)
    ]
