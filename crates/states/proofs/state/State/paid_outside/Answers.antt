use Rattle.std.proofs.Common.{◌≡◌, ◌+◌, ◌++◌, ℕ, List, sym, ap, subst, ◌∙◌, arith}
use Rattle.module_format.specs.Rows.{Entry}
use Rattle.states.specs.Cutting.{IsPaidOutside}
use Rattle.states.specs.Frames.{frame_facts}
use Rattle.states.specs.State.{Facts, State}
use Rattle.states.proofs.CutEntries.{outside-all, outside-both}
use Rattle.states.proofs.state.State.paid_outside.Goals as goal

-- what is paid for the three parts
paid-for : (c : goal.In_ok-paid)
    → IsPaidOutside c.args.intervals.now (frame_facts c.args.self.now.frame) c.args.entries.now c.in_ok-paid.paid
paid-for c =
    let intervals = c.args.intervals.now in
    let facts = frame_facts c.args.self.now.frame in
    let parts = c.parts_of-parts.result in
    let middle : frame_facts c.paid.new.self ≡ facts = c.paid.ensures.facts in
    let before = outside-all intervals facts parts.before.now c.in_ok-before.before c.in_ok-before.ensures.hold
    c.in_ok-before.ensures.whole c.in_ok-before.ensures.paid in
    let among = subst (λ (f : Facts). IsPaidOutside intervals f parts.among.now c.in_ok-among.among) middle
    c.in_ok-among.ensures.paid in
    let later = ap (λ (s : State). s.frame) c.paid_in_pieces.ensures.left.state ∙ middle in
    let behind = subst (λ (f : Facts). IsPaidOutside intervals f parts.behind.now c.in_ok-behind.behind) later
    (outside-all intervals _ parts.behind.now c.in_ok-behind.behind c.in_ok-behind.ensures.hold
    c.in_ok-behind.ensures.whole c.in_ok-behind.ensures.paid) in
    let rest = outside-both intervals facts parts.among.now parts.behind.now c.in_ok-among.among c.in_ok-behind.behind
    among behind in
    let all = outside-both intervals facts parts.before.now (parts.among.now ++ parts.behind.now)
    c.in_ok-before.before (c.in_ok-among.among + c.in_ok-behind.behind) before rest in
    let inner = c.in_ok-checked_add.ensures in
    let outer = c.in_ok-paid.ensures in
    let sum : c.in_ok-before.before + (c.in_ok-among.among + c.in_ok-behind.behind) ≡ c.in_ok-paid.paid =
    omega (arith, inner, outer) in
    subst (λ (paid : ℕ). IsPaidOutside intervals facts c.args.entries.now paid) sum
    (subst (λ (entries : List Entry). IsPaidOutside intervals facts entries
    (c.in_ok-before.before + (c.in_ok-among.among + c.in_ok-behind.behind))) (sym c.parts_of-parts.ensures.all) all)

pub returns-clause-says : goal.returns-clause-says
returns-clause-says c = (paid-for c).says

pub returns-clause-whole : goal.returns-clause-whole
returns-clause-whole c = (paid-for c).whole

pub returns-clause-paid : goal.returns-clause-paid
returns-clause-paid c = (paid-for c).due
