use Rattle.std.proofs.Common.{rules, ℕ, ◌-◌, ◌%◌, ◌<◌, ap, ◌∙◌, sym, subst, refl, arith, Some, inl, inr, IsTrue}
use Rattle.std.proofs.Math.Nat.{zero-mod}
use Rattle.std.specs.List.{remove}
use Rattle.machine_state.specs.Holding.{may_write_word}
use Rattle.plain_machine.specs.Linked.{link_place, follow, linked}
use Rattle.plain_machine.proofs.Queueing.{at_pick, remove_pick, member_held, without_first, at_place, taken, taken_is}
use Rattle.plain_machine.proofs.workspace_queue.WorkspaceQueue.take.Goals as goal

pub returns-then-pick-eq0-clause-process : goal.returns-then-pick-eq0-clause-process
returns-then-pick-eq0-clause-process g c =
    let cells = g.S.LoadStore.cells c.args.store.now in
    let front = c.args.self.now.front in
    let size = c.args.self.now.length in
    let first = ap (λ (k : ℕ). k % size) c.if-pick-eq0.true ∙ zero-mod size in
    at_pick cells front size c.args.pick (search rules)
    ∙ (ap (λ (k : ℕ). Some (follow cells front k)) first
    ∙ ap (λ (p : ℕ). Some p) (sym c.take_front.ensures.process))

pub returns-then-pick-eq0-clause-waiting : goal.returns-then-pick-eq0-clause-waiting
returns-then-pick-eq0-clause-waiting g c =
    let cells = g.S.LoadStore.cells c.args.store.now in
    let front = c.args.self.now.front in
    let size = c.args.self.now.length in
    let first = ap (λ (k : ℕ). k % size) c.if-pick-eq0.true ∙ zero-mod size in
    rw c.take_front.ensures.queue (without_first cells front size (search rules)
    ∙ (ap (remove (linked cells front size)) (sym first)
    ∙ sym (remove_pick cells front size c.args.pick)))

pub returns-then-place-eq0-clause-process : goal.returns-then-place-eq0-clause-process
returns-then-place-eq0-clause-process g c =
    let cells = g.S.LoadStore.cells c.args.store.now in
    let front = c.args.self.now.front in
    let size = c.args.self.now.length in
    at_pick cells front size c.args.pick (search rules)
    ∙ (ap (λ (k : ℕ). Some (follow cells front k)) c.if-place-eq0.true
    ∙ ap (λ (p : ℕ). Some p) (sym c.take_front-then-place-eq0.ensures.process))

pub returns-then-place-eq0-clause-waiting : goal.returns-then-place-eq0-clause-waiting
returns-then-place-eq0-clause-waiting g c =
    let cells = g.S.LoadStore.cells c.args.store.now in
    let front = c.args.self.now.front in
    let size = c.args.self.now.length in
    rw c.take_front-then-place-eq0.ensures.queue (without_first cells front size (search rules)
    ∙ (ap (remove (linked cells front size)) (sym c.if-place-eq0.true)
    ∙ sym (remove_pick cells front size c.args.pick)))

pub follow-before-requires : goal.follow-before-requires
follow-before-requires g c =
    let inside : c.args.pick % c.args.self.now.length < c.args.self.now.length = search rules in
    λ k below. member_held _ _ _ _ c.args.self.now.length k (omega (arith, inside, below)) c.requires.intact

pub unlink_next-taken-requires-clause-process : goal.unlink_next-taken-requires-clause-process
unlink_next-taken-requires-clause-process g c =
    let inside : c.args.pick % c.args.self.now.length < c.args.self.now.length = search rules in
    subst (λ (p : ℕ). IsTrue (may_write_word (g.S.LoadStore.holding c.args.store.now) (link_place p)))
    (sym c.follow-before.ensures) (member_held _ _ _ _ c.args.self.now.length
    (c.args.pick % c.args.self.now.length - 1) (omega (arith, inside)) c.requires.intact)

pub unlink_next-taken-requires-clause-left : goal.unlink_next-taken-requires-clause-left
unlink_next-taken-requires-clause-left g c =
    let cells = g.S.LoadStore.cells c.args.store.now in
    let inside : c.args.pick % c.args.self.now.length < c.args.self.now.length = search rules in
    let place = c.args.pick % c.args.self.now.length in
    subst (λ (p : ℕ). IsTrue (may_write_word (g.S.LoadStore.holding c.args.store.now) (link_place p)))
    (sym (at_place cells c.args.self.now.front place c.follow-before.result
    (omega (arith, c.if-place-eq0.false)) c.follow-before.ensures))
    (member_held _ _ _ _ c.args.self.now.length place inside c.requires.intact)

pub returns-then-place-self-clause-process : goal.returns-then-place-self-clause-process
returns-then-place-self-clause-process g c =
    taken_is (g.S.LoadStore.cells c.args.store.now) c.args.self.now.front c.args.self.now.length c.args.pick
    c.follow-before.result _ c.if-place-eq0.false (search rules) c.follow-before.ensures
    c.unlink_next-taken.ensures.process

pub returns-then-place-self-clause-waiting : goal.returns-then-place-self-clause-waiting
returns-then-place-self-clause-waiting g c =
    (taken _ _ _ _ c.args.self.now.front c.args.self.now.back c.args.self.now.length c.args.pick
    c.follow-before.result c.unlink_next-taken.result _ c.requires.intact c.if-place-eq0.false (search rules)
    c.follow-before.ensures c.unlink_next-taken.ensures.process c.unlink_next-taken.ensures.memory
    c.unlink_next-taken.ensures.fits
    c.unlink_next-taken.ensures.holding (inl (c.if-place-self.true, refl))).list

pub returns-then-place-self-clause-intact : goal.returns-then-place-self-clause-intact
returns-then-place-self-clause-intact g c =
    (taken _ _ _ _ c.args.self.now.front c.args.self.now.back c.args.self.now.length c.args.pick
    c.follow-before.result c.unlink_next-taken.result _ c.requires.intact c.if-place-eq0.false (search rules)
    c.follow-before.ensures c.unlink_next-taken.ensures.process c.unlink_next-taken.ensures.memory
    c.unlink_next-taken.ensures.fits
    c.unlink_next-taken.ensures.holding (inl (c.if-place-self.true, refl))).intact

pub returns-then-place-self-clause-memory : goal.returns-then-place-self-clause-memory
returns-then-place-self-clause-memory g c =
    (taken _ _ _ _ c.args.self.now.front c.args.self.now.back c.args.self.now.length c.args.pick
    c.follow-before.result c.unlink_next-taken.result _ c.requires.intact c.if-place-eq0.false (search rules)
    c.follow-before.ensures c.unlink_next-taken.ensures.process c.unlink_next-taken.ensures.memory
    c.unlink_next-taken.ensures.fits
    c.unlink_next-taken.ensures.holding (inl (c.if-place-self.true, refl))).changes

pub returns-else-place-self-clause-process : goal.returns-else-place-self-clause-process
returns-else-place-self-clause-process g c =
    taken_is (g.S.LoadStore.cells c.args.store.now) c.args.self.now.front c.args.self.now.length c.args.pick
    c.follow-before.result _ c.if-place-eq0.false (search rules) c.follow-before.ensures
    c.unlink_next-taken.ensures.process

pub returns-else-place-self-clause-waiting : goal.returns-else-place-self-clause-waiting
returns-else-place-self-clause-waiting g c =
    (taken _ _ _ _ c.args.self.now.front c.args.self.now.back c.args.self.now.length c.args.pick
    c.follow-before.result c.unlink_next-taken.result _ c.requires.intact c.if-place-eq0.false (search rules)
    c.follow-before.ensures c.unlink_next-taken.ensures.process c.unlink_next-taken.ensures.memory
    c.unlink_next-taken.ensures.fits
    c.unlink_next-taken.ensures.holding (inr (c.if-place-self.false, refl))).list

pub returns-else-place-self-clause-intact : goal.returns-else-place-self-clause-intact
returns-else-place-self-clause-intact g c =
    (taken _ _ _ _ c.args.self.now.front c.args.self.now.back c.args.self.now.length c.args.pick
    c.follow-before.result c.unlink_next-taken.result _ c.requires.intact c.if-place-eq0.false (search rules)
    c.follow-before.ensures c.unlink_next-taken.ensures.process c.unlink_next-taken.ensures.memory
    c.unlink_next-taken.ensures.fits
    c.unlink_next-taken.ensures.holding (inr (c.if-place-self.false, refl))).intact

pub returns-else-place-self-clause-memory : goal.returns-else-place-self-clause-memory
returns-else-place-self-clause-memory g c =
    (taken _ _ _ _ c.args.self.now.front c.args.self.now.back c.args.self.now.length c.args.pick
    c.follow-before.result c.unlink_next-taken.result _ c.requires.intact c.if-place-eq0.false (search rules)
    c.follow-before.ensures c.unlink_next-taken.ensures.process c.unlink_next-taken.ensures.memory
    c.unlink_next-taken.ensures.fits
    c.unlink_next-taken.ensures.holding (inr (c.if-place-self.false, refl))).changes
