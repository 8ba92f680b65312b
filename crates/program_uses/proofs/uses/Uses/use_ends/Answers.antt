use Rattle.std.proofs.Common.{◌≤◌, ◌∷◌, [], length, get_or, arith, ap, refl}
use Rattle.program_uses.specs.declared.uses.Direction.TheVariants as direction
use Rattle.program_uses.specs.declared.uses.End.{End}
use Rattle.program_uses.specs.declared.uses.Use.TheVariants as used
use Rattle.program_uses.proofs.Adding.{adds_as, gathers_none, gathers_next, gathers_all}
use Rattle.program_uses.proofs.Gathering.{end_uses, ends_gathered}
use Rattle.program_uses.proofs.uses.Uses.use_ends.Goals as goal

pub loop-end-init : goal.loop-end-init
loop-end-init c = gathers_none (end_uses c.args.channel c.args.element) c.args.self.now

pub loop-end-preserved : goal.loop-end-preserved
loop-end-preserved c =
    let none : End = record { element = 0; direction = direction.Input } in
    let end = get_or c.args.ends.now c.loop-end.end-index none in
    gathers_next (end_uses c.args.channel c.args.element) c.args.ends.now c.loop-end.end-index end none (omega arith)
    refl c.loop-end.invariant
    (adds_as (ap (λ i. used.Channel c.args.channel i end.direction ∷ []) c.unwrap_or.ensures) c.add.ensures)

pub returns : goal.returns
returns c =
    let ends = c.args.ends.now in
    let done : length ends ≤ c.loop-end.end-index = omega arith in
    adds_as (ends_gathered c.args.channel c.args.element 0 ends)
    (gathers_all (end_uses c.args.channel c.args.element) ends c.loop-end.end-index done c.loop-end.invariant)
