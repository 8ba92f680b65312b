use Rattle.std.proofs.Common.{◌≡◌, ℕ, ◌+◌, ap, ◌∙◌, sym, arith}
use Rattle.machine_state.specs.LocalStep.{copied}
use Rattle.machine_state.specs.Memory.{with_byte}
use Rattle.machine_state.specs.Tagged.{tagged_cells}
use Rattle.machine_state.proofs.Copying.{copied-next, copied-none}
use Rattle.machine_state.proofs.cells.copy_down.Goals as goal

pub loop-k-init : goal.loop-k-init
loop-k-init c = (sym (copied-none _ _ _ _), c.requires.lengths)

pub loop-k-preserved : goal.loop-k-preserved
loop-k-preserved c =
    let before = tagged_cells c.args.bytes.now c.args.tags.now in
    let here = tagged_cells c.loop-k.bytes c.loop-k.tags in (
      c.set_byte.ensures
          ∙ (ap (with_byte here (c.args.to + c.loop-k.k)) c.byte_at-byte.ensures
          ∙ copied-next before here c.args.source c.args.to c.loop-k.k c.requires.down
          c.loop-k.invariant.0),
      omega arith,
    )

pub returns : goal.returns
returns c =
    let before = tagged_cells c.args.bytes.now c.args.tags.now in
    let all : c.loop-k.k ≡ c.args.count = omega arith in
    c.loop-k.invariant.0 ∙ ap (λ (n : ℕ). copied before c.args.source c.args.to n before) all
