use Rattle.std.proofs.Common.{◌≡◌, ℕ, ◌+◌, ◌-◌, ap, ◌∙◌, sym, refl, arith}
use Rattle.machine_state.specs.LocalStep.{copied}
use Rattle.machine_state.specs.Memory.{Memory, with_byte}
use Rattle.machine_state.specs.Tagged.{tagged_cells}
use Rattle.machine_state.proofs.Copying.{copied-previous, copied-none}
use Rattle.machine_state.proofs.cells.copy_up.Goals as goal

-- a block that is copied, its places said in another way
moved : (before : Memory) (source to other there n k : ℕ) → source ≡ other → to ≡ there → n ≡ k
    → copied before source to n before ≡ copied before other there k before
moved before source to other there n k p q r =
    ap (λ (x : ℕ). copied before x to n before) p
    ∙ (ap (λ (x : ℕ). copied before other x n before) q ∙ ap (λ (x : ℕ). copied before other there x before) r)

pub loop-k-init : goal.loop-k-init
loop-k-init c = (sym (copied-none _ _ _ _), c.requires.lengths)

pub loop-k-preserved : goal.loop-k-preserved
loop-k-preserved c =
    let before = tagged_cells c.args.bytes.now c.args.tags.now in
    let here = tagged_cells c.loop-k.bytes c.loop-k.tags in
    let k = c.loop-k.k in
    let left = c.args.count - 1 - k in
    let so_far = c.loop-k.invariant.0 ∙ moved before _ _ (c.args.source + left + 1) (c.args.to + left + 1) k k
    (omega arith) (omega arith) refl in (
      c.set_byte.ensures
          ∙ (ap (with_byte here (c.args.to + left)) c.byte_at-byte.ensures
          ∙ (copied-previous before here (c.args.source + left) (c.args.to + left) k (omega arith) so_far
          ∙ moved before _ _ _ _ (k + 1) (k + 1) (omega arith) (omega arith) refl)),
      omega arith,
    )

pub returns : goal.returns
returns c =
    let before = tagged_cells c.args.bytes.now c.args.tags.now in
    c.loop-k.invariant.0
    ∙ moved before _ _ c.args.source c.args.to c.loop-k.k c.args.count (omega arith) (omega arith) (omega arith)
