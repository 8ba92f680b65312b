use Rattle.std.proofs.Common.{inl, inr, refl}
use Rattle.occam_parser.specs.declared.head.BlockKind.TheVariants as block
use Rattle.occam_parser.specs.BlockViews.{plain_component, choice_of, branch_of}
use Rattle.occam_parser.proofs.SeenBlocks.{adds_of, view-Body-Seq, view-Body-Par, view-Body-If, view-Body-Alt}
use Rattle.occam_parser.proofs.block.Components.add.Goals as goal

pub returns-in-Seq : goal.returns-in-Seq
returns-in-Seq c =
    let read = c.in_ok-component.was in
    let p = c.in-Seq.process in
    let push = c.push-in-Seq in
    elim c.in-Seq.is [
      | inl is ↦ adds_of block.Seq plain_component _ _ c.args.self.now _ push.result read is (view-Body-Seq p) refl refl
          push.ensures
      | inr is ↦ adds_of block.Par plain_component _ _ c.args.self.now _ push.result read is (view-Body-Par p) refl refl
          push.ensures
    ]

pub returns-in-If : goal.returns-in-If
returns-in-If c =
    adds_of block.If choice_of _ _ c.args.self.now _ c.push.result c.in_ok-component.was c.in-If.is
    (view-Body-If c.in-If.choice) refl refl c.push.ensures

pub returns-in-Alt : goal.returns-in-Alt
returns-in-Alt c =
    adds_of block.Alt branch_of _ _ c.args.self.now _ c.push-in-Alt.result c.in_ok-component.was c.in-Alt.is
    (view-Body-Alt c.in-Alt.branch) refl refl c.push-in-Alt.ensures
