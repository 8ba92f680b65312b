use Rattle.std.proofs.Common.{ap, sym, ◌∙◌}
use Rattle.std.proofs.lemmas.List.{append-nil}
use Rattle.scalar_ranges.specs.Scopes.{entries_of}
use Rattle.program_uses.specs.Declaring.{add}
use Rattle.line_pieces.specs.Declarations.{with_home}
use Rattle.line_pieces.specs.FrameViews.{frame_seen}
use Rattle.code_generator.proofs.processes.ProcessWriter.declare_constant.Goals as goal

pub returns : goal.returns
returns c =
    let s = c.args.self.now in
    record {
      code = sym (append-nil s.listing);
      site = λ i. record {
        frame = (c.in_ok-add_home.ensures ∙ ap (λ h. with_home h (frame_seen s.frame)) c.in_ok-home.ensures) i;
        known = record {
          entries = (c.in_ok-add_name.ensures.ok
              ∙ ap (λ m. add c.args.constant.now.name.now m (entries_of s.scope)) c.constant_meaning-meaning.ensures) i;
          blocks = c.add_name.ensures.extends.blocks i;
        };
        label = s.label;
      };
    }
