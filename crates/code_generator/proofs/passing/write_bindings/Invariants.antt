use Rattle.std.proofs.Common.{◌≡◌, ◌++◌, map, drop}
use Rattle.occam_parser.specs.Views.{expression_of}
use Rattle.line_pieces.specs.FrameViews.{frame_seen}
use Rattle.code_generator.specs.Instances.{bindings_code, all_bound}
use Rattle.code_generator.specs.PassedViews.{parameters_of}
use Rattle.line_pieces.specs.SettingViews.{entries_in, homes_in}
use Rattle.code_generator.proofs.passing.write_bindings.Given as goal

abbrev pub invariant-loop-place : goal.invariant-loop-place
invariant-loop-place l =
    let hs = homes_in l.setting in
    let es = entries_in l.setting in
    let qs = parameters_of l.passed in
    record {
      code : l.listing
          ++ bindings_code hs es qs l.place (map expression_of (drop l.place l.actual-items)) (frame_seen l.frame)
          ≡ l.initial.listing
          ++ bindings_code hs es qs 0 (map expression_of l.actual-items) (frame_seen l.initial.frame);
      frame : all_bound hs es qs l.place (map expression_of (drop l.place l.actual-items)) (frame_seen l.frame)
          ≡ all_bound hs es qs 0 (map expression_of l.actual-items) (frame_seen l.initial.frame);
    }
