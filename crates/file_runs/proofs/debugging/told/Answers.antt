use Rattle.std.proofs.Common.{◌∙◌, ap, ap₂, sym, subst, string_bytes}
use Rattle.std.proofs.lemmas.Result.{IfOk-weaker}
use Rattle.command_line.specs.Words.{Text}
use Rattle.link_runner.specs.declared.report.Report.{Report}
use Rattle.file_runs.specs.RunTexts.{debug_text}
use Rattle.command_line.specs.Links.{paths_of}
use Rattle.waiting_texts.specs.declared.setting.Setting.{Setting}
use Rattle.waiting_texts.specs.Lines.{TellsWaits}
use Rattle.file_runs.proofs.Driven.{known_if_over}
use Rattle.file_runs.proofs.debugging.told.Goals as goal

pub waiting_lines-requires : goal.waiting_lines-requires
waiting_lines-requires c over =
    known_if_over c.args.ending c.args.checked.now c.requires
    (ap (λ (s : Setting). s.is_over) (sym c.setting.ensures) ∙ over)

pub returns : goal.returns
returns c =
    let inputs = paths_of c.args.asked.inputs in
    let outputs = paths_of c.args.asked.outputs in
    let waits = string_bytes c.in_ok-waits.waits in
    IfOk-weaker c.debug_report.result _ _ (λ text is. record {
      waits = waits;
      tells = subst (λ (s : Setting). TellsWaits c.args.module.now c.args.lines.now s c.args.checked.now.world waits) c.setting.ensures
          c.in_ok-waits.ensures;
      told = is ∙ ap₂ (λ (r : Report) (t : Text). debug_text c.args.ending inputs outputs r t)
          c.report_at-report.ensures c.deref.ensures;
    }) c.debug_report.ensures
