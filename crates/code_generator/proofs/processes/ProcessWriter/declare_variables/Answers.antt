use Rattle.std.proofs.Common.{◌++◌, Err, ap, subst, ◌∙◌}
use Rattle.module_builder.specs.declared.fault.GenFault.TheVariants.{Limit}
use Rattle.occam_parser.specs.OneOrMore.{as_list, one_or_more_of}
use Rattle.occam_parser.specs.LineViews.{any_of, spelling_of}
use Rattle.code_pieces.proofs.Faults.{handed_on}
use Rattle.line_pieces.specs.Declarations.{zero_names}
use Rattle.code_generator.specs.Written.{IsTooMuch}
use Rattle.code_generator.proofs.DeclarationsWritten.{names_placed}
use Rattle.code_generator.proofs.processes.ProcessWriter.declare_variables.Goals as goal

pub returns-clause-ok : goal.returns-clause-ok
returns-clause-ok c =
    let s = c.args.self.now in
    let size = any_of c.args.names.now.size in
    let names = as_list (one_or_more_of spelling_of c.args.names.now.names) in
    record {
      code = c.in_ok-clear_names.ensures.code
          ∙ ap (λ n. s.listing ++ zero_names size n names s.frame.top) c.words_in-count.ensures;
      site = names_placed names s c.add_names.new.self c.declare_names.new.scope c.in_ok-add_names.ensures
          c.words_in-count.ensures c.in_ok-declare_names.ensures.entries c.variable_meaning-meaning.ensures
          c.in_ok-declare_names.ensures.blocks;
    }

pub returns-in_err-clear_names-clause-limit : goal.returns-in_err-clear_names-clause-limit
returns-in_err-clear_names-clause-limit c = λ e.
    let s = c.args.self.now in
    let size = any_of c.args.names.now.size in
    let names = as_list (one_or_more_of spelling_of c.args.names.now.names) in
    let fault = handed_on c.from_residual.result c.in_err-clear_names.field-0.0 Limit
    c.from_residual.ensures.1 e in
    subst (λ n. IsTooMuch c.args.limits s.listing (zero_names size n names s.frame.top)) c.words_in-count.ensures
    (c.in_err-clear_names.ensures.limit (ap Err fault))
