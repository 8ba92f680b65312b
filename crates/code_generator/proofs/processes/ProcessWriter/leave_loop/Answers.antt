use Rattle.std.proofs.Common.{◌+◌, List, [], ◌∷◌, ◌++◌, Err, ap, subst, ◌∙◌}
use Rattle.std.proofs.lemmas.List.{append_assoc}
use Rattle.module_builder.specs.declared.fault.GenFault.TheVariants.{Limit}
use Rattle.code_pieces.specs.Pieces.{Piece, LoopBack, points}
use Rattle.code_pieces.proofs.Faults.{handed_on}
use Rattle.code_generator.specs.Processes.{row_of}
use Rattle.code_generator.specs.Written.{site_of, behind_loop, IsTooMuch}
use Rattle.code_generator.proofs.Exceeding.{much_behind}
use Rattle.code_generator.proofs.LoopsWritten.{loop_left}
use Rattle.code_generator.proofs.processes.ProcessWriter.leave_loop.Goals as goal

pub returns-clause-ok : goal.returns-clause-ok
returns-clause-ok c =
    let s = c.args.self.now in
    let head = c.args.head in
    let place = behind_loop c.args.names c.args.word (site_of s) in
    let left = loop_left s c.args.names c.args.word head c.write_loop_end.new.listing c.leave.new.self c.end.new.self
    c.leave.ensures.homes c.leave.ensures.top c.leave.ensures.outer c.end.ensures c.in_ok-behind.ensures
    c.in_ok-write_loop_end.ensures in
    record {
      code = c.in_ok-write_row.ensures.row ∙ (λ i. left.code i ++ left.row i ∷ [])
          ∙ append_assoc s.listing (points c.args.word ∷ LoopBack head (head + 1) ∷ [])
          (row_of (head + 1) place.frame place.known ∷ []);
      site = c.in_ok-write_row.ensures.site
          ∙ (λ i. record { frame = left.frame i; known = left.known i; label = s.label });
    }

pub returns-in_err-write_row-clause-limit : goal.returns-in_err-write_row-clause-limit
returns-in_err-write_row-clause-limit c = λ e.
    let s = c.args.self.now in
    let fault = handed_on c.from_residual-in_err-write_row.result c.in_err-write_row.field-0.0 Limit
    c.from_residual-in_err-write_row.ensures.1 e in
    let left = loop_left s c.args.names c.args.word c.args.head c.write_loop_end.new.listing c.leave.new.self
    c.end.new.self c.leave.ensures.homes c.leave.ensures.top c.leave.ensures.outer c.end.ensures
    c.in_ok-behind.ensures c.in_ok-write_loop_end.ensures in
    let place = behind_loop c.args.names c.args.word (site_of s) in
    much_behind c.args.limits s.listing c.write_loop_end.new.listing
    (points c.args.word ∷ LoopBack c.args.head (c.args.head + 1) ∷ [])
    (row_of (c.args.head + 1) place.frame place.known ∷ []) left.code
    (subst (λ (ps : List Piece). IsTooMuch c.args.limits c.write_loop_end.new.listing ps) (λ i. left.row i ∷ [])
    (c.in_err-write_row.ensures.limit (ap Err fault)))
