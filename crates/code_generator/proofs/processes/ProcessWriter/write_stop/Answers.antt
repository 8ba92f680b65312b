use Rattle.std.proofs.Common.{List, [], ◌∷◌, ◌++◌, Err, ap, ◌∙◌}
use Rattle.std.proofs.lemmas.List.{append_assoc}
use Rattle.module_builder.specs.declared.fault.GenFault.TheVariants.{Limit}
use Rattle.scalar_ranges.specs.Scopes.{known_of}
use Rattle.code_pieces.specs.declared.operations.TheConstants.{STOP_PROCESS}
use Rattle.code_pieces.specs.Pieces.{Piece, operates}
use Rattle.code_pieces.proofs.Faults.{handed_on}
use Rattle.line_pieces.specs.FrameViews.{frame_seen}
use Rattle.code_generator.specs.Processes.{Site, row_of}
use Rattle.code_generator.proofs.Exceeding.{much_behind}
use Rattle.code_generator.proofs.processes.ProcessWriter.write_stop.Goals as goal

pub returns-clause-code : goal.returns-clause-code
returns-clause-code c =
    let s = c.args.self.now in
    let row = row_of s.label (frame_seen s.frame) (known_of s.scope) in
    let written = c.in_ok-write_row.ensures in (
      written.row ∙ ap (λ (l : List Piece). l ++ row ∷ []) c.in_ok-operate.ensures
          ∙ append_assoc s.listing (operates STOP_PROCESS ∷ []) (row ∷ []),
      ap (λ (z : Site). z.label) written.site ∙ c.in_ok-self.ensures,
    )

pub returns-clause-scope : goal.returns-clause-scope
returns-clause-scope c = ap (λ (z : Site). z.known) c.in_ok-write_row.ensures.site

pub returns-clause-frame : goal.returns-clause-frame
returns-clause-frame c = ap (λ (z : Site). z.frame) c.in_ok-write_row.ensures.site

pub returns-in_err-write_row-clause-limit : goal.returns-in_err-write_row-clause-limit
returns-in_err-write_row-clause-limit c = λ e.
    let s = c.args.self.now in
    let fault = handed_on c.from_residual-in_err-write_row.result c.in_err-write_row.field-0.0 Limit
    c.from_residual-in_err-write_row.ensures.1 e in
    much_behind c.args.limits s.listing c.operate.new.self (operates STOP_PROCESS ∷ [])
    (row_of s.label (frame_seen s.frame) (known_of s.scope) ∷ []) c.in_ok-operate.ensures
    (c.in_err-write_row.ensures.limit (ap Err fault))
