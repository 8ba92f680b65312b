use Rattle.std.proofs.Common.{◌≡◌, ◌+◌, List, [], ◌∷◌, ◌++◌, Err, ap, subst, ◌∙◌, arith, rules, w32}
use Rattle.std.proofs.lemmas.Int.{to_z-of_z}
use Rattle.std.proofs.lemmas.List.{append_assoc}
use Rattle.module_builder.specs.declared.fault.GenFault.TheVariants.{Limit}
use Rattle.scalar_ranges.specs.Scopes.{known_of, meaning_of}
use Rattle.program_uses.specs.Declaring.{add}
use Rattle.usage_checks.specs.NameRules.{with_entries}
use Rattle.code_pieces.specs.Pieces.{Piece}
use Rattle.code_pieces.proofs.Faults.{handed_on}
use Rattle.code_generator.specs.Processes.{row_of, loop_start}
use Rattle.code_generator.specs.Written.{site_of, in_turning, IsTooMuch}
use Rattle.code_generator.proofs.Exceeding.{much_behind}
use Rattle.code_generator.proofs.processes.ProcessWriter.enter_loop.Goals as goal

pub returns-clause-ok : goal.returns-clause-ok
returns-clause-ok c =
    let s = c.args.self.now in
    let l = c.args.turning in
    let changed = c.args.changed.now in
    let inner = in_turning (site_of s) l changed in
    let start = loop_start s.frame.top l.base l.count in
    let named = c.in_ok-add_name.ensures in
    let begun = c.in_ok-begin_loop.ensures.ok in
    let known : known_of c.add_name.new.scope ≡ inner.known =
    (λ i. record { entries = named.ok i; blocks = named.extends.blocks i })
    ∙ ap (with_entries (add l.name.now (meaning_of l.index))) begun in
    let frame = c.in_ok-add_block.ensures in
    let base = to_z-of_z w32 l.base (search rules) in
    let count = to_z-of_z w32 l.count (search rules) in
    let started = c.in_ok-write_loop_start.ensures
    ∙ (λ i. s.listing ++ loop_start s.frame.top (base i) (count i)) in
    let written = c.in_ok-write_row.ensures in
    let label : c.in_ok-self.field-0 ≡ s.label + 2 = omega (arith, c.in_ok-behind.ensures, c.in_ok-self.ensures) in
    let row : Piece = row_of s.label inner.frame inner.known in
    record {
      code = written.row ∙ (λ i. started i ++ row_of s.label (frame i) (known i) ∷ [])
          ∙ append_assoc s.listing start (row ∷ []);
      site = written.site ∙ (λ i. record { frame = frame i; known = known i; label = label i });
    }

pub returns-in_err-write_row-clause-limit : goal.returns-in_err-write_row-clause-limit
returns-in_err-write_row-clause-limit c = λ e.
    let s = c.args.self.now in
    let l = c.args.turning in
    let inner = in_turning (site_of s) l c.args.changed.now in
    let start = loop_start s.frame.top l.base l.count in
    let named = c.in_ok-add_name.ensures in
    let known : known_of c.add_name.new.scope ≡ inner.known =
    (λ i. record { entries = named.ok i; blocks = named.extends.blocks i })
    ∙ ap (with_entries (add l.name.now (meaning_of l.index))) c.in_ok-begin_loop.ensures.ok in
    let frame = c.in_ok-add_block.ensures in
    let base = to_z-of_z w32 l.base (search rules) in
    let count = to_z-of_z w32 l.count (search rules) in
    let started = c.in_ok-write_loop_start.ensures
    ∙ (λ i. s.listing ++ loop_start s.frame.top (base i) (count i)) in
    let fault = handed_on c.from_residual-in_err-write_row.result c.in_err-write_row.field-0.0 Limit
    c.from_residual-in_err-write_row.ensures.1 e in
    let row : Piece = row_of s.label inner.frame inner.known in
    much_behind c.args.limits s.listing c.write_loop_start.new.listing start (row ∷ []) started
    (subst (λ (ps : List Piece). IsTooMuch c.args.limits c.write_loop_start.new.listing ps)
    (λ i. row_of s.label (frame i) (known i) ∷ []) (c.in_err-write_row.ensures.limit (ap Err fault)))
