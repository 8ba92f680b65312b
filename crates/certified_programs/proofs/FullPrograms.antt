-- The code of a sequential program that breaks no rule addresses no empty table.
use Rattle.std.proofs.Common.{List, [], ◌∷◌, None, Some, sym, subst}
use Rattle.occam_parser.specs.Lines as lines
use Rattle.occam_parser.specs.Lines.{Formal}
use Rattle.scalar_ranges.specs.Entries.{Entry}
use Rattle.scalar_ranges.specs.Environments.{Environment}
use Rattle.program_meaning.specs.Meaning.{port_for}
use Rattle.usage_checks.specs.ItemRules.{around_in}
use Rattle.usage_checks.specs.Reaching.{in_procedure, to_body}
use Rattle.code_pieces.specs.declared.operations.TheConstants.{STOP_PROCESS}
use Rattle.code_pieces.specs.Pieces.{Piece, operates}
use Rattle.code_pieces.proofs.AllOfPieces.{all_both}
use Rattle.line_pieces.specs.Declarations.{Frame, home_for}
use Rattle.line_pieces.specs.Homes.{Nowhere}
use Rattle.code_generator.specs.Calls.{where_called}
use Rattle.code_generator.specs.Processes.{process_code}
use Rattle.code_generator.specs.Programs.{home_of_port, in_main}
use Rattle.meant_processes.proofs.CodeParts.{closed_is}
use Rattle.meant_programs.specs.Mains.{before_main}
use Rattle.meant_programs.proofs.MainPlaces.{link_homes}
use Rattle.meant_programs.proofs.Walk.{FoundFrom, GoesOn, find_main}
use Rattle.certified_modules.specs.Certifying.{HasValues}
use Rattle.certified_programs.specs.Tables.{NoTableIsEmpty}
use Rattle.certified_programs.proofs.FullLines.{AreFull, HaveValues, IsFull}
use Rattle.certified_programs.proofs.FullProcesses.{Full, constant_full, homes_more, process_full}
use Rattle.certified_programs.proofs.Texts.{declaration_text, process_texts}

-- no home before main is an empty table
abbrev Holds : Frame → List Entry → Environment → Type 0
Holds f es env = HaveValues f.homes

goes_on : GoesOn Holds
goes_on = record {
  constants = λ f es env inner c truth holds words declares have.
      homes_more f.homes (home_for es c.value_type c.value) have
      (constant_full es c.value_type c.value (declaration_text es (lines.Constants c) holds));
  procedures = λ f es env name n truth have. homes_more f.homes Nowhere have tt;
}

-- nor is a link
links_full : (fs : List Formal) → HaveValues (link_homes fs)
links_full [] = tt
links_full (f ∷ fs) = (by_port (port_for f), links_full fs)
  where
    by_port : (o : _) → IsFull (home_of_port o)
    by_port None = tt
    by_port (Some p) = tt

pub no_table_is_empty : NoTableIsEmpty
no_table_is_empty [] code none sequential has_words is = absurd sequential
no_table_is_empty (item ∷ rest) code none sequential has_words is =
    let items = item ∷ rest in
    let found : FoundFrom items none Holds goes_on item rest [] code =
    find_main item rest none Holds goes_on code sequential has_words is tt in
    let o = found.main.outside in
    let p = found.main.procedure in
    let w = where_called found.main.callees (around_in o) _ in
    let site = in_main p (before_main o found.main.frame) in
    let last : List Piece = operates STOP_PROCESS ∷ [] in
    let closed = closed_is last (process_code w p.body site) code found.main.is in
    let texts = process_texts items none p.body (in_procedure o p) _ _ (to_body o p found.main.comes) in
    let full : Full (process_code w p.body site) =
    process_full w p.body found.main.sequential texts site
    (all_both IsFull found.main.frame.homes (link_homes p.head.formals) found.holds (links_full p.head.formals)) in
    subst AreFull (sym closed.pieces)
    (all_both HasValues closed.first.pieces last (subst Full closed.is full) (tt, tt))
