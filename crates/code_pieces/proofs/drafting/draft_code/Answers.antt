use Rattle.std.proofs.Common.{◌≡◌, ◌<◌, ◌+◌, ◌∙◌, ℕ, List, Option, None, length, get_or, false, Err, ap, arith, rules}
use Rattle.std.specs.Prelude.{IsSome}
use Rattle.module_builder.specs.declared.fault.GenFault.TheVariants.{Invalid}
use Rattle.code_pieces.specs.PieceViews.{pieces_of}
use Rattle.code_pieces.proofs.Faults.{handed_on}
use Rattle.code_pieces.proofs.PlacedLabels.{count_of, drafted}
use Rattle.code_pieces.proofs.PlacedPieces.{all_there, end_is_free}
use Rattle.code_pieces.proofs.drafting.draft_code.Goals as goal

pub returns-clause-ok : goal.returns-clause-ok
returns-clause-ok c =
    let there : (k : ℕ) → k < c.args.labels → IsSome (get_or c.push_pieces.new.code.labels k None) =
    first_of (assumption, search rules) in
    drafted c.in_ok-code.code c.push_pieces.new.code c.place_end.new.code c.args.tables.now
    (pieces_of c.args.pieces.now) c.args.labels c.in_ok-code.ensures.items c.in_ok-code.ensures.labels
    c.in_ok-push_pieces.ensures.items c.in_ok-push_pieces.ensures.count c.in_ok-push_pieces.ensures.placing there
    c.in_ok-place_end.ensures.ok c.requires

pub returns-then-not-are_placed-clause-invalid : goal.returns-then-not-are_placed-clause-invalid
returns-then-not-are_placed-clause-invalid c = λ e well.
    let off : c.are_placed.result ≡ false = first_of (assumption, grind arith) in
    c.are_placed.ensures.unless off
    (all_there c.in_ok-code.code c.push_pieces.new.code c.args.labels (pieces_of c.args.pieces.now)
    c.in_ok-push_pieces.ensures.there well)

pub returns-in_err-place_end-clause-invalid : goal.returns-in_err-place_end-clause-invalid
returns-in_err-place_end-clause-invalid c = λ e well.
    let labels = c.args.labels in
    let fault = handed_on c.from_residual-in_err-place_end.result c.in_err-place_end.field-0.0 Invalid
    c.from_residual-in_err-place_end.ensures.1 e in
    let long : length c.push_pieces.new.code.labels ≡ labels + 1 =
    c.in_ok-push_pieces.ensures.count ∙ ap (λ (ls : List (Option ℕ)). length ls) c.in_ok-code.ensures.labels
    ∙ count_of (labels + 1) None in
    end_is_free c.in_ok-code.code c.push_pieces.new.code labels (pieces_of c.args.pieces.now)
    c.in_ok-code.ensures.labels c.in_ok-push_pieces.ensures.there well.named
    (c.in_err-place_end.ensures.invalid (ap Err fault) (omega (arith, long)))
