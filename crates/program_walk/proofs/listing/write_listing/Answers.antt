use Rattle.std.proofs.Common.{◌+◌, ◌-◌, ◌++◌, map, take, string_bytes, sym, ap, ◌∙◌, arith, append_assoc, append-nil}
use Rattle.std.proofs.lemmas.Bool.{eqb-true}
use Rattle.occam_layout.specs.Reading.{lines_of}
use Rattle.reason_texts.specs.Blocks.{Text}
use Rattle.program_walk.specs.Listings.{listed_line, listing_from}
use Rattle.program_walk.proofs.ListingWritten.{taken-next, none-left, none-wanted}
use Rattle.program_walk.proofs.listing.write_listing.Goals as goal

pub returns-then-is_empty : goal.returns-then-is_empty
returns-then-is_empty c =
    let notes = map string_bytes c.args.notes.now in
    let none = none-left (c.args.last - c.loop-before.before) c.loop-before.before c.loop-before.rest.now notes
    (eqb-true _ _ (sym c.is_empty.ensures ∙ c.if-is_empty.true)) in
    sym (append-nil _) ∙ ap (λ (ts : Text). string_bytes c.loop-before.text ++ ts) (sym none) ∙ c.loop-before.invariant

pub loop-before-preserved : goal.loop-before-preserved
loop-before-preserved c =
    let notes = map string_bytes c.args.notes.now in
    let left = c.args.last - (c.loop-before.before + 1) in
    let next = taken-next (c.args.last - c.loop-before.before) left c.loop-before.before (lines_of c.loop-before.rest.now)
    c.first_line.result.0.now _ notes c.first_line.ensures.parts (omega (arith, c.loop-before-test.true)) in
    let rest = listing_from (c.loop-before.before + 1) (take left (lines_of c.first_line.result.1.now)) notes in
    let wrote = c.in_ok-push_line.ensures in
    ap (λ (ts : Text). ts ++ rest) (wrote ∙ ap (λ (note : Text). string_bytes c.loop-before.text
    ++ listed_line (c.loop-before.before + 1) c.first_line.result.0.now note) c.note_on.ensures)
    ∙ append_assoc (string_bytes c.loop-before.text) _ rest
    ∙ ap (λ (ts : Text). string_bytes c.loop-before.text ++ ts) (sym next) ∙ c.loop-before.invariant

pub returns : goal.returns
returns c =
    let notes = map string_bytes c.args.notes.now in
    let none = none-wanted (c.args.last - c.loop-before.before) c.loop-before.before (lines_of c.loop-before.rest.now) notes
    (omega (arith, c.loop-before-test.false)) in
    sym (append-nil _) ∙ ap (λ (ts : Text). string_bytes c.loop-before.text ++ ts) (sym none) ∙ c.loop-before.invariant
