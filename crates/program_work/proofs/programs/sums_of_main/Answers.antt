use Rattle.std.proofs.Common.{◌≡◌, ◌∙◌, ap, sym, refl, length, map, ◌-◌, Option, Some, None, Bor, option_map}
use Rattle.std.proofs.Common.{option_and_then}
use Rattle.std.proofs.lemmas.List.{length-map}
use Rattle.std.proofs.lemmas.Option.{slice_get-map}
use Rattle.std.specs.List.{slice_get}
use Rattle.std.specs.Option.{option_copied}
use Rattle.occam_parser.specs.declared.tree.Item.{Item}
use Rattle.occam_parser.specs.BlockViews.{item_of}
use Rattle.program_work.specs.Programs.{procedure_in}
use Rattle.program_work.specs.Sums.{sums_of_main}
use Rattle.program_work.proofs.LastItem.{main_is_last}
use Rattle.program_work.proofs.programs.sums_of_main.Goals as goal

seen : (r : Option (Bor Item)) → option_map (λ i. item_of i.now) r ≡ option_map item_of (option_copied r)
seen None = refl
seen (Some i) = refl

pub returns : goal.returns
returns c =
    let items = c.args.items.now in
    let last = seen c.last.result ∙ ap (option_map item_of) c.last.ensures.value
    ∙ sym (slice_get-map item_of items (length items - 1))
    ∙ ap (λ n. slice_get (map item_of items) (n - 1)) (sym (length-map items item_of)) in
    c.sums_of_last.ensures ∙ ap (λ i. sums_of_main (option_and_then procedure_in i)) last
    ∙ ap sums_of_main (main_is_last (map item_of items))
