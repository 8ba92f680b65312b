use Rattle.std.proofs.Common.{◌≡◌, ◌∙◌, ap, sym, refl, length, map, ◌-◌, Option, Some, None, Bor, option_map, subst}
use Rattle.std.proofs.lemmas.List.{length-map}
use Rattle.std.proofs.lemmas.Option.{slice_get-map}
use Rattle.std.specs.List.{slice_get}
use Rattle.std.specs.Option.{option_copied}
use Rattle.occam_parser.specs.declared.tree.Item.{Item}
use Rattle.occam_parser.specs.BlockViews.{item_of}
use Rattle.usage_checks.specs.MainRules.{IsNoMain}
use Rattle.program_uses.specs.Telling.{IsFirst}
use Rattle.usage_checks.proofs.main_rules.fault_of_main.Goals as goal

seen : (r : Option (Bor Item)) → option_map (λ i. item_of i.now) r ≡ option_map item_of (option_copied r)
seen None = refl
seen (Some i) = refl

pub returns : goal.returns
returns c =
    let items = c.args.items.now in
    let last = seen c.last.result ∙ ap (option_map item_of) c.last.ensures.value
    ∙ sym (slice_get-map item_of items (length items - 1))
    ∙ ap (λ n. slice_get (map item_of items) (n - 1)) (sym (length-map items item_of)) in
    subst (λ i. IsFirst (IsNoMain i) c.no_main.result) last c.no_main.ensures
