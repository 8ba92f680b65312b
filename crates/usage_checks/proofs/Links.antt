-- The formals of main, one after the other.
use Rattle.std.proofs.Common.{◌≡◌, ℕ, ◌+◌, ◌<◌, ◌&&◌, List, length, map, drop, get_or, ap, sym, ◌∙◌}
use Rattle.std.proofs.lemmas.List.{at_drop_more}
use Rattle.occam_parser.specs.declared.tree.Formal.{Formal}
use Rattle.occam_parser.specs.LineViews.{formal_of}
use Rattle.usage_checks.specs.MainRules.{is_link_as, are_links}

pub first_link : (xs : List Formal) (i : ℕ) (x : Formal) → i < length xs → x ≡ get_or xs i x
    → are_links (map formal_of (drop i xs))
    ≡ (is_link_as (formal_of x).kind (formal_of x).size (formal_of x).name
    && are_links (map formal_of (drop (i + 1) xs)))
first_link xs i x h is =
    at_drop_more (λ ys. are_links (map formal_of ys)) xs i x h
    ∙ ap (λ y. is_link_as (formal_of y).kind (formal_of y).size (formal_of y).name
    && are_links (map formal_of (drop (i + 1) xs))) (sym is)
