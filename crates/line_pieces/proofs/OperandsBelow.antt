-- An operand that takes three registers finds the one before it in a temporary.
use Rattle.std.proofs.Common.{◌≡◌, Bool, false, List, [], ◌∷◌, ◌++◌, Result, Ok, Err, IfOk, sym, ap, ◌∙◌}
use Rattle.std.proofs.lemmas.List.{append_assoc}
use Rattle.occam_parser.specs.Expressions.{Term}
use Rattle.scalar_ranges.specs.Scopes.{entries_of}
use Rattle.line_pieces.specs.declared.setting.Setting.{Setting}
use Rattle.code_pieces.specs.Pieces.{Piece, stores, word_after}
use Rattle.line_pieces.specs.HomeViews.{homes_seen}
use Rattle.line_pieces.specs.Expressions.{term_code, is_small_term, onto, back}
use Rattle.line_pieces.specs.SettingViews.{entries_in, term_in, term_above, onto_in}

onto_written : (in_order : Bool) (s a : Setting) (x : Term) (small : Bool) (old stored pushed new : List Piece)
    → small ≡ false → small ≡ is_small_term (entries_in s) x → a.scope ≡ s.scope → a.homes ≡ s.homes
    → a.top ≡ word_after s.top 1 → stored ≡ old ++ stores s.top ∷ [] → pushed ≡ stored ++ term_in a x
    → new ≡ pushed ++ back in_order s.top
    → new ≡ old ++ onto_in in_order s x
onto_written in_order s a x small old stored pushed new other is scope homes top k p n =
    n ∙ ap (λ c. c ++ back in_order s.top)
    (p ∙ (λ j. k j ++ term_code (homes_seen (homes j).now) (entries_of (scope j).now) (top j) x))
    ∙ append_assoc (old ++ stores s.top ∷ []) (term_above s x) (back in_order s.top)
    ∙ append_assoc old (stores s.top ∷ []) (term_above s x ++ back in_order s.top)
    ∙ ap (λ l. old ++ onto in_order s.top l (term_above s x)) (sym other ∙ is)

-- if the temporary could be pushed below it
pub onto_written_if : {A E : Type 0} (r : Result A E) (in_order : Bool) (s a : Setting) (x : Term) (small : Bool)
    (old stored pushed new : List Piece) → small ≡ false → small ≡ is_small_term (entries_in s) x → a.scope ≡ s.scope
    → a.homes ≡ s.homes → a.top ≡ word_after s.top 1 → stored ≡ old ++ stores s.top ∷ []
    → pushed ≡ stored ++ term_in a x
    → IfOk r (λ _. new ≡ pushed ++ back in_order s.top) → IfOk r (λ _. new ≡ old ++ onto_in in_order s x)
onto_written_if (Ok v) in_order s a x small old stored pushed new other is scope homes top k p n =
    onto_written in_order s a x small old stored pushed new other is scope homes top k p n
onto_written_if (Err v) in_order s a x small old stored pushed new other is scope homes top k p n = n
