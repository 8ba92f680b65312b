-- The parts of a sentence one after the other, with nothing after the last one.
use Rattle.std.proofs.Common.{◌≡◌, List, [], ◌∷◌, ◌++◌, append-nil, ap, refl}
use Rattle.std.specs.List.{flat_map}
use Rattle.usage_texts.specs.declared.phrases.Phrase.{Phrase}
use Rattle.usage_texts.specs.Phrases.{phrase_text, phrases_text}

pub phrases_flat : (phrases : List Phrase) → flat_map phrase_text phrases ≡ phrases_text phrases
phrases_flat [] = refl
phrases_flat (p ∷ []) = append-nil (phrase_text p)
phrases_flat (p ∷ q ∷ rest) = ap (λ others. phrase_text p ++ others) (phrases_flat (q ∷ rest))
