-- Steps after a place where a line goes on otherwise.
use Rattle.std.proofs.Common.{◌≡◌, List, [], ◌∷◌, Err, refl}
use Rattle.reason_texts.specs.declared.forms.Step.{Step}
use Rattle.reason_texts.specs.declared.stuck.Stuck.{Stuck}
use Rattle.reason_texts.specs.Forms.{past_from}

-- it stays the place
pub stays : (s : Stuck) (steps : List Step) → past_from (Err s) steps ≡ Err s
stays s [] = refl
stays s (x ∷ steps) = stays s steps
