-- What a walk comes to that tells what is known.
use Rattle.std.specs.Prelude.{◌≡◌, ◌≢◌, ℕ, ◌++◌, Option, None, IfSome, Err}
use Rattle.module_format.specs.Contents.{Contents}
use Rattle.verifier.specs.declared.stop.Breach.{Breach}
use Rattle.verifier.specs.Judge.{Verdict, verdict}
use Rattle.fact_texts.specs.Texts.{Text}
use Rattle.explanation_parts.specs.Refusals.{hidden_text}
use Rattle.explanations.specs.declared.explaining.Told.{Told}
use Rattle.explanations.specs.declared.explaining.Told.TheVariants.{All, Part}
use Rattle.explanations.specs.Explaining.{explanation}

-- what is known of the verdict, if something is, is so: the module is refused
abbrev pub IsKnown : Contents → Option Breach → Type 0
IsKnown m known = IfSome known (λ breach. verdict m ≡ Err breach)

-- the verdict that is told
abbrev pub verdict_told : Told → Verdict
verdict_told (All judged) = judged
verdict_told (Part breach) = Err breach

-- All is written of the explanation, or the module is refused, of which nothing was known.
abbrev pub IsTold : Contents → Option Breach → Text → Told → Type 0
IsTold m known written (All judged) = (judged ≡ verdict m) × (written ≡ explanation m)
IsTold m known written (Part breach) = (Err breach ≡ verdict m) × (known ≡ None)

-- The rule is broken by the instruction at the offset, or a start lies within it.
pub record TellsBreach (seen text : Text) (at : ℕ) (breach : Breach) (told : Told) : Type 0 where
  pub here : breach.offset ≡ at → told ≡ Part breach
  pub beyond : breach.offset ≢ at → (text ≡ seen ++ hidden_text at breach.offset) × (told ≡ All (Err breach))
