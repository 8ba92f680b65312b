-- How an explanation ends.
use Rattle.std.specs.Prelude.{◌≡◌, ◌++◌, Ok, Err}
use Rattle.module_format.specs.Contents.{Contents}
use Rattle.verifier.specs.Judge.{Verdict}
use Rattle.fact_texts.specs.Texts.{Text}
use Rattle.explanation_parts.specs.Refusals.{refused_text, accepted_text}

-- the text ends so
abbrev pub EndsWith : Text → Text → Type 0
EndsWith end text = (front : Text) × (text ≡ front ++ end)

-- The text ends with the line that says that the module is accepted, or with the one that says which rule is broken, by
-- its number, and where, and for some reason.
abbrev pub Tells : Contents → Verdict → Text → Type 0
Tells m (Ok _) text = EndsWith (accepted_text m.budget) text
Tells m (Err breach) text = (why : Text) × EndsWith (refused_text breach.rule breach.offset why) text
