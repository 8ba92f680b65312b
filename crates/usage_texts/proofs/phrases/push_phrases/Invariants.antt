use Rattle.std.proofs.Common.{◌≡◌, ◌++◌, take, string_bytes}
use Rattle.std.specs.List.{flat_map}
use Rattle.usage_texts.specs.Phrases.{phrase_text}
use Rattle.usage_texts.proofs.phrases.push_phrases.Given as goal

abbrev pub invariant-loop-phrase : goal.invariant-loop-phrase
invariant-loop-phrase l =
    string_bytes l.text ≡ string_bytes l.initial.text ++ flat_map phrase_text (take l.phrase-index l.phrases)
