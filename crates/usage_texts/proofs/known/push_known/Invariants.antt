use Rattle.std.proofs.Common.{◌≡◌, ◌++◌, take, string_bytes}
use Rattle.std.specs.List.{flat_map}
use Rattle.usage_texts.specs.KnownTexts.{known_text}
use Rattle.usage_texts.proofs.known.push_known.Given as goal

abbrev pub invariant-loop-known : goal.invariant-loop-known
invariant-loop-known l =
    string_bytes l.text ≡ string_bytes l.initial.text ++ flat_map known_text (take l.known-index l.names)
