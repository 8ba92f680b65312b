use Rattle.std.proofs.Common.{◌≡◌, ◌++◌, string_bytes}
use Rattle.waiting_texts.specs.Waits.{channels_text}
use Rattle.waiting_texts.proofs.waits.push_channels.Given as goal

abbrev pub invariant-loop-word : goal.invariant-loop-word
invariant-loop-word l =
    string_bytes l.text ≡ string_bytes l.initial.text ++ channels_text l.checked.world l.process l.word
