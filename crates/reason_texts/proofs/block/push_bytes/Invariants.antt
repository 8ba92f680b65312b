use Rattle.std.proofs.Common.{◌≡◌, ◌++◌, map, take, string_bytes}
use Rattle.reason_texts.specs.Blocks.{shown_byte}
use Rattle.reason_texts.proofs.block.push_bytes.Given as goal

abbrev pub invariant-loop-byte : goal.invariant-loop-byte
invariant-loop-byte l = string_bytes l.text ≡ string_bytes l.initial.text ++ map shown_byte (take l.byte-index l.bytes)
