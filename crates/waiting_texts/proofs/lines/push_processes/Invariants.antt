use Rattle.std.proofs.Common.{◌≡◌, ◌++◌, take, string_bytes}
use Rattle.module_format.specs.Contents.{contents_of}
use Rattle.waiting_texts.specs.Lines.{processes_text}
use Rattle.waiting_texts.proofs.lines.push_processes.Given as goal

abbrev pub invariant-loop-place : goal.invariant-loop-place
invariant-loop-place l =
    string_bytes l.text ≡ string_bytes l.initial.text
    ++ processes_text (contents_of l.tables) l.lines l.setting l.checked.world (take l.place-index l.places)
