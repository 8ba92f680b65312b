use Rattle.std.proofs.Common.{◌≡◌, ◌++◌, take, string_bytes}
use Rattle.std.specs.List.{flat_map}
use Rattle.sentences.specs.RowsAsked.{exit_rows}
use Rattle.sentences.proofs.rows.push_exits.Given as goal

abbrev pub invariant-loop-guard : goal.invariant-loop-guard
invariant-loop-guard l =
    string_bytes l.text
    ≡ string_bytes l.initial.text ++ flat_map (exit_rows l.«module» l.next) (take l.guard-index l.guards)
