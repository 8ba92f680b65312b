use Rattle.std.proofs.Common.{◌≡◌, drop}
use Rattle.code_generator.specs.Waiting.{place_in}
use Rattle.code_generator.proofs.guards.place_in.Given as goal

abbrev pub invariant-loop-place : goal.invariant-loop-place
invariant-loop-place l =
    place_in l.source l.place (drop l.place l.awaited) ≡ place_in l.source 0 l.awaited
