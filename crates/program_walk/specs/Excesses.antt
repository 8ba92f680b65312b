-- What is above a limit of what is made of a program: our own choice (docs/COMPILER.md, Limits).
use Rattle.std.specs.Prelude.{ℕ}
use Rattle.program_walk.specs.declared.excess.Limit.{Limit}
use Rattle.program_walk.specs.declared.excess.Limit.TheVariants as limits

-- the most that is possible
abbrev pub most_of : Limit → ℕ
most_of limits.Components = 64
most_of limits.Guards = 64
most_of limits.Turns = 8191
most_of limits.Words = 16378
most_of limits.Items = 4096
most_of limits.Rows = 8192
most_of limits.Entries = 4194304
most_of limits.Pars = 1024
most_of limits.Nesting = 64
most_of limits.Processes = 2048
most_of limits.Steps = 4611686018427387904
most_of limits.Bytes = 262143
most_of limits.Tables = 1024
most_of limits.Size = 8388608
most_of limits.Work = 400000000
most_of limits.Reading = 25000000
most_of (limits.TurnReading most) = most
most_of limits.Data = 16384
most_of limits.Budget = 4611686018427387904
