use Rattle.std.proofs.Common.{◌≤◌, length}
use Rattle.std.specs.Io.KnownBytes.{Consumes}
use Rattle.file_access.specs.declared.extent.TheConstants.{MAGIC_BYTES}
use Rattle.file_access.proofs.extent.read_magic.Given as goal

-- what was read is the front of what there was
abbrev pub invariant-loop : goal.invariant-loop
invariant-loop g l = record {
  taken : Consumes (g.R.Read.remaining l.fn.file) (g.R.Read.remaining l.file) l.bytes.items;
  most : length l.bytes.items ≤ MAGIC_BYTES;
}
