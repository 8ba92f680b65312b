-- A scope of a frame with more words.
use Rattle.std.proofs.Common.{ℕ, ◌≤◌, List}
use Rattle.module_format.specs.declared.limits.TheConstants.{MAX_DATA_WORDS}
use Rattle.scalar_ranges.specs.Entries.{Entry}
use Rattle.certified_lines.specs.Scopes.{IsHousedThere, IsScope, Scene}
use Rattle.certified_scopes.proofs.EachName.{each_then}
use Rattle.certified_scopes.proofs.Settled.{housed_more}

-- a scope whose homes end before one word is one whose homes end before a later one
pub scope_wider : (g : Scene) (end top : ℕ) (es : List Entry) → IsScope g end es → end ≤ top → top ≤ MAX_DATA_WORDS
    → IsScope g top es
scope_wider g end top es scope low few = record {
  housed = each_then (IsHousedThere g end) (IsHousedThere g top) g.homes es (housed_more g end top low) scope.housed;
  few = few;
}
