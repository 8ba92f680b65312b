-- Where a process is: a place, whatever words are taken before the first one that is free.
use Rattle.std.proofs.Common.{◌≡◌, ℕ, ◌≤◌, List, [], arith}
use Rattle.std.specs.List.{AllByRecursion}
use Rattle.scalar_ranges.specs.Entries.{Entry}
use Rattle.scalar_ranges.specs.MoveLaws.{shape}
use Rattle.usage_checks.specs.TypedRanges.{AreInTypes}
use Rattle.code_pieces.specs.declared.words.TheConstants.{GREATEST_WORD}
use Rattle.line_pieces.specs.Declarations.{Frame}
use Rattle.code_generator.specs.Processes.{Site}
use Rattle.certified_scopes.specs.Settled.{IsSettled}
use Rattle.certified_scopes.specs.Within.{indices_of}
use Rattle.meant_processes.specs.Places.{IsSited}
use Rattle.certified_processes.specs.Places.{Coded, IsHeadBefore, IsInRoot, IsPlaced, bare_scene}

-- the same frame, where the words from this one on are free
abbrev pub free_from : ℕ → Frame → Frame
free_from top f = record f { top = top }

-- The same as `IsPlaced`, where the first word that is free may be one of no frame: it is behind the words of channels,
-- which no code names. The words of all other names end in the frame.
pub record IsThere (p : Coded) (s : Site) : Type 0 where
  pub sited : IsSited p.program s
  pub outer : s.frame.outer ≡ []
  pub heads : AllByRecursion (IsHeadBefore s.label) s.frame.homes
  pub free : s.frame.top ≤ GREATEST_WORD
  pub end : ℕ
  pub room : end ≤ p.program.words
  pub under : end ≤ s.frame.top
  pub inner : IsSettled (bare_scene p) (free_from end s.frame) s.known.entries
  pub settled : IsSettled (bare_scene p) s.frame s.known.entries

-- a place is there
pub there : (p : Coded) (s : Site) → IsInRoot p → IsPlaced p s → IsThere p s
there p s root placed = record {
  sited = placed.sited;
  outer = placed.outer;
  heads = placed.heads;
  free = let room = placed.room in let few = root.few in omega (arith, room, few);
  end = s.frame.top;
  room = placed.room;
  under = omega arith;
  inner = placed.settled;
  settled = placed.settled;
}

-- The same names as at a site, with other ranges.
pub record IsSound (p : Coded) (s : Site) (es : List Entry) : Type 0 where
  pub settled : IsSettled (bare_scene p) s.frame es
  pub typed : AreInTypes es
  pub alike : shape es ≡ shape s.known.entries
  pub indices : indices_of es ≡ indices_of s.known.entries
