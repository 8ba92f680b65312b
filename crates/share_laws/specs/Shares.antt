-- What a branch of a PAR is given, by the words, regions and ends that its row names.
use Rattle.std.specs.Prelude.{◌≡◌, ℕ, ◌+◌, ◌%◌, ◌^◌, ◌≤◌, ◌<◌, ℤ, pos, ◌+ℤ◌, true, List, length, map, Option, Some}
use Rattle.std.specs.Prelude.{slice_get}
use Rattle.module_format.specs.declared.rows.Parameter.{Parameter}
use Rattle.module_format.specs.declared.rows.Interval.{Interval}
use Rattle.module_format.specs.declared.rows.EndRow.{EndRow}
use Rattle.module_format.specs.Contents.{Contents, Par}
use Rattle.module_format.specs.Contexts.{parameters_at}
use Rattle.module_format.specs.Keeping.{Keeps}
use Rattle.certificate.specs.Rights.{is_among}
use Rattle.machine_state.specs.declared.holding.End.{End}
use Rattle.machine_state.specs.BranchShares.{address_of, region_size, share_of}
use Rattle.machine_state.specs.JoinLookups.{Found, row_names}
use Rattle.machine_state.specs.Memory.{place_of, data_start}
use Rattle.machine_state.specs.Spans.{Share, writes_place, reads_place}
use Rattle.rulings.specs.Meaning.{Layout}
use Rattle.rulings.specs.Reach.{is_listed}
use Rattle.rulings.specs.Regions.{IsByteOf, channel_address}

-- a branch of a module, by its row and its number there
pub record IsBranch (m : Contents) (found : Found) : Type 0 where
  pub row : slice_get m.pars found.row ≡ Some found.par
  pub branch : slice_get found.par.branches found.number ≡ Some found.branch

-- a join's base and the addresses of its parameters are those of a layout
pub record IsLaidOut (m : Contents) (par : Par) (layout : Layout) (base : ℕ)
    (addresses : List (Option ℕ)) : Type 0 where
  pub origin : pos base ≡ pos data_start +ℤ layout.origin
  pub named : (j : ℕ) → row_names par j ≡ true → j < length (parameters_at m par.context)
      → address_of addresses j ≡ Some (layout.starts j % 2 ^ 32)

-- the byte at a place is one of these words of the frame, or of the region of one of these parameters
pub data IsListedByte (parameters : List Parameter) (layout : Layout) (words : List Interval) (numbers : List ℕ)
    (place : ℕ) : Type 0 where
  of_word : (k : ℤ) → is_among words k ≡ true → IsByteOf layout.origin k place
      → IsListedByte parameters layout words numbers place
  of_region : (j : ℕ) (p : Parameter) → is_listed numbers j ≡ true → slice_get parameters j ≡ Some p
      → place_of (layout.starts j) ≤ place → place < place_of (layout.starts j) + region_size p.kind
      → IsListedByte parameters layout words numbers place

-- what a branch is given by its row, where the PAR's frame and parameters lie
abbrev pub share_at : Contents → Found → ℕ → List (Option ℕ) → Share
share_at m found base addresses = share_of base (parameters_at m found.par.context) addresses found.branch

-- the end that a row names, in a layout
abbrev pub end_at : Layout → EndRow → End
end_at layout e = record { address = channel_address layout e.kind; direction = e.direction }

-- a share has the bytes of the words and regions that the row names, and the ends
pub record IsOfWords (m : Contents) (found : Found) (layout : Layout) (share : Share) : Type 0 where
  pub written : (place : ℕ) → writes_place share place ≡ true
      → IsListedByte (parameters_at m found.par.context) layout found.branch.writes found.branch.written_parameters
      place
  pub writes : (place : ℕ)
      → IsListedByte (parameters_at m found.par.context) layout found.branch.writes found.branch.written_parameters
      place
      → writes_place share place ≡ true
  pub read : (place : ℕ) → reads_place share place ≡ true
      → IsListedByte (parameters_at m found.par.context) layout found.branch.reads found.branch.read_parameters place
  pub reads : (place : ℕ)
      → IsListedByte (parameters_at m found.par.context) layout found.branch.reads found.branch.read_parameters place
      → reads_place share place ≡ true
  pub ends : share.ends ≡ map (end_at layout) found.branch.ends

abbrev pub SharesAreWords : Type 0
SharesAreWords = (m : Contents) (found : Found) (layout : Layout) (base : ℕ) (addresses : List (Option ℕ))
    → Keeps m → IsBranch m found → IsLaidOut m found.par layout base addresses
    → IsOfWords m found layout (share_at m found base addresses)
