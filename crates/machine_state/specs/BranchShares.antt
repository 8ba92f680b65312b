-- What a branch of a PAR is given: words of the frame, regions of parameters, and ends.
use Rattle.std.specs.Prelude.{ℕ, ◌+◌, ◌-◌, ◌*◌, ◌%◌, ◌^◌, nat_lt, ◌&&◌, ◌||◌, not, ℤ, pos, ◌+ℤ◌, ◌-ℤ◌, ◌*ℤ◌, nat_abs}
use Rattle.std.specs.Prelude.{List, [], ◌∷◌, ◌++◌, map, length, flat_map, Option, Some, None, slice_get}
use Rattle.std.specs.Int.{w32, cast_unsigned}
use Rattle.module_format.specs.declared.rows.Parameter.{Parameter}
use Rattle.module_format.specs.declared.rows.ParameterKind.{ParameterKind}
use Rattle.module_format.specs.declared.rows.ParameterKind.TheVariants as kinds
use Rattle.module_format.specs.declared.rows.Interval.{Interval}
use Rattle.module_format.specs.declared.rows.EndRow.{EndRow}
use Rattle.module_format.specs.declared.rows.EndKind.TheVariants as ends
use Rattle.module_format.specs.Contents.{Contents, Branch}
use Rattle.machine_state.specs.declared.holding.End.{End}
use Rattle.machine_state.specs.Memory.{data_start, place_of, local_address}
use Rattle.machine_state.specs.Holding.{Holding}
use Rattle.machine_state.specs.World.{constants_start, link_word}
use Rattle.machine_state.specs.Spans.{Stretch, Share, runs, writes_place, reads_place}

-- the address of frame word k, where word 0 has this address
abbrev pub frame_address : ℕ → ℤ → ℕ
frame_address base k = local_address base k

-- the address of frame word 0 of a process whose workspace has a depth
abbrev pub frame_base : ℕ → ℤ → ℕ
frame_base workspace depth = (workspace + (2 ^ 32 - (4 * cast_unsigned w32 depth) % 2 ^ 32)) % 2 ^ 32

-- the places of frame words, in numbers without bound: word 0 may lie below the data area
abbrev pub words_of : ℕ → Interval → Stretch
words_of base i = record {
  start = pos base -ℤ pos data_start +ℤ pos 4 *ℤ i.lo;
  size = 4 * nat_abs (i.hi -ℤ i.lo);
}

-- the address that the word of parameter j held at the first start: none if it is not known
abbrev pub address_of : List (Option ℕ) → ℕ → Option ℕ
address_of addresses j = elim (slice_get addresses j) [ None ↦ None | Some a ↦ a ]

abbrev pub region_size : ParameterKind → ℕ
region_size (kinds.ReadRegion size lo hi) = size
region_size (kinds.WrittenRegion size lo hi) = size
region_size kind = 0

-- the places of the region of parameter j: none if its address is not known
abbrev pub region_of : List Parameter → List (Option ℕ) → ℕ → List Stretch
region_of parameters addresses j = elim (address_of addresses j) [
  | None ↦ []
  | Some a ↦ elim (slice_get parameters j) [
    | None ↦ []
    | Some p ↦ record { start = pos (place_of a); size = region_size p.kind } ∷ []
  ]
]

-- the end that a row names: none if the address of its parameter is not known
abbrev pub end_named : ℕ → List (Option ℕ) → EndRow → List End
end_named base addresses e = elim e.kind [
  | ends.FrameWord word ↦ record { address = frame_address base word; direction = e.direction } ∷ []
  | ends.Parameter number element ↦ elim (address_of addresses (nat_abs number)) [
    | None ↦ []
    | Some a ↦ record { address = (a + 4 * element) % 2 ^ 32; direction = e.direction } ∷ []
  ]
  | ends.Link link ↦ record { address = link_word link; direction = e.direction } ∷ []
]

abbrev pub share_of : ℕ → List Parameter → List (Option ℕ) → Branch → Share
share_of base parameters addresses b = record {
  writes = map (words_of base) b.writes ++ flat_map (region_of parameters addresses) b.written_parameters;
  reads = map (words_of base) b.reads ++ flat_map (region_of parameters addresses) b.read_parameters;
  ends = flat_map (end_named base addresses) b.ends;
}

-- what a new branch holds, in a memory of n places: its share, and the constants to read
abbrev pub holding_of : Contents → ℕ → Share → Holding
holding_of m n share = record {
  writes = runs (writes_place share) 0 n;
  reads = runs (λ place. not (writes_place share place)
      && (reads_place share place || (nat_lt place (constants_start m + length m.constants) && not
      (nat_lt place (constants_start m))))) 0 n;
  ends = share.ends;
}
