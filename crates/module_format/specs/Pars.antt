-- The rules of PAR rows, each by itself.
use Rattle.std.specs.Prelude.{◌≡◌, ◌+◌, ◌^◌, ◌<◌, ◌≤◌, ℕ, nat_lt, ◌==◌, ◌&&◌, ◌||◌, false, ℤ, pos, ◌+ℤ◌, int_lt, int_le}
use Rattle.std.specs.Prelude.{◌≤ℤ◌, ◌<ℤ◌, FitsSigned, Bool, IsTrue, List, [], ◌∷◌, ◌++◌, map, length}
use Rattle.std.specs.List.{AllByRecursion, list_any, flat_map}
use Rattle.std.specs.Int.{w32}
use Rattle.module_format.specs.declared.rows.ChannelRow.{ChannelRow}
use Rattle.module_format.specs.declared.rows.Interval.{Interval}
use Rattle.module_format.specs.declared.rows.EndKind.{EndKind}
use Rattle.module_format.specs.declared.rows.EndKind.TheVariants as ends
use Rattle.module_format.specs.declared.rows.Direction.{Direction}
use Rattle.module_format.specs.declared.rows.Direction.TheVariants as directions
use Rattle.module_format.specs.declared.rows.EndRow.{EndRow}
use Rattle.module_format.specs.declared.rows.EndKey.{EndKey}
use Rattle.module_format.specs.declared.limits.TheConstants.{MAX_BRANCHES, MAX_MESSAGE}
use Rattle.module_format.specs.declared.tags.TheConstants.{END_FRAME_WORD, END_PARAMETER, END_LINK}
use Rattle.module_format.specs.declared.tags.TheConstants.{DIRECTION_IN, DIRECTION_OUT}
use Rattle.module_format.specs.Order.{InOrder, least_word}
use Rattle.module_format.specs.Contents.{Branch, counts_of, CountsFit, Par}

-- ---- channels and intervals

-- a channel in a frame word from `low` on
pub record ChannelKeeps (low : ℤ) (channel : ChannelRow) : Type 0 where
  pub word_fits : FitsSigned w32 channel.word
  pub rises : low ≤ℤ channel.word
  pub has_length : 1 ≤ channel.length
  pub limit : channel.length ≤ MAX_MESSAGE

-- a channel leaves the words after it
abbrev pub behind_channel : ℤ → ChannelRow → ℤ
behind_channel low channel = channel.word +ℤ pos 1

-- frame words from `low` on
pub record IntervalKeeps (low : ℤ) (i : Interval) : Type 0 where
  pub lo_fits : FitsSigned w32 i.lo
  pub hi_fits : FitsSigned w32 i.hi
  pub apart : low ≤ℤ i.lo
  pub some : i.lo <ℤ i.hi

-- an interval leaves the words after it: the next one may touch it
abbrev pub behind_interval : ℤ → Interval → ℤ
behind_interval low i = i.hi

-- two intervals have a word in common
abbrev pub intervals_meet : Interval → Interval → Bool
intervals_meet i j = int_lt i.lo j.hi && int_lt j.lo i.hi

-- words that are read, none of them one that is written
pub record ReadKeeps (writes : List Interval) (low : ℤ) (i : Interval) : Type 0 where
  pub interval : IntervalKeeps low i
  pub apart : AllByRecursion (λ w. intervals_meet i w ≡ false) writes

-- ---- parameters and ends

-- the number of a parameter, from `low` on
pub record NumberKeeps (low number : ℕ) : Type 0 where
  pub fits : number < 2 ^ 16
  pub rises : low ≤ number

-- a number leaves those above it
abbrev pub behind_number : ℕ → ℕ → ℕ
behind_number low number = number + 1

abbrev pub kind_of : EndKind → ℕ
kind_of (ends.FrameWord word) = END_FRAME_WORD
kind_of (ends.Parameter number element) = END_PARAMETER
kind_of (ends.Link link) = END_LINK

abbrev pub end_number_of : EndKind → ℤ
end_number_of (ends.FrameWord word) = word
end_number_of (ends.Parameter number element) = number
end_number_of (ends.Link link) = pos link

abbrev pub end_element_of : EndKind → ℕ
end_element_of (ends.FrameWord word) = 0
end_element_of (ends.Parameter number element) = element
end_element_of (ends.Link link) = 0

abbrev pub direction_number : Direction → ℕ
direction_number directions.In = DIRECTION_IN
direction_number directions.Out = DIRECTION_OUT

-- the four fields by which ends rise
abbrev pub key_of : EndRow → EndKey
key_of e =
    record {
      kind = kind_of e.kind;
      number = end_number_of e.kind;
      element = end_element_of e.kind;
      direction = direction_number e.direction;
    }

-- below every end
abbrev pub first_key : EndKey
first_key = record { kind = END_FRAME_WORD; number = least_word; element = 0; direction = 0 }

-- the first field in which two ends differ is greater in the second
abbrev pub is_below : EndKey → EndKey → Bool
is_below x y =
    nat_lt x.kind y.kind
    || ((x.kind == y.kind) && (int_lt x.number y.number
    || ((int_le x.number y.number && int_le y.number x.number) && (nat_lt x.element y.element
    || ((x.element == y.element) && nat_lt x.direction y.direction)))))

abbrev pub EndKindKeeps : EndKind → Type 0
EndKindKeeps (ends.FrameWord word) = FitsSigned w32 word
EndKindKeeps (ends.Parameter number element) = FitsSigned w32 number × (element < 2 ^ 32)
EndKindKeeps (ends.Link link) = link < 8

-- an end after one with this key
pub record EndKeeps (before : EndKey) (e : EndRow) : Type 0 where
  pub kind : EndKindKeeps e.kind
  pub rises : IsTrue (is_below before (key_of e))

-- an end leaves its key
abbrev pub behind_end : EndKey → EndRow → EndKey
behind_end before e = key_of e

-- ---- branches and PARs

-- What is known of the branches before one: the entries of all, and the entry after which this one's is, which is 0
-- but for the first of a row.
pub record Before : Type 0 where
  pub low : ℕ
  pub entries : List ℕ

-- the entry of a branch, which is no other's
pub record IsBranchEntry (code_len : ℕ) (before : Before) (entry : ℕ) : Type 0 where
  pub in_code : entry < code_len
  pub rises : before.low < entry
  pub differs : list_any (λ other. other == entry) before.entries ≡ false

-- what a branch is given
pub record GiftsKeep (b : Branch) : Type 0 where
  pub counts : CountsFit (counts_of b)
  pub writes : InOrder IntervalKeeps behind_interval least_word b.writes
  pub reads : InOrder (ReadKeeps b.writes) behind_interval least_word b.reads
  pub written_parameters : InOrder NumberKeeps behind_number 0 b.written_parameters
  pub read_parameters : InOrder NumberKeeps behind_number 0 b.read_parameters
  pub ends : InOrder EndKeeps behind_end first_key b.ends

-- a branch in code of this length, after others
pub record BranchKeeps (code_len : ℕ) (before : Before) (b : Branch) : Type 0 where
  pub entry : IsBranchEntry code_len before b.entry
  pub workspace_fits : FitsSigned w32 b.workspace
  pub gifts : GiftsKeep b

-- a branch leaves its entry among those that are taken
abbrev pub behind_branch : Before → Branch → Before
behind_branch before b = record { low = 0; entries = before.entries ++ b.entry ∷ [] }

-- the entries of branches, and those of rows
abbrev pub entries_of : List Branch → List ℕ
entries_of branches = map (λ b. b.entry) branches

abbrev pub entries_of_rows : List Par → List ℕ
entries_of_rows rows = flat_map (λ row. entries_of row.branches) rows

-- the entry of the first branch
abbrev pub first_entry : List Branch → ℕ
first_entry [] = 0
first_entry (b ∷ bs) = b.entry

-- a PAR row of a module with code of this length, where `own` is the number of the root and the procedures
pub record ParKeeps (own code_len : ℕ) (before : Before) (row : Par) : Type 0 where
  pub context_fits : row.context < 2 ^ 16
  pub context : row.context < own + length before.entries
  pub depth_fits : FitsSigned w32 row.depth
  pub block_fits : FitsSigned w32 row.block
  pub successor_some : 1 ≤ row.successor
  pub successor_in_code : row.successor < code_len
  pub channel_count : length row.channels < 2 ^ 16
  pub has_branch : 1 ≤ length row.branches
  pub branch_limit : length row.branches ≤ MAX_BRANCHES
  pub channels : InOrder ChannelKeeps behind_channel least_word row.channels
  pub branches : InOrder (BranchKeeps code_len) behind_branch before row.branches

-- a PAR row leaves the entries of its branches: the next row's first is above its own first
abbrev pub behind_par : Before → Par → Before
behind_par before row = record { low = first_entry row.branches; entries = before.entries ++ entries_of row.branches }

-- before the first row
abbrev pub no_branches : Before
no_branches = record { low = 0; entries = [] }
