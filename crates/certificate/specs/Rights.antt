-- What a context may do with the words of its frame and with channels.
use Rattle.std.specs.Prelude.{ℕ, zero, suc, ℤ, pos, negsuc, ◌==◌, ◌&&◌, ◌||◌, not, nat_lt, int_le, int_lt, Bool, true}
use Rattle.std.specs.Prelude.{false, if◌then◌else◌, List, length, find, get_or, slice_get, Option, Some, None}
use Rattle.std.specs.Prelude.{option_map, is_some, bit_and}
use Rattle.std.specs.List.{list_any}
use Rattle.module_format.specs.declared.contexts.Context.{Context}
use Rattle.module_format.specs.declared.rows.Interval.{Interval}
use Rattle.module_format.specs.declared.rows.ChannelRow.{ChannelRow}
use Rattle.module_format.specs.declared.rows.Parameter.{Parameter}
use Rattle.module_format.specs.declared.rows.ParameterKind.{ParameterKind}
use Rattle.module_format.specs.declared.rows.ParameterKind.TheVariants as kinds
use Rattle.module_format.specs.declared.rows.EndKind.{EndKind}
use Rattle.module_format.specs.declared.rows.EndKind.TheVariants as ends
use Rattle.module_format.specs.declared.rows.Direction.{Direction}
use Rattle.module_format.specs.declared.rows.Direction.TheVariants as directions
use Rattle.module_format.specs.declared.rows.EndRow.{EndRow}
use Rattle.module_format.specs.declared.rows.EndKey.{EndKey}
use Rattle.module_format.specs.Contents.{Contents}
use Rattle.module_format.specs.Contexts.{context_at, parameters_at}
use Rattle.module_format.specs.Pars.{key_of, direction_number}
use Rattle.certificate.specs.Branches.{numbered_branch}

-- word k is one of the context's frame
abbrev pub has_word : Option Context → ℤ → Bool
has_word None k = false
has_word (Some context) k = int_le context.lo k && int_lt k context.hi

-- word k is one of the intervals'
abbrev pub is_among : List Interval → ℤ → Bool
is_among intervals k = list_any (λ i. int_le i.lo k && int_lt k i.hi) intervals

-- the root and the procedures may write each word of their frame, and a branch those that its row names
abbrev pub may_write_word : Contents → ℕ → ℤ → Bool
may_write_word c n k =
    has_word (context_at c n) k
    && elim (numbered_branch c n) [ None ↦ true | Some found ↦ is_among found.1.writes k ]

-- what may be written may be read, and a branch may read the words besides that its row names
abbrev pub may_read_word : Contents → ℕ → ℤ → Bool
may_read_word c n k =
    has_word (context_at c n) k
    && elim (numbered_branch c n) [ None ↦ true | Some found ↦ is_among found.1.writes k || is_among found.1.reads k ]

-- ---- channels

-- the length that these channels give the one in word k
abbrev pub listed_length : List ChannelRow → ℤ → Option ℕ
listed_length channels k =
    option_map (λ channel. channel.length) (find (λ channel. int_le channel.word k && int_le k channel.word) channels)

-- the length that the nearest PAR row gives the channel in word k, of a number of rows around context n: the row of
-- which it is a branch, the row of which that row's context is a branch, and so on
abbrev pub length_around : ℕ → Contents → ℕ → ℤ → Option ℕ
length_around zero c n k = None
length_around (suc more) c n k = elim (numbered_branch c n) [
  | None ↦ None
  | Some found ↦ elim (listed_length found.0.channels k) [
    | Some len ↦ Some len
    | None ↦
        length_around more c found.0.context k
  ]
]

-- no more rows are around a context than there are, since a row's context is below those of its branches
abbrev pub channel_length : Contents → ℕ → ℤ → Option ℕ
channel_length c n k = length_around (length c.pars) c n k

-- ---- ends of channels

-- the root has the ends of the links that have a length: the first four go out, the others come in
abbrev pub gives_link : List ℕ → EndKind → Direction → Bool
gives_link lengths (ends.FrameWord word) direction = false
gives_link lengths (ends.Parameter number element) direction = false
gives_link lengths (ends.Link link) directions.Out = nat_lt link 4 && nat_lt 0 (get_or lengths link 0)
gives_link lengths (ends.Link link) directions.In = nat_lt 3 link && nat_lt 0 (get_or lengths link 0)

-- channels of which one has this number, with their ends in this direction
abbrev pub gives_element : ParameterKind → ℕ → Direction → Bool
gives_element (kinds.Value lo hi) element direction = false
gives_element (kinds.ReadRegion size lo hi) element direction = false
gives_element (kinds.WrittenRegion size lo hi) element direction = false
gives_element (kinds.Channels count len ends) element direction =
    nat_lt element count && not (bit_and ends.0 (direction_number direction) == 0)

-- a procedure has the ends that its parameters bring
abbrev pub gives_parameter : List Parameter → EndKind → Direction → Bool
gives_parameter parameters (ends.FrameWord word) direction = false
gives_parameter parameters (ends.Link link) direction = false
gives_parameter parameters (ends.Parameter (negsuc j) element) direction = false
gives_parameter parameters (ends.Parameter (pos j) element) direction =
    elim (slice_get parameters j) [ None ↦ false | Some p ↦ gives_element p.kind element direction ]

-- two ends are the same
abbrev pub is_same_end : EndKey → EndKey → Bool
is_same_end x y =
    (x.kind == y.kind) && (int_le x.number y.number && int_le y.number x.number)
    && (x.element == y.element) && (x.direction == y.direction)

-- A context has an end: a branch those that its row lists.
abbrev pub has_end : Contents → ℕ → EndRow → Bool
has_end c n e = is_some (context_at c n) && elim (numbered_branch c n) [
  | Some found ↦ list_any (λ other. is_same_end (key_of other) (key_of e)) found.1.ends
  | None ↦ if n == 0 then gives_link c.lengths e.kind e.direction else gives_parameter
      (parameters_at c n) e.kind e.direction
]
