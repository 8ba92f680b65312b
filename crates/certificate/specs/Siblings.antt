-- What the row of a branch says of it: what it has in common with others of its PAR, and what is there to be given.
use Rattle.std.specs.Prelude.{ℕ, ◌==◌, ◌&&◌, ◌||◌, not, Bool, true, false, pos, ◌+ℤ◌, List, [], take, slice_get}
use Rattle.std.specs.Prelude.{Some, None, is_some}
use Rattle.std.specs.List.{list_any, list_all}
use Rattle.module_format.specs.declared.rows.ChannelRow.{ChannelRow}
use Rattle.module_format.specs.declared.rows.EndRow.{EndRow}
use Rattle.module_format.specs.declared.rows.EndKind.{EndKind}
use Rattle.module_format.specs.declared.rows.EndKind.TheVariants as ends
use Rattle.module_format.specs.declared.rows.Interval.{Interval}
use Rattle.module_format.specs.Contents.{Contents, Par, Branch}
use Rattle.module_format.specs.Pars.{intervals_meet, key_of}
use Rattle.certificate.specs.Branches.{numbered_branch}
use Rattle.certificate.specs.Rights.{may_read_word, has_end, listed_length, is_same_end}

-- ---- what branches have in common

-- one of the other intervals has a word of these
abbrev pub have_common_word : List Interval → List Interval → Bool
have_common_word intervals others = list_any (λ other. list_any (intervals_meet other) intervals) others

-- one of the other parameters is among these
abbrev pub have_common_number : List ℕ → List ℕ → Bool
have_common_number numbers others = list_any (λ other. list_any (λ number. number == other) numbers) others

-- one of two branches writes a word, or what a parameter names, that the other one writes or reads
abbrev pub share_what_is_written : Branch → Branch → Bool
share_what_is_written b other =
    have_common_word b.writes other.writes || have_common_word b.writes other.reads
    || have_common_word b.reads other.writes
    || have_common_number b.written_parameters other.written_parameters
    || have_common_number b.written_parameters other.read_parameters
    || have_common_number b.read_parameters other.written_parameters

-- the other one is the branch itself, or neither writes what the other one uses
abbrev pub is_beside : Branch → Branch → Bool
is_beside b other = (other.entry == b.entry) || not (share_what_is_written b other)

-- the first `count` branches of a PAR row
abbrev pub first_branches : Contents → ℕ → ℕ → List Branch
first_branches c row count = elim (slice_get c.pars row) [ None ↦ [] | Some par ↦ take count par.branches ]

-- a test of the branch that is context n, with its PAR row, where it is one
abbrev pub of_branch : Contents → ℕ → (Par → Branch → Bool) → Bool
of_branch c n test = elim (numbered_branch c n) [ None ↦ true | Some found ↦ test found.0 found.1 ]

-- the branch that is context n is beside each of the first `count` branches of a row
abbrev pub is_beside_first : Contents → ℕ → ℕ → ℕ → Bool
is_beside_first c n row count = of_branch c n (λ par b. list_all (is_beside b) (first_branches c row count))

-- ---- ends

-- one of the other ends is among these
abbrev pub have_common_end : List EndRow → List EndRow → Bool
have_common_end listed others =
    list_any (λ other. list_any (λ one. is_same_end (key_of one) (key_of other)) listed) others

-- context n has no end that the other one has
abbrev pub has_other_ends : Contents → ℕ → Branch → Bool
has_other_ends c n other = not (list_any (has_end c n) other.ends)

-- context n has no end that one of the first `count` branches of a row has
abbrev pub has_other_ends_than_first : Contents → ℕ → ℕ → ℕ → Bool
has_other_ends_than_first c n row count = list_all (has_other_ends c n) (first_branches c row count)

-- the PAR brings the channel
abbrev pub brings_channel : Par → EndKind → Bool
brings_channel par (ends.FrameWord k) = is_some (listed_length par.channels k)
brings_channel par kind = false

-- each end of the branch that is context n is the giver's, which is a context, or the PAR brings its channel
abbrev pub has_ends_of : Contents → ℕ → ℕ → Bool
has_ends_of c giver n =
    of_branch c n (λ par b. list_all (λ (e : EndRow). has_end c giver e || brings_channel par e.kind) b.ends)

-- ---- words

-- context n has no word of the block of a PAR, and none that is a channel of it
abbrev pub leaves_hidden_words : Contents → ℕ → Par → Bool
leaves_hidden_words c n par =
    not (may_read_word c n par.block) && not (may_read_word c n (par.block +ℤ pos 1))
    && list_all (λ (channel : ChannelRow). not (may_read_word c n channel.word)) par.channels

-- so does the branch that is context n, of its own PAR
abbrev pub leaves_own_hidden_words : Contents → ℕ → Bool
leaves_own_hidden_words c n = of_branch c n (λ par b. leaves_hidden_words c n par)
