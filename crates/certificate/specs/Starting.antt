-- What the tables alone say of the start of a branch, and of the labels of a PAR.
use Rattle.std.specs.Prelude.{ℕ, ◌&&◌, ◌||◌, not, Bool, true, false, ℤ, pos, ◌+ℤ◌, ◌≤ℤ◌, int_le, int_lt, slice_get}
use Rattle.std.specs.Prelude.{Some, None, List}
use Rattle.std.specs.List.{list_any, list_all}
use Rattle.module_format.specs.Rows.{Fact, Entry}
use Rattle.module_format.specs.declared.fact.Fact.TheVariants.{Unknown, Loop}
use Rattle.module_format.specs.declared.rows.ChannelRow.{ChannelRow}
use Rattle.module_format.specs.Contents.{Contents, Par, Branch, label_at}
use Rattle.module_format.specs.Facts.{behind_entry}
use Rattle.module_format.specs.Order.{InOrder}
use Rattle.certificate.specs.Rights.{is_among, may_write_word, may_read_word}
use Rattle.certificate.specs.Siblings.{of_branch}
use Rattle.certificate.specs.Words.{all_words, all_within}

-- a test of the PAR row of this number, where there is one
abbrev pub of_row : Contents → ℕ → (Par → Bool) → Bool
of_row c row test = elim (slice_get c.pars row) [ None ↦ true | Some par ↦ test par ]

-- ---- words that branches write

-- a branch of the PAR writes word k
abbrev pub is_written : Par → ℤ → Bool
is_written par k = list_any (λ (b : Branch). is_among b.writes k) par.branches

-- a branch of the PAR row of this number does
abbrev pub is_written_in : Contents → ℕ → ℤ → Bool
is_written_in c row k = elim (slice_get c.pars row) [ None ↦ false | Some par ↦ is_written par k ]

-- ---- what is given

-- the context may write the words that the branch writes, and read those that it reads
abbrev pub may_give_words : Contents → ℕ → Branch → Bool
may_give_words m context b =
    list_all (all_within (may_write_word m context)) b.writes
    && list_all (all_within (may_read_word m context)) b.reads

-- so does a context for the branch that is context n
abbrev pub gives_words : Contents → ℕ → ℕ → Bool
gives_words c giver n = of_branch c n (λ par b. may_give_words c giver b)

-- ---- the label of a branch

abbrev pub is_unknown : Fact → Bool
is_unknown Unknown = true
is_unknown fact = false

-- word k is one of the three below a workspace
abbrev pub is_scheduling_word : ℤ → ℤ → Bool
is_scheduling_word workspace k = int_lt k workspace && int_le workspace (k +ℤ pos 3)

-- the context may read word k, which is none that scheduling takes below its workspace
abbrev pub is_read_beside_scheduling : Contents → ℕ → ℤ → ℤ → Bool
is_read_beside_scheduling m context workspace k = may_read_word m context k && not (is_scheduling_word workspace k)

-- so it is with each word of which the entry says something
abbrev pub entry_is_seen : Contents → ℕ → ℤ → Entry → Bool
entry_is_seen m context workspace entry =
    is_unknown entry.fact || all_words (is_read_beside_scheduling m context workspace) entry.word entry.span

-- so it is with each entry of the label of the branch that is context n, if there is that label
abbrev pub label_is_seen : Contents → ℕ → Bool
label_is_seen c n = of_branch c n (λ par b. elim (label_at c b.entry) [
  | None ↦ true
  | Some t ↦ list_all (entry_is_seen c n b.workspace) t.entries
])

-- ---- the label after a PAR

abbrev pub is_loop : Fact → Bool
is_loop (Loop base count weight) = true
is_loop fact = false

-- the entry is of a loop of which a branch writes a word
abbrev pub is_written_loop : Par → Entry → Bool
is_written_loop par entry =
    is_loop entry.fact && (is_written par entry.word || is_written par (entry.word +ℤ pos 1))

-- the same of the PAR row of this number
abbrev pub is_written_loop_in : Contents → ℕ → Entry → Bool
is_written_loop_in c row entry =
    is_loop entry.fact && (is_written_in c row entry.word || is_written_in c row (entry.word +ℤ pos 1))

-- no branch writes a word of a loop that the label after the PAR has, if there is that label
abbrev pub leaves_loops : Contents → Par → Bool
leaves_loops m par = elim (label_at m par.successor) [
  | None ↦ true
  | Some t ↦ not (list_any (is_written_loop par) t.entries)
]

-- so it is with the PAR row of this number
abbrev pub leaves_loops_of : Contents → ℕ → Bool
leaves_loops_of c row = of_row c row (leaves_loops c)

-- word k is one of the entry's
abbrev pub is_about : Entry → ℤ → Bool
is_about entry k = int_le entry.word k && int_lt k (entry.word +ℤ pos entry.span)

-- the entry says something of word k
abbrev pub says_of_word : ℤ → Entry → Bool
says_of_word k entry = not (is_unknown entry.fact) && is_about entry k

-- an entry of words from `low` on
abbrev pub EntryBegins : ℤ → Entry → Type 0
EntryBegins low entry = low ≤ℤ entry.word

-- no two entries have a word in common, and those of greater words come later
pub record EntriesRise (entries : List Entry) : Type 0 where
  pub low : ℤ
  pub order : InOrder EntryBegins behind_entry low entries

-- the entry says something of a word of the block, or of a channel of the PAR
abbrev pub says_of_hidden : Par → Entry → Bool
says_of_hidden par entry =
    not (is_unknown entry.fact)
    && (is_about entry par.block || is_about entry (par.block +ℤ pos 1)
    || list_any (λ (c : ChannelRow). is_about entry c.word) par.channels)

-- the label after the PAR says nothing of these words, if there is that label
abbrev pub hides_words : Contents → Par → Bool
hides_words m par = elim (label_at m par.successor) [
  | None ↦ true
  | Some t ↦ not (list_any (says_of_hidden par) t.entries)
]

-- so it is with the PAR row of this number
abbrev pub hides_words_of : Contents → ℕ → Bool
hides_words_of c row = of_row c row (hides_words c)

-- ---- what a PAR wants where it is opened

-- the context of the PAR may write the words of all its channels
abbrev pub owns_channels : Contents → Par → Bool
owns_channels m par = list_all (λ (c : ChannelRow). may_write_word m par.context c.word) par.channels

-- so it is with the PAR row of this number
abbrev pub owns_channels_of : Contents → ℕ → Bool
owns_channels_of c row = of_row c row (owns_channels c)
