-- How many bytes rows have.
use Rattle.std.proofs.Common.{◌≡◌, ◌+◌, ◌*◌, ◌≤◌, ◌<◌, ◌^◌, ◌++◌, ℕ, List, [], ◌∷◌, length, refl, arith}
use Rattle.std.specs.List.{flat_map, AllByRecursion}
use Rattle.std.proofs.lemmas.List.{length-append}
use Rattle.module_format.specs.Rows.{Fact}
use Rattle.module_format.specs.declared.fact.Fact.TheVariants as facts
use Rattle.module_format.specs.Rows.{Entry}
use Rattle.module_format.specs.declared.rows.ChannelRow.{ChannelRow}
use Rattle.module_format.specs.declared.rows.Interval.{Interval}
use Rattle.module_format.specs.declared.rows.EndRow.{EndRow}
use Rattle.module_format.specs.declared.rows.EndKind.{EndKind}
use Rattle.module_format.specs.declared.rows.EndKind.TheVariants as ends
use Rattle.module_format.specs.Contents.{Label, Branch, Par}
use Rattle.module_format.specs.Writable.{BranchIsWritable, ParIsWritable}
use Rattle.module_format.specs.Spelling.{u16_bytes, u32_bytes, u64_bytes, i32_bytes, fact_bytes, entry_bytes}
use Rattle.module_format.specs.Spelling.{label_bytes, channel_bytes, interval_bytes, end_kind_bytes, direction_byte}
use Rattle.module_format.specs.Spelling.{end_bytes, counts_bytes, branch_head, branch_bytes, par_bytes}

-- a fact has its tag at least, and at most the bytes of a loop
fact_spans : (f : Fact) → (1 ≤ length (fact_bytes f)) × (length (fact_bytes f) ≤ 17)
unfolding fact_bytes u16_bytes u32_bytes u64_bytes i32_bytes
fact_spans facts.Unknown = (omega arith, omega arith)
fact_spans (facts.Number lo hi) = (omega arith, omega arith)
fact_spans (facts.Pointer region lo hi s) = (omega arith, omega arith)
fact_spans (facts.CodeAddress offset) = (omega arith, omega arith)
fact_spans (facts.Loop base count weight) = (omega arith, omega arith)
fact_spans facts.ReturnAddress = (omega arith, omega arith)

pub fact_size : (f : Fact) → 1 ≤ length (fact_bytes f)
fact_size f = (fact_spans f).0

pub entry_size : (e : Entry) → (length (entry_bytes e) ≡ 8 + length (fact_bytes e.fact))
    × (1 ≤ length (fact_bytes e.fact))
unfolding entry_bytes u32_bytes i32_bytes
entry_size e =
    (omega (arith, length-append (i32_bytes e.word ++ u32_bytes e.span) (fact_bytes e.fact)), fact_size e.fact)

-- where the facts and the entries of a row are
pub label_size : (row : Label) → length (label_bytes row) ≡ 18 + length (fact_bytes row.stack.a) + length
    (fact_bytes row.stack.b) + length (fact_bytes row.stack.c) + 2 + length (flat_map entry_bytes row.entries)
unfolding label_bytes u16_bytes u32_bytes u64_bytes i32_bytes
label_size row = simp length-append (omega arith)

-- lists of items of one size
pub all_sizes : {A : Type 0} (spelled : A → List ℕ) (size : ℕ) → ((x : A) → length (spelled x) ≡ size) → (xs : List A)
    → length (flat_map spelled xs) ≡ size * length xs
all_sizes spelled size one [] = omega arith
all_sizes spelled size one (x ∷ xs) =
    omega (arith, length-append (spelled x) (flat_map spelled xs), one x, all_sizes spelled size one xs)

channel_size : (channel : ChannelRow) → length (channel_bytes channel) ≡ 8
unfolding channel_bytes i32_bytes u32_bytes
channel_size channel = refl

interval_size : (i : Interval) → length (interval_bytes i) ≡ 8
unfolding interval_bytes i32_bytes
interval_size i = refl

end_kind_size : (kind : EndKind) → length (end_kind_bytes kind) ≡ 9
unfolding i32_bytes u32_bytes
end_kind_size (ends.FrameWord word) = refl
end_kind_size (ends.Parameter number element) = refl
end_kind_size (ends.Link link) = refl

pub end_size : (e : EndRow) → length (end_bytes e) ≡ 10
unfolding end_bytes
end_size e =
    omega (arith, length-append (end_kind_bytes e.kind) (direction_byte e.direction ∷ []), end_kind_size e.kind)

number_size : (n : ℕ) → length (u16_bytes n) ≡ 2
unfolding u16_bytes
number_size n = refl

pub intervals_size : (is : List Interval) → length (flat_map interval_bytes is) ≡ 8 * length is
intervals_size is = all_sizes interval_bytes 8 interval_size is

pub numbers_size : (ns : List ℕ) → length (flat_map u16_bytes ns) ≡ 2 * length ns
numbers_size ns = all_sizes u16_bytes 2 number_size ns

pub channels_size : (cs : List ChannelRow) → length (flat_map channel_bytes cs) ≡ 8 * length cs
channels_size cs = all_sizes channel_bytes 8 channel_size cs

head_size : (b : Branch) → length (branch_head b) ≡ 18
unfolding branch_head counts_bytes u32_bytes i32_bytes u16_bytes
head_size b = refl

-- where the parameters and ends of a branch are
pub branch_size : (b : Branch) → length (branch_bytes b) ≡ 18 + length (flat_map interval_bytes b.writes) + length
    (flat_map interval_bytes b.reads) + length (flat_map u16_bytes b.written_parameters) + length
    (flat_map u16_bytes b.read_parameters) + length (flat_map end_bytes b.ends)
unfolding branch_bytes
branch_size b = simp (length-append, head_size b) (omega arith)

-- where the branches of a row are
pub par_size : (row : Par) → length (par_bytes row) ≡ 18 + length (flat_map channel_bytes row.channels) + length
    (flat_map branch_bytes row.branches)
unfolding par_bytes u16_bytes i32_bytes u32_bytes
par_size row = simp length-append (omega arith)

-- ---- the bytes of rows that can be written fit in memory

pub fact_small : (f : Fact) → length (fact_bytes f) ≤ 17
fact_small f = (fact_spans f).1

-- lists of items of a size at most
all_small : {A : Type 0} (spelled : A → List ℕ) (P : A → Type 0) (most : ℕ)
    → ((x : A) → P x → length (spelled x) ≤ most) → (xs : List A) → AllByRecursion P xs
    → length (flat_map spelled xs) ≤ most * length xs
all_small spelled P most one [] h = omega arith
all_small spelled P most one (x ∷ xs) h =
    omega (arith, length-append (spelled x) (flat_map spelled xs), one x h.0, all_small spelled P most one xs h.1)

entries_small : (es : List Entry) → length (flat_map entry_bytes es) ≤ 25 * length es
entries_small [] = omega arith
entries_small (e ∷ es) = omega (
  arith,
  length-append (entry_bytes e) (flat_map entry_bytes es),
  (entry_size e).0,
  fact_small e.fact,
  entries_small es,
)

label_small : (row : Label) → length row.entries < 2 ^ 16 → length (label_bytes row) ≤ 1638471
label_small row h = omega (
  arith,
  label_size row,
  fact_small row.stack.a,
  fact_small row.stack.b,
  fact_small row.stack.c,
  entries_small row.entries,
  h,
)

pub labels_small : (rows : List Label) → AllByRecursion (λ (row : Label). length row.entries < 2 ^ 16) rows
    → length (flat_map label_bytes rows) ≤ 1638471 * length rows
labels_small rows h = all_small label_bytes (λ (row : Label). length row.entries < 2 ^ 16) 1638471 label_small rows h

ends_size : (es : List EndRow) → length (flat_map end_bytes es) ≡ 10 * length es
ends_size es = all_sizes end_bytes 10 end_size es

branch_small : (b : Branch) → BranchIsWritable b → length (branch_bytes b) ≤ 1966068
branch_small b h =
    omega (
      arith,
      branch_size b,
      intervals_size b.writes,
      intervals_size b.reads,
      numbers_size b.written_parameters,
      numbers_size b.read_parameters,
      ends_size b.ends,
      h.writes,
      h.reads,
      h.written_parameters,
      h.read_parameters,
      h.ends,
    )

par_small : (row : Par) → ParIsWritable row → length (par_bytes row) ≤ 128846266380 + 524298
par_small row h =
    omega (
      arith,
      par_size row,
      channels_size row.channels,
      all_small branch_bytes BranchIsWritable 1966068 branch_small row.branches h.branches,
      h.channels,
      h.branch_count,
    )

pub pars_small : (rows : List Par) → AllByRecursion ParIsWritable rows
    → length (flat_map par_bytes rows) ≤ (128846266380 + 524298) * length rows
pars_small rows h = all_small par_bytes ParIsWritable (128846266380 + 524298) par_small rows h
