-- A small module that starts two branches, each of which writes a word, and what its rules say.
use Rattle.std.specs.Prelude.{◌≡◌, ℕ, ◌-◌, ℤ, pos, negsuc, false, List, [], ◌∷◌, Some, None}
use Rattle.module_format.specs.Rows.{Fact, Entry}
use Rattle.module_format.specs.declared.fact.Fact.TheVariants.{Unknown, Number, Pointer, CodeAddress}
use Rattle.module_format.specs.declared.fact.Region.TheVariants.{Frame}
use Rattle.module_format.specs.declared.fact.Step.TheVariants.{Word}
use Rattle.module_format.specs.declared.rows.Interval.{Interval}
use Rattle.module_format.specs.Contents.{Contents, Label, Branch}
use Rattle.module_format.specs.Stack.{of_empty}
use Rattle.states.specs.declared.rule.Rule.TheVariants as rules
use Rattle.states.specs.State.{State, known, written, root_state, label_state}
use Rattle.rulings.specs.Rulings.{Ruling, ends, breaks, falling, leading, Site}
use Rattle.par_rules.specs.ParRules.{startp_rule, endp_rule}

-- ---- rows

-- the words from lo up to hi (not included)
abbrev pub words : ℤ → ℤ → Interval
words lo hi = record { lo = lo; hi = hi }

-- a branch that is given these words to write, and these to read
abbrev pub branch_with_words : ℕ → ℤ → List Interval → List Interval → Branch
branch_with_words entry workspace writes reads = record {
  entry = entry;
  workspace = workspace;
  writes = writes;
  reads = reads;
  written_parameters = [];
  read_parameters = [];
  ends = [];
}

-- a label that says nothing but of these words
abbrev pub label_at_offset : ℕ → ℕ → ℤ → ℕ → List Entry → Label
label_at_offset offset context depth number entries = record {
  offset = offset;
  context = context;
  depth = depth;
  number = number;
  stack = of_empty Unknown;
  entries = entries;
}

abbrev pub exactly : ℤ → Fact
exactly value = Number value value

-- one word has this fact
abbrev pub entry : ℤ → Fact → Entry
entry word fact = record { word = word; span = 1; fact = fact }

-- the address of a word of the frame, by its offset
abbrev pub frame_pointer : ℤ → Fact
frame_pointer offset = Pointer Frame offset offset Word

-- ---- the module

-- What a variation of the module has: the budget, the words of its branches, how far after the first start the first
-- branch is said to begin, what is known of word -7 there, where the PAR leads, and the labels.
pub record Variation : Type 0 where
  pub budget : ℕ
  pub first_writes : List Interval
  pub second_writes : List Interval
  pub second_reads : List Interval
  pub distance : ℕ
  pub scheduled : Fact
  pub successor : ℕ
  pub labels : List Label

-- ldc 3; stl 1; ldc 19; ldpi; stl 0; ldc 6; ldlp -6; startp; ldc 6; ldlp -9; startp; ldlp 0; endp; and from 17 on
-- ldc 1; stl 8; ldlp 6; endp; from 21 on ldc 2; stl 12; ldlp 9; endp; from 25 on stopp
abbrev pub pair : Variation → Contents
pair v = record {
  code = 0x43 ∷ 0xd1 ∷ 0x21 ∷ 0x43 ∷ 0x21 ∷ 0xfb ∷ 0xd0 ∷ 0x46 ∷ 0x60 ∷ 0x1a ∷ 0xfd ∷ 0x46 ∷ 0x60 ∷ 0x17 ∷ 0xfd ∷ 0x10
      ∷ 0xf3 ∷ 0x41 ∷ 0xd8 ∷ 0x16 ∷ 0xf3 ∷ 0x42 ∷ 0xdc ∷ 0x19 ∷ 0xf3 ∷ 0x21 ∷ 0xf5 ∷ [];
  constants = [];
  data_words = 16;
  base = 12;
  budget = v.budget;
  finish = 27;
  lengths = 0 ∷ 0 ∷ 0 ∷ 0 ∷ 0 ∷ 0 ∷ 0 ∷ 0 ∷ [];
  has_long_operations = false;
  procedures = [];
  labels = v.labels;
  pars = record {
    context = 0;
    depth = pos 0;
    block = pos 0;
    successor = v.successor;
    channels = [];
    branches = branch_with_words 17 (negsuc 5) v.first_writes []
        ∷ branch_with_words 21 (negsuc 8) v.second_writes v.second_reads ∷ [];
  } ∷ [];
  table_rows = [];
}

-- ---- its rules, one after the other

-- the place of an instruction of one byte
abbrev pub place_in : Contents → ℕ → Site
place_in m at = record { contents = m; at = at; length = 1 }

-- the ruling of what follows, in the state that falls into it
abbrev pub followed_by : Ruling → (State → Ruling) → Ruling
followed_by ruling k = elim (falling ruling) [ None ↦ ruling | Some s ↦ k s ]

-- this in A and B, after this number of bytes
abbrev pub with_registers : Fact → Fact → ℕ → State → State
with_registers a b bytes s = record s {
  stack = record { a = known a; b = known b; c = known Unknown };
  number = s.number - bytes;
}

-- the first start, in the state in which it is reached
abbrev pub first_start : Variation → Ruling
first_start v =
    let s = written (pos 0) (CodeAddress 25) (written (pos 1) (exactly (pos 3)) (root_state (pair v))) in
    startp_rule (place_in (pair v) 10)
    (with_registers (frame_pointer (negsuc 23)) (exactly (pos v.distance)) 10 (written (negsuc 6) v.scheduled s))

abbrev pub second_start : Variation → State → Ruling
second_start v s =
    startp_rule (place_in (pair v) 14) (with_registers (frame_pointer (negsuc 35)) (exactly (pos 6)) 3 s)

-- of the process that starts the branches, up to its end
abbrev pub opener_ruling : Variation → Ruling
opener_ruling v =
    followed_by (first_start v) (λ s.
    followed_by (second_start v s) (λ s.
    endp_rule (place_in (pair v) 16) (with_registers (frame_pointer (pos 0)) Unknown 1 s)))

-- of the first branch, from this label to its end
abbrev pub first_branch_ruling : Variation → Label → Ruling
first_branch_ruling v t =
    endp_rule (place_in (pair v) 20)
    (with_registers (frame_pointer (pos 0)) Unknown 3 (written (pos 2) (exactly (pos 1)) (label_state t)))

-- of the second one
abbrev pub second_branch_ruling : Variation → Label → Ruling
second_branch_ruling v t =
    endp_rule (place_in (pair v) 24)
    (with_registers (frame_pointer (pos 0)) Unknown 3 (written (pos 3) (exactly (pos 2)) (label_state t)))

-- ---- variations

abbrev pub first_label : ℕ → List Entry → Label
first_label number entries = label_at_offset 17 1 (negsuc 5) number entries

abbrev pub second_label : Label
second_label = label_at_offset 21 2 (negsuc 8) 4 []

abbrev pub last_label : ℕ → List Entry → Label
last_label number entries = label_at_offset 25 0 (pos 0) number entries

abbrev pub labels_with : Label → Label → List Label
labels_with first last = first ∷ second_label ∷ last ∷ []

abbrev pub well : Variation
well = record {
  budget = 27;
  first_writes = words (negsuc 8) (negsuc 5) ∷ words (pos 2) (pos 3) ∷ [];
  second_writes = words (negsuc 11) (negsuc 8) ∷ words (pos 3) (pos 4) ∷ [];
  second_reads = [];
  distance = 6;
  scheduled = Unknown;
  successor = 25;
  labels = labels_with (first_label 4 []) (last_label 2 []);
}

-- the same with other labels
abbrev pub well_but_for : Label → Label → Variation
well_but_for first last = record well { labels = labels_with first last }

-- the last label says these values of the words that the branches write
abbrev pub telling : ℤ → ℤ → Variation
telling first second =
    well_but_for (first_label 4 []) (last_label 2 (entry (pos 2) (exactly first) ∷ entry (pos 3) (exactly second) ∷ []))

-- ---- what the rules say

-- The two starts pay the labels of the branches, and the first one that after the PAR. All three processes end, also
-- where the last label says what the branches leave.
pub record PairIsAccepted : Type 0 where
  pub first : leading (first_start well) ≡ 17 ∷ 25 ∷ []
  pub second : leading (followed_by (first_start well) (second_start well)) ≡ 21 ∷ []
  pub opener : opener_ruling well ≡ ends
  pub first_branch : first_branch_ruling well (first_label 4 []) ≡ ends
  pub second_branch : second_branch_ruling well second_label ≡ ends
  pub telling_opener : opener_ruling (telling (pos 1) (pos 2)) ≡ ends
  pub telling_first : first_branch_ruling (telling (pos 1) (pos 2)) (first_label 4 []) ≡ ends
  pub telling_second : second_branch_ruling (telling (pos 1) (pos 2)) second_label ≡ ends

-- Each of these variations is refused, by this rule.
pub record PairIsRefused : Type 0 where
  pub unpaid : opener_ruling (record well { budget = 26 }) ≡ breaks rules.Budget
  pub branch_costs_more : opener_ruling (well_but_for (first_label 5 []) (last_label 2 [])) ≡ breaks rules.Budget
  pub successor_costs_more : opener_ruling (well_but_for (first_label 4 []) (last_label 3 [])) ≡ breaks rules.Budget
  pub branch_is_unpaid : first_branch_ruling well (first_label 3 []) ≡ breaks rules.Budget
  pub no_branch_there : first_start (record well { distance = 7 }) ≡ breaks rules.Par
  pub scheduling_word_not_given :
      first_start (record well { first_writes = words (negsuc 7) (negsuc 5) ∷ words (pos 2) (pos 3) ∷ [] })
      ≡ breaks rules.OwnWord
  pub block_is_given :
      first_start (record well {
        first_writes = words (negsuc 8) (negsuc 5) ∷ words (pos 0) (pos 1) ∷ words (pos 2) (pos 3) ∷ [];
      })
      ≡ breaks rules.Par
  pub read_where_it_is_written :
      opener_ruling (record well { second_reads = words (pos 2) (pos 3) ∷ [] }) ≡ breaks rules.RegionsMeet
  pub written_by_both :
      opener_ruling (record well { second_writes = words (negsuc 11) (negsuc 8) ∷ words (pos 2) (pos 3) ∷ [] })
      ≡ breaks rules.RegionsMeet
  pub other_successor : first_start (record well { successor = 21 }) ≡ breaks rules.Par
  pub scheduling_word_is_known :
      first_start (record (well_but_for (first_label 4 (entry (negsuc 6) (exactly (pos 0)) ∷ [])) (last_label 2 [])) {
        scheduled = exactly (pos 0);
      })
      ≡ breaks rules.Label
  pub block_is_known :
      first_start (well_but_for (first_label 4 []) (last_label 2 (entry (pos 0) (CodeAddress 25) ∷ [])))
      ≡ breaks rules.Par
  pub branch_leaves_another : first_branch_ruling (telling (pos 0) (pos 2)) (first_label 4 []) ≡ breaks rules.Label
