-- A small module that alternates between two links, and what its rules say.
use Rattle.std.specs.Prelude.{◌≡◌, ℕ, ◌+◌, ◌-◌, ◌*◌, ℤ, pos, ◌+ℤ◌, false, List, [], ◌∷◌, Some, None}
use Rattle.module_format.specs.Rows.{Fact}
use Rattle.module_format.specs.declared.fact.Fact.TheVariants.{Unknown, Number}
use Rattle.module_format.specs.Contents.{Contents, Label}
use Rattle.module_format.specs.Stack.{of_empty}
use Rattle.word_arithmetic.specs.Word.{least_word}
use Rattle.states.specs.declared.rule.Rule.TheVariants as rules
use Rattle.states.specs.State.{State, known, root_state}
use Rattle.rulings.specs.Rulings.{Ruling, selects, breaks, falling, Site}
use Rattle.alternation_rules.specs.AlternationRules.{alt_rule, enbc_rule, altwt_rule, disc_rule, altend_rule}

-- what a variation of the module has: the budget, the lengths of messages of the second link, the value of the guard by
-- which that is disabled, and the labels
pub record Variation : Type 0 where
  pub budget : ℕ
  pub second : ℕ
  pub guard : ℕ
  pub labels : List Label

-- a label at an offset of which nothing is known, with this number
abbrev pub bare_label : ℕ → ℕ → Label
bare_label offset number = record {
  offset = offset;
  context = 0;
  depth = pos 0;
  number = number;
  stack = of_empty Unknown;
  entries = [];
}

-- alt; mint; ldnlp 4; ldc 1; enbc; mint; ldnlp 5; ldc 1; enbc; altwt; mint; ldnlp 4; ldc 1; ldc 0; disc; mint; ldnlp 5;
-- ldc 1; ldc 2; disc; altend; stopp; stopp: of the guard in front of the second distance, the value varies
abbrev pub choice : Variation → Contents
choice v = record {
  code = 0x24 ∷ 0xf3 ∷ 0x24 ∷ 0xf2 ∷ 0x54 ∷ 0x41 ∷ 0x24 ∷ 0xf8 ∷ 0x24 ∷ 0xf2 ∷ 0x55 ∷ 0x41 ∷ 0x24 ∷ 0xf8 ∷ 0x24 ∷ 0xf4
      ∷ 0x24 ∷ 0xf2 ∷ 0x54 ∷ 0x41 ∷ 0x40 ∷ 0x22 ∷ 0xff ∷ 0x24 ∷ 0xf2 ∷ 0x55 ∷ (0x40 + v.guard) ∷ 0x42 ∷ 0x22 ∷ 0xff
      ∷ 0x24 ∷ 0xf5 ∷ 0x21 ∷ 0xf5 ∷ 0x21 ∷ 0xf5 ∷ [];
  constants = [];
  data_words = 4;
  base = 3;
  budget = v.budget;
  finish = 36;
  lengths = 0 ∷ 0 ∷ 0 ∷ 0 ∷ 1 ∷ v.second ∷ 0 ∷ 0 ∷ [];
  has_long_operations = false;
  procedures = [];
  labels = v.labels;
  pars = [];
  table_rows = [];
}

-- ---- its rules, one after the other

-- the ruling of what follows, in the state that falls into it
abbrev pub followed_by : Ruling → (State → Ruling) → Ruling
followed_by ruling k = elim (falling ruling) [ None ↦ ruling | Some s ↦ k s ]

abbrev pub exactly : ℤ → Fact
exactly value = Number value value

-- the address of the input link of this number
abbrev pub input_address : ℕ → ℤ
input_address n = least_word +ℤ pos (16 + 4 * n)

-- the guard and the link are loaded, which takes 4 bytes
abbrev pub with_guard : ℕ → ℕ → State → State
with_guard link guard s = record s {
  stack = record { a = known (exactly (pos guard)); b = known (exactly (input_address link)); c = known Unknown };
  number = s.number - 4;
}

-- the distance, the guard and the link are loaded, which takes 5 bytes
abbrev pub with_distance : ℕ → ℕ → ℕ → State → State
with_distance link guard distance s = record s {
  stack = record {
    a = known (exactly (pos distance));
    b = known (exactly (pos guard));
    c = known (exactly (input_address link));
  };
  number = s.number - 5;
}

-- the place of an instruction of the module
abbrev pub place_in : Contents → ℕ → ℕ → Site
place_in m at length = record { contents = m; at = at; length = length }

-- the ruling of the alternation, from its beginning to its end
abbrev pub choice_ruling : Variation → Ruling
choice_ruling v =
    let m = choice v in
    followed_by (alt_rule (place_in m 0 2) (root_state m)) (λ s.
    followed_by (enbc_rule (place_in m 6 2) (with_guard 0 1 s)) (λ s.
    followed_by (enbc_rule (place_in m 12 2) (with_guard 1 1 s)) (λ s.
    followed_by (altwt_rule (place_in m 14 2) s) (λ s.
    followed_by (disc_rule (place_in m 21 2) (with_distance 0 1 0 s)) (λ s.
    followed_by (disc_rule (place_in m 28 2) (with_distance 1 v.guard 2 s)) (altend_rule (place_in m 30 2)))))))

abbrev pub well : Variation
well = record { budget = 34; second = 1; guard = 1; labels = bare_label 32 2 ∷ bare_label 34 2 ∷ [] }

-- the same with other labels
abbrev pub well_but_for : List Label → Variation
well_but_for labels = record well { labels = labels }

-- What the rules say of it: the process goes on at one of two labels. If the second link has no length, its end is not
-- held. A guard is disabled by the name by which it was enabled, and it leads to a label, which the number covers.
pub record ChoiceIsJudged : Type 0 where
  pub goes_on : choice_ruling well ≡ selects (32 ∷ 34 ∷ [])
  pub unheld : choice_ruling (record well { second = 0 }) ≡ breaks rules.Channel
  pub other_name : choice_ruling (record well { guard = 0 }) ≡ breaks rules.Alternation
  pub no_label : choice_ruling (well_but_for (bare_label 34 2 ∷ [])) ≡ breaks rules.Alternation
  pub unpaid : choice_ruling (record well { budget = 33 }) ≡ breaks rules.Budget
  pub unpaid_label : choice_ruling (well_but_for (bare_label 32 3 ∷ bare_label 34 2 ∷ [])) ≡ breaks rules.Budget
