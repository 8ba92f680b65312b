-- A small module of which one branch sends a word to the other, and what its rules say.
use Rattle.std.specs.Prelude.{◌≡◌, pos, negsuc, false, List, [], ◌∷◌}
use Rattle.word_arithmetic.specs.Word.{least_word, greatest_word}
use Rattle.module_format.specs.Rows.{Fact, Entry}
use Rattle.module_format.specs.declared.fact.Fact.TheVariants.{Unknown, Number, CodeAddress}
use Rattle.module_format.specs.declared.rows.Direction.{Direction}
use Rattle.module_format.specs.declared.rows.Direction.TheVariants.{In, Out}
use Rattle.module_format.specs.declared.rows.EndKind.TheVariants.{FrameWord}
use Rattle.module_format.specs.declared.rows.Interval.{Interval}
use Rattle.module_format.specs.Contents.{Contents, Label, Branch}
use Rattle.states.specs.declared.rule.Rule.TheVariants as rules
use Rattle.states.specs.State.{written, root_state, label_state}
use Rattle.rulings.specs.Rulings.{Ruling, ends, breaks}
use Rattle.par_rules.specs.ParRules.{startp_rule, endp_rule}
use Rattle.par_rules.specs.Pair.{words, branch_with_words, label_at_offset, exactly, entry, frame_pointer, place_in}
use Rattle.par_rules.specs.Pair.{followed_by, with_registers}

-- What a variation of the module has: the words of the branch that sends, the end that the other one is given, and what
-- the label after the PAR says.
pub record Variation : Type 0 where
  pub writes : List Interval
  pub direction : Direction
  pub entries : List Entry

-- a branch that has an end of the channel in word 2
abbrev pub with_end : Direction → Branch → Branch
with_end direction b = record b { ends = record { kind = FrameWord (pos 2); direction = direction } ∷ [] }

abbrev pub receiver_label : Label
receiver_label = label_at_offset 28 2 (negsuc 8) 6 []

-- mint; stl 2; ldc 3; stl 1; ldc 25; ldpi; stl 0; ldc 6; ldlp -6; startp; ldc 10; ldlp -9; startp; ldlp 0; endp; and
-- from 20 on ldc 5; stl 10; ldlp 10; ldlp 8; ldc 4; out; ldlp 6; endp; from 28 on ldlp 12; ldlp 11; ldc 4; in; ldlp 9;
-- endp; from 34 on stopp
abbrev pub sending : Variation → Contents
sending v = record {
  code = 0x24 ∷ 0xf2 ∷ 0xd2 ∷ 0x43 ∷ 0xd1 ∷ 0x21 ∷ 0x49 ∷ 0x21 ∷ 0xfb ∷ 0xd0 ∷ 0x46 ∷ 0x60 ∷ 0x1a ∷ 0xfd ∷ 0x4a ∷ 0x60
      ∷ 0x17 ∷ 0xfd ∷ 0x10 ∷ 0xf3 ∷ 0x45 ∷ 0xda ∷ 0x1a ∷ 0x18 ∷ 0x44 ∷ 0xfb ∷ 0x16 ∷ 0xf3 ∷ 0x1c ∷ 0x1b ∷ 0x44 ∷ 0xf7
      ∷ 0x19 ∷ 0xf3 ∷ 0x21 ∷ 0xf5 ∷ [];
  constants = [];
  data_words = 17;
  base = 12;
  budget = 36;
  finish = 36;
  lengths = 0 ∷ 0 ∷ 0 ∷ 0 ∷ 0 ∷ 0 ∷ 0 ∷ 0 ∷ [];
  has_long_operations = false;
  procedures = [];
  labels = label_at_offset 20 1 (negsuc 5) 8 [] ∷ receiver_label ∷ label_at_offset 34 0 (pos 0) 2 v.entries ∷ [];
  pars = record {
    context = 0;
    depth = pos 0;
    block = pos 0;
    successor = 34;
    channels = record { word = pos 2; length = 4 } ∷ [];
    branches = with_end Out (branch_with_words 20 (negsuc 5) v.writes [])
        ∷ with_end v.direction
        (branch_with_words 28 (negsuc 8) (words (negsuc 11) (negsuc 8) ∷ words (pos 3) (pos 4) ∷ []) [])
        ∷ [];
  } ∷ [];
  table_rows = [];
}

-- the first start, in the state in which it is reached
abbrev pub first_start : Variation → Ruling
first_start v =
    let cleared = written (pos 2) (exactly least_word) (root_state (sending v)) in
    let s = written (pos 0) (CodeAddress 34) (written (pos 1) (exactly (pos 3)) cleared) in
    startp_rule (place_in (sending v) 13) (with_registers (frame_pointer (negsuc 23)) (exactly (pos 6)) 13 s)

-- of the process that starts the branches, up to its end
abbrev pub opener_ruling : Variation → Ruling
opener_ruling v =
    followed_by (first_start v) (λ s.
    followed_by
    (startp_rule (place_in (sending v) 17) (with_registers (frame_pointer (negsuc 35)) (exactly (pos 10)) 3 s))
    (λ s. endp_rule (place_in (sending v) 19) (with_registers (frame_pointer (pos 0)) Unknown 1 s)))

-- of the branch that receives any number, at its end
abbrev pub receiver_ruling : Variation → Ruling
receiver_ruling v =
    endp_rule (place_in (sending v) 33)
    (with_registers (frame_pointer (pos 0)) Unknown 5
    (written (pos 3) (Number least_word greatest_word) (label_state receiver_label)))

abbrev pub well : Variation
well = record {
  writes = words (negsuc 8) (negsuc 5) ∷ words (pos 4) (pos 5) ∷ [];
  direction = In;
  entries = [];
}

-- the same where the label after the PAR says this of the word that is received
abbrev pub telling : Fact → Variation
telling fact = record well { entries = entry (pos 3) fact ∷ [] }

-- What the rules say: all is accepted, also where the last label says that a number was received, but not that it is
-- 10. An end is given to one branch, and the channel's word to none.
pub record SendingIsJudged : Type 0 where
  pub opener : opener_ruling well ≡ ends
  pub receiver : receiver_ruling well ≡ ends
  pub number : receiver_ruling (telling (Number least_word greatest_word)) ≡ ends
  pub number_opener : opener_ruling (telling (Number least_word greatest_word)) ≡ ends
  pub another : receiver_ruling (telling (exactly (pos 10))) ≡ breaks rules.Label
  pub given_twice : opener_ruling (record well { direction = Out }) ≡ breaks rules.Channel
  pub channel_is_given :
      first_start (record well {
        writes = words (negsuc 8) (negsuc 5) ∷ words (pos 2) (pos 3) ∷ words (pos 4) (pos 5) ∷ [];
      })
      ≡ breaks rules.Par
