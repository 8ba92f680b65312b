-- What holds of the code of parts, whatever it says, holds of the code of blocks.
use Rattle.std.proofs.Common.{ℕ, zero, suc, ◌+◌, ℤ, pos, negsuc, Bool, List, Option, None}
use Rattle.std.specs.Prelude.{⊤}
use Rattle.std.proofs.lemmas.Bool.{cond_both}
use Rattle.occam_layout.specs.declared.mark.Mark.TheVariants as mark
use Rattle.occam_parser.specs.Blocks.{Component, One, part_of}
use Rattle.occam_parser.specs.Lines.{Replicator}
use Rattle.occam_parser.specs.Terminals.{Mark, Terminal}
use Rattle.scalar_ranges.specs.Moves.{Known}
use Rattle.code_pieces.specs.Pieces.{Code}
use Rattle.line_pieces.specs.Declarations.{with_block, with_home}
use Rattle.line_pieces.specs.Homes.{Nowhere}
use Rattle.code_generator.specs.Processes.{Always, EndedChoices, IfEnding, NoChoice, Opens, PlacedChoice}
use Rattle.code_generator.specs.Processes.{PlacedChoices, Site, Stops, Surroundings, ThenChoice, body_code, by_block}
use Rattle.code_generator.specs.Processes.{component_code, has_scalar, if_code, in_each_turn, is_true}
use Rattle.code_generator.specs.Processes.{loop_code, no_loop, opening, placed, repeated_seq, with_ending}

-- ---- choices of an IF

abbrev pub EachChoice : (PlacedChoice → Type 0) → PlacedChoices → Type 0
EachChoice holds NoChoice = ⊤
EachChoice holds (ThenChoice cs c) = EachChoice holds cs × holds c

abbrev pub EndingHolds : (PlacedChoice → Type 0) → IfEnding → Type 0
EndingHolds holds Stops = ⊤
EndingHolds holds (Always c) = holds c
EndingHolds holds (Opens c) = holds c

abbrev pub EndedHold : (PlacedChoice → Type 0) → EndedChoices → Type 0
EndedHold holds x = EachChoice holds x.tested × EndingHolds holds x.ending

-- what holds of choices holds with their ending
pub ending_holds : (holds : PlacedChoice → Type 0) (cs : PlacedChoices) → EachChoice holds cs
    → EndedHold holds (with_ending cs)
ending_holds holds NoChoice all = (tt, tt)
ending_holds holds (ThenChoice cs c) all =
    cond_both {A = EndedChoices} (is_true c.condition) (record { tested = cs; ending = Always c })
    (record { tested = ThenChoice cs c; ending = Stops }) (EndedHold holds) (λ t. all) (λ t. (all, tt))

-- and where the one before the last is open
pub opening_holds : (holds : PlacedChoice → Type 0) (cs : PlacedChoices) (x : IfEnding) → EachChoice holds cs
    → EndingHolds holds x → EndedHold holds (opening cs x)
opening_holds holds (ThenChoice cs opened) (Always c) all last =
    cond_both {A = EndedChoices} c.is_skip (record { tested = cs; ending = Opens opened })
    (record { tested = ThenChoice cs opened; ending = Always c }) (EndedHold holds) (λ t. all) (λ t. (all, last))
opening_holds holds cs x all last = (all, last)

-- what holds of each turn holds of all
pub turns_hold : (holds : PlacedChoice → Type 0) (choice : ℕ → PlacedChoice) (count : ℕ)
    → ((n : ℕ) → holds (choice n)) → EachChoice holds (in_each_turn choice count)
turns_hold holds choice zero all = tt
turns_hold holds choice (suc n) all = (turns_hold holds choice n all, all n)

-- ---- blocks

-- where a turn of a loop begins, whatever is known there
abbrev pub loop_inside : Site → Known → Site
loop_inside s k = record { frame = with_block s.label s.frame; known = k; label = s.label + 2 }

module _ (holds : Option Code → Type 0) (nothing : holds None) where
  -- a block is all its components, or its choices
  pub by_word : (word : Terminal) (all choices : Option Code) → holds all → holds choices
      → holds (by_block word all choices)
  by_word (Mark mark.Seq) all choices first second = first
  by_word (Mark mark.If) all choices first second = second
  by_word word all choices first second = nothing

  -- a replicated SEQ is its loop, or what says that there is none
  repeated_holds : (s : Site) (changed : List ℕ) (after : Known) (base : ℤ) (loop : Option Code) (count : ℤ)
      → ((known : Known) (changes : Bool) → holds (no_loop changes s known)) → holds loop
      → holds (repeated_seq s changed after base loop count)
  repeated_holds s changed after base loop (pos zero) none each = none after (has_scalar changed s.known.entries)
  repeated_holds s changed after base loop (pos (suc n)) none each = each
  repeated_holds s changed after base loop (negsuc n) none each = each

  -- What holds of the loop of a body under a replicator, and of its choices, wherever they begin, holds of its code.
  pub body_holds : (w : Surroundings) (line : ℕ) (r : Replicator) (kind : _) (c : Component (part_of kind))
      (s : Site) → ((known : Known) (changes : Bool) → holds (no_loop changes s known))
      → ((start after : Known) (base count : ℤ)
      → holds (loop_code s (loop_inside s start) after base count (component_code w c (loop_inside s start))))
      → ((after : Known) (starts : ℕ → Known) (count : ℕ)
      → holds (if_code s (with_home Nowhere s.frame) after
      (with_ending (in_each_turn (λ n. placed w c (starts n)) count))))
      → holds (body_code w line r (One kind c) s)
  body_holds w line r kind c s none loops choices = search (by_word, repeated_holds, none, loops, choices)
