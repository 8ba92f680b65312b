-- What the rule leaves that moves bytes.
use Rattle.std.proofs.Common.{◌≡◌, ℕ, ◌-◌, ◌≤◌, ℤ, ◌+ℤ◌, Bool, true, false, refl}
use Rattle.std.proofs.lemmas.Bool.{le-ltb}
use Rattle.std.specs.Prelude.{nat_lt}
use Rattle.module_format.specs.Regions.{is_frame}
use Rattle.module_format.specs.Stack.{of_empty}
use Rattle.machine_state.specs.Instructions.{instruction_of, op_of}
use Rattle.states.specs.Spans.{after_change}
use Rattle.states.specs.State.{State, unknown}
use Rattle.rulings.specs.declared.pointers.Pointed.{Pointed}
use Rattle.rulings.specs.Rulings.{Site, outside_alternation, outside_starts, settles, in_bounds, pays, goes_on, falls}
use Rattle.rulings.specs.Pointers.{leaves_words, byte_read}
use Rattle.rulings.specs.Filling.{are_numbers, filled, become_numbers, words_within}
use Rattle.local_rules.specs.LocalRules.{local_operation_rule}
use Rattle.local_rules.specs.MoveRules.{amount, come, moves_some, moves_bytes, clears}
use Rattle.facts.specs.Rules.{rule, rule_of, instruction_rule, operation_rule}
use Rattle.certified_lines.specs.StraightRules.{Setting, Told, state_of}
use Rattle.certified_lines.specs.Addresses.{told_state}
use Rattle.certified_lines.specs.Moving.{MovedBytesAreKnown}
use Rattle.certified_lines.proofs.Instructions.{falls_by, uses_told}
use Rattle.certified_lines.proofs.Addresses.{ask_told, read_open, write_open}

-- the state without registers, with what is known of these words
abbrev cleared : Setting → State → ℕ → State
cleared g s number = state_of g (record { stack = of_empty unknown; frame = s.frame }) number

module _ (g : Setting) (at size number : ℕ) (enough : size ≤ number) (s : Told) (p : Pointed) (end : ℤ) where
  abbrev site : Site
  site = record { contents = g.contents; at = at; length = size }

  -- what is left of words does not depend on what there is to pay from
  clears_by : (numbers in_frame within : Bool) → is_frame p.region ≡ in_frame
      → nat_lt 0 (words_within p.lo end) ≡ within
      → clears site (filled numbers p end (state_of g s number))
      ≡ falls (cleared g (filled numbers p end (told_state g s)) (number - size))
  unfolding filled become_numbers leaves_words after_change outside_alternation outside_starts goes_on pays
  clears_by true true true region words = rw (region, words, le-ltb number size enough) refl
  clears_by true true false region words = rw (region, words, le-ltb number size enough) refl
  clears_by true false within region words = rw (region, le-ltb number size enough) refl
  clears_by false true within region words = rw (region, le-ltb number size enough) refl
  clears_by false false within region words = rw (region, le-ltb number size enough) refl

  clears_all : (numbers : Bool) → clears site (filled numbers p end (state_of g s number))
      ≡ falls (cleared g (filled numbers p end (told_state g s)) (number - size))
  clears_all numbers =
      clears_by numbers (is_frame p.region) (nat_lt 0 (words_within p.lo end)) refl refl

pub moved_bytes_are_known : MovedBytesAreKnown
unfolding rule rule_of instruction_rule operation_rule local_operation_rule instruction_of op_of settles in_bounds
    amount moves_bytes moves_some come byte_read
moved_bytes_are_known g count to from s may =
    let a = ask_told.constant s.stack.a.fact count may.counts in
    let b = ask_told.exact s.stack.b.fact to may.comes_to in
    let c = ask_told.exact s.stack.c.fact from may.comes_from in
    let reads = may.reads in
    let writes = may.writes in
    falls_by (λ at size number pays.
    rw (
      uses_told,
      uses_told,
      uses_told,
      may.counts,
      may.fits,
      may.comes_to,
      may.comes_from,
      may.some,
      read_open,
      write_open,
      may.apart,
    ) (clears_all g at size number pays s to (to.hi +ℤ count) (are_numbers (told_state g s) from count)))
