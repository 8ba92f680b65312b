-- A process that does nothing leaves what is known as it is.
use Rattle.std.proofs.Common.{◌≡◌, ℕ, true, List, length, max, refl, ap, ◌∙◌, arith}
use Rattle.std.proofs.lemmas.Bool.{and_parts}
use Rattle.occam_layout.specs.declared.mark.Mark.TheVariants as mark
use Rattle.occam_parser.specs.Expressions.{Alone, Expression}
use Rattle.occam_parser.specs.Terminals.{Mark, Terminal}
use Rattle.occam_parser.specs.Lines.{Action, Skip, block_word}
use Rattle.occam_parser.specs.Blocks.{Act, Block, Component, Components, Construct, Does, Further, NoComponent, Part}
use Rattle.occam_parser.specs.Blocks.{Plain}
use Rattle.occam_parser.specs.Blocks.{Process}
use Rattle.scalar_ranges.specs.Entries.{Entry}
use Rattle.scalar_ranges.specs.Moves.{Known, begun_with, outermost}
use Rattle.scalar_ranges.specs.Narrowing.{narrow}
use Rattle.program_uses.specs.Actions.{Around}
use Rattle.program_uses.specs.Indices.{is_seq}
use Rattle.usage_checks.specs.AfterProcesses.{after_component, after_components, after_construct, begun, ended, inside}
use Rattle.usage_checks.specs.AfterProcesses.{left_to}
use Rattle.usage_checks.specs.Following.{after_action}
use Rattle.usage_checks.specs.NameRules.{with_entries}
use Rattle.usage_checks.proofs.RangesStay.{Low, all_outermost}
use Rattle.code_generator.specs.Processes.{all_do_nothing, component_is_skip, does_nothing, is_skip, is_skip_action}
use Rattle.code_generator.specs.Processes.{is_true}

-- a condition that is TRUE narrows nothing
pub true_narrows : (es : _) (e : Expression) → is_true e ≡ true → narrow es e true ≡ es
true_narrows es (Alone x) is = refl
true_narrows es e is = absurd (cc is)

module _ (a : Around) where
  skip_stays : (action : Action) (k : Known) → is_skip_action action ≡ true
      → with_entries (after_action a.signatures action) k ≡ k
  skip_stays Skip k is = refl
  skip_stays action k is = absurd (cc is)

  -- where no more names are in scope
  none_left : (k : Known) → Low k → left_to (length k.entries) k ≡ k
  none_left k low =
      let most : max (length k.entries) (begun_with k.blocks) ≡ length k.entries = omega (arith, low) in
      ap (λ (n : ℕ). record { entries = outermost n k.entries; blocks = k.blocks }) most
      ∙ ap (λ (es : List Entry). record { entries = es; blocks = k.blocks })
      (all_outermost (length k.entries) k.entries refl)

  -- a block that is a SEQ
  by_word : {part : Part} (word : Terminal) (cs : Components part) (k : Known) → is_seq word ≡ true
      → after_components a (Mark mark.Seq) cs k ≡ k → ended word (after_components a word cs (begun word k)) ≡ k
  by_word (Mark mark.Seq) cs k is same = same
  by_word word cs k is same = absurd (cc is)

  mutual
    -- What does nothing changes nothing that is known.
    pub process_stays : (p : Process) (k : Known) → is_skip p ≡ true → Low k → inside a p k ≡ k
    process_stays (Does line c) k is low = construct_stays line c k is low
    process_stays p k is low = absurd (cc is)

    construct_stays : (line : ℕ) (c : Construct) (k : Known) → does_nothing c ≡ true → Low k
        → after_construct a line c k ≡ k
    construct_stays line (Act action) k is low = skip_stays action k is
    construct_stays line (Block kind cs) k is low =
        let both = and_parts (is_seq (block_word kind)) (all_do_nothing cs) is in
        by_word (block_word kind) cs k both.0 (all_stay cs k both.1 low)
    construct_stays line c k is low = absurd (cc is)

    all_stay : {part : Part} (cs : Components part) (k : Known) → all_do_nothing cs ≡ true → Low k
        → after_components a (Mark mark.Seq) cs k ≡ k
    all_stay NoComponent k is low = refl
    all_stay (Further cs c) k is low =
        let both = and_parts (all_do_nothing cs) (component_is_skip c) is in
        ap (after_component a (Mark mark.Seq) c) (all_stay cs k both.0 low) ∙ one_stays c k both.1 low

    one_stays : {part : Part} (c : Component part) (k : Known) → component_is_skip c ≡ true → Low k
        → after_component a (Mark mark.Seq) c k ≡ k
    one_stays (Plain p) k is low = ap (left_to (length k.entries)) (process_stays p k is low) ∙ none_left k low
    one_stays c k is low = absurd (cc is)
