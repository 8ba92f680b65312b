-- At each place in a construct names are the same as before it.
use Rattle.std.proofs.Common.{ℕ, List, length, ap, sym, ◌∙◌}
use Rattle.occam_layout.specs.declared.mark.Mark.TheVariants as mark
use Rattle.occam_parser.specs.Terminals.{Mark}
use Rattle.occam_parser.specs.Blocks.{Components, Construct, Part}
use Rattle.scalar_ranges.specs.Entries.{Entry}
use Rattle.scalar_ranges.specs.MoveLaws.{shape}
use Rattle.scalar_ranges.specs.Moves as moves
use Rattle.scalar_ranges.specs.Moves.{Known, outermost}
use Rattle.program_uses.specs.Actions.{Around}
use Rattle.program_uses.specs.Changes.{changed_by_components}
use Rattle.program_meaning.specs.Sequential.{AreSequential, IsSequentialConstruct}
use Rattle.program_meaning.proofs.MovesWithin.{within_shape}
use Rattle.usage_checks.specs.AfterProcesses.{after_components, after_construct, inside}
use Rattle.usage_checks.specs.Outlines.{IsMadeOf}
use Rattle.usage_checks.proofs.RangesStay.{all_outermost, components_stay, covers_itself, ranges_stay}
use Rattle.certified_scopes.specs.Processes.{HasSameNames, IsInside, NamesAreKept, SameNamesAreSettled}
use Rattle.certified_scopes.specs.Within.{indices_of}
use Rattle.certified_scopes.proofs.Indices.{index_lengths}
use Rattle.certified_scopes.proofs.ProcessesKeep.{InChoices, all_keep, choices_keep, indices_are_kept, one_keeps}
use Rattle.certified_scopes.proofs.ProcessesKeep.{turns_keep}
use Rattle.certified_scopes.proofs.Settled.{moved_scopes_are_settled}

between_choices : (es : List Entry) (bs : List moves.Block) (x : Known) → InChoices (indices_of es) (shape es) bs x
    → HasSameNames x.entries es
between_choices es bs x h =
    let at = ap (λ (y : Known). y.entries) h.at in (
      ap (λ (xs : List Entry). shape xs) at ∙ h.alike,
      ap (λ (xs : List Entry). indices_of xs) at ∙ h.starts,
    )

construct_names : (a : Around) (line : ℕ) (c : Construct) (k : Known) → IsSequentialConstruct c → IsInside k
    → HasSameNames (after_construct a line c k).entries k.entries
construct_names a line c k seq low =
    let same = indices_are_kept.constructs a line c k seq low in
    let after = (after_construct a line c k).entries in
    let stays = ranges_stay.constructs a line c k low in (
      ap (λ (xs : List Entry). shape xs) (sym (all_outermost (length k.entries) after
          (index_lengths after k.entries same)))
          ∙ within_shape _ (outermost (length k.entries) after) k.entries stays.within,
      same,
    )

component_names : {part : Part} (a : Around) (cs : Components part) (k : Known) → IsMadeOf (Mark mark.Seq) part
    → AreSequential (Mark mark.Seq) cs → IsInside k
    → HasSameNames (after_components a (Mark mark.Seq) cs k).entries k.entries
component_names a cs k made seq low =
    let ns = changed_by_components a.signatures k.entries cs in
    let after = (after_components a (Mark mark.Seq) cs k).entries in
    let remains = components_stay a ns (Mark mark.Seq) cs k made (covers_itself ns) low in
    (within_shape ns after k.entries remains.within, indices_are_kept.components a cs k made seq low)

pub names_are_kept : NamesAreKept
names_are_kept = record {
  processes = λ a p k seq low. (
    within_shape _ (outermost (length k.entries) (inside a p k).entries) k.entries
        (ranges_stay.processes a p k low).within,
    indices_are_kept.processes a p k seq low,
  );
  constructs = construct_names;
  components = λ {part} a cs k made seq low. component_names a cs k made seq low;
  choices = λ {part} a cs k made seq.
      between_choices k.entries k.blocks _ (choices_keep a cs k made (all_keep a (Mark mark.If) cs seq));
  turns = λ {part} a c name repeats k n made seq.
      between_choices k.entries k.blocks _ (turns_keep a c name repeats k n made (one_keeps a (Mark mark.If) c seq));
}

pub same_names_are_settled : SameNamesAreSettled
same_names_are_settled g f ds es same typed ordered s =
    moved_scopes_are_settled g f ds es same.0 same.1 typed ordered s
