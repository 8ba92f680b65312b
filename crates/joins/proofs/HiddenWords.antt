-- The words that no branch has, as they are kept.
use Rattle.std.proofs.Common.{◌≡◌, ℕ, pos, List, [], ◌∷◌, map, refl, ap, ◌∙◌}
use Rattle.module_format.specs.declared.rows.ChannelRow.{ChannelRow}
use Rattle.module_format.specs.Contents.{Par}
use Rattle.machine_state.specs.declared.holding.End.{End}
use Rattle.machine_state.specs.declared.spans.Stretch.{Stretch as Kept}
use Rattle.machine_state.specs.StartPlans.{hidden}
use Rattle.machine_state.specs.BranchShares.{frame_address}
use Rattle.machine_state.specs.Memory.{place_of}
use Rattle.machine_state.specs.Spans.{Share, Stretch}
use Rattle.machine_state.specs.Stretches.{stretch_view}
use Rattle.joins.specs.Opened.{word_stretch}

words : (base : ℕ) (channels : List ChannelRow)
    → map stretch_view (map (λ (c : ChannelRow). word_stretch (frame_address base c.word)) channels)
    ≡ map (λ (a : ℕ). let s : Stretch = record { start = pos (place_of a); size = 4 } in s)
    (map (λ (c : ChannelRow). frame_address base c.word) channels)
words base [] = refl
words base (c ∷ channels) =
    ap (λ (l : List Stretch). stretch_view (word_stretch (frame_address base c.word)) ∷ l) (words base channels)

pub hidden_is : (base : ℕ) (par : Par) (writes reads : List Kept) (ends : List End)
    → writes ≡ word_stretch (frame_address base par.block)
    ∷ word_stretch (frame_address (frame_address base par.block) (pos 1))
    ∷ map (λ (c : ChannelRow). word_stretch (frame_address base c.word)) par.channels
    → reads ≡ [] → ends ≡ []
    → (let s : Share = record { writes = map stretch_view writes; reads = map stretch_view reads; ends = ends } in s)
    ≡ hidden base par
hidden_is base par writes reads ends e f g =
    ap (λ (l : List Kept). let s : Share =
    record { writes = map stretch_view l; reads = map stretch_view reads; ends = ends } in s) e
    ∙ (ap (λ (l : List Stretch). let s : Share = record {
      writes = stretch_view (word_stretch (frame_address base par.block))
          ∷ stretch_view (word_stretch (frame_address (frame_address base par.block) (pos 1))) ∷ l;
      reads = map stretch_view reads;
      ends = ends;
    } in s) (words base par.channels)
    ∙ (ap (λ (l : List Kept). let s : Share = record (hidden base par) { reads = map stretch_view l; ends = ends } in s)
    f
    ∙ ap (λ (l : List End). let s : Share = record (hidden base par) { ends = l } in s) g))
