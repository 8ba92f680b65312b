-- What it is to go over a process or a part of one.
use Rattle.std.specs.Prelude.{ℕ, length}
use Rattle.occam_parser.specs.Terminals.{Terminal}
use Rattle.occam_parser.specs.Blocks.{Process, Construct, Body, One, Part, Components, Component}
use Rattle.occam_parser.specs.Lines.{Replicator, block_word}
use Rattle.scalar_ranges.specs.Moves.{Known}
use Rattle.program_uses.specs.ActionViews.{around_of}
use Rattle.usage_checks.specs.declared.blocks.Site.{Site}
use Rattle.usage_checks.specs.declared.telling.Findings.{Findings}
use Rattle.usage_checks.specs.AfterProcesses.{inside, begun, ended, after_construct, after_components, after_component}
use Rattle.usage_checks.specs.AfterProcesses.{after_body}
use Rattle.usage_checks.specs.ProcessRules.{BreaksIn, BreaksConstruct, position_in, BreakComponents}
use Rattle.usage_checks.specs.ProcessRules.{BreaksComponent, BreaksBody}
use Rattle.usage_checks.specs.Telling.{Walks}

abbrev pub WalksProcess : (s t : Findings) → Site → Process → (before after : Known) → Type 0
WalksProcess s t site p before after =
    Walks s t after (inside (around_of site.around) p before)
    (BreaksIn (around_of site.around) site.position (length before.entries) p before)

abbrev pub WalksConstruct : (s t : Findings) → Site → ℕ → Construct → (before after : Known) → Type 0
WalksConstruct s t site line c before after =
    Walks s t after (after_construct (around_of site.around) line c before)
    (BreaksConstruct (around_of site.around) site.position line c before)

abbrev pub WalksComponents : {part : Part} → (s t : Findings) → Site → Terminal → Components part
    → (before after : Known) → Type 0
WalksComponents s t site word cs before after =
    Walks s t after (after_components (around_of site.around) word cs before)
    (BreakComponents (around_of site.around) site.position word cs before)

abbrev pub WalksComponent : {part : Part} → (s t : Findings) → Site → Terminal → Component part
    → (before after : Known) → Type 0
WalksComponent s t site word c before after =
    Walks s t after (after_component (around_of site.around) word c before)
    (BreaksComponent (around_of site.around) site.position c before)

-- the components of a block that begins with this word
abbrev pub WalksBlock : {part : Part} → (s t : Findings) → Site → Terminal → Components part
    → (before after : Known) → Type 0
WalksBlock s t site word cs before after =
    let a = around_of site.around in
    let inner = position_in word (length before.entries) site.position in
    Walks s t after (ended word (after_components a word cs (begun word before)))
    (BreakComponents a inner word cs (begun word before))

-- the word of the block under whose replicator a body is
abbrev pub word_of : Body → Terminal
word_of (One kind c) = block_word kind

abbrev pub WalksBody : (s t : Findings) → Site → ℕ → Replicator → Body → (before after : Known) → Type 0
WalksBody s t site line r b before after =
    Walks s t after (after_body (around_of site.around) line r b before)
    (BreaksBody (around_of site.around) site.position line r b before)

-- the component under a replicator, in one turn
abbrev pub WalksTurn : (s t : Findings) → Site → Body → (before after : Known) → Type 0
WalksTurn s t site (One kind c) before after = WalksComponent s t site (block_word kind) c before after
