-- The walk has lists of what is changed in the part of a process to which it comes, if memory was enough.
use Rattle.std.specs.Prelude.{◌≡◌, ℕ, true}
use Rattle.occam_parser.specs.Blocks.{Process, Does, Construct, Body, One, Part, Components, Component}
use Rattle.occam_parser.specs.Lines.{Replicator}
use Rattle.scalar_ranges.specs.Moves.{Known}
use Rattle.program_uses.specs.ActionViews.{around_of}
use Rattle.program_uses.specs.Changes.{changed_by_body}
use Rattle.program_uses.specs.Listing.{IsListed, AreListed, ListsComponents, ListsComponent}
use Rattle.usage_checks.specs.declared.blocks.Site.{Site}
use Rattle.usage_checks.specs.declared.telling.Findings.{Findings}

abbrev pub HasProcess : Findings → Site → Process → Known → Type 0
HasProcess s site p k =
    s.complete ≡ true → AreListed site.lists.now (around_of site.around).signatures k.entries p

abbrev pub HasConstruct : Findings → Site → ℕ → Construct → Known → Type 0
HasConstruct s site line c k = HasProcess s site (Does line c) k

abbrev pub HasComponents : {part : Part} → Findings → Site → Components part → Known → Type 0
HasComponents s site cs k =
    s.complete ≡ true → ListsComponents site.lists.now (around_of site.around).signatures k.entries cs

abbrev pub HasComponent : {part : Part} → Findings → Site → Component part → Known → Type 0
HasComponent s site c k =
    s.complete ≡ true → ListsComponent site.lists.now (around_of site.around).signatures k.entries c

-- a list of what the body of a replicator on this line changes
abbrev pub HasBody : Findings → Site → ℕ → Replicator → Body → Known → Type 0
HasBody s site line r b k =
    s.complete ≡ true → IsListed site.lists.now line (changed_by_body (around_of site.around).signatures k.entries r b)

-- the component under a replicator, in one turn
abbrev pub HasTurn : Findings → Site → Body → Known → Type 0
HasTurn s site (One kind c) k = HasComponent s site c k
