-- The code of declarations that are reached leads to memory that carries what they declare.
use Rattle.occam_parser.specs.Lines.{Declaration}
use Rattle.occam_parser.specs.Blocks.{Declared}
use Rattle.usage_checks.specs.ItemRules.{BreaksNoRule}
use Rattle.usage_checks.specs.Reaching.{AProcess}
use Rattle.usage_checks.proofs.PlacesHold.{places_hold}
use Rattle.usage_checks.proofs.ProcessesGoWell.{known_declaration}
use Rattle.meant_lines.proofs.Opening.{declarations_are_carried}
use Rattle.meant_processes.specs.Places.{Program, ground, standing}
use Rattle.meant_processes.specs.Premises.{DeclarationOpens}

pub declaration_opens : (p : Program) → BreaksNoRule p.items → (d : Declaration) → DeclarationOpens p d
declaration_opens p none d first process s turns env inner h reached there words declares fit begins =
    let es = s.known.entries in
    let g = ground p s.frame.homes turns in
    let right = places_hold p.items (standing p) (AProcess first (Declared d process)) s.known none reached in
    let o = declarations_are_carried g s.frame es env inner d h there.holds (known_declaration es d right.holds) words
    declares there.long fit begins.carries in
    record { after = o.after; leads = o.leads; carries = record { carries = o.carries } }
