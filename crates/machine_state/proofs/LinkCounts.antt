-- There are four links each way in every world that a list of events leads to.
use Rattle.std.proofs.Common.{ℕ, List, Option, None, refl, ◌∙◌}
use Rattle.std.proofs.lemmas.List.{length-set}
use Rattle.machine_state.specs.declared.process.Task.{Task}
use Rattle.machine_state.specs.declared.process.Channel.{Channel}
use Rattle.machine_state.specs.declared.link.InputLink.{InputLink}
use Rattle.machine_state.specs.declared.link.OutputLink.{OutputLink}
use Rattle.module_format.specs.Contents.{Contents}
use Rattle.machine_state.specs.World.{World, Role, Links}
use Rattle.machine_state.specs.Turn.{Here}
use Rattle.machine_state.specs.LinkLaws.{FourEachWay, LinksStayFourEachWay}
use Rattle.machine_state.proofs.Changes as change
use Rattle.machine_state.proofs.Changes.{Changed, Passed, with_link, with_sender, of_every_world}

input_set : (w : World) (k : ℕ) (link : InputLink) → FourEachWay w.links → FourEachWay (with_link w k link)
input_set w k link four = record {
  outputs = four.outputs;
  inputs = length-set w.links.inputs k link ∙ four.inputs;
}

output_set : (w : World) (k : ℕ) (o : Option ℕ) → FourEachWay w.links → FourEachWay (with_sender w k o)
output_set w k o four =
    let link : OutputLink = record { waiting = o } in
    record { outputs = length-set w.links.outputs k link ∙ four.outputs; inputs = four.inputs }

changed : (h : Here) (w : World) (ts : List Task) (rs : List Role) (cs : List (Option Channel)) (ls : Links)
    → FourEachWay w.links → Changed h w ts rs cs ls → FourEachWay ls
changed h w ts rs cs ls four (change.goes_on r mode c further) = four
changed h w ts rs cs ls four (change.waits_to_receive r e c plain held cell empty) = four
changed h w ts rs cs ls four (change.waits_to_send r e c tasks plain held cell empty roused) = four
changed h w ts rs cs ls four (change.meets_sender r e sent c other plain held cell waits x) = four
changed h w ts rs cs ls four (change.meets_receiver r e wanted c other plain held cell waits x) = four
changed h w ts rs cs ls four (change.receives_outside r e k link new c plain held word here x) =
    input_set w k new four
changed h w ts rs cs ls four (change.sends_outside r e k plain held word low) = output_set w k _ four
changed h w ts rs cs ls four (change.starts r role j own child cells outside here plain ready opening) = four
changed h w ts rs cs ls four (change.leaves_join r o roles x more) = four
changed h w ts rs cs ls four (change.closes_join r o roles x last par t there over) = four
changed h w ts rs cs ls four (change.enables_a_channel r address c mode held cell free) = four
changed h w ts rs cs ls four (change.enables_a_link r k link mode held here free) = input_set w k _ four
changed h w ts rs cs ls four (change.disables_a_channel r mode address c before after cell own) = four
changed h w ts rs cs ls four (change.disables_a_link r mode k link before after here own) = input_set w k _ four

passed : (m : Contents) (w : World) (ts : List Task) (rs : List Role) (cs : List (Option Channel)) (ls : Links)
    → FourEachWay w.links → Passed m w ts rs cs ls → FourEachWay ls
passed m w ts rs cs ls four change.nothing_happens = four
passed m w ts rs cs ls four (change.it_runs p pick task runs here x) = changed _ w ts rs cs ls four x
passed m w ts rs cs ls four (change.fills_last p k link here waiting x) = input_set w k _ four
passed m w ts rs cs ls four (change.fills_more p k x) = four
passed m w ts rs cs ls four (change.keeps_byte k byte link tasks here empty roused) = input_set w k _ four
passed m w ts rs cs ls four (change.acknowledges p k link here waiting x) = output_set w k None four

pub links_stay_four : LinksStayFourEachWay
links_stay_four m es = of_every_world m (λ ts rs cs ls. FourEachWay ls) (record { outputs = refl; inputs = refl })
    (λ es ts rs cs ls four x. passed m _ ts rs cs ls four x) es
