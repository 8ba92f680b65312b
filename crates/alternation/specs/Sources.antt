-- What can be enabled, as the definitions have it.
use Rattle.machine_state.specs.Moves.{link_index}
use Rattle.machine_state.specs.Alternations.{Source as Definition, of_link, of_channel}
use Rattle.alternation.specs.declared.source.Source.{Source}
use Rattle.alternation.specs.declared.source.Source.TheVariants.{Link, Channel}

abbrev pub definition_of : Source → Definition
definition_of (Link link input) = of_link (link_index link) input
definition_of (Channel address channel) = of_channel address channel
