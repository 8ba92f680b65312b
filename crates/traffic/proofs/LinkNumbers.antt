-- A link by its number.
use Rattle.std.proofs.Common.{◌≡◌, refl}
use Rattle.machine_state.specs.declared.link.Link.{Link}
use Rattle.machine_state.specs.declared.link.Link.TheVariants.{Zero, One, Two, Three}
use Rattle.machine_state.specs.Moves.{link_index}
use Rattle.machine_state.specs.Exchanges.{link_of}

pub link_of_index : (link : Link) → link_of (link_index link) ≡ link
link_of_index Zero = refl
link_of_index One = refl
link_of_index Two = refl
link_of_index Three = refl
