-- A `&` to the module that runs holds nothing.
use denote.SharingLaws.{nothing_shr_laws}
use denote.Struct.Lending.{of_Lends, Lends-nothing}
use Rattle.plain_machine.specs.contracts.known_module.KnownModule as C
use Rattle.plain_machine.proofs.known_module.KnownModule.TheLaw.Statement.{statement}

pub shares : statement
shares =
    of_Lends C.struct C.the_codes C.the_heap C.the_lent (λ d p. nothing_shr_laws)
    tt (λ M 𝓤 𝓛 d p. Lends-nothing 𝓛 (C.the_heap d) C.the_row.lives)
