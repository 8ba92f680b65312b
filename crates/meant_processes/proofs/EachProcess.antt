-- What holds of processes and constructs where it holds of those in them holds of each: one induction over processes.
use Rattle.std.proofs.Common.{ℕ}
use Rattle.occam_parser.specs.Blocks.{Act, Block, Chosen, Component, Components, Construct, Declared, Does, Further}
use Rattle.occam_parser.specs.Blocks.{Guarded, NoComponent, One, Part, Plain, Process, Replicated, part_of}
use Rattle.occam_parser.specs.Lines.{Action, Declaration, Replicator}
use Rattle.usage_checks.specs.Reaching.{process_of}

-- it holds of the process of each component
abbrev pub OfEach : {part : Part} → (Process → Type 0) → Components part → Type 0
OfEach holds NoComponent = Unit {0}
OfEach holds (Further cs c) = OfEach holds cs × holds (process_of c)

module _ (holds : Process → Type 0) (meets : Construct → Type 0)
    (declared : (d : Declaration) (q : Process) → holds q → holds (Declared d q))
    (does : (line : ℕ) (c : Construct) → meets c → holds (Does line c)) (acts : (action : Action) → meets (Act action))
    (blocks : (kind : _) (cs : Components (part_of kind)) → OfEach holds cs → meets (Block kind cs))
    (repeats : (r : Replicator) (kind : _) (c : Component (part_of kind)) → holds (process_of c)
    → meets (Replicated r (One kind c))) where
  mutual
    pub each_process : (process : Process) → holds process
    each_process (Declared d q) = declared d q (each_process q)
    each_process (Does line c) = does line c (each_construct c)

    each_construct : (c : Construct) → meets c
    each_construct (Act action) = acts action
    each_construct (Block kind cs) = blocks kind cs (each_of cs)
    each_construct (Replicated r (One kind c)) = repeats r kind c (each_component c)

    each_of : {part : Part} (cs : Components part) → OfEach holds cs
    each_of NoComponent = tt
    each_of (Further cs c) = (each_of cs, each_component c)

    each_component : {part : Part} (c : Component part) → holds (process_of c)
    each_component (Plain q) = each_process q
    each_component (Chosen line e q) = each_process q
    each_component (Guarded line g q) = each_process q
