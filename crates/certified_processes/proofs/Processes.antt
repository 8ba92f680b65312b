-- The code of each process passes.
use Rattle.occam_parser.specs.Blocks.{Process}
use Rattle.meant_processes.proofs.EachProcess.{each_process}
use Rattle.certified_processes.specs.Places.{Coded, IsInRoot}
use Rattle.certified_processes.specs.ProcessesPass.{ProcessesPass}
use Rattle.certified_processes.proofs.Blocks.{block_passes}
use Rattle.certified_processes.proofs.Repeated.{repeated_passes}
use Rattle.certified_processes.proofs.Sequences.{ConstructGoes, ProcessGoes, act_passes, declared_passes}
use Rattle.certified_processes.proofs.Sequences.{does_passes}
use Rattle.certified_processes.proofs.There.{there}

module _ (p : Coded) (root : IsInRoot p) where
  process_goes : (process : Process) → ProcessGoes p process
  process_goes =
      each_process (ProcessGoes p) (ConstructGoes p) (declared_passes p root) (does_passes p root) (act_passes p root)
      (block_passes p root) (repeated_passes p root)

pub processes_pass : ProcessesPass
processes_pass p process root sequential words first s opened before c reached placed is fit holds =
    (process_goes p root process).passes first s opened before c reached sequential words (there p s root placed) is fit
    holds
