-- The code of each process behaves as its tree.
use Rattle.std.proofs.Common.{ℕ}
use Rattle.occam_parser.specs.Blocks.{Construct, Does}
use Rattle.occam_parser.specs.Blocks.{Process}
use Rattle.usage_checks.specs.ItemRules.{BreaksNoRule}
use Rattle.meant_processes.specs.Places.{Program}
use Rattle.meant_processes.specs.Premises.{LinesBehave}
use Rattle.meant_processes.specs.ProcessesBehave.{ProcessesBehave}
use Rattle.meant_processes.proofs.Behaving.{pieces_as}
use Rattle.meant_processes.proofs.EachProcess.{each_process}
use Rattle.meant_processes.proofs.Conditions.{conditions_push}
use Rattle.meant_processes.proofs.Blocks.{block_behaves}
use Rattle.meant_processes.proofs.Declarations.{declaration_opens}
use Rattle.meant_processes.proofs.Lines.{reached_lines_behave}
use Rattle.meant_processes.proofs.RepeatedBlocks.{repeated_behaves}
use Rattle.meant_processes.proofs.Sequences.{ConstructBehaves, ProcessBehaves, act_behaves}
use Rattle.meant_processes.proofs.Sequences.{declared_behaves}

module _ (p : Program) (none : BreaksNoRule p.items) (lines : LinesBehave p) where
  process_does : (process : Process) → ProcessBehaves p process
  process_does =
      each_process (ProcessBehaves p) (ConstructBehaves p)
      (λ d q. declared_behaves p none d q (declaration_opens p none d)) does (λ action. act_behaves p none action lines)
      (block_behaves p none (conditions_push p none)) (repeated_behaves p none (conditions_push p none))
    where
      does : (line : ℕ) (c : Construct) → ConstructBehaves p c → ProcessBehaves p (Does line c)
      does line c construct = record {
        behaves = λ first s turns env code reached sequential words there is fit.
            construct.behaves first line s turns env code reached sequential words there is fit;
      }

pub processes_behave : ProcessesBehave
processes_behave p process none sequential words root first s turns env c reached there is fit =
    pieces_as p.code (λ m carries. carries) (λ e m left. left.0)
    ((process_does p none (reached_lines_behave p none root) process).behaves first s turns env c
    reached sequential words there is fit)
