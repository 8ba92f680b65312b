pub mod DebuggedRuns
