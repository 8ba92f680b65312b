pub mod CompiledRuns
