pub mod SourceLines
