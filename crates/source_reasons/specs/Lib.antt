pub mod SourceReasons
