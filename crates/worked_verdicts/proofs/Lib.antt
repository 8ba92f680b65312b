pub mod EchoIsJudged
pub mod ParsAreJudged
