pub mod EnoughRead
pub mod Acts
pub mod Answered
pub mod Judged
pub mod Beginnings
pub mod UnreadFiles
pub mod ProgramsRun
