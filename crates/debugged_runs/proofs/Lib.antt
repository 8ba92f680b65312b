pub mod Running
pub mod WellRuns
pub mod SameRuns
