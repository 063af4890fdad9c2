pub mod Census
pub mod Summaries
