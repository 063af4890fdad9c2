pub mod Counts
pub mod Headings
pub mod Summing
pub mod Totals
