pub mod Arrays
pub mod Views
pub mod Changes
