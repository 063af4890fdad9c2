pub mod Words
pub mod Keys
pub mod Forms
pub mod Laws
