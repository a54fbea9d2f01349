pub mod Escapes
pub mod Record
pub mod Root
pub mod Row
pub mod Sieve
pub mod Units
pub mod Varint
pub mod Window
