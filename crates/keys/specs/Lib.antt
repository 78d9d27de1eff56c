pub mod Octets
pub mod Hashing
pub mod Encodings
pub mod Reading
pub mod Little
