pub mod Grounds
pub mod Told
pub mod Down
pub mod Strips
pub mod Counting
pub mod Sweeping
pub mod Visiting
