pub mod Walking
pub mod Cells
pub mod Marks
