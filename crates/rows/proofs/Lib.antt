pub mod RowColumns
pub mod Parts
