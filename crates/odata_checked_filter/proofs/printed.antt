pub mod Results
pub mod Shapes
