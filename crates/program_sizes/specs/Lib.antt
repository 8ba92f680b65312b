pub mod LineSizes
