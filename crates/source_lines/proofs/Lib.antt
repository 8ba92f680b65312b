pub mod LinesAround
