pub mod ChainSize
