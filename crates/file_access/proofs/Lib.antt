pub mod FirstBytes
pub mod EitherRead
