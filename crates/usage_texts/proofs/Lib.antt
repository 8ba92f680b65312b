pub mod PhrasesFlat
