pub mod SpellingLemmas
pub mod LawLemmas
