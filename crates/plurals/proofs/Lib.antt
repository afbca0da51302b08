pub mod TokenLemmas
pub mod ReadingLemmas
pub mod SpellingLemmas
pub mod SoundLemmas
pub mod RuleLemmas
