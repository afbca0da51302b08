pub mod DecimalLemmas
pub mod ReadingLemmas
pub mod ServingLemmas
pub mod TakenLemmas
pub mod ValueLemmas
pub mod WithinLemmas
