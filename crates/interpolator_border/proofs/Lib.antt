-- The lemmas of texts, levels of lists and answers.
mod AnswerLemmas
mod CheckLemmas
mod EscapedLemmas
mod HandSteps
mod LevelLemmas
mod MeasureLemmas
mod TableLemmas
mod TextLemmas
