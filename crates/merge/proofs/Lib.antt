mod LetterLemmas
mod NameLemmas
mod TableLemmas
mod ValueLemmas
