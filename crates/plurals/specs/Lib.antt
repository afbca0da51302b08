-- Rules that choose a form by numbers: their grammar, their value, and how they are read.
pub mod Readings
pub mod Tokens
pub mod Trees
pub mod Values
