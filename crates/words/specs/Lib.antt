-- What a word means, and what programs ask besides.
pub mod Declarations
pub mod Words
pub mod Items
pub mod Programs
pub mod Flags
pub mod Lists
