-- What the program's contracts cite.
pub mod Values
pub mod Serving
pub mod Reading
pub mod Words
pub mod Answering
