-- What the program's contracts cite.
pub mod Binding
pub mod Run
pub mod Command
