-- A road's duration in the document's words.
pub mod Wording
pub mod Ways
