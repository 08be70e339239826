pub mod Format
pub mod Index
