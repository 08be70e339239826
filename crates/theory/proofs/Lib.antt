-- What follows from the definitions of specs/, and the promises of the settling rule (Promises).
pub mod Answers
pub mod Budget
pub mod Fifo
pub mod Invariant
pub mod Labels
pub mod Looks
pub mod OneUnit
pub mod Pieces
pub mod Promises
pub mod States
pub mod Unfold
pub mod Units
pub mod UpDown
pub mod Walks
pub mod Witness
