-- What a run ends with; the work area; then, from a unit down, what each step of the code does to it.
pub mod Outcome
pub mod Work
pub mod Units
pub mod Walk
pub mod Arcs
pub mod Edges
pub mod Marked
pub mod Seen
pub mod Scan
pub mod Offered
pub mod Chain
