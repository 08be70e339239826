-- The promises; what the answer is; the trail and the path; then the lemmas: what an answer tells, that the clock never runs out, what each
-- step of the code learns.
pub mod Promises
pub mod Answer
pub mod Trail
pub mod Path
pub mod Tells
pub mod Clock
pub mod Steps
