-- What the check's answer says, and its promises.
pub mod FaultFound
pub mod FaultMeans
pub mod Promises
pub mod RowRange
