-- What a volume that passes the full check promises.
pub mod Promises
