-- The table of marked cases; the networks as bytes; what opening and the full check say of them; the lemmas.
pub mod Cases
pub mod Bytes
pub mod Opens
pub mod Verdicts
pub mod Rivals
pub mod Computing
