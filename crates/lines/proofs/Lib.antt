-- The laws that the proofs of the functions cite.
pub mod Digits
pub mod Numbers
pub mod Fill
