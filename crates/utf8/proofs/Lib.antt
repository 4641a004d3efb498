-- The laws that the proofs of the functions cite, and the theorems on the grammar.
pub mod Finite
pub mod Same
pub mod States
pub mod Classes
pub mod Moves
pub mod Fold
pub mod Ladder
pub mod Before
pub mod Pick
pub mod Text
pub mod Examples
