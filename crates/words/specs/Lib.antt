-- What the functions of this crate answer (Sets); laws of each operation (Bits), of fields such as bytes (Fields), of the lowest and the highest bit
-- (Ends); that each answer is one (Unique); and laws of a walk through a set (Walk).
pub mod Sets
pub mod Bits
pub mod Fields
pub mod Ends
pub mod Unique
pub mod Walk
