-- How all properties of a table stand together, and that this is one (Standing): what has to be believed. Beside it why adding one answer after the other comes to
-- that (Adding).
pub mod Standing
pub mod Adding
