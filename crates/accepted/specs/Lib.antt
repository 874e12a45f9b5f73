-- What an accepted table gives the monitor: its rows as the sequences see them are what the passes need (WeakCells, `table`), and a property
-- has at most 32 weak sequences (WeakCount). Nothing here has to be believed.
pub mod Rows
pub mod Shapes
pub mod Sequences
pub mod WeakCells
pub mod WeakCount
