-- What has to be believed, in document 01's order: trace bytes, the refusals 15 and 13, what the check's answer means, judging, the reader; then the demands of judging
-- (Demands), which are to be read first. Beside them why they hold (Samples, Readings, Feeding), and that each answer is one (Unique).
pub mod Trace
pub mod Refusals
pub mod Meaning
pub mod Judging
pub mod Reader
pub mod Demands
pub mod Samples
pub mod Readings
pub mod Feeding
pub mod Unique
