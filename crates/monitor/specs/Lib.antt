-- What opening and a step promise (Opens, Follows), and the three demands of what they answer (Demands), which is to be read first. Beside them how a verdict is shown
-- (Shown), why the demands hold (Fed, Opening), and that each answer is one (Unique).
pub mod Opens
pub mod Follows
pub mod Shown
pub mod Demands
pub mod Fed
pub mod Opening
pub mod Unique
