-- What is proved of the definitions: plain cases and laws, what `|=>` means, and the starred runs. Below them is proof that has not to be believed: the definitions in index
-- form (Attempts), the automaton of marks (Marks), a decision procedure (Decide), and the monitor as mathematics (Model).
pub mod Cases
pub mod Laws
pub mod SuffixNext
pub mod StarredRuns
pub mod Attempts
pub mod Marks
pub mod Decide
pub mod Model
