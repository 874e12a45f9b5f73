-- Two passes over the rows move every attempt of every sequence at once; these files prove that they do what the automaton of marks does.
-- A lane is one attempt's view, a Bool at a time: lanes 0 to 5 are a weak sequence's cells from its left, lane 6 the attempt that starts now, lane 7 all attempts of a left side or of a `never` merged.
-- One lane (OneLane): a part that is told whether the lane enters it on this letter (into) and on the next (go) expects next the step of its marks with what enters now, joined with its first cells if it is entered next.
-- Sets (CellSets, SetSteps, ShiftedLanes, Families): a step is linear, so the relation of single cells moves every pending set of a weak sequence, as the model's `sets_after` does.
-- Rows (Rows, Expected): `Sits` says that an operand of a row reads as a sequence with given marks, a cell being a row and a field; every proof below goes by it. `marks_of` computes the marks from one bit for each row and field.
-- Up (UpPass): if each row's part is put together from its operands' parts (`RowPart`), each part tells whether it can be empty, can end at once, how many cells it has, and which lanes end it (`part_ok`).
-- Down (Uses, DownPass): a use is `Fine` if, lane by lane, what it makes the part expect next is what the model says; what a row hands to its operands is Fine again.
-- The loop (DownLoop), from large numbers to small: `Sofar n` holds when the rows from n on are done. Each of their operands has got what it was handed, and that is Fine; every bit that is set is right; below n nothing is set.
-- Bits are only ever added: "what is there is right" and "what is needed is there" are all that is kept, so no two cells need be shown apart. A visited row keeps it (`row_done`); `Hands` says what storing one use has to do, `visits_two` and the like make a visit of it.
-- Results: the pass begins and goes on (`pass_begins`, `pass_goes_on`); when all rows are done, lane 7 holds a left side's match and its marks after the letter, a bit is left just if a left side still waits, and a weak sequence's lanes move its family (`sets_same`). Nothing here has to be believed.
pub mod Bits
pub mod OneLane
pub mod CellSets
pub mod SetSteps
pub mod ShiftedLanes
pub mod Families
pub mod Rows
pub mod Expected
pub mod UpPass
pub mod Uses
pub mod DownPass
pub mod DownLoop
pub mod Hands
pub mod Results
pub mod Ideal
pub mod Whole
pub mod State
pub mod StateStep
pub mod StateVerdict
pub mod Cycle
