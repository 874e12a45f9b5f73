-- What has to be believed of the exports: the number that stands for each answer (Answers). Then that it can be taken apart, and what it promises (Numbers).
pub mod Answers
pub mod Numbers
