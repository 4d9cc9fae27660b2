pub mod ActLemmas
pub mod AskLemmas
pub mod DigitLemmas
pub mod EntryLemmas
pub mod PairLemmas
pub mod ShownLemmas
pub mod TopLemmas
