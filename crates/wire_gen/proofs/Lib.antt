mod AmountBack
mod CounterWires
mod Fields
mod FigureLines
mod JoinAmount
mod JoinDetail
mod JoinLines
mod JoinTotal
mod OneLine
mod KeptFields
mod KeptLines
mod KeptTotals
pub mod Whole
mod WholeLines
