pub mod ChartAmounts
pub mod CounterStates
pub mod PrintedRows
pub mod WheelLaws
pub mod CycleLaws
pub mod LinePlaces
