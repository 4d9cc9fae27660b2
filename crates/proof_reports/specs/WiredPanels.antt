pub mod Panel
pub mod Sources
pub mod Groups
pub mod PanelCycles
pub mod CycleRows
pub mod PanelLaws
pub mod CarryLaws
pub mod CycleAsks
