pub mod PanelLaws
pub mod HoleLaws
pub mod LedgerAmounts
pub mod ServedReports
