pub mod KeyReturns
pub mod MisfitTotals
