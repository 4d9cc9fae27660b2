pub mod HelperAdds
pub mod HelperRows
pub mod HelperRanges
pub mod HelperItems
