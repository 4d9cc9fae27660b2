pub mod Dispatch
pub mod LastUnits
pub mod Sensing
pub mod GroupContacts
pub mod FullOrders
pub mod Taken
pub mod Serving
pub mod Running
