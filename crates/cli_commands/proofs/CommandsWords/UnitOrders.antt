pub mod OrdersText
