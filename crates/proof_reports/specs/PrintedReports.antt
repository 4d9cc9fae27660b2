pub mod Steps
pub mod Laws
pub mod Begun
pub mod Goes
pub mod Content
pub mod Going
