pub mod HandsOut
