pub mod AllOver
