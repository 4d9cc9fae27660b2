pub mod WiringReader
