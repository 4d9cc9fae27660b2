pub use Rattle.hubs.specs as hubs
pub use Rattle.net.specs as net
