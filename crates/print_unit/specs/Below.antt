pub use Rattle.card_code.specs as card_code
pub use Rattle.hubs.specs as hubs
