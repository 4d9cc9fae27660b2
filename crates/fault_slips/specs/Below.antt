pub use Rattle.card_code.specs as card_code
