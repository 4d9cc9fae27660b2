pub use Rattle.card_code.proofs as card_code
