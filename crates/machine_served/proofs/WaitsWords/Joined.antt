-- A word with one bit more.
use Rattle.std.proofs.Common.{◌≡◌, ◌∙◌, ap, ℕ, ◌*◌, ◌%◌, ◌^◌, ◌<◌, ◌||◌}
use Rattle.std.specs.Prelude.{◌==◌}
use Rattle.std.specs.Int.Bits.{bit_or}
use Rattle.machine_sets.proofs.BitSets.BitLemmas.{is_bit-or, is_bit-pow}
use Rattle.net.specs.HubSets.{is_bit}
use Rattle.std.proofs.lemmas.Nat.{one_shl}

pub with_bit-tells : (word bit other : ℕ) → bit < 64
    → is_bit (bit_or word (1 * 2 ^ bit % 18446744073709551616)) other ≡ (is_bit word other || (other == bit))
with_bit-tells word bit other low =
    ap (λ (shifted : ℕ). is_bit (bit_or word shifted) other) (one_shl bit 64 low)
    ∙ is_bit-or word (2 ^ bit) other ∙ ap (λ b. is_bit word other || b) (is_bit-pow bit other)
