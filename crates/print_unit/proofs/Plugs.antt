-- The wheels at the start: their jacks as words, and nothing received.
use Rattle.std.proofs.Common.{◌≡◌, ◌≢◌, ◌∙◌, refl, ℕ, ◌+◌, ◌<◌, ◌≤◌, ◌==◌, ◌&&◌, ◌||◌, ◌⊎◌, inl, inr, nat_lt, Bool, true, false, map, replicate, arith}
use Rattle.std.proofs.lemmas.Bool.Decides.{eqb_tells, nat_tests}
use Rattle.std.specs.List.{range_with_len}
use Rattle.hubs.specs.SetupsWords.Wiring.{Wiring}
use Rattle.net.specs.HubSets.{is_bit}
use Rattle.print_unit.specs.Wheels.{wheel_at_start}
use Rattle.print_unit.specs.WheelWords.{ArePlugged, wheel_at}
use Rattle.print_unit.specs.declared.wheel_words.WheelJack.TheVariants as kind
use Rattle.print_unit.specs.declared.wheels.Wheels.TheInside as inside
use Rattle.print_unit.proofs.Bits.{is_bit-zero}
use Rattle.print_unit.proofs.WheelRows.{map-next, received-none}

-- no wheel yet
pub plugged-none : (is_there : ℕ → Bool) (j : ℕ) → is_bit 0 j ≡ (nat_lt j 0 && is_there j)
plugged-none is_there j = rw (is_bit-zero j) (grind (arith, nat_tests))

-- one wheel more
pub plugged-more : (is_there : ℕ → Bool) (old new k : ℕ)
    → ((j : ℕ) → is_bit new j ≡ (is_bit old j || (is_there k && (j == k))))
    → ((j : ℕ) → j < 120 → is_bit old j ≡ (nat_lt j k && is_there j))
    → (j : ℕ) → j < 120 → is_bit new j ≡ (nat_lt j (k + 1) && is_there j)
plugged-more is_there old new k gained before j below = gained j ∙ rw (before j below) (by (eqb_tells j k))
  where
    by : ((j == k) ≡ true) × (j ≡ k) ⊎ ((j == k) ≡ false) × (j ≢ k)
        → ((nat_lt j k && is_there j) || (is_there k && (j == k))) ≡ (nat_lt j (k + 1) && is_there j)
    by (inl same) = rw (same.0, same.1) (grind (arith, nat_tests))
    by (inr other) = let apart = other.1 in rw (other.0) (grind (arith, nat_tests, apart))

-- a wheel of words as a setup has plugged them, before anything is received
wheel_at-start : (wiring : Wiring) (words : inside.Inside) (k : ℕ) → k < 120
    → words.sets ≡ replicate 128 0
    → ArePlugged wiring kind.Link words.link → ArePlugged wiring kind.Suppress words.suppress
    → ArePlugged wiring kind.Symbol words.symbol
    → wheel_at words k ≡ wheel_at_start wiring (k + 1)
wheel_at-start wiring words k below empty link suppress symbol =
    rw (empty, received-none k (omega (arith, below)), link k below, suppress k below, symbol k below) refl

-- the wheels at the start
pub wheels_at-start : (wiring : Wiring) (words : inside.Inside) (count : ℕ) → count ≤ 120
    → words.sets ≡ replicate 128 0
    → ArePlugged wiring kind.Link words.link → ArePlugged wiring kind.Suppress words.suppress
    → ArePlugged wiring kind.Symbol words.symbol
    → map (wheel_at words) (range_with_len 0 count) ≡ map (wheel_at_start wiring) (range_with_len 1 count)
wheels_at-start wiring words count most empty link suppress symbol =
    map-next (wheel_at words) (wheel_at_start wiring) 0 count (λ k low high. wheel_at-start wiring words k (omega arith) empty link suppress symbol)
