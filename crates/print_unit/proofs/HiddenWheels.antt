-- Wheels that no jack hides.
use Rattle.std.proofs.Common.{◌≡◌, ◌∙◌, refl, sym, ap, ℕ, ◌&&◌, ◌||◌, not, Bool, true, false, List, bit_or, arith}
use Rattle.std.proofs.lemmas.Bool.Decides.{nat_tests}
use Rattle.net.specs.HubSets.{is_bit}
use Rattle.print_unit.specs.WheelWords.{given_by, hides}
use Rattle.print_unit.specs.ZeroControl.{is_zero}
use Rattle.print_unit.proofs.Bits.{is_bit-or, is_bit-zero}

-- where no wheel has a jack for it none is hidden
pub hides-none : (received : ℕ → List Bool) (control : Bool) (link suppress symbol k : ℕ) → bit_or suppress symbol ≡ 0
    → is_bit 0 k ≡ (control && hides received link suppress symbol k)
hides-none received control link suppress symbol k none =
    is_bit-zero k ∙ by control (is_bit link k && given_by received link k) (is_bit symbol k) (is_bit suppress k) (is_zero (received k)) off.1 off.0
  where
    parts : (a b : Bool) → (a || b) ≡ false → (a ≡ false) × (b ≡ false)
    parts false b e = (refl, e)
    parts true b e = absurd (differ e) where
      differ : true ≡ false → ⊥
      differ f = cc

    off : (is_bit suppress k ≡ false) × (is_bit symbol k ≡ false)
    off = parts (is_bit suppress k) (is_bit symbol k) (sym (is_bit-or suppress symbol k) ∙ ap (λ (w : ℕ). is_bit w k) none ∙ is_bit-zero k)

    by : (c g s p z : Bool) → s ≡ false → p ≡ false → false ≡ (c && (not g && (s || p && z)))
    by c g s p z e f = grind (arith, nat_tests, e, f)
