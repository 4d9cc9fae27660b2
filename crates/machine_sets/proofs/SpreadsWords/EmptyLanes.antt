-- Eight lanes of which none has a row.
use Rattle.std.proofs.Common.{◌≡◌, ◌∙◌, ℕ, ◌-◌, ◌%◌, ◌^◌, ◌<◌, true, false, not, List, length, get_or, map, replicate, sym, ap, arith, cond, eqb, nat_eq}
use Rattle.std.proofs.lemmas.Bool.Decides.{nat_tests}
use Rattle.std.proofs.lemmas.List.{take_all}
use Rattle.std.proofs.lemmas.Simd.{bitmask_splat, none_from_empty_mask}
use lib.Lanes.{mask_l, top, zip2}
use mir.Syntax.{w16}
use Rattle.machine_sets.proofs.BitSets.BitLemmas.{is_bit-zero}
use Rattle.machine_sets.specs.BitSets.Bits.{is_bit}

-- where the mask of those that have rows is empty no lane has one
pub lanes-empty : (rows : List ℕ) (k row : ℕ) → length rows ≡ 8
    → nat_eq (mask_l (map (top 15) (zip2 (λ a b. cond (not (eqb a b)) (2 ^ 16 - 1) 0) rows (replicate 8 0))) % 2 ^ 64) 0 ≡ true → k < 8
    → is_bit (get_or rows k 0) row ≡ false
lanes-empty rows k row eight none low = ap (λ (set : ℕ). is_bit set row) empty ∙ is_bit-zero row
  where
    nothing : (set : ℕ) → not (eqb set 0) ≡ false → set ≡ 0
    nothing set e = grind (arith, nat_tests, e)

    zero-is : (n : ℕ) → nat_eq n 0 ≡ true → n ≡ 0
    zero-is n e = grind (arith, nat_tests, e)

    empty : get_or rows k 0 ≡ 0
    empty =
        nothing (get_or rows k 0)
        (none_from_empty_mask (λ set. not (eqb set 0)) rows 0 8 0 (omega (arith, eight))
        (ap (λ (sets : List ℕ). mask_l (map (λ set. not (eqb set 0)) sets)) (take_all 8 rows (omega (arith, eight)))
        ∙ sym (bitmask_splat w16 (λ a b. not (eqb a b)) rows 8 0 eight (omega arith)) ∙ zero-is _ none) k (omega arith) low)
