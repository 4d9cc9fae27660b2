-- The first LF, with sixteen bytes looked at at a time.
use Rattle.std.proofs.Common.{◌≡◌, ◌≢◌, ◌∙◌, ℕ, ◌+◌, ◌%◌, ◌^◌, ◌<◌, ◌≤◌, ◌==◌, arith, ap, not, Bool, false, true, List, length, map, replicate, slice_index, cond, eqb, if◌then◌else◌}
use Rattle.std.proofs.lemmas.Bool.Decides.{nat_tests}
use Rattle.std.proofs.lemmas.Simd.{bitmask_splat, first_set_mask_l, length-chunk, run_in_chunk_fails, run_in_chunk_le, run_in_chunk_stops}
use Rattle.std.specs.Int.{trailing_zeros, w64}
use Rattle.std.specs.List.{prefix_len}
use lib.Lanes.{chunk, mask_l, top, zip2}
use mir.Syntax.{w8}

-- how many of sixteen bytes come before the first LF
pub record IsRun (front : List ℕ) (from run : ℕ) : Type 0 where
  pub few : run ≤ 16
  pub before : (place : ℕ) → from ≤ place → place < from + run → slice_index front place ≢ 10
  pub found : run < 16 → slice_index front (from + run) ≡ 10

-- they are as many as the lowest bit of the mask of the LFs
pub run-masked : (front : List ℕ) (from run mask : ℕ) → from + 16 ≤ length front
    → mask ≡ mask_l (map (top 7) (zip2 (λ a b. cond (eqb a b) 255 0) (chunk from 16 front) (replicate 16 10))) % 2 ^ 64
    → run ≡ (if mask == 0 then 16 else trailing_zeros w64 mask) → IsRun front from run
run-masked front from run mask within masked lowest = record {
  few = run_in_chunk_le is_feed front from 16 run 0 within counted;
  before = λ place low high. differs (slice_index front place) (run_in_chunk_fails is_feed front from 16 run 0 within counted place low high);
  found = λ short. same (slice_index front (from + run)) (run_in_chunk_stops is_feed front from 16 run 0 within counted short);
}
  where
    is_feed : ℕ → Bool
    is_feed byte = eqb byte 10

    long : length (chunk from 16 front) ≡ 16
    long = length-chunk from 16 front within

    feeds : mask ≡ mask_l (map is_feed (chunk from 16 front))
    feeds = masked ∙ bitmask_splat w8 eqb (chunk from 16 front) 16 10 long (omega arith)

    counted : run ≡ prefix_len (λ byte. not (is_feed byte)) (chunk from 16 front)
    counted =
        lowest ∙ ap (λ (m : ℕ). if m == 0 then 16 else trailing_zeros w64 m) feeds
        ∙ first_set_mask_l is_feed (chunk from 16 front) 16 long (omega arith)

    differs : (byte : ℕ) → eqb byte 10 ≡ false → byte ≢ 10
    differs byte e = grind (arith, nat_tests, e)

    same : (byte : ℕ) → eqb byte 10 ≡ true → byte ≡ 10
    same byte e = grind (arith, nat_tests, e)
