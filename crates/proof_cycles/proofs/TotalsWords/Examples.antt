-- The examples come out by computing.
use Rattle.std.proofs.Common.{refl, arith}
use Rattle.proof_cycles.specs.TotalsWords.Examples.{InThreeWheels}

pub in_three_wheels : InThreeWheels
in_three_wheels = record {
  lawful = record { room = λ level some here. omega arith; growing = λ low high some less here there. omega arith };
  above = refl;
  above_ready = refl;
  above_gone_up = refl;
  below = refl;
  below_ready = refl;
  below_gone_up = refl;
  below_cleared = refl;
  nines = refl;
  nines_ready = refl;
}
