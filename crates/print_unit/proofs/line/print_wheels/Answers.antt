use Rattle.std.proofs.Common.{◌≡◌, ◌+◌, ℕ, arith, subst}
use Rattle.print_unit.specs.WheelWords.{HasPrinted}
use Rattle.print_unit.proofs.Printed.{printed-more}
use Rattle.print_unit.proofs.line.print_wheels.Goals as goal

pub loop-k-preserved : goal.loop-k-preserved
loop-k-preserved c =
    let within = c.requires.within in
    let test = c.loop-k-test.true in
    printed-more c.args.sets.now c.loop-k.line c.loop-k.k c.of.result (omega (arith, within, test)) c.of.ensures c.loop-k.invariant

pub returns : goal.returns
returns c = let end : c.loop-k.k ≡ c.args.from + 8 = omega arith in subst (λ (k : ℕ). HasPrinted c.args.sets.now k c.loop-k.line) end c.loop-k.invariant
