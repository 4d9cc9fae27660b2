use Rattle.std.proofs.Common.{◌≡◌, ◌+◌, ℕ, arith, subst}
use Rattle.print_unit.specs.WheelWords.{HasPrinted}
use Rattle.print_unit.proofs.Printed.{blank-printed, printed-more}
use Rattle.print_unit.proofs.line.put_blanks.Goals as goal

pub loop-k-preserved : goal.loop-k-preserved
loop-k-preserved c =
    let within = c.requires.within in
    let test = c.loop-k-test.true in
    let low = c.loop-k.auto.k in
    printed-more c.args.sets.now c.loop-k.line c.loop-k.k 32 (omega (arith, within, test))
    (blank-printed c.args.sets.now c.loop-k.k (c.requires.empty c.loop-k.k low test)) c.loop-k.invariant

pub returns : goal.returns
returns c = let end : c.loop-k.k ≡ c.args.from + 8 = omega arith in subst (λ (k : ℕ). HasPrinted c.args.sets.now k c.loop-k.line) end c.loop-k.invariant
