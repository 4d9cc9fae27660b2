use Rattle.std.proofs.Common.{arith}
use Rattle.net.proofs.Below.machine_sets.BitSets.BitLemmas.{taken_lower}
use Rattle.print_unit.proofs.Hiding.{hides-all, hides-beyond, hides-lowest, hides-none}
use Rattle.print_unit.proofs.line.hide_half.Goals.{else-from-bit-lt-WHEELS, then-from-bit-lt-WHEELS}
use Rattle.print_unit.proofs.line.hide_half.Goals as goal

pub loop-left-init : goal.loop-left-init
loop-left-init c = hides-none c.args.from c.args.hidden c.args.line.now c.ranges.hidden.fits c.told-line

pub loop-left-smaller : goal.loop-left-smaller
loop-left-smaller c =
    let some = c.loop-left-test.true in taken_lower c.loop-left.left (omega (arith, some)) c.loop-left.auto.left-fits.fits

pub loop-left-preserved : goal.loop-left-preserved
loop-left-preserved c =
    elim c.if-from-bit-lt-WHEELS.branch [
      | then-from-bit-lt-WHEELS w ↦
          rw w.line-is
          (hides-lowest c.args.from c.args.hidden c.loop-left.left c.args.line.now c.loop-left.line c.loop-left-test.true
          w.if-from-bit-lt-WHEELS.true c.loop-left.invariant)
      | else-from-bit-lt-WHEELS w ↦
          rw w.line-is
          (hides-beyond c.args.from c.args.hidden c.loop-left.left c.args.line.now c.loop-left.line c.loop-left-test.true
          w.if-from-bit-lt-WHEELS.false c.loop-left.invariant)
    ]

pub returns-clause-hidden : goal.returns-clause-hidden
returns-clause-hidden c =
    hides-all c.args.from c.args.hidden c.loop-left.left c.args.line.now c.loop-left.line c.loop-left-test.false c.loop-left.invariant

pub returns-clause-wheels : goal.returns-clause-wheels
returns-clause-wheels c = c.loop-left.invariant.wheels
