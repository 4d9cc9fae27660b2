use Rattle.std.proofs.Common.{◌≡◌, ◌+◌, ◌*◌, ℕ, arith, subst}
use Rattle.print_unit.specs.WheelWords.{HasPrinted}
use Rattle.print_unit.proofs.line.print.Goals as goal
use Rattle.print_unit.proofs.line.print.Goals.{then-is_empty, else-is_empty}

pub loop-eight-init : goal.loop-eight-init
loop-eight-init c = record { characters = λ k less. absurd (omega (arith, less)); wheels = c.told-line }

pub loop-eight-preserved : goal.loop-eight-preserved
loop-eight-preserved c =
    let next : 8 * c.loop-eight.eight + 8 ≡ 8 * (c.loop-eight.eight + 1) = omega arith in
    elim c.if-is_empty.branch [
      | then-is_empty w ↦ rw w.line-is
          (subst (λ (count : ℕ). HasPrinted c.args.sets.now count w.put_blanks.new.line) next w.put_blanks.ensures)
      | else-is_empty w ↦ rw w.line-is
          (subst (λ (count : ℕ). HasPrinted c.args.sets.now count w.print_wheels.new.line) next w.print_wheels.ensures)
    ]

pub put_blanks-requires-clause-empty : goal.put_blanks-requires-clause-empty
put_blanks-requires-clause-empty c = c.is_empty.ensures c.if-is_empty.true
