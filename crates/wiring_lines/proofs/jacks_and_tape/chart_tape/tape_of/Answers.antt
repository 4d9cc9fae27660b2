use Rattle.std.proofs.Common.{subst, sym}
use Rattle.wiring_table.specs.WiredFor.{IsTapeOf}
use Rattle.wiring_lines.specs.JacksAndTape.HelperJacks.{HasTape}
use Rattle.wiring_lines.proofs.JacksAndTape.KeptTape.{has-tape}
use Rattle.wiring_lines.proofs.jacks_and_tape.chart_tape.tape_of.Goals as goal

pub punched_tape-requires : goal.punched_tape-requires
punched_tape-requires c =
    subst HasTape (sym c.lines-lines.ensures.value) (has-tape c.args.chart.now c.lines-lines.ensures.lawful)

pub returns : goal.returns
returns c = subst (λ lines. IsTapeOf lines c.punched_tape.result) c.lines-lines.ensures.value c.punched_tape.ensures
