use Rattle.std.proofs.Common.{◌∙◌, arith}
use Rattle.machine_sets.proofs.BitSets.BitLemmas.{run_down, run_up, run_past, run_before}
use Rattle.machine_sets.proofs.bit_sets.bits.word_of_run.Goals as goal

pub returns-then-down-lt128 : goal.returns-then-down-lt128
returns-then-down-lt128 c j low = c.low_word.ensures j low ∙ run_down c.args.bits c.args.from c.args.to j c.if-from-to.true

pub returns-else-down-lt128 : goal.returns-else-down-lt128
returns-else-down-lt128 c j low =
    run_past c.args.bits c.args.from c.args.to 128 j c.ranges.bits.fits (omega arith)

pub returns-then-up-lt64 : goal.returns-then-up-lt64
returns-then-up-lt64 c j low =
    c.low_word-then-up-lt64.ensures j low
    ∙ run_up c.args.bits c.args.from c.args.to 128 j c.if-from-to.false (omega arith)

pub returns-else-up-lt64 : goal.returns-else-up-lt64
returns-else-up-lt64 c j low = run_before c.args.bits c.args.from c.args.to 64 j (omega arith) low
