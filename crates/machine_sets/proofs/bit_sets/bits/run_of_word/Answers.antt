use Rattle.std.proofs.Common.{◌∙◌, ◌/◌, ◌*◌, ◌%◌, ◌^◌, ◌-◌, ap, arith}
use Rattle.machine_sets.specs.BitSets.Bits.{is_bit}
use Rattle.machine_sets.proofs.BitSets.BitLemmas.{run_down, run_up, run_past, run_before}
use Rattle.machine_sets.proofs.bit_sets.bits.run_of_word.Goals as goal

pub returns-then-down-lt64 : goal.returns-then-down-lt64
returns-then-down-lt64 c j low =
    ap (λ n. is_bit (n / 2 ^ (c.args.to - c.args.from)) j) c.from-bits.ensures
    ∙ run_down c.args.word c.args.from c.args.to j c.if-from-to.true

pub returns-else-down-lt64 : goal.returns-else-down-lt64
returns-else-down-lt64 c j low =
    run_past c.args.word c.args.from c.args.to 64 j c.ranges.word.fits (omega arith)

pub returns-then-up-lt128 : goal.returns-then-up-lt128
returns-then-up-lt128 c j low =
    ap (λ n. is_bit (n * 2 ^ (c.args.from - c.args.to) % 2 ^ 128) j) c.from-bits.ensures
    ∙ run_up c.args.word c.args.from c.args.to 128 j c.if-from-to.false low

pub returns-else-up-lt128 : goal.returns-else-up-lt128
returns-else-up-lt128 c j low = run_before c.args.word c.args.from c.args.to 128 j (omega arith) low
