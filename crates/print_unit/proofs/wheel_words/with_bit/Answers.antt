use Rattle.print_unit.proofs.Bits.{is_bit-joined}
use Rattle.print_unit.proofs.wheel_words.with_bit.Goals as goal

pub returns-then-test : goal.returns-then-test
returns-then-test c = λ k. rw (c.if-test.true) (is_bit-joined 128 c.args.word c.args.bit k c.requires)
