use Rattle.std.proofs.Common.{arith}
use Rattle.machine.proofs.Marks.{loses_lowest}
use Rattle.machine.proofs.bits.take_lowest.Goals as goal

pub returns-clause-taken : goal.returns-clause-taken
returns-clause-taken c = loses_lowest c.args.word.now (omega arith) (omega arith)
