use Rattle.std.proofs.Common.{ap}
use Rattle.std.specs.Prelude.{nat_eq}
use Rattle.std.proofs.lemmas.Nat.Bits.{shr_and_one}
use Rattle.net.specs.HubSets.{is_bit}
use Rattle.storage_units.proofs.columns.has_bit.Goals as goal

pub returns : goal.returns
unfolding is_bit
returns c = ap (λ b. nat_eq b 1) (shr_and_one c.args.word c.args.bit)
