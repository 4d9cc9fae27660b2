use Rattle.std.proofs.Common.{sym}
use Rattle.wiring_text.proofs.WiringReader.NamePieces.{too_many_numbers}
use Rattle.wiring_text.proofs.wiring_reader.name.three_numbers.Goals as goal

pub returns-in-Some : goal.returns-in-Some
returns-in-Some c =
    rw c.in-Some.is (sym (too_many_numbers c.args.first c.args.second c.args.third c.in-Some.field-0.now))
