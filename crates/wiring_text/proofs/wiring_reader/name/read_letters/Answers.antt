use Rattle.std.proofs.Common.{sym}
use Rattle.wiring_text.proofs.WiringReader.LetterReading.{letters_answered}
use Rattle.wiring_text.proofs.wiring_reader.name.read_letters.Goals as goal

pub returns : goal.returns
returns c =
    sym (letters_answered c.args.spelled.now c.of_spelled.result c.of_spelled.ensures.spelled c.of_spelled.ensures.none)
