use Rattle.std.proofs.Common.{◌∙◌, ap, bit_and, arith}
use Rattle.std.proofs.lemmas.Nat.{and_le_r}
use Rattle.print_unit.specs.ZeroControl.{character_of}
use Rattle.print_unit.proofs.Sets.{rows_in-low}
use Rattle.print_unit.proofs.characters.Characters.of.Goals as goal

pub returns : goal.returns
returns c =
    let low = and_le_r c.args.set 4095 in
    c.args.self.now.right (bit_and c.args.set 4095) (omega (arith, low)) ∙ ap character_of (rows_in-low c.args.set)
