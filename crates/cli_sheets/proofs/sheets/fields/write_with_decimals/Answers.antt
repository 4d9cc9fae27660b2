use Rattle.std.proofs.Common.{arith}
use Rattle.std.proofs.Math.Nat.{one-le-pow}
use Rattle.cli_sheets.proofs.sheets.fields.write_with_decimals.Goals as goal

pub nonzero_div-number : goal.nonzero_div-number
nonzero_div-number c = omega (arith, c.pow.ensures, one-le-pow c.args.decimals 10 (omega arith))
