use Rattle.std.proofs.Common.{◌∙◌, ◌<◌, ◌^◌, refl, arith, bit_and, bit_or}
use Rattle.std.proofs.lemmas.Nat.{and_le_l}
use Rattle.print_unit.specs.WheelWords.{received_at}
use Rattle.print_unit.proofs.Bits.{is_bit-zero, is_bit-and, is_bit-or, is_bit-not}
use Rattle.print_unit.proofs.Carry.{given_by-word}
use Rattle.print_unit.proofs.zero_control.hidden.Goals as goal

pub returns-then-not-control : goal.returns-then-not-control
returns-then-not-control c = λ sets printed k below. rw (c.if-not-control.true) (is_bit-zero k)

pub returns : goal.returns
returns c = λ sets printed k below.
    let link = c.args.link in
    let given = c.given-given.result in
    let small : bit_and link given < 2 ^ 128 =
    let less = and_le_l link given in let fits : link < 2 ^ 128 = c.ranges.link.fits in omega (arith, less, fits) in
    let wide : k < 128 = omega (arith, below) in
    let is_given = given_by-word (received_at sets) link c.figures.result given c.given-given.ensures (c.figures.ensures sets printed) k below in
    is_bit-and _ (bit_or c.args.symbol (bit_and c.args.suppress c.zeros.result)) k
    ∙ rw (is_bit-not (bit_and link given) k small wide, is_bit-and link given k, is_bit-or c.args.symbol (bit_and c.args.suppress c.zeros.result) k, is_bit-and c.args.suppress c.zeros.result k, c.zeros.ensures sets printed k below, is_given, c.if-not-control.false)
    refl
