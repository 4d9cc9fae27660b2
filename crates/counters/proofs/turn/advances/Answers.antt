use Rattle.std.proofs.Common.{◌≡◌, ◌∙◌, ◌-◌, sym, ap, arith, if◌then◌else◌, length, replicate}
use Rattle.std.specs.Simd.Lanes.{number_l}
use Rattle.counters.proofs.Packed.{advances-number, le_bytes-number}
use Rattle.counters.proofs.turn.advances.Goals as goal

pub returns-then-controls-clause-advances : goal.returns-then-controls-clause-advances
returns-then-controls-clause-advances c =
    let es = c.args.entered in
    let long : length es ≡ 8 = omega arith in
    let nines : number_l 256 (replicate (length es) 9) ≡ 651061555542690057 = ap (λ n. number_l 256 (replicate n 9)) long in
    let is = c.from_le_bytes-entered.ensures ∙ le_bytes-number es long in
    ap (λ n. 651061555542690057 - n) is
    ∙ ap (λ n. n - number_l 256 es) (sym nines)
    ∙ sym (advances-number c.args.controls es c.requires
    ∙ ap (λ b. if b then number_l 256 (replicate (length es) 9) - number_l 256 es
    else if c.args.controls.plus then number_l 256 es else 0) c.if-controls.true)
