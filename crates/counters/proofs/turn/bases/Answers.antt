use Rattle.std.proofs.Common.{◌∙◌, sym, ap, arith, if◌then◌else◌}
use Rattle.std.specs.Simd.Lanes.{number_l}
use Rattle.counters.proofs.Packed.{bases-number, le_bytes-number}
use Rattle.counters.proofs.turn.bases.Goals as goal

pub returns-then-controls-clause-bases : goal.returns-then-controls-clause-bases
returns-then-controls-clause-bases c =
    sym (bases-number c.args.controls c.args.digits ∙ ap (λ b. if b then 0 else number_l 256 c.args.digits) c.if-controls.true)

pub returns-else-controls-clause-bases : goal.returns-else-controls-clause-bases
returns-else-controls-clause-bases c =
    c.from_le_bytes.ensures ∙ le_bytes-number c.args.digits (omega arith)
    ∙ sym (bases-number c.args.controls c.args.digits ∙ ap (λ b. if b then 0 else number_l 256 c.args.digits) c.if-controls.false)
