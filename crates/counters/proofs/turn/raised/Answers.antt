use Rattle.std.proofs.Common.{◌≡◌, ◌∙◌, ◌+◌, ◌%◌, ◌^◌, ap, arith, map, Bool, true, false, refl}
use Rattle.std.specs.Simd.Lanes.{number_l}
use mir.Val.{bool_byte}
use Rattle.counters.specs.Laws.{carry_number}
use Rattle.counters.specs.Packed.{wheel_sum}
use Rattle.counters.specs.Counters.{wheels_of}
use Rattle.counters.proofs.Cycles.{length-wheels_of, wheels_of-IsWheel}
use Rattle.counters.proofs.Packed.{raised-bytes}
use Rattle.counters.proofs.turn.raised.Goals as goal

carry_byte : (carry : Bool) → bool_byte carry ≡ carry_number carry
carry_byte true = refl
carry_byte false = refl

pub returns : goal.returns
returns c =
    let ws = wheels_of c.args.controls c.args.digits c.args.entered in
    raised-bytes ws c.args.carry _ (length-wheels_of c.args.controls c.args.digits c.args.entered (omega arith) ∙ omega arith)
    (wheels_of-IsWheel c.args.controls c.args.digits c.args.entered c.requires.digits c.requires.entered)
    (ap (λ n. (n + 17795682518166861558) % 2 ^ 64)
    (ap (λ n. n + c.from.result) c.advanced.ensures.sum
    ∙ ap (λ n. number_l 256 (map wheel_sum ws) + n) (c.from.ensures ∙ carry_byte c.args.carry)))
