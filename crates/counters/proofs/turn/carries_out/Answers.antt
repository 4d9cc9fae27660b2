use Rattle.std.proofs.Common.{◌≡◌, ◌∙◌, ◌-◌, ap, arith, take, false, suc, get_or}
use Rattle.std.specs.Prelude.{nat_lt}
use Rattle.counters.specs.Counters.{wheels_of}
use Rattle.counters.specs.Packed.{carries_up}
use Rattle.counters.proofs.Cycles.{length-wheels_of, wheels_of-IsWheel}
use Rattle.counters.proofs.Packed.{top-passed}
use Rattle.counters.proofs.turn.carries_out.Goals as goal

pub returns : goal.returns
returns c =
    let ws = wheels_of c.args.controls c.args.digits c.args.entered in
    let top = c.args.width - 1 in
    let next : suc top ≡ c.args.width = omega (arith, c.requires.from) in
    ap (λ bytes. nat_lt (get_or bytes top 0) 128) (c.to_le_bytes.ensures ∙ c.raised.ensures)
    ∙ top-passed ws false top
    (omega (arith, c.requires.from, c.requires.to, length-wheels_of c.args.controls c.args.digits c.args.entered (omega arith)))
    (wheels_of-IsWheel c.args.controls c.args.digits c.args.entered c.requires.digits c.requires.entered)
    ∙ ap (λ n. carries_up (take n ws) false) next
