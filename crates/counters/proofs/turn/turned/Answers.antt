use Rattle.std.proofs.Common.{◌∙◌, sym, arith, subst, All, List, ℕ}
use Rattle.counters.specs.Counters.{wheels_of}
use Rattle.counters.specs.Laws.{IsDigit}
use Rattle.counters.proofs.Cycles.{length-wheels_of, wheels_of-IsWheel}
use Rattle.counters.proofs.Packed.{bytes-digits, turned_up-digits}
use Rattle.counters.proofs.turn.turned.Goals as goal

pub returns-clause-turned : goal.returns-clause-turned
returns-clause-turned c =
    let ws = wheels_of c.args.controls c.args.digits c.args.entered in
    bytes-digits ws c.args.carry c.to_le_bytes-bytes.result
    (length-wheels_of c.args.controls c.args.digits c.args.entered (omega arith) ∙ omega arith)
    (wheels_of-IsWheel c.args.controls c.args.digits c.args.entered c.requires.digits c.requires.entered)
    (c.to_le_bytes-bytes.ensures ∙ c.raised.ensures)

pub returns-clause-digits : goal.returns-clause-digits
returns-clause-digits c =
    let ws = wheels_of c.args.controls c.args.digits c.args.entered in
    subst (λ (ds : List ℕ). All IsDigit ds) (sym (bytes-digits ws c.args.carry c.to_le_bytes-bytes.result
    (length-wheels_of c.args.controls c.args.digits c.args.entered (omega arith) ∙ omega arith)
    (wheels_of-IsWheel c.args.controls c.args.digits c.args.entered c.requires.digits c.requires.entered)
    (c.to_le_bytes-bytes.ensures ∙ c.raised.ensures))) (turned_up-digits ws c.args.carry)
