use Rattle.std.proofs.Common.{ap, replicate, refl, arith}
use Rattle.print_unit.specs.declared.wheels.Wheels.TheInside as inside
use Rattle.print_unit.proofs.Plugs.{wheels_at-start}
use Rattle.print_unit.proofs.wheels.Wheels.new.Goals as goal

pub returns : goal.returns
returns c =
    let words : inside.Inside = record {
      sets = replicate 128 0;
      link = c.plugged.result;
      suppress = c.plugged-2.result;
      symbol = c.plugged-3.result;
      characters = c.new.result;
      line = replicate 120 32;
    } in
    ap (λ wheels. record { wheels = wheels; line = replicate 120 32 }) (wheels_at-start c.args.setup.now words 120 (omega arith) refl c.plugged.ensures c.plugged-2.ensures c.plugged-3.ensures)
