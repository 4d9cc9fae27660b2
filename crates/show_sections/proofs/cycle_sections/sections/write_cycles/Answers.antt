use Rattle.std.specs.String.{string_bytes}
use Rattle.std.proofs.Common.{arith, ap, length}
use Rattle.card_code.specs.Lines.{lines_of}
use Rattle.show_sections.proofs.CycleSections.Cycles.{one_cycle_more}
use Rattle.show_sections.proofs.cycle_sections.sections.write_cycles.Goals as goal

pub loop-line-preserved : goal.loop-line-preserved
loop-line-preserved c =
    let one = ap length c.in-Some.ensures.first in
    let numbered = c.loop-line.invariant.numbered in
    record {
      written =
          one_cycle_more c.loop-line.number _ _ c.args.all c.in-Some.line.now (lines_of c.loop-line.rest.now)
          (lines_of c.in-Some.after.now) (string_bytes c.loop-line.text) (string_bytes c.write_section.new.text) _
          c.in-Some.ensures.first c.loop-line.invariant.written c.in_ok-write_section.ensures;
      numbered = omega (arith, one, numbered);
    }
