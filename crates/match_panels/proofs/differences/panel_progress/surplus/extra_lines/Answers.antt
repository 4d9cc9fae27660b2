use Rattle.std.proofs.Common.{arith}
use Rattle.std.specs.String.{string_bytes}
use Rattle.card_code.specs.Lines.{lines_of}
use Rattle.match_panels.proofs.DifferencesWords.PanelProgress.Telling.{ends, goes_on}
use Rattle.match_panels.proofs.differences.panel_progress.surplus.extra_lines.Goals as goal

pub loop-line-preserved : goal.loop-line-preserved
loop-line-preserved c = record {
  told = goes_on c.args.version c.args.extra.now (lines_of c.args.wiring.now) c.loop-line.number c.in-Some.line.now
      (lines_of c.loop-line.rest.now) (lines_of c.in-Some.after.now) (string_bytes c.loop-line.text)
      (string_bytes c.write_if_extra.new.text) c.loop-line.invariant.told c.in-Some.ensures.first c.in_ok-write_if_extra.ensures;
  number = omega (arith, c.loop-line.invariant.number, c.in-Some.ensures.shorter);
}

pub returns : goal.returns
returns c =
    ends c.args.version c.args.extra.now (lines_of c.args.wiring.now) c.loop-line.number (lines_of c.loop-line.rest.now)
    (string_bytes c.loop-line.text) c.loop-line.invariant.told c.in_default.ensures.none
