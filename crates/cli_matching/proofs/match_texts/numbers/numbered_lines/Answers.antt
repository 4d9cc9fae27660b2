use Rattle.std.proofs.Common.{arith}
use Rattle.std.specs.String.{string_bytes}
use Rattle.card_code.specs.Lines.{lines_of}
use Rattle.cli_matching.proofs.MatchTexts.Numbering.{ends, goes_on}
use Rattle.cli_matching.proofs.match_texts.numbers.numbered_lines.Goals as goal

pub loop-line-preserved : goal.loop-line-preserved
loop-line-preserved c = record {
  numbered = goes_on c.args.version c.args.extra.now (lines_of c.args.wiring.now) c.loop-line.number c.in-Some.line.now
      (lines_of c.loop-line.rest.now) (lines_of c.in-Some.after.now) (string_bytes c.in_ok-told.told) c.loop-line.numbers.items
      c.add_if_told.new.numbers.items c.loop-line.invariant.numbered c.in-Some.ensures.first c.in_ok-told.ensures
      c.in_ok-add_if_told.ensures;
  number = omega (arith, c.loop-line.invariant.number, c.in-Some.ensures.shorter);
}

pub returns : goal.returns
returns c =
    ends c.args.version c.args.extra.now (lines_of c.args.wiring.now) c.loop-line.number (lines_of c.loop-line.rest.now)
    c.loop-line.numbers.items c.loop-line.invariant.numbered c.in_default.ensures.none
