use Rattle.std.proofs.lemmas.List.FromFn.{length-map-range_with_len}
use Rattle.report_definition.specs.BodyLines.{char_at, line_of}
use Rattle.report_definition.proofs.laws.lines_have_120_characters.Goals as goal

pub returns : goal.returns
unfolding line_of
returns c pieces = length-map-range_with_len (char_at pieces) 1 120
