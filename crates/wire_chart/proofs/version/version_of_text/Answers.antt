use Rattle.std.proofs.Common.{refl}
use Rattle.wire_chart.proofs.Versions.{second_read}
use Rattle.wire_chart.proofs.version.version_of_text.Goals as goal

pub returns-in-Some : goal.returns-in-Some
returns-in-Some c =
    second_read c.args.text.now c.in-Some.first.now _ c.in-Some.ensures.first (c.if-is_title_line.ensures.title.0 refl)
