use Rattle.std.specs.String.{string_bytes}
use Rattle.show_sections.proofs.WheelSections.Gains.{worded_there}
use Rattle.show_sections.proofs.wheel_sections.told.tell_wheel.Goals as goal

pub wheel_text-requires : goal.wheel_text-requires
wheel_text-requires c = (c.in_ok-why.ensures c.args.cards.now c.requires.ways.found).is.long

pub returns : goal.returns
returns c =
    worded_there c.args.setup.now c.args.asked.now c.args.cards.now c.args.line.now.found c.args.placed.now.page
    c.args.placed.now.line c.args.wheel c.in_ok-why.why (string_bytes c.in_ok-words.words) c.requires.ways.page c.requires.ways.line_is
    (c.in_ok-why.ensures c.args.cards.now c.requires.ways.found) c.in_ok-words.ensures
