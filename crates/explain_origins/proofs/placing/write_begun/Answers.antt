use Rattle.std.proofs.Common.{◌∙◌, ap}
use Rattle.hubs.specs.SetupsWords.Tapes.{CarriageTape}
use Rattle.explain_origins.specs.Asks.{spacing_words}
use Rattle.explain_origins.proofs.Texts.{begun-line}
use Rattle.explain_origins.proofs.placing.write_begun.Goals as goal

pub returns : goal.returns
returns c =
    begun-line c.write_spacing.result c.args.setup.now.tape.first c.from.result c.args.found.now.line.line c.args.text.now.items
    c.write_first.new.text.items c.write_spacing.new.text.items (spacing_words c.args.setup.now c.args.found.now.cycle)
    (c.from.ensures ∙ c.first.ensures.value ∙ ap (λ (tape : CarriageTape). tape.first) c.tape.ensures.value) c.in_ok-write_first.ensures
    c.write_spacing.ensures
