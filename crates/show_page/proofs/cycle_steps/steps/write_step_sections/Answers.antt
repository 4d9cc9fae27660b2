use Rattle.std.proofs.Common.{sym, subst, List}
use Rattle.std.specs.String.{string_bytes}
use Rattle.std.proofs.lemmas.List.{take_all}
use Rattle.explain_wheels.specs.declared.explanations.found.FoundLine.{FoundLine}
use Rattle.show_drawings.specs.MarkupWords.Pieces.{GainsEach}
use Rattle.show_drawings.proofs.MarkupWords.Pieces.{each_item, each_none}
use Rattle.show_page.specs.CycleSteps.Steps.{IsStepSection}
use Rattle.show_page.proofs.cycle_steps.steps.write_step_sections.Goals as goal

pub loop-one-init : goal.loop-one-init
loop-one-init c = each_none (IsStepSection c.args.setup.now c.args.wires.now) (string_bytes c.args.text.now)

pub loop-one-preserved : goal.loop-one-preserved
loop-one-preserved c =
    each_item (IsStepSection c.args.setup.now c.args.wires.now) c.args.found.now c.loop-one.one-index c.one-item.result
    (string_bytes c.args.text.now) (string_bytes c.loop-one.text) (string_bytes c.write_section.new.text) c.loop-one-test.true
    (sym c.one-item.is) c.loop-one.invariant (c.in_ok-write_section.ensures c.args.setup.now c.in_ok-net.ensures)

pub returns : goal.returns
returns c =
    subst (λ (l : List FoundLine). GainsEach (IsStepSection c.args.setup.now c.args.wires.now) l (string_bytes c.args.text.now)
    (string_bytes c.loop-one.text)) (take_all c.loop-one.one-index c.args.found.now c.loop-one-test.false) c.loop-one.invariant
