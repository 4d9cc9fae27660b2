use Rattle.std.proofs.Common.{List, [], arith, subst, sym}
use Rattle.std.proofs.lemmas.Bool.{false≢true}
use Rattle.show_sections.specs.WheelSections.Helper.{GainsTold}
use Rattle.explain_words.specs.declared.explanation_text.text.ToldWheel.{ToldWheel}
use Rattle.show_sections.proofs.WheelSections.Gains.{found_is, found_long, lines_more, told_none, told_of_all}
use Rattle.show_sections.proofs.wheel_sections.told.told_wheels.Goals as goal

pub loop-place-init : goal.loop-place-init
loop-place-init c =
    subst (λ (l : List ToldWheel). GainsTold c.args.setup.now c.args.asked.now c.args.cards.now [] [] l) (sym c.new-told.ensures.items)
    (told_none c.args.setup.now c.args.asked.now c.args.cards.now [])

pub loop-place-preserved : goal.loop-place-preserved
loop-place-preserved c =
    lines_more c.args.setup.now c.args.asked.now c.args.cards.now c.args.lines.now c.loop-place.place _ []
    c.loop-place.told.items c.push_line.new.told.items c.loop-place-test.true c.loop-place.invariant c.in_ok-push_line.ensures

pub returns : goal.returns
returns c =
    told_of_all c.args.setup.now c.args.asked.now c.args.cards.now c.args.lines.now c.loop-place.place c.loop-place.told.items
    c.loop-place-test.false c.loop-place.invariant

pub unreachable-requires : goal.unreachable-requires
unreachable-requires c =
    let less = c.loop-place-test.true in
    let long = found_long c.args.setup.now c.args.cards.now c.args.lines.now c.args.found.now c.requires in
    false≢true (c.in_default.ensures.lookup.2 (omega (arith, less, long)))

pub push_line-requires : goal.push_line-requires
push_line-requires c =
    found_is c.args.setup.now c.args.cards.now c.args.lines.now c.args.found.now c.loop-place.place _ c.in-Some.one.now
    c.requires c.loop-place-test.true c.in-Some.ensures.lookup.1
