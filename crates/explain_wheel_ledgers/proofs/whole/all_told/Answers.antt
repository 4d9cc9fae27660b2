use Rattle.std.proofs.Common.{◌∙◌, ◌-◌, ap, arith, drop, length, take, List}
use Rattle.std.proofs.lemmas.List.{length-drop, take_all}
use Rattle.explain_wheel_ledgers.specs.Whole.{with_lower}
use Rattle.explain_wheel_ledgers.specs.declared.lower.AskedGroup.{AskedGroup}
use Rattle.explain_wheel_ledgers.proofs.Down.{down-all, down-more, down-none}
use Rattle.explain_wheel_ledgers.proofs.whole.all_told.Goals as goal

pub loop-depth-init : goal.loop-depth-init
loop-depth-init c =
    down-none c.args.setup.now c.args.cards.now c.args.totals.now c.args.read_outs.now c.args.ends c.args.first.items c.new-text.result.items
    c.new-text.ensures.items c.requires.asked

pub returns-then-told-known : goal.returns-then-told-known
returns-then-told-known c =
    let known = c.len-known.ensures in
    let same = c.if-told-known.true in
    down-all c.args.setup.now c.args.cards.now c.args.totals.now c.args.read_outs.now c.args.ends c.args.first.items c.loop-depth.asked.items
    c.loop-depth._depth c.loop-depth.told c.loop-depth.text.items (omega (arith, known, same)) c.loop-depth.invariant

pub loop-depth-preserved : goal.loop-depth-preserved
loop-depth-preserved c =
    let known = c.len-known.ensures in
    let within = c.loop-depth.invariant.within in
    let other = c.if-told-known.false in
    let long = length-drop c.loop-depth.told c.as_slice.result.now in
    down-more c.args.setup.now c.args.cards.now c.args.totals.now c.args.read_outs.now c.args.ends c.args.first.items c.loop-depth.asked.items
    c.ask_for_all.new.asked.items c.loop-depth._depth c.loop-depth.told c.len-known.result c.loop-depth.text.items
    c.tell_all.new.text.items
    (take (length c.as_slice.result.now - c.loop-depth.told) (drop c.loop-depth.told c.as_slice.result.now)) c.in_ok-lower.lower.items c.loop-depth.invariant
    (omega (arith, known, within, other)) (omega (arith, known))
    (take_all (length c.as_slice.result.now - c.loop-depth.told) (drop c.loop-depth.told c.as_slice.result.now) (omega (arith, long))
    ∙ ap (drop c.loop-depth.told) c.as_slice.ensures.value)
    c.in_ok-lower.ensures.told
    c.in_ok-lower.ensures.asked
    (c.in_ok-ask_for_all.ensures
    ∙ ap (λ (l : List AskedGroup). with_lower l c.loop-depth.asked.items) c.as_slice-in-loop-depth.ensures.value)
