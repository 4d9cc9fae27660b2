use Rattle.std.proofs.Common.{◌∙◌, ◌++◌, ap, sym, List, arith}
use Rattle.std.proofs.lemmas.List.{take_all}
use Rattle.std.specs.List.{flat_map}
use Rattle.counters.specs.Counters.{Counter}
use Rattle.counters.specs.Counters.{counter_ended}
use Rattle.explain_words.specs.TracesWords.TracedUnits.{group_told}
use Rattle.explain_words.proofs.TracesWords.Pieces.{piece_more}
use Rattle.explain_words.proofs.traces.groups.write_groups.Goals as goal

pub loop-group-preserved : goal.loop-group-preserved
loop-group-preserved c =
    piece_more (λ group. group_told group (counter_ended group c.args.cycle)) c.args.text.now.items c.loop-group.text.items
    c.write_group_in.new.text.items c.args.groups.now c.loop-group.group-index c.group-item.result c.loop-group-test.true
    (sym c.group-item.is) c.loop-group.invariant c.in_ok-write_group_in.ensures

pub returns : goal.returns
returns c =
    c.loop-group.invariant
    ∙ ap (λ (l : List Counter). c.args.text.now.items ++ flat_map (λ group. group_told group (counter_ended group c.args.cycle)) l)
    (take_all c.loop-group.group-index c.args.groups.now (omega (arith, c.loop-group-test.false)))
