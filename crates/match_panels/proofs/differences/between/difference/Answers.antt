use Rattle.std.proofs.Common.{subst}
use Rattle.match_panels.specs.DifferencesWords.Helper.{IsTapeDifference}
use Rattle.match_panels.proofs.DifferencesWords.Joined.{joined}
use Rattle.match_panels.proofs.differences.between.difference.Goals as goal

pub returns : goal.returns
returns c =
    joined c.args.one.now c.args.other.now c.new-left.result c.plug_jacks.new.left c.add_wires.new.left c.tape_difference-tape.result
    c.new-left.ensures.wires c.new-left.ensures.jacks c.new-left.ensures.tape
    (subst (λ t. IsTapeDifference t c.args.other.now.tape c.tape_difference-tape.result) c.tape.ensures.value
    (subst (λ t. IsTapeDifference c.tape.result.now t c.tape_difference-tape.result) c.tape-2.ensures.value c.tape_difference-tape.ensures))
    c.plug_jacks.ensures c.in_ok-add_wires.ensures
