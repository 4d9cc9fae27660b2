use Rattle.std.proofs.Common.{◌∙◌, ap, ◌+◌, ◌==◌, ◌&&◌, ◌||◌}
use Rattle.hubs.specs.SetupsWords.Wiring.{is_plugged}
use Rattle.net.specs.HubSets.{is_bit}
use Rattle.print_unit.specs.WheelWords.{jack_of}
use Rattle.print_unit.proofs.Plugs.{plugged-none, plugged-more}
use Rattle.print_unit.proofs.wheel_words.plugged.Goals as goal

pub loop-k-init : goal.loop-k-init
loop-k-init c = λ j below. plugged-none (λ j. is_plugged c.args.setup.now (jack_of c.args.kind (j + 1))) j

pub loop-k-preserved : goal.loop-k-preserved
loop-k-preserved c =
    let wiring = c.args.setup.now in
    let kind = c.args.kind in
    let k = c.loop-k.k in
    let test = c.has_jack.ensures ∙ ap (is_plugged wiring) c.of.ensures in
    plugged-more (λ j. is_plugged wiring (jack_of kind (j + 1))) c.loop-k.word c.with_bit-word.result k (λ j. c.with_bit-word.ensures j ∙ ap (λ b. is_bit c.loop-k.word j || (b && (j == k))) test) c.loop-k.invariant
