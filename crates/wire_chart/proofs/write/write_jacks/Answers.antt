use Rattle.std.specs.String.{string_bytes}
use Rattle.wire_chart.proofs.JackGains.{no_places, place_more, all_places}
use Rattle.wire_chart.proofs.write.write_jacks.Goals as goal

pub loop-place-init : goal.loop-place-init
loop-place-init c = no_places c.args.setup.now (string_bytes c.args.text.now)

pub loop-place-preserved : goal.loop-place-preserved
loop-place-preserved c =
    place_more c.args.setup.now c.loop-place.place (string_bytes c.args.text.now) (string_bytes c.loop-place.text)
    (string_bytes c.write_jack_at.new.text) c.loop-place.invariant c.in_ok-write_jack_at.ensures

pub returns : goal.returns
returns c =
    all_places c.args.setup.now c.loop-place.place (string_bytes c.args.text.now) (string_bytes c.loop-place.text)
    c.loop-place-test.false c.loop-place.invariant
