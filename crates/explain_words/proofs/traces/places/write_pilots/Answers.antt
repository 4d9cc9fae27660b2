use Rattle.std.proofs.Common.{◌≡◌, ◌∙◌, ◌-◌, ◌++◌, ap, sym, append-nil, arith, ℕ}
use Rattle.std.specs.List.{flat_map, range_with_len}
use Rattle.explain_words.specs.TracesWords.TracedUnits.{pilot_told}
use Rattle.explain_words.proofs.TracesWords.Pieces.{number_more}
use Rattle.explain_words.proofs.traces.places.write_pilots.Goals as goal

pub loop-pilot-init : goal.loop-pilot-init
loop-pilot-init c = sym (append-nil c.args.text.now.items)

pub loop-pilot-preserved : goal.loop-pilot-preserved
loop-pilot-preserved c =
    number_more (pilot_told c.args.pilots.now) c.args.text.now.items c.loop-pilot.text.items c.write_pilot.new.text.items c.loop-pilot.pilot
    c.loop-pilot.auto.pilot c.loop-pilot.invariant c.in_ok-write_pilot.ensures

pub returns : goal.returns
returns c =
    let all : c.loop-pilot.pilot - 1 ≡ 16 =
    omega (arith, c.loop-pilot.auto.pilot, c.loop-pilot.auto.pilot-end, c.loop-pilot-test.false) in
    c.loop-pilot.invariant
    ∙ ap (λ (n : ℕ). c.args.text.now.items ++ flat_map (pilot_told c.args.pilots.now) (range_with_len 1 n)) all
