use Rattle.std.proofs.Common.{◌≡◌, ◌∙◌, ap, sym, arith, ℕ, []}
use Rattle.std.specs.List.{flat_map, range_with_len}
use Rattle.explain_origins.proofs.Texts.{number-more}
use Rattle.explain_wheel_ledgers.specs.Whole.{asked_at}
use Rattle.explain_wheel_ledgers.proofs.Asked.{asked-whole}
use Rattle.explain_wheel_ledgers.proofs.whole.asked_of.Goals as goal

pub loop-place-preserved : goal.loop-place-preserved
loop-place-preserved c =
    number-more (asked_at c.args.ways.now c.args.before) [] c.loop-place.asked.items c.add_asked.new.asked.items c.loop-place.place
    c.loop-place.invariant c.in_ok-add_asked.ensures

pub returns : goal.returns
returns c =
    let all : c.loop-place.place ≡ 32 = omega (arith, c.loop-place.auto.place-end, c.loop-place-test.false) in
    c.loop-place.invariant
    ∙ ap (λ (n : ℕ). flat_map (asked_at c.args.ways.now c.args.before) (range_with_len 0 n)) all
    ∙ sym (asked-whole c.args.ways.now c.args.before)
