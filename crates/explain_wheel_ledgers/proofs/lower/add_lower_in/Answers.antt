use Rattle.std.proofs.Common.{◌≡◌, ◌∙◌, ◌++◌, ap, sym, arith, ℕ, List}
use Rattle.std.specs.List.{flat_map, range_with_len}
use Rattle.explain_origins.proofs.Texts.{number-more}
use Rattle.explain_wheel_ledgers.specs.Lower.{lower_at}
use Rattle.explain_wheel_ledgers.specs.declared.lower.AskedGroup.{AskedGroup}
use Rattle.explain_wheel_ledgers.proofs.Asked.{lower-whole}
use Rattle.explain_wheel_ledgers.proofs.lower.add_lower_in.Goals as goal

pub loop-place-preserved : goal.loop-place-preserved
loop-place-preserved c =
    number-more (lower_at c.args.setup.now c.args.totals.now c.args.read_outs.now.groups c.args.account c.args.before) c.args.lower.now.items
    c.loop-place.lower.items c.add_lower.new.lower.items c.loop-place.place c.loop-place.invariant c.in_ok-add_lower.ensures

pub returns : goal.returns
returns c =
    let all : c.loop-place.place ≡ 32 = omega (arith, c.loop-place.auto.place-end, c.loop-place-test.false) in
    c.loop-place.invariant
    ∙ ap (λ (n : ℕ). c.args.lower.now.items
    ++ flat_map (lower_at c.args.setup.now c.args.totals.now c.args.read_outs.now.groups c.args.account c.args.before)
    (range_with_len 0 n)) all
    ∙ ap (λ (l : List AskedGroup). c.args.lower.now.items ++ l)
    (sym (lower-whole c.args.setup.now c.args.totals.now c.args.read_outs.now.groups c.args.account c.args.before))
