use Rattle.std.proofs.Common.{◌≡◌, ◌∙◌, ap, sym, arith, ℕ, List, ◌++◌}
use Rattle.std.specs.List.{flat_map, range_with_len}
use Rattle.explain_origins.specs.Storage.{line_at}
use Rattle.explain_origins.proofs.Texts.{lines-whole, number-more}
use Rattle.explain_origins.proofs.storage.write_lines.Goals as goal

pub loop-place-preserved : goal.loop-place-preserved
loop-place-preserved c =
    number-more (line_at c.args.setup.now c.args.cards.now c.args.since c.args.unit c.args.ways.now) c.args.text.now.items
    c.loop-place.text.items c.write_line_at.new.text.items c.loop-place.place c.loop-place.invariant c.in_ok-write_line_at.ensures

pub returns : goal.returns
returns c =
    let line = line_at c.args.setup.now c.args.cards.now c.args.since c.args.unit c.args.ways.now in
    let all : c.loop-place.place ≡ 12 = omega (arith, c.loop-place.auto.place-end, c.loop-place-test.false) in
    c.loop-place.invariant
    ∙ ap (λ (n : ℕ). c.args.text.now.items ++ flat_map line (range_with_len 0 n)) all
    ∙ ap (λ (l : List ℕ). c.args.text.now.items ++ l)
    (sym (lines-whole c.args.setup.now c.args.cards.now c.args.since c.args.unit c.args.ways.now))
