use Rattle.std.proofs.Common.{◌∙◌, ◌++◌, ap, subst, sym, arith, length, List, ℕ}
use Rattle.explain_ledgers.specs.LedgersWords.CycleReadOuts.{TellReadOuts}
use Rattle.explain_wheel_ledgers.proofs.Asked.{asked-all}
use Rattle.explain_wheel_ledgers.specs.Whole.{AreDown, asked_of, cycle_found}
use Rattle.explain_wheel_ledgers.specs.declared.lower.AskedGroup.{AskedGroup}
use Rattle.explain_wheel_ledgers.proofs.whole.whole_text.Goals as goal

pub read_outs_before-requires-clause-has : goal.read_outs_before-requires-clause-has
read_outs_before-requires-clause-has c = c.requires.places.has

pub all_told-requires-clause-asked : goal.all_told-requires-clause-asked
all_told-requires-clause-asked c =
    let many = ap length c.as_slice-read_outs.ensures.value ∙ c.in_ok-read_outs.ensures.all in
    asked-all c.args.ways.now (cycle_found c.args.found) c.args.setup.now c.args.cards.now (length c.as_slice-read_outs.result.now)
    c.in_ok-asked.asked.items (c.in_ok-asked.ensures ∙ ap (asked_of c.args.ways.now) c.cycle_found.ensures) c.requires.places.has
    (omega (arith, many))

pub returns : goal.returns
returns c = record {
  read_outs = c.as_slice-read_outs.result.now;
  all = ap length c.as_slice-read_outs.ensures.value ∙ c.in_ok-read_outs.ensures.all;
  read =
      subst (TellReadOuts c.args.setup.now c.args.cards.now) (sym c.as_slice-read_outs.ensures.value) c.in_ok-read_outs.ensures.told;
  ledgers = c.in_ok-ledgers.ledgers.items;
  down =
      subst
      (λ (any : List AskedGroup). AreDown c.args.setup.now c.args.cards.now c.args.totals.now c.as_slice-read_outs.result.now c.args.ends any
      c.in_ok-ledgers.ledgers.items)
      (c.in_ok-asked.ensures ∙ ap (asked_of c.args.ways.now) c.cycle_found.ensures) c.in_ok-ledgers.ensures;
  origins = c.in_ok-origins.origins.items;
  are = c.in_ok-origins.ensures;
  whole =
      c.in_ok-text.ensures
      ∙ ap (λ (l : List ℕ). l ++ c.as_slice-2.result.now) c.as_slice.ensures.value
      ∙ ap (λ (l : List ℕ). c.in_ok-ledgers.ledgers.items ++ l) c.as_slice-2.ensures.value;
}
