use Rattle.std.proofs.Common.{◌≤◌, ◌-◌, arith, sym, ◌∙◌, ap}
use Rattle.std.proofs.lemmas.Bool.{false≢true}
use Rattle.machine_sets.specs.BitSets.Bits.{has_place}
use Rattle.explain_wheels.proofs.WaysWords.LeadsLemmas.{starts_has, starts_in_range, starts_numbered}
use Rattle.explain_wheels.proofs.ways.leads.is_start.Goals as goal
use Rattle.explain_wheels.proofs.ways.leads.is_start.Goals.{then-number-eq0-via-then-number-eq0, then-number-eq0-via-else-number-eq0+then-number-gt-HUBS}

pub returns-then-number-eq0 : goal.returns-then-number-eq0
returns-then-number-eq0 c = (λ never. absurd (false≢true never), λ at. let range = starts_in_range _ _ at in absurd (outside range)) where
  outside : (1 ≤ c.args.number) × (c.args.number ≤ 1936) → ⊥
  outside range = let low = range.0 in let high = range.1 in elim c.then-number-eq0.branch [
    | then-number-eq0-via-then-number-eq0 w ↦ let is = w.if-number-eq0.true in omega (arith, low, is)
    | then-number-eq0-via-else-number-eq0+then-number-gt-HUBS w ↦ let is = w.if-number-gt-HUBS.true in omega (arith, high, is)
  ]

pub returns : goal.returns
returns c =
    let some = c.if-number-eq0.false in
    let few = c.if-number-gt-HUBS.false in
    let is = c.has.ensures ∙ ap (λ words. has_place words (c.args.number - 1)) c.words.ensures.words in (
      λ has. starts_numbered c.args.exits.now c.args.number (omega (arith, some)) (omega (arith, few)) (sym is ∙ has),
      λ at. is ∙ starts_has c.args.exits.now c.args.number at,
    )
