-- The search for the wheel that gives another its significance, from that wheel to the left.
use Rattle.std.proofs.Common.{◌≡◌, ◌∙◌, sym, ap, subst, arith, ℕ, ◌-◌, ◌<◌, ◌≤◌, ◌⊎◌, inl, inr, Bool, true, false, None, Some}
use Rattle.std.proofs.lemmas.Bool.{cases_lt, false≢true}
use Rattle.hubs.specs.declared.hub.Hub.{Hub}
use Rattle.hubs.specs.declared.jack.Jack.TheVariants.{Link}
use Rattle.hubs.specs.SetupsWords.Wiring.{Wiring, is_plugged}
use Rattle.net.specs.declared.cycle.Point.{Point}
use Rattle.print_unit.specs.ZeroControl.{is_figure}
use Rattle.proof_cycles.specs.WholeCycles.WholeCycles.{rows_received}
use Rattle.explain_wheels.specs.ExplanationsWords.Explanations.{GivesSignificance, HasFigure}
use Rattle.explain_wheels.specs.ExplanationsWords.Rows.{TellsGiver}

-- LINK is plugged on each wheel behind one, up to another
abbrev pub AreLinked : Wiring → ℕ → ℕ → Type 0
AreLinked wiring right wheel = (v : ℕ) → right < v → v ≤ wheel → is_plugged wiring (Link v) ≡ true

-- no wheel from one on, left of another, received a figure
abbrev pub HaveNoFigure : (Point → Hub → Bool) → ℕ → ℕ → Type 0
HaveNoFigure pictures right wheel = (v : ℕ) → right ≤ v → v < wheel → is_figure (rows_received pictures v) ≡ true → ⊥

pub linked-more : (wiring : Wiring) (right wheel : ℕ) → 1 < right → is_plugged wiring (Link right) ≡ true → AreLinked wiring right wheel
    → AreLinked wiring (right - 1) wheel
linked-more wiring right wheel low here linked = λ v past up. by v past up (cases_lt right v)
  where
    by : (v : ℕ) → right - 1 < v → v ≤ wheel → (right < v) ⊎ (v ≤ right) → is_plugged wiring (Link v) ≡ true
    by v past up (inl behind) = linked v behind up
    by v past up (inr before) =
        let same : right ≡ v = omega (arith, low, past, before) in
        subst (λ (n : ℕ). is_plugged wiring (Link n) ≡ true) same here

pub no-figure-more : (pictures : Point → Hub → Bool) (right wheel : ℕ) → 1 < right
    → is_figure (rows_received pictures (right - 1)) ≡ false → HaveNoFigure pictures right wheel
    → HaveNoFigure pictures (right - 1) wheel
no-figure-more pictures right wheel low here none = λ v past left is. by v past left is (cases_lt v right)
  where
    by : (v : ℕ) → right - 1 ≤ v → v < wheel → is_figure (rows_received pictures v) ≡ true → (v < right) ⊎ (right ≤ v) → ⊥
    by v past left is (inl before) =
        let same : v ≡ right - 1 = omega (arith, low, past, before) in
        false≢true (sym here ∙ sym (ap (λ (n : ℕ). is_figure (rows_received pictures n)) same) ∙ is)
    by v past left is (inr behind) = none v behind left is

-- where LINK isn't plugged, significance comes from no wheel to the left
pub no-link : (wiring : Wiring) (pictures : Point → Hub → Bool) (right wheel : ℕ) → right ≤ wheel
    → is_plugged wiring (Link right) ≡ false → HaveNoFigure pictures right wheel → TellsGiver wiring pictures wheel None
no-link wiring pictures right wheel up unplugged none = λ from gives. by from gives (cases_lt from right)
  where
    by : (from : ℕ) → GivesSignificance wiring pictures from wheel → (from < right) ⊎ (right ≤ from) → ⊥
    by from gives (inl left) = false≢true (sym unplugged ∙ gives.linked right left up)
    by from gives (inr behind) = none from behind gives.left gives.figure

-- the first wheel has none to its left
pub no-giver : (wiring : Wiring) (pictures : Point → Hub → Bool) (right wheel : ℕ) → right ≤ 1
    → HaveNoFigure pictures right wheel → TellsGiver wiring pictures wheel None
no-giver wiring pictures right wheel first none = λ from gives.
    let one = gives.first in none from (omega (arith, one, first)) gives.left gives.figure

pub giver-found : (wiring : Wiring) (pictures : Point → Hub → Bool) (right wheel : ℕ) → 1 < right → right ≤ wheel
    → is_plugged wiring (Link right) ≡ true → AreLinked wiring right wheel → HaveNoFigure pictures right wheel
    → is_figure (rows_received pictures (right - 1)) ≡ true → (figure : ℕ) → HasFigure (rows_received pictures (right - 1)) figure
    → TellsGiver wiring pictures wheel (Some (record { wheel = right - 1; figure = figure }))
giver-found wiring pictures right wheel low up here linked none is figure has = record {
  gives = record {
    first = omega (arith, low);
    left = omega (arith, low, up);
    figure = is;
    linked = linked-more wiring right wheel low here linked;
  };
  nearest = λ nearer past gives. none nearer (omega (arith, low, past)) gives.left gives.figure;
  figure = has;
}
