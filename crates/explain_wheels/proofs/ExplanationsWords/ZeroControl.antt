-- Significance goes from wheel to wheel, so it comes from a wheel that received a figure.
use Rattle.std.proofs.Common.{◌≡◌, ◌∙◌, sym, ap, subst, refl, arith, ℕ, zero, suc, ◌+◌, ◌-◌, ◌<◌, ◌≤◌, Bool, true, false, ◌&&◌, ◌||◌, ◌⊎◌, inl, inr, List, [], ◌∷◌, Option, Some, None, map}
use Rattle.std.specs.List.{range_with_len}
use Rattle.std.specs.Prelude.{slice_index_or}
use Rattle.std.proofs.lemmas.Bool.{cases_lt, false≢true}
use Rattle.std.proofs.lemmas.List.{get_or-map}
use Rattle.std.proofs.lemmas.List.FromFn.{get_or-map-range_with_len, length-map-range_with_len}
use Rattle.hubs.specs.declared.hub.Hub.{Hub}
use Rattle.hubs.specs.declared.jack.Jack.TheVariants.{Link}
use Rattle.net.specs.declared.cycle.Cycle.{Cycle}
use Rattle.net.specs.declared.cycle.Point.{Point}
use Rattle.page_text.specs.PlacedLines.Lines.{line_at}
use Rattle.page_text.specs.declared.placed_lines.placed_line.PlacedLine.{PlacedLine}
use Rattle.hubs.specs.SetupsWords.Wiring.{Wiring, is_plugged}
use Rattle.print_unit.specs.Laws.{IsZeroControlled, no_wheel, wheel_at_place}
use Rattle.print_unit.specs.ZeroControl.{Wheel, character_of, has_zero_control, is_figure, printed_line, shown}
use Rattle.print_unit.proofs.LeftNeighbours.{printed_from-controlled, printed_from-freely}
use Rattle.proof_cycles.specs.WholeCycles.WholeCycles.{rows_received, wheel_received}
use Rattle.explain_wheels.specs.ExplanationsWords.Explanations.{GivesSignificance, TellsSignificance, is_significant}
use Rattle.explain_wheels.specs.declared.explanations.significance.Significance.{Significance}
use Rattle.explain_wheels.specs.declared.explanations.significance.Significance.TheVariants.{Uncontrolled, From, Absent}

-- the wheels of a line
abbrev pub wheels_of : Wiring → (Point → Hub → Bool) → List Wheel
wheels_of wiring pictures = map (wheel_received wiring pictures) (range_with_len 1 120)

wheel-at : (wiring : Wiring) (pictures : Point → Hub → Bool) (place : ℕ) → place < 120
    → wheel_at_place (wheels_of wiring pictures) place ≡ wheel_received wiring pictures (place + 1)
wheel-at wiring pictures place less =
    get_or-map-range_with_len (wheel_received wiring pictures) 1 120 place (place + 1) no_wheel less (omega arith)

and_true : (a b : Bool) → (a && b) ≡ true → (a ≡ true) × (b ≡ true)
and_true true true is = (refl, refl)
and_true true false is = absurd (false≢true is)
and_true false b is = absurd (false≢true is)

or_true : (a b : Bool) → (a || b) ≡ true → (a ≡ true) ⊎ (b ≡ true)
or_true true b is = inl refl
or_true false b is = inr is

both_true : (a b c : Bool) → a ≡ true → (b ≡ true) ⊎ (c ≡ true) → (a && (b || c)) ≡ true
both_true true true c one other = refl
both_true true false true one other = refl
both_true true false false one (inl other) = other
both_true true false false one (inr other) = other
both_true false b c one other = one

at_most : (a b : ℕ) → a ≤ b + 1 → (a ≤ b) ⊎ (a ≡ b + 1)
at_most a b up = by (cases_lt b a)
  where
    by : (b < a) ⊎ (a ≤ b) → (a ≤ b) ⊎ (a ≡ b + 1)
    by (inl more) = inr (omega (arith, up, more))
    by (inr less) = inl less

module _ (wiring : Wiring) (pictures : Point → Hub → Bool) (line : List ℕ)
    (is : IsZeroControlled (wheels_of wiring pictures) line) where
  -- what a wheel gives the next one
  next_has : (place : ℕ) → place + 1 < 120
      → is.has (place + 1)
      ≡ (is_plugged wiring (Link (place + 1 + 1)) && (is.has place || is_figure (rows_received pictures (place + 1))))
  next_has place less =
      let many = length-map-range_with_len (wheel_received wiring pictures) 1 120 in
      let here = wheel-at wiring pictures (place + 1) less in
      let left = wheel-at wiring pictures place (omega (arith, less)) in
      is.next place (subst (λ (n : ℕ). place + 1 < n) (sym many) less)
      ∙ (λ i. (here i).link && (is.has place || is_figure (left i).received))

  -- significance comes from a wheel to the left
  has_gives : (place : ℕ) → place < 120 → is.has place ≡ true
      → (from : ℕ) × GivesSignificance wiring pictures from (place + 1)
  has_gives zero less has = absurd (false≢true (sym is.first ∙ has))
  has_gives (suc place) less has =
      let on : suc place ≡ place + 1 = omega arith in
      let below : place + 1 < 120 = omega (arith, less) in
      let both = and_true _ _ (sym (next_has place below) ∙ ap is.has (sym on) ∙ has) in
      let linked = both.0 in
      subst (λ (n : ℕ). (from : ℕ) × GivesSignificance wiring pictures from (n + 1)) (sym on)
      (elim (or_true (is.has place) _ both.1) [
        | inl before ↦
            let given = has_gives place (omega (arith, less)) before in (
              given.0,
              record {
                first = given.1.first;
                left = let left = given.1.left in omega (arith, left);
                figure = given.1.figure;
                linked = λ wheel past up. last wheel (given.1.linked wheel past) linked up;
              },
            )
        | inr figure ↦ (
          place + 1,
          record {
            first = omega arith;
            left = omega arith;
            figure = figure;
            linked = λ wheel past up.
                let same : wheel ≡ place + 1 + 1 = omega (arith, past, up) in
                ap (λ (n : ℕ). is_plugged wiring (Link n)) same ∙ linked;
          },
        )
      ])
    where
      last : (wheel : ℕ) → (wheel ≤ place + 1 → is_plugged wiring (Link wheel) ≡ true)
          → is_plugged wiring (Link (place + 1 + 1)) ≡ true → wheel ≤ place + 1 + 1 → is_plugged wiring (Link wheel) ≡ true
      last wheel before linked up = by (at_most wheel (place + 1) up)
        where
          by : (wheel ≤ place + 1) ⊎ (wheel ≡ place + 1 + 1) → is_plugged wiring (Link wheel) ≡ true
          by (inl early) = before early
          by (inr same) = ap (λ (n : ℕ). is_plugged wiring (Link n)) same ∙ linked

  -- a wheel that is given significance by one so far to the left has it
  gives_far : (far from : ℕ) → 1 ≤ from → from + far < 120 → is_figure (rows_received pictures from) ≡ true
      → ((wheel : ℕ) → from < wheel → wheel ≤ from + far + 1 → is_plugged wiring (Link wheel) ≡ true)
      → is.has (from + far) ≡ true
  gives_far zero from first less figure linked =
      let place : (from - 1) + 1 ≡ from = omega (arith, first) in
      let figured = ap (λ (n : ℕ). is_figure (rows_received pictures n)) place ∙ figure in
      let plugged = linked ((from - 1) + 1 + 1) (omega (arith, first)) (omega (arith, first)) in
      ap is.has (omega (arith, first)) ∙ next_has (from - 1) (omega (arith, first, less)) ∙ both_true _ _ _ plugged (inr figured)
  gives_far (suc far) from first less figure linked =
      let before = gives_far far from first (omega (arith, less)) figure
      (λ wheel past up. linked wheel past (omega (arith, up))) in
      let plugged = linked (from + far + 1 + 1) (omega arith) (omega arith) in
      ap is.has (omega arith) ∙ next_has (from + far) (omega (arith, less)) ∙ both_true _ _ _ plugged (inl before)

  gives_has : (from wheel : ℕ) → wheel ≤ 120 → GivesSignificance wiring pictures from wheel → is.has (wheel - 1) ≡ true
  gives_has from wheel range gives =
      let first = gives.first in
      let left = gives.left in
      let place : from + (wheel - 1 - from) ≡ wheel - 1 = omega (arith, left) in
      ap is.has (sym place)
      ∙ gives_far (wheel - 1 - from) from first (omega (arith, left, range)) gives.figure
      (λ v past up. gives.linked v past (omega (arith, up, left)))

  -- so what is told of a wheel's significance is what it has
  significance_is : (wheel : ℕ) → 1 ≤ wheel → wheel ≤ 120 → (cycle : Cycle) → has_zero_control cycle ≡ true
      → (told : Significance) → TellsSignificance wiring pictures cycle wheel told → is.has (wheel - 1) ≡ is_significant told
  significance_is wheel first range cycle control Uncontrolled tells = absurd (false≢true (sym tells ∙ control))
  significance_is wheel first range cycle control (From giver) tells = gives_has giver.wheel wheel range tells.1.gives
  significance_is wheel first range cycle control Absent tells = by (is.has (wheel - 1)) refl
    where
      by : (has : Bool) → is.has (wheel - 1) ≡ has → has ≡ false
      by false same = refl
      by true same =
          let given = has_gives (wheel - 1) (omega (arith, first, range)) same in
          absurd (tells.1 given.0 (subst (λ (n : ℕ). GivesSignificance wiring pictures given.0 n) (omega (arith, first)) given.1))

-- a wheel of a line shows what it received, by the significance that is told
pub line-shows : (wiring : Wiring) (pictures : Point → Hub → Bool) (cycle : Cycle) (wheel : ℕ) → 1 ≤ wheel → wheel ≤ 120
    → (told : Significance) → TellsSignificance wiring pictures cycle wheel told
    → slice_index_or (printed_line (has_zero_control cycle) (wheels_of wiring pictures)) (wheel - 1) 0
    ≡ shown (is_significant told) (wheel_received wiring pictures wheel)
line-shows wiring pictures cycle wheel first range told tells = by (has_zero_control cycle) refl
  where
    here : wheel_at_place (wheels_of wiring pictures) (wheel - 1) ≡ wheel_received wiring pictures wheel
    here =
        wheel-at wiring pictures (wheel - 1) (omega (arith, first, range))
        ∙ ap (wheel_received wiring pictures) (omega (arith, first))

    freely : (told : Significance) → has_zero_control cycle ≡ false → TellsSignificance wiring pictures cycle wheel told
        → is_significant told ≡ true
    freely Uncontrolled control tells = refl
    freely (From giver) control tells = refl
    freely Absent control tells = absurd (false≢true (sym control ∙ tells.0))

    by : (control : Bool) → has_zero_control cycle ≡ control
        → slice_index_or (printed_line control (wheels_of wiring pictures)) (wheel - 1) 0
        ≡ shown (is_significant told) (wheel_received wiring pictures wheel)
    by true control =
        let is = printed_from-controlled (wheels_of wiring pictures) in
        let many = length-map-range_with_len (wheel_received wiring pictures) 1 120 in
        let has = significance_is wiring pictures (printed_line true (wheels_of wiring pictures)) is wheel first range cycle control told tells in
        is.shows (wheel - 1) (subst (λ (n : ℕ). wheel - 1 < n) (sym many) (omega (arith, first, range)))
        ∙ (λ i. shown (has i) (here i))
    by false control =
        ap (λ (l : List ℕ). slice_index_or l (wheel - 1) 0) (printed_from-freely false (wheels_of wiring pictures))
        ∙ mapped (wheel - 1) (omega (arith, first, range))
        ∙ ap (λ (w : Wheel). character_of w.received) (ap (wheel_received wiring pictures) (omega (arith, first)))
        ∙ ap (λ (has : Bool). shown has (wheel_received wiring pictures wheel)) (sym (freely told control tells))
      where
        mapped : (place : ℕ) → place < 120
            → slice_index_or (map (λ (w : Wheel). character_of w.received) (wheels_of wiring pictures)) place 0
            ≡ character_of (wheel_received wiring pictures (place + 1)).received
        mapped place less =
            let many = length-map-range_with_len (wheel_received wiring pictures) 1 120 in
            get_or-map (λ (w : Wheel). character_of w.received) (wheels_of wiring pictures) place no_wheel 0
            (subst (λ (n : ℕ). place < n) (sym many) less)
            ∙ ap (λ (w : Wheel). character_of w.received) (wheel-at wiring pictures place less)

-- the text of a line that was placed
pub placed-text : (printed : Option (ℕ × ℕ)) (text : List ℕ) (line : PlacedLine) → line_at printed text ≡ line ∷ [] → line.text ≡ text
placed-text (Some place) text line is = sym (ap (λ (l : List PlacedLine). first_text l) is)
  where
    first_text : List PlacedLine → List ℕ
    first_text [] = []
    first_text (placed ∷ others) = placed.text
placed-text None text line is = cc
