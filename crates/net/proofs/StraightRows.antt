-- Rows that straight wires bring to wheels, and the wires of the runs of a net.
use Rattle.std.proofs.Common.{⊎_elim, ◌≡◌, ◌∙◌, ℕ, ◌+◌, ◌-◌, ◌<◌, ◌≤◌, inl, inr, true, List, [], ◌∷◌, All, Some, refl, sym, ap, subst, arith}
use Rattle.std.specs.Prelude.{nat_le, nat_lt}
use Rattle.std.proofs.lemmas.Bool.{and_parts, and_from, false≢true, or_cases, or_left, or_right}
use Rattle.std.proofs.lemmas.Bool.Decides.{nat_tests}
use Rattle.std.proofs.lemmas.List.Elements.{All-head, All-tail}
use Rattle.hubs.specs.HubTable.HubTable.{HasNumber}
use Rattle.hubs.proofs.HubLemmas.{number_of-injective, number_of-kind}
use Rattle.hubs.specs.Hubs.{letters_of, number_of}
use Rattle.hubs.specs.declared.hub.Hub.{Hub}
use Rattle.hubs.specs.declared.hub.Hub.TheVariants.{SR, W, CC, PX, HX}
use Rattle.hubs.specs.SetupsWords.Wiring.{HasWire, Wiring}
use Rattle.machine_sets.specs.BitSets.Rows.{leads}
use Rattle.machine_sets.specs.SpreadsWords.Links.{IsInRange, is_linked}
use Rattle.machine_sets.specs.declared.spreads.links.Link.{Link}
use Rattle.net.specs.HubRows.{has_at}
use Rattle.net.specs.Nets.{IsNetOf, NetRows, leads_by}
use Rattle.net.specs.Straight.{AreRunsOf, AreStraight, IsInside, IsRunWire, IsStraightWire, is_brought, is_brought_by, is_in_run, is_straight, tells_of_cycles}
use Rattle.net.specs.declared.straight.Straight.{Straight}
use Rattle.net.proofs.DirectWires.{linked-range}
use Rattle.net.proofs.KindRows.{SR_numbered, W_numbered, numbered_in}

-- a wire of a run brings the row of its column
brought-column : (run : Straight) (columns : List ℕ) (wheel row : ℕ) → is_brought_by columns wheel row run ≡ true
    → (has_at columns (run.column + (wheel - run.wheel)) row ≡ true) × (is_in_run (run.column + (wheel - run.wheel)) wheel run ≡ true)
brought-column run columns wheel row on =
    let both = and_parts _ _ on in
    let and_both = and_parts _ _ both.1 in
    (and_both.1, in_run run.column run.wheel run.count both.0 and_both.0) where
      in_run : (column first count : ℕ) → nat_le first wheel ≡ true → nat_lt (wheel - first) count ≡ true
          → is_in_run (column + (wheel - first)) wheel (record { column = column; wheel = first; count = count }) ≡ true
      in_run column first count low high = grind (arith, nat_tests, low, high)

-- what is brought to a wheel comes from a column
brought-from : (runs : List Straight) (columns : List ℕ) (wheel row : ℕ) → is_brought columns runs wheel row ≡ true
    → (column : ℕ) × (has_at columns column row ≡ true) × (is_straight runs column wheel ≡ true)
brought-from [] columns wheel row on = absurd (false≢true on)
brought-from (run ∷ runs) columns wheel row on = ⊎_elim
    (λ here. let found = brought-column run columns wheel row here in
    (run.column + (wheel - run.wheel), found.0, or_left _ _ found.1))
    (λ there. let found = brought-from runs columns wheel row there in
    (found.0, found.1, or_right (is_in_run found.0 wheel run) _ found.2))
    (or_cases (is_brought_by columns wheel row run) _ on)

pub brought-wired : (wiring : Wiring) (runs : List Straight) → AreStraight wiring runs → (columns : List ℕ) (wheel row : ℕ)
    → is_brought columns runs wheel row ≡ true
    → (column : ℕ) × (has_at columns column row ≡ true) × HasWire wiring (SR (column + 1)) (W (wheel + 1))
brought-wired wiring runs are columns wheel row on =
    let from = brought-from runs columns wheel row on in (from.0, from.1, are.wired from.0 wheel from.2)

-- and each column that a wire leads from brings its rows
pub brought-listed : (runs : List Straight) (columns : List ℕ) (column wheel row : ℕ) → is_straight runs column wheel ≡ true
    → has_at columns column row ≡ true → is_brought columns runs wheel row ≡ true
brought-listed [] columns column wheel row listed on = absurd (false≢true listed)
brought-listed (run ∷ runs) columns column wheel row listed on = ⊎_elim
    (λ here. or_left _ _ (by run.column run.wheel run.count here))
    (λ there. or_right (is_brought_by columns wheel row run) _ (brought-listed runs columns column wheel row there on))
    (or_cases (is_in_run column wheel run) _ listed) where
      by : (first wheels count : ℕ) → is_in_run column wheel (record { column = first; wheel = wheels; count = count }) ≡ true
          → is_brought_by columns wheel row (record { column = first; wheel = wheels; count = count }) ≡ true
      by first wheels count e =
          let low : nat_le wheels wheel ≡ true = grind (arith, nat_tests, e) in
          let high : nat_lt (wheel - wheels) count ≡ true = grind (arith, nat_tests, e) in
          let same : column ≡ first + (wheel - wheels) = grind (arith, nat_tests, e) in
          and_from _ _ low (and_from _ _ high (subst (λ (c : ℕ). has_at columns c row ≡ true) same on))

-- the exits with the last numbers tell of cycles
telling-exit : (exit : Hub) (n : ℕ) → HasNumber (letters_of exit) n → 1025 ≤ n → n ≤ 1040 → tells_of_cycles exit ≡ true
telling-exit CC n is low high = refl
telling-exit (PX level cycle) n is low high = refl
telling-exit (HX heading) n is low high = refl
telling-exit other n is low high = absurd (omega (arith, is.0, is.1, low, high))

-- a wire of the runs leads from a column in range to a wheel in range
in_range : (runs : List Straight) (column wheel : ℕ) → All IsInside runs → is_straight runs column wheel ≡ true
    → (column < 80) × (wheel < 120)
in_range [] column wheel inside on = absurd (false≢true on)
in_range (run ∷ runs) column wheel inside on = ⊎_elim here
    (in_range runs column wheel (All-tail IsInside run runs inside)) (or_cases (is_in_run column wheel run) _ on) where
      here : is_in_run column wheel run ≡ true → (column < 80) × (wheel < 120)
      here at = let is = All-head IsInside run runs inside in by run.column run.wheel run.count at is.columns is.wheels where
        by : (first wheels count : ℕ) → is_in_run column wheel (record { column = first; wheel = wheels; count = count }) ≡ true
            → first + count ≤ 80 → wheels + count ≤ 120 → (column < 80) × (wheel < 120)
        by first wheels count e few and_few = (grind (arith, nat_tests, e, few), grind (arith, nat_tests, e, and_few))

-- the runs of a net's rows are those of its setup
module _ (wiring : Wiring) (net : NetRows) (links : List Link) (is_net : IsNetOf wiring net) (range : All IsInRange links)
    (agree : (from to : ℕ) → is_linked links from to ≡ leads net.rows from to) (runs : List Straight) (are : AreRunsOf (leads net.rows) runs)
  where
    column_numbered : (column : ℕ) → column < 80 → number_of (SR (column + 1)) ≡ Some (80 + (column + 1))
    column_numbered column low = SR_numbered (column + 1) ∙ numbered_in 80 80 (column + 1) (omega arith) (omega (arith, low))

    wheel_numbered : (wheel : ℕ) → wheel < 120 → number_of (W (wheel + 1)) ≡ Some (1798 + (wheel + 1))
    wheel_numbered wheel low = W_numbered (wheel + 1) ∙ numbered_in 1798 120 (wheel + 1) (omega arith) (omega (arith, low))

    wired : (column wheel : ℕ) → is_straight runs column wheel ≡ true → HasWire wiring (SR (column + 1)) (W (wheel + 1))
    wired column wheel listed =
        let low = in_range runs column wheel are.inside listed in
        let from : 80 + column ≡ 80 + (column + 1) - 1 = omega arith in
        let to : 1798 + wheel ≡ 1798 + (wheel + 1) - 1 = omega arith in
        (is_net (SR (column + 1)) (W (wheel + 1))).0
        (rw (column_numbered column low.0, wheel_numbered wheel low.1, sym from, sym to) (are.wired column wheel listed))

    straight-wire : (exit entry : Hub) (wire : HasWire wiring exit entry) → IsRunWire runs (wire.number - 1) (wire.to - 1)
        → IsStraightWire runs exit entry
    straight-wire exit entry wire is =
        let column = wire.number - 1 - 80 in
        let wheel = wire.to - 1 - 1798 in
        let number : 80 + (column + 1) ≡ wire.number = omega (arith, is.ends.column) in
        let to : 1798 + (wheel + 1) ≡ wire.to = omega (arith, is.ends.wheel) in
        record {
          column = column;
          wheel = wheel;
          leaves = number_of-injective exit (SR (column + 1)) wire.number wire.numbered
              (column_numbered column (omega (arith, is.ends.column_end)) ∙ ap Some number);
          comes = number_of-injective entry (W (wheel + 1)) wire.to wire.entry_numbered
              (wheel_numbered wheel (omega (arith, is.ends.wheel_end)) ∙ ap Some to);
          listed = is.listed;
        }

    pub straight-wires : AreStraight wiring runs
    straight-wires = record {
      inside = are.inside;
      wired = wired;
      only = λ exit entry wire.
          let on : leads net.rows (wire.number - 1) (wire.to - 1) ≡ true =
          sym (ap (λ n. leads_by net.rows n (number_of entry)) wire.numbered ∙ ap (leads_by net.rows (Some wire.number)) wire.entry_numbered)
          ∙ (is_net exit entry).1 wire in
          let last = (linked-range links (wire.number - 1) (wire.to - 1) range (agree (wire.number - 1) (wire.to - 1) ∙ on)).0 in
          ⊎_elim
          (λ high.
          inl (telling-exit exit wire.number (number_of-kind exit wire.number wire.numbered) (omega (arith, high)) (omega (arith, last))))
          (λ is. inr (straight-wire exit entry wire is))
          (are.only (wire.number - 1) (wire.to - 1) on);
    }
