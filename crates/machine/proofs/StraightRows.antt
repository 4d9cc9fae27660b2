-- Columns that come straight to wheels: the picture of each row, and that no unit but the wheels senses any of it.
use Rattle.std.proofs.Common.{◌≡◌, ◌∙◌, refl, sym, ap, inl, inr, subst, ℕ, suc, ◌+◌, ◌&&◌, ◌||◌, Bool, true, false, List, map, arith}
use Rattle.std.proofs.lemmas.Bool.{and_from, and_parts, false≢true, or_cases, or_left, or_right}
use Rattle.card_code.specs.Rows.{passing_place, rows}
use Rattle.card_code.specs.declared.row.Row.{Row as CardRow}
use Rattle.counters.specs.Counters.{counter_sensed}
use Rattle.hubs.specs.Hubs.{is_hub_in_range}
use Rattle.hubs.specs.declared.hub.Hub.{Hub}
use Rattle.hubs.specs.declared.hub.Hub.TheVariants.{CC, HX, PX, SR, W}
use Rattle.hubs.specs.SetupsWords.Wiring.{HasWire, Wiring}
use Rattle.net.proofs.ImpulsedLaws.{wires_make}
use Rattle.net.proofs.StraightRows.{brought-listed, brought-wired}
use Rattle.net.specs.HubRows.{has_at}
use Rattle.net.specs.Impulsed.{IsPicture}
use Rattle.net.specs.Laws.{IsFed}
use Rattle.net.specs.RowSets.{LeadsToNoContact, after_rows}
use Rattle.net.specs.Straight.{AreStraight, is_brought, tells_of_cycles}
use Rattle.net.specs.declared.cycle.Cycle.TheVariants.{Card}
use Rattle.net.specs.declared.cycle.Point.{Point}
use Rattle.net.specs.declared.cycle.Point.TheVariants.{Row}
use Rattle.net.specs.declared.straight.Straight.{Straight}
use Rattle.stations.specs.Punches.{AreColumnsAt}
use Rattle.storage_units.specs.Storage.{storage_sensed}
use Rattle.machine.specs.AllRows.{RunsRows}
use Rattle.machine.specs.Machine.{MachineState, closes, emits, sensed}
use Rattle.machine.proofs.AllRows.{common-silent, none-emitted, rows-alike, rows-heard, rows-reached, stations-alone, whole-heard}

-- what comes to the wheels at the points of rows
abbrev pub brings : List ℕ → List Straight → Point → Hub → Bool
brings columns runs (Row at) (W (suc wheel)) = is_brought columns runs wheel (passing_place at)
brings columns runs point hub = false

-- exits that tell of cycles emit at no row
tells-silent : (machine : MachineState) (at : CardRow) (hub : Hub) → tells_of_cycles hub ≡ true → emits machine Card (Row at) hub ≡ false
tells-silent machine at CC tells = none-emitted machine Card at CC (record { first = λ card row. refl; second = λ card row. refl; group = λ name place e. cc; storage = λ unit cycle row. refl; emitter = λ emitter row e. cc })
tells-silent machine at (PX level number) tells = none-emitted machine Card at (PX level number) (record { first = λ card row. refl; second = λ card row. refl; group = λ name place e. cc; storage = λ unit cycle row. refl; emitter = λ emitter row e. cc })
tells-silent machine at (HX heading) tells = none-emitted machine Card at (HX heading) (record { first = λ card row. refl; second = λ card row. refl; group = λ name place e. cc; storage = λ unit cycle row. refl; emitter = λ emitter row e. cc })
tells-silent machine at other tells = absurd (false≢true tells)

module _ (wiring : Wiring) (runs : List Straight) (columns : List ℕ) (machine : MachineState) (at : CardRow)
    (straight : AreStraight wiring runs) (direct : LeadsToNoContact wiring) (are : AreColumnsAt machine.stations.second columns) where
  -- second reading emits what its columns have
  second-emits : (column : ℕ) → emits machine Card (Row at) (SR (column + 1)) ≡ has_at columns column (passing_place at)
  second-emits column =
      stations-alone machine Card at (SR (column + 1)) (λ name place e. cc) (λ unit cycle row. refl) (λ emitter row e. cc)
      ∙ sym (are at column)

  -- what is brought to a wheel is fed to it
  brought-fed : (hub : Hub) → brings columns runs (Row at) hub ≡ true → IsFed wiring (emits machine Card (Row at)) hub
  brought-fed (W (suc wheel)) on =
      let found = brought-wired wiring runs straight columns wheel (passing_place at) on in
      let next : wheel + 1 ≡ suc wheel = omega arith in
      record {
        exit = SR (found.0 + 1);
        emits = second-emits found.0 ∙ found.1;
        wire = subst (λ v. HasWire wiring (SR (found.0 + 1)) (W v)) next found.2;
      }
  brought-fed other on = absurd (false≢true on)

  -- what is fed is brought to a wheel
  fed-brought : (hub : Hub) → IsFed wiring (emits machine Card (Row at)) hub → brings columns runs (Row at) hub ≡ true
  fed-brought hub fed = elim (straight.only fed.exit hub fed.wire) [
    | inl tells ↦ absurd (false≢true (sym (tells-silent machine at fed.exit tells) ∙ fed.emits))
    | inr wire ↦
        let next : wire.wheel + 1 ≡ suc wire.wheel = omega arith in
        ap (brings columns runs (Row at)) (wire.comes ∙ ap W next)
        ∙ brought-listed runs columns wire.column wire.wheel (passing_place at) wire.listed
        (sym (second-emits wire.column) ∙ ap (emits machine Card (Row at)) (sym wire.leaves) ∙ fed.emits)
  ]

  -- so what is brought to wheels, with what emits, is the picture of the row
  straight-picture : IsPicture wiring (emits machine Card (Row at)) (closes machine Card (Row at))
      (λ hub. brings columns runs (Row at) hub || (is_hub_in_range hub && emits machine Card (Row at) hub))
  straight-picture =
      wires_make wiring (emits machine Card (Row at)) (closes machine Card (Row at))
      (λ hub. brings columns runs (Row at) hub || (is_hub_in_range hub && emits machine Card (Row at) hub)) direct.leads
      (record { silent = λ common hub contact. common-silent machine Card at common hub contact; unwired = direct.unwired })
      (λ hub. (
        λ on. elim (or_cases (brings columns runs (Row at) hub) (is_hub_in_range hub && emits machine Card (Row at) hub) on) [
          | inl brought ↦ inr (brought-fed hub brought)
          | inr own ↦ inl (and_parts (is_hub_in_range hub) (emits machine Card (Row at) hub) own)
        ],
        λ impulsed. elim impulsed [
          | inl own ↦ or_right (brings columns runs (Row at) hub) _ (and_from (is_hub_in_range hub) (emits machine Card (Row at) hub) own.0 own.1)
          | inr fed ↦ or_left (brings columns runs (Row at) hub) _ (fed-brought hub fed)
        ],
      ))

-- groups and storage units sense no difference between silence and what is brought to wheels
pub brought-silent : (runs : List Straight) (columns : List ℕ) (silence : Point → Hub → Bool) (machine : MachineState)
    → ((at : CardRow) (hub : Hub) → silence (Row at) hub ≡ false)
    → ◌≡◌ {A = MachineState}
    (record machine {
      groups = map (λ group. after_rows counter_sensed Card silence group) machine.groups;
      storage = map (λ unit. after_rows storage_sensed Card silence unit) machine.storage;
    })
    (record machine {
      groups = map (λ group. after_rows counter_sensed Card (brings columns runs) group) machine.groups;
      storage = map (λ unit. after_rows storage_sensed Card (brings columns runs) unit) machine.storage;
    })
brought-silent runs columns silence machine silent =
    let group = rows-alike counter_sensed Card silence (brings columns runs)
    (λ at state i. counter_sensed state Card (Row at) (λ hub. silent at hub i)) rows in
    let unit = rows-alike storage_sensed Card silence (brings columns runs)
    (λ at state i. storage_sensed state Card (Row at) (λ hub. silent at hub i)) rows in
    λ i. record machine { groups = map (λ g. group g i) machine.groups; storage = map (λ u. unit u i) machine.storage }

-- so the rows are run
pub straight-run : (wiring : Wiring) (runs : List Straight) (columns : List ℕ) (old : MachineState) → AreStraight wiring runs
    → LeadsToNoContact wiring → AreColumnsAt old.stations.second columns → RunsRows wiring Card old (after_rows sensed Card (brings columns runs) old)
straight-run wiring runs columns old straight direct are =
    let whole : Point → Hub → Bool = λ point hub. brings columns runs point hub || (is_hub_in_range hub && emits old Card point hub) in
    subst (λ (m : MachineState). RunsRows wiring Card old m)
    (rows-heard Card whole (brings columns runs) (λ at hub. whole-heard old Card at (brings columns runs (Row at)) hub) old)
    (rows-reached wiring Card old whole (λ at. straight-picture wiring runs columns old at straight direct are))
