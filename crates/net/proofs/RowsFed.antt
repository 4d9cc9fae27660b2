-- What comes of sets of rows that are spread along links, by the wires of a setup.
use Rattle.std.proofs.Common.{⊎_elim, ◌≡◌, ℕ, ◌+◌, ◌-◌, ◌<◌, ◌||◌, true, List, Option, Some, None, All, ◌↔◌, inl, inr, sym, ap, ◌∙◌, refl, arith}
use Rattle.std.specs.Prelude.{is_some}
use Rattle.std.proofs.lemmas.Bool.{false≢true, or_cases, or_left, or_right}
use Rattle.hubs.proofs.HubLemmas.{hub_numbered, in_range}
use Rattle.hubs.specs.Hubs.{number_of}
use Rattle.hubs.specs.declared.hub.Hub.{Hub}
use Rattle.hubs.specs.SetupsWords.Wiring.{Wiring, HasWire}
use Rattle.machine_sets.specs.BitSets.Rows.{leads}
use Rattle.net.specs.Laws.{EmitsOrIsFed}
use Rattle.net.specs.HubRows.{has_at_number, has_row_at}
use Rattle.machine_sets.specs.SpreadsWords.Links.{IsInRange, has_at, is_fed_at, is_linked}
use Rattle.net.specs.Nets.{IsNetOf, NetRows, leads_by}
use Rattle.machine_sets.specs.declared.spreads.links.Link.{Link}
use Rattle.machine_sets.proofs.SpreadsWords.LinkLemmas.{fed-found, fed-from}

-- a row that is spread along the links of a setup's net comes along its wires
pub row-fed : (wiring : Wiring) (net : NetRows) (links : List Link) (old new : List ℕ) (row : ℕ) → IsNetOf wiring net
    → All IsInRange links → ((from to : ℕ) → is_linked links from to ≡ leads net.rows from to)
    → ((place : ℕ) → has_at new place row ≡ (has_at old place row || is_fed_at links old place row))
    → (hub : Hub) → (has_row_at new row hub ≡ true) ↔ EmitsOrIsFed wiring (has_row_at old row) hub
row-fed wiring net links old new row is_net range agree spreads hub = by (number_of hub) refl where
  by_number : (from to : Hub) (g h : ℕ) → number_of from ≡ Some g → number_of to ≡ Some h
      → (leads net.rows (g - 1) (h - 1) ≡ true) ↔ HasWire wiring from to
  by_number from to g h is also =
      let same : leads_by net.rows (number_of from) (number_of to) ≡ leads net.rows (g - 1) (h - 1)
      = ap (λ n. leads_by net.rows n (number_of to)) is ∙ ap (leads_by net.rows (Some g)) also in
      (λ at. (is_net from to).0 (same ∙ at), λ wire. sym same ∙ (is_net from to).1 wire)

  fed_by : (n from : ℕ) → number_of hub ≡ Some n → from < 1040 → is_linked links from (n - 1) ≡ true → has_at old from row ≡ true
      → EmitsOrIsFed wiring (has_row_at old row) hub
  fed_by n from is low linked at =
      let exit = hub_numbered (from + 1) (omega arith) (omega (arith, low)) in
      let index : from + 1 - 1 ≡ from = omega arith in
      inr (record {
        exit = exit.0;
        emits = ap (has_at_number old row) exit.1 ∙ ap (λ (f : ℕ). has_at old f row) index ∙ at;
        wire =
            (by_number exit.0 hub (from + 1) n exit.1 is).0
            (ap (λ (f : ℕ). leads net.rows f (n - 1)) index ∙ sym (agree from (n - 1)) ∙ linked);
      })

  there : (n : ℕ) → number_of hub ≡ Some n → has_at new (n - 1) row ≡ true → EmitsOrIsFed wiring (has_row_at old row) hub
  there n is at =
      ⊎_elim
      (λ emits. inl (in_range hub n is, ap (has_at_number old row) is ∙ emits))
      (λ fed.
      let found = fed-found links old (n - 1) row range fed in
      fed_by n found.0 is found.1 found.2 found.3)
      (or_cases (has_at old (n - 1) row) (is_fed_at links old (n - 1) row) (sym (spreads (n - 1)) ∙ at))

  back : (n : ℕ) → number_of hub ≡ Some n → EmitsOrIsFed wiring (has_row_at old row) hub → has_at new (n - 1) row ≡ true
  back n is (inl emits) = spreads (n - 1) ∙ or_left _ _ (sym (ap (has_at_number old row) is) ∙ emits.1)
  back n is (inr fed) =
      let wire = fed.wire in
      let linked = agree (wire.number - 1) (n - 1) ∙ (by_number fed.exit hub wire.number n wire.numbered is).1 wire in
      let at = sym (ap (has_at_number old row) wire.numbered) ∙ fed.emits in
      spreads (n - 1)
      ∙ or_right (has_at old (n - 1) row) _ (fed-from links old (wire.number - 1) (n - 1) row linked at)

  by : (number : Option ℕ) → number_of hub ≡ number → (has_row_at new row hub ≡ true) ↔ EmitsOrIsFed wiring (has_row_at old row) hub
  by (Some n) is = (
    λ at. there n is (sym (ap (has_at_number new row) is) ∙ at),
    λ way. ap (has_at_number new row) is ∙ back n is way,
  )
  by None is = (
    λ at. absurd (false≢true (sym (ap (has_at_number new row) is) ∙ at)),
    λ way. absurd (no_way way),
  ) where
    no_way : EmitsOrIsFed wiring (has_row_at old row) hub → ⊥
    no_way (inl emits) = false≢true (sym (ap is_some is) ∙ emits.0)
    no_way (inr fed) = let n = fed.wire.entry_numbered in cc
