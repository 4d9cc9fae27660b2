-- What is reached by places is what is impulsed by letters: so the search makes the picture.
use Rattle.std.proofs.Common.{◌≡◌, ℕ, ◌+◌, ◌-◌, ◌<◌, ◌≤◌, true, List, Option, Some, None, ◌↔◌, ◌⊎◌, inl, inr, sym, ap, ◌∙◌, refl, subst, arith, length}
use Rattle.std.specs.Prelude.{is_some}
use Rattle.std.proofs.lemmas.Bool.{cases_lt, false≢true}
use Rattle.hubs.proofs.HubLemmas.{hub_numbered, in_range, number_of-range}
use Rattle.hubs.specs.Hubs.{number_of}
use Rattle.hubs.specs.SetupsWords.Wiring.{Wiring}
use Rattle.hubs.specs.declared.hub.Hub.{Hub}
use Rattle.machine_sets.proofs.BitSets.LedLemmas.{leads-past}
use Rattle.machine_sets.specs.BitSets.Bits.{has_place}
use Rattle.machine_sets.specs.BitSets.Reached.{IsReached}
use Rattle.machine_sets.specs.BitSets.Reached.IsReached.{emitting as emits, by_row, by_contact}
use Rattle.machine_sets.specs.BitSets.Rows.{leads}
use Rattle.net.specs.HubSets.{HubSet, has_hub, has_number}
use Rattle.net.specs.Impulsed.{IsImpulsed, IsPicture}
use Rattle.net.specs.Impulsed.IsImpulsed.{emitting, led_on}
use Rattle.net.specs.Nets.{IsNetOf, NetRows, leads_by, leads_on}
use Rattle.net.specs.declared.contacts.TheConstants.{CONTACTS}
use Rattle.net.proofs.PanelContacts.{IsInRuns, contact_by_place, contact_numbered, in_runs, of_runs}

-- a hub's test, by its place
has_hub-place : (set : HubSet) (hub : Hub) (place : ℕ) → number_of hub ≡ Some (place + 1) → has_hub set hub ≡ has_place set.words place
has_hub-place set hub place is =
    let index : place + 1 - 1 ≡ place = omega arith in
    ap (has_number set) is ∙ ap (has_place set.words) index

-- a hub's number, as its place and one
record HubPlace (hub : Hub) : Type 0 where
  place : ℕ
  numbered : number_of hub ≡ Some (place + 1)
  low : place < 1936

numbered_from : (hub : Hub) (n : ℕ) → number_of hub ≡ Some n → HubPlace hub
numbered_from hub n is =
    let range = number_of-range hub n is in
    let index : n ≡ n - 1 + 1 = omega (arith, range.0) in
    record { place = n - 1; numbered = is ∙ ap Some index; low = omega (arith, range.0, range.1) }

module _ (wiring : Wiring) (net : NetRows) (is_net : IsNetOf wiring net) (short : length net.rows ≤ 1040)
    (exits closed : HubSet) where
  leads_on-place : (from to : Hub) (g h : ℕ) → number_of from ≡ Some (g + 1) → number_of to ≡ Some (h + 1)
      → leads_on net from to ≡ leads net.rows g h
  leads_on-place from to g h is and_is =
      let index : g + 1 - 1 ≡ g = omega arith in
      let and_index : h + 1 - 1 ≡ h = omega arith in
      ap (λ n. leads_by net.rows n (number_of to)) is ∙ ap (leads_by net.rows (Some (g + 1))) and_is
      ∙ ap (λ n. leads net.rows n (h + 1 - 1)) index ∙ ap (leads net.rows g) and_index

  -- a place that a row or a contact leads from is that of a hub
  hub_at : (g : ℕ) → g < 1936 → (hub : Hub) × (number_of hub ≡ Some (g + 1))
  hub_at g low = hub_numbered (g + 1) (omega arith) (omega arith)

  from_low : (g h : ℕ) → leads net.rows g h ≡ true → g < 1936
  from_low g h at = by (cases_lt g 1040) where
    by : (g < 1040) ⊎ (1040 ≤ g) → g < 1936
    by (inl low) = omega arith
    by (inr high) = absurd (false≢true (sym (leads-past net.rows g h (omega arith)) ∙ at))

  common_low : (g h : ℕ) → IsInRuns CONTACTS g h → g < 1936
  common_low g h at = grind (arith, at)

  pub impulsed : {place : ℕ} → IsReached net.rows CONTACTS exits.words closed.words place → (hub : Hub)
      → number_of hub ≡ Some (place + 1) → IsImpulsed wiring (has_hub exits) (has_hub closed) hub
  impulsed (emits place at) hub is = emitting hub (in_range hub (place + 1) is) (has_hub-place exits hub place is ∙ at)
  impulsed (by_row from to at leads) hub is =
      let common = hub_at from (from_low from to leads) in
      led_on common.0 hub (impulsed at common.0 common.1)
      (inl ((is_net common.0 hub).0 (leads_on-place common.0 hub from to common.1 is ∙ leads)))
  impulsed (by_contact from to at contact shut) hub is =
      let runs = in_runs CONTACTS from to contact in
      let common = hub_at from (common_low from to runs) in
      led_on common.0 hub (impulsed at common.0 common.1)
      (inr (contact_by_place common.0 hub from to common.1 is runs, has_hub-place closed hub to is ∙ shut))

  pub reached : {hub : Hub} → IsImpulsed wiring (has_hub exits) (has_hub closed) hub → (place : ℕ)
      → number_of hub ≡ Some (place + 1) → IsReached net.rows CONTACTS exits.words closed.words place
  reached (emitting hub there at) place is = emits place (sym (has_hub-place exits hub place is) ∙ at)
  reached (led_on from to at (inl wire)) place is =
      let common = numbered_from from wire.number wire.numbered in
      by_row common.place place (reached at common.place common.numbered)
      (sym (leads_on-place from to common.place place common.numbered is) ∙ (is_net from to).1 wire)
  reached (led_on from to at (inr contact)) place is =
      let common = contact_numbered from to place contact.0 is in
      by_contact common.0 place (reached at common.0 common.1) (of_runs CONTACTS common.0 place common.2)
      (sym (has_hub-place closed to place is) ∙ contact.1)

  -- an impulsed hub is one of the panel
  impulsed_in_range : {hub : Hub} → IsImpulsed wiring (has_hub exits) (has_hub closed) hub → number_of hub ≡ None → ⊥
  impulsed_in_range (emitting hub there at) none = false≢true (sym (ap is_some none) ∙ there)
  impulsed_in_range (led_on from to at (inl wire)) none = let number = wire.entry_numbered in cc
  impulsed_in_range (led_on from to at (inr contact)) none = false≢true (sym (ap (has_number closed) none) ∙ contact.1)

  -- the set of what is reached is the picture
  pub IsPicture-reached : (out : HubSet)
      → ((place : ℕ) → place < 1936 → (has_place out.words place ≡ true) ↔ IsReached net.rows CONTACTS exits.words closed.words place)
      → IsPicture wiring (has_hub exits) (has_hub closed) (has_hub out)
  IsPicture-reached out found hub = by (number_of hub) refl where
    by : (number : Option ℕ) → number_of hub ≡ number
        → (has_hub out hub ≡ true) ↔ IsImpulsed wiring (has_hub exits) (has_hub closed) hub
    by (Some n) is =
        let at_place = numbered_from hub n is in
        let place = at_place.place in
        let same = has_hub-place out hub place at_place.numbered in
        let there = found place at_place.low in (
          λ at. impulsed (there.0 (sym same ∙ at)) hub at_place.numbered,
          λ at. same ∙ there.1 (reached at place at_place.numbered),
        )
    by None is = (
      λ at. absurd (false≢true (sym (ap (has_number out) is) ∙ at)),
      λ at. absurd (impulsed_in_range at is),
    )

-- the same, as the search finds it
pub picture_found :
    (wiring : Wiring) (rows : List (List ℕ)) (net : NetRows) (exit_words closed_words found_words out : List ℕ)
    (exits closed : HubSet)
    → record { rows = rows } ≡ net → record { words = exit_words } ≡ exits → closed_words ≡ closed.words
    → length rows ≤ 1040
    → ((place : ℕ) → (has_place found_words place ≡ true) ↔ IsReached rows CONTACTS exit_words closed_words place)
    → ((place : ℕ) → place < 1936 → has_place out place ≡ has_place found_words place)
    → IsNetOf wiring net → IsPicture wiring (has_hub exits) (has_hub closed) (has_hub (record { words = out }))
picture_found wiring rows net exit_words closed_words found_words out exits closed is_net_of is_exits is_closed short found kept is_net =
    let same : rows ≡ net.rows = ap (λ (n : NetRows). n.rows) is_net_of in
    let same_exits : exit_words ≡ exits.words = ap (λ (set : HubSet). set.words) is_exits in
    let by_rows = subst (λ (r : List (List ℕ)). (place : ℕ) → (has_place found_words place ≡ true) ↔ IsReached r CONTACTS exit_words closed_words place)
    same found in
    let by_exits = subst (λ (w : List ℕ). (place : ℕ) → (has_place found_words place ≡ true) ↔ IsReached net.rows CONTACTS w closed_words place)
    same_exits by_rows in
    let by_closed = subst (λ (w : List ℕ). (place : ℕ) → (has_place found_words place ≡ true) ↔ IsReached net.rows CONTACTS exits.words w place)
    is_closed by_exits in
    IsPicture-reached wiring net is_net (subst (λ (r : List (List ℕ)). length r ≤ 1040) same short) exits closed
    (record { words = out })
    (λ place low. (λ at. (by_closed place).0 (sym (kept place low) ∙ at), λ at. kept place low ∙ (by_closed place).1 at))
