-- What exits and the wires from them make is the picture where no contact passes anything on.
use Rattle.std.proofs.Common.{◌≡◌, ◌∙◌, ℕ, ◌+◌, ◌-◌, ◌<◌, ◌≤◌, Bool, true, false, List, [], Option, Some, None, inl, inr, drop, sym, ap, refl, arith}
use Rattle.std.proofs.lemmas.Bool.{false≢true}
use Rattle.std.proofs.lemmas.Option.{same_Some}
use Rattle.hubs.proofs.HubLemmas.{number_of-kind, number_of-range}
use Rattle.hubs.specs.Hubs.{number_of}
use Rattle.hubs.specs.declared.hub.Hub.{Hub}
use Rattle.hubs.specs.declared.hub.Hub.TheVariants.{CO, BAN, BAT, PIN, PIT, IX, CSD, CSZ, CI}
use Rattle.hubs.specs.SetupsWords.Wiring.{Wiring}
use Rattle.machine_sets.proofs.BitSets.PlaceLemmas.{has_place-past}
use Rattle.machine_sets.specs.BitSets.Bits.{has_place}
use Rattle.machine_sets.specs.BitSets.Contacts.{AreCommons, ArePlacesApart}
use Rattle.net.specs.HubSets.{has_hub, has_number}
use Rattle.net.specs.Impulsed.{IsPicture}
use Rattle.net.specs.Panel.{contact_of}
use Rattle.net.specs.Passing.{PassesNoCarry}
use Rattle.net.specs.declared.contacts.TheConstants.{CONTACTS}
use Rattle.net.proofs.DirectWires.{exit_numbered}
use Rattle.net.proofs.ImpulsedLaws.{picture_more}
use Rattle.net.proofs.PanelContacts.{IsInRuns, contact_numbered, of_runs}

-- no contact is closed by a set without words
none-closed : (hub : Hub) → has_hub (record { words = [] }) hub ≡ false
none-closed hub = by (number_of hub) where
  by : (number : Option ℕ) → has_number (record { words = [] }) number ≡ false
  by (Some n) = has_place-past [] (n - 1) (omega arith)
  by None = refl

-- contacts but those of carries are in the runs after the first
later_runs : (g h : ℕ) → IsInRuns CONTACTS g h → 390 ≤ h → IsInRuns (drop 1 CONTACTS) g h
later_runs g h (inl carry) high = let low = carry.1 in absurd (omega (arith, low, high))
later_runs g h (inr later) high = later

module _ (others words : List ℕ) (are : AreCommons (drop 1 CONTACTS) others) (apart : ArePlacesApart others words) where
  index : (n g : ℕ) → n ≡ g + 1 → n - 1 ≡ g
  index n g e = omega (arith, e)

  late : (h : ℕ) → 390 < h + 1 → 390 ≤ h
  late h e = omega (arith, e)

  below : (g n : ℕ) → n - 1 ≡ g → 1 ≤ n → n ≤ 1936 → g < 1984
  below g n e first last = omega (arith, e, first, last)

  -- a common hub whose contact's exit stands after those of the carries isn't in the set
  out-later : (from to : Hub) → contact_of to ≡ Some from → ((n : ℕ) → number_of to ≡ Some n → 390 < n)
      → has_hub (record { words = words }) from ≡ true → ⊥
  out-later from to contact after on = by (number_of from) refl where
    by : (number : Option ℕ) → number_of from ≡ number → ⊥
    by None is = false≢true (sym (ap (has_number (record { words = words })) is) ∙ on)
    by (Some n) is =
        let at = exit_numbered to from n contact is in
        let found = contact_numbered from to at.0 contact at.1 in
        let range = number_of-range from n is in
        let place : n - 1 ≡ found.0 = index n found.0 (same_Some _ _ (sym is ∙ found.1)) in
        let there : has_place words (n - 1) ≡ true = sym (ap (has_number (record { words = words })) is) ∙ on in
        let high : 390 ≤ at.0 = late at.0 (after (at.0 + 1) at.1) in
        let common : has_place others found.0 ≡ true =
        are found.0 at.0 (below found.0 n place range.0 range.1)
        (of_runs (drop 1 CONTACTS) found.0 at.0 (later_runs found.0 at.0 found.2 high)) in
        false≢true (sym (apart found.0 common) ∙ ap (λ (p : ℕ). has_place words p) (sym place) ∙ there)

  -- no contact of an impulsed hub is closed
  none-shut : (closed : Hub → Bool) → PassesNoCarry closed (has_hub (record { words = words })) → (from to : Hub)
      → contact_of to ≡ Some from → has_hub (record { words = words }) from ≡ true → closed to ≡ true → ⊥
  none-shut closed idle from (CO group) contact on shut =
      let same : CI group ≡ from = same_Some _ _ contact in
      false≢true (sym (idle group (ap (has_hub (record { words = words })) same ∙ on)) ∙ shut)
  none-shut closed idle from (BAN group position) contact on shut =
      out-later from (BAN group position) contact
      (λ n is. let kind = number_of-kind (BAN group position) n is in omega (arith, kind.0)) on
  none-shut closed idle from (BAT group position) contact on shut =
      out-later from (BAT group position) contact
      (λ n is. let kind = number_of-kind (BAT group position) n is in omega (arith, kind.0)) on
  none-shut closed idle from (PIN pilot position) contact on shut =
      out-later from (PIN pilot position) contact
      (λ n is. let kind = number_of-kind (PIN pilot position) n is in omega (arith, kind.0)) on
  none-shut closed idle from (PIT pilot position) contact on shut =
      out-later from (PIT pilot position) contact
      (λ n is. let kind = number_of-kind (PIT pilot position) n is in omega (arith, kind.0)) on
  none-shut closed idle from (IX level position) contact on shut =
      out-later from (IX level position) contact
      (λ n is. let kind = number_of-kind (IX level position) n is in omega (arith, kind.0)) on
  none-shut closed idle from (CSD split) contact on shut =
      out-later from (CSD split) contact (λ n is. let kind = number_of-kind (CSD split) n is in omega (arith, kind.0)) on
  none-shut closed idle from (CSZ split) contact on shut =
      out-later from (CSZ split) contact (λ n is. let kind = number_of-kind (CSZ split) n is in omega (arith, kind.0)) on
  none-shut closed idle from other contact on shut = cc

  pub picture_by_wires : (wiring : Wiring) (exits closed : Hub → Bool)
      → PassesNoCarry closed (has_hub (record { words = words }))
      → IsPicture wiring exits (has_hub (record { words = [] })) (has_hub (record { words = words }))
      → IsPicture wiring exits closed (has_hub (record { words = words }))
  picture_by_wires wiring exits closed idle is =
      picture_more wiring exits (has_hub (record { words = [] })) closed (has_hub (record { words = words }))
      (λ hub shut. absurd (false≢true (sym (none-closed hub) ∙ shut)))
      (λ from to contact on shut. absurd (none-shut closed idle from to contact on shut)) is
