-- Each set of emitting exits has a picture. The panel's hubs are numbered, so it is grown number by number.
use Rattle.std.proofs.Common.{◌≡◌, ◌∙◌, ap, sym, refl, ℕ, ◌+◌, ◌-◌, ◌<◌, ◌≤◌, ◌&&◌, ◌||◌, Bool, true, false, Option, Some, None, ◌⊎◌, inl, inr, subst, arith}
use Rattle.std.specs.Prelude.{option_map, is_some}
use Rattle.std.proofs.lemmas.Bool.{and_from, and_parts, cases_lt, or_cases, false≢true, or_right, or_left}
use Rattle.std.proofs.lemmas.Option.{same_Some}
use Rattle.hubs.proofs.HubLemmas.{hub_numbered, in_range, number_of-injective, number_of-range}
use Rattle.hubs.proofs.SetupsWords.WiredLemmas.{HasWire-is_wired}
use Rattle.hubs.specs.Hubs.{is_hub_in_range, number_of}
use Rattle.hubs.specs.SetupsWords.Wiring.{Wiring, is_wired}
use Rattle.hubs.specs.declared.hub.Hub.{Hub}
use Rattle.hubs.specs.declared.hub.Hub.TheVariants.{CO, BAN, BAT, PIN, PIT, IX, CSD, CSZ, CI, BAC, PIC, IE, CSE, RS}
use Rattle.machine_sets.specs.BitSets.Contacts.{is_any_contact}
use Rattle.net.specs.Impulsed.{IsImpulsed, IsPicture, LeadsOn}
use Rattle.net.specs.Impulsed.IsImpulsed.{emitting, led_on}
use Rattle.net.specs.Panel.{contact_of}
use Rattle.net.specs.declared.contacts.TheConstants.{CONTACTS}
use Rattle.net.proofs.GrownSets.{IsGrown, grown_set}
use Rattle.net.proofs.ImpulsedLaws.{impulsed_within}
use Rattle.net.proofs.PanelContacts.{contact_by_place, contact_numbered, in_runs, of_runs}

-- each place of the panel is that of a hub
hub_low : (place : ℕ) → place < 1936 → (hub : Hub) × (number_of hub ≡ Some (place + 1))
hub_low place low = hub_numbered (place + 1) (omega arith) (omega (arith, low))

-- the hub at a place of the panel; after the last place it is the last hub
hub_found : (place : ℕ) → (place < 1936) ⊎ (1936 ≤ place) → Hub
hub_found place (inl low) = (hub_low place low).0
hub_found place (inr high) = RS

hub_at : ℕ → Hub
hub_at place = hub_found place (cases_lt place 1936)

hub_found-number : (place : ℕ) (side : (place < 1936) ⊎ (1936 ≤ place)) → place < 1936
    → number_of (hub_found place side) ≡ Some (place + 1)
unfolding hub_found
hub_found-number place (inl here) low = (hub_low place here).1
hub_found-number place (inr high) low = absurd (omega (arith, low, high))

hub_at-number : (place : ℕ) → place < 1936 → number_of (hub_at place) ≡ Some (place + 1)
unfolding hub_at
hub_at-number place low = hub_found-number place (cases_lt place 1936) low

-- the place of a hub that has a number
record HasPlace (hub : Hub) : Type 0 where
  place : ℕ
  low : place < 1936
  number : number_of hub ≡ Some (place + 1)
  at_place : hub_at place ≡ hub

place_of_number : (hub : Hub) (n : ℕ) → number_of hub ≡ Some n → HasPlace hub
place_of_number hub n is =
    let range = number_of-range hub n is in
    let from = range.0 in
    let to = range.1 in
    let low : n - 1 < 1936 = omega (arith, from, to) in
    let index : n ≡ n - 1 + 1 = omega (arith, from) in
    record {
      place = n - 1;
      low = low;
      number = is ∙ ap Some index;
      at_place = number_of-injective (hub_at (n - 1)) hub (n - 1 + 1) (hub_at-number (n - 1) low) (is ∙ ap Some index);
    }

number_in_range : (number : Option ℕ) → is_some number ≡ true → (n : ℕ) × (number ≡ Some n)
number_in_range (Some n) there = (n, refl)
number_in_range None there = cc

-- a hub of the panel has a place
place_in_range : (hub : Hub) → is_hub_in_range hub ≡ true → HasPlace hub
place_in_range hub there =
    let number = number_in_range (number_of hub) there in
    place_of_number hub number.0 number.1

-- where a contact leads to is a hub of the panel, as the hub that it leads from is
exit_numbered : (before common n : ℕ) (place : Option ℕ) → option_map (λ (p : ℕ). common + p) place ≡ Some n
    → is_some (option_map (λ (p : ℕ). before + p) place) ≡ true
exit_numbered before common n (Some p) is = refl
exit_numbered before common n None is = cc

same_common : (one other : Hub) (n : ℕ) → ◌≡◌ {A = Option Hub} (Some one) (Some other) → number_of other ≡ Some n → number_of one ≡ Some n
same_common one other n same is = let hub : one ≡ other = cc in ap number_of hub ∙ is

contact_in_range : (from to : Hub) (n : ℕ) → contact_of to ≡ Some from → number_of from ≡ Some n → is_hub_in_range to ≡ true
contact_in_range from (CO group) n is numbered =
    exit_numbered 358 1396 n _ (same_common (CI group) from n is numbered)
contact_in_range from (BAN group position) n is numbered =
    exit_numbered 390 1428 n _ (same_common (BAC group position) from n is numbered)
contact_in_range from (BAT group position) n is numbered =
    exit_numbered 518 1428 n _ (same_common (BAC group position) from n is numbered)
contact_in_range from (PIN pilot position) n is numbered =
    exit_numbered 646 1556 n _ (same_common (PIC pilot position) from n is numbered)
contact_in_range from (PIT pilot position) n is numbered =
    exit_numbered 694 1556 n _ (same_common (PIC pilot position) from n is numbered)
contact_in_range from (IX level position) n is numbered =
    exit_numbered 806 1692 n _ (same_common (IE level position) from n is numbered)
contact_in_range from (CSD split) n is numbered =
    exit_numbered 896 1782 n _ (same_common (CSE split) from n is numbered)
contact_in_range from (CSZ split) n is numbered =
    exit_numbered 912 1782 n _ (same_common (CSE split) from n is numbered)
contact_in_range from other n is numbered = cc

-- an impulsed hub is a hub of the panel
pub impulsed_in_range : (wiring : Wiring) (exits closed : Hub → Bool) {hub : Hub} → IsImpulsed wiring exits closed hub
    → is_hub_in_range hub ≡ true
impulsed_in_range wiring exits closed impulsed =
    impulsed_within wiring exits closed is_hub_in_range (λ hub there emits. there) leads_within impulsed
  where
    leads_within : (from to : Hub) → is_hub_in_range from ≡ true → LeadsOn wiring closed from to → is_hub_in_range to ≡ true
    leads_within from to there (inl wire) = in_range to wire.to wire.entry_numbered
    leads_within from to there (inr contact) =
        let number = number_in_range (number_of from) there in
        contact_in_range from to number.0 contact.0 number.1

same_place : (one other : ℕ) → ◌≡◌ {A = Option ℕ} (Some (one + 1)) (Some (other + 1)) → one ≡ other
same_place one other same = let numbers = same_Some _ _ same in omega (arith, numbers)

-- a set of numbers as a set of hubs; a hub out of range is in none
abbrev has_number_at : (ℕ → Bool) → Option ℕ → Bool
has_number_at set None = false
has_number_at set (Some number) = set (number - 1)

module _ (wiring : Wiring) (exits closed : Hub → Bool) where
  -- whether one place leads on to another
  leads_on : ℕ → ℕ → Bool
  leads_on from to =
      is_wired wiring (hub_at from) (hub_at to) || (is_any_contact CONTACTS from to && closed (hub_at to))

  -- so its hub leads on to the other's, and the other way round
  leads_on-hubs : (from to : ℕ) → from < 1936 → to < 1936 → leads_on from to ≡ true
      → LeadsOn wiring closed (hub_at from) (hub_at to)
  unfolding leads_on
  leads_on-hubs from to low low_to leads =
      elim (or_cases (is_wired wiring (hub_at from) (hub_at to)) (is_any_contact CONTACTS from to && closed (hub_at to)) leads) [
        | inl wired ↦ inl ((HasWire-is_wired wiring (hub_at from) (hub_at to)).0 wired)
        | inr contact ↦
            let both = and_parts (is_any_contact CONTACTS from to) (closed (hub_at to)) contact in
            inr (
              contact_by_place (hub_at from) (hub_at to) from to (hub_at-number from low) (hub_at-number to low_to)
                  (in_runs CONTACTS from to both.0),
              both.1,
            )
      ]

  leads_on-places : (from to : Hub) (one : HasPlace from) (other : HasPlace to) → LeadsOn wiring closed from to
      → leads_on one.place other.place ≡ true
  unfolding leads_on
  leads_on-places from to one other (inl wire) =
      or_left (is_wired wiring (hub_at one.place) (hub_at other.place)) _
      (rw (one.at_place, other.at_place) ((HasWire-is_wired wiring from to).1 wire))
  leads_on-places from to one other (inr contact) =
      let common = contact_numbered from to other.place contact.0 other.number in
      let number : Some (common.0 + 1) ≡ Some (one.place + 1) = sym common.1 ∙ one.number in
      let same : common.0 ≡ one.place = same_place common.0 one.place number in
      let runs : is_any_contact CONTACTS one.place other.place ≡ true =
      ap (λ (place : ℕ). is_any_contact CONTACTS place other.place) (sym same) ∙ of_runs CONTACTS common.0 other.place common.2 in
      or_right (is_wired wiring (hub_at one.place) (hub_at other.place)) _
      (and_from (is_any_contact CONTACTS one.place other.place) (closed (hub_at other.place)) runs
      (ap closed other.at_place ∙ contact.1))

  -- where a hub of the panel leads on to is a hub of the panel
  led_place : (from to : Hub) → HasPlace from → LeadsOn wiring closed from to → HasPlace to
  led_place from to one (inl wire) = place_of_number to wire.to wire.entry_numbered
  led_place from to one (inr contact) =
      place_in_range to (contact_in_range from to (one.place + 1) contact.0 one.number)

  abbrev IsImpulsedAt : ℕ → Type 0
  IsImpulsedAt place = IsImpulsed wiring exits closed (hub_at place)

  emits_at : ℕ → Bool
  emits_at place = exits (hub_at place)

  emitted : (place : ℕ) → place < 1936 → emits_at place ≡ true → IsImpulsedAt place
  unfolding emits_at
  emitted place low at = emitting (hub_at place) (in_range (hub_at place) (place + 1) (hub_at-number place low)) at

  -- the places of impulsed hubs: grown from those that emit, none of another hub
  impulsed_set : (all : ℕ → Bool) × IsGrown 1936 leads_on IsImpulsedAt emits_at all
  impulsed_set =
      grown_set 1936 leads_on IsImpulsedAt
      (λ from to low low_to at leads. led_on (hub_at from) (hub_at to) at (leads_on-hubs from to low low_to leads)) emits_at
      emitted

  has_at : (all : ℕ → Bool) (hub : Hub) (at : HasPlace hub) → has_number_at all (number_of hub) ≡ all at.place
  has_at all hub at = let index : at.place + 1 - 1 ≡ at.place = omega arith in ap (has_number_at all) at.number ∙ ap all index

  has_place : (all : ℕ → Bool) (hub : Hub) → has_number_at all (number_of hub) ≡ true → HasPlace hub
  has_place all hub has = by (number_of hub) refl has where
    by : (number : Option ℕ) → number_of hub ≡ number → has_number_at all number ≡ true → HasPlace hub
    by (Some n) is has = place_of_number hub n is
    by None is has = absurd (false≢true has)

  -- as a set of hubs they are the picture
  grown_picture : (all : ℕ → Bool) → IsGrown 1936 leads_on IsImpulsedAt emits_at all
      → IsPicture wiring exits closed (λ hub. has_number_at all (number_of hub))
  unfolding emits_at
  grown_picture all grown hub = (
    λ has.
        let at = has_place all hub has in
        subst (IsImpulsed wiring exits closed) at.at_place (grown.only at.place at.low (sym (has_at all hub at) ∙ has)),
    λ impulsed.
        impulsed_within wiring exits closed (λ other. has_number_at all (number_of other))
        (λ other there emits.
        let at = place_in_range other there in
        has_at all other at ∙ grown.starts at.place (ap exits at.at_place ∙ emits))
        (λ from to has leads.
        let one = has_place all from has in
        let other = led_place from to one leads in
        has_at all to other
        ∙ grown.follows one.place other.place one.low other.low (sym (has_at all from one) ∙ has)
        (leads_on-places from to one other leads))
        impulsed,
  )

-- each set of emitting exits has a picture
pub each_picture : (wiring : Wiring) (exits closed : Hub → Bool) → (picture : Hub → Bool) × IsPicture wiring exits closed picture
each_picture wiring exits closed =
    let found = impulsed_set wiring exits closed in
    ((λ hub. has_number_at found.0 (number_of hub)), grown_picture wiring exits closed found.0 found.1)
