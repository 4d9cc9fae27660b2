-- What leads on between hubs, by their numbers.
use Rattle.std.proofs.Common.{⊎_elim, ◌≡◌, ◌≤◌, ◌-◌, ◌∙◌, sym, ap, subst, ℕ, Bool, true, Some, inr}
use Rattle.std.proofs.lemmas.Option.{same_Some}
use Rattle.hubs.proofs.HubLemmas.{hub_numbered, number_of-injective, number_of-range}
use Rattle.hubs.specs.Hubs.{number_of}
use Rattle.hubs.specs.declared.hub.Hub.{Hub}
use Rattle.hubs.specs.SetupsWords.Wiring.{Wiring, HasWire}
use Rattle.net.specs.Panel.{contact_of}
use Rattle.net.specs.Impulsed.{LeadsOn}
use Rattle.machine_sets.specs.BitSets.Bits.{has_place}
use Rattle.net.specs.HubSets.{HubSet, has_hub, has_number}
use Rattle.explain_wheels.specs.WaysWords.Tables.{LeadsAt, StartsAt}

-- between two hubs with these numbers the one leads on to the other
pub leads_between : (wiring : Wiring) (closed : Hub → Bool) (exit entry : Hub) (from to : ℕ) → number_of exit ≡ Some from
    → number_of entry ≡ Some to → LeadsAt wiring closed from to → LeadsOn wiring closed exit entry
leads_between wiring closed exit entry from to is and_is at =
    let one : at.exit ≡ exit = number_of-injective at.exit exit from at.from_numbered is in
    let other : at.entry ≡ entry = number_of-injective at.entry entry to at.to_numbered and_is in
    subst (λ (h : Hub). LeadsOn wiring closed h entry) one (subst (λ (h : Hub). LeadsOn wiring closed at.exit h) other at.leads)

-- where no wire leads, a contact does, from the common hub with the first number
pub common_numbered : (wiring : Wiring) (closed : Hub → Bool) (exit entry common : Hub) (from to : ℕ) → number_of exit ≡ Some from
    → number_of entry ≡ Some to → contact_of entry ≡ Some common → (HasWire wiring exit entry → ⊥)
    → LeadsAt wiring closed from to → number_of common ≡ Some from
common_numbered wiring closed exit entry common from to is and_is contact unwired at =
    ⊎_elim
    (λ wire. absurd (unwired wire))
    (λ by. let same : exit ≡ common = same_Some _ _ (sym by.0 ∙ contact) in
    ap number_of (sym same) ∙ is)
    (leads_between wiring closed exit entry from to is and_is at)

-- a closed contact from the common hub with the first number leads on
pub led_by_contact : (wiring : Wiring) (closed : Hub → Bool) (exit entry common : Hub) (from to : ℕ) → number_of exit ≡ Some from
    → number_of entry ≡ Some to → contact_of entry ≡ Some common → closed entry ≡ true → number_of common ≡ Some from
    → LeadsAt wiring closed from to
led_by_contact wiring closed exit entry common from to is and_is contact shut numbered = record {
  exit = exit;
  entry = entry;
  from_numbered = is;
  to_numbered = and_is;
  leads =
      let same : common ≡ exit = number_of-injective common exit from numbered is in
      inr (contact ∙ ap Some same, shut);
}

-- where a stored set has a number, a way starts there, and only there
pub starts_numbered : (exits : HubSet) (n : ℕ) → 1 ≤ n → n ≤ 1936 → has_place exits.words (n - 1) ≡ true → StartsAt (has_hub exits) n
starts_numbered exits n low high has = let found = hub_numbered n low high in
    record { hub = found.0; numbered = found.1; emits = ap (has_number exits) found.1 ∙ has }

pub starts_in_range : (exits : Hub → Bool) (n : ℕ) → StartsAt exits n → (1 ≤ n) × (n ≤ 1936)
starts_in_range exits n at = number_of-range at.hub n at.numbered

pub starts_has : (exits : HubSet) (n : ℕ) → StartsAt (has_hub exits) n → has_place exits.words (n - 1) ≡ true
starts_has exits n at = ap (has_number exits) (sym at.numbered) ∙ at.emits
