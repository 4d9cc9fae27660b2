-- Laws of impulsed hubs, for those who show hubs impulsed or not.
use Rattle.std.proofs.Common.{◌≡◌, ◌∙◌, refl, sym, Bool, true, false, not, ◌&&◌, ◌↔◌, Some, inl, inr}
use Rattle.std.proofs.lemmas.Bool.{and_parts, false≢true}
use Rattle.hubs.specs.HubTable.HubTable.{row_of}
use Rattle.hubs.specs.Hubs.{is_entry_hub, is_exit_hub, is_hub_in_range, letters_of}
use Rattle.hubs.specs.SetupsWords.Wiring.{LeadsToEntries, Wiring}
use Rattle.hubs.specs.declared.hub.Hub.{Hub}
use Rattle.net.specs.Impulsed.{IsImpulsed, IsPicture}
use Rattle.net.specs.Impulsed.IsImpulsed.{emitting, led_on}
use Rattle.net.specs.Laws.{AreAllOpen, EmitsOrIsFed, FollowsLeads, HoldsHubs, IsLeastSet, WiresMakeThePicture}
use Rattle.net.specs.Panel.{contact_of}

-- a set that holds the exits and what its hubs lead on to holds the impulsed hubs
pub impulsed_within :
    (wiring : Wiring) (exits closed set : Hub → Bool) → HoldsHubs exits set → FollowsLeads wiring closed set
    → {hub : Hub} → IsImpulsed wiring exits closed hub → set hub ≡ true
impulsed_within wiring exits closed set holds follows (emitting hub there at) = holds hub there at
impulsed_within wiring exits closed set holds follows (led_on from to at leads) =
    follows from to (impulsed_within wiring exits closed set holds follows at) leads

-- the impulsed hubs are the least set
pub impulsed_least : (wiring : Wiring) (exits closed : Hub → Bool) → IsLeastSet wiring exits closed
impulsed_least wiring exits closed = record {
  holds = emitting;
  follows = led_on;
  within = λ set holds follows hub at. impulsed_within wiring exits closed set holds follows at;
}

-- what is impulsed stays so where more emits and more is closed
pub impulsed_more : (wiring : Wiring) (exits others closed shut : Hub → Bool)
    → ((hub : Hub) → exits hub ≡ true → others hub ≡ true) → ((hub : Hub) → closed hub ≡ true → shut hub ≡ true) → {hub : Hub}
    → IsImpulsed wiring exits closed hub → IsImpulsed wiring others shut hub
impulsed_more wiring exits others closed shut more also (emitting hub there emits) = emitting hub there (more hub emits)
impulsed_more wiring exits others closed shut more also (led_on from to at (inl wire)) =
    led_on from to (impulsed_more wiring exits others closed shut more also at) (inl wire)
impulsed_more wiring exits others closed shut more also (led_on from to at (inr contact)) =
    led_on from to (impulsed_more wiring exits others closed shut more also at) (inr (contact.0, also to contact.1))

-- so a picture is one too where more contacts are closed but none of these at an impulsed hub
pub picture_more : (wiring : Wiring) (exits closed shut picture : Hub → Bool)
    → ((hub : Hub) → closed hub ≡ true → shut hub ≡ true)
    → ((from to : Hub) → contact_of to ≡ Some from → picture from ≡ true → shut to ≡ true → closed to ≡ true)
    → IsPicture wiring exits closed picture → IsPicture wiring exits shut picture
picture_more wiring exits closed shut picture also only is hub = (
  λ on. impulsed_more wiring exits exits closed shut (λ h emits. emits) also ((is hub).0 on),
  λ at. impulsed_within wiring exits shut picture (λ h there emits. (is h).1 (emitting h there emits)) follows at,
)
  where
    follows : FollowsLeads wiring shut picture
    follows from to on (inl wire) = (is to).1 (led_on from to ((is from).0 on) (inl wire))
    follows from to on (inr contact) =
        (is to).1 (led_on from to ((is from).0 on) (inr (contact.0, only from to contact.0 on contact.1)))

-- where nothing emits nothing is impulsed
nothing_impulsed : (wiring : Wiring) (exits closed : Hub → Bool) → ((hub : Hub) → exits hub ≡ false) → {hub : Hub}
    → IsImpulsed wiring exits closed hub → ⊥
nothing_impulsed wiring exits closed silent (emitting hub there emits) = false≢true (sym (silent hub) ∙ emits)
nothing_impulsed wiring exits closed silent (led_on from to at leads) = nothing_impulsed wiring exits closed silent at

-- so its picture is empty too
pub empty_picture : (wiring : Wiring) (exits closed : Hub → Bool) → ((hub : Hub) → exits hub ≡ false) → IsPicture wiring exits closed exits
empty_picture wiring exits closed silent hub = (
  λ emits. absurd (false≢true (sym (silent hub) ∙ emits)),
  λ at. absurd (nothing_impulsed wiring exits closed silent at),
)

-- no hub is an exit and an entry
pub no_exit_is_entry : (hub : Hub) → is_exit_hub hub ≡ true → is_entry_hub hub ≡ true → ⊥
no_exit_is_entry hub exit entry = by (row_of (letters_of hub)).is_exit (is_hub_in_range hub) exit entry where
  by : (a b : Bool) → (a && b) ≡ true → (not a && b) ≡ true → ⊥
  by true b e f = cc
  by false b e f = cc

-- where each wire leads from an exit to an entry, and no contact is closed, an impulsed hub emits or is fed
fed_from_impulsed :
    (wiring : Wiring) (exits closed : Hub → Bool) → LeadsToEntries wiring → AreAllOpen closed → {hub : Hub}
    → IsImpulsed wiring exits closed hub → EmitsOrIsFed wiring exits hub
fed_from_impulsed wiring exits closed to_entries open_all (emitting hub there at) = inl (there, at)
fed_from_impulsed wiring exits closed to_entries open_all (led_on from to at (inl wire)) =
    elim (fed_from_impulsed wiring exits closed to_entries open_all at) [
      | inl emits ↦ inr (record { exit = from; emits = emits.1; wire = wire })
      | inr fed ↦ absurd (no_exit_is_entry from (to_entries from to wire).0 (to_entries fed.exit from fed.wire).1)
    ]
fed_from_impulsed wiring exits closed to_entries open_all (led_on from to at (inr contact)) =
    absurd (false≢true (sym (open_all to) ∙ contact.1))

-- a hub that emits or is fed is impulsed
impulsed_from_fed :
    (wiring : Wiring) (exits closed : Hub → Bool) (hub : Hub) → LeadsToEntries wiring → EmitsOrIsFed wiring exits hub
    → IsImpulsed wiring exits closed hub
impulsed_from_fed wiring exits closed hub to_entries (inl emits) = emitting hub emits.0 emits.1
impulsed_from_fed wiring exits closed hub to_entries (inr fed) =
    let exit = (to_entries fed.exit hub fed.wire).0 in
    led_on fed.exit hub
    (emitting fed.exit (and_parts (row_of (letters_of fed.exit)).is_exit (is_hub_in_range fed.exit) exit).1 fed.emits)
    (inl fed.wire)

-- so a hub is impulsed there exactly where it emits or is fed
pub impulsed_fed :
    (wiring : Wiring) (exits closed : Hub → Bool) (hub : Hub) → LeadsToEntries wiring → AreAllOpen closed
    → IsImpulsed wiring exits closed hub ↔ EmitsOrIsFed wiring exits hub
impulsed_fed wiring exits closed hub to_entries open_all = (
  λ at. fed_from_impulsed wiring exits closed to_entries open_all at,
  impulsed_from_fed wiring exits closed hub to_entries,
)

-- where no contact is reached, wires make the picture
pub wires_make : WiresMakeThePicture
wires_make wiring exits closed picture to_entries reaches is =
    picture_more wiring exits (λ hub. false) closed picture (λ hub never. absurd (false≢true never))
    (λ common hub contact on shut. absurd (apart common hub contact ((is common).0 on)))
    (λ hub. (λ on. (open_fed hub).1 ((is hub).0 on), λ at. (is hub).1 ((open_fed hub).0 at))) where
      apart : (common hub : Hub) → contact_of hub ≡ Some common → EmitsOrIsFed wiring exits common → ⊥
      apart common hub contact (inl emits) = false≢true (sym (reaches.silent common hub contact) ∙ emits.1)
      apart common hub contact (inr fed) = reaches.unwired common hub fed.exit contact fed.wire

      open_fed : (hub : Hub) → IsImpulsed wiring exits (λ other. false) hub ↔ EmitsOrIsFed wiring exits hub
      open_fed hub = impulsed_fed wiring exits (λ other. false) hub to_entries (λ other. refl)
