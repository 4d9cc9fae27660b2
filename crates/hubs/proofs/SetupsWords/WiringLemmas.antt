-- Setups whose wires are the same, or one more.
use Rattle.std.proofs.Common.{◌≡◌, ◌≢◌, ◌↔◌, ◌⊎◌, ⊎_elim, inl, inr, ap, sym, ◌∙◌, ℕ, true, false, Some, None, is_some}
use Rattle.std.proofs.Common.{[], ◌∷◌, ◌++◌, Contains, slice_index_or}
use Rattle.std.proofs.lemmas.Bool.{and_right, cases_eq}
use Rattle.std.proofs.lemmas.Option.{same_Some}
use Rattle.std.proofs.lemmas.List.Elements.{All-push, Contains-append_left, Contains-push, Contains-push_cases}
use Rattle.hubs.proofs.HubLemmas.{number_of-injective}
use Rattle.hubs.specs.Carries.{do_wires_agree}
use Rattle.hubs.specs.Hubs.{number_of, is_exit_hub, is_entry_hub}
use Rattle.hubs.proofs.SetupsWords.CarryWires.{agree-own, agree-turned}
use Rattle.hubs.specs.SetupsWords.Wiring.{CanJoin, Wiring, HasWire, AddsWire, SameWires, IsEntryNumber, ListsEntries, IsLawfulSetup}
use Rattle.hubs.specs.declared.hub.Hub.{Hub}

-- a hub without a number is no entry
pub unnumbered_entry : (hub : Hub) → number_of hub ≡ None → is_entry_hub hub ≡ false
unnumbered_entry hub unnumbered = and_right _ _ (ap is_some unnumbered)

-- at each number the same numbers of entries
abbrev pub IsSameByNumber : Wiring → Wiring → Type 0
IsSameByNumber old new = (n : ℕ) → slice_index_or new.wires n [] ≡ slice_index_or old.wires n []

pub HasWire-same : {old new : Wiring} {exit entry : Hub} → IsSameByNumber old new → HasWire new exit entry
    → HasWire old exit entry
HasWire-same same wire =
    record {
      number = wire.number;
      to = wire.to;
      numbered = wire.numbered;
      entry_numbered = wire.entry_numbered;
      listed = rw (same wire.number) at wire.listed;
    }

pub SameWires-by_number : (old new : Wiring) → IsSameByNumber old new → SameWires old new
SameWires-by_number old new same exit entry =
    (λ wire. HasWire-same same wire, λ wire. HasWire-same (λ n. sym (same n)) wire)

-- a setup whose rows are the same is as lawful
pub IsLawfulSetup-same : (old new : Wiring) → IsSameByNumber old new → IsLawfulSetup old → IsLawfulSetup new
IsLawfulSetup-same old new same setup =
    record {
      lawful = record {
        leads = λ exit entry wire. setup.lawful.leads exit entry (HasWire-same same wire);
        carries = record {
          alone = λ exit entry wire. setup.lawful.carries.alone exit entry (HasWire-same same wire);
          together = λ exit entry other next wire also.
              setup.lawful.carries.together exit entry other next (HasWire-same same wire) (HasWire-same same also);
        };
      };
      listed = λ n. rw (same n) (setup.listed n);
    }

-- the numbers at an exit's number are those of the entries that its wires lead to
pub HasWire-by_number : (wiring : Wiring) (exit entry : Hub) (number to : ℕ) → number_of exit ≡ Some number
    → number_of entry ≡ Some to → Contains (slice_index_or wiring.wires number []) to ↔ HasWire wiring exit entry
HasWire-by_number wiring exit entry number to numbered entry_numbered = (made, found) where
  made : Contains (slice_index_or wiring.wires number []) to → HasWire wiring exit entry
  made listed =
      record { number = number; to = to; numbered = numbered; entry_numbered = entry_numbered; listed = listed }

  found : HasWire wiring exit entry → Contains (slice_index_or wiring.wires number []) to
  found wire =
      let same : wire.number ≡ number = same_Some _ _ (sym wire.numbered ∙ numbered) in
      let same_to : wire.to ≡ to = same_Some _ _ (sym wire.entry_numbered ∙ entry_numbered) in
      rw (same, same_to) at wire.listed

-- one number more in the row of an exit
module _ (old new : Wiring) (exit entry : Hub) (number to : ℕ) (numbered : number_of exit ≡ Some number)
    (entry_numbered : number_of entry ≡ Some to)
    (here : slice_index_or new.wires number [] ≡ slice_index_or old.wires number [] ++ to ∷ [])
    (others : (n : ℕ) → n ≢ number → slice_index_or new.wires n [] ≡ slice_index_or old.wires n []) where
  listed_before : (n other : ℕ) → Contains (slice_index_or new.wires n []) other
      → Contains (slice_index_or old.wires n []) other ⊎ ((n ≡ number) × (other ≡ to))
  listed_before n other listed =
      ⊎_elim
      (λ (is : n ≡ number).
      let row = rw (is, here) at listed in
      ⊎_elim (λ before. inl (rw is before)) (λ last. inr (is, sym last)) (Contains-push_cases _ to other row))
      (λ elsewhere. inl (rw (others n elsewhere) at listed))
      (cases_eq n number)

  still_listed : (n other : ℕ) → Contains (slice_index_or old.wires n []) other
      → Contains (slice_index_or new.wires n []) other
  still_listed n other listed =
      ⊎_elim
      (λ (is : n ≡ number). rw (is, here) (Contains-append_left _ _ _ (rw is at listed)))
      (λ elsewhere. rw (others n elsewhere) listed)
      (cases_eq n number)

  -- is one wire more
  pub AddsWire-by_number : AddsWire old new exit entry
  AddsWire-by_number one other = (gone, come) where
    gone : HasWire new one other → HasWire old one other ⊎ ((one ≡ exit) × (other ≡ entry))
    gone wire =
        ⊎_elim
        (λ before. inl
        (record {
          number = wire.number;
          to = wire.to;
          numbered = wire.numbered;
          entry_numbered = wire.entry_numbered;
          listed = before;
        }))
        (λ is. inr (
          number_of-injective one exit number (rw is.0 at wire.numbered) numbered,
          number_of-injective other entry to (rw is.1 at wire.entry_numbered) entry_numbered,
        ))
        (listed_before wire.number wire.to wire.listed)

    come : HasWire old one other ⊎ ((one ≡ exit) × (other ≡ entry)) → HasWire new one other
    come (inl wire) =
        record {
          number = wire.number;
          to = wire.to;
          numbered = wire.numbered;
          entry_numbered = wire.entry_numbered;
          listed = still_listed wire.number wire.to wire.listed;
        }
    come (inr is) =
        record {
          number = number;
          to = to;
          numbered = rw is.0 numbered;
          entry_numbered = rw is.1 entry_numbered;
          listed = rw here (Contains-push _ to);
        }

  -- keeps a setup lawful where the wire is
  pub IsLawfulSetup-adds : IsLawfulSetup old → is_exit_hub exit ≡ true → is_entry_hub entry ≡ true
      → CanJoin old exit entry → IsEntryNumber to → IsLawfulSetup new
  IsLawfulSetup-adds setup is_exit is_entry keeps is_number =
      record {
        lawful = record {
          leads = λ one other wire.
              ⊎_elim
              (λ before. setup.lawful.leads one other before)
              (λ is. (ap is_exit_hub is.0 ∙ is_exit, ap is_entry_hub is.1 ∙ is_entry))
              ((AddsWire-by_number one other).0 wire);
          carries = record {
            alone = λ one other wire.
                ⊎_elim
                (λ before. setup.lawful.carries.alone one other before)
                (λ is. rw (is.0, is.1) keeps.alone)
                ((AddsWire-by_number one other).0 wire);
            together = λ one other from next wire also.
                by one other from next ((AddsWire-by_number one other).0 wire) ((AddsWire-by_number from next).0 also);
          };
        };
        listed = listed;
      } where
        by : (one other from next : Hub) → HasWire old one other ⊎ ((one ≡ exit) × (other ≡ entry))
            → HasWire old from next ⊎ ((from ≡ exit) × (next ≡ entry)) → do_wires_agree one other from next ≡ true
        by one other from next (inl before) (inl and_before) = setup.lawful.carries.together one other from next before and_before
        by one other from next (inl before) (inr is) = rw (is.0, is.1) (agree-turned exit entry one other (keeps.together one other before))
        by one other from next (inr is) (inl before) = rw (is.0, is.1) (keeps.together from next before)
        by one other from next (inr is) (inr and_is) = rw (is.0, is.1, and_is.0, and_is.1) (agree-own exit entry)

        listed : ListsEntries new
        listed n =
            ⊎_elim
            (λ (is : n ≡ number). rw (is, here) (All-push IsEntryNumber _ to (setup.listed number) is_number))
            (λ elsewhere. rw (others n elsewhere) (setup.listed n))
            (cases_eq n number)
