-- Places that are filled one behind another, and by the contacts of a hub.
use Rattle.std.proofs.Common.{◌⊎◌, inl, inr, ◌≡◌, ◌∙◌, sym, ap, refl, ℕ, ◌<◌, Bool, ◌||◌, List, Contains, Option, Some}
use Rattle.std.specs.Prelude.{slice_index_or}
use Rattle.std.proofs.lemmas.Option.{same_Some}
use Rattle.hubs.specs.Hubs.{number_of}
use Rattle.hubs.specs.declared.hub.Hub.{Hub}
use Rattle.hubs.specs.declared.hub.Hub.TheVariants.{CO, BAN, BAT, PIN, PIT, IX, CSD, CSZ, CI, BAC, PIC, IE, CSE}
use Rattle.hubs.specs.SetupsWords.Wiring.{HasWire, Wiring}
use Rattle.net.specs.Panel.{contact_of}
use Rattle.explain_wheels.specs.WaysWords.Passed.{IsPassedTo, IsShutAt, contacts_from}
use Rattle.explain_wheels.specs.WaysWords.Tables.{IsPass, LeadsAt}
use Rattle.explain_wheels.proofs.WaysWords.LeadsLemmas.{leads_between}
use Rattle.explain_wheels.proofs.WaysWords.Passes.{IsPass-as, IsPass-then}

-- one of the first numbers of a list
abbrev pub IsListedBefore : List ℕ → ℕ → ℕ → Type 0
IsListedBefore entries count h = (k : ℕ) × (k < count) × (slice_index_or entries k h ≡ h)

-- the exits that are listed for a hub are those of its contacts
from_one : (common hub : Hub) → (contacts_from common).0 ≡ Some hub → contact_of hub ≡ Some common
from_one (CI group) hub is = ap contact_of (sym (same_Some _ _ is))
from_one (BAC group position) hub is = ap contact_of (sym (same_Some _ _ is))
from_one (PIC pilot position) hub is = ap contact_of (sym (same_Some _ _ is))
from_one (IE level position) hub is = ap contact_of (sym (same_Some _ _ is))
from_one (CSE split) hub is = ap contact_of (sym (same_Some _ _ is))
from_one other hub is = cc

from_other : (common hub : Hub) → (contacts_from common).1 ≡ Some hub → contact_of hub ≡ Some common
from_other (BAC group position) hub is = ap contact_of (sym (same_Some _ _ is))
from_other (PIC pilot position) hub is = ap contact_of (sym (same_Some _ _ is))
from_other (CSE split) hub is = ap contact_of (sym (same_Some _ _ is))
from_other other hub is = cc

-- and no other is
from_each : (hub common : Hub) → contact_of hub ≡ Some common
    → ((contacts_from common).0 ≡ Some hub) ⊎ ((contacts_from common).1 ≡ Some hub)
from_each (CO group) common is = inl (ap (λ c. (contacts_from c).0) (sym (same_Some _ _ is)))
from_each (BAN group position) common is = inl (ap (λ c. (contacts_from c).0) (sym (same_Some _ _ is)))
from_each (BAT group position) common is = inr (ap (λ c. (contacts_from c).1) (sym (same_Some _ _ is)))
from_each (PIN pilot position) common is = inl (ap (λ c. (contacts_from c).0) (sym (same_Some _ _ is)))
from_each (PIT pilot position) common is = inr (ap (λ c. (contacts_from c).1) (sym (same_Some _ _ is)))
from_each (IX level position) common is = inl (ap (λ c. (contacts_from c).0) (sym (same_Some _ _ is)))
from_each (CSD split) common is = inl (ap (λ c. (contacts_from c).0) (sym (same_Some _ _ is)))
from_each (CSZ split) common is = inr (ap (λ c. (contacts_from c).1) (sym (same_Some _ _ is)))
from_each other common is = cc

-- a pass by both contacts of a hub
pub passed_both : (level : ℕ) (closed : Hub → Bool) (common : Hub) (found : Option Hub × Option Hub) (old now new : List ℕ)
    (first second : Bool) → found ≡ contacts_from common → IsPass level (IsShutAt closed found.0) old now first
    → IsPass level (IsShutAt closed found.1) now new second → IsPass level (IsPassedTo closed common) old new (first || second)
passed_both level closed common found old now new first second is one other =
    IsPass-as level (λ h. IsShutAt closed found.0 h ⊎ IsShutAt closed found.1 h) (IsPassedTo closed common) old new (first || second)
    there back
    (IsPass-then level (IsShutAt closed found.0) (IsShutAt closed found.1) old now new first second (first || second) refl one other) where
      there : (h : ℕ) → IsShutAt closed found.0 h ⊎ IsShutAt closed found.1 h → IsPassedTo closed common h
      there h (inl at) = record {
        exit = at.hub;
        contact = from_one common at.hub (ap (λ p. p.0) (sym is) ∙ at.is);
        shut = at.shut;
        numbered = at.numbered;
      }
      there h (inr at) = record {
        exit = at.hub;
        contact = from_other common at.hub (ap (λ p. p.1) (sym is) ∙ at.is);
        shut = at.shut;
        numbered = at.numbered;
      }

      back : (h : ℕ) → IsPassedTo closed common h → IsShutAt closed found.0 h ⊎ IsShutAt closed found.1 h
      back h at = elim (from_each at.exit common at.contact) [
        | inl first ↦ inl (record { hub = at.exit; is = ap (λ p. p.0) is ∙ first; shut = at.shut; numbered = at.numbered })
        | inr second ↦ inr (record { hub = at.exit; is = ap (λ p. p.1) is ∙ second; shut = at.shut; numbered = at.numbered })
      ]

-- a pass by the wires of a hub and by its contacts
pub spread_both : (level from : ℕ) (wiring : Wiring) (closed : Hub → Bool) (hub : Hub) (entries old now new : List ℕ) (first second : Bool)
    → number_of hub ≡ Some from
    → ((entry : Hub) (n : ℕ) → number_of entry ≡ Some n → Contains entries n → HasWire wiring hub entry)
    → ((entry : Hub) (n : ℕ) → number_of entry ≡ Some n → HasWire wiring hub entry → Contains entries n)
    → ((n : ℕ) → Contains entries n → (entry : Hub) × (number_of entry ≡ Some n))
    → IsPass level (Contains entries) old now first → IsPass level (IsPassedTo closed hub) now new second
    → IsPass level (LeadsAt wiring closed from) old new (first || second)
spread_both level from wiring closed hub entries old now new first second is wired listed numbered one other =
    IsPass-as level (λ h. Contains entries h ⊎ IsPassedTo closed hub h) (LeadsAt wiring closed from) old new (first || second) there back
    (IsPass-then level (Contains entries) (IsPassedTo closed hub) old now new first second (first || second) refl one other) where
      there : (h : ℕ) → Contains entries h ⊎ IsPassedTo closed hub h → LeadsAt wiring closed from h
      there h (inl has) = let entry = numbered h has in record {
        exit = hub;
        entry = entry.0;
        from_numbered = is;
        to_numbered = entry.1;
        leads = inl (wired entry.0 h entry.1 has);
      }
      there h (inr at) = record {
        exit = hub;
        entry = at.exit;
        from_numbered = is;
        to_numbered = at.numbered;
        leads = inr (at.contact, at.shut);
      }

      back : (h : ℕ) → LeadsAt wiring closed from h → Contains entries h ⊎ IsPassedTo closed hub h
      back h at = elim (leads_between wiring closed hub at.entry from h is at.to_numbered at) [
        | inl wire ↦ inl (listed at.entry h at.to_numbered wire)
        | inr by ↦ inr (record { exit = at.entry; contact = by.0; shut = by.1; numbered = at.to_numbered })
      ]
