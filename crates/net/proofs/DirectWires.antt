-- Where no link of a net leads to a common place, no wire of its setup leads to a hub from which contacts lead.
use Rattle.std.proofs.Common.{⊎_elim, ◌≡◌, ◌∙◌, ℕ, ◌+◌, ◌-◌, ◌<◌, ◌≤◌, true, false, List, [], ◌∷◌, All, Option, Some, None, sym, ap, arith}
use Rattle.std.specs.Prelude.{◌==◌, option_map}
use Rattle.std.proofs.lemmas.Bool.{and_parts, false≢true, or_cases}
use Rattle.std.proofs.lemmas.Bool.Decides.{nat_tests}
use Rattle.std.proofs.lemmas.Option.{same_Some}
use Rattle.std.proofs.lemmas.List.Elements.{All-head, All-tail}
use Rattle.hubs.proofs.HubLemmas.{is_entry-number, is_exit-number}
use Rattle.hubs.specs.Hubs.{number_of}
use Rattle.hubs.specs.declared.hub.Hub.{Hub}
use Rattle.hubs.specs.declared.hub.Hub.TheVariants.{CO, BAN, BAT, PIN, PIT, IX, CSD, CSZ, CI, BAC, PIC, IE, CSE}
use Rattle.hubs.specs.SetupsWords.Wiring.{HasWire, LeadsToEntries, Wiring}
use Rattle.machine_sets.specs.BitSets.Bits.{has_place}
use Rattle.machine_sets.specs.BitSets.Contacts.{AreCommons}
use Rattle.machine_sets.specs.BitSets.Rows.{leads}
use Rattle.machine_sets.specs.SpreadsWords.Links.{IsInRange, is_link, is_linked}
use Rattle.net.specs.Nets.{IsNetOf, NetRows, leads_by}
use Rattle.net.specs.Panel.{contact_of}
use Rattle.net.specs.RowSets.{LeadsToNoContact}
use Rattle.net.specs.declared.contacts.TheConstants.{CONTACTS}
use Rattle.machine_sets.specs.declared.spreads.links.Link.{Link}
use Rattle.net.proofs.PanelContacts.{contact_numbered, of_runs}

-- hubs of two kinds with the same numbers are both in range
alike : (before other : ℕ) (place : Option ℕ) (n : ℕ) → 1 ≤ before → option_map (λ (p : ℕ). other + p) place ≡ Some n
    → (h : ℕ) × (option_map (λ (p : ℕ). before + p) place ≡ Some (h + 1))
alike before other (Some p) n positive is = let more : before + p ≡ before + p - 1 + 1 = omega (arith, positive) in (before + p - 1, ap Some more)
alike before other None n positive is = cc

-- where the common hub of a contact has a number its exit has one
pub exit_numbered : (hub common : Hub) (n : ℕ) → contact_of hub ≡ Some common → number_of common ≡ Some n
    → (h : ℕ) × (number_of hub ≡ Some (h + 1))
exit_numbered (CO group) common n is numbered =
    let same : CI group ≡ common = same_Some _ _ is in alike 358 1396 _ n (omega arith) (ap number_of same ∙ numbered)
exit_numbered (BAN group position) common n is numbered =
    let same : BAC group position ≡ common = same_Some _ _ is in alike 390 1428 _ n (omega arith) (ap number_of same ∙ numbered)
exit_numbered (BAT group position) common n is numbered =
    let same : BAC group position ≡ common = same_Some _ _ is in alike 518 1428 _ n (omega arith) (ap number_of same ∙ numbered)
exit_numbered (PIN pilot position) common n is numbered =
    let same : PIC pilot position ≡ common = same_Some _ _ is in alike 646 1556 _ n (omega arith) (ap number_of same ∙ numbered)
exit_numbered (PIT pilot position) common n is numbered =
    let same : PIC pilot position ≡ common = same_Some _ _ is in alike 694 1556 _ n (omega arith) (ap number_of same ∙ numbered)
exit_numbered (IX level position) common n is numbered =
    let same : IE level position ≡ common = same_Some _ _ is in alike 806 1692 _ n (omega arith) (ap number_of same ∙ numbered)
exit_numbered (CSD split) common n is numbered =
    let same : CSE split ≡ common = same_Some _ _ is in alike 896 1782 _ n (omega arith) (ap number_of same ∙ numbered)
exit_numbered (CSZ split) common n is numbered =
    let same : CSE split ≡ common = same_Some _ _ is in alike 912 1782 _ n (omega arith) (ap number_of same ∙ numbered)
exit_numbered other common n is numbered = cc

-- what is linked is in the range of links
pub linked-range : (links : List Link) (from to : ℕ) → All IsInRange links → is_linked links from to ≡ true
    → (from < 1040) × (1040 ≤ to) × (to < 1936)
linked-range [] from to range linked = absurd (false≢true linked)
linked-range (link ∷ links) from to range linked =
    ⊎_elim here (linked-range links from to (All-tail IsInRange link links range))
    (or_cases (is_link from to link) (is_linked links from to) linked) where
      here : is_link from to link ≡ true → (from < 1040) × (1040 ≤ to) × (to < 1936)
      here at =
          let both = and_parts (from == link.from) (to == link.to) at in
          let is = All-head IsInRange link links range in
          (low from link.from both.0 is.from, high to link.to both.1 is.low, low_of to link.to both.1 is.high) where
            low : (m n : ℕ) → (m == n) ≡ true → n < 1040 → m < 1040
            low m n e less = grind (arith, nat_tests, e, less)

            high : (m n : ℕ) → (m == n) ≡ true → 1040 ≤ n → 1040 ≤ m
            high m n e less = grind (arith, nat_tests, e, less)

            low_of : (m n : ℕ) → (m == n) ≡ true → n < 1936 → m < 1936
            low_of m n e less = grind (arith, nat_tests, e, less)

-- what is linked to is none of the places that no link leads to
pub linked-elsewhere : (links : List Link) (places : List ℕ) (from to : ℕ) → All (λ link. has_place places link.to ≡ false) links
    → is_linked links from to ≡ true → has_place places to ≡ false
linked-elsewhere [] places from to apart linked = absurd (false≢true linked)
linked-elsewhere (link ∷ links) places from to apart linked =
    ⊎_elim here (linked-elsewhere links places from to (All-tail (λ l. has_place places l.to ≡ false) link links apart))
    (or_cases (is_link from to link) (is_linked links from to) linked) where
      here : is_link from to link ≡ true → has_place places to ≡ false
      here at =
          let both = and_parts (from == link.from) (to == link.to) at in
          let same : to ≡ link.to = equal to link.to both.1 in
          ap (λ (t : ℕ). has_place places t) same ∙ All-head (λ l. has_place places l.to ≡ false) link links apart where
            equal : (m n : ℕ) → (m == n) ≡ true → m ≡ n
            equal m n e = grind (arith, nat_tests, e)

-- all wires lead from exits to entries
pub wires-lead : (wiring : Wiring) (net : NetRows) (links : List Link) → IsNetOf wiring net → All IsInRange links
    → ((from to : ℕ) → is_linked links from to ≡ leads net.rows from to) → LeadsToEntries wiring
wires-lead wiring net links is_net range agree exit entry wire =
    let linked : is_linked links (wire.number - 1) (wire.to - 1) ≡ true =
    agree (wire.number - 1) (wire.to - 1)
    ∙ sym (ap (λ n. leads_by net.rows n (number_of entry)) wire.numbered ∙ ap (leads_by net.rows (Some wire.number)) wire.entry_numbered)
    ∙ (is_net exit entry).1 wire in
    let is = linked-range links (wire.number - 1) (wire.to - 1) range linked in (
      (is_exit-number exit wire.number wire.numbered).1 (lower wire.number is.0),
      (is_entry-number entry wire.to wire.entry_numbered).1 (upper wire.to is.1),
    )
  where
    lower : (n : ℕ) → n - 1 < 1040 → n ≤ 1040
    lower n less = omega (arith, less)

    upper : (n : ℕ) → 1040 ≤ n - 1 → 1041 ≤ n
    upper n less = omega (arith, less)

pub direct-wires : (wiring : Wiring) (net : NetRows) (commons : List ℕ) (links : List Link) → IsNetOf wiring net → All IsInRange links
    → ((from to : ℕ) → is_linked links from to ≡ leads net.rows from to) → AreCommons CONTACTS commons
    → All (λ link. has_place commons link.to ≡ false) links → LeadsToNoContact wiring
direct-wires wiring net commons links is_net range agree are_commons apart = record {
  leads = wires-lead wiring net links is_net range agree;
  unwired = λ common hub exit contact wire.
      let at = exit_numbered hub common wire.to contact wire.entry_numbered in
      let found = contact_numbered common hub at.0 contact at.1 in
      let place : wire.to - 1 ≡ found.0 = index wire.to found.0 (same_Some _ _ (sym wire.entry_numbered ∙ found.1)) in
      let is = linked-range links (wire.number - 1) (wire.to - 1) range (linked exit common wire) in
      let there : has_place commons found.0 ≡ true =
      are_commons found.0 at.0 (below found.0 wire.to place is.2) (of_runs CONTACTS found.0 at.0 found.2) in
      let none : has_place commons (wire.to - 1) ≡ false =
      linked-elsewhere links commons (wire.number - 1) (wire.to - 1) apart (linked exit common wire) in
      false≢true (sym none ∙ ap (λ (p : ℕ). has_place commons p) place ∙ there);
}
  where
    linked : (exit entry : Hub) (wire : HasWire wiring exit entry) → is_linked links (wire.number - 1) (wire.to - 1) ≡ true
    linked exit entry wire =
        agree (wire.number - 1) (wire.to - 1)
        ∙ sym (ap (λ n. leads_by net.rows n (number_of entry)) wire.numbered ∙ ap (leads_by net.rows (Some wire.number)) wire.entry_numbered)
        ∙ (is_net exit entry).1 wire

    index : (n g : ℕ) → n ≡ g + 1 → n - 1 ≡ g
    index n g e = omega (arith, e)

    below : (g n : ℕ) → n - 1 ≡ g → n - 1 < 1936 → g < 1984
    below g n e less = omega (arith, e, less)
