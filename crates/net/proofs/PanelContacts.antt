-- The table of contacts by letters, and as runs of places: they say the same.
use Rattle.std.proofs.Common.{⊎_elim, ◌≡◌, ℕ, ◌+◌, ◌-◌, ◌<◌, ◌≤◌, ◌&&◌, Bool, true, List, [], ◌∷◌, Option, Some, None, ◌⊎◌, inl, inr, sym, ap, ◌∙◌, refl, arith}
use Rattle.std.specs.Prelude.{◌==◌, nat_le, nat_lt, option_map, if◌then◌else◌}
use Rattle.std.proofs.lemmas.Bool.Decides.{nat_tests}
use Rattle.std.proofs.lemmas.Option.{same_Some}
use Rattle.std.proofs.lemmas.Bool.{or_right, or_left, or_cases}
use Rattle.hubs.proofs.HubLemmas.{number_of-injective, number_of-kind}
use Rattle.hubs.specs.Hubs.{number_of}
use Rattle.hubs.specs.declared.hub.Hub.{Hub}
use Rattle.hubs.specs.declared.hub.Hub.TheVariants.{CO, BAN, BAT, PIN, PIT, IX, CSD, CSZ, CI, BAC, PIC, IE, CSE}
use Rattle.machine_sets.specs.BitSets.Contacts.{is_any_contact, is_contact}
use Rattle.machine_sets.specs.declared.bit_sets.contacts.Run.{Run}
use Rattle.net.specs.Panel.{contact_of}
use Rattle.net.specs.declared.contacts.TheConstants.{CONTACTS}

-- a contact of a run leads from one place to another, as numbers
abbrev pub IsInRun : Run → ℕ → ℕ → Type 0
IsInRun run from to = (run.exits ≤ to) × (to < run.exits + run.count) × (from ≡ run.common + (to - run.exits))

abbrev pub IsInRuns : List Run → ℕ → ℕ → Type 0
IsInRuns [] from to = ⊥
IsInRuns (run ∷ runs) from to = IsInRun run from to ⊎ IsInRuns runs from to

in_run : (run : Run) (from to : ℕ) → is_contact run from to ≡ true → IsInRun run from to
in_run run from to at =
    let le : nat_le run.exits to ≡ true = grind (arith, nat_tests, at) in
    let lt : nat_lt (to - run.exits) run.count ≡ true = grind (arith, nat_tests, at) in
    let eq : (from == run.common + (to - run.exits)) ≡ true = grind (arith, nat_tests, at) in
    let low : run.exits ≤ to = grind (arith, nat_tests, le) in
    let high : to - run.exits < run.count = grind (arith, nat_tests, lt) in
    (low, omega (arith, low, high), grind (arith, nat_tests, eq))

of_run : (run : Run) (from to : ℕ) → IsInRun run from to → is_contact run from to ≡ true
of_run run from to at =
    let low = at.0 in
    let high = at.1 in
    let eq = at.2 in
    let one : nat_le run.exits to ≡ true = grind (arith, nat_tests) in
    let two : nat_lt (to - run.exits) run.count ≡ true = grind (arith, nat_tests) in
    let three : (from == run.common + (to - run.exits)) ≡ true = grind (arith, nat_tests) in
    all _ _ _ one two three where
      all : (a b c : Bool) → a ≡ true → b ≡ true → c ≡ true → (a && (b && c)) ≡ true
      all a b c e f g = grind (arith, nat_tests)

pub in_runs : (runs : List Run) (from to : ℕ) → is_any_contact runs from to ≡ true → IsInRuns runs from to
in_runs [] from to at = cc
in_runs (run ∷ runs) from to at =
    ⊎_elim (λ here. inl (in_run run from to here)) (λ there. inr (in_runs runs from to there))
    (or_cases (is_contact run from to) (is_any_contact runs from to) at)

pub of_runs : (runs : List Run) (from to : ℕ) → IsInRuns runs from to → is_any_contact runs from to ≡ true
of_runs [] from to at = absurd at
of_runs (run ∷ runs) from to (inl here) = or_left _ _ (of_run run from to here)
of_runs (run ∷ runs) from to (inr there) = or_right (is_contact run from to) _ (of_runs runs from to there)

-- a place is the exit of one contact at most
common_at : ℕ → ℕ
common_at to =
    if nat_lt to 390
    then 1396 + (to - 358)
    else if nat_lt to 518
    then 1428 + (to - 390)
    else if nat_lt to 646
    then 1428 + (to - 518)
    else if nat_lt to 694
    then 1556 + (to - 646)
    else if nat_lt to 742
    then 1556 + (to - 694)
    else if nat_lt to 912 then 1692 + (to - 806) else 1782 + (to - 912)

common_is : (from to : ℕ) → IsInRuns CONTACTS from to → from ≡ common_at to
unfolding common_at
common_is from to at = grind (arith, nat_tests, at)

determined : (from other to : ℕ) → IsInRuns CONTACTS from to → IsInRuns CONTACTS other to → from ≡ other
determined from other to at and_at = common_is from to at ∙ sym (common_is other to and_at)

-- the kinds of an exit and of its common hub differ in their numbers by a constant
common_of :
    (before common count : ℕ) (o given : Option ℕ) (h : ℕ) → option_map (λ (p : ℕ). before + p) o ≡ Some (h + 1)
    → option_map (λ (p : ℕ). common + p) o ≡ given → before < h + 1 → h + 1 ≤ before + count
    → (g : ℕ) × (given ≡ Some (g + 1)) × ((before ≤ h) × (h < before + count) × (g ≡ common + (h - before)))
common_of before common count (Some q) given h numbered is low high =
    let at : before + q ≡ h + 1 = same_Some _ _ numbered in
    let index : common + q ≡ common + (h - before) + 1 = omega arith in
    (common + (h - before), sym is ∙ ap Some index, (omega arith, omega arith, refl))
common_of before common count None given h numbered is low high = cc

-- contacts next to others on both sides are in one run with them
next_to : (exits common count before and_common many g h : ℕ) → exits ≤ before → before + many ≤ exits + count
    → and_common + exits ≡ common + before → (before ≤ h) × (h < before + many) × (g ≡ and_common + (h - before))
    → (exits ≤ h) × (h < exits + count) × (g ≡ common + (h - exits))
next_to exits common count before and_common many g h low high aside (from, to, is) =
    (omega (arith, low, from), omega (arith, high, to), omega (arith, low, from, aside, is))

-- the common hub of a contact has the place that the runs say
pub contact_numbered : (from to : Hub) (h : ℕ) → contact_of to ≡ Some from → number_of to ≡ Some (h + 1)
    → (g : ℕ) × (number_of from ≡ Some (g + 1)) × IsInRuns CONTACTS g h
contact_numbered from (CO group) h is numbered =
    let kind = number_of-kind (CO group) (h + 1) numbered in
    let hub : CI group ≡ from = same_Some _ _ is in
    let found = common_of 358 1396 32 _ (number_of from) h numbered (ap number_of hub) kind.0 kind.1 in
    (found.0, found.1, inl found.2)
contact_numbered from (BAN group position) h is numbered =
    let kind = number_of-kind (BAN group position) (h + 1) numbered in
    let hub : BAC group position ≡ from = same_Some _ _ is in
    let found = common_of 390 1428 128 _ (number_of from) h numbered (ap number_of hub) kind.0 kind.1 in
    (found.0, found.1, inr (inl found.2))
contact_numbered from (BAT group position) h is numbered =
    let kind = number_of-kind (BAT group position) (h + 1) numbered in
    let hub : BAC group position ≡ from = same_Some _ _ is in
    let found = common_of 518 1428 128 _ (number_of from) h numbered (ap number_of hub) kind.0 kind.1 in
    (found.0, found.1, inr (inr (inl found.2)))
contact_numbered from (PIN pilot position) h is numbered =
    let kind = number_of-kind (PIN pilot position) (h + 1) numbered in
    let hub : PIC pilot position ≡ from = same_Some _ _ is in
    let found = common_of 646 1556 48 _ (number_of from) h numbered (ap number_of hub) kind.0 kind.1 in
    (found.0, found.1, inr (inr (inr (inl found.2))))
contact_numbered from (PIT pilot position) h is numbered =
    let kind = number_of-kind (PIT pilot position) (h + 1) numbered in
    let hub : PIC pilot position ≡ from = same_Some _ _ is in
    let found = common_of 694 1556 48 _ (number_of from) h numbered (ap number_of hub) kind.0 kind.1 in
    (found.0, found.1, inr (inr (inr (inr (inl found.2)))))
contact_numbered from (IX level position) h is numbered =
    let kind = number_of-kind (IX level position) (h + 1) numbered in
    let hub : IE level position ≡ from = same_Some _ _ is in
    let found = common_of 806 1692 90 _ (number_of from) h numbered (ap number_of hub) kind.0 kind.1 in
    let at = next_to 806 1692 106 806 1692 90 found.0 h (omega arith) (omega arith) refl found.2 in
    (found.0, found.1, inr (inr (inr (inr (inr (inl at))))))
contact_numbered from (CSD split) h is numbered =
    let kind = number_of-kind (CSD split) (h + 1) numbered in
    let hub : CSE split ≡ from = same_Some _ _ is in
    let found = common_of 896 1782 16 _ (number_of from) h numbered (ap number_of hub) kind.0 kind.1 in
    let at = next_to 806 1692 106 896 1782 16 found.0 h (omega arith) (omega arith) refl found.2 in
    (found.0, found.1, inr (inr (inr (inr (inr (inl at))))))
contact_numbered from (CSZ split) h is numbered =
    let kind = number_of-kind (CSZ split) (h + 1) numbered in
    let hub : CSE split ≡ from = same_Some _ _ is in
    let found = common_of 912 1782 16 _ (number_of from) h numbered (ap number_of hub) kind.0 kind.1 in
    (found.0, found.1, inr (inr (inr (inr (inr (inr (inl found.2)))))))
contact_numbered from other h is numbered = cc

-- a hub that is no contact's exit has no place in the runs
no_contact : (to : Hub) (g h : ℕ) → contact_of to ≡ None → number_of to ≡ Some (h + 1) → IsInRuns CONTACTS g h → ⊥
no_contact (CO group) g h is numbered at = cc
no_contact (BAN group position) g h is numbered at = cc
no_contact (BAT group position) g h is numbered at = cc
no_contact (PIN pilot position) g h is numbered at = cc
no_contact (PIT pilot position) g h is numbered at = cc
no_contact (IX level position) g h is numbered at = cc
no_contact (CSD split) g h is numbered at = cc
no_contact (CSZ split) g h is numbered at = cc
no_contact other g h is numbered at = let kind = number_of-kind other (h + 1) numbered in grind (arith, at, kind)

-- what the runs say of two places, the table says of their hubs
pub contact_by_place : (from to : Hub) (g h : ℕ) → number_of from ≡ Some (g + 1) → number_of to ≡ Some (h + 1)
    → IsInRuns CONTACTS g h → contact_of to ≡ Some from
contact_by_place from to g h is and_is at = by (contact_of to) refl where
  by : (found : Option Hub) → contact_of to ≡ found → contact_of to ≡ Some from
  by (Some common) found =
      let its = contact_numbered common to h found and_is in
      let same : its.0 ≡ g = determined its.0 g h its.2 at in
      let hub : common ≡ from = number_of-injective common from (g + 1) (its.1 ∙ ap (λ n. Some (n + 1)) same) is in
      found ∙ ap Some hub
  by None found = absurd (no_contact to g h found and_is at)
