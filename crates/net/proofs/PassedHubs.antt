-- What contacts pass on, told of hubs: contacts lead from common hubs, and wires lead there.
use Rattle.std.proofs.Common.{⊎_elim, ◌≡◌, ◌∙◌, ℕ, zero, suc, ◌+◌, ◌-◌, ◌<◌, ◌≤◌, ◌&&◌, ◌||◌, ◌⊎◌, inl, inr, Bool, true, false, List, Option, Some, None, All, sym, ap, refl, arith}
use Rattle.std.specs.List.{list_any}
use Rattle.std.proofs.lemmas.Bool.{and_from, and_parts, false≢true, or_cases, or_left, or_right}
use Rattle.std.proofs.lemmas.Option.{same_Some}
use Rattle.card_code.specs.Rows.{passing_place}
use Rattle.card_code.specs.declared.row.Row.{Row as CardRow}
use Rattle.card_code.specs.declared.row.Row.TheVariants.{Zero, One, Two, Three, Four, Five, Six, Seven, Eight, Nine, Eleven, Twelve}
use Rattle.hubs.proofs.HubLemmas.{hub_numbered, in_range, number_of-range}
use Rattle.hubs.specs.Hubs.{number_of}
use Rattle.hubs.specs.declared.hub.Hub.{Hub}
use Rattle.hubs.specs.SetupsWords.Wiring.{HasWire, Wiring}
use Rattle.machine_sets.specs.BitSets.Contacts.{is_any_contact}
use Rattle.machine_sets.specs.declared.bit_sets.contacts.Run.{Run}
use Rattle.machine_sets.specs.BitSets.Rows.{leads}
use Rattle.net.specs.HubSets.{HubSet, has_hub, has_number}
use Rattle.machine_sets.specs.BitSets.Bits.{has_place}
use Rattle.machine_sets.specs.SpreadsWords.Paths.{AreParted, PathLinks}
use Rattle.net.specs.Kinds.{HasEmitting, MayHaveRows}
use Rattle.net.specs.Laws.{EmitsOrIsFed}
use Rattle.net.specs.declared.cycle.Cycle.{Cycle}
use Rattle.net.proofs.RowsFed.{row-fed}
use Rattle.machine_sets.proofs.SpreadsWords.LinkLemmas.{fed-found, fed-from}
use Rattle.net.specs.HubRows.{has_at_number, has_row_at}
use Rattle.machine_sets.specs.SpreadsWords.Links.{HasRoom, IsEight, IsInRange, Spreads, is_fed_at, has_at, is_led_to, is_linked}
use Rattle.net.specs.Nets.{IsNetOf, NetRows, leads_by}
use Rattle.net.specs.Panel.{contact_of}
use Rattle.net.specs.Passing.{closes_at_row}
use Rattle.machine_sets.specs.SpreadsWords.Passing.{Passes, RunsPass, is_closed_at, is_passed_in}
use Rattle.net.specs.declared.contacts.TheConstants.{CONTACTS}
use Rattle.machine_sets.specs.declared.spreads.links.Link.{Link}
use Rattle.net.proofs.DirectWires.{exit_numbered}
use Rattle.net.proofs.PassedSets.{IsPassedAt, PassesBehind, PassesOn, SpreadsOn, SpreadsRow}
use Rattle.net.proofs.PanelContacts.{IsInRuns, contact_by_place, contact_numbered, in_runs, of_runs}
use Rattle.machine_sets.proofs.SpreadsWords.PassLemmas.{linked-led, passed-from}
use Rattle.machine_sets.proofs.SpreadsWords.ContactRuns.{run-found, run-from}

-- whether a contact is closed at a row, by the number of its exit
closes-number : (digits zones : HubSet) (row : CardRow) (hub : Hub) (n : ℕ) → number_of hub ≡ Some n
    → closes_at_row digits zones row hub ≡ is_closed_at digits.words zones.words (passing_place row) (n - 1)
closes-number digits zones Nine hub n is = ap (has_number digits) is
closes-number digits zones Eight hub n is = ap (has_number digits) is
closes-number digits zones Seven hub n is = ap (has_number digits) is
closes-number digits zones Six hub n is = ap (has_number digits) is
closes-number digits zones Five hub n is = ap (has_number digits) is
closes-number digits zones Four hub n is = ap (has_number digits) is
closes-number digits zones Three hub n is = ap (has_number digits) is
closes-number digits zones Two hub n is = ap (has_number digits) is
closes-number digits zones One hub n is = ap (has_number digits) is
closes-number digits zones Zero hub n is = ap (has_number digits) is
closes-number digits zones Eleven hub n is = ap (has_number zones) is
closes-number digits zones Twelve hub n is = ap (has_number zones) is

-- a hub whose set has a row has a number
numbered : (sets : List ℕ) (row : ℕ) (hub : Hub) → has_row_at sets row hub ≡ true → (n : ℕ) × (number_of hub ≡ Some n)
numbered sets row hub on = by (number_of hub) refl where
  by : (number : Option ℕ) → number_of hub ≡ number → (n : ℕ) × (number_of hub ≡ Some n)
  by (Some n) is = (n, is)
  by None is = absurd (false≢true (sym (ap (has_at_number sets row) is) ∙ on))

-- the contacts of the panel lead from entries
low-common : (from to : ℕ) → IsInRuns CONTACTS from to → 1040 ≤ from
low-common from to at = grind (arith, at)

-- the runs of the panel's contacts have room
pub rooms : All HasRoom CONTACTS
rooms zero d low = record { from = omega arith; high = omega arith; to = omega arith }
rooms (suc zero) d low = record { from = omega arith; high = omega arith; to = omega arith }
rooms (suc (suc zero)) d low = record { from = omega arith; high = omega arith; to = omega arith }
rooms (suc (suc (suc zero))) d low = record { from = omega arith; high = omega arith; to = omega arith }
rooms (suc (suc (suc (suc zero)))) d low = record { from = omega arith; high = omega arith; to = omega arith }
rooms (suc (suc (suc (suc (suc zero))))) d low = record { from = omega arith; high = omega arith; to = omega arith }
rooms (suc (suc (suc (suc (suc (suc zero)))))) d low = record { from = omega arith; high = omega arith; to = omega arith }
rooms (suc (suc (suc (suc (suc (suc (suc k))))))) d low = absurd (omega (arith, low))

one_less : (n g : ℕ) → n ≡ g + 1 → n - 1 ≡ g
one_less n g e = omega (arith, e)

-- a wire of the links leads to a place from which contacts lead: each of them is listed
wired-contact : {wiring : Wiring} (links contacts : List Link) (exit common : Hub) (g h : ℕ)
    → ((from to : ℕ) → is_linked contacts from to ≡ (is_any_contact CONTACTS from to && is_led_to links from))
    → (wire : HasWire wiring exit common) → is_linked links (wire.number - 1) (wire.to - 1) ≡ true → number_of common ≡ Some (g + 1)
    → IsInRuns CONTACTS g h → is_linked contacts g h ≡ true
wired-contact links contacts exit common g h wired wire linked is inside =
    let place : wire.to - 1 ≡ g = one_less wire.to g (same_Some _ _ (sym wire.entry_numbered ∙ is)) in
    wired g h
    ∙ and_from (is_any_contact CONTACTS g h) (is_led_to links g) (of_runs CONTACTS g h inside)
    (ap (λ (p : ℕ). is_led_to links p) (sym place) ∙ linked-led links (wire.number - 1) (wire.to - 1) linked)

module _ (wiring : Wiring) (test : Hub → Bool) (digits zones : HubSet) (eights : List Run) (old new : List ℕ) (each : All IsEight eights)
    (only_of : (from to : ℕ) → is_any_contact eights from to ≡ true → is_any_contact CONTACTS from to ≡ true)
    (in_eights : (exit common : Hub) (g h : ℕ) → test exit ≡ true → HasWire wiring exit common → number_of common ≡ Some (g + 1)
    → IsInRuns CONTACTS g h → is_any_contact eights g h ≡ true)
    (passes : RunsPass digits.words zones.words eights old new) where
  rooms-of-eights : All HasRoom eights
  rooms-of-eights place d low = (each place d low).room

  -- by the number of a hub
  at-number : (sets : List ℕ) (row : ℕ) (hub : Hub) (n : ℕ) → number_of hub ≡ Some n → has_row_at sets row hub ≡ has_at sets (n - 1) row
  at-number sets row hub n is = ap (has_at_number sets row) is

  kept : (row : CardRow) (hub : Hub) → has_row_at old (passing_place row) hub ≡ true → has_row_at new (passing_place row) hub ≡ true
  kept row hub on =
      let number = numbered old (passing_place row) hub on in
      at-number new (passing_place row) hub number.0 number.1 ∙ passes (number.0 - 1) (passing_place row)
      ∙ or_left _ _ (sym (at-number old (passing_place row) hub number.0 number.1) ∙ on)

  only : (row : CardRow) (hub : Hub) → has_row_at new (passing_place row) hub ≡ true
      → (has_row_at old (passing_place row) hub ≡ true) ⊎ IsPassedAt digits zones old row hub
  only row hub on =
      let number = numbered new (passing_place row) hub on in
      let n = number.0 in
      let r = passing_place row in
      ⊎_elim
      (λ at. inl (at-number old r hub n number.1 ∙ at))
      (λ passed. inr (by n number.1 (run-found digits.words zones.words old eights (n - 1) r rooms-of-eights passed)))
      (or_cases (has_at old (n - 1) r) (list_any (is_passed_in digits.words zones.words old (n - 1) r) eights)
      (sym (passes (n - 1) r) ∙ sym (at-number new r hub n number.1) ∙ on))
    where
      by : (n : ℕ) → number_of hub ≡ Some n
          → (from : ℕ) × (from < 1936) × (n - 1 < 1040) × (is_any_contact eights from (n - 1) ≡ true)
          × (has_at old from (passing_place row) ≡ true)
          × (is_closed_at digits.words zones.words (passing_place row) (n - 1) ≡ true)
          → IsPassedAt digits zones old row hub
      by n is found =
          let from = found.0 in
          let common = hub_numbered (from + 1) (omega arith) (let low = found.1 in omega (arith, low)) in
          let index : from + 1 - 1 ≡ from = omega arith in
          let first : 1 ≤ n = (number_of-range hub n is).0 in
          let place : n ≡ n - 1 + 1 = omega (arith, first) in
          record {
            common = common.0;
            contact = contact_by_place common.0 hub from (n - 1) common.1 (is ∙ ap Some place) (in_runs CONTACTS from (n - 1) (only_of from (n - 1) found.3));
            closed = closes-number digits zones row hub n is ∙ found.5;
            on = at-number old (passing_place row) common.0 (from + 1) common.1 ∙ ap (λ (p : ℕ). has_at old p (passing_place row)) index ∙ found.4;
          }

  passed : (row : CardRow) (before hub : Hub) (on : IsPassedAt digits zones old row hub) → test before ≡ true
      → HasWire wiring before on.common → has_row_at new (passing_place row) hub ≡ true
  passed row before hub on tested wire =
      let r = passing_place row in
      let number = numbered old r on.common on.on in
      let at = exit_numbered hub on.common number.0 on.contact number.1 in
      let h = at.0 in
      let found = contact_numbered on.common hub h on.contact at.1 in
      let g = found.0 in
      let index : h + 1 - 1 ≡ h = omega arith in
      let common_index : g + 1 - 1 ≡ g = omega arith in
      let there : has_at old g r ≡ true =
      ap (λ (p : ℕ). has_at old p r) (sym common_index) ∙ sym (at-number old r on.common (g + 1) found.1) ∙ on.on in
      let shut : is_closed_at digits.words zones.words r h ≡ true =
      ap (λ (p : ℕ). is_closed_at digits.words zones.words r p) (sym index) ∙ sym (closes-number digits zones row hub (h + 1) at.1) ∙ on.closed in
      at-number new r hub (h + 1) at.1 ∙ ap (λ (p : ℕ). has_at new p r) index ∙ passes h r
      ∙ or_right (has_at old h r) _ (run-from digits.words zones.words old eights g h r (in_eights before on.common g h tested wire found.1 found.2) there shut)

  commons : (row : CardRow) (common hub : Hub) → contact_of hub ≡ Some common → has_row_at new (passing_place row) common ≡ true
      → has_row_at old (passing_place row) common ≡ true
  commons row common hub contact on =
      let r = passing_place row in
      let number = numbered new r common on in
      let at = exit_numbered hub common number.0 contact number.1 in
      let found = contact_numbered common hub at.0 contact at.1 in
      let g = found.0 in
      let index : g + 1 - 1 ≡ g = omega arith in
      let there : has_at new g r ≡ true = ap (λ (p : ℕ). has_at new p r) (sym index) ∙ sym (at-number new r common (g + 1) found.1) ∙ on in
      at-number old r common (g + 1) found.1 ∙ ap (λ (p : ℕ). has_at old p r) index
      ∙ by g r (low-common g at.0 found.2)
      (or_cases (has_at old g r) (list_any (is_passed_in digits.words zones.words old g r) eights) (sym (passes g r) ∙ there))
    where
      by : (g r : ℕ) → 1040 ≤ g → (has_at old g r ≡ true) ⊎ (list_any (is_passed_in digits.words zones.words old g r) eights ≡ true)
          → has_at old g r ≡ true
      by g r high (inl at) = at
      by g r high (inr passed) =
          let low = (run-found digits.words zones.words old eights g r rooms-of-eights passed).2 in absurd (omega (arith, high, low))

-- two tests of which each follows from the other
either-way : (a b : Bool) → (a ≡ true → b ≡ true) → (b ≡ true → a ≡ true) → a ≡ b
either-way true b there back = sym (there refl)
either-way false true there back = back refl
either-way false false there back = refl

-- whether a hub is one of the exits
abbrev pub is_exit_of : List ℕ → Hub → Bool
is_exit_of exits hub = has_hub (record { words = exits }) hub

-- rows at what may emit in a cycle are at exits among which all that may emit are
pub may-listed : (wiring : Wiring) (cycle : Cycle) (exits sets : List ℕ) → HasEmitting wiring cycle (record { words = exits })
    → MayHaveRows wiring cycle sets → (row : CardRow) (hub : Hub) → has_row_at sets (passing_place row) hub ≡ true
    → is_exit_of exits hub ≡ true
may-listed wiring cycle exits sets emitting may row hub on =
    let number = numbered sets (passing_place row) hub on in emitting hub (in_range hub number.0 number.1) (may row hub on)

-- paths from some exits of a net, told of hubs
module _ (wiring : Wiring) (net : NetRows) (links : List Link) (exits : List ℕ) (paths : PathLinks) (is_net : IsNetOf wiring net)
    (range : All IsInRange links) (agree : (from to : ℕ) → is_linked links from to ≡ leads net.rows from to)
    (parted : AreParted CONTACTS links exits paths) where
  linked-wire : (from to : Hub) (wire : HasWire wiring from to) → is_linked links (wire.number - 1) (wire.to - 1) ≡ true
  linked-wire from to wire =
      agree (wire.number - 1) (wire.to - 1)
      ∙ sym (ap (λ n. leads_by net.rows n (number_of to)) wire.numbered ∙ ap (leads_by net.rows (Some wire.number)) wire.entry_numbered)
      ∙ (is_net from to).1 wire

  outer-wire : (from to : Hub) (wire : HasWire wiring from to) → is_exit_of exits from ≡ true
      → is_linked paths.outer (wire.number - 1) (wire.to - 1) ≡ true
  outer-wire from to wire is =
      parted.from_exits.linked (wire.number - 1) (wire.to - 1)
      ∙ and_from (is_linked links (wire.number - 1) (wire.to - 1)) (has_place exits (wire.number - 1)) (linked-wire from to wire)
      (sym (ap (has_number (record { words = exits })) wire.numbered) ∙ is)

  -- a contact to which a wire leads from one of the exits is listed
  outer-contact : (exit common : Hub) (g h : ℕ) → is_exit_of exits exit ≡ true → HasWire wiring exit common → number_of common ≡ Some (g + 1)
      → IsInRuns CONTACTS g h → is_linked parted.contacts g h ≡ true
  outer-contact exit common g h is wire numbered inside =
      wired-contact paths.outer parted.contacts exit common g h parted.are_contacts.wired wire (outer-wire exit common wire is) numbered inside

  -- what is passed on along the contacts of eights in which all those lie that wires from the exits lead to
  pub passes-on : (digits zones : HubSet) (old new : List ℕ) → RunsPass digits.words zones.words paths.eights old new
      → PassesOn wiring (is_exit_of exits) digits zones old new
  passes-on digits zones old new passes = record {
    kept = kept wiring (is_exit_of exits) digits zones paths.eights old new parted.eighted.each parted.eighted.only in_eights passes;
    only = only wiring (is_exit_of exits) digits zones paths.eights old new parted.eighted.each parted.eighted.only in_eights passes;
    passed = passed wiring (is_exit_of exits) digits zones paths.eights old new parted.eighted.each parted.eighted.only in_eights passes;
    commons = commons wiring (is_exit_of exits) digits zones paths.eights old new parted.eighted.each parted.eighted.only in_eights passes;
  }
    where
      in_eights : (exit common : Hub) (g h : ℕ) → is_exit_of exits exit ≡ true → HasWire wiring exit common → number_of common ≡ Some (g + 1)
          → IsInRuns CONTACTS g h → is_any_contact paths.eights g h ≡ true
      in_eights exit common g h is wire numbered inside =
          parted.eighted.lie g h (of_runs CONTACTS g h inside) (outer-contact exit common g h is wire numbered inside)

  -- what is spread along the links from the exits, where no others have a row
  pub outer-fed : (old new : List ℕ) (row : ℕ) → ((hub : Hub) → has_row_at old row hub ≡ true → is_exit_of exits hub ≡ true)
      → Spreads paths.outer old new → SpreadsRow wiring row old new
  outer-fed old new row all spreads =
      row-fed wiring net links old new row is_net range agree
      (λ place. spreads place row ∙ ap (λ b. has_at old place row || b) (either-way _ _ (there place) (back place)))
    where
      there : (place : ℕ) → is_fed_at paths.outer old place row ≡ true → is_fed_at links old place row ≡ true
      there place fed =
          let found = fed-found paths.outer old place row parted.from_exits.range fed in
          fed-from links old found.0 place row
          (and_parts (is_linked links found.0 place) (has_place exits found.0) (sym (parted.from_exits.linked found.0 place) ∙ found.2)).0 found.3

      -- an exit with a row is one of the exits
      listed : (from : ℕ) → from < 1040 → has_at old from row ≡ true → has_place exits from ≡ true
      listed from low on =
          let hub = hub_numbered (from + 1) (omega arith) (omega (arith, low)) in
          let index : from + 1 - 1 ≡ from = omega arith in
          ap (λ (p : ℕ). has_place exits p) (sym index) ∙ sym (ap (has_number (record { words = exits })) hub.1)
          ∙ all hub.0 (ap (has_at_number old row) hub.1 ∙ ap (λ (p : ℕ). has_at old p row) index ∙ on)

      back : (place : ℕ) → is_fed_at links old place row ≡ true → is_fed_at paths.outer old place row ≡ true
      back place fed =
          let found = fed-found links old place row range fed in
          fed-from paths.outer old found.0 place row
          (parted.from_exits.linked found.0 place
          ∙ and_from (is_linked links found.0 place) (has_place exits found.0) found.2 (listed found.0 found.1 found.3)) found.3

  -- a wire from the exit of a contact to which a wire leads from one of the exits
  further-wire : (before common exit hub : Hub) → is_exit_of exits before ≡ true → HasWire wiring before common → contact_of exit ≡ Some common
      → (wire : HasWire wiring exit hub) → is_linked paths.further (wire.number - 1) (wire.to - 1) ≡ true
  further-wire before common exit hub is into contact wire =
      let at = exit_numbered exit common into.to contact into.entry_numbered in
      let found = contact_numbered common exit at.0 contact at.1 in
      let exit_place : wire.number - 1 ≡ at.0 = one_less wire.number at.0 (same_Some _ _ (sym wire.numbered ∙ at.1)) in
      parted.from_contacts.linked (wire.number - 1) (wire.to - 1)
      ∙ and_from (is_linked links (wire.number - 1) (wire.to - 1)) (is_led_to parted.contacts (wire.number - 1)) (linked-wire exit hub wire)
      (ap (λ (p : ℕ). is_led_to parted.contacts p) exit_place
      ∙ linked-led parted.contacts found.0 at.0 (outer-contact before common found.0 at.0 is into found.1 found.2))

  -- what is spread along the links from the exits of contacts
  pub spreads-on : (old new : List ℕ) → Spreads paths.further old new → SpreadsOn wiring (is_exit_of exits) old new
  spreads-on old new spreads = record {
    kept = λ row hub on.
        let number = numbered old row hub on in
        at-row new row hub number.0 number.1 ∙ spreads (number.0 - 1) row
        ∙ or_left _ _ (sym (at-row old row hub number.0 number.1) ∙ on);
    only = λ row hub on.
        let number = numbered new row hub on in
        only_fed row hub number.0 number.1
        (or_cases (has_at old (number.0 - 1) row) (is_fed_at paths.further old (number.0 - 1) row)
        (sym (spreads (number.0 - 1) row) ∙ sym (at-row new row hub number.0 number.1) ∙ on));
    fed = fed;
  }
    where
      at-row : (sets : List ℕ) (row : ℕ) (hub : Hub) (n : ℕ) → number_of hub ≡ Some n → has_row_at sets row hub ≡ has_at sets (n - 1) row
      at-row sets row hub n is = ap (has_at_number sets row) is

      only_fed : (row : ℕ) (hub : Hub) (n : ℕ) → number_of hub ≡ Some n
          → (has_at old (n - 1) row ≡ true) ⊎ (is_fed_at paths.further old (n - 1) row ≡ true) → EmitsOrIsFed wiring (has_row_at old row) hub
      only_fed row hub n is (inl at) = inl (in_range hub n is, at-row old row hub n is ∙ at)
      only_fed row hub n is (inr feeds) =
          let found = fed-found paths.further old (n - 1) row parted.from_contacts.range feeds in
          let from = found.0 in
          let exit = hub_numbered (from + 1) (omega arith) (let low = found.1 in omega (arith, low)) in
          let index : from + 1 - 1 ≡ from = omega arith in
          let linked : is_linked links from (n - 1) ≡ true =
          (and_parts (is_linked links from (n - 1)) (is_led_to parted.contacts from) (sym (parted.from_contacts.linked from (n - 1)) ∙ found.2)).0 in
          inr (record {
            exit = exit.0;
            emits = at-row old row exit.0 (from + 1) exit.1 ∙ ap (λ (p : ℕ). has_at old p row) index ∙ found.3;
            wire =
                (is_net exit.0 hub).0
                (ap (λ m. leads_by net.rows m (number_of hub)) exit.1 ∙ ap (leads_by net.rows (Some (from + 1))) is
                ∙ ap (λ (p : ℕ). leads net.rows p (n - 1)) index ∙ sym (agree from (n - 1)) ∙ linked);
          })

      fed : (row : ℕ) (exit common hub before : Hub) → contact_of exit ≡ Some common → is_exit_of exits before ≡ true
          → HasWire wiring before common → HasWire wiring exit hub → has_row_at old row exit ≡ true → has_row_at new row hub ≡ true
      fed row exit common hub before contact is into wire on =
          let linked = further-wire before common exit hub is into contact wire in
          let there : has_at old (wire.number - 1) row ≡ true = sym (at-row old row exit wire.number wire.numbered) ∙ on in
          at-row new row hub wire.to wire.entry_numbered ∙ spreads (wire.to - 1) row
          ∙ or_right (has_at old (wire.to - 1) row) _ (fed-from paths.further old (wire.number - 1) (wire.to - 1) row linked there)

  -- what is passed on along the contacts behind others
  pub passes-behind : (digits zones : HubSet) (old new : List ℕ) → Passes digits.words zones.words paths.behind old new
      → PassesBehind wiring (is_exit_of exits) digits zones old new
  passes-behind digits zones old new passes = record { passed = passed_behind } where
    passed_behind : (row : CardRow) (before first exit hub : Hub) (on : IsPassedAt digits zones old row hub) → is_exit_of exits before ≡ true
        → HasWire wiring before first → contact_of exit ≡ Some first → HasWire wiring exit on.common
        → has_row_at new (passing_place row) hub ≡ true
    passed_behind row before first exit hub on is into contact wire =
        let r = passing_place row in
        let at = exit_numbered hub on.common wire.to on.contact wire.entry_numbered in
        let h = at.0 in
        let found = contact_numbered on.common hub h on.contact at.1 in
        let g = found.0 in
        let index : h + 1 - 1 ≡ h = omega arith in
        let common_index : g + 1 - 1 ≡ g = omega arith in
        let linked =
        wired-contact paths.further paths.behind exit on.common g h parted.are_behind.wired wire
        (further-wire before first exit on.common is into contact wire) found.1 found.2 in
        let there : has_at old g r ≡ true =
        ap (λ (p : ℕ). has_at old p r) (sym common_index) ∙ sym (ap (has_at_number old r) found.1) ∙ on.on in
        let shut : is_closed_at digits.words zones.words r h ≡ true =
        ap (λ (p : ℕ). is_closed_at digits.words zones.words r p) (sym index) ∙ sym (closes-number digits zones row hub (h + 1) at.1) ∙ on.closed in
        ap (has_at_number new r) at.1 ∙ ap (λ (p : ℕ). has_at new p r) index ∙ passes h r
        ∙ or_right (has_at old h r) _ (passed-from digits.words zones.words old paths.behind g h r linked there shut)
