-- The entries of a ledger are all changes of its number since it was cleared.
use Rattle.std.proofs.Common.{◌≡◌, ◌∙◌, refl, sym, ap, subst, ℕ, ◌+◌, ◌<◌, ◌++◌, nat_lt, Bool, true, false, List, [], ◌∷◌, if◌then◌else◌, arith}
use Rattle.std.proofs.lemmas.Bool.Decides.{nat_tests}
use Rattle.std.proofs.lemmas.List.{append-nil}
use Rattle.std.proofs.lemmas.List.Elements.{All-append, All-cons, All-nil, All-weaker, Contains-append_left, Contains-append_right}
use Rattle.std.specs.List.{All, Contains}
use Rattle.explain_ledgers.proofs.LedgersWords.Places.{comes-to, goes-one, places-one}
use Rattle.explain_ledgers.specs.LedgersWords.Accounts.{movement_of}
use Rattle.explain_ledgers.specs.LedgersWords.Entries.{entries_gained, entries_left, entry_of, is_added, is_cleared, ledger_after}
use Rattle.explain_ledgers.specs.LedgersWords.Ledgers.{Along, Goes, IsLedger, begun, card_in, more}
use Rattle.explain_ledgers.specs.LedgersWords.Running.{HasCycle}
use Rattle.explain_ledgers.specs.declared.ledgers.account.Account.{Account}
use Rattle.explain_ledgers.specs.declared.ledgers.entry.Entry.{Entry}
use Rattle.explain_ledgers.specs.declared.ledgers.entry.Movement.{Movement}
use Rattle.machine.specs.Machine.{MachineState}
use Rattle.net.specs.declared.cycle.Cycle.{Cycle}
use Rattle.hubs.specs.SetupsWords.Wiring.{Wiring}
use Rattle.proof_laws.specs.LedgerAmounts.Changes.{IsSince, LedgersHoldAllChanges, LedgersHoldNoOthers, LedgersRise, Rise, StandsSince, movement_in}

-- The last cycle of a ledger, behind those before it.
module _ (wiring : Wiring) (deck : List (List ℕ)) (account : Account) (cycle : Cycle) (along : Along) (entries : List Entry)
    (behind : MachineState) (ledger : IsLedger wiring deck account along entries) (goes : Goes wiring cycle along behind) where
  abbrev last : HasCycle wiring deck along.passed
  last = record {
    along = along;
    comes = comes-to wiring deck account ledger;
    counted = refl;
    cycle = cycle;
    behind = behind;
    goes = goes;
  }

  abbrev moved : Movement
  moved = movement_of behind.groups cycle account

  -- it is the one behind so many
  last-entry : (has : HasCycle wiring deck along.passed)
      → (movement_in account has ≡ movement_of behind.groups cycle account)
      × (entry_of has.cycle (card_in has.cycle has.along.card) along.passed (movement_in account has)
      ≡ entry_of cycle (card_in cycle along.card) along.passed (movement_of behind.groups cycle account))
  last-entry has =
      let place : has.along ≡ along = places-one wiring deck has.comes (comes-to wiring deck account ledger) has.counted in
      let one =
      goes-one wiring has.cycle cycle along has.behind behind (subst (λ (a : Along). Goes wiring has.cycle a has.behind) place has.goes) goes in (
        (λ i. movement_of (one.1 i).groups (one.0 i) account),
        (λ i. entry_of (one.0 i) (card_in (one.0 i) (place i).card) along.passed (movement_of (one.1 i).groups (one.0 i) account)),
      )

  -- its own change is held
  holds-last : (has : HasCycle wiring deck along.passed) → is_added (movement_in account has) ≡ true
      → Contains (ledger_after cycle (card_in cycle along.card) along.passed (movement_of behind.groups cycle account) entries)
      (entry_of has.cycle (card_in has.cycle has.along.card) along.passed (movement_in account has))
  holds-last has added =
      let same = last-entry has in
      let on : is_added (movement_of behind.groups cycle account) ≡ true = ap is_added (sym same.0) ∙ added in
      subst (Contains (ledger_after cycle (card_in cycle along.card) along.passed (movement_of behind.groups cycle account) entries)) (sym same.1)
      (Contains-append_right (entries_left (movement_of behind.groups cycle account) entries)
      (entries_gained cycle (card_in cycle along.card) along.passed (movement_of behind.groups cycle account))
      (entry_of cycle (card_in cycle along.card) along.passed (movement_of behind.groups cycle account))
      (subst (λ (b : Bool). Contains (if b
      then entry_of cycle (card_in cycle along.card) along.passed (movement_of behind.groups cycle account) ∷ []
      else []) (entry_of cycle (card_in cycle along.card) along.passed (movement_of behind.groups cycle account))) (sym on)
      (0, omega arith, refl)))

  -- an earlier one stays held, if the last one doesn't clear
  holds-earlier : (entry : Entry) → is_cleared (movement_of behind.groups cycle account) ≡ false → Contains entries entry
      → Contains (ledger_after cycle (card_in cycle along.card) along.passed (movement_of behind.groups cycle account) entries) entry
  holds-earlier entry stands there =
      Contains-append_left (entries_left (movement_of behind.groups cycle account) entries)
      (entries_gained cycle (card_in cycle along.card) along.passed (movement_of behind.groups cycle account)) entry
      (subst (λ (b : Bool). Contains (if b then [] else entries) entry) (sym stands) there)

  holds-more : (passed : ℕ) (has : HasCycle wiring deck passed) → passed < along.passed + 1 → is_added (movement_in account has) ≡ true
      → StandsSince wiring deck account passed (along.passed + 1)
      → (passed < along.passed → StandsSince wiring deck account passed along.passed
      → Contains entries (entry_of has.cycle (card_in has.cycle has.along.card) passed (movement_in account has)))
      → Contains (ledger_after cycle (card_in cycle along.card) along.passed (movement_of behind.groups cycle account) entries)
      (entry_of has.cycle (card_in has.cycle has.along.card) passed (movement_in account has))
  holds-more passed has less added stands earlier = by (nat_lt passed along.passed) refl
    where
      by : (b : Bool) → nat_lt passed along.passed ≡ b
          → Contains (ledger_after cycle (card_in cycle along.card) along.passed (movement_of behind.groups cycle account) entries)
          (entry_of has.cycle (card_in has.cycle has.along.card) passed (movement_in account has))
      by true is =
          let low : passed < along.passed = grind (arith, nat_tests, is) in
          holds-earlier (entry_of has.cycle (card_in has.cycle has.along.card) passed (movement_in account has))
          (stands along.passed last low (omega arith))
          (earlier low (λ later other after before. stands later other after (omega (arith, before))))
      by false is =
          let same : passed ≡ along.passed = grind (arith, nat_tests, is, less) in
          let P : ℕ → Type 0 = λ n. (its : HasCycle wiring deck n) → is_added (movement_in account its) ≡ true
          → Contains (ledger_after cycle (card_in cycle along.card) along.passed (movement_of behind.groups cycle account) entries)
          (entry_of its.cycle (card_in its.cycle its.along.card) n (movement_in account its)) in
          subst P (sym same) holds-last has added

  -- what stands since an earlier cycle still stands, if the last one doesn't clear
  stands-on : (passed : ℕ) → is_cleared (movement_of behind.groups cycle account) ≡ false
      → StandsSince wiring deck account passed along.passed → StandsSince wiring deck account passed (along.passed + 1)
  stands-on passed kept stands later has after before = by (nat_lt later along.passed) refl
    where
      by : (b : Bool) → nat_lt later along.passed ≡ b → is_cleared (movement_in account has) ≡ false
      by true is = stands later has after (grind (arith, nat_tests, is))
      by false is =
          let same : later ≡ along.passed = grind (arith, nat_tests, is, before) in
          let P : ℕ → Type 0 = λ n. (its : HasCycle wiring deck n) → is_cleared (movement_in account its) ≡ false in
          subst P (sym same) (λ its. ap is_cleared (last-entry its).0 ∙ kept) has

  since-left : (cleared : Bool) → is_cleared (movement_of behind.groups cycle account) ≡ cleared
      → All (IsSince wiring deck account along.passed) entries
      → All (IsSince wiring deck account (along.passed + 1)) (if cleared then [] else entries)
  since-left true is all = All-nil (IsSince wiring deck account (along.passed + 1))
  since-left false is all =
      All-weaker (IsSince wiring deck account along.passed) (IsSince wiring deck account (along.passed + 1))
      (λ entry since. record {
        before = (let before = since.before in omega (arith, before));
        has = since.has;
        added = since.added;
        stands = stands-on entry.passed is since.stands;
      }) entries all

  since-gained : (added : Bool) → is_added (movement_of behind.groups cycle account) ≡ added
      → All (IsSince wiring deck account (along.passed + 1))
      (if added then entry_of cycle (card_in cycle along.card) along.passed (movement_of behind.groups cycle account) ∷ [] else [])
  since-gained false is = All-nil (IsSince wiring deck account (along.passed + 1))
  since-gained true is =
      All-cons (IsSince wiring deck account (along.passed + 1))
      (entry_of cycle (card_in cycle along.card) along.passed (movement_of behind.groups cycle account)) []
      (record {
        before = omega arith;
        has = last;
        added = is;
        stands = λ later has after before. absurd (omega (arith, after, before));
      })
      (All-nil (IsSince wiring deck account (along.passed + 1)))

hold-all : (wiring : Wiring) (deck : List (List ℕ)) (account : Account) {along : Along} {entries : List Entry} (passed : ℕ)
    (has : HasCycle wiring deck passed)
    → IsLedger wiring deck account along entries → passed < along.passed → is_added (movement_in account has) ≡ true
    → StandsSince wiring deck account passed along.passed
    → Contains entries (entry_of has.cycle (card_in has.cycle has.along.card) passed (movement_in account has))
hold-all wiring deck account passed has begun less added stands = absurd (omega (arith, less))
hold-all wiring deck account passed has (more cycle along entries behind ledger goes) less added stands =
    holds-more wiring deck account cycle along entries behind ledger goes passed has less added stands
    (λ low since. hold-all wiring deck account passed has ledger low added since)

pub ledgers-hold : LedgersHoldAllChanges
ledgers-hold wiring deck account along entries passed has ledger less added stands =
    hold-all wiring deck account passed has ledger less added stands

hold-none : (wiring : Wiring) (deck : List (List ℕ)) (account : Account) {along : Along} {entries : List Entry}
    → IsLedger wiring deck account along entries → All (IsSince wiring deck account along.passed) entries
hold-none wiring deck account begun = All-nil (IsSince wiring deck account 0)
hold-none wiring deck account (more cycle along entries behind ledger goes) =
    All-append (IsSince wiring deck account (along.passed + 1)) (entries_left (movement_of behind.groups cycle account) entries)
    (entries_gained cycle (card_in cycle along.card) along.passed (movement_of behind.groups cycle account))
    (since-left wiring deck account cycle along entries behind ledger goes (is_cleared (movement_of behind.groups cycle account)) refl
    (hold-none wiring deck account ledger))
    (since-gained wiring deck account cycle along entries behind ledger goes (is_added (movement_of behind.groups cycle account)) refl)

pub ledgers-hold-no-others : LedgersHoldNoOthers
ledgers-hold-no-others wiring deck account along entries ledger = hold-none wiring deck account ledger

rise-later : (entries : List Entry) (from until : ℕ) → Rise from entries until → Rise from entries (until + 1)
rise-later [] from until rise = omega (arith, rise)
rise-later (entry ∷ entries) from until rise = (rise.0, rise-later entries (entry.passed + 1) until rise.1)

rise-push : (entries : List Entry) (from until : ℕ) (entry : Entry) → Rise from entries until → entry.passed ≡ until
    → Rise from (entries ++ entry ∷ []) (until + 1)
rise-push [] from until entry rise at = (omega (arith, rise, at), omega (arith, at))
rise-push (first ∷ entries) from until entry rise at = (rise.0, rise-push entries (first.passed + 1) until entry rise.1 at)

rise-left : (entries : List Entry) (until : ℕ) (cleared : Bool) → Rise 0 entries until → Rise 0 (if cleared then [] else entries) until
rise-left entries until true rise = omega arith
rise-left entries until false rise = rise

rise-gained : (entries : List Entry) (until : ℕ) (entry : Entry) (added : Bool) → Rise 0 entries until → entry.passed ≡ until
    → Rise 0 (entries ++ (if added then entry ∷ [] else [])) (until + 1)
rise-gained entries until entry true rise at = rise-push entries 0 until entry rise at
rise-gained entries until entry false rise at =
    subst (λ (l : List Entry). Rise 0 l (until + 1)) (sym (append-nil entries)) (rise-later entries 0 until rise)

rises : (wiring : Wiring) (deck : List (List ℕ)) (account : Account) {along : Along} {entries : List Entry}
    → IsLedger wiring deck account along entries → Rise 0 entries along.passed
rises wiring deck account begun = omega arith
rises wiring deck account (more cycle along entries behind ledger goes) =
    let moved = movement_of behind.groups cycle account in
    rise-gained (entries_left moved entries) along.passed (entry_of cycle (card_in cycle along.card) along.passed moved) (is_added moved)
    (rise-left entries along.passed (is_cleared moved) (rises wiring deck account ledger)) refl

pub ledgers-rise : LedgersRise
ledgers-rise wiring deck account along entries ledger = rises wiring deck account ledger
