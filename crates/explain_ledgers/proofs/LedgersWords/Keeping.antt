-- What is known of a ledger, and of the counter groups, along a run.
use Rattle.std.proofs.Common.{◌≡◌, ◌∙◌, sym, ap, subst, ℕ, ◌+◌, ◌-◌, ◌<◌, ◌≤◌, Bool, true, false, List, [], ◌∷◌, ◌++◌, length, drop, arith, if◌then◌else◌, append-nil, get_or}
use Rattle.std.proofs.lemmas.List.{get_or_default}
use Rattle.std.specs.List.{All}
use Rattle.hubs.specs.SetupsWords.Wiring.{Wiring}
use Rattle.counters.specs.Counters.{Counter, counter_at_start}
use Rattle.counters.specs.Laws.{IsCounter}
use Rattle.net.specs.declared.cycle.Cycle.{Cycle}
use Rattle.machine.specs.Machine.{MachineState}
use Rattle.explain_ledgers.specs.LedgersWords.Accounts.{movement_of}
use Rattle.explain_ledgers.specs.LedgersWords.Entries.{entry_of, is_added, is_cleared}
use Rattle.explain_ledgers.specs.LedgersWords.Ledgers.{Along, ComesTo, Goes, IsLedger, begun, card_in, more}
use Rattle.explain_ledgers.specs.LedgersWords.Summaries.{Summary, summary_of}
use Rattle.explain_ledgers.specs.declared.ledgers.account.Account.{Account}
use Rattle.explain_ledgers.specs.declared.ledgers.entry.Entry.{Entry}
use Rattle.explain_ledgers.proofs.LedgersWords.Summaries.{length-drop-within, length-one, length-take-within}
use Rattle.explain_ledgers.proofs.LedgersWords.Whole.{holds, in-cycle}

-- a ledger has no more entries than cycles are over
ledger-few : (wiring : Wiring) (deck : List (List ℕ)) (account : Account) {along : Along} {entries : List Entry}
    → IsLedger wiring deck account along entries → length entries ≤ along.passed
ledger-few wiring deck account begun = omega arith
ledger-few wiring deck account (more cycle along entries behind ledger goes) =
    let moved = movement_of behind.groups cycle account in
    let before = ledger-few wiring deck account ledger in
    let less = after-few (is_cleared moved) (is_added moved) entries (entry_of cycle (card_in cycle along.card) along.passed moved) in
    omega (arith, before, less)
  where
    after-few : (cleared added : Bool) (entries : List Entry) (entry : Entry)
        → length ((if cleared then [] else entries) ++ (if added then entry ∷ [] else [])) ≤ length entries + 1
    after-few true true entries entry = omega arith
    after-few true false entries entry = omega arith
    after-few false true entries entry = let is = length-one entries entry in omega (arith, is)
    after-few false false entries entry = let is = ap length (append-nil entries) in omega (arith, is)

-- so no more are left out
pub left-out-few : (wiring : Wiring) (deck : List (List ℕ)) (account : Account) (along : Along) (entries : List Entry) (ends : ℕ)
    (told : Summary) → IsLedger wiring deck account along entries → told ≡ summary_of account ends entries
    → told.left_out.count ≤ along.passed
left-out-few wiring deck account along entries ends told ledger told_is =
    let few = ledger-few wiring deck account ledger in
    let less = length-take-within (length (drop ends entries) - ends) (drop ends entries) in
    let fewer = length-drop-within ends entries in
    let is = ap (λ (t : Summary). t.left_out.count) told_is in
    omega (arith, few, less, fewer, is)

-- the groups behind the points of a cycle
pub groups-many : (wiring : Wiring) (deck : List (List ℕ)) (cycle : Cycle) (along : Along) (behind : MachineState) (groups : List Counter)
    → ComesTo wiring deck along → Goes wiring cycle along behind → groups ≡ behind.groups → length groups ≡ 32
groups-many wiring deck cycle along behind groups comes goes is =
    ap length is
    ∙ (in-cycle wiring cycle 0 along behind (omega arith) (holds wiring deck 0 (omega arith) comes) goes).many

pub groups-lawful : (wiring : Wiring) (deck : List (List ℕ)) (cycle : Cycle) (along : Along) (behind : MachineState) (groups : List Counter)
    → ComesTo wiring deck along → Goes wiring cycle along behind → groups ≡ behind.groups → All IsCounter groups
groups-lawful wiring deck cycle along behind groups comes goes is = λ place other low.
    let within : place < 32 = subst (λ (n : ℕ). place < n) (groups-many wiring deck cycle along behind groups comes goes is) low in
    let here = in-cycle wiring cycle place along behind within (holds wiring deck place within comes) goes in
    subst IsCounter (get_or_default groups place (counter_at_start 3) other low)
    (subst (λ (gs : List Counter). IsCounter (get_or gs place (counter_at_start 3))) (sym is) here.lawful)
