-- Places of a run, each told by how many cycles are over.
use Rattle.std.proofs.Common.{◌≡◌, ◌∙◌, sym, ap, subst, refl, ℕ, List, [], ◌∷◌, Bool, true, false, get_or, if◌then◌else◌}
use Rattle.std.proofs.lemmas.List.Elements.{All-append, All-cons, All-nil}
use Rattle.std.specs.List.{All}
use Rattle.hubs.specs.SetupsWords.Wiring.{Wiring}
use Rattle.net.specs.declared.cycle.Cycle.{Cycle}
use Rattle.machine.specs.Machine.{MachineState}
pub use Rattle.explain_wheels.proofs.RunsWords.Places.{IsWithin, card_in-next, comes-within, goes-falls, goes-one, later-due, places-one, still-due}
use Rattle.explain_ledgers.specs.LedgersWords.Accounts.{movement_of}
use Rattle.explain_ledgers.specs.LedgersWords.Entries.{entries_gained, entries_left, entry_of, is_added, is_cleared}
use Rattle.explain_ledgers.specs.LedgersWords.Ledgers.{Along, ComesTo, Goes, IsLedger, at_start, begun, card_in, more, on}
use Rattle.explain_ledgers.specs.LedgersWords.Cycles.{EntriesTellCycles, PlacesAreOne, TellsCycle}
use Rattle.explain_ledgers.specs.LedgersWords.Running.{HasCycle}
use Rattle.explain_ledgers.specs.declared.ledgers.account.Account.{Account}
use Rattle.explain_ledgers.specs.declared.ledgers.entry.Entry.{Entry}

-- the run of a ledger
pub comes-to : (wiring : Wiring) (deck : List (List ℕ)) (account : Account) {along : Along} {entries : List Entry}
    → IsLedger wiring deck account along entries → ComesTo wiring deck along
comes-to wiring deck account begun = at_start
comes-to wiring deck account (more cycle along entries behind ledger goes) = on cycle along behind (comes-to wiring deck account ledger) goes

pub places-are-one : PlacesAreOne
places-are-one wiring deck here there comes others same = places-one wiring deck comes others same

-- an entry of a cycle of the run
pub record IsOfRun (wiring : Wiring) (deck : List (List ℕ)) (account : Account) (entry : Entry) : Type 0 where
  pub along : Along
  pub comes : ComesTo wiring deck along
  pub cycle : Cycle
  pub behind : MachineState
  pub goes : Goes wiring cycle along behind
  pub told : entry ≡ entry_of cycle (card_in cycle along.card) along.passed (movement_of behind.groups cycle account)

pub left-all : (P : Entry → Type 0) (cleared : Bool) (entries : List Entry) → All P entries → All P (if cleared then [] else entries)
left-all P true entries all = All-nil P
left-all P false entries all = all

pub gained-all : (P : Entry → Type 0) (added : Bool) (entry : Entry) → P entry → All P (if added then entry ∷ [] else [])
gained-all P true entry is = All-cons P entry [] is (All-nil P)
gained-all P false entry is = All-nil P

pub all-of-run : (wiring : Wiring) (deck : List (List ℕ)) (account : Account) {along : Along} {entries : List Entry}
    → IsLedger wiring deck account along entries → All (IsOfRun wiring deck account) entries
all-of-run wiring deck account begun = All-nil (IsOfRun wiring deck account)
all-of-run wiring deck account (more cycle along entries behind ledger goes) =
    let moved = movement_of behind.groups cycle account in
    let card = card_in cycle along.card in
    let P = IsOfRun wiring deck account in
    All-append P (entries_left moved entries) (entries_gained cycle card along.passed moved)
    (left-all P (is_cleared moved) entries (all-of-run wiring deck account ledger))
    (gained-all P (is_added moved) (entry_of cycle card along.passed moved)
    (record {
      along = along;
      comes = comes-to wiring deck account ledger;
      cycle = cycle;
      behind = behind;
      goes = goes;
      told = refl;
    }))

entry-tells : (wiring : Wiring) (deck : List (List ℕ)) (account : Account) (entry : Entry) → IsOfRun wiring deck account entry
    → (has : HasCycle wiring deck entry.passed) → TellsCycle account entry has
entry-tells wiring deck account entry past has =
    let counted : entry.passed ≡ past.along.passed = ap (λ (e : Entry). e.passed) past.told in
    let same : past.along ≡ has.along = places-one wiring deck past.comes has.comes (sym counted ∙ sym has.counted) in
    let one =
    goes-one wiring past.cycle has.cycle has.along past.behind has.behind
    (subst (λ (a : Along). Goes wiring past.cycle a past.behind) same past.goes) has.goes in
    past.told
    ∙ ap (λ (a : Along). entry_of past.cycle (card_in past.cycle a.card) a.passed (movement_of past.behind.groups past.cycle account)) same
    ∙ ap (λ (c : Cycle). entry_of c (card_in c has.along.card) has.along.passed (movement_of past.behind.groups c account)) one.0
    ∙ ap (λ (m : MachineState). entry_of has.cycle (card_in has.cycle has.along.card) has.along.passed
    (movement_of m.groups has.cycle account)) one.1
    ∙ ap (λ (n : ℕ). entry_of has.cycle (card_in has.cycle has.along.card) n (movement_of has.behind.groups has.cycle account)) has.counted

pub entries-tell : EntriesTellCycles
entries-tell wiring deck account along entries ledger = λ k d low.
    let past = all-of-run wiring deck account ledger k d low in
    record {
      has = record {
        along = past.along;
        comes = past.comes;
        counted = sym (ap (λ (e : Entry). e.passed) past.told);
        cycle = past.cycle;
        behind = past.behind;
        goes = past.goes;
      };
      tells = entry-tells wiring deck account (get_or entries k d) past;
    }
