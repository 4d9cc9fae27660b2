-- A ledger is one of its kind.
use Rattle.std.proofs.Common.{◌≡◌, ◌∙◌, sym, ap, subst, refl, ℕ, List, [], arith}
use Rattle.explain_ledgers.proofs.LedgersWords.Places.{comes-to, goes-one, places-one}
use Rattle.explain_ledgers.specs.LedgersWords.Accounts.{movement_of}
use Rattle.explain_ledgers.specs.LedgersWords.Entries.{ledger_after}
use Rattle.explain_ledgers.specs.LedgersWords.Ledgers.{Along, ComesTo, Goes, IsLedger, at_start, begun, card_in, more, on}
use Rattle.explain_ledgers.specs.LedgersWords.Summaries.{summary_of}
use Rattle.explain_ledgers.specs.declared.ledgers.account.Account.{Account}
use Rattle.explain_ledgers.specs.declared.ledgers.entry.Entry.{Entry}
use Rattle.hubs.specs.SetupsWords.Wiring.{Wiring}
use Rattle.proof_laws.specs.LedgerAmounts.OneLedger.{KeptLedgersAreOne, LedgersAreOne, PlacesHaveLedgers}

has-ledger : (wiring : Wiring) (deck : List (List ℕ)) (account : Account) {along : Along} → ComesTo wiring deck along
    → (entries : List Entry) × IsLedger wiring deck account along entries
has-ledger wiring deck account at_start = ([], begun)
has-ledger wiring deck account (on cycle along behind comes goes) =
    let (entries, ledger) = has-ledger wiring deck account comes in (
      ledger_after cycle (card_in cycle along.card) along.passed (movement_of behind.groups cycle account) entries,
      more cycle along entries behind ledger goes,
    )

pub places-have : PlacesHaveLedgers
places-have wiring deck account along comes = has-ledger wiring deck account comes

one-ledger : (wiring : Wiring) (deck : List (List ℕ)) (account : Account) {here there : Along} {entries others : List Entry}
    → IsLedger wiring deck account here entries → IsLedger wiring deck account there others → here.passed ≡ there.passed
    → entries ≡ others
one-ledger wiring deck account begun begun same = refl
one-ledger wiring deck account begun (more cycle along entries behind ledger goes) same = absurd (omega (arith, same))
one-ledger wiring deck account (more cycle along entries behind ledger goes) begun same = absurd (omega (arith, same))
one-ledger wiring deck account (more cycle along entries behind ledger goes) (more other also others also_behind also_ledger also_goes) same =
    let before : entries ≡ others = one-ledger wiring deck account ledger also_ledger (omega (arith, same)) in
    let place : along ≡ also =
    places-one wiring deck (comes-to wiring deck account ledger) (comes-to wiring deck account also_ledger) (omega (arith, same)) in
    let one =
    goes-one wiring cycle other also behind also_behind (subst (λ (a : Along). Goes wiring cycle a behind) place goes) also_goes in
    (λ i. ledger_after (one.0 i) (card_in (one.0 i) (place i).card) (place i).passed (movement_of (one.1 i).groups (one.0 i) account)
    (before i))

pub ledgers-one : LedgersAreOne
ledgers-one wiring deck account here there entries others ledger also same = one-ledger wiring deck account ledger also same

pub kept-one : KeptLedgersAreOne
kept-one wiring deck account passed ends told other kept also =
    kept.told_is
    ∙ ap (summary_of account ends) (one-ledger wiring deck account kept.is also.is (kept.counted ∙ sym also.counted))
    ∙ sym also.told_is
