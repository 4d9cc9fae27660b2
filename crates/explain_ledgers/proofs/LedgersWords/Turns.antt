-- A number that turned entered what it was.
use Rattle.std.proofs.Common.{◌≡◌, ◌∙◌, sym, ap, refl, ℕ, ◌==◌, ◌&&◌, not, Bool, true, false, List, if◌then◌else◌}
use Rattle.std.proofs.lemmas.Bool.{eqb-true}
use Rattle.std.proofs.lemmas.List.Elements.{All-append, All-nil}
use Rattle.std.specs.List.{All}
use Rattle.net.specs.declared.cycle.Cycle.{Cycle}
use Rattle.hubs.specs.SetupsWords.Wiring.{Wiring}
use Rattle.explain_ledgers.specs.LedgersWords.Accounts.{movement_of}
use Rattle.explain_ledgers.specs.LedgersWords.Entries.{entries_gained, entries_left, entry_of, is_added, is_cleared}
use Rattle.explain_ledgers.specs.LedgersWords.Ledgers.{Along, IsLedger, begun, card_in, more}
use Rattle.explain_ledgers.specs.LedgersWords.Turns.{EntersItself, TurnsEnterNumbers}
use Rattle.explain_ledgers.specs.declared.ledgers.account.Account.{Account}
use Rattle.explain_ledgers.specs.declared.ledgers.entry.Change.{Change}
use Rattle.explain_ledgers.specs.declared.ledgers.entry.Change.TheVariants.{Apart, Carry, Minus, Plus, Turned}
use Rattle.explain_ledgers.specs.declared.ledgers.entry.Entry.{Entry}
use Rattle.explain_ledgers.specs.declared.ledgers.entry.Movement.{Movement}
use Rattle.explain_ledgers.proofs.LedgersWords.Places.{gained-all, left-all}

-- a change that isn't a turn
other-change : (plus : Bool) → ◌≡◌ {A = Change} (if plus then Plus else Carry) Turned → ⊥
other-change true is = cc
other-change false is = cc

minus-change : (minus plus : Bool) → ◌≡◌ {A = Change} (if minus then Minus else if plus then Plus else Carry) Turned → ⊥
minus-change true plus is = cc
minus-change false plus is = other-change plus is

apart-change : ◌≡◌ {A = Change} Apart Turned → ⊥
apart-change is = cc

-- a turn enters what is held, and clears nothing
turned-by : (apart read_out minus same plus : Bool)
    → (if apart then Apart else if not apart && read_out && minus && same then Turned else if minus then Minus else if plus then Plus else Carry)
    ≡ Turned
    → (same ≡ true) × ((not apart && read_out && not (not apart && read_out && minus && same)) ≡ false)
turned-by true read_out minus same plus is = absurd (apart-change is)
turned-by false true true true plus is = (refl, refl)
turned-by false true true false plus is = absurd (minus-change true plus is)
turned-by false true false same plus is = absurd (minus-change false plus is)
turned-by false false minus same plus is = absurd (minus-change minus plus is)

entry-turned : (cycle : Cycle) (card passed : ℕ) (moved : Movement) → EntersItself (entry_of cycle card passed moved)
entry-turned cycle card passed moved is =
    let turned = turned-by moved.apart moved.read_out moved.minus (moved.entered == moved.held) moved.plus is in
    eqb-true moved.entered moved.held turned.0 ∙ ap (λ (b : Bool). if b then 0 else moved.held) (sym turned.1)

turns-along : (wiring : Wiring) (deck : List (List ℕ)) (account : Account) {along : Along} {entries : List Entry}
    → IsLedger wiring deck account along entries → All EntersItself entries
turns-along wiring deck account begun = All-nil EntersItself
turns-along wiring deck account (more cycle along entries behind ledger goes) =
    let moved : Movement = movement_of behind.groups cycle account in
    let card : ℕ = card_in cycle along.card in
    All-append EntersItself (entries_left moved entries) (entries_gained cycle card along.passed moved)
    (left-all EntersItself (is_cleared moved) entries (turns-along wiring deck account ledger))
    (gained-all EntersItself (is_added moved) (entry_of cycle card along.passed moved) (entry-turned cycle card along.passed moved))

pub turns-enter : TurnsEnterNumbers
turns-enter wiring deck account along entries ledger = turns-along wiring deck account ledger
