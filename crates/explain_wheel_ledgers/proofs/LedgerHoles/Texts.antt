-- Texts that grow piece by piece.
use Rattle.std.proofs.Common.{◌≡◌, ◌∙◌, sym, subst, ap, ℕ, ◌+◌, ◌-◌, ◌/◌, ◌%◌, ◌<◌, ◌≤◌, ◌⊎◌, inl, inr, List, [], ◌∷◌, ◌++◌, take, length, get_or, arith}
use Rattle.std.proofs.lemmas.List.{take_all, take_more}
use Rattle.std.specs.Prelude.{Option, IfOk, Result, Vec}
use Rattle.std.specs.declared.alloc.Global.{Global}
use Rattle.card_code.specs.declared.row.Row.{Row}
use Rattle.hubs.specs.declared.hub.Hub.{Hub}
use Rattle.explain_origins.specs.declared.holes.Hole.{Hole}
use Rattle.hubs.specs.SetupsWords.Wiring.{Wiring}
use Rattle.explain_ledgers.specs.LedgersWords.LedgerText.Entries.{Words}
use Rattle.explain_ledgers.specs.LedgersWords.Running.{HasCycle}
use Rattle.explain_ledgers.specs.declared.ledgers.account.Account.{Account}
use Rattle.explain_ledgers.specs.LedgersWords.Accounts.{positions_of}
use Rattle.explain_ledgers.specs.declared.ledgers.entry.Change.{Change}
use Rattle.explain_ledgers.specs.declared.ledgers.entry.Change.TheVariants.{Plus, Minus, Apart}
use Rattle.explain_ledgers.specs.declared.ledgers.entry.Entry.{Entry}
use Rattle.net.specs.declared.cycle.Cycle.{Cycle}
use Rattle.explain_wheel_ledgers.specs.LedgerHoles.Digits.{AreDigitLines, IsDigitLine, IsLineBy, came, hole_for, next_digit, no_digit, nothing, row_of}
use Rattle.explain_wheel_ledgers.specs.LedgerHoles.Down.{AreEntered, AreEntriesDown, IsEntryDown, next_entry, no_entry}
use Rattle.explain_wheel_ledgers.specs.LedgerHoles.Positions.{entry_at, position_in}
use Rattle.explain_wheel_ledgers.specs.declared.ledger_holes.positions.Position.{Position}

module _ {wiring : Wiring} {deck : List (List ℕ)} {passed : ℕ} (has : HasCycle wiring deck passed) (cycle : Cycle) (card : ℕ) where
  -- the line of a 0
  pub digit-none : (at_position : Position) (digit : ℕ) (line : List ℕ) → digit ≡ 0 → line ≡ []
      → IsDigitLine has cycle card at_position digit line
  digit-none at_position digit line none empty =
      subst (λ (n : ℕ). IsDigitLine has cycle card at_position n line) (sym none)
      (subst (λ (any : List ℕ). IsDigitLine has cycle card at_position 0 any) (sym empty) nothing)

  -- the line of another digit
  pub digit-came : (at_position : Position) (digit : ℕ) (line : List ℕ) (hole : Option Hole) (entry : Hub) (row : Row) → 1 ≤ digit
      → entry ≡ entry_at at_position → row ≡ row_of digit → hole ≡ hole_for wiring deck cycle card row entry
      → IsLineBy has card at_position digit hole line → IsDigitLine has cycle card at_position digit line
  digit-came at_position digit line hole entry row some is_entry is_row is_hole by =
      came digit line some
      (subst (λ (h : Hub). IsLineBy has card at_position digit (hole_for wiring deck cycle card (row_of digit) h) line) is_entry
      (subst (λ (r : Row). IsLineBy has card at_position digit (hole_for wiring deck cycle card r entry) line) is_row
      (subst (λ (o : Option Hole). IsLineBy has card at_position digit o line) is_hole by)))

module _ {wiring : Wiring} {deck : List (List ℕ)} {passed : ℕ} (has : HasCycle wiring deck passed) (cycle : Cycle) (card : ℕ)
    (account : Account)
  where
    -- no digit
    pub digits-none : (count position number : ℕ) (lines : List ℕ) → count ≡ 0 → lines ≡ []
        → AreDigitLines has cycle card account count position number lines
    digits-none count position number lines none empty =
        subst (λ (n : ℕ). AreDigitLines has cycle card account n position number lines) (sym none)
        (subst (λ (any : List ℕ). AreDigitLines has cycle card account 0 position number any) (sym empty) (no_digit position number))

    -- the line of one digit more, below those of the digits above it
    pub digits-more : (count fewer position number : ℕ) (at_position : Position) (above line new : List ℕ) → 0 < count → fewer ≡ count - 1
        → at_position ≡ position_in account position
        → AreDigitLines has cycle card account fewer (position + 1) (number / 10) above
        → IsDigitLine has cycle card at_position (number % 10) line → new ≡ above ++ line
        → AreDigitLines has cycle card account count position number new
    digits-more count fewer position number at_position above line new some below is front last put =
        let here : fewer + 1 ≡ count = omega (arith, some, below) in
        subst (λ (any : List ℕ). AreDigitLines has cycle card account count position number any) (sym put)
        (subst (λ (n : ℕ). AreDigitLines has cycle card account n position number (above ++ line)) here
        (next_digit fewer position number above line front
        (subst (λ (at : Position). IsDigitLine has cycle card at (number % 10) line) is last)))

-- the first entries of some are told down to the holes
module _ (wiring : Wiring) (cards : List (List ℕ)) (words : Option Words) (account : Account) (entries : List Entry) where
  pub entries-none : (text : List ℕ) → text ≡ [] → AreEntriesDown wiring cards words account (take 0 entries) text
  entries-none text empty = subst (λ (any : List ℕ). AreEntriesDown wiring cards words account [] any) (sym empty) no_entry

  pub entries-more : (place : ℕ) (d entry : Entry) (old next new : List ℕ) → place < length entries → entry ≡ get_or entries place d
      → AreEntriesDown wiring cards words account (take place entries) old → IsEntryDown wiring cards words account entry next
      → new ≡ old ++ next → AreEntriesDown wiring cards words account (take (place + 1) entries) new
  entries-more place d entry old next new less item told one put =
      let taken : take (place + 1) entries ≡ take place entries ++ entry ∷ [] =
      take_more entries place d less ∙ ap (λ (e : Entry). take place entries ++ e ∷ []) (sym item) in
      subst (λ (any : List ℕ). AreEntriesDown wiring cards words account (take (place + 1) entries) any) (sym put)
      (subst (λ (some : List Entry). AreEntriesDown wiring cards words account some (old ++ next)) (sym taken)
      (next_entry (take place entries) entry old next told one))

  pub entries-all : (place : ℕ) (text : List ℕ) → length entries ≤ place
      → AreEntriesDown wiring cards words account (take place entries) text → AreEntriesDown wiring cards words account entries text
  entries-all place text past told =
      subst (λ (some : List Entry). AreEntriesDown wiring cards words account some text) (take_all place entries past) told

-- the same of the same entries
pub entries-of : (wiring : Wiring) (cards : List (List ℕ)) (words : Option Words) (account other : Account) (entries others : List Entry)
    (text : List ℕ) → account ≡ other → entries ≡ others → AreEntriesDown wiring cards words account entries text
    → AreEntriesDown wiring cards words other others text
entries-of wiring cards words account other entries others text same are told =
    subst (λ (some : List Entry). AreEntriesDown wiring cards words other some text) are
    (subst (λ (a : Account). AreEntriesDown wiring cards words a entries text) same told)

-- the digits of a number that was added or subtracted
pub entered-by : {E : Type 0} (result : Result (Vec ℕ Global) E) {wiring : Wiring} {deck : List (List ℕ)} {passed : ℕ}
    (has : HasCycle wiring deck passed) (account : Account) (entry : Entry) (change : Change)
    → (change ≡ Plus) ⊎ ((change ≡ Minus) ⊎ (change ≡ Apart))
    → IfOk result (λ lines. AreDigitLines has entry.cycle entry.card account (positions_of account) 1 entry.entered lines.items)
    → IfOk result (λ lines. AreEntered has account entry change lines.items)
entered-by result has account entry change (inl same) told =
    subst (λ (any : Change). IfOk result (λ lines. AreEntered has account entry any lines.items)) (sym same) told
entered-by result has account entry change (inr (inl same)) told =
    subst (λ (any : Change). IfOk result (λ lines. AreEntered has account entry any lines.items)) (sym same) told
entered-by result has account entry change (inr (inr same)) told =
    subst (λ (any : Change). IfOk result (λ lines. AreEntered has account entry any lines.items)) (sym same) told
