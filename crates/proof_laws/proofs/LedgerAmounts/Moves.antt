-- What is asked of a counter in a cycle, as the movement of its number, and what that movement makes of its ledger.
use Rattle.std.proofs.Common.{◌≡◌, ◌∙◌, refl, sym, ℕ, ◌==◌, ◌&&◌, ◌||◌, not, Bool, true, false, List, [], ◌∷◌, ◌++◌, Some, append-nil, if◌then◌else◌, arith}
use Rattle.std.proofs.lemmas.Bool.Decides.{nat_tests}
use Rattle.explain_ledgers.specs.LedgersWords.Entries.{change_of, entry_of, is_added, is_cleared, is_turned, ledger_after}
use Rattle.explain_ledgers.specs.declared.ledgers.entry.Change.TheVariants as change
use Rattle.explain_ledgers.specs.declared.ledgers.entry.Entry.{Entry}
use Rattle.explain_ledgers.specs.declared.ledgers.entry.Movement.{Movement}
use Rattle.net.specs.declared.cycle.Cycle.{Cycle}
use Rattle.report_definition.specs.Amounts.{signed}
use Rattle.proof_cycles.specs.TotalsWords.Amounts.{posted}
use Rattle.proof_cycles.specs.TotalsWords.CounterCycles.Acts.{Act, act_controls}
use Rattle.proof_cycles.specs.TotalsWords.CounterCycles.Acts.Act.{Turn, Show, Plus, Minus}
use Rattle.proof_laws.specs.LedgerAmounts.Postings.{posted_by, posting_of}

-- whether a number is entered for what is asked
abbrev pub enters : Act → Bool
enters act = (act_controls act).plus || (act_controls act).minus

-- which number that is
abbrev pub IsEntered : Act → (held entered : ℕ) → Type 0
IsEntered Turn held entered = entered ≡ held
IsEntered (Plus number) held entered = entered ≡ number
IsEntered (Minus number) held entered = entered ≡ number
IsEntered other held entered = Unit {0}

-- What happens to the number of a counter of which this is asked while it holds a number.
pub record Moves (act : Act) (number : ℕ) (moved : Movement) : Type 0 where
  pub apart : moved.apart ≡ false
  pub read_out : moved.read_out ≡ (act_controls act).read_out
  pub plus : moved.plus ≡ (act_controls act).plus
  pub minus : moved.minus ≡ (act_controls act).minus
  pub carry : enters act ≡ false → moved.carry ≡ false
  pub held : moved.held ≡ number
  pub entered : IsEntered act number moved.entered

-- tests of movements
not-read : (apart read turned : Bool) → read ≡ false → (not apart && read && not turned) ≡ false
not-read apart read turned none = grind (arith, nat_tests, none)

not-turned : (apart read minus same : Bool) → minus ≡ false → (not apart && read && minus && same) ≡ false
not-turned apart read minus same none = grind (arith, nat_tests, none)

read-not-turned : (apart read minus same : Bool) → read ≡ false → (not apart && read && minus && same) ≡ false
read-not-turned apart read minus same none = grind (arith, nat_tests, none)

all-turned : (apart read minus same : Bool) → apart ≡ false → read ≡ true → minus ≡ true → same ≡ true
    → (not apart && read && minus && same) ≡ true
all-turned apart read minus same a r m s = grind (arith, nat_tests, a, r, m, s)

read-cleared : (apart read turned : Bool) → apart ≡ false → read ≡ true → turned ≡ false → (not apart && read && not turned) ≡ true
read-cleared apart read turned a r t = grind (arith, nat_tests, a, r, t)

turned-kept : (apart read turned : Bool) → turned ≡ true → (not apart && read && not turned) ≡ false
turned-kept apart read turned t = grind (arith, nat_tests, t)

none-added : (apart plus minus carry : Bool) → apart ≡ false → plus ≡ false → minus ≡ false → carry ≡ false
    → (apart || plus || minus || carry) ≡ false
none-added apart plus minus carry a p m c = grind (arith, nat_tests, a, p, m, c)

plus-added : (apart plus minus carry : Bool) → plus ≡ true → (apart || plus || minus || carry) ≡ true
plus-added apart plus minus carry p = grind (arith, nat_tests, p)

minus-added : (apart plus minus carry : Bool) → minus ≡ true → (apart || plus || minus || carry) ≡ true
minus-added apart plus minus carry m = grind (arith, nat_tests, m)

same-number : (n m : ℕ) → n ≡ m → (n == m) ≡ true
same-number n m same = grind (arith, nat_tests, same)

module _ (cycle : Cycle) (card passed : ℕ) (moved : Movement) (entries : List Entry) where
  -- a ledger behind a cycle, by the tests of its movement
  after-by : (cleared added : Bool) → is_cleared moved ≡ cleared → is_added moved ≡ added
      → ledger_after cycle card passed moved entries
      ≡ (if cleared then [] else entries) ++ (if added then entry_of cycle card passed moved ∷ [] else [])
  after-by cleared added is_so is_too =
      λ i. (if is_so i then [] else entries) ++ (if is_too i then entry_of cycle card passed moved ∷ [] else [])

  -- what enters nothing and isn't read out leaves its ledger
  pub leaves : (act : Act) (number : ℕ) → Moves act number moved → enters act ≡ false → (act_controls act).read_out ≡ false
      → (act_controls act).plus ≡ false → (act_controls act).minus ≡ false → ledger_after cycle card passed moved entries ≡ entries
  leaves act number moves none unread unadded unsubtracted =
      after-by false false (not-read moved.apart moved.read_out (is_turned moved) (moves.read_out ∙ unread))
      (none-added moved.apart moved.plus moved.minus moved.carry moves.apart (moves.plus ∙ unadded) (moves.minus ∙ unsubtracted)
      (moves.carry none))
      ∙ append-nil entries

  -- what is shown begins anew
  pub clears : (number : ℕ) → Moves Show number moved → ledger_after cycle card passed moved entries ≡ []
  clears number moves =
      after-by true false
      (read-cleared moved.apart moved.read_out (is_turned moved) moves.apart moves.read_out
      (not-turned moved.apart moved.read_out moved.minus (moved.entered == moved.held) moves.minus))
      (none-added moved.apart moved.plus moved.minus moved.carry moves.apart moves.plus moves.minus (moves.carry refl))

  -- one entry more
  abbrev pub entry : Entry
  entry = entry_of cycle card passed moved

  change-by : (apart turned minus plus : Bool) → moved.apart ≡ apart → is_turned moved ≡ turned → moved.minus ≡ minus → moved.plus ≡ plus
      → change_of moved
      ≡ (if apart then change.Apart else if turned then change.Turned else if minus then change.Minus else if plus then change.Plus else change.Carry)
  change-by apart turned minus plus a t m p =
      λ i. if a i then change.Apart else if t i then change.Turned else if m i then change.Minus else if p i then change.Plus else change.Carry

  -- what turns has an entry more, that tells of it
  pub turns : (number : ℕ) → Moves Turn number moved
      → (ledger_after cycle card passed moved entries ≡ entries ++ (entry ∷ [])) × (change_of moved ≡ change.Turned)
  turns number moves =
      let turned : is_turned moved ≡ true =
      all-turned moved.apart moved.read_out moved.minus (moved.entered == moved.held) moves.apart moves.read_out moves.minus
      (same-number moved.entered moved.held (moves.entered ∙ sym moves.held)) in (
        after-by false true (turned-kept moved.apart moved.read_out (is_turned moved) turned)
            (minus-added moved.apart moved.plus moved.minus moved.carry moves.minus),
        change-by false true true false moves.apart turned moves.minus moves.plus,
      )

  -- what is added or subtracted has an entry more, that tells the number with its sign
  pub posts : (negative : Bool) (size number : ℕ) → Moves (posted negative size) number moved
      → (ledger_after cycle card passed moved entries ≡ entries ++ (entry ∷ []))
      × (posting_of entry ≡ Some (record { cycle = cycle; card = card; amount = signed negative size }))
  posts true size number moves =
      let unturned : is_turned moved ≡ false =
      read-not-turned moved.apart moved.read_out moved.minus (moved.entered == moved.held) moves.read_out in
      let is = change-by false false true false moves.apart unturned moves.minus moves.plus in (
        after-by false true (not-read moved.apart moved.read_out (is_turned moved) moves.read_out)
            (minus-added moved.apart moved.plus moved.minus moved.carry moves.minus),
        λ i. posted_by (is i) cycle card (moves.entered i),
      )
  posts false size number moves =
      let unturned : is_turned moved ≡ false =
      read-not-turned moved.apart moved.read_out moved.minus (moved.entered == moved.held) moves.read_out in
      let is = change-by false false false true moves.apart unturned moves.minus moves.plus in (
        after-by false true (not-read moved.apart moved.read_out (is_turned moved) moves.read_out)
            (plus-added moved.apart moved.plus moved.minus moved.carry moves.plus),
        λ i. posted_by (is i) cycle card (moves.entered i),
      )
