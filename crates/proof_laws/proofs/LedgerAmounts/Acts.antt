-- What each kind of cycle makes of the ledger of a total.
use Rattle.std.proofs.Common.{◌≡◌, refl, ap, subst, ℕ, ◌==◌, ◌&&◌, Bool, true, false, List, [], ◌∷◌, ◌++◌, Some, if◌then◌else◌}
use Rattle.explain_ledgers.specs.LedgersWords.Entries.{change_of, entry_of, ledger_after}
use Rattle.explain_ledgers.specs.declared.ledgers.entry.Change.TheVariants.{Turned}
use Rattle.explain_ledgers.specs.declared.ledgers.entry.Entry.{Entry}
use Rattle.explain_ledgers.specs.declared.ledgers.entry.Movement.{Movement}
use Rattle.net.specs.declared.cycle.Cycle.{Cycle}
use Rattle.net.specs.declared.cycle.Ordinal.TheVariants.{First, Second, Third}
use Rattle.report_definition.specs.Amounts.{signed}
use Rattle.proof_cycles.specs.TotalsWords.Amounts.{Amount, Kind, act_of, lower, posted, total_act}
use Rattle.proof_cycles.specs.TotalsWords.Amounts.Kind.{Entry as Comes, Prog as Ends, Other}
use Rattle.proof_cycles.specs.TotalsWords.CounterCycles.Acts.{Act, Held}
use Rattle.proof_cycles.specs.TotalsWords.CounterCycles.Acts.Act.{Show, Still, Test, Turn}
use Rattle.proof_laws.proofs.LedgerAmounts.Moves.{Moves, clears, leaves, posts, turns}
use Rattle.proof_laws.specs.LedgerAmounts.Postings.{posting_of}

module _ (amount : Amount) (state : ℕ → Held) (level number : ℕ) (has : amount.has level ≡ true) (cycle : Cycle) (card passed : ℕ)
    (moved : Movement) (entries : List Entry) where
  asked : (kind : Kind) → Moves (act_of amount kind state level) number moved → Moves (total_act amount kind state level) number moved
  asked kind moves =
      subst (λ (act : Act). Moves act number moved) (ap (λ (b : Bool). if b then total_act amount kind state level else Still) has) moves

  still-leaves : Moves Still number moved → ledger_after cycle card passed moved entries ≡ entries
  still-leaves moves = leaves cycle card passed moved entries Still number moves refl refl refl refl

  -- in the run-in, and in heading cycles
  pub other-leaves : Moves (act_of amount Other state level) number moved → ledger_after cycle card passed moved entries ≡ entries
  other-leaves moves = still-leaves (asked Other moves)

  -- in the first program cycle of a level
  pub first-leaves : (ended : ℕ) → Moves (act_of amount (Ends ended First) state level) number moved
      → ledger_after cycle card passed moved entries ≡ entries
  first-leaves ended moves = by (amount.is_signed && (ended == level)) (asked (Ends ended First) moves)
    where
      by : (b : Bool) → Moves (if b then Test else Still) number moved → ledger_after cycle card passed moved entries ≡ entries
      by true its = leaves cycle card passed moved entries Test number its refl refl refl refl
      by false its = still-leaves its

  -- in the second a signed total of the level turns, if its latch is set
  pub second-turns : (ended : ℕ) → (amount.is_signed && ((ended == level) && (state level).latch)) ≡ true
      → Moves (act_of amount (Ends ended Second) state level) number moved
      → (ledger_after cycle card passed moved entries ≡ entries ++ (entry_of cycle card passed moved ∷ []))
      × (change_of moved ≡ Turned)
  second-turns ended is moves =
      turns cycle card passed moved entries number
      (subst (λ (act : Act). Moves act number moved) (ap (λ (b : Bool). if b then Turn else Still) is) (asked (Ends ended Second) moves))

  pub second-leaves : (ended : ℕ) → (amount.is_signed && ((ended == level) && (state level).latch)) ≡ false
      → Moves (act_of amount (Ends ended Second) state level) number moved → ledger_after cycle card passed moved entries ≡ entries
  second-leaves ended is moves =
      still-leaves
      (subst (λ (act : Act). Moves act number moved) (ap (λ (b : Bool). if b then Turn else Still) is) (asked (Ends ended Second) moves))

  -- a card comes to the lowest total
  pub card-posts : (negated : Bool) (size : ℕ) → (lower amount.has level == 0) ≡ true
      → Moves (act_of amount (Comes negated size) state level) number moved
      → (ledger_after cycle card passed moved entries ≡ entries ++ (entry_of cycle card passed moved ∷ []))
      × (posting_of (entry_of cycle card passed moved)
      ≡ Some (record { cycle = cycle; card = card; amount = signed (amount.is_signed && negated) size }))
  card-posts negated size is moves =
      posts cycle card passed moved entries (amount.is_signed && negated) size number
      (subst (λ (act : Act). Moves act number moved)
      (ap (λ (b : Bool). if b then posted (amount.is_signed && negated) size else Still) is) (asked (Comes negated size) moves))

  -- and to no other
  pub card-leaves : (negated : Bool) (size : ℕ) → (lower amount.has level == 0) ≡ false
      → Moves (act_of amount (Comes negated size) state level) number moved → ledger_after cycle card passed moved entries ≡ entries
  card-leaves negated size is moves =
      still-leaves
      (subst (λ (act : Act). Moves act number moved)
      (ap (λ (b : Bool). if b then posted (amount.is_signed && negated) size else Still) is) (asked (Comes negated size) moves))

  third-by : (own under : Bool) → (ended : ℕ) → (ended == level) ≡ own
      → (amount.has ended && (lower amount.has level == ended)) ≡ under
      → Moves (act_of amount (Ends ended Third) state level) number moved
      → Moves (if own then Show else if under then posted (amount.is_signed && (state ended).latch) (state ended).number else Still) number moved
  third-by own under ended is is_under moves =
      subst (λ (act : Act). Moves act number moved)
      (λ i. if is i then Show else if is_under i then posted (amount.is_signed && (state ended).latch) (state ended).number else Still)
      (asked (Ends ended Third) moves)

  -- in the third program cycle of its level a total is cleared
  pub third-clears : (ended : ℕ) → (ended == level) ≡ true → Moves (act_of amount (Ends ended Third) state level) number moved
      → ledger_after cycle card passed moved entries ≡ []
  third-clears ended is moves = clears cycle card passed moved entries number (third-by true _ ended is refl moves)

  -- in that of the next lower total that one's figure comes
  pub third-posts : (ended : ℕ) → (ended == level) ≡ false → (amount.has ended && (lower amount.has level == ended)) ≡ true
      → Moves (act_of amount (Ends ended Third) state level) number moved
      → (ledger_after cycle card passed moved entries ≡ entries ++ (entry_of cycle card passed moved ∷ []))
      × (posting_of (entry_of cycle card passed moved)
      ≡ Some (record {
        cycle = cycle;
        card = card;
        amount = signed (amount.is_signed && (state ended).latch) (state ended).number;
      }))
  third-posts ended is is_under moves =
      posts cycle card passed moved entries (amount.is_signed && (state ended).latch) (state ended).number number
      (third-by false true ended is is_under moves)

  -- and in that of another level nothing
  pub third-leaves : (ended : ℕ) → (ended == level) ≡ false → (amount.has ended && (lower amount.has level == ended)) ≡ false
      → Moves (act_of amount (Ends ended Third) state level) number moved → ledger_after cycle card passed moved entries ≡ entries
  third-leaves ended is is_under moves = still-leaves (third-by false false ended is is_under moves)
