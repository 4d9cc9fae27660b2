-- What is kept of a ledger: of a long one the first entries and the last ones, and of those between how many they are, and together what
-- was added, what was subtracted and how many carries came in.
use Rattle.std.specs.Prelude.{ℕ, ◌+◌, ◌*◌, ◌-◌, ◌^◌, ◌≤◌, nat_lt, List, [], ◌∷◌, ◌++◌, drop, length, sum_by, take, if◌then◌else◌}
use Rattle.counters.specs.Laws.{carry_number}
use Rattle.net.specs.declared.cycle.Cycle.{Cycle}
use Rattle.explain_ledgers.specs.LedgersWords.Entries.{entry_of, is_added, is_cleared}
use Rattle.explain_ledgers.specs.declared.ledgers.account.Account.{Account}
use Rattle.explain_ledgers.specs.declared.ledgers.entry.Change.{Change}
use Rattle.explain_ledgers.specs.declared.ledgers.entry.Change.TheVariants.{Plus, Minus}
use Rattle.explain_ledgers.specs.declared.ledgers.entry.Entry.{Entry}
use Rattle.explain_ledgers.specs.declared.ledgers.entry.Movement.{Movement}
use Rattle.explain_ledgers.specs.declared.ledgers.ledger.LeftOut.{LeftOut}

pub record Summary : Type 0 where
  pub account : Account
  pub ends : ℕ
  pub first : List Entry
  pub left_out : LeftOut
  pub last : List Entry

-- what an entry adds
abbrev pub plus_of : Change → ℕ → ℕ
plus_of Plus entered = entered
plus_of change entered = 0

-- what an entry subtracts
abbrev pub minus_of : Change → ℕ → ℕ
minus_of Minus entered = entered
minus_of change entered = 0

abbrev pub entry_plus : Entry → ℕ
entry_plus entry = plus_of entry.change entry.entered

abbrev pub entry_minus : Entry → ℕ
entry_minus entry = minus_of entry.change entry.entered

-- the carry that came in at the units in the cycle of an entry, as a number
abbrev pub entry_carry : Entry → ℕ
entry_carry entry = carry_number entry.carry

-- entries that are left out
abbrev pub left_out_of : List Entry → LeftOut
left_out_of entries = record {
  count = length entries;
  plus = sum_by entry_plus entries;
  minus = sum_by entry_minus entries;
  carries = sum_by entry_carry entries;
}

-- of the entries behind the first ones, those that are no last ones, where so many are
abbrev pub between_of : ℕ → List Entry → List Entry
between_of ends behind = take (length behind - ends) behind

-- and the last ones
abbrev pub last_of : ℕ → List Entry → List Entry
last_of ends behind = drop (length behind - ends) behind

-- What is kept of the ledger of an account, with so many entries at each end.
abbrev pub summary_of : Account → ℕ → List Entry → Summary
summary_of account ends entries = record {
  account = account;
  ends = ends;
  first = take ends entries;
  left_out = left_out_of (between_of ends (drop ends entries));
  last = last_of ends (drop ends entries);
}

-- Helper words of the code: the sums of what is left out stay below 2 ^ 64 for each entry.
pub record IsBounded (left_out : LeftOut) : Type 0 where
  pub plus : left_out.plus ≤ left_out.count * 2 ^ 64
  pub minus : left_out.minus ≤ left_out.count * 2 ^ 64
  pub carries : left_out.carries ≤ left_out.count

-- nothing is left out
abbrev pub nothing_left_out : LeftOut
nothing_left_out = record { count = 0; plus = 0; minus = 0; carries = 0 }

-- no entry any more
abbrev pub emptied : Summary → Summary
emptied told = record told { first = []; left_out = nothing_left_out; last = [] }

-- one entry more is left out
abbrev pub with_left_out : Entry → LeftOut → LeftOut
with_left_out entry left_out = record {
  count = left_out.count + 1;
  plus = left_out.plus + entry_plus entry;
  minus = left_out.minus + entry_minus entry;
  carries = left_out.carries + entry_carry entry;
}

-- the first of the last entries is left out
abbrev pub shifted_by : Summary → List Entry → Summary
shifted_by told [] = told
shifted_by told (entry ∷ others) = record told { left_out = with_left_out entry told.left_out; last = others }

abbrev pub shifted : Summary → Summary
shifted told = shifted_by told told.last

-- with one entry more among the last ones
abbrev pub kept_last : Entry → Summary → Summary
kept_last entry told = record told { last = told.last ++ entry ∷ [] }

-- one entry more
abbrev pub pushed : Entry → Summary → Summary
pushed entry told =
    if nat_lt (length told.first) told.ends
    then record told { first = told.first ++ entry ∷ [] }
    else if nat_lt told.ends (length (kept_last entry told).last) then shifted (kept_last entry told) else kept_last entry told

-- what a cycle makes of what is kept
abbrev pub summary_after : Cycle → ℕ → ℕ → Movement → Summary → Summary
summary_after cycle card passed moved told =
    let left = if is_cleared moved then emptied told else told in
    if is_added moved then pushed (entry_of cycle card passed moved) left else left
