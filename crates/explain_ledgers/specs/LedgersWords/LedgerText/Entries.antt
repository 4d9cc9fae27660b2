-- The lines of the entries of a ledger.
use Rattle.std.specs.Prelude.{ℕ, nat_eq, Bool, List, [], ◌++◌, Option, Some, None, codes, decimal, if◌then◌else◌}
use Rattle.std.specs.List.{flat_map}
use Rattle.net.specs.Cycles.{level_number}
use Rattle.net.specs.declared.cycle.Cycle.{Cycle}
use Rattle.net.specs.declared.cycle.Cycle.TheVariants.{RunIn, Card, Prog, Head}
use Rattle.explain_ledgers.specs.LedgersWords.Accounts.{positions_of}
use Rattle.explain_ledgers.specs.declared.ledgers.account.Account.{Account}
use Rattle.explain_ledgers.specs.declared.ledgers.entry.Change.{Change}
use Rattle.explain_ledgers.specs.declared.ledgers.entry.Change.TheVariants.{Plus, Minus, Turned, Carry, Apart}
use Rattle.explain_ledgers.specs.declared.ledgers.entry.Entry.{Entry}
use Rattle.explain_ledgers.specs.declared.ledgers.ledger.LeftOut.{LeftOut}
use Rattle.explain_ledgers.specs.LedgersWords.LedgerText.Amounts.{amount_text, balance_text, digits_text}
use Rattle.explain_ledgers.specs.LedgersWords.LedgerText.Names.{cycle_text, hubs_text}

-- The words that a chart has for a ledger: the name of the amount, and its decimals.
pub record Words : Type 0 where
  pub name : List ℕ
  pub decimals : ℕ

-- what came to the number
abbrev pub change_text : ℕ → Change → ℕ → List ℕ
change_text width Plus entered = codes " +" ++ digits_text width entered
change_text width Minus entered = codes " -" ++ digits_text width entered
change_text width Turned entered = codes " turned"
change_text width Carry entered = []
change_text width Apart entered = codes " apart"

abbrev pub carry_text : Bool → List ℕ
carry_text carry = if carry then codes " carry" else []

-- the number before, what came to it, and the number after
abbrev pub sum_text : ℕ → Entry → List ℕ
sum_text width entry =
    digits_text width entry.before ++ change_text width entry.change entry.entered ++ carry_text entry.carry ++ codes " = "
    ++ digits_text width entry.after

-- behind which card it was
abbrev pub after_card_text : ℕ → List ℕ
after_card_text card = codes " after card " ++ decimal card

-- the total of a level
abbrev pub total_text : ℕ → ℕ → List ℕ
total_text level card = codes "total of level " ++ decimal level ++ after_card_text card

-- from where an amount comes: a card cycle adds the amount of its card, and a program cycle the total of its level
abbrev pub source_text : List ℕ → Cycle → ℕ → List ℕ
source_text name RunIn card = name
source_text name Card card = name ++ codes " of card " ++ decimal card
source_text name (Prog level ordinal) card = total_text (level_number level) card
source_text name (Head heading) card = name

-- an amount that was added or subtracted, and from where it comes
abbrev pub sourced_text : Words → Entry → List ℕ
sourced_text words entry =
    amount_text words.decimals entry.entered ++ codes "   " ++ source_text words.name entry.cycle entry.card

-- what a chart has to say of an entry
abbrev pub titled_text : Words → Change → Entry → List ℕ
titled_text words Plus entry = codes "   " ++ sourced_text words entry
titled_text words Minus entry = codes "   -" ++ sourced_text words entry
titled_text words change entry = []

-- the hubs that were impulsed so that the number changed
abbrev pub control_text : Account → Change → List ℕ
control_text account Plus = codes "   " ++ hubs_text (codes "PL.") account
control_text account Minus = codes "   " ++ hubs_text (codes "MI.") account
control_text account Turned = codes "   " ++ hubs_text (codes "RO.") account ++ codes " " ++ hubs_text (codes "MI.") account
control_text account change = []

-- what is said behind the sum of an entry: the words of a chart, and of a panel that no chart is known of its hubs
abbrev pub words_text : Option Words → Account → Entry → List ℕ
words_text (Some words) account entry = titled_text words entry.change entry
words_text None account entry = control_text account entry.change

-- the line of an entry
abbrev pub entry_line : Option Words → Account → Entry → List ℕ
entry_line words account entry =
    codes "  " ++ cycle_text entry.cycle entry.card ++ codes ": " ++ sum_text (positions_of account) entry ++ words_text words account entry
    ++ codes "\n"

-- the lines of some entries
abbrev pub entry_lines : Option Words → Account → List Entry → List ℕ
entry_lines words account entries = flat_map (entry_line words account) entries

-- the decimals of the amounts of a ledger
abbrev pub decimals_in : Option Words → ℕ
decimals_in (Some words) = words.decimals
decimals_in None = 0

-- how many entries are left out
abbrev pub entries_word : ℕ → List ℕ
entries_word count = if nat_eq count 1 then codes " more entry" else codes " more entries"

abbrev pub count_text : ℕ → List ℕ
count_text count = codes "  " ++ decimal count ++ entries_word count

-- how many carries came in in them, if one did
abbrev pub carries_word : ℕ → List ℕ
carries_word carries = if nat_eq carries 1 then codes " carry" else codes " carries"

abbrev pub carries_text : ℕ → List ℕ
carries_text carries = if nat_eq carries 0 then [] else codes ", and " ++ decimal carries ++ carries_word carries

-- and what they come to
abbrev pub together_text : ℕ → LeftOut → List ℕ
together_text decimals left_out =
    codes ", together " ++ balance_text decimals left_out.plus left_out.minus ++ carries_text left_out.carries ++ codes "\n"

-- the line in place of the entries that are left out
abbrev pub gap_line : Option Words → LeftOut → List ℕ
gap_line words left_out = count_text left_out.count ++ together_text (decimals_in words) left_out

-- it stands only if some are left out
abbrev pub gap_lines : Option Words → LeftOut → List ℕ
gap_lines words left_out = if nat_eq left_out.count 0 then [] else gap_line words left_out
