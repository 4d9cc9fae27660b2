-- Ledgers that can be told.
use Rattle.std.proofs.Common.{◌≡◌, ◌∙◌, sym, ap, subst, refl, ℕ, zero, suc, ◌+◌, ◌<◌, ◌≤◌, Bool, true, false, List, [], ◌∷◌, ◌++◌, Option, Some, get_or, map, arith, if◌then◌else◌, length, drop}
use Rattle.std.proofs.lemmas.List.Elements.{All-append, All-cons, All-drop, All-head, All-map, All-nil, All-same, All-tail, All-take, All-weaker}
use Rattle.std.proofs.lemmas.List.{append_assoc}
use Rattle.std.specs.List.{All, flat_map, range_with_len}
use Rattle.std.specs.Prelude.{IfSome, Vec, ◌-◌}
use Rattle.std.specs.declared.alloc.Global.{Global}
use Rattle.hubs.specs.declared.hub.Hub.{Hub}
use Rattle.explain_ledgers.proofs.LedgersWords.Places.{IsOfRun, all-of-run, gained-all, left-all}
use Rattle.explain_ledgers.specs.LedgersWords.Accounts.{IsAccount, movement_of}
use Rattle.explain_ledgers.specs.LedgersWords.Entries.{entries_gained, entries_left, entry_of, is_added, is_cleared}
use Rattle.explain_ledgers.specs.LedgersWords.Ledgers.{Along, IsLedger, begun, card_in, more}
use Rattle.explain_ledgers.specs.LedgersWords.Running.{HasCycle, IsKeptLedger}
use Rattle.explain_ledgers.specs.LedgersWords.Summaries.{Summary, summary_of}
use Rattle.explain_ledgers.specs.declared.ledgers.account.Account.{Account}
use Rattle.explain_ledgers.specs.declared.ledgers.entry.Entry.{Entry}
use Rattle.explain_ledgers.specs.declared.ledgers.kept.AskedLedger.{AskedLedger}
use Rattle.explain_ledgers.specs.declared.ledgers.read_outs.ReadOuts.{ReadOuts}
use Rattle.explain_origins.specs.declared.changes.PassedCycle.{PassedCycle}
use Rattle.hubs.specs.SetupsWords.Wiring.{Wiring}
use Rattle.explain_wheel_ledgers.specs.Lower.{IsAsked, cycle_of, is_lower, lower_at, lower_in, lower_of, none_read_out, takes_lower}
use Rattle.explain_wheel_ledgers.specs.Resting.{is_printed_of}
use Rattle.explain_wheel_ledgers.specs.Totals.{AreAccounts, find_total, has_place}
use Rattle.explain_wheel_ledgers.specs.Whole.{asked_at, asked_of, ledger_asked, lower_told}
use Rattle.explain_wheel_ledgers.proofs.Accounts.{is_account_told}
use Rattle.explain_wheel_ledgers.specs.declared.chart_totals.TitledAccount.{TitledAccount}
use Rattle.explain_wheel_ledgers.specs.declared.lower.AskedGroup.{AskedGroup}

-- the cycle of an entry of a ledger is one of the run
has-cycle : (wiring : Wiring) (deck : List (List ℕ)) (account : Account) (entry : Entry) → IsOfRun wiring deck account entry
    → HasCycle wiring deck entry.passed
has-cycle wiring deck account entry past = record {
  along = past.along;
  comes = past.comes;
  counted = sym (ap (λ (e : Entry). e.passed) past.told);
  cycle = past.cycle;
  behind = past.behind;
  goes = past.goes;
}

all-have : (wiring : Wiring) (deck : List (List ℕ)) (account : Account) {along : Along} {entries : List Entry}
    → IsLedger wiring deck account along entries → All (λ (entry : Entry). HasCycle wiring deck entry.passed) entries
all-have wiring deck account {entries = entries} ledger = λ k d low.
    has-cycle wiring deck account (get_or entries k d) (all-of-run wiring deck account ledger k d low)

-- and it comes before the cycle up to which the ledger is told
abbrev is_before : ℕ → Entry → Type 0
is_before passed entry = entry.passed < passed

all-before : (wiring : Wiring) (deck : List (List ℕ)) (account : Account) {along : Along} {entries : List Entry}
    → IsLedger wiring deck account along entries → All (is_before along.passed) entries
all-before wiring deck account begun = All-nil (is_before 0)
all-before wiring deck account (more cycle along entries behind ledger goes) =
    let moved = movement_of behind.groups cycle account in
    let card = card_in cycle along.card in
    All-append (is_before (along.passed + 1)) (entries_left moved entries) (entries_gained cycle card along.passed moved)
    (left-all (is_before (along.passed + 1)) (is_cleared moved) entries
    (All-weaker (is_before along.passed) (is_before (along.passed + 1)) (λ entry low. omega (arith, low)) entries
    (all-before wiring deck account ledger)))
    (gained-all (is_before (along.passed + 1)) (is_added moved) (entry_of cycle card along.passed moved) (omega arith))

-- what holds of all entries of a ledger holds of those that are kept of it at both ends
first-of : (P : Entry → Type 0) (ends : ℕ) (account : Account) (entries : List Entry) (told : Summary) → told ≡ summary_of account ends entries
    → All P entries → All P told.first
first-of P ends account entries told is all = subst (λ (s : Summary). All P s.first) (sym is) (All-take P ends entries all)

last-of : (P : Entry → Type 0) (ends : ℕ) (account : Account) (entries : List Entry) (told : Summary) → told ≡ summary_of account ends entries
    → All P entries → All P told.last
last-of P ends account entries told is all =
    subst (λ (s : Summary). All P s.last) (sym is)
    (All-drop P (length (drop ends entries) - ends) (drop ends entries) (All-drop P ends entries all))

module _ (wiring : Wiring) (deck : List (List ℕ)) (passed count ends : ℕ) (account : Account) (told : Summary)
    (kept : IsKeptLedger wiring deck passed ends account told) (low : passed ≤ count)
  where
    earlier : All (is_before count) kept.entries
    earlier =
        let counted = kept.counted in
        All-weaker (is_before kept.along.passed) (is_before count) (λ entry less. omega (arith, less, counted, low)) kept.entries
        (all-before wiring deck account kept.is)

    pub first-before : All (λ (entry : Entry). entry.passed < count) told.first
    first-before = first-of (is_before count) ends account kept.entries told kept.told_is earlier

    pub last-before : All (λ (entry : Entry). entry.passed < count) told.last
    last-before = last-of (is_before count) ends account kept.entries told kept.told_is earlier

    pub first-have : All (λ (entry : Entry). HasCycle wiring deck entry.passed) told.first
    first-have =
        first-of (λ (entry : Entry). HasCycle wiring deck entry.passed) ends account kept.entries told kept.told_is
        (all-have wiring deck account kept.is)

    pub last-have : All (λ (entry : Entry). HasCycle wiring deck entry.passed) told.last
    last-have =
        last-of (λ (entry : Entry). HasCycle wiring deck entry.passed) ends account kept.entries told kept.told_is
        (all-have wiring deck account kept.is)

-- ledgers of some places before a cycle of the run
one-asked : (wiring : Wiring) (cards : List (List ℕ)) (count : ℕ) (before : PassedCycle) (place : ℕ) (wanted : Bool) → place < 32
    → HasCycle wiring cards before.passed → before.passed ≤ count
    → All (IsAsked wiring cards count) (if wanted then record { place = place; before = before } ∷ [] else [])
one-asked wiring cards count before place true low has within =
    All-cons (IsAsked wiring cards count) (record { place = place; before = before }) []
    (record { place = low; has = has; within = within })
    (All-nil (IsAsked wiring cards count))
one-asked wiring cards count before place false low has within = All-nil (IsAsked wiring cards count)

asked-from : (wiring : Wiring) (cards : List (List ℕ)) (count : ℕ) (before : PassedCycle) (test : ℕ → Bool)
    → HasCycle wiring cards before.passed → before.passed ≤ count → (place many : ℕ) → place + many ≤ 32
    → All (IsAsked wiring cards count)
    (flat_map (λ (at : ℕ). if test at then record { place = at; before = before } ∷ [] else []) (range_with_len place many))
asked-from wiring cards count before test has within place zero low = All-nil (IsAsked wiring cards count)
asked-from wiring cards count before test has within place (suc many) low =
    let each : ℕ → List AskedGroup = λ (at : ℕ). if test at then record { place = at; before = before } ∷ [] else [] in
    All-append (IsAsked wiring cards count) (each place) (flat_map each (range_with_len (place + 1) many))
    (one-asked wiring cards count before place (test place) (omega (arith, low)) has within)
    (asked-from wiring cards count before test has within (place + 1) many (omega (arith, low)))

-- those of all groups whose numbers come to an account
module _ (wiring : Wiring) (totals : List TitledAccount) (groups : List Bool) (account : Account) (before : PassedCycle) where
  pub lower-whole : lower_in wiring totals groups account before
      ≡ flat_map (lower_at wiring totals groups account before) (range_with_len 0 32)
  unfolding lower_in
  lower-whole = refl

  lower-asked : (cards : List (List ℕ)) (count : ℕ) → HasCycle wiring cards before.passed → before.passed ≤ count
      → All (IsAsked wiring cards count) (lower_in wiring totals groups account before)
  lower-asked cards count has within =
      subst (λ (any : List AskedGroup). All (IsAsked wiring cards count) any) (sym lower-whole)
      (asked-from wiring cards count before (λ (place : ℕ). is_lower wiring totals groups account place) has within 0 32 (omega arith))

-- those to which entries of the run lead
module _ (wiring : Wiring) (cards : List (List ℕ)) (count : ℕ) (totals : List TitledAccount) (read_outs : List ReadOuts)
    (account : Account)
  where
    of-asked : (entry : Entry) → HasCycle wiring cards entry.passed → entry.passed < count
        → All (IsAsked wiring cards count) (lower_of wiring totals read_outs account entry)
    of-asked entry has less = by (takes_lower entry.change)
      where
        groups : List Bool
        groups = (get_or read_outs entry.passed none_read_out).groups

        by : (takes : Bool)
            → All (IsAsked wiring cards count) (if takes then lower_in wiring totals groups account (cycle_of entry) else [])
        by true = lower-asked wiring totals groups account (cycle_of entry) cards count has (omega (arith, less))
        by false = All-nil (IsAsked wiring cards count)

    all-asked : (entries : List Entry) → All (λ (entry : Entry). HasCycle wiring cards entry.passed) entries
        → All (is_before count) entries → All (IsAsked wiring cards count) (flat_map (lower_of wiring totals read_outs account) entries)
    all-asked [] have before = All-nil (IsAsked wiring cards count)
    all-asked (entry ∷ entries) have before =
        All-append (IsAsked wiring cards count) (lower_of wiring totals read_outs account entry)
        (flat_map (lower_of wiring totals read_outs account) entries)
        (of-asked entry (All-head (λ (one : Entry). HasCycle wiring cards one.passed) entry entries have)
        (All-head (is_before count) entry entries before))
        (all-asked entries (All-tail (λ (one : Entry). HasCycle wiring cards one.passed) entry entries have)
        (All-tail (is_before count) entry entries before))

pub told-asked : (wiring : Wiring) (cards : List (List ℕ)) (count : ℕ) (totals : List TitledAccount) (read_outs : List ReadOuts)
    (passed ends : ℕ) (account : Account) (told : Summary) → IsKeptLedger wiring cards passed ends account told → passed ≤ count
    → All (IsAsked wiring cards count) (lower_told wiring totals read_outs told)
told-asked wiring cards count totals read_outs passed ends account told kept low =
    All-append (IsAsked wiring cards count) (flat_map (lower_of wiring totals read_outs told.account) told.first)
    (flat_map (lower_of wiring totals read_outs told.account) told.last)
    (all-asked wiring cards count totals read_outs told.account told.first (first-have wiring cards passed count ends account told kept low)
    (first-before wiring cards passed count ends account told kept low))
    (all-asked wiring cards count totals read_outs told.account told.last (last-have wiring cards passed count ends account told kept low)
    (last-before wiring cards passed count ends account told kept low))

-- those of all groups at which some ways begin
module _ (ways : List (Option (Vec Hub Global))) (before : PassedCycle) where
  pub asked-whole : asked_of ways before ≡ flat_map (asked_at ways before) (range_with_len 0 32)
  unfolding asked_of
  asked-whole = refl

  pub asked-all : (wiring : Wiring) (cards : List (List ℕ)) (count : ℕ) (asked : List AskedGroup) → asked ≡ asked_of ways before
      → HasCycle wiring cards before.passed → before.passed ≤ count → All (IsAsked wiring cards count) asked
  asked-all wiring cards count asked is has within =
      subst (λ (any : List AskedGroup). All (IsAsked wiring cards count) any) (sym asked-whole ∙ sym is)
      (asked-from wiring cards count before (λ (place : ℕ). is_printed_of ways place) has within 0 32 (omega arith))

-- the ledgers that are asked for of some groups
found-account : (totals : List TitledAccount) (place : ℕ) → AreAccounts totals
    → IfSome (find_total totals place) (λ (total : TitledAccount). IsAccount total.account)
found-account [] place all = tt
found-account (total ∷ totals) place all =
    by (has_place total.account place)
    (found-account totals place (All-tail (λ (one : TitledAccount). IsAccount one.account) total totals all))
  where
    by : (has : Bool) → IfSome (find_total totals place) (λ (one : TitledAccount). IsAccount one.account)
        → IfSome (if has then Some total else find_total totals place) (λ (one : TitledAccount). IsAccount one.account)
    by true others = All-head (λ (one : TitledAccount). IsAccount one.account) total totals all
    by false others = others

pub asked-account : (totals : List TitledAccount) (asked : AskedGroup) → AreAccounts totals → asked.place < 32
    → IsAccount (ledger_asked totals asked).account
asked-account totals asked all low =
    is_account_told (find_total totals asked.place) asked.place (ledger_asked totals asked).account refl
    (found-account totals asked.place all) low

module _ (wiring : Wiring) (cards : List (List ℕ)) (totals : List TitledAccount) (count : ℕ) (asked : List AskedGroup)
    (can : All (IsAsked wiring cards count) asked) (wanted slice : List AskedLedger) (is : wanted ≡ map (ledger_asked totals) asked)
    (same : slice ≡ wanted)
  where
    pub wanted-have : All (λ (one : AskedLedger). HasCycle wiring cards one.passed) slice
    wanted-have =
        All-same (λ (one : AskedLedger). HasCycle wiring cards one.passed) slice (map (ledger_asked totals) asked) (same ∙ is)
        (All-map (λ (one : AskedLedger). HasCycle wiring cards one.passed) (ledger_asked totals) asked (λ k d low. (can k d low).has))

    pub wanted-accounts : AreAccounts totals → All (λ (one : AskedLedger). IsAccount one.account) slice
    wanted-accounts all =
        All-same (λ (one : AskedLedger). IsAccount one.account) slice (map (ledger_asked totals) asked) (same ∙ is)
        (All-map (λ (one : AskedLedger). IsAccount one.account) (ledger_asked totals) asked
        (λ k d low. asked-account totals (get_or asked k d) all (can k d low).place))

-- those to which both ends of a ledger lead, behind others
pub lower-both : (wiring : Wiring) (totals : List TitledAccount) (read_outs : List ReadOuts) (told : Summary) (account : Account)
    (first last : List Entry) (old mid new : List AskedGroup) → account ≡ told.account → first ≡ told.first → last ≡ told.last
    → mid ≡ old ++ flat_map (lower_of wiring totals read_outs account) first
    → new ≡ mid ++ flat_map (lower_of wiring totals read_outs account) last → new ≡ old ++ lower_told wiring totals read_outs told
lower-both wiring totals read_outs told account first last old mid new is is_first is_last one both =
    both
    ∙ ap (λ (l : List AskedGroup). l ++ flat_map (lower_of wiring totals read_outs account) last) one
    ∙ append_assoc old (flat_map (lower_of wiring totals read_outs account) first)
    (flat_map (lower_of wiring totals read_outs account) last)
    ∙ ap (λ (a : Account). old ++ (flat_map (lower_of wiring totals read_outs a) first ++ flat_map (lower_of wiring totals read_outs a) last)) is
    ∙ ap (λ (l : List Entry). old
    ++ (flat_map (lower_of wiring totals read_outs told.account) l ++ flat_map (lower_of wiring totals read_outs told.account) last)) is_first
    ∙ ap (λ (l : List Entry). old
    ++ (flat_map (lower_of wiring totals read_outs told.account) told.first ++ flat_map (lower_of wiring totals read_outs told.account) l))
    is_last
