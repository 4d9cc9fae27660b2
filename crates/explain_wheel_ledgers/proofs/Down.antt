-- Ledgers one behind the other, and those to which they lead.
use Rattle.std.proofs.Common.{◌≡◌, ◌∙◌, sym, ap, subst, refl, ℕ, ◌+◌, ◌<◌, ◌≤◌, Bool, true, false, if◌then◌else◌, List, [], ◌∷◌, ◌++◌, append-nil, Option, take, drop, length, map, get_or, arith}
use Rattle.std.proofs.lemmas.List.{append_assoc, drop_all, get_or-map, length-map, take_all, take_more}
use Rattle.std.proofs.lemmas.List.Elements.{All-append, All-cons, All-head, All-nil, All-same, All-tail}
use Rattle.std.specs.List.{All}
use Rattle.std.specs.Prelude.{Vec}
use Rattle.std.specs.declared.alloc.Global.{Global}
use Rattle.explain_wheels.specs.declared.explanations.explanation.Explanation.{Explanation}
use Rattle.hubs.specs.declared.hub.Hub.{Hub}
use Rattle.explain_wheel_ledgers.specs.LedgerHoles.Down.{IsLedgerDown}
use Rattle.explain_ledgers.proofs.LedgersWords.Summaries.{length-one}
use Rattle.explain_ledgers.specs.LedgersWords.Accounts.{IsAccount}
use Rattle.explain_ledgers.specs.LedgersWords.Running.{HasCycle, IsKept, IsKeptLedger, PlacesLine, asked_of}
use Rattle.explain_ledgers.specs.LedgersWords.Summaries.{Summary}
use Rattle.explain_ledgers.specs.declared.ledgers.entry.Entry.{Entry}
use Rattle.explain_ledgers.specs.declared.ledgers.found.FoundCycle.{FoundCycle}
use Rattle.explain_ledgers.specs.declared.ledgers.kept.AskedLedger.{AskedLedger}
use Rattle.explain_ledgers.specs.declared.ledgers.kept.KeptLedger.{KeptLedger}
use Rattle.explain_ledgers.specs.declared.ledgers.read_outs.ReadOuts.{ReadOuts}
use Rattle.net.specs.declared.cycle.Cycle.TheVariants.{RunIn}
use Rattle.hubs.specs.SetupsWords.Wiring.{Wiring}
use Rattle.explain_wheel_ledgers.specs.Lower.{IsAsked}
use Rattle.explain_wheel_ledgers.specs.ToldLedgers.{words_told}
use Rattle.explain_wheel_ledgers.specs.Totals.{AreAccounts, find_total}
use Rattle.explain_wheel_ledgers.specs.Whole.{AreDown, AreTold, AreToldFrom, IsWholeText, TellsAll, TellsWhole, all_told, is_among, ledger_asked, lower_told, next_told, none_told, one_told, with_lower, with_one}
use Rattle.explain_wheel_ledgers.specs.declared.chart_totals.TitledAccount.{TitledAccount}
use Rattle.explain_wheel_ledgers.specs.declared.lower.AskedGroup.{AskedGroup}
use Rattle.explain_wheel_ledgers.proofs.Accounts.{is_account_kept}
use Rattle.explain_wheel_ledgers.proofs.Asked.{asked-account, first-before, first-have, last-before, last-have, told-asked}

-- no group of the panel
abbrev nowhere : AskedGroup
nowhere = record { place = 0; before = record { cycle = RunIn; card = 0; passed = 0 } }

-- the ledgers that are kept of groups that are asked for
module _ (wiring : Wiring) (cards : List (List ℕ)) (totals : List TitledAccount) (ends count : ℕ) (asked : List AskedGroup)
    (can : All (IsAsked wiring cards count) asked) (items slice : List KeptLedger) (lent wanted : List AskedLedger) (value : slice ≡ items)
    (told : map asked_of items ≡ lent) (lends : lent ≡ wanted) (are : wanted ≡ map (ledger_asked totals) asked)
    (all : All (IsKept wiring cards ends) items) (place : ℕ) (e : KeptLedger) (low : place < length asked)
  where
    abbrev here : Summary
    here = (get_or slice place e).ledger

    -- the one at a place is that of the group there
    pub kept-at : (d : AskedGroup)
        → IsKeptLedger wiring cards (get_or asked place d).before.passed ends (ledger_asked totals (get_or asked place d)).account here
    kept-at d =
        let same : map asked_of slice ≡ map (ledger_asked totals) asked = ap (map asked_of) value ∙ told ∙ lends ∙ are in
        let many : length slice ≡ length asked =
        sym (length-map slice asked_of) ∙ ap length same ∙ length-map asked (ledger_asked totals) in
        let within : place < length slice = omega (arith, many, low) in
        let own : (get_or slice place e).asked ≡ ledger_asked totals (get_or asked place d) =
        sym (get_or-map asked_of slice place e (ledger_asked totals d) within)
        ∙ ap (λ (l : List AskedLedger). get_or l place (ledger_asked totals d)) same
        ∙ get_or-map (ledger_asked totals) asked place d (ledger_asked totals d) low in
        subst (λ (a : AskedLedger). IsKeptLedger wiring cards a.passed ends a.account here) own
        (All-same (IsKept wiring cards ends) slice items value all place e within)

    pub account-at : AreAccounts totals → IsAccount here.account
    account-at accounts =
        is_account_kept wiring cards (get_or asked place nowhere).before.passed ends (ledger_asked totals (get_or asked place nowhere)).account
        here (kept-at nowhere)
        (asked-account totals (get_or asked place nowhere) accounts (can place nowhere low).place)

    pub first-at : All (λ (entry : Entry). entry.passed < count) here.first
    first-at =
        first-before wiring cards (get_or asked place nowhere).before.passed count ends
        (ledger_asked totals (get_or asked place nowhere)).account here (kept-at nowhere) (can place nowhere low).within

    pub last-at : All (λ (entry : Entry). entry.passed < count) here.last
    last-at =
        last-before wiring cards (get_or asked place nowhere).before.passed count ends
        (ledger_asked totals (get_or asked place nowhere)).account here (kept-at nowhere) (can place nowhere low).within

    pub first-in : All (λ (entry : Entry). HasCycle wiring cards entry.passed) here.first
    first-in =
        first-have wiring cards (get_or asked place nowhere).before.passed count ends
        (ledger_asked totals (get_or asked place nowhere)).account here (kept-at nowhere) (can place nowhere low).within

    pub last-in : All (λ (entry : Entry). HasCycle wiring cards entry.passed) here.last
    last-in =
        last-have wiring cards (get_or asked place nowhere).before.passed count ends
        (ledger_asked totals (get_or asked place nowhere)).account here (kept-at nowhere) (can place nowhere low).within

-- of ledgers that are asked for the first ones are told behind a text
pub record ToldSome (wiring : Wiring) (cards : List (List ℕ)) (totals : List TitledAccount) (read_outs : List ReadOuts) (ends : ℕ)
    (asked : List AskedGroup) (place : ℕ) (old new : List ℕ) (lower : List AskedGroup) : Type 0 where
  pub texts : List ℕ
  pub told : AreTold wiring cards totals read_outs ends (take place asked) texts lower
  pub written : new ≡ old ++ texts
  pub can : All (IsAsked wiring cards (length read_outs)) lower

module _ (wiring : Wiring) (cards : List (List ℕ)) (totals : List TitledAccount) (read_outs : List ReadOuts) (ends : ℕ) where
  pub some-none : (asked : List AskedGroup) (old : List ℕ) (lower : List AskedGroup) → lower ≡ []
      → ToldSome wiring cards totals read_outs ends asked 0 old old lower
  some-none asked old lower empty =
      subst (λ (any : List AskedGroup). ToldSome wiring cards totals read_outs ends asked 0 old old any) (sym empty) (record {
        texts = [];
        told = none_told;
        written = sym (append-nil old);
        can = All-nil (IsAsked wiring cards (length read_outs));
      })

  pub some-more : (asked : List AskedGroup) (place : ℕ) (d : AskedGroup) (summary : Summary) (total : Option TitledAccount)
      (old mid new text : List ℕ) (lower next : List AskedGroup) → place < length asked
      → All (IsAsked wiring cards (length read_outs)) asked
      → IsKeptLedger wiring cards (get_or asked place d).before.passed ends (ledger_asked totals (get_or asked place d)).account summary
      → total ≡ find_total totals (get_or asked place d).place
      → IsLedgerDown wiring cards summary (get_or asked place d).before.cycle (get_or asked place d).before.card (words_told total) text
      → new ≡ mid ++ text
      → next ≡ lower ++ lower_told wiring totals read_outs summary
      → ToldSome wiring cards totals read_outs ends asked place old mid lower
      → ToldSome wiring cards totals read_outs ends asked (place + 1) old new next
  some-more asked place d summary total old mid new text lower next low all kept found down written led some =
      let one = get_or asked place d in
      let leads = lower_told wiring totals read_outs summary in
      subst (λ (any : List AskedGroup). ToldSome wiring cards totals read_outs ends asked (place + 1) old new any) (sym led) (record {
        texts = some.texts ++ text;
        told =
            subst (λ (any : List AskedGroup). AreTold wiring cards totals read_outs ends any (some.texts ++ text) (lower ++ leads))
            (sym (take_more asked place d low))
            (one_told (take place asked) one some.texts text lower leads some.told (record {
              summary = summary;
              is = kept;
              told =
                  subst (λ (t : Option TitledAccount).
                  IsLedgerDown wiring cards summary one.before.cycle one.before.card (words_told t) text) found down;
              leads = refl;
            }));
        written =
            written
            ∙ ap (λ (l : List ℕ). l ++ text) some.written
            ∙ append_assoc old some.texts text;
        can =
            All-append (IsAsked wiring cards (length read_outs)) lower leads some.can
            (told-asked wiring cards (length read_outs) totals read_outs one.before.passed ends (ledger_asked totals one).account summary
            kept (all place d low).within);
      })

  pub some-all : (asked : List AskedGroup) (place : ℕ) (old new : List ℕ) (lower : List AskedGroup) → length asked ≤ place
      → ToldSome wiring cards totals read_outs ends asked place old new lower
      → TellsAll wiring cards totals read_outs ends asked old new lower
  some-all asked place old new lower past some = record {
    texts = some.texts;
    told =
        subst (λ (any : List AskedGroup). AreTold wiring cards totals read_outs ends any some.texts lower) (take_all place asked past)
        some.told;
    written = some.written;
  }

-- ledgers that can be told, with some more
all-with-one : (P : AskedGroup → Type 0) (one : AskedGroup) (asked : List AskedGroup) (among : Bool) → P one → All P asked
    → All P (if among then asked else asked ++ one ∷ [])
all-with-one P one asked true is all = all
all-with-one P one asked false is all = All-append P asked (one ∷ []) all (All-cons P one [] is (All-nil P))

all-with : (P : AskedGroup → Type 0) (lower asked : List AskedGroup) → All P lower → All P asked → All P (with_lower lower asked)
all-with P [] asked below all = all
all-with P (one ∷ others) asked below all =
    all-with P others (with_one one asked) (All-tail P one others below)
    (all-with-one P one asked (is_among asked one) (All-head P one others below) all)

-- no ledger that is asked for is dropped
with-longer : (lower asked : List AskedGroup) → length asked ≤ length (with_lower lower asked)
with-longer [] asked = omega arith
with-longer (one ∷ others) asked =
    let rest = with-longer others (with_one one asked) in
    let here = by (is_among asked one) in
    omega (arith, rest, here)
  where
    by : (among : Bool) → length asked ≤ length (if among then asked else asked ++ one ∷ [])
    by true = omega arith
    by false = let is = length-one asked one in omega (arith, is)

-- so many depths are told: the text of what is left, behind what is told, is that of all
pub record DownTo (wiring : Wiring) (cards : List (List ℕ)) (totals : List TitledAccount) (read_outs : List ReadOuts) (ends : ℕ)
    (first asked : List AskedGroup) (depth told : ℕ) (text : List ℕ) : Type 0 where
  pub rest :
      (answer : List ℕ) → AreToldFrom wiring cards totals read_outs ends asked told answer
      → AreDown wiring cards totals read_outs ends first (text ++ answer)
  pub can : All (IsAsked wiring cards (length read_outs)) asked
  pub within : told ≤ length asked
  pub deep : depth ≤ told

module _ (wiring : Wiring) (cards : List (List ℕ)) (totals : List TitledAccount) (read_outs : List ReadOuts) (ends : ℕ)
    (first : List AskedGroup)
  where
    pub down-none : (text : List ℕ) → text ≡ [] → All (IsAsked wiring cards (length read_outs)) first
        → DownTo wiring cards totals read_outs ends first first 0 0 text
    down-none text empty can =
        subst (λ (any : List ℕ). DownTo wiring cards totals read_outs ends first first 0 0 any) (sym empty)
        (record { rest = λ answer is. is; can = can; within = omega arith; deep = omega arith })

    pub down-more : (asked next : List AskedGroup) (depth told known : ℕ) (old new : List ℕ) (slice lower : List AskedGroup)
        → DownTo wiring cards totals read_outs ends first asked depth told old → told < known → known ≡ length asked
        → slice ≡ drop told asked → TellsAll wiring cards totals read_outs ends slice old new lower
        → All (IsAsked wiring cards (length read_outs)) lower → next ≡ with_lower lower asked
        → DownTo wiring cards totals read_outs ends first next (depth + 1) known new
    down-more asked next depth told known old new slice lower down less all is tells can led =
        subst (λ (any : List AskedGroup). DownTo wiring cards totals read_outs ends first any (depth + 1) known new) (sym led) (record {
          rest = λ answer from.
              subst (AreDown wiring cards totals read_outs ends first)
              (sym (append_assoc old tells.texts answer) ∙ ap (λ (l : List ℕ). l ++ answer) (sym tells.written))
              (down.rest (tells.texts ++ answer)
              (next_told asked told tells.texts lower answer
              (subst (λ (any : List AskedGroup). AreTold wiring cards totals read_outs ends any tells.texts lower) is tells.told)
              (subst (λ (n : ℕ). AreToldFrom wiring cards totals read_outs ends (with_lower lower asked) n answer) all from)));
          can = all-with (IsAsked wiring cards (length read_outs)) lower asked can down.can;
          within = let longer = with-longer lower asked in omega (arith, longer, all);
          deep = let deep = down.deep in omega (arith, deep, less);
        })

    pub down-all : (asked : List AskedGroup) (depth told : ℕ) (text : List ℕ) → length asked ≤ told
        → DownTo wiring cards totals read_outs ends first asked depth told text → AreDown wiring cards totals read_outs ends first text
    down-all asked depth told text all down =
        subst (AreDown wiring cards totals read_outs ends first) (append-nil text)
        (down.rest [] (all_told asked told (drop_all told asked all)))

-- all of it, by the explanation of a wheel of the line that was found
pub tells-whole : (wiring : Wiring) (cards : List (List ℕ)) (totals : List TitledAccount) (ends page line : ℕ) (told : Explanation)
    (found : FoundCycle) (ways : List (Option (Vec Hub Global))) (answer : List ℕ) → PlacesLine wiring cards found
    → found.line.page ≡ page → found.line.line ≡ line → ways ≡ told.rows.items
    → IsWholeText wiring cards totals ends found ways answer → TellsWhole wiring cards totals ends page line told answer
tells-whole wiring cards totals ends page line told found ways answer places at_page at_line are texts = record {
  found = found;
  places = places;
  at_page = at_page;
  at_line = at_line;
  whole = subst (λ (any : List (Option (Vec Hub Global))). IsWholeText wiring cards totals ends found any answer) are texts;
}
