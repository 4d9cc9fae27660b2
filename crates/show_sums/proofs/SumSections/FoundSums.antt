-- Wanted sums whose lines are found, and their ledgers.
use Rattle.std.proofs.Common.{◌≡◌, ◌∙◌, sym, ap, subst, refl, Bool, true, false, if◌then◌else◌, ℕ, ◌+◌, ◌<◌, List, [], ◌∷◌, ◌++◌, Some, None, length, take, drop, get_or, arith}
use Rattle.std.specs.Prelude.{All, IfSome, map}
use Rattle.std.specs.List.{AllZip}
use Rattle.std.proofs.Math.Seq.{drop-cons}
use Rattle.std.proofs.lemmas.List.{drop-drop, drop-map, get_or-map, length-drop, length-map, map-append, map_more, take_more}
use Rattle.std.proofs.lemmas.List.Elements.{All-head, All-map, All-push, All-same, All-tail}
use Rattle.explain_wheels.specs.ExplanationsWords.PlacedInRun.{PrintsNoneAt}
use Rattle.explain_ledgers.specs.LedgersWords.Accounts.{IsAccount, positions_of}
use Rattle.explain_ledgers.specs.LedgersWords.LedgerText.Names.{account_text}
use Rattle.explain_ledgers.specs.LedgersWords.Running.{HasCycle, IsFoundAt, IsKept, IsKeptLedger, IsSought, PlacesAt, PlacesLine, asked_of, sought_at}
use Rattle.explain_ledgers.specs.declared.ledgers.account.Account.{Account}
use Rattle.explain_ledgers.specs.declared.ledgers.found.FoundCycle.{FoundCycle}
use Rattle.explain_ledgers.specs.declared.ledgers.found.LinePlace.{LinePlace}
use Rattle.explain_ledgers.specs.declared.ledgers.found.SoughtLine.{SoughtLine}
use Rattle.explain_ledgers.specs.declared.ledgers.kept.AskedLedger.{AskedLedger}
use Rattle.explain_ledgers.specs.declared.ledgers.kept.KeptLedger.{KeptLedger}
use Rattle.explain_ledgers.proofs.LedgersWords.Loops.{All-unmap}
use Rattle.explain_origins.specs.Levels.{called_by}
use Rattle.show_links.specs.SumPlaces.Places.{account_at}
use Rattle.show_links.specs.declared.sum_places.places.SumPlace.{SumPlace}
use Rattle.hubs.specs.SetupsWords.Wiring.{Wiring}
use Rattle.explain_wheel_ledgers.proofs.Accounts.{is_account_told}
use Rattle.explain_wheel_ledgers.specs.Totals.{AreAccounts, find_total, has_place}
use Rattle.explain_wheel_ledgers.specs.declared.chart_totals.TitledAccount.{TitledAccount}
use Rattle.explain_words.specs.declared.explanation_text.text.ToldWheel.{ToldWheel}
use Rattle.show_sums.specs.SumSections.Sums.{AreSums, figure_of}
use Rattle.show_sums.specs.SumSections.WantedSums.{AreWantedFor, IsFoundSum, IsSumFor, IsWanted, asked_for, line_place, wanted_of}
use Rattle.show_sums.specs.declared.sum_sections.sums.FoundSum.{FoundSum}
use Rattle.show_sums.specs.declared.sum_sections.sums.PageSum.{PageSum}
use Rattle.show_sums.specs.declared.sum_sections.sums.WantedSum.{WantedSum}
use Rattle.show_sums.proofs.SumSections.Wanted.{zip-push}

-- the line of a wanted sum, as it is sought
pub record IsThere (wiring : Wiring) (deck : List (List ℕ)) (one : WantedSum) (line : SoughtLine) : Type 0 where
  pub at : line.at ≡ line_place one
  pub is : IsSought wiring deck line
  pub wanted : IsWanted wiring deck one

pub as-many : (wanted : List WantedSum) (places : List LinePlace) (sought : List SoughtLine) → places ≡ map line_place wanted
    → map sought_at sought ≡ places → length sought ≡ length wanted
as-many wanted places sought is same = sym (length-map sought sought_at) ∙ ap length (same ∙ is) ∙ length-map wanted line_place

pub is-there : (wiring : Wiring) (deck : List (List ℕ)) (wanted : List WantedSum) (places : List LinePlace) (sought : List SoughtLine)
    → places ≡ map line_place wanted → map sought_at sought ≡ places → All (IsSought wiring deck) sought → All (IsWanted wiring deck) wanted
    → (k : ℕ) (d : WantedSum) (e : SoughtLine) → k < length wanted → IsThere wiring deck (get_or wanted k d) (get_or sought k e)
is-there wiring deck wanted places sought is same found are k d e low =
    let many = as-many wanted places sought is same in
    let within : k < length sought = omega (arith, low, many) in
    record {
      at =
          sym (get_or-map sought_at sought k e (line_place d) within)
          ∙ ap (λ (l : List LinePlace). get_or l k (line_place d)) (same ∙ is)
          ∙ get_or-map line_place wanted k d (line_place d) low;
      is = found k e within;
      wanted = are k d low;
    }

-- it is found
not-none : (wiring : Wiring) (deck : List (List ℕ)) (one : WantedSum) (line : SoughtLine) → IsThere wiring deck one line → line.found ≡ None → ⊥
not-none wiring deck one line there none =
    there.wanted.there
    (subst (λ (a : LinePlace). PrintsNoneAt wiring deck a.page a.line) there.at
    (subst (IsFoundAt wiring deck line.at) none there.is))

pub none-missing : (wiring : Wiring) (deck : List (List ℕ)) (wanted : List WantedSum) (places : List LinePlace) (sought : List SoughtLine)
    → places ≡ map line_place wanted → map sought_at sought ≡ places → All (IsSought wiring deck) sought → All (IsWanted wiring deck) wanted
    → (k : ℕ) (line : SoughtLine) → k < length wanted → line ≡ get_or sought k line → line.found ≡ None → ⊥
none-missing wiring deck [] places sought is same found are k line low item none = absurd (omega (arith, low))
none-missing wiring deck (one ∷ wanted) places sought is same found are k line low item none =
    not-none wiring deck (get_or (one ∷ wanted) k one) line
    (subst (IsThere wiring deck (get_or (one ∷ wanted) k one)) (sym item)
    (is-there wiring deck (one ∷ wanted) places sought is same found are k one line low))
    none

found-there : (wiring : Wiring) (deck : List (List ℕ)) (one : WantedSum) (line : SoughtLine) (found : FoundCycle)
    → IsThere wiring deck one line → line.found ≡ Some found → PlacesAt wiring deck (line_place one) found
found-there wiring deck one line found there some =
    subst (λ (a : LinePlace). PlacesAt wiring deck a found) there.at (subst (IsFoundAt wiring deck line.at) some there.is)

-- Of the first of some wanted sums, so many, the cycles are found.
pub record AreFoundTo (wiring : Wiring) (deck : List (List ℕ)) (wanted : List WantedSum) (count : ℕ) (found : List FoundSum) : Type 0 where
  pub same : map wanted_of found ≡ take count wanted
  pub each : All (IsFoundSum wiring deck) found

pub found-more : (wiring : Wiring) (deck : List (List ℕ)) (wanted : List WantedSum) (k : ℕ) (d : WantedSum) (line : SoughtLine)
    (old new : List FoundSum) (one : FoundSum) → k < length wanted → IsThere wiring deck (get_or wanted k d) line
    → one.wanted ≡ get_or wanted k d → line.found ≡ Some one.found → new ≡ old ++ one ∷ []
    → AreFoundTo wiring deck wanted k old → AreFoundTo wiring deck wanted (k + 1) new
found-more wiring deck wanted k d line old new one low there is some pushed before = record {
  same =
      ap (map wanted_of) pushed
      ∙ map-append wanted_of old (one ∷ [])
      ∙ ap (λ (l : List WantedSum). l ++ one.wanted ∷ []) before.same
      ∙ ap (λ (w : WantedSum). take k wanted ++ w ∷ []) is
      ∙ sym (take_more wanted k d low);
  each =
      All-same (IsFoundSum wiring deck) new (old ++ one ∷ []) pushed
      (All-push (IsFoundSum wiring deck) old one before.each
      (subst (λ (w : WantedSum). PlacesAt wiring deck (line_place w) one.found) (sym is)
      (found-there wiring deck (get_or wanted k d) line one.found there some)));
}

-- their groups are on the panel
pub places-low : (wiring : Wiring) (deck : List (List ℕ)) (wanted : List WantedSum) (found : List FoundSum) → map wanted_of found ≡ wanted
    → All (IsWanted wiring deck) wanted → All (λ (one : FoundSum). one.wanted.place < 32) found
places-low wiring deck wanted found same are = λ k d low.
    (All-unmap (IsWanted wiring deck) wanted_of found (subst (All (IsWanted wiring deck)) (sym same) are) k d low).place

-- the run has their cycles
pub has-cycles : (wiring : Wiring) (deck : List (List ℕ)) (totals : List TitledAccount) (found : List FoundSum) (asked lent : List AskedLedger)
    → asked ≡ map (asked_for totals) found → lent ≡ asked → All (IsFoundSum wiring deck) found
    → All (λ (one : AskedLedger). HasCycle wiring deck one.passed) lent
has-cycles wiring deck totals found asked lent is copied each =
    All-same (λ (one : AskedLedger). HasCycle wiring deck one.passed) lent (map (asked_for totals) found) (copied ∙ is)
    (All-map (λ (one : AskedLedger). HasCycle wiring deck one.passed) (asked_for totals) found (λ k d low. (each k d low).places.has))

-- their accounts are on the panel
find-account : (totals : List TitledAccount) (place : ℕ) → AreAccounts totals
    → IfSome (find_total totals place) (λ (total : TitledAccount). IsAccount total.account)
find-account [] place accounts = tt
find-account (total ∷ totals) place accounts =
    by (has_place total.account place)
    (find-account totals place (All-tail (λ (t : TitledAccount). IsAccount t.account) total totals accounts))
  where
    by : (b : Bool) → IfSome (find_total totals place) (λ (t : TitledAccount). IsAccount t.account)
        → IfSome (if b then Some total else find_total totals place) (λ (t : TitledAccount). IsAccount t.account)
    by true other = All-head (λ (t : TitledAccount). IsAccount t.account) total totals accounts
    by false other = other

pub account-low : (totals : List TitledAccount) (place : ℕ) → AreAccounts totals → place < 32 → IsAccount (account_at totals place)
account-low totals place accounts low =
    is_account_told (find_total totals place) place (account_at totals place) refl (find-account totals place accounts) low

pub are-accounts : (totals : List TitledAccount) (found : List FoundSum) (asked lent : List AskedLedger)
    → asked ≡ map (asked_for totals) found → lent ≡ asked → AreAccounts totals → All (λ (one : FoundSum). one.wanted.place < 32) found
    → All (λ (one : AskedLedger). IsAccount one.account) lent
are-accounts totals found asked lent is copied accounts low =
    All-same (λ (one : AskedLedger). IsAccount one.account) lent (map (asked_for totals) found) (copied ∙ is)
    (All-map (λ (one : AskedLedger). IsAccount one.account) (asked_for totals) found
    (λ k d within. account-low totals (get_or found k d).wanted.place accounts (low k d within)))

-- A sum with its ledger is the wanted one.
pub sum-for : (wiring : Wiring) (totals : List TitledAccount) (deck : List (List ℕ)) (one : FoundSum) (kept : KeptLedger) (sum : PageSum)
    → IsFoundSum wiring deck one → kept.asked ≡ asked_for totals one → IsKept wiring deck 100 kept → sum.at ≡ one.wanted.at
    → sum.total ≡ find_total totals one.wanted.place → sum.found ≡ one.found → sum.ledger ≡ kept.ledger
    → sum.positions ≡ positions_of kept.asked.account → sum.groups.items ≡ account_text kept.asked.account
    → sum.figure.items ≡ figure_of wiring kept.asked.account one.found.line.text one.wanted.at.wheel
    → sum.why.items ≡ called_by wiring deck one.found.card one.found.cycle → IsSumFor wiring totals deck one.wanted sum
sum-for wiring totals deck one kept sum is asked told at total found ledger positions groups figure ran =
    let account = ap (λ (a : AskedLedger). a.account) asked in
    record {
      at = at;
      is = λ why here. record {
        at = at ∙ sym here;
        total = total;
        places = subst (PlacesLine wiring deck) (sym found) is.places;
        at_page = ap (λ (f : FoundCycle). f.line.page) found ∙ is.at_page ∙ ap (λ (p : SumPlace). p.page) (sym here);
        at_line = ap (λ (f : FoundCycle). f.line.line) found ∙ is.at_line ∙ ap (λ (p : SumPlace). p.line) (sym here);
        kept =
            subst (λ (f : FoundCycle). IsKeptLedger wiring deck f.passed 100 (account_at totals one.wanted.place) sum.ledger) (sym found)
            (subst (IsKeptLedger wiring deck one.found.passed 100 (account_at totals one.wanted.place)) (sym ledger)
            (subst (λ (a : AskedLedger). IsKeptLedger wiring deck a.passed 100 a.account kept.ledger) asked told));
        positions = positions ∙ ap positions_of account;
        groups = groups ∙ ap account_text account;
        figure =
            figure
            ∙ ap (λ (a : Account). figure_of wiring a one.found.line.text one.wanted.at.wheel) account
            ∙ ap (λ (f : FoundCycle). figure_of wiring (account_at totals one.wanted.place) f.line.text one.wanted.at.wheel) (sym found)
            ∙ ap (λ (p : SumPlace). figure_of wiring (account_at totals one.wanted.place) sum.found.line.text p.wheel) (sym at);
        why_ran = ran ∙ ap (λ (f : FoundCycle). called_by wiring deck f.card f.cycle) (sym found);
      };
    }

-- the ledgers that are left for the sums behind the first ones
module _ (totals : List TitledAccount) (found : List FoundSum) (i : ℕ) (kept : List KeptLedger) (low : i < length found)
    (same : map asked_of kept ≡ map (asked_for totals) (drop i found))
  where
    pub some-left : 0 < length kept
    some-left =
        let many =
        sym (length-map kept asked_of) ∙ ap length same ∙ length-map (drop i found) (asked_for totals) ∙ length-drop i found in
        omega (arith, low, many)

    pub next-asked : (d : FoundSum) (first : KeptLedger) → (get_or kept 0 first).asked ≡ asked_for totals (get_or found i d)
    next-asked d first =
        sym (get_or-map asked_of kept 0 first (asked_for totals d) some-left)
        ∙ ap (λ (l : List AskedLedger). get_or l 0 (asked_for totals d)) (same ∙ ap (map (asked_for totals)) (drop-cons found i d low))

    pub rest-asked : map asked_of (drop 1 kept) ≡ map (asked_for totals) (drop (i + 1) found)
    rest-asked =
        sym (drop-map asked_of 1 kept)
        ∙ ap (λ (l : List AskedLedger). drop 1 l) same
        ∙ drop-map (asked_for totals) 1 (drop i found)
        ∙ ap (map (asked_for totals)) (drop-drop 1 i found)

-- one sum more
pub sums-more : (wiring : Wiring) (totals : List TitledAccount) (deck : List (List ℕ)) (found : List FoundSum) (i : ℕ) (d : FoundSum)
    (old new : List PageSum) (sum : PageSum) → i < length found
    → AllZip (IsSumFor wiring totals deck) (map wanted_of (take i found)) old → IsSumFor wiring totals deck (get_or found i d).wanted sum
    → new ≡ old ++ sum ∷ [] → AllZip (IsSumFor wiring totals deck) (map wanted_of (take (i + 1) found)) new
sums-more wiring totals deck found i d old new sum low before is pushed =
    subst (λ (l : List WantedSum). AllZip (IsSumFor wiring totals deck) l new) (sym (map_more wanted_of found i d low))
    (subst (AllZip (IsSumFor wiring totals deck) (map wanted_of (take i found) ++ (get_or found i d).wanted ∷ [])) (sym pushed)
    (zip-push (IsSumFor wiring totals deck) (map wanted_of (take i found)) old (get_or found i d).wanted sum before is))

-- the sums that answer to the wanted ones
pub sums-told : (wiring : Wiring) (totals : List TitledAccount) (deck : List (List ℕ)) (told : List ToldWheel)
    (wanted lent : List WantedSum) (found also : List FoundSum) (sums : List PageSum) → AreWantedFor wiring totals deck told wanted → lent ≡ wanted
    → map wanted_of found ≡ lent → also ≡ found → AllZip (IsSumFor wiring totals deck) (map wanted_of also) sums
    → AreSums wiring totals deck told sums
sums-told wiring totals deck told wanted lent found also sums are copied same moved zip =
    are.suffice sums
    (subst (λ (l : List WantedSum). AllZip (IsSumFor wiring totals deck) l sums) (ap (map wanted_of) moved ∙ same ∙ copied) zip)
