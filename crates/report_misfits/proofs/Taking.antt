-- What the open totals are after a card, and what they tell.
use Rattle.std.proofs.Common.{◌≡◌, ◌∙◌, refl, sym, ap, ap₂, subst, ℕ, ◌+◌, ◌*◌, ◌<◌, ◌≤◌, List, [], ◌++◌, Option, length, map, drop, append-nil, arith}
use Rattle.std.specs.List.{All, refill}
use Rattle.std.proofs.lemmas.List.{length-map, take_all, drop_all}
use Rattle.std.proofs.lemmas.List.Elements.{All-map}
use Rattle.card_code.specs.MostCards.{most_cards}
use Rattle.chart_lines.specs.declared.charts.chart.Line.{Line}
use Rattle.report_definition.specs.FollowedDecks.CardMisfits.{misfits_to}
use Rattle.report_definition.specs.Breaks.{cleared, taking}
use Rattle.report_definition.specs.Misfits.{Misfit, first_of}
use Rattle.report_misfits.specs.HelperAmounts.{IsGoodAmount}
use Rattle.report_misfits.specs.HelperPending.{emptied, settled, taking_card}
use Rattle.report_misfits.specs.HelperSums.{AreKeptSums}
use Rattle.report_misfits.specs.HelperTotals.{IsKept, IsWithin, above_amounts, misfits_among}
use Rattle.report_misfits.specs.OpenSums.{AreSumsOf, Sums}
use Rattle.report_misfits.specs.OpenTotals.{closed_to, open_totals, with_card}
use Rattle.report_misfits.specs.declared.open_total.Amount.{Amount}
use Rattle.report_misfits.specs.declared.open_total.OpenTotal.{OpenTotal}
use Rattle.report_misfits.proofs.Bounds.{all_closed, all_with_card, none_within}
use Rattle.report_misfits.proofs.Numbering.{closed-fields, numbered-kept}
use Rattle.report_misfits.proofs.OpenTotals.{among, cards_add, groups_close}
use Rattle.report_misfits.proofs.Pending.{little-taken, none-emptied, settled-fields, settled-none, settled-taken}

-- what stands in the places of a list where each element was changed
pub refilled : {X : Type 0} (change : X → X) (items lent left : List X) → lent ≡ items → left ≡ map change lent
    → refill (length items) items left ≡ map change items
refilled change items lent left same is =
    take_all (length items) (left ++ drop (length left) items) (omega (arith, whole)) ∙ ap (λ l. left ++ l) none ∙ append-nil left ∙ all
  where
    all : left ≡ map change items
    all = is ∙ ap (map change) same

    long : length left ≡ length items
    long = ap length all ∙ length-map items change

    none : drop (length left) items ≡ []
    none = ap (λ n. drop n items) long ∙ drop_all (length items) items (omega arith)

    whole : length (left ++ drop (length left) items) ≡ length items
    whole = ap (λ l. length (left ++ l)) none ∙ ap length (append-nil left) ∙ long

-- what stands in the places of a list that was changed whole
pub refilled_whole : {X : Type 0} (items left whole : List X) → left ≡ whole → length whole ≡ length items
    → refill (length items) items left ≡ whole
refilled_whole items left whole is many =
    take_all (length items) (left ++ drop (length left) items) (omega (arith, all)) ∙ ap (λ l. left ++ l) none ∙ append-nil left ∙ is
  where
    long : length left ≡ length items
    long = ap length is ∙ many

    none : drop (length left) items ≡ []
    none = ap (λ n. drop n items) long ∙ drop_all (length items) items (omega arith)

    all : length (left ++ drop (length left) items) ≡ length items
    all = ap (λ l. length (left ++ l)) none ∙ ap length (append-nil left) ∙ long

-- what the sums keep, with a card more
pub sums_taken : (cards : ℕ) (card : List ℕ) (totals : List OpenTotal) (places : List ℕ) (amounts : List Amount)
    → AreKeptSums totals places amounts cards → cards + 1 ≤ most_cards
    → AreKeptSums totals places (map (taking_card card) amounts) (cards + 1)
sums_taken cards card totals places amounts kept few = record {
  few = few;
  kept =
      subst (All (IsKept (cards + 1))) (sym (settled-taken card totals places amounts kept.numbered))
      (all_with_card cards card (settled totals places amounts) kept.kept);
  numbered = numbered-kept totals places amounts (taking_card card) (λ amount. refl) kept.numbered;
  good = All-map (λ amount. IsGoodAmount amount.field) (taking_card card) amounts kept.good;
  little = little-taken cards card amounts kept.good kept.little;
}

-- and where groups end
pub sums_closed : (cards ended : ℕ) (totals : List OpenTotal) (places : List ℕ) (amounts : List Amount)
    → AreKeptSums totals places amounts cards
    → AreKeptSums (map (closed_to ended) (settled totals places amounts)) places (map emptied amounts) cards
sums_closed cards ended totals places amounts kept =
    let closed = map (closed_to ended) (settled totals places amounts) in
    record {
      few = kept.few;
      kept =
          subst (All (IsKept cards)) (sym (settled-none closed places (map emptied amounts) (none-emptied amounts)))
          (all_closed cards ended (settled totals places amounts) kept.kept);
      numbered =
          numbered-kept closed places amounts emptied (λ amount. refl)
          (kept.numbered ∙ sym (closed-fields ended (settled totals places amounts) ∙ settled-fields totals places amounts));
      good = All-map (λ amount. IsGoodAmount amount.field) emptied amounts kept.good;
      little =
          All-map (λ amount. IsWithin (cards * above_amounts) amount.pending) emptied amounts
          (λ k default within. none_within (cards * above_amounts));
    }

-- with the card the totals are those of the groups with the card
added : (lines : List Line) (so_far : ℕ → List (List ℕ)) (card : List ℕ) (sums : Sums) (items shown : List OpenTotal)
    → AreSumsOf lines so_far sums → items ≡ sums.totals → shown ≡ map (with_card card) items
    → shown ≡ open_totals lines (taking card so_far) lines
added lines so_far card sums items shown are same is =
    is ∙ ap (map (with_card card)) (same ∙ are) ∙ cards_add lines so_far card

pub told_after : (lines : List Line) (so_far : ℕ → List (List ℕ)) (card : List ℕ) (sums : Sums) (items shown : List OpenTotal)
    (number cards ended its : ℕ) (found : Option Misfit)
    → AreSumsOf lines so_far sums → items ≡ sums.totals → shown ≡ map (with_card card) items → number ≡ cards → ended ≡ its
    → found ≡ first_of (misfits_among shown number ended)
    → found ≡ first_of (misfits_to lines cards its (taking card so_far))
told_after lines so_far card sums items shown number cards ended its found are same is numbers levels tells =
    tells
    ∙ ap (λ l. first_of (misfits_among l number ended)) (added lines so_far card sums items shown are same is)
    ∙ ap first_of (among lines (taking card so_far) number ended)
    ∙ ap₂ (λ n e. first_of (misfits_to lines n e (taking card so_far))) numbers levels

pub open_after : (lines : List Line) (so_far : ℕ → List (List ℕ)) (card : List ℕ) (sums : Sums) (items shown left : List OpenTotal) (ended its : ℕ)
    → AreSumsOf lines so_far sums → items ≡ sums.totals → shown ≡ map (with_card card) items → ended ≡ its
    → left ≡ map (closed_to ended) shown
    → left ≡ open_totals lines (cleared its (taking card so_far)) lines
open_after lines so_far card sums items shown left ended its are same is levels closed =
    closed
    ∙ ap (map (closed_to ended)) (added lines so_far card sums items shown are same is)
    ∙ groups_close lines (taking card so_far) ended
    ∙ ap (λ e. open_totals lines (cleared e (taking card so_far)) lines) levels

-- one card more is not too many
pub room_for : (cards : ℕ) (sums : Sums) → cards ≡ sums.cards → sums.cards < most_cards → cards + 1 ≤ most_cards
room_for cards sums same few = omega (arith, same, few)
