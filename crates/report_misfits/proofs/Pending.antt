-- Totals with what is pending of their amounts.
use Rattle.std.proofs.Common.{◌≡◌, ◌∙◌, refl, sym, ap, ap₂, subst, ℕ, suc, ℤ, pos, ◌+ℤ◌, ◌+◌, ◌*◌, ◌<◌, ◌≤◌, List, [], ◌∷◌, ◌++◌, Option, Some, None, length, map, take, drop, set, get_or, slice_get, option_map, append-nil, arith}
use Rattle.std.specs.List.{All}
use Rattle.std.proofs.lemmas.Grind.{take-set_at}
use Rattle.std.proofs.lemmas.Int.{ints}
use Rattle.std.proofs.lemmas.List.{append_assoc, drop_all, drop-set-lt, get_or_default, length-set, take_all}
use Rattle.std.proofs.lemmas.List.Elements.{All-contains, All-head, All-map, All-tail}
use Rattle.std.proofs.lemmas.Option.{slice_get-get_or, slice_get-map, slice_get_within}
use Rattle.chart_lines.proofs.ChartsWords.Listed.{listed-at}
use Rattle.chart_lines.specs.declared.charts.statement.Field.{Field}
use Rattle.report_definition.specs.Amounts.{value_of}
use Rattle.report_misfits.specs.HelperAmounts.{IsGoodAmount}
use Rattle.report_misfits.specs.HelperNumbers.{AreNumbered, fields_of_amounts}
use Rattle.report_misfits.specs.HelperPending.{emptied, pending_at, pending_in, settled, taking_card}
use Rattle.report_misfits.specs.HelperTotals.{IsWithin, above_amounts}
use Rattle.report_misfits.specs.OpenTotals.{with_card, with_value}
use Rattle.report_misfits.specs.declared.open_total.Amount.{Amount}
use Rattle.report_misfits.specs.declared.open_total.OpenTotal.{OpenTotal}
use Rattle.report_misfits.proofs.Bounds.{sum_within, value_within}
use Rattle.report_misfits.proofs.InPlace.{rest}
use Rattle.report_misfits.proofs.Numbering.{amount-at, numbered-at, numbered-long}

-- what is pending of an amount with a card more
pending-taken : (card : List ℕ) (amounts : List Amount) (place : ℕ) (field : Field) → slice_get (fields_of_amounts amounts) place ≡ Some field
    → pending_at (map (taking_card card) amounts) place ≡ pending_at amounts place +ℤ value_of field card
pending-taken card amounts place field at =
    let here = amount-at amounts place field at in
    ap pending_in (slice_get-map (taking_card card) amounts place ∙ ap (option_map (taking_card card)) here.there)
    ∙ ap (λ f. here.amount.pending +ℤ value_of f card) here.same
    ∙ ap (λ pending. pending +ℤ value_of field card) (sym (ap pending_in here.there))

-- the totals with a card more
pub settled-taken : (card : List ℕ) (totals : List OpenTotal) (places : List ℕ) (amounts : List Amount) → AreNumbered totals places amounts
    → settled totals places (map (taking_card card) amounts) ≡ map (with_card card) (settled totals places amounts)
settled-taken card [] places amounts numbered = refl
settled-taken card (total ∷ totals) [] amounts numbered = cc
settled-taken card (total ∷ totals) (place ∷ places) amounts numbered =
    let here : slice_get (fields_of_amounts amounts) place ≡ Some total.field = cc in
    let others : map (λ p. slice_get (fields_of_amounts amounts) p) places ≡ map (λ (t : OpenTotal). Some t.field) totals = cc in
    ap₂ (λ (first : OpenTotal) (more : List OpenTotal). first ∷ more)
    (ap (λ (pending : ℤ). with_value pending total) (pending-taken card amounts place total.field here)
    ∙ ap (λ (sum : ℤ). record total { sum = sum }) (together total.sum (pending_at amounts place) (value_of total.field card)))
    (settled-taken card totals places amounts others)
  where
    together : (a b c : ℤ) → a +ℤ (b +ℤ c) ≡ a +ℤ b +ℤ c
    together a b c = omega (arith, ints)

-- the totals where nothing is pending
pub settled-none : (totals : List OpenTotal) (places : List ℕ) (amounts : List Amount) → ((place : ℕ) → pending_at amounts place ≡ pos 0)
    → settled totals places amounts ≡ totals
settled-none [] places amounts none = refl
settled-none (total ∷ totals) [] amounts none = refl
settled-none (total ∷ totals) (place ∷ places) amounts none =
    ap₂ (λ (first : OpenTotal) (more : List OpenTotal). first ∷ more)
    (ap (λ (pending : ℤ). with_value pending total) (none place) ∙ ap (λ (sum : ℤ). record total { sum = sum }) (plus_none total.sum))
    (settled-none totals places amounts none)
  where
    plus_none : (sum : ℤ) → sum +ℤ pos 0 ≡ sum
    plus_none sum = omega (arith, ints)

pub none-emptied : (amounts : List Amount) (place : ℕ) → pending_at (map emptied amounts) place ≡ pos 0
none-emptied amounts place = ap pending_in (slice_get-map emptied amounts place) ∙ by (slice_get amounts place)
  where
    by : (o : Option Amount) → pending_in (option_map emptied o) ≡ pos 0
    by None = refl
    by (Some amount) = refl

pub none-pending : (amounts : List Amount) → All (λ amount. amount.pending ≡ pos 0) amounts → (place : ℕ) → pending_at amounts place ≡ pos 0
none-pending amounts none place = by (slice_get amounts place) refl
  where
    by : (o : Option Amount) → slice_get amounts place ≡ o → pending_in (slice_get amounts place) ≡ pos 0
    by None is = ap pending_in is
    by (Some amount) is =
        ap pending_in is ∙ All-contains (λ amount. amount.pending ≡ pos 0) amounts amount none (listed-at amounts place amount is)

-- what is pending changes no total's field, and leaves as many totals
pub settled-fields : (totals : List OpenTotal) (places : List ℕ) (amounts : List Amount)
    → map (λ total. Some total.field) (settled totals places amounts) ≡ map (λ total. Some total.field) totals
settled-fields [] places amounts = refl
settled-fields (total ∷ totals) [] amounts = refl
settled-fields (total ∷ totals) (place ∷ places) amounts = ap (λ fields. Some total.field ∷ fields) (settled-fields totals places amounts)

pub length-settled : (totals : List OpenTotal) (places : List ℕ) (amounts : List Amount) → length (settled totals places amounts) ≡ length totals
length-settled [] places amounts = refl
length-settled (total ∷ totals) [] amounts = refl
length-settled (total ∷ totals) (place ∷ places) amounts = ap suc (length-settled totals places amounts)

-- What the loop over the totals keeps: what is pending was added to those so far, and is still to be added to the others.
pub record IsSettledTo (totals : List OpenTotal) (places : List ℕ) (amounts : List Amount) (k : ℕ) (new : List OpenTotal) : Type 0 where
  pub done : take k new ++ settled (drop k new) (drop k places) amounts ≡ settled totals places amounts
  pub long : length new ≡ length totals

-- what is pending is added to the next total
next_parts : (totals new : List OpenTotal) (places : List ℕ) (amounts : List Amount) (k place : ℕ) (total : OpenTotal)
    → AreNumbered totals places amounts → k < length totals → total ≡ get_or new k total → place ≡ get_or places k 0
    → IsSettledTo totals places amounts k new
    → take k new ++ with_value (pending_at amounts place) total ∷ settled (drop (k + 1) new) (drop (k + 1) places) amounts
    ≡ settled totals places amounts
next_parts totals new places amounts k place total numbered inside read is so_far =
    let long = so_far.long in
    let many = numbered-long totals places amounts numbered in
    let among : k < length places = omega (arith, inside, many) in
    ap₂ (λ some others. take k new ++ settled some others amounts)
    (sym (rest new k total (omega (arith, inside, long)) read))
    (sym (rest places k place among (is ∙ get_or_default places k 0 place among)))
    ∙ so_far.done

pub settled-next : (totals new : List OpenTotal) (places : List ℕ) (amounts : List Amount) (k place : ℕ) (total changed : OpenTotal)
    → AreNumbered totals places amounts → k < length totals → total ≡ get_or new k total → place ≡ get_or places k 0
    → IsSettledTo totals places amounts k new → changed ≡ with_value (pending_at amounts place) total
    → IsSettledTo totals places amounts (k + 1) (set new k changed)
settled-next totals new places amounts k place total changed numbered inside read is so_far value =
    let long = so_far.long in
    let within : k < length new = omega (arith, inside, long) in
    record {
      done =
          ap₂ (λ front back. front ++ settled back (drop (k + 1) places) amounts)
          (take-set_at new k (k + 1) changed refl within)
          (drop-set-lt (k + 1) new k changed (omega arith))
          ∙ append_assoc (take k new) (changed ∷ []) (settled (drop (k + 1) new) (drop (k + 1) places) amounts)
          ∙ ap (λ one. take k new ++ one ∷ settled (drop (k + 1) new) (drop (k + 1) places) amounts) value
          ∙ next_parts totals new places amounts k place total numbered inside read is so_far;
      long = length-set new k changed ∙ long;
    }

-- after the last total
pub settled-all : (totals new : List OpenTotal) (places : List ℕ) (amounts : List Amount) (k : ℕ) → length totals ≤ k
    → IsSettledTo totals places amounts k new → new ≡ settled totals places amounts
settled-all totals new places amounts k past so_far =
    let long = so_far.long in
    let none : drop k new ≡ [] = drop_all k new (omega (arith, past, long)) in
    sym (append-nil new)
    ∙ ap (λ l. l ++ []) (sym (take_all k new (omega (arith, past, long))))
    ∙ ap (λ l. take k new ++ settled l (drop k places) amounts) (sym none)
    ∙ so_far.done

-- what holds of an element in the middle of a list
middle : {X : Type 0} (P : X → Type 0) (xs : List X) (x : X) (ys : List X) → All P (xs ++ x ∷ ys) → P x
middle P [] x ys all = All-head P x ys all
middle P (y ∷ xs) x ys all = middle P xs x ys (All-tail P y (xs ++ x ∷ ys) all)

-- what holds of the settled totals holds of the next one
pub settled-holds : (P : OpenTotal → Type 0) (totals new : List OpenTotal) (places : List ℕ) (amounts : List Amount) (k place : ℕ)
    (total : OpenTotal) → All P (settled totals places amounts)
    → AreNumbered totals places amounts → k < length totals → total ≡ get_or new k total → place ≡ get_or places k 0
    → IsSettledTo totals places amounts k new → P (with_value (pending_at amounts place) total)
settled-holds P totals new places amounts k place total all numbered inside read is so_far =
    middle P (take k new) (with_value (pending_at amounts place) total) (settled (drop (k + 1) new) (drop (k + 1) places) amounts)
    (subst (All P) (sym (next_parts totals new places amounts k place total numbered inside read is so_far)) all)

-- the place of the next total's amount
pub place-within : (totals : List OpenTotal) (places : List ℕ) (amounts : List Amount) (k place : ℕ) (default : OpenTotal)
    → AreNumbered totals places amounts → k < length totals → place ≡ get_or places k 0 → place < length amounts
place-within totals places amounts k place default numbered inside is =
    let long = numbered-long totals places amounts numbered in
    let there : slice_get places k ≡ Some place = slice_get-get_or places k 0 (omega (arith, long, inside)) ∙ ap Some (sym is) in
    let stands = slice_get-get_or totals k default inside in
    let at = numbered-at totals places amounts k place (get_or totals k default) numbered there stands in
    slice_get_within amounts place at.amount at.there

-- what is read there is what is pending
pub pending-read : (amounts : List Amount) (place : ℕ) (read : Amount) → place < length amounts → read ≡ get_or amounts place read
    → pending_at amounts place ≡ read.pending
pending-read amounts place read within is = ap pending_in (slice_get-get_or amounts place read within ∙ ap Some (sym is))

-- little is pending of the amounts with a card more
pub little-taken : (cards : ℕ) (card : List ℕ) (amounts : List Amount) → All (λ amount. IsGoodAmount amount.field) amounts
    → All (λ amount. IsWithin (cards * above_amounts) amount.pending) amounts
    → All (λ amount. IsWithin ((cards + 1) * above_amounts) amount.pending) (map (taking_card card) amounts)
little-taken cards card amounts good little =
    All-map (λ amount. IsWithin ((cards + 1) * above_amounts) amount.pending) (taking_card card) amounts
    (λ k default within.
    let amount = get_or amounts k default in
    sum_within cards amount.pending (value_of amount.field card) (little k default within)
    (value_within amount.field card (good k default within)))
