-- The amounts that are totalled, and the totals' places among them.
use Rattle.std.proofs.Common.{◌≡◌, ◌∙◌, refl, sym, ap, ap₂, subst, ℕ, zero, suc, ◌+◌, ◌≤◌, inl, inr, nat_le, Bool, true, false, List, [], ◌∷◌, ◌++◌, Option, Some, None, length, length-append, map, slice_get, option_map, pos, position, if◌then◌else◌, arith}
use Rattle.std.specs.List.{All}
use Rattle.std.proofs.lemmas.List.{length-map, map-append}
use Rattle.std.proofs.lemmas.List.Elements.{All-push, All-weaker}
use Rattle.std.proofs.lemmas.List.Quantifiers.{position-Some}
use Rattle.std.proofs.lemmas.Option.{same_Some, slice_get-get_or, slice_get-map}
use Rattle.chart_lines.specs.ChartsWords.Levels.{level_number}
use Rattle.chart_lines.specs.ChartsWords.Name.{is_same_name}
use Rattle.chart_lines.specs.declared.charts.chart.Line.{Line}
use Rattle.chart_lines.specs.declared.charts.statement.Field.{Field}
use Rattle.chart_line_rules.proofs.FieldRules.Places.{is_same_name-equal}
use Rattle.chart_line_rules.specs.FieldRules.Fields.{field_named}
use Rattle.report_misfits.specs.HelperAmounts.{IsGoodAmount}
use Rattle.report_misfits.specs.HelperNumbers.{AreNumbered, AreWith, IsNamedAmount, fields_of_amounts, new_amount}
use Rattle.report_misfits.specs.OpenTotals.{closed_to}
use Rattle.report_misfits.specs.declared.open_total.Amount.{Amount}
use Rattle.report_misfits.specs.declared.open_total.OpenTotal.{OpenTotal}

-- as many places as totals
pub numbered-long : (totals : List OpenTotal) (places : List ℕ) (amounts : List Amount) → AreNumbered totals places amounts
    → length places ≡ length totals
numbered-long totals places amounts numbered =
    sym (length-map places (λ place. slice_get (fields_of_amounts amounts) place))
    ∙ ap length numbered
    ∙ length-map totals (λ total. Some total.field)

-- What stands at the place of a total's amount.
pub record IsAmountAt (amounts : List Amount) (place : ℕ) (field : Field) : Type 0 where
  pub amount : Amount
  pub there : slice_get amounts place ≡ Some amount
  pub same : amount.field ≡ field

pub amount-at : (amounts : List Amount) (place : ℕ) (field : Field) → slice_get (fields_of_amounts amounts) place ≡ Some field
    → IsAmountAt amounts place field
amount-at amounts place field at = by (slice_get amounts place) refl
  where
    by : (o : Option Amount) → slice_get amounts place ≡ o → IsAmountAt amounts place field
    by None is =
        let none : None ≡ Some field = sym (slice_get-map (λ amount. amount.field) amounts place ∙ ap (option_map (λ amount. amount.field)) is) ∙ at in cc
    by (Some amount) is =
        let some : Some amount.field ≡ Some field
        = sym (slice_get-map (λ amount. amount.field) amounts place ∙ ap (option_map (λ amount. amount.field)) is) ∙ at in
        record { amount = amount; there = is; same = same_Some amount.field field some }

pub numbered-at : (totals : List OpenTotal) (places : List ℕ) (amounts : List Amount) (k place : ℕ) (total : OpenTotal)
    → AreNumbered totals places amounts → slice_get places k ≡ Some place → slice_get totals k ≡ Some total
    → IsAmountAt amounts place total.field
numbered-at totals places amounts k place total numbered there at =
    amount-at amounts place total.field (same_Some _ _ e)
  where
    of : ℕ → Option Field
    of = λ p. slice_get (fields_of_amounts amounts) p

    e : Some (slice_get (fields_of_amounts amounts) place) ≡ Some (Some total.field)
    e =
        sym (slice_get-map of places k ∙ ap (option_map of) there)
        ∙ ap (λ l. slice_get l k) numbered
        ∙ slice_get-map (λ (t : OpenTotal). Some t.field) totals k
        ∙ ap (option_map (λ (t : OpenTotal). Some t.field)) at

-- what is done to amounts changes no amount's field
fields-kept : (change : Amount → Amount) → ((amount : Amount) → (change amount).field ≡ amount.field) → (amounts : List Amount)
    → fields_of_amounts (map change amounts) ≡ fields_of_amounts amounts
fields-kept change keeps [] = refl
fields-kept change keeps (amount ∷ amounts) = ap₂ (λ field fields. field ∷ fields) (keeps amount) (fields-kept change keeps amounts)

-- so the totals' amounts stay at their places
pub numbered-kept : (totals : List OpenTotal) (places : List ℕ) (amounts : List Amount) (change : Amount → Amount)
    → ((amount : Amount) → (change amount).field ≡ amount.field) → AreNumbered totals places amounts
    → AreNumbered totals places (map change amounts)
numbered-kept totals places amounts change keeps numbered =
    ap (λ fields. map (λ place. slice_get fields place) places) (fields-kept change keeps amounts) ∙ numbered

-- and groups that end change no total's
closed-field : (ended : ℕ) (total : OpenTotal) → (closed_to ended total).field ≡ total.field
closed-field ended total = by (nat_le (level_number total.level) ended)
  where
    by : (b : Bool) → (if b then record total { sum = pos 0 } else total).field ≡ total.field
    by true = refl
    by false = refl

pub closed-fields : (ended : ℕ) (totals : List OpenTotal)
    → map (λ total. Some total.field) (map (closed_to ended) totals) ≡ map (λ total. Some total.field) totals
closed-fields ended [] = refl
closed-fields ended (total ∷ totals) = ap₂ (λ field fields. Some field ∷ fields) (closed-field ended total) (closed-fields ended totals)

-- an amount that stands at a place still does where one was put after all
still : (fields more : List Field) (place : ℕ) (field : Field) → slice_get fields place ≡ Some field → slice_get (fields ++ more) place ≡ Some field
still [] more place field at = cc
still (first ∷ fields) more zero field at = at
still (first ∷ fields) more (suc place) field at = still fields more place field at

fields-append : (amounts more : List Amount) → fields_of_amounts (amounts ++ more) ≡ fields_of_amounts amounts ++ fields_of_amounts more
fields-append amounts more = map-append (λ (amount : Amount). amount.field) amounts more

still-numbered : (totals : List OpenTotal) (places : List ℕ) (fields more : List Field)
    → map (λ place. slice_get fields place) places ≡ map (λ (total : OpenTotal). Some total.field) totals
    → map (λ place. slice_get (fields ++ more) place) places ≡ map (λ (total : OpenTotal). Some total.field) totals
still-numbered [] [] fields more numbered = refl
still-numbered [] (place ∷ places) fields more numbered = cc
still-numbered (total ∷ totals) [] fields more numbered = cc
still-numbered (total ∷ totals) (place ∷ places) fields more numbered =
    let here : slice_get fields place ≡ Some total.field = cc in
    let rest : map (λ p. slice_get fields p) places ≡ map (λ (t : OpenTotal). Some t.field) totals = cc in
    ap₂ (λ first others. first ∷ others) (still fields more place total.field here) (still-numbered totals places fields more rest)

-- a total more, with the place of its amount
pub numbered-more : (totals : List OpenTotal) (places : List ℕ) (old new : List Amount) (total : OpenTotal) (place : ℕ)
    → AreNumbered totals places old → AreWith total.field old new → slice_get (fields_of_amounts new) place ≡ Some total.field
    → AreNumbered (totals ++ total ∷ []) (places ++ place ∷ []) new
numbered-more totals places old new total place numbered is at =
    map-append (λ p. slice_get (fields_of_amounts new) p) places (place ∷ [])
    ∙ ap₂ (λ one other. one ++ other ∷ []) (by is) at
    ∙ sym (map-append (λ (t : OpenTotal). Some t.field) totals (total ∷ []))
  where
    by : AreWith total.field old new → map (λ p. slice_get (fields_of_amounts new) p) places ≡ map (λ (t : OpenTotal). Some t.field) totals
    by (inl same) = ap (λ amounts. map (λ p. slice_get (fields_of_amounts amounts) p) places) same ∙ numbered
    by (inr more) =
        ap (λ amounts. map (λ p. slice_get (fields_of_amounts amounts) p) places) more
        ∙ ap (λ fields. map (λ p. slice_get fields p) places) (fields-append old (new_amount total.field ∷ []))
        ∙ still-numbered totals places (fields_of_amounts old) (total.field ∷ []) numbered

-- the amounts are good and named, with one more too
pub named-more : (lines : List Line) (old new : List Amount) (field : Field) → All (IsNamedAmount lines) old → AreWith field old new
    → IsGoodAmount field → field_named lines field.name ≡ Some field → All (IsNamedAmount lines) new
named-more lines old new field named (inl same) good own = subst (All (IsNamedAmount lines)) (sym same) named
named-more lines old new field named (inr more) good own =
    subst (All (IsNamedAmount lines)) (sym more)
    (All-push (IsNamedAmount lines) old (new_amount field) named (record { good = good; named = own; none = refl }))

-- and there are at most as many as totals
pub few-more : (old new : List Amount) (field : Field) (totals : ℕ) → AreWith field old new → length old ≤ totals → length new ≤ totals + 1
few-more old new field totals (inl same) few = let e = ap length same in omega (arith, e, few)
few-more old new field totals (inr more) few =
    let e = ap length more in
    let long = length-append old (new_amount field ∷ []) in
    omega (arith, e, long, few)

-- amounts with one name are one
pub by_name : (lines : List Line) (amounts : List Amount) (field : Field) → All (IsNamedAmount lines) amounts
    → field_named lines field.name ≡ Some field
    → All (λ amount. is_same_name amount.field.name field.name ≡ true → amount.field ≡ field) amounts
by_name lines amounts field named own =
    All-weaker (IsNamedAmount lines) (λ amount. is_same_name amount.field.name field.name ≡ true → amount.field ≡ field)
    (λ amount is alike.
    same_Some amount.field field
    (sym is.named ∙ ap (field_named lines) (is_same_name-equal amount.field.name field.name alike) ∙ own))
    amounts named

-- one that is found by its name is the amount
pub found-at : (amounts : List Amount) (field : Field) (place : ℕ)
    → All (λ amount. is_same_name amount.field.name field.name ≡ true → amount.field ≡ field) amounts
    → position (λ amount. is_same_name amount.field.name field.name) amounts ≡ Some place
    → slice_get (fields_of_amounts amounts) place ≡ Some field
found-at amounts field place all found =
    let at = position-Some (λ amount. is_same_name amount.field.name field.name) amounts place (new_amount field) found in
    slice_get-map (λ amount. amount.field) amounts place
    ∙ ap (option_map (λ amount. amount.field)) (slice_get-get_or amounts place (new_amount field) at.0)
    ∙ ap Some (all place (new_amount field) at.0 at.1)

-- one that is put after the others stands at the end
pub pushed-at : (old new : List Amount) (field : Field) (place : ℕ) → new ≡ old ++ new_amount field ∷ [] → place ≡ length old
    → slice_get (fields_of_amounts new) place ≡ Some field
pushed-at old new field place is at =
    ap (λ amounts. slice_get (fields_of_amounts amounts) place) is
    ∙ ap (λ fields. slice_get fields place) (fields-append old (new_amount field ∷ []))
    ∙ last (fields_of_amounts old) (at ∙ sym (length-map old (λ (amount : Amount). amount.field)))
  where
    last : (fields : List Field) → place ≡ length fields → slice_get (fields ++ field ∷ []) place ≡ Some field
    last fields is = ap (slice_get (fields ++ field ∷ [])) is ∙ ends fields
      where
        ends : (some : List Field) → slice_get (some ++ field ∷ []) (length some) ≡ Some field
        ends [] = refl
        ends (first ∷ some) = ends some
