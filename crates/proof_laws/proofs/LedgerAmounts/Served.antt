-- A total of a chart on a panel that is wired for it, and what its ledger lists.
use Rattle.std.proofs.Common.{◌≡◌, ◌∙◌, refl, sym, ap, subst, ℕ, zero, suc, ◌+◌, ◌≤◌, ◌<◌, ◌==◌, ◌&&◌, nat_le, Bool, true, false, List, [], ◌∷◌, ◌++◌, Some, length, map, arith}
use Rattle.std.proofs.lemmas.Bool.{both_ways}
use Rattle.std.proofs.lemmas.Bool.Decides.{nat_tests}
use Rattle.std.proofs.lemmas.List.{map-append}
use Rattle.chart_lines.specs.ChartsWords.Chart.{Chart, NumbersRise}
use Rattle.chart_lines.specs.ChartsWords.Literals.{HaveLiteralTexts}
use Rattle.chart_lines.specs.declared.charts.statement.Field.{Field}
use Rattle.explain_ledgers.specs.declared.ledgers.account.Account.{Account}
use Rattle.explain_ledgers.specs.declared.ledgers.entry.Entry.{Entry}
use Rattle.proof_reports.specs.WiredPanels.CycleAsks.ChartAmounts.{amount_of}
use Rattle.chart_plans.specs.PlansWords.Plans.{Lists}
use Rattle.chart_plans.specs.declared.plans.counter.TotalCounter.{TotalCounter}
use Rattle.report_definition.specs.Breaks.{cleared, taking}
use Rattle.hubs.specs.SetupsWords.Wiring.{Wiring}
use Rattle.proof_cycles.proofs.TotalsWords.Levels.{lower_has, lower_less}
use Rattle.proof_cycles.specs.TotalsWords.Amounts.{Amount, lower}
use Rattle.explain_wheel_ledgers.specs.Totals.{account_of}
use Rattle.proof_reports.specs.WiredPanels.Groups.{IsCounterOf}
use Rattle.proof_reports.specs.WiredPanels.Panel.{IsPanel}
use Rattle.wiring_table.specs.Figures.{IsAmount}
use Rattle.proof_laws.proofs.LedgerAmounts.Shown.{has-ended, still-open}
use Rattle.proof_laws.proofs.LedgerAmounts.Told.{Follows, IsTold, told-ended, told-group, told-higher, told-lowest}
use Rattle.proof_laws.specs.LedgerAmounts.Postings.{Posting, card_posting, group_posting, posting_of}

-- A total of a chart, on a panel that is wired for the chart, and the account of the counter groups that serve it.
pub record Served : Type 0 where
  pub chart : Chart
  pub plan : Lists
  pub wiring : Wiring
  pub panel : IsPanel chart plan wiring
  pub rise : NumbersRise chart.lines chart.end
  pub literals : HaveLiteralTexts chart.lines
  pub name : List ℕ
  pub field : Field
  pub is_amount : IsAmount chart.lines name field
  pub level : ℕ
  pub some : 1 ≤ level
  pub most : level ≤ 4
  pub counter : TotalCounter
  pub own : IsCounterOf chart.lines plan name level counter
  pub account : Account
  pub told : account_of counter ≡ Some account
  pub has : (amount_of chart.lines plan name).has level ≡ true

abbrev pub amount : Served → Amount
amount total = amount_of total.chart.lines total.plan total.name

-- the level of its next lower total, or 0
abbrev pub under : Served → ℕ
under total = lower (amount total).has total.level

-- The entries of a ledger are what has come to the total.
pub record Listed (total : Served) (group inner seen : List (List ℕ)) (entries : List Entry) : Type 0 where
  pub postings : List Posting
  pub is_told : IsTold total.chart.lines total.field (under total) total.level group inner seen postings
  pub listed : map posting_of entries ≡ map Some postings

one-more : (entries : List Entry) (entry : Entry) (postings : List Posting) (posting : Posting)
    → map posting_of entries ≡ map Some postings → posting_of entry ≡ Some posting
    → map posting_of (entries ++ (entry ∷ [])) ≡ map Some (postings ++ (posting ∷ []))
one-more entries entry postings posting are is =
    map-append posting_of entries (entry ∷ [])
    ∙ (λ i. are i ++ (is i ∷ []))
    ∙ sym (map-append Some postings (posting ∷ []))

-- the next lower total is one of a lower level
pub under-less : (total : Served) → under total < total.level
under-less total = lower_less (amount total).has total.level total.some

pub under-has : (total : Served) → 1 ≤ under total → (amount total).has (under total) ≡ true
under-has total some = lower_has (amount total).has total.level some

not-zero : (n : ℕ) → (suc n == 0) ≡ false
not-zero n = grind (arith, nat_tests)

module _ (total : Served) where
  -- groups as others
  pub with-groups : (group other inner also seen : List (List ℕ)) (entries : List Entry) → group ≡ other → inner ≡ also
      → Listed total group inner seen entries → Listed total other also seen entries
  with-groups group other inner also seen entries same and_same listed =
      subst (λ g. Listed total g also seen entries) same (subst (λ h. Listed total group h seen entries) and_same listed)

  pub with-entries : (group inner seen : List (List ℕ)) (entries others : List Entry) → others ≡ entries
      → Listed total group inner seen entries → Listed total group inner seen others
  with-entries group inner seen entries others same listed = subst (Listed total group inner seen) (sym same) listed

  -- a card comes, where it is the lowest total
  pub card-comes : (so_far : ℕ → List (List ℕ)) (seen : List (List ℕ)) (card : List ℕ) (entries : List Entry) (entry : Entry)
      → (under total == 0) ≡ true → posting_of entry ≡ Some (card_posting total.field (length seen + 1) card)
      → Listed total (so_far total.level) (so_far (under total)) seen entries
      → Listed total (cleared 0 (taking card so_far) total.level) (cleared 0 (taking card so_far) (under total)) (seen ++ (card ∷ []))
      (entries ++ (entry ∷ []))
  card-comes so_far seen card entries entry lowest posts listed =
      let none : under total ≡ 0 = grind (arith, nat_tests, lowest) in
      let level = total.level in
      let told : IsTold total.chart.lines total.field 0 level (so_far level) (so_far (under total)) seen listed.postings
      = subst (λ (u : ℕ). IsTold total.chart.lines total.field u level (so_far level) (so_far (under total)) seen listed.postings)
      none listed.is_told in
      with-groups (so_far level ++ (card ∷ [])) (cleared 0 (taking card so_far) level) (cleared 0 (taking card so_far) (under total))
      (cleared 0 (taking card so_far) (under total)) (seen ++ (card ∷ [])) (entries ++ (entry ∷ []))
      (sym (still-open 0 (taking card so_far) level total.some)) refl
      (record {
        postings = listed.postings ++ (card_posting total.field (length seen + 1) card ∷ []);
        is_told = subst
            (λ (u : ℕ). IsTold total.chart.lines total.field u level (so_far level ++ (card ∷ [])) (cleared 0 (taking card so_far) (under total))
            (seen ++ (card ∷ [])) (listed.postings ++ (card_posting total.field (length seen + 1) card ∷ [])))
            (sym none)
            (told-lowest total.chart.lines total.field level (so_far level) (so_far (under total)) (cleared 0 (taking card so_far) (under total))
            seen card listed.postings told);
        listed = one-more entries entry listed.postings (card_posting total.field (length seen + 1) card) listed.listed posts;
      })

  -- and where it isn't
  pub card-passes : (so_far : ℕ → List (List ℕ)) (seen : List (List ℕ)) (card : List ℕ) (entries : List Entry)
      → (under total == 0) ≡ false → Follows total.chart.lines card so_far
      → Listed total (so_far total.level) (so_far (under total)) seen entries
      → Listed total (cleared 0 (taking card so_far) total.level) (cleared 0 (taking card so_far) (under total)) (seen ++ (card ∷ []))
      entries
  card-passes so_far seen card entries higher follows listed = by (under total) refl
    where
      by : (u : ℕ) → under total ≡ u
          → Listed total (cleared 0 (taking card so_far) total.level) (cleared 0 (taking card so_far) (under total)) (seen ++ (card ∷ [])) entries
      by zero is = absurd (grind (arith, nat_tests, higher, is))
      by (suc u) is =
          let less = under-less total in
          with-groups (so_far total.level ++ (card ∷ [])) (cleared 0 (taking card so_far) total.level) (so_far (under total) ++ (card ∷ []))
          (cleared 0 (taking card so_far) (under total)) (seen ++ (card ∷ [])) entries
          (sym (still-open 0 (taking card so_far) total.level total.some))
          (sym (still-open 0 (taking card so_far) (under total) (omega (arith, is))))
          (record {
            postings = listed.postings;
            is_told = subst
                (λ (n : ℕ). IsTold total.chart.lines total.field n total.level (so_far total.level ++ (card ∷ [])) (so_far n ++ (card ∷ []))
                (seen ++ (card ∷ [])) listed.postings) (sym is)
                (told-higher total.chart.lines total.field u total.level so_far seen card listed.postings (omega (arith, less, is)) total.most follows
                (subst (λ (n : ℕ). IsTold total.chart.lines total.field n total.level (so_far total.level) (so_far n) seen listed.postings) is
                listed.is_told));
            listed = listed.listed;
          })

  module _ (k : ℕ) (so_far : ℕ → List (List ℕ)) (card : List ℕ) (seen : List (List ℕ)) where
    abbrev groups : ℕ → List (List ℕ)
    groups = taking card so_far

    -- the group of the total's level ends
    pub group-ends : suc k ≡ total.level
        → Listed total (cleared (suc k) (taking card so_far) total.level) (cleared (suc k) (taking card so_far) (under total)) seen []
    group-ends same =
        let less = under-less total in
        with-groups [] (cleared (suc k) (taking card so_far) total.level) [] (cleared (suc k) (taking card so_far) (under total)) seen []
        (sym (has-ended (suc k) (taking card so_far) total.level (omega (arith, same))))
        (sym (has-ended (suc k) (taking card so_far) (under total) (omega (arith, same, less))))
        (record {
          postings = [];
          is_told = told-ended total.chart.lines total.field (under total) total.level seen;
          listed = refl;
        })

    -- the group of the next lower total ends, and its total comes
    pub total-comes : (entries : List Entry) (entry : Entry) → suc k ≡ under total
        → posting_of entry ≡ Some (group_posting total.field (suc k) (length seen) (taking card so_far (suc k)))
        → Listed total (cleared k (taking card so_far) total.level) (cleared k (taking card so_far) (under total)) seen entries
        → Listed total (cleared (suc k) (taking card so_far) total.level) (cleared (suc k) (taking card so_far) (under total)) seen
        (entries ++ (entry ∷ []))
    total-comes entries entry same posts listed =
        let less = under-less total in
        let level = total.level in
        let opens : cleared k (taking card so_far) (under total) ≡ so_far (suc k) ++ (card ∷ [])
        = still-open k (taking card so_far) (under total) (omega (arith, same)) ∙ ap (taking card so_far) (sym same) in
        let told : IsTold total.chart.lines total.field (suc k) level (cleared k (taking card so_far) level) (so_far (suc k) ++ (card ∷ [])) seen
        listed.postings
        = subst (λ (u : ℕ). IsTold total.chart.lines total.field u level (cleared k (taking card so_far) level) (so_far (suc k) ++ (card ∷ [])) seen
        listed.postings) (sym same)
        (subst (λ h. IsTold total.chart.lines total.field (under total) level (cleared k (taking card so_far) level) h seen listed.postings)
        opens listed.is_told) in
        with-groups (cleared k (taking card so_far) level) (cleared (suc k) (taking card so_far) level) []
        (cleared (suc k) (taking card so_far) (under total)) seen (entries ++ (entry ∷ []))
        (still-open k (taking card so_far) level (omega (arith, same, less))
        ∙ sym (still-open (suc k) (taking card so_far) level (omega (arith, same, less))))
        (sym (has-ended (suc k) (taking card so_far) (under total) (omega (arith, same))))
        (record {
          postings = listed.postings ++ (group_posting total.field (suc k) (length seen) (so_far (suc k) ++ (card ∷ [])) ∷ []);
          is_told = subst
              (λ (u : ℕ). IsTold total.chart.lines total.field u level (cleared k (taking card so_far) level) [] seen
              (listed.postings ++ (group_posting total.field (suc k) (length seen) (so_far (suc k) ++ (card ∷ [])) ∷ []))) same
              (told-group total.chart.lines total.field k level (cleared k (taking card so_far) level) (so_far (suc k)) card seen listed.postings told);
          listed = one-more entries entry listed.postings
              (group_posting total.field (suc k) (length seen) (so_far (suc k) ++ (card ∷ []))) listed.listed posts;
        })

    -- the group of another level ends
    same-cleared : (level : ℕ) → (level ≡ suc k → ⊥) → cleared (suc k) (taking card so_far) level ≡ cleared k (taking card so_far) level
    same-cleared level differs = by (nat_le level k) refl
      where
        by : (b : Bool) → nat_le level k ≡ b → cleared (suc k) (taking card so_far) level ≡ cleared k (taking card so_far) level
        by true low =
            has-ended (suc k) (taking card so_far) level (grind (arith, nat_tests, low))
            ∙ sym (has-ended k (taking card so_far) level (grind (arith, nat_tests, low)))
        by false high =
            let over : suc k ≤ level = grind (arith, nat_tests, high) in
            let above : suc k < level = apart level (suc k) over differs in
            still-open (suc k) (taking card so_far) level above
            ∙ sym (still-open k (taking card so_far) level (omega (arith, over)))
          where
            apart : (n m : ℕ) → m ≤ n → (n ≡ m → ⊥) → m < n
            apart n m from other = split (nat_le n m) refl
              where
                split : (b : Bool) → nat_le n m ≡ b → m < n
                split true is = absurd (other (grind (arith, nat_tests, is, from)))
                split false is = grind (arith, nat_tests, is)

    -- another group ends
    pub other-ends : (entries : List Entry) → (suc k == total.level) ≡ false
        → ((amount total).has (suc k) && (under total == suc k)) ≡ false
        → Listed total (cleared k (taking card so_far) total.level) (cleared k (taking card so_far) (under total)) seen entries
        → Listed total (cleared (suc k) (taking card so_far) total.level) (cleared (suc k) (taking card so_far) (under total)) seen entries
    other-ends entries not_own not_under listed =
        with-groups (cleared k (taking card so_far) total.level) (cleared (suc k) (taking card so_far) total.level)
        (cleared k (taking card so_far) (under total)) (cleared (suc k) (taking card so_far) (under total)) seen entries
        (sym (same-cleared total.level (λ same. differ (suc k) total.level not_own (sym same))))
        (sym (same-cleared (under total) (λ same. other (under-has total (omega (arith, same))) same))) listed
      where
        differ : (n m : ℕ) → (n == m) ≡ false → n ≡ m → ⊥
        differ n m is same = grind (arith, nat_tests, is, same)

        other : (amount total).has (under total) ≡ true → under total ≡ suc k → ⊥
        other there same =
            let here : (amount total).has (suc k) ≡ true = ap (amount total).has (sym same) ∙ there in
            let at : (under total == suc k) ≡ true = grind (arith, nat_tests, same) in
            both_ways ((amount total).has (suc k) && (under total == suc k)) not_under (λ i. here i && at i)
