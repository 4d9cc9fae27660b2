-- The account that is told of a counter group is that of the total which the group serves.
use Rattle.std.proofs.Common.{◌≡◌, ◌∙◌, refl, sym, ap, subst, ℕ, zero, suc, ◌+◌, ◌-◌, ◌<◌, ◌==◌, ◌||◌, Bool, true, false, List, [], ◌∷◌, ◌++◌, ◌⊎◌, inl, inr, Option, Some, None, arith, if◌then◌else◌}
use Rattle.std.proofs.lemmas.Bool.{both_ways}
use Rattle.std.proofs.lemmas.Bool.Decides.{nat_tests}
use Rattle.std.proofs.lemmas.Option.{same_Some}
use Rattle.std.specs.List.{Contains}
use Rattle.std.specs.Prelude.{option_to_list}
use Rattle.chart_lines.proofs.ChartsWords.Listed.{listed-cases, listed-none}
use Rattle.chart_lines.specs.ChartsWords.Field.{decimals_of}
use Rattle.chart_lines.specs.declared.charts.chart.Line.{Line}
use Rattle.chart_lines.specs.declared.charts.statement.Field.{Field}
use Rattle.chart_lines.specs.declared.charts.statement.Statement.{Statement}
use Rattle.chart_lines.specs.declared.charts.statement.Statement.TheVariants as says
use Rattle.counters.proofs.ControlHubs.{unit_of-group_of_unit}
use Rattle.counters.proofs.Staying.{counters-stay}
use Rattle.counters.specs.Counters.{group_of_unit}
use Rattle.chart_line_rules.proofs.FieldRules.Places.{is_same_name-equal}
use Rattle.chart_line_rules.specs.FieldRules.Fields.{field_named}
use Rattle.hubs.specs.Carries.{is_one_group}
use Rattle.hubs.specs.declared.hub.Group.{Group}
use Rattle.explain_ledgers.specs.declared.ledgers.account.Account.{Account}
use Rattle.explain_ledgers.specs.declared.ledgers.account.Account.TheVariants.{One, Coupled}
use Rattle.net.specs.Panel.{unit_of}
use Rattle.proof_reports.proofs.WiredPanels.CycleAsks.WheelRowsUnits.{group-named}
use Rattle.chart_plans.specs.PlansWords.Plans.{Lists, ServesChart}
use Rattle.chart_plans.specs.declared.plans.counter.TotalCounter.{TotalCounter}
use Rattle.chart_plans.specs.declared.plans.counter.TotalCounter.TheVariants as of
use Rattle.hubs.proofs.SetupsWords.CarryWires.{one-own}
use Rattle.explain_wheel_ledgers.specs.Places.{place_below, place_of}
use Rattle.explain_wheel_ledgers.specs.ToldLedgers.{account_told}
use Rattle.explain_wheel_ledgers.specs.Totals.{account_of, both_account, find_total, has_place, one_account, titled, total_by, total_on, totals_in}
use Rattle.explain_wheel_ledgers.specs.declared.chart_totals.TitledAccount.{TitledAccount}
use Rattle.proof_cycles.proofs.WholeCycles.Places.{in_units, same_group}
use Rattle.proof_cycles.specs.WholeCycles.Units.{IsGroup}
use Rattle.proof_reports.specs.WiredPanels.Groups.{IsCounterOf}
use Rattle.wiring_table.proofs.Groups.{serves-own}
use Rattle.wiring_table.specs.Parts.{HasPanelGroup, counter_for, panel_group}
use Rattle.proof_laws.proofs.LedgerAmounts.Asked.{both-places, one-place}
use Rattle.proof_laws.proofs.LedgerAmounts.Groups.{found-place, same-numbers}
use Rattle.proof_laws.specs.LedgerAmounts.Found.{TotalsAreFound}

-- a group of the panel has a place
some-place : (count place : ℕ) (group : Group) → place < count → group_of_unit (3 + place) ≡ group
    → (found : ℕ) × (place_below count group ≡ Some found)
some-place zero place group less is = absurd (omega (arith, less))
some-place (suc count) place group less is =
    by (λ low. some-place count place group low is) (is_one_group (group_of_unit (3 + count)) group) refl
  where
    by : (place < count → (found : ℕ) × (place_below count group ≡ Some found)) → (b : Bool)
        → is_one_group (group_of_unit (3 + count)) group ≡ b
        → (found : ℕ) × ((if b then Some count else place_below count group) ≡ Some found)
    by lower true here = (count, refl)
    by lower false here = lower (apart (place == count) refl)
      where
        apart : (b : Bool) → (place == count) ≡ b → place < count
        apart false differs = grind (arith, nat_tests, differs, less)
        apart true same =
            let at : place ≡ count = grind (arith, nat_tests, same) in
            absurd (both_ways (is_one_group group group)
            (ap (λ (g : Group). is_one_group g group) (sym is ∙ ap (λ n. group_of_unit (3 + n)) at) ∙ here) (one-own group))

has-place : (group : Group) → IsGroup group → (place : ℕ) × (place_of group ≡ Some place)
has-place group is =
    let (low, high) = in_units group is in
    let lawful = counters-stay.start (unit_of group) low high in
    let same : group_of_unit (unit_of group) ≡ group
    = same_group (group_of_unit (unit_of group)) group (record { width = lawful.width; number = lawful.named }) is
    (unit_of-group_of_unit (unit_of group) low high) in
    let at : 3 + (unit_of group - 3) ≡ unit_of group = omega (arith, low) in
    some-place 32 (unit_of group - 3) group (omega (arith, low, high)) (ap group_of_unit at ∙ same)

-- groups of one place are one
one-group : (place : ℕ) (one other : Group) → place_of one ≡ Some place → place_of other ≡ Some place → one ≡ other
one-group place one other is also = sym (found-place 32 place one is).1 ∙ (found-place 32 place other also).1

either : (a b : Bool) → (a || b) ≡ true → (a ≡ true) ⊎ (b ≡ true)
either true b on = inl refl
either false b on = inr on

-- a place of an account is that of a group of its counter
pub group-at : (counter : TotalCounter) (account : Account) (place : ℕ) → account_of counter ≡ Some account → has_place account place ≡ true
    → (group : Group) × HasPanelGroup counter group × (place_of group ≡ Some place)
group-at (of.Single own) account place told has =
    let (at, placed, is) = one-place (place_of (panel_group own)) account told in
    let same : at ≡ place = same-numbers at place (ap (λ (a : Account). has_place a place) (sym is) ∙ has) in
    (panel_group own, refl, placed ∙ ap Some same)
group-at (of.Coupled lower upper) account place told has =
    let (high, low, placed, and_placed, is) = both-places (place_of (panel_group upper)) (place_of (panel_group lower)) account told in
    by high low placed and_placed (either (high == place) (low == place) (ap (λ (a : Account). has_place a place) (sym is) ∙ has))
  where
    by : (high low : ℕ) → place_of (panel_group upper) ≡ Some high → place_of (panel_group lower) ≡ Some low
        → ((high == place) ≡ true) ⊎ ((low == place) ≡ true)
        → (group : Group) × HasPanelGroup (of.Coupled lower upper) group × (place_of group ≡ Some place)
    by high low placed and_placed (inl same) = (panel_group upper, inr refl, placed ∙ ap Some (same-numbers high place same))
    by high low placed and_placed (inr same) = (panel_group lower, inl refl, and_placed ∙ ap Some (same-numbers low place same))

-- what is known of a total on a line that is told
record ToldOn (lines : List Line) (plan : Lists) (number : ℕ) (total : TitledAccount) : Type 0 where
  counter : TotalCounter
  served : counter_for lines plan number ≡ Some counter
  told : account_of counter ≡ Some total.account

told-on : (lines : List Line) (plan : Lists) (number : ℕ) (statement : Statement) (total : TitledAccount)
    → total_on lines plan number statement ≡ Some total → ToldOn lines plan number total
told-on lines plan number (says.TotalAmount asked) total is =
    by_counter (counter_for lines plan number) refl is
  where
    by_field : (counter : TotalCounter) (account : Account) → counter_for lines plan number ≡ Some counter → account_of counter ≡ Some account
        → (field : Option Field) → titled (Some account) field asked.name ≡ Some total → ToldOn lines plan number total
    by_field counter account served told None same = cc
    by_field counter account served told (Some field) same =
        let accounts : account ≡ total.account = ap (λ (t : TitledAccount). t.account) (same_Some _ total same) in
        record { counter = counter; served = served; told = told ∙ ap Some accounts }

    by_account : (counter : TotalCounter) → counter_for lines plan number ≡ Some counter → (account : Option Account)
        → account_of counter ≡ account → titled account (field_named lines asked.name) asked.name ≡ Some total → ToldOn lines plan number total
    by_account counter served None told same = cc
    by_account counter served (Some account) told same = by_field counter account served told (field_named lines asked.name) same

    by_counter : (counter : Option TotalCounter) → counter_for lines plan number ≡ counter → total_by lines counter asked.name ≡ Some total
        → ToldOn lines plan number total
    by_counter None served same = cc
    by_counter (Some counter) served same = by_account counter served (account_of counter) refl same
told-on lines plan number other total is = cc

module _ (lines : List Line) (plan : Lists) (planned : ServesChart lines plan) {name : List ℕ} {level : ℕ} {counter : TotalCounter}
    (own : IsCounterOf lines plan name level counter) (account : Account) (told : account_of counter ≡ Some account) (place : ℕ)
    (has : has_place account place ≡ true) where
  -- a total that is told of the place is told by the same account
  same-account : (number : ℕ) (statement : Statement) (total : TitledAccount) → total_on lines plan number statement ≡ Some total
      → has_place total.account place ≡ true → total.account ≡ account
  same-account number statement total is also =
      let on = told-on lines plan number statement total is in
      let (group, within, placed) = group-at counter account place told has in
      let (its, its_within, its_placed) = group-at on.counter total.account place on.told also in
      let groups : its ≡ group = one-group place its group its_placed placed in
      let numbers : number ≡ own.number
      = serves-own lines plan planned number own.number group
      (record { counter = on.counter; there = on.served; has = subst (HasPanelGroup on.counter) groups its_within })
      (record { counter = counter; there = own.served; has = within }) in
      let counters : on.counter ≡ counter
      = same_Some on.counter counter (sym on.served ∙ ap (counter_for lines plan) numbers ∙ own.served) in
      same_Some total.account account (sym on.told ∙ ap account_of counters ∙ told)

  -- the first total of some lines that is told of the place, if the own one is among them
  found-in : (some : List Line) (its : TitledAccount) (line : Line) → Contains some line
      → total_on lines plan line.number line.statement ≡ Some its → has_place its.account place ≡ true
      → account_told (find_total (totals_in lines plan some) place) place ≡ account
  found-in [] its line there is here = absurd (listed-none line there)
  found-in (first ∷ others) its line there is here =
      by (λ later. found-in others its line later is here) (total_on lines plan first.number first.statement) refl
      (listed-cases line first others there)
    where
      own_one : first ≡ line → total_on lines plan first.number first.statement ≡ Some its
      own_one same = ap (λ (l : Line). total_on lines plan l.number l.statement) same ∙ is

      by : (Contains others line → account_told (find_total (totals_in lines plan others) place) place ≡ account)
          → (o : Option TitledAccount) → total_on lines plan first.number first.statement ≡ o → (first ≡ line) ⊎ Contains others line
          → account_told (find_total (option_to_list o ++ totals_in lines plan others) place) place ≡ account
      by rest None none (inl same) = let both : None ≡ Some its = sym none ∙ own_one same in cc
      by rest None none (inr later) = rest later
      by rest (Some total) some at = split (has_place total.account place) refl at
        where
          split : (b : Bool) → has_place total.account place ≡ b → (first ≡ line) ⊎ Contains others line
              → account_told (if b then Some total else find_total (totals_in lines plan others) place) place ≡ account
          split true found at = same-account first.number first.statement total some found
          split false other (inr later) = rest later
          split false other (inl same) =
              let one : its ≡ total = same_Some its total (sym (own_one same) ∙ some) in
              absurd (both_ways (has_place its.account place) (ap (λ (t : TitledAccount). has_place t.account place) one ∙ other) here)

-- the account of a counter
account-there : (lines : List Line) (plan : Lists) → ServesChart lines plan → (name : List ℕ) (level : ℕ) (counter : TotalCounter)
    → IsCounterOf lines plan name level counter → (account : Account) × (account_of counter ≡ Some account)
account-there lines plan planned name level (of.Single group) own =
    let its = group-named lines plan own.number (panel_group group) planned
    (record { counter = of.Single group; there = own.served; has = refl }) in
    let (place, placed) = has-place (panel_group group) its in
    (One place, ap one_account placed)
account-there lines plan planned name level (of.Coupled lower upper) own =
    let above = group-named lines plan own.number (panel_group upper) planned
    (record { counter = of.Coupled lower upper; there = own.served; has = inr refl }) in
    let below = group-named lines plan own.number (panel_group lower) planned
    (record { counter = of.Coupled lower upper; there = own.served; has = inl refl }) in
    let (high, placed) = has-place (panel_group upper) above in
    let (low, and_placed) = has-place (panel_group lower) below in
    (Coupled high low, (λ i. both_account (placed i) (and_placed i)))

pub totals-found : TotalsAreFound
totals-found lines plan name field level counter planned amount own =
    let (account, told) = account-there lines plan planned name level counter own in
    (account, told, λ place has. found account told place has)
  where
    found : (account : Account) → account_of counter ≡ Some account → (place : ℕ) → has_place account place ≡ true
        → account_told (find_total (totals_in lines plan lines) place) place ≡ account
    found account told place has =
        let total = own.total in
        let its : TitledAccount = record { account = account; title = record { name = total.asked.name; decimals = decimals_of field.kind } } in
        let named : field_named lines total.asked.name ≡ Some field
        = ap (field_named lines) (is_same_name-equal total.asked.name name total.same_name) ∙ amount.named in
        let served : counter_for lines plan total.line.number ≡ Some counter = ap (counter_for lines plan) total.is_number ∙ own.served in
        found-in lines plan planned own account told place has lines its total.line total.listed
        (ap (total_on lines plan total.line.number) total.says_total
        ∙ ap (λ (o : Option TotalCounter). total_by lines o total.asked.name) served
        ∙ (λ i. titled (told i) (named i) total.asked.name))
        has
