-- The carry wires of a chart: the panel can have each of them, and each two of them together.
use Rattle.std.proofs.Common.{◌≡◌, ◌∙◌, refl, sym, ap, subst, ℕ, ◌==◌, ◌&&◌, ◌||◌, Bool, true, false, is_some, List, Option, Some, None, inl, inr, option_map, option_and_then, arith}
use Rattle.std.proofs.lemmas.Bool.{and_parts}
use Rattle.std.proofs.lemmas.Bool.Decides.{nat_tests}
use Rattle.std.proofs.lemmas.Option.{same_Some}
use Rattle.wiring_table.specs.Below.capacity.declared.group.CounterGroup.{CounterGroup}
use Rattle.wiring_table.specs.Below.chart_lines.declared.charts.chart.Line.{Line}
use Rattle.wiring_table.specs.Below.chart_lines.declared.charts.statement.Statement.{Statement}
use Rattle.proof_cycles.specs.Below.hubs.Carries.{are_alike, do_groups_agree, do_wires_agree, is_one_group, keeps_carry, may_carry}
use Rattle.proof_cycles.specs.Below.hubs.Hubs.{carry_into, carry_out_of}
use Rattle.proof_cycles.specs.Below.hubs.declared.hub.Group.{Group}
use Rattle.proof_cycles.specs.Below.hubs.declared.hub.Hub.{Hub}
use Rattle.proof_cycles.specs.Below.hubs.declared.hub.Hub.TheVariants.{CI, CO}
use Rattle.wiring_table.specs.Below.chart_plans.PlansWords.Counters.{ServesAsPair, single_group}
use Rattle.wiring_table.specs.Below.chart_plans.PlansWords.Plans.{Lists, ServesChart}
use Rattle.wiring_table.specs.Below.chart_plans.declared.plans.counter.TotalCounter.TheVariants as of
use Rattle.wiring_table.specs.Below.hubs.SetupsWords.Wiring.{CanJoin, HasWire, Wiring}
use Rattle.proof_reports.proofs.WiredPanels.Chains.{ToCarry, carry_kept, from_itself, from_lower, from_upper, to_carry}
use Rattle.wiring_table.proofs.Groups.{is-served, serves-own, single-serves}
use Rattle.wiring_table.specs.Parts.{ServesTotal, counter_for, group_for, panel_group}
use Rattle.wiring_table.specs.Wires.{ChartWire, LineWire}

-- groups that are one, and groups that are not
one_own : (group : Group) → is_one_group group group ≡ true
one_own group = grind (arith, nat_tests)

one_same : (one other : Group) → is_one_group one other ≡ true → one ≡ other
one_same one other is =
    let parts = and_parts (one.width == other.width) (one.number == other.number) is in
    let widths : one.width ≡ other.width = grind (arith, nat_tests, parts.0) in
    let numbers : one.number ≡ other.number = grind (arith, nat_tests, parts.1) in
    ap (λ w. record { width = w; number = one.number }) widths ∙ ap (λ n. record { width = other.width; number = n }) numbers

not_one : (one other : Group) → (one ≡ other → ⊥) → is_one_group one other ≡ false
not_one one other apart = by (is_one_group one other) refl
  where
    by : (b : Bool) → is_one_group one other ≡ b → is_one_group one other ≡ false
    by true is = absurd (apart (one_same one other is))
    by false is = is

-- two pairs of tests that are the same
alike : {a b c d : Bool} → a ≡ b → c ≡ d → (are_alike a b && are_alike c d) ≡ true
alike {a} {b} {c} {d} e f = subst (λ x. (are_alike a x && are_alike c d) ≡ true) e (subst (λ y. (are_alike a a && are_alike c y) ≡ true) f (by a c))
  where
    by : (x y : Bool) → (are_alike x x && are_alike y y) ≡ true
    by true true = refl
    by true false = refl
    by false true = refl
    by false false = refl

-- the carry wires of a pair of groups
data OfPair (lower upper : CounterGroup) : Group → Hub → Type 0 where
  goes_up : OfPair lower upper (panel_group upper) (CO (panel_group lower))
  goes_round : OfPair lower upper (panel_group lower) (CO (panel_group upper))

module _ (lines : List Line) (plan : Lists) (planned : ServesChart lines plan) where
  -- the groups of a pair have 8 positions, and differ
  pair_serves : (number : ℕ) (lower upper : CounterGroup) → counter_for lines plan number ≡ Some (of.Coupled lower upper)
      → (need : ℕ) × ServesAsPair need lower upper
  pair_serves number lower upper there =
      let a = is-served lines plan number (of.Coupled lower upper) there in
      (a.total.need, planned.counters.enough a.place a.total (of.Coupled lower upper) a.is_total a.there)

  -- the two ends of a carry wire serve its total
  record Ends (number : ℕ) (group : Group) (exit : Hub) : Type 0 where
    from : Group
    is : exit ≡ CO from
    leaves : ServesTotal lines plan number from
    enters : ServesTotal lines plan number group

  ends : (number : ℕ) (group : Group) {exit : Hub} → ToCarry lines plan number group exit → Ends number group exit
  ends number group (from_itself name rule is signed) =
      let serves = single-serves lines plan number group is in
      record { from = group; is = refl; leaves = serves; enters = serves }
  ends number group (from_lower lower upper there same) = record {
    from = panel_group lower;
    is = refl;
    leaves = record { counter = of.Coupled lower upper; there = there; has = inl refl };
    enters = record { counter = of.Coupled lower upper; there = there; has = inr same };
  }
  ends number group (from_upper lower upper there same) = record {
    from = panel_group upper;
    is = refl;
    leaves = record { counter = of.Coupled lower upper; there = there; has = inr refl };
    enters = record { counter = of.Coupled lower upper; there = there; has = inl same };
  }

  -- the panel can have a carry wire of a chart
  carry_alone : (number : ℕ) (group : Group) {exit : Hub} → ToCarry lines plan number group exit → keeps_carry exit (CI group) ≡ true
  carry_alone number group (from_itself name rule is signed) =
      let one = one_own group in ap (λ b. b || ((group.width == 8) && (group.width == 8))) one
  carry_alone number group (from_lower lower upper there same) =
      subst (λ g. may_carry (Some (panel_group lower)) (Some g) ≡ true) same (wide number lower upper there)
    where
      wide : (n : ℕ) (low up : CounterGroup) → counter_for lines plan n ≡ Some (of.Coupled low up)
          → may_carry (Some (panel_group low)) (Some (panel_group up)) ≡ true
      wide n low up is =
          let (need, pair) = pair_serves n low up is in
          let a = pair.lower_width in
          let b = pair.upper_width in
          grind (arith, nat_tests, a, b)
  carry_alone number group (from_upper lower upper there same) =
      subst (λ g. may_carry (Some (panel_group upper)) (Some g) ≡ true) same (wide number lower upper there)
    where
      wide : (n : ℕ) (low up : CounterGroup) → counter_for lines plan n ≡ Some (of.Coupled low up)
          → may_carry (Some (panel_group up)) (Some (panel_group low)) ≡ true
      wide n low up is =
          let (need, pair) = pair_serves n low up is in
          let a = pair.lower_width in
          let b = pair.upper_width in
          grind (arith, nat_tests, a, b)

  -- those of different totals agree, as they have no group in common
  others_agree : (number other : ℕ) (group its : Group) {x y : Hub} → (number ≡ other → ⊥) → ToCarry lines plan number group x
      → ToCarry lines plan other its y → do_wires_agree x (CI group) y (CI its) ≡ true
  others_agree number other group its {x} {y} differ wire its_wire =
      subst (λ h. do_wires_agree h (CI group) y (CI its) ≡ true) (sym a.is)
      (subst (λ h. do_wires_agree (CO a.from) (CI group) h (CI its) ≡ true) (sym b.is)
      (alike (apart a.from b.from a.leaves b.leaves ∙ sym (apart group its a.enters b.enters))
      (apart group b.from a.enters b.leaves ∙ sym (apart a.from its a.leaves b.enters))))
    where
      a : Ends number group x
      a = ends number group wire

      b : Ends other its y
      b = ends other its its_wire

      apart : (one next : Group) → ServesTotal lines plan number one → ServesTotal lines plan other next → is_one_group one next ≡ false
      apart one next serves serves_too =
          not_one one next (λ same. differ (serves-own lines plan planned number other one serves
          (subst (ServesTotal lines plan other) (sym same) serves_too)))

  -- a carry wire of a total with two groups
  no_single : (number : ℕ) (group : Group) (lower upper : CounterGroup) → counter_for lines plan number ≡ Some (of.Coupled lower upper)
      → group_for lines plan number ≡ Some group → ⊥
  no_single number group lower upper there single =
      let none : group_for lines plan number ≡ None = ap (λ o. option_map panel_group (option_and_then single_group o)) there in
      let same = sym single ∙ none in
      cc

  of_pair : (number : ℕ) (lower upper : CounterGroup) {group : Group} {exit : Hub}
      → counter_for lines plan number ≡ Some (of.Coupled lower upper) → ToCarry lines plan number group exit
      → OfPair lower upper group exit
  of_pair number lower upper {group} there (from_itself name rule is signed) = absurd (no_single number group lower upper there is)
  of_pair number lower upper there (from_lower low up is same) =
      let pair : of.Coupled lower upper ≡ of.Coupled low up = same_Some (of.Coupled lower upper) (of.Coupled low up) (sym there ∙ is) in
      let lowers : lower ≡ low = cc in
      let uppers : upper ≡ up = cc in
      subst (λ g. OfPair lower upper g (CO (panel_group low))) same
      (subst (λ c. OfPair lower upper (panel_group up) (CO (panel_group c))) lowers
      (subst (λ c. OfPair lower upper (panel_group c) (CO (panel_group lower))) uppers goes_up))
  of_pair number lower upper there (from_upper low up is same) =
      let pair : of.Coupled lower upper ≡ of.Coupled low up = same_Some (of.Coupled lower upper) (of.Coupled low up) (sym there ∙ is) in
      let lowers : lower ≡ low = cc in
      let uppers : upper ≡ up = cc in
      subst (λ g. OfPair lower upper g (CO (panel_group up))) same
      (subst (λ c. OfPair lower upper (panel_group low) (CO (panel_group c))) uppers
      (subst (λ c. OfPair lower upper (panel_group c) (CO (panel_group upper))) lowers goes_round))

  pairs_agree : (number : ℕ) (lower upper : CounterGroup) {group its : Group} {x y : Hub}
      → counter_for lines plan number ≡ Some (of.Coupled lower upper) → OfPair lower upper group x → OfPair lower upper its y
      → do_wires_agree x (CI group) y (CI its) ≡ true
  pairs_agree number lower upper there wire its_wire = by wire its_wire
    where
      differ : is_one_group (panel_group lower) (panel_group upper) ≡ false
      differ =
          let (need, pair) = pair_serves number lower upper there in
          let order = pair.order in
          grind (arith, nat_tests, order)

      differ_too : is_one_group (panel_group upper) (panel_group lower) ≡ false
      differ_too =
          let (need, pair) = pair_serves number lower upper there in
          let order = pair.order in
          grind (arith, nat_tests, order)

      own : is_one_group (panel_group lower) (panel_group lower) ≡ true
      own = one_own (panel_group lower)

      own_too : is_one_group (panel_group upper) (panel_group upper) ≡ true
      own_too = one_own (panel_group upper)

      by : {g h : Group} {x y : Hub} → OfPair lower upper g x → OfPair lower upper h y → do_wires_agree x (CI g) y (CI h) ≡ true
      by goes_up goes_up = alike (own ∙ sym own_too) (differ_too ∙ sym differ)
      by goes_up goes_round = alike (differ ∙ sym differ_too) (own_too ∙ sym own)
      by goes_round goes_up = alike (differ_too ∙ sym differ) (own ∙ sym own_too)
      by goes_round goes_round = alike (own_too ∙ sym own) (differ ∙ sym differ_too)

  -- those of one total agree
  own_agree : (number : ℕ) (group its : Group) {x y : Hub} → ToCarry lines plan number group x → ToCarry lines plan number its y
      → do_wires_agree x (CI group) y (CI its) ≡ true
  own_agree number group its (from_lower lower upper there same) other =
      pairs_agree number lower upper there (of_pair number lower upper there (from_lower lower upper there same))
      (of_pair number lower upper there other)
  own_agree number group its (from_upper lower upper there same) other =
      pairs_agree number lower upper there (of_pair number lower upper there (from_upper lower upper there same))
      (of_pair number lower upper there other)
  own_agree number group its (from_itself name rule is signed) (from_itself its_name its_rule its_is its_signed) =
      alike {a = is_one_group group its} {c = is_one_group group its} refl refl
  own_agree number group its (from_itself name rule is signed) (from_lower lower upper there same) =
      absurd (no_single number group lower upper there is)
  own_agree number group its (from_itself name rule is signed) (from_upper lower upper there same) =
      absurd (no_single number group lower upper there is)

  carries_agree : (number other : ℕ) (group its : Group) {x y : Hub} → ToCarry lines plan number group x → ToCarry lines plan other its y
      → do_wires_agree x (CI group) y (CI its) ≡ true
  carries_agree number other group its {x} {y} wire its_wire = by (number == other) refl
    where
      by : (b : Bool) → (number == other) ≡ b → do_wires_agree x (CI group) y (CI its) ≡ true
      by true is =
          let same : other ≡ number = grind (arith, nat_tests, is) in
          own_agree number group its wire (subst (λ n. ToCarry lines plan n its y) same its_wire)
      by false is = others_agree number other group its (λ same. grind (arith, nat_tests, is, same)) wire its_wire

  -- an entry that a carry enters
  enters : (hub : Hub) (group : Group) → carry_into hub ≡ Some group → hub ≡ CI group
  enters (CI name) group is = let same : name ≡ group = cc in ap CI same
  enters other group is = cc

  no_entry : (a c d : Option Group) → do_groups_agree a None c d ≡ true
  no_entry None c d = refl
  no_entry (Some from) c d = refl

  no_last : (a b c : Option Group) → do_groups_agree a b c None ≡ true
  no_last None b c = refl
  no_last (Some from) None c = refl
  no_last (Some from) (Some to) None = refl
  no_last (Some from) (Some to) (Some other) = refl

  -- any two wires of a chart agree
  wires_agree : (number other : ℕ) {statement its : Statement} (exit entry its_exit its_entry : Hub)
      → LineWire lines plan number statement exit entry → LineWire lines plan other its its_exit its_entry
      → do_wires_agree exit entry its_exit its_entry ≡ true
  wires_agree number other {statement} {its} exit entry its_exit its_entry wire its_wire =
      by (carry_into entry) (carry_into its_entry) refl refl
    where
      by : (o p : Option Group) → carry_into entry ≡ o → carry_into its_entry ≡ p → do_wires_agree exit entry its_exit its_entry ≡ true
      by None p is its_is =
          ap (λ o. do_groups_agree (carry_out_of exit) o (carry_out_of its_exit) (carry_into its_entry)) is
          ∙ no_entry (carry_out_of exit) (carry_out_of its_exit) (carry_into its_entry)
      by (Some group) None is its_is =
          ap (do_groups_agree (carry_out_of exit) (carry_into entry) (carry_out_of its_exit)) its_is
          ∙ no_last (carry_out_of exit) (carry_into entry) (carry_out_of its_exit)
      by (Some group) (Some its_group) is its_is =
          let at = enters entry group is in
          let its_at = enters its_entry its_group its_is in
          subst (λ h. do_wires_agree exit h its_exit its_entry ≡ true) (sym at)
          (subst (λ h. do_wires_agree exit (CI group) its_exit h ≡ true) (sym its_at)
          (carries_agree number other group its_group
          (to_carry lines plan number (subst (LineWire lines plan number statement exit) at wire))
          (to_carry lines plan other (subst (LineWire lines plan other its its_exit) its_at its_wire))))

  -- and the panel can have each of them
  wire_alone : (number : ℕ) {statement : Statement} (exit entry : Hub) → LineWire lines plan number statement exit entry
      → keeps_carry exit entry ≡ true
  wire_alone number {statement} exit entry wire = by (carry_into entry) (carry_out_of exit) refl refl (carry_kept lines plan number wire)
    where
      by : (o p : Option Group) → carry_into entry ≡ o → carry_out_of exit ≡ p → is_some (carry_out_of exit) ≡ is_some (carry_into entry)
          → keeps_carry exit entry ≡ true
      by None None is from kept = ap (may_carry (carry_out_of exit)) is ∙ ap (λ p. may_carry p None) from
      by None (Some other) is from kept = let wrong = sym (ap is_some from) ∙ kept ∙ ap is_some is in cc
      by (Some group) p is from kept =
          let at = enters entry group is in
          subst (λ h. keeps_carry exit h ≡ true) (sym at)
          (carry_alone number group (to_carry lines plan number (subst (LineWire lines plan number statement exit) at wire)))

pub can-join : (lines : List Line) (plan : Lists) (wiring : Wiring) → ServesChart lines plan
    → ((exit entry : Hub) → HasWire wiring exit entry → ChartWire lines plan exit entry)
    → (exit entry : Hub) → ChartWire lines plan exit entry → CanJoin wiring exit entry
can-join lines plan wiring planned all exit entry wire = record {
  alone = wire_alone lines plan planned wire.line.number exit entry wire.wire;
  together = λ other next has.
      let there = all other next has in
      wires_agree lines plan planned wire.line.number there.line.number exit entry other next wire.wire there.wire;
}
