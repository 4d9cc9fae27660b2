-- Where the counter groups are enough at each width, each total can have a counter of its own, and where they are not, not
-- all can.
use Rattle.std.proofs.Common.{◌≡◌, refl, sym, ap, ◌∙◌, ⊎_elim, ℕ, ◌+◌, ◌<◌, ◌≤◌, eqb, cond, arith}
use Rattle.std.proofs.Common.{Bool, true, false, ◌&&◌, List, [], ◌∷◌, length, get_or, map, ◌⊎◌, inl, inr, Some}
use Rattle.std.specs.List.{count_by, slice_get, range_with_len}
use Rattle.std.proofs.lemmas.Bool.Decides.{nat_tests}
use Rattle.std.proofs.lemmas.Bool.{and_parts, ltb-true, leb-true, le-leb, eqb-true, eq-eqb, false≢true}
use Rattle.std.proofs.lemmas.List.Elements.{All-cons, All-nil}
use Rattle.std.proofs.lemmas.Option.{get_or_from_slice_get, slice_get-get_or, slice_get_within}
use Rattle.std.proofs.lemmas.List.FromFn.{length-map-range_with_len, get_or-map-range_with_len}
use Rattle.capacity.specs.Capacities.{Capacities, widths, groups_of, groups_at_least, HasGroup, IsAtMost, standard}
use Rattle.capacity.specs.declared.group.CounterGroup.{CounterGroup}
use Rattle.chart_plans.specs.WantedWords.Totals.{NeedsFit, class_of, is_at_least, takes_two, wanted_at}
use Rattle.allocate.specs.HelperCounters.{HasGroupsFor}
use Rattle.chart_lines.specs.declared.charts.level.Level.TheVariants as level
use Rattle.allocate.specs.Groups.{total_at, counter_at, takes_before}
use Rattle.chart_plans.specs.PlansWords.Assignments.{IsAssignment}
use Rattle.chart_plans.specs.PlansWords.Counters.{HasCounter, IsEnoughFor, IsGroupOf}
use Rattle.chart_plans.specs.declared.plans.counter.TotalCounter.{TotalCounter}
use Rattle.chart_plans.specs.declared.plans.counter.TotalCounter.TheVariants as of
use Rattle.chart_plans.proofs.PlansWords.CounterGroups.{width-cases}
use Rattle.chart_plans.specs.declared.wanted.total.Total.{Total}
use Rattle.allocate.proofs.Counting.{count_below, count-mono, count-strict, count-apart, count_by-below}
use Rattle.allocate.proofs.Held.{lower_group, upper_group, has-lower, has-upper, shares, shared-of, group-of-same, of_class, two_groups}
use Rattle.allocate.proofs.Orders.{takes_before-trans, takes_before-total, takes_before-self, takes_before-need}
use Rattle.allocate.proofs.GroupPlaces.{place_of, group_of, wider, place_of-below, place_of-injective, group_of-at}
use Rattle.allocate.proofs.GroupPlaces.{le-class_of, class_of-mono, class_of-cases, class_of-two}

-- the counter groups are enough, from the four widths one by one
pub HasGroupsFor-from : (totals : List Total) (machine : Capacities) → ¬ (groups_at_least machine 8 < wanted_at 8 totals)
    → ¬ (groups_at_least machine 6 < wanted_at 6 totals) → ¬ (groups_at_least machine 4 < wanted_at 4 totals) → ¬ (groups_at_least machine 3 < wanted_at 3 totals)
    → HasGroupsFor machine totals
HasGroupsFor-from totals machine eight six four three =
    let P : ℕ → Type 0 = λ width. ¬ (groups_at_least machine width < wanted_at width totals) in
    All-cons P 8 (6 ∷ 4 ∷ 3 ∷ []) eight
    (All-cons P 6 (4 ∷ 3 ∷ []) six (All-cons P 4 (3 ∷ []) four (All-cons P 3 [] three (All-nil P))))

-- the totals of one class or a wider one are at most the groups of that width or a greater one
pub wanted_at-class : (totals : List Total) (machine : Capacities) (need : ℕ) → HasGroupsFor machine totals
    → wanted_at (class_of need) totals ≤ groups_at_least machine (class_of need)
wanted_at-class totals machine need enough =
    by (class_of need) (class_of-cases need)
  where
    not_over : (m n : ℕ) → ¬ (m < n) → n ≤ m
    not_over m n within = omega arith

    fits : (k : ℕ) → k < 4 → wanted_at (get_or widths k 0) totals ≤ groups_at_least machine (get_or widths k 0)
    fits k within = not_over _ _ (enough k 0 within)

    by : (width : ℕ) → (width ≡ 8) ⊎ (width ≡ 6) ⊎ (width ≡ 4) ⊎ (width ≡ 3)
        → wanted_at width totals ≤ groups_at_least machine width
    by width cases =
        ⊎_elim (λ eight. rw eight (fits 0 (omega arith)))
        (⊎_elim (λ six. rw six (fits 1 (omega arith)))
        (⊎_elim (λ four. rw four (fits 2 (omega arith))) (λ three. rw three (fits 3 (omega arith)))))
        cases

-- whether the total at a place has this class or a wider one
abbrev pub is_wide : List Total → ℕ → ℕ → Bool
is_wide totals width place = is_at_least width (total_at totals place).need

-- whether the total at a place takes two groups
abbrev pub is_pair : List Total → ℕ → Bool
is_pair totals place = takes_two (total_at totals place).need

-- how many groups the total at a place takes
abbrev pub own : List Total → ℕ → ℕ
own totals place = cond (is_pair totals place) 2 1

-- how many groups those totals take that pass a test
abbrev pub groups_where : List Total → (ℕ → Bool) → ℕ
groups_where totals test =
    count_below test (length totals) + count_below (λ place. is_pair totals place && test place) (length totals)

wanted_at-is : (totals : List Total) (width : ℕ) → wanted_at width totals ≡ groups_where totals (is_wide totals width)
unfolding wanted_at
wanted_at-is totals width =
    let none : Total = record { level = level.Minor; line = 0; need = 0 } in
    let first = count_by-below (λ (total : Total). is_at_least width total.need) totals none in
    let second = count_by-below (λ (total : Total). takes_two total.need && is_at_least width total.need) totals none in
    ap (λ n. n + count_by (λ (total : Total). takes_two total.need && is_at_least width total.need) totals) first ∙ ap (λ n. count_below (is_wide totals width) (length totals) + n) second

-- a total that passes one test and not another takes what the others leave
groups-more : (totals : List Total) (p q : ℕ → Bool) (i : ℕ) → i < length totals → ((k : ℕ) → p k ≡ true → q k ≡ true)
    → p i ≡ false → q i ≡ true → groups_where totals p + own totals i ≤ groups_where totals q
groups-more totals p q i within implies misses passes = by (is_pair totals i) refl
  where
    both : (ℕ → Bool) → ℕ → Bool
    both test place = is_pair totals place && test place

    and-mono : (a b c : Bool) → (b ≡ true → c ≡ true) → (a && b) ≡ true → (a && c) ≡ true
    and-mono true b c next is = next is
    and-mono false b c next is = cc

    and-false : (a b : Bool) → b ≡ false → (a && b) ≡ false
    and-false true b is = is
    and-false false b is = refl

    first : count_below p (length totals) < count_below q (length totals)
    first = count-strict p q (length totals) i (λ k _ is. implies k is) within misses passes

    by : (pair : Bool) → is_pair totals i ≡ pair
        → count_below p (length totals) + count_below (both p) (length totals) + cond pair 2 1
        ≤ count_below q (length totals) + count_below (both q) (length totals)
    by true is =
        let second = count-strict (both p) (both q) (length totals) i
        (λ k _ passed. and-mono (is_pair totals k) (p k) (q k) (implies k) passed) within
        (and-false (is_pair totals i) (p i) misses) (rw (is, passes) refl) in
        omega (arith, first, second)
    by false is =
        let second = count-mono (both p) (both q) (length totals)
        (λ k _ passed. and-mono (is_pair totals k) (p k) (q k) (implies k) passed) in
        omega (arith, first, second)

-- an assignment has no more groups of a class than the machine
pub none_where_over : (width : ℕ) (totals : List Total) (machine : Capacities) (counters : List TotalCounter)
    → groups_at_least machine width < wanted_at width totals → ¬ IsAssignment totals machine counters
none_where_over width totals machine counters over assigned =
    let count = wanted_at-is totals width in
    omega (arith, few, count, over)
  where
    got : (k : ℕ) → k < length totals → slice_get counters k ≡ Some (counter_at counters k)
    got k within = let low : k < length counters = let many = assigned.many in omega (arith, many, within) in slice_get-get_or counters k _ low

    listed : (k : ℕ) → k < length totals → slice_get totals k ≡ Some (total_at totals k)
    listed k within = slice_get-get_or totals k _ within

    has : (k : ℕ) (group : CounterGroup) → k < length totals → IsGroupOf (counter_at counters k) group → HasGroup machine group
    has k group within is =
        (of_class machine (total_at totals k).need (counter_at counters k) group (assigned.there k (counter_at counters k) (got k within))
        (assigned.enough k (total_at totals k) (counter_at counters k) (listed k within) (got k within)) is).has

    below : (k : ℕ) (group : CounterGroup) → k < length totals → is_wide totals width k ≡ true → IsGroupOf (counter_at counters k) group
        → place_of machine group < groups_at_least machine width
    below k group within wide is =
        let class = of_class machine (total_at totals k).need (counter_at counters k) group (assigned.there k (counter_at counters k) (got k within))
        (assigned.enough k (total_at totals k) (counter_at counters k) (listed k within) (got k within)) is in
        let enough = class.wide in
        let least : width ≤ class_of (total_at totals k).need = leb-true _ _ wide in
        place_of-below machine group width class.has (omega (arith, enough, least))

    single : (j k : ℕ) (one other : CounterGroup) → j < length totals → k < length totals → IsGroupOf (counter_at counters j) one
        → IsGroupOf (counter_at counters k) other → place_of machine one ≡ place_of machine other → j ≡ k
    single j k one other within its_within is its same =
        let groups : one ≡ other = place_of-injective machine one other (has j one within is) (has k other its_within its) same in
        assigned.own j k (counter_at counters j) (counter_at counters k) (got j within) (got k its_within)
        (shares (counter_at counters j) (counter_at counters k) other (rw groups at is) its)

    few : groups_where totals (is_wide totals width) ≤ groups_at_least machine width
    few =
        count-apart (is_wide totals width) (λ k. is_pair totals k && is_wide totals width k)
        (λ k. place_of machine (lower_group (counter_at counters k))) (λ k. place_of machine (upper_group (counter_at counters k)))
        (length totals) (groups_at_least machine width)
        (record {
          first_below = λ k within wide. below k (lower_group (counter_at counters k)) within wide (has-lower (counter_at counters k));
          second_below = λ k within both. below k (upper_group (counter_at counters k)) within (and_parts (is_pair totals k) (is_wide totals width k) both).1 (has-upper (counter_at counters k));
          first_single = λ j k within other _ _ same.
              single j k (lower_group (counter_at counters j)) (lower_group (counter_at counters k)) within other
              (has-lower (counter_at counters j)) (has-lower (counter_at counters k)) same;
          second_single = λ j k within other _ _ same.
              single j k (upper_group (counter_at counters j)) (upper_group (counter_at counters k)) within other
              (has-upper (counter_at counters j)) (has-upper (counter_at counters k)) same;
          apart = λ j k within other _ both same.
              let lower = lower_group (counter_at counters j) in
              let upper = upper_group (counter_at counters k) in
              let one : j ≡ k = single j k lower upper within other (has-lower (counter_at counters j)) (has-upper (counter_at counters k)) same in
              let groups : lower ≡ upper = place_of-injective machine lower upper
              (has j lower within (has-lower (counter_at counters j))) (has k upper other (has-upper (counter_at counters k))) same in
              let two : 8 < (total_at totals k).need = ltb-true 8 (total_at totals k).need (and_parts (is_pair totals k) (is_wide totals width k) both).0 in
              two_groups machine (total_at totals k).need (counter_at counters k) two (assigned.there k (counter_at counters k) (got k other))
              (assigned.enough k (total_at totals k) (counter_at counters k) (listed k other) (got k other))
              (ap (λ i. lower_group (counter_at counters i)) (sym one) ∙ groups);
        })

-- how many groups those totals take that go before the one at a place
abbrev pub rank : List Total → ℕ → ℕ
rank totals place = groups_where totals (λ earlier. takes_before totals earlier place)

-- a total that goes before another has fewer groups before it, by its own at least
pub rank-own : (totals : List Total) (i j : ℕ) → i < length totals → takes_before totals i j ≡ true
    → rank totals i + own totals i ≤ rank totals j
rank-own totals i j within before =
    groups-more totals (λ k. takes_before totals k i) (λ k. takes_before totals k j) i within
    (λ k earlier. takes_before-trans totals k i j earlier before) (takes_before-self totals i) before

own-some : (pair : Bool) → 1 ≤ cond pair 2 1
own-some true = omega arith
own-some false = omega arith

pub rank-before : (totals : List Total) (i j : ℕ) → i < length totals → takes_before totals i j ≡ true
    → rank totals i < rank totals j
rank-before totals i j within before =
    let more = rank-own totals i j within before in let some = own-some (is_pair totals i) in omega (arith, more, some)

-- those that go before one and itself take no more than are wanted of its class or a wider one
pub rank-below : (totals : List Total) (i : ℕ) → i < length totals
    → rank totals i + own totals i ≤ wanted_at (class_of (total_at totals i).need) totals
rank-below totals i within =
    rw (wanted_at-is totals (class_of (total_at totals i).need))
    (groups-more totals (λ k. takes_before totals k i) (is_wide totals (class_of (total_at totals i).need)) i within
    (λ k earlier. le-leb _ _ (class_of-mono _ _ (takes_before-need totals k i earlier)))
    (takes_before-self totals i) (le-leb _ _ (omega arith)))

-- the counter of one group of the row, or of two that follow one another there
abbrev pub counter_from : Capacities → Bool → ℕ → TotalCounter
counter_from machine true place = of.Coupled (group_of machine place) (group_of machine (place + 1))
counter_from machine false place = of.Single (group_of machine place)

-- the groups in the order in which totals are taken: the widest to those that are taken first
pub widest_first : List Total → Capacities → List TotalCounter
widest_first totals machine =
    map (λ place. counter_from machine (is_pair totals place) (rank totals place)) (range_with_len 0 (length totals))

widest_first-length : (totals : List Total) (machine : Capacities)
    → length (widest_first totals machine) ≡ length totals
unfolding widest_first
widest_first-length totals machine =
    length-map-range_with_len (λ place. counter_from machine (is_pair totals place) (rank totals place)) 0 _

-- each total of the list gets what stands at its rank
gets : (totals : List Total) (machine : Capacities) (place : ℕ) (counter : TotalCounter)
    → slice_get (widest_first totals machine) place ≡ Some counter
    → (place < length totals) × (counter ≡ counter_from machine (is_pair totals place) (rank totals place))
unfolding widest_first
gets totals machine place counter got =
    let within : place < length totals =
    let low : place < length (widest_first totals machine) = slice_get_within _ _ _ got in
    let many : length (widest_first totals machine) ≡ length totals = widest_first-length totals machine in
    omega (arith, low, many) in (
      within,
      sym (get_or_from_slice_get _ place counter (of.Single (record { width = 0; number = 0 })) got)
          ∙ get_or-map-range_with_len (λ place. counter_from machine (is_pair totals place) (rank totals place)) 0 (length totals) place place _
          within (omega arith),
    )

-- a group of those that stand in the row from a place on, as many as a total takes
record IsInRow (machine : Capacities) (place count : ℕ) (group : CounterGroup) : Type 0 where
  pub from : place ≤ place_of machine group
  pub to : place_of machine group < place + count

number-of : (machine : Capacities) (group : CounterGroup) (place : ℕ) → 1 ≤ group.number → group.width ≡ 8
    → place_of machine group ≡ place → group.number ≡ place + 1
number-of machine group place from width is =
    let none : wider machine group.width ≡ 0 = ap (wider machine) width in omega (arith, from, is, none)

-- what stands at a place among the groups of a need's class serves the need
module _ (totals : List Total) (machine : Capacities) (need place : ℕ) (fits : need ≤ 16) where
  in_row : (pair : Bool) → place + cond pair 2 1 ≤ groups_at_least machine (class_of need) → (group : CounterGroup)
      → IsGroupOf (counter_from machine pair place) group → IsInRow machine place (cond pair 2 1) group
  in_row false room group is =
      let at = (group_of-at machine (class_of need) place (omega (arith, room))).place_is in
      let here : place_of machine group ≡ place = ap (place_of machine) (sym is) ∙ at in
      record { from = omega (arith, here); to = omega (arith, here) }
  in_row true room group (inl is) =
      let at = (group_of-at machine (class_of need) place (omega (arith, room))).place_is in
      let here : place_of machine group ≡ place = ap (place_of machine) (sym is) ∙ at in
      record { from = omega (arith, here); to = omega (arith, here) }
  in_row true room group (inr is) =
      let at = (group_of-at machine (class_of need) (place + 1) (omega (arith, room))).place_is in
      let here : place_of machine group ≡ place + 1 = ap (place_of machine) (sym is) ∙ at in
      record { from = omega (arith, here); to = omega (arith, here) }

  row-has : (pair : Bool) → place + cond pair 2 1 ≤ groups_at_least machine (class_of need)
      → HasCounter machine (counter_from machine pair place)
  row-has false room = (group_of-at machine (class_of need) place (omega (arith, room))).has
  row-has true room = (
    (group_of-at machine (class_of need) place (omega (arith, room))).has,
    (group_of-at machine (class_of need) (place + 1) (omega (arith, room))).has,
  )

  eight : (group : CounterGroup) → 8 < need → HasGroup machine group → class_of need ≤ group.width → group.width ≡ 8
  eight group two has wide = by (width-cases machine group has)
    where
      class : class_of need ≡ 8
      class = class_of-two need two

      by : (group.width ≡ 8) ⊎ (group.width ≡ 6) ⊎ (group.width ≡ 4) ⊎ (group.width ≡ 3) → group.width ≡ 8
      by cases = grind (arith, nat_tests, cases, wide, class)

  row-enough : (pair : Bool) → takes_two need ≡ pair → place + cond pair 2 1 ≤ groups_at_least machine (class_of need)
      → IsEnoughFor need (counter_from machine pair place)
  row-enough false one room =
      let wide = (group_of-at machine (class_of need) place (omega (arith, room))).enough in
      let small : need ≤ 8 = grind (arith, nat_tests, one) in
      let class = le-class_of need small in
      omega (arith, wide, class)
  row-enough true is room =
      let two : 8 < need = ltb-true _ _ is in
      let first = group_of-at machine (class_of need) place (omega (arith, room)) in
      let second = group_of-at machine (class_of need) (place + 1) (omega (arith, room)) in
      let lower_width = eight (group_of machine place) two first.has first.enough in
      let upper_width = eight (group_of machine (place + 1)) two second.has second.enough in
      let lower_number = number-of machine (group_of machine place) place first.has.from lower_width first.place_is in
      let upper_number = number-of machine (group_of machine (place + 1)) (place + 1) second.has.from upper_width second.place_is in
      record {
        from = two;
        to = fits;
        lower_width = lower_width;
        upper_width = upper_width;
        order = omega (arith, lower_number, upper_number);
      }

-- where the groups are enough at each width, each total can have a counter of its own
pub widest_first-assigns : (totals : List Total) (machine : Capacities) → NeedsFit totals → HasGroupsFor machine totals
    → IsAssignment totals machine (widest_first totals machine)
widest_first-assigns totals machine fit enough =
    record {
      many = widest_first-length totals machine;
      there =
          λ place counter got.
          let at = gets totals machine place counter got in
          rw (sym at.1) at
          (row-has totals machine (total_at totals place).need (rank totals place) (fit place _ at.0) (is_pair totals place) (room place at.0));
      enough =
          λ place total counter is got.
          let at = gets totals machine place counter got in
          let same : total_at totals place ≡ total = get_or_from_slice_get totals place total _ is in
          let serves : IsEnoughFor (total_at totals place).need counter =
          rw (sym at.1) at
          (row-enough totals machine (total_at totals place).need (rank totals place) (fit place _ at.0) (is_pair totals place) refl (room place at.0)) in
          rw same at serves;
      own =
          λ one other counter its_counter is_one is_other shared.
          let first = gets totals machine one counter is_one in
          let second = gets totals machine other its_counter is_other in
          let common = shared-of counter its_counter shared in
          same one other first.0 second.0 common.group
          (in_row totals machine (total_at totals one).need (rank totals one) (fit one _ first.0) (is_pair totals one) (room one first.0) common.group
          (group-of-same counter (counter_from machine (is_pair totals one) (rank totals one)) common.group first.1 common.has))
          (in_row totals machine (total_at totals other).need (rank totals other) (fit other _ second.0) (is_pair totals other) (room other second.0)
          common.group (group-of-same its_counter (counter_from machine (is_pair totals other) (rank totals other)) common.group second.1 common.also))
          (eqb one other) refl;
    }
  where
    room : (place : ℕ) → place < length totals
        → rank totals place + own totals place ≤ groups_at_least machine (class_of (total_at totals place).need)
    room place within =
        let few = wanted_at-class totals machine (total_at totals place).need enough in
        let below = rank-below totals place within in
        omega (arith, few, below)

    apart : (i j : ℕ) → i < length totals → takes_before totals i j ≡ true → (group : CounterGroup)
        → IsInRow machine (rank totals i) (own totals i) group → IsInRow machine (rank totals j) (own totals j) group → ⊥
    apart i j within before group first second =
        let less = rank-own totals i j within before in let to = first.to in let from = second.from in
        omega (arith, less, to, from)

    same : (i j : ℕ) → i < length totals → j < length totals → (group : CounterGroup)
        → IsInRow machine (rank totals i) (own totals i) group → IsInRow machine (rank totals j) (own totals j) group
        → (b : Bool) → eqb i j ≡ b → i ≡ j
    same i j within other group first second true e = eqb-true i j e
    same i j within other group first second false e =
        absurd
        (⊎_elim (λ before. apart i j within before group first second) (λ before. apart j i other before group second first)
        (takes_before-total totals i j (λ here. false≢true (sym e ∙ eq-eqb i j here))))

-- an assignment on a machine is one on the standard machine, which has no less
pub IsAssignment-standard : (totals : List Total) (machine : Capacities) (counters : List TotalCounter)
    → IsAssignment totals machine counters → IsAtMost machine standard → IsAssignment totals standard counters
IsAssignment-standard totals machine counters assigned most =
    record {
      many = assigned.many;
      there = λ place counter got. has_counter counter (assigned.there place counter got);
      enough = assigned.enough;
      own = assigned.own;
    }
  where
    more : (width number : ℕ) → number ≤ groups_of machine width → number ≤ groups_of standard width
    more width number has =
        let threes = most.threes in let fours = most.fours in let sixes = most.sixes in let eights = most.eights in
        grind (arith, nat_tests)

    has_group : (group : CounterGroup) → HasGroup machine group → HasGroup standard group
    has_group group has = record { from = has.from; to = more group.width group.number has.to }

    has_counter : (counter : TotalCounter) → HasCounter machine counter → HasCounter standard counter
    has_counter (of.Single group) has = has_group group has
    has_counter (of.Coupled lower upper) has = (has_group lower has.0, has_group upper has.1)
