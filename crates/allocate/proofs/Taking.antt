-- Totals that take their counters one after the other.
use Rattle.std.proofs.Common.{◌≡◌, ◌≢◌, refl, sym, ap, ◌∙◌, ⊎_elim, ℕ, zero, suc, ◌<◌, ◌≤◌, ◌+◌, eqb, arith}
use Rattle.std.proofs.Common.{Bool, true, false, ◌&&◌, List, replicate, [], ◌∷◌, length, set, map, ◌⊎◌, inl, inr, Option, Some, None}
use Rattle.std.proofs.Common.{MatchOption, below_more, unwrap_or, cond}
use Rattle.std.specs.Option.{is_some}
use Rattle.std.specs.List.{slice_get, sum_by}
use Rattle.std.proofs.lemmas.Bool.{false≢true, false_from_ne_true, eqb-true, eq-eqb, lt-ltb}
use Rattle.std.proofs.lemmas.Option.{get_or_from_slice_get, slice_get_within}
use Rattle.std.proofs.lemmas.Bool.Decides.{eqb_tells}
use Rattle.std.proofs.lemmas.List.{get_or-set_same, get_or-set_other, length-set, length-map, get_or-map}
use Rattle.capacity.specs.Capacities.{Capacities, groups_at_least}
use Rattle.capacity.specs.declared.group.CounterGroup.{CounterGroup}
use Rattle.allocate.specs.Groups.{total_at, counter_at, takes_before, TakesBefore, IsByRule, IsTakenBefore, Takes}
use Rattle.chart_plans.specs.PlansWords.Assignments.{IsAssignment}
use Rattle.chart_plans.specs.PlansWords.Counters.{IsGroupOf}
use Rattle.chart_plans.specs.declared.plans.counter.TotalCounter.{TotalCounter}
use Rattle.chart_plans.specs.declared.plans.counter.TotalCounter.TheVariants as of
use Rattle.chart_plans.specs.WantedWords.Totals.{NeedsFit, class_of}
use Rattle.allocate.specs.HelperCounters.{HasGroupsFor}
use Rattle.allocate.specs.HelperTaking.{taken_at, IsHeld, IsTaken, IsUsed, NoneWaitsBelow, IsNext, goes_first, AreAllTaken, AreTooFew}
use Rattle.chart_plans.specs.declared.wanted.total.Total.{Total}
use Rattle.allocate.proofs.Counting.{StandsFor, count-covers, count-covers_but}
use Rattle.allocate.proofs.GroupPlaces.{place_of, group_of, group_of-at, le-class_of, class_of-two}
use Rattle.allocate.proofs.Held.{lower_group, upper_group, shared-of, group-of-same, takes-same, takes-there, takes-free, takes-enough}
use Rattle.allocate.proofs.Assignments.{is_pair, own, rank, rank-below, wanted_at-class}
use Rattle.allocate.proofs.Orders.{takes_before-trans, takes_before-total, takes_before-self}

-- the next total that was found stays so where the one at the next place has a group or doesn't go before it
pub next-stays : (totals : List Total) (taken : List (Option TotalCounter)) (place : ℕ) (next : Option ℕ)
    → MatchOption next (NoneWaitsBelow place taken) (IsNext totals taken place)
    → (taken_at taken place ≡ None → goes_first totals place next ≡ false)
    → MatchOption next (NoneWaitsBelow (place + 1) taken) (IsNext totals taken (place + 1))
next-stays totals taken place None none later =
    below_more _ place none (λ waits. false≢true (sym (later waits)))
next-stays totals taken place (Some first) next later =
    let low : first < place = next.within in
    record {
      within = omega arith;
      waits = next.waits;
      first = below_more _ place next.first later;
    }

-- the total at the next place is the next where it waits and goes before the one that was found
pub next-moves : (totals : List Total) (taken : List (Option TotalCounter)) (place : ℕ) (next : Option ℕ)
    → MatchOption next (NoneWaitsBelow place taken) (IsNext totals taken place) → taken_at taken place ≡ None
    → goes_first totals place next ≡ true → IsNext totals taken (place + 1) place
next-moves totals taken place None none waits goes =
    record {
      within = omega arith;
      waits = waits;
      first =
          below_more _ place (λ other low lone. absurd (none other low lone)) (λ _. takes_before-self totals place);
    }
next-moves totals taken place (Some first) next waits goes =
    record {
      within = omega arith;
      waits = waits;
      first =
          below_more _ place
          (λ other low lone.
          false_from_ne_true (takes_before totals other place)
          (λ before.
          false≢true (sym (next.first other low lone) ∙ takes_before-trans totals other place first before goes)))
          (λ _. takes_before-self totals place);
    }

pub none-from : {X : Type 0} (o : Option X) → is_some o ≡ false → o ≡ None
none-from None is = refl
none-from (Some x) is = cc

pub some-waits : {X : Type 0} (o : Option X) → is_some o ≡ true → o ≢ None
some-waits None is waits = cc
some-waits (Some x) is waits = cc

-- a total that takes before the one at a place has the group so far
pub record IsTakenBy (totals : List Total) (taken : List (Option TotalCounter)) (place : ℕ) (group : CounterGroup) : Type 0 where
  pub earlier : ℕ
  pub before : TakesBefore totals earlier place
  pub held : IsHeld (taken_at taken earlier) group

-- Some totals have taken their counters by the rule, and each that goes before one of these has.
pub record IsPartly (totals : List Total) (machine : Capacities) (taken : List (Option TotalCounter)) : Type 0 where
  pub many : length taken ≡ length totals
  pub closed :
      (earlier place : ℕ) (counter : TotalCounter) → TakesBefore totals earlier place → taken_at taken place ≡ Some counter
      → taken_at taken earlier ≢ None
  pub chosen :
      (place : ℕ) (counter : TotalCounter) → taken_at taken place ≡ Some counter
      → Takes (total_at totals place).need machine (IsTakenBy totals taken place) counter

some_none : (counter : TotalCounter) → ◌≢◌ {A = Option TotalCounter} (Some counter) None
some_none counter same = cc

is_within : (taken : List (Option TotalCounter)) (k : ℕ) (counter : TotalCounter) → taken_at taken k ≡ Some counter
    → k < length taken
is_within [] k counter got = cc
is_within (slot ∷ taken) zero counter got = omega arith
is_within (slot ∷ taken) (suc k) counter got = let rest : k < length taken = is_within taken k counter got in omega arith

-- in a list of slots of which each waits, each waits
pub at_none : (count place : ℕ) → taken_at (replicate count None) place ≡ None
at_none zero place = refl
at_none (suc count) zero = refl
at_none (suc count) (suc place) = at_none count place

-- at first no total has a counter
pub partly-none : (totals : List Total) (machine : Capacities) (taken : List (Option TotalCounter))
    → length taken ≡ length totals → ((place : ℕ) → taken_at taken place ≡ None) → IsPartly totals machine taken
partly-none totals machine taken many none =
    record {
      many = many;
      closed = λ earlier place counter before got. absurd (some_none counter (sym got ∙ none place));
      chosen = λ place counter got. absurd (some_none counter (sym got ∙ none place));
    }

-- A total has this counter.
record HasTaken (taken : List (Option TotalCounter)) (place : ℕ) : Type 0 where
  pub counter : TotalCounter
  pub got : taken_at taken place ≡ Some counter

-- a total has a counter or waits for one
waits-or_has : (taken : List (Option TotalCounter)) (place : ℕ) → (taken_at taken place ≡ None) ⊎ HasTaken taken place
waits-or_has taken place = by (taken_at taken place) refl
  where
    by : (o : Option TotalCounter) → taken_at taken place ≡ o → (taken_at taken place ≡ None) ⊎ HasTaken taken place
    by None is = inl is
    by (Some counter) is = inr (record { counter = counter; got = is })

-- a total that holds a group has a counter
held-has : (taken : List (Option TotalCounter)) (place : ℕ) (group : CounterGroup) → IsHeld (taken_at taken place) group
    → (has : HasTaken taken place) × IsGroupOf has.counter group
held-has taken place group held = by (taken_at taken place) refl
  where
    by : (o : Option TotalCounter) → taken_at taken place ≡ o → (has : HasTaken taken place) × IsGroupOf has.counter group
    by None is = absurd (rw is at held)
    by (Some counter) is = (record { counter = counter; got = is }, rw is at held)

-- Where a total is next, those that have a counter are those that go before it.
has-before : (totals : List Total) (machine : Capacities) (taken : List (Option TotalCounter)) (place k : ℕ)
    (counter : TotalCounter) → IsPartly totals machine taken → IsNext totals taken (length totals) place
    → taken_at taken k ≡ Some counter → TakesBefore totals k place
has-before totals machine taken place k counter partly next got =
    let within : k < length totals = let low = is_within taken k counter got in let many = partly.many in omega arith in
    let apart : k ≢ place = λ same. some_none counter (sym got ∙ rw same next.waits) in
    ⊎_elim (λ before. (within, before))
    (λ before. absurd (partly.closed place k counter (next.within, before) got next.waits))
    (takes_before-total totals k place apart)

before-has : (totals : List Total) (taken : List (Option TotalCounter)) (place k : ℕ)
    → IsNext totals taken (length totals) place → TakesBefore totals k place → HasTaken taken k
before-has totals taken place k next before =
    ⊎_elim (λ waits. absurd (false≢true (sym (next.first k before.0 waits) ∙ before.1))) (λ has. has)
    (waits-or_has taken k)

-- a total more takes its counter
pub partly-more : (totals : List Total) (machine : Capacities) (taken : List (Option TotalCounter)) (place : ℕ)
    (counter : TotalCounter) → IsPartly totals machine taken → IsNext totals taken (length totals) place
    → Takes (total_at totals place).need machine (IsTaken taken) counter
    → IsPartly totals machine (set taken place (Some counter))
partly-more totals machine taken place counter partly next takes =
    record {
      many = length-set taken place (Some counter) ∙ partly.many;
      closed =
          λ earlier later c before got.
          ⊎_elim
          (λ same.
          let had = before-has totals taken place earlier next (rw same.1 at before) in
          λ none. some_none had.counter (sym (kept earlier had.counter had.got) ∙ none))
          (λ other.
          ⊎_elim
          (λ waits. absurd (partly.closed earlier later c before (sym (others later other.1) ∙ got) waits))
          (λ had. λ none. some_none had.counter (sym (kept earlier had.counter had.got) ∙ none))
          (waits-or_has taken earlier))
          (eqb_tells later place);
      chosen =
          λ later c got.
          ⊎_elim
          (λ same.
          let is : c ≡ counter = is_last c (rw same.1 at got) in
          rw (same.1, is) here)
          (λ other.
          let had : taken_at taken later ≡ Some c = sym (others later other.1) ∙ got in
          stays later c had)
          (eqb_tells later place);
    }
  where
    new : List (Option TotalCounter)
    new = set taken place (Some counter)

    is_last : (c : TotalCounter) → taken_at new place ≡ Some c → c ≡ counter
    is_last c got =
        let low : place < length taken = let within = next.within in let many = partly.many in omega arith in
        let last : taken_at new place ≡ Some counter =
        get_or-set_same taken place (Some counter) None low in
        let same : ◌≡◌ {A = Option TotalCounter} (Some c) (Some counter) = sym got ∙ last in
        cc

    others : (k : ℕ) → k ≢ place → taken_at new k ≡ taken_at taken k
    others k other = get_or-set_other taken place k (Some counter) None other

    kept : (k : ℕ) (c : TotalCounter) → taken_at taken k ≡ Some c → taken_at new k ≡ Some c
    kept k c got =
        let apart : k ≢ place = λ same. some_none c (sym got ∙ rw same next.waits) in others k apart ∙ got

    -- what is held stays held, and nothing more but by the total that is next
    keeps : (k : ℕ) (group : CounterGroup) → IsHeld (taken_at taken k) group → IsHeld (taken_at new k) group
    keeps k group held =
        let has = held-has taken k group held in rw (kept k has.0.counter has.0.got) has.1

    kept-back : (k : ℕ) (group : CounterGroup) → k ≢ place → IsHeld (taken_at new k) group → IsHeld (taken_at taken k) group
    kept-back k group apart held = rw (others k apart) at held

    here : Takes (total_at totals place).need machine (IsTakenBy totals new place) counter
    here =
        takes-same (total_at totals place).need machine (IsTaken taken) (IsTakenBy totals new place) counter
        (λ group is.
        let has = held-has taken is.place group is.held in
        record {
          earlier = is.place;
          before = has-before totals machine taken place is.place has.0.counter partly next has.0.got;
          held = keeps is.place group is.held;
        })
        (λ group by.
        let apart : by.earlier ≢ place = λ same. false≢true (sym (takes_before-self totals place) ∙ (rw same at by.before.1)) in
        record { place = by.earlier; held = kept-back by.earlier group apart by.held })
        takes

    stays : (later : ℕ) (c : TotalCounter) → taken_at taken later ≡ Some c
        → Takes (total_at totals later).need machine (IsTakenBy totals new later) c
    stays later c got =
        takes-same (total_at totals later).need machine (IsTakenBy totals taken later) (IsTakenBy totals new later) c
        (λ group by. record { earlier = by.earlier; before = by.before; held = keeps by.earlier group by.held })
        (λ group by.
        let apart : by.earlier ≢ place = λ same. partly.closed place later c (rw same at by.before) got next.waits in
        record { earlier = by.earlier; before = by.before; held = kept-back by.earlier group apart by.held })
        (partly.chosen later c got)

-- where the machine has groups enough, as many are free as the next total takes
pub enough_free : (totals : List Total) (machine : Capacities) (taken : List (Option TotalCounter)) (place : ℕ)
    → HasGroupsFor machine totals → IsPartly totals machine taken
    → IsNext totals taken (length totals) place → ¬ AreTooFew (total_at totals place).need machine taken
enough_free totals machine taken place enough partly next few = by few
  where
    need : ℕ
    need = (total_at totals place).need

    class : ℕ
    class = class_of need

    none : TotalCounter
    none = of.Single (record { width = 0; number = 0 })

    room : rank totals place + own totals place ≤ groups_at_least machine class
    room =
        let below = rank-below totals place next.within in
        let wanted = wanted_at-class totals machine need enough in
        omega (arith, below, wanted)

    before : ℕ → Bool
    before k = takes_before totals k place

    pair-before : ℕ → Bool
    pair-before k = is_pair totals k && takes_before totals k place

    lower_place : ℕ → ℕ
    lower_place k = place_of machine (lower_group (unwrap_or (taken_at taken k) none))

    upper_place : ℕ → ℕ
    upper_place k = place_of machine (upper_group (unwrap_or (taken_at taken k) none))

    -- a taken group stands where one of a total before stands
    stands : (v k : ℕ) (counter : TotalCounter) → taken_at taken k ≡ Some counter → IsGroupOf counter (group_of machine v)
        → place_of machine (group_of machine v) ≡ v → StandsFor before pair-before lower_place upper_place (length totals) v
    stands v k (of.Single group) got is there =
        let first = has-before totals machine taken place k (of.Single group) partly next got in
        let lower : lower_place k ≡ v =
        ap (λ o. place_of machine (lower_group (unwrap_or o none))) got ∙ ap (place_of machine) is ∙ there in
        inl (k, first.0, first.1, lower)
    stands v k (of.Coupled lower upper) got (inl is) there =
        let first = has-before totals machine taken place k (of.Coupled lower upper) partly next got in
        let here : lower_place k ≡ v =
        ap (λ o. place_of machine (lower_group (unwrap_or o none))) got ∙ ap (place_of machine) is ∙ there in
        inl (k, first.0, first.1, here)
    stands v k (of.Coupled lower upper) got (inr is) there =
        let first = has-before totals machine taken place k (of.Coupled lower upper) partly next got in
        let here : upper_place k ≡ v =
        ap (λ o. place_of machine (upper_group (unwrap_or o none))) got ∙ ap (place_of machine) is ∙ there in
        let two : is_pair totals k ≡ true = lt-ltb _ _ (partly.chosen k (of.Coupled lower upper) got).two in
        let passes : pair-before k ≡ true = ap (λ b. b && takes_before totals k place) two ∙ first.1 in
        inr (k, first.0, passes, here)

    used : (v : ℕ) (aside : Option CounterGroup) → place_of machine (group_of machine v) ≡ v → IsUsed taken aside (group_of machine v)
        → StandsFor before pair-before lower_place upper_place (length totals) v ⊎ (aside ≡ Some (group_of machine v))
    used v aside there (inl is) =
        let has = held-has taken is.place (group_of machine v) is.held in
        inl (stands v is.place has.0.counter has.0.got has.1 there)
    used v aside there (inr same) = inr same

    none-some : (group : CounterGroup) → ◌≢◌ {A = Option CounterGroup} None (Some group)
    none-some group same = cc

    -- where the group set aside stands
    spare : Option CounterGroup → ℕ
    spare aside = place_of machine (unwrap_or aside (record { width = 0; number = 0 }))

    one : need ≤ 8 → AreAllTaken need machine (IsUsed taken None) → groups_at_least machine class ≤ rank totals place
    one small all =
        count-covers before pair-before lower_place upper_place (length totals) (groups_at_least machine class)
        (λ v below.
        let at = group_of-at machine class v below in
        let needs = le-class_of need small in
        let wide : class ≤ (group_of machine v).width = at.enough in
        ⊎_elim (λ here. here) (λ same. absurd (none-some (group_of machine v) same))
        (used v None at.place_is (all (group_of machine v) at.has (omega (arith, needs, wide)))))

    two : 8 < need → (aside : Option CounterGroup) → AreAllTaken 8 machine (IsUsed taken aside)
        → groups_at_least machine class ≤ rank totals place + 1
    two large aside all =
        count-covers_but before pair-before lower_place upper_place (length totals) (groups_at_least machine class) (spare aside)
        (λ v below.
        let at = group_of-at machine class v below in
        let eight = class_of-two need large in
        let wide : class ≤ (group_of machine v).width = at.enough in
        ⊎_elim (λ here. inl here)
        (λ same. inr (sym at.place_is ∙ ap spare (sym same)))
        (used v aside at.place_is (all (group_of machine v) at.has (omega (arith, eight, wide)))))

    own-some : (pair : Bool) → 1 ≤ cond pair 2 1
    own-some true = omega arith
    own-some false = omega arith

    by : AreTooFew need machine taken → ⊥
    by (inl few) =
        let covered = one few.0 few.1 in let some = own-some (is_pair totals place) in omega (arith, covered, room, some)
    by (inr few) =
        let covered = two few.0 few.1 few.2 in
        let pair : is_pair totals place ≡ true = lt-ltb _ _ few.0 in
        let takes : own totals place ≡ 2 = ap (λ b. cond b 2 1) pair in
        omega (arith, covered, room, takes)

-- where each total has a counter, the counters are those of the rule
pub partly-all : (totals : List Total) (machine : Capacities) (taken : List (Option TotalCounter))
    (counters : List TotalCounter) → IsPartly totals machine taken → map Some counters ≡ taken
    → IsByRule totals machine counters
partly-all totals machine taken counters partly all =
    record {
      many = many;
      each =
          λ place within.
          takes-same (total_at totals place).need machine (IsTakenBy totals taken place) (IsTakenBefore totals counters place)
          (counter_at counters place)
          (λ group by. record {
            earlier = by.earlier;
            before = by.before;
            has = rw (got by.earlier by.before.0) at by.held;
          })
          (λ group by. record {
            earlier = by.earlier;
            before = by.before;
            held = rw (got by.earlier by.before.0) by.has;
          })
          (partly.chosen place (counter_at counters place) (got place within));
    }
  where
    many : length counters ≡ length totals
    many = sym (length-map counters Some) ∙ ap length all ∙ partly.many

    got : (k : ℕ) → k < length totals → taken_at taken k ≡ Some (counter_at counters k)
    got k within =
        let low : k < length counters = let all = many in omega arith in
        rw (← all) (get_or-map Some counters k (of.Single (record { width = 0; number = 0 })) None low)

-- how many totals wait for a counter
abbrev pub waiting : List (Option TotalCounter) → ℕ
waiting taken = sum_by (λ slot. cond (is_some slot) 0 1) taken

-- counters by the rule are the totals' own
pub IsAssignment-by_rule : (totals : List Total) (machine : Capacities) (counters : List TotalCounter) → NeedsFit totals
    → IsByRule totals machine counters → IsAssignment totals machine counters
IsAssignment-by_rule totals machine counters fit rule =
    record {
      many = rule.many;
      there =
          λ place counter got.
          rw (is place counter got) at
          (takes-there (total_at totals place).need machine (IsTakenBefore totals counters place) (counter_at counters place)
          (rule.each place (within place counter got)));
      enough =
          λ place total counter is_total got.
          rw (is place counter got, get_or_from_slice_get totals place total _ is_total) at
          (takes-enough (total_at totals place).need machine (IsTakenBefore totals counters place) (counter_at counters place)
          (fit place _ (within place counter got)) (rule.each place (within place counter got)));
      own =
          λ one other counter its_counter got_one got_other shared.
          let common = shared-of counter its_counter shared in
          same one other common.group (within one counter got_one) (within other its_counter got_other)
          (group-of-same counter (counter_at counters one) common.group (sym (is one counter got_one)) common.has)
          (group-of-same its_counter (counter_at counters other) common.group (sym (is other its_counter got_other)) common.also)
          (eqb one other) refl;
    }
  where
    within : (place : ℕ) (counter : TotalCounter) → slice_get counters place ≡ Some counter → place < length totals
    within place counter got =
        let low : place < length counters = slice_get_within counters place counter got in let many = rule.many in omega arith

    is : (place : ℕ) (counter : TotalCounter) → slice_get counters place ≡ Some counter → counter_at counters place ≡ counter
    is place counter got = get_or_from_slice_get counters place counter _ got

    apart : (one other : ℕ) (group : CounterGroup) → TakesBefore totals one other → other < length totals
        → IsGroupOf (counter_at counters one) group → IsGroupOf (counter_at counters other) group → ⊥
    apart one other group before low has also =
        takes-free (total_at totals other).need machine (IsTakenBefore totals counters other) (counter_at counters other) group
        (rule.each other low) also (record { earlier = one; before = before; has = has })

    same : (one other : ℕ) (group : CounterGroup) → one < length totals → other < length totals
        → IsGroupOf (counter_at counters one) group → IsGroupOf (counter_at counters other) group → (b : Bool) → eqb one other ≡ b
        → one ≡ other
    same one other group one_within other_within has also true e = eqb-true one other e
    same one other group one_within other_within has also false e =
        absurd
        (⊎_elim (λ before. apart one other group (one_within, before) other_within has also)
        (λ before. apart other one group (other_within, before) one_within also has)
        (takes_before-total totals one other (λ here. false≢true (sym e ∙ eq-eqb one other here))))
