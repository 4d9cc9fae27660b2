-- A counter group whose exit emits at a row of a cycle was told to read out at its control point, and what its exits tell are the digits that it
-- held then.
use Rattle.std.proofs.Common.{◌≡◌, ◌∙◌, ◌⊎◌, inl, inr, refl, sym, ap, subst, ℕ, zero, suc, ◌+◌, ◌-◌, ◌<◌, ◌≤◌, ◌==◌, ◌&&◌, ◌||◌, ◌*◌, Bool, true, false, List, [], ◌∷◌, ◌++◌, Option, Some, None, map, length, get_or, Contains, if◌then◌else◌, decimal, arith}
use Rattle.std.specs.List.{flat_map, list_any, range_with_len}
use Rattle.std.proofs.lemmas.Bool.{cases_lt, false≢true}
use Rattle.std.proofs.lemmas.Bool.Decides.{nat_tests}
use Rattle.std.proofs.lemmas.List.{get_or-map, get_or_default}
use Rattle.std.proofs.lemmas.List.FromFn.{get_or-range_with_len}
use Rattle.std.proofs.lemmas.List.Elements.{All-get_or}
use Rattle.hubs.specs.HubTable.Places.{is_width, positions_before}
use Rattle.hubs.specs.HubTable.Ranges.{is_within}
use Rattle.card_code.specs.Rows.{row_number}
use Rattle.card_code.specs.declared.row.Row.{Row as CardRow}
use Rattle.card_code.specs.declared.row.Row.TheVariants.{Zero, One, Two, Three, Four, Five, Six, Seven, Eight, Nine, Eleven, Twelve}
use Rattle.explain_wheels.proofs.ExplanationsWords.ReadyRuns.{ready-before}
use Rattle.explain_wheels.specs.ExplanationsWords.PlacedInRun.{machine_before}
use Rattle.hubs.specs.Hubs.{number_of}
use Rattle.hubs.specs.declared.hub.Group.{Group}
use Rattle.hubs.specs.declared.hub.Hub.{Hub}
use Rattle.hubs.specs.declared.hub.Hub.TheVariants.{EM, GX, RO}
use Rattle.counters.specs.Counters.{Counter, counter_emits, counter_number, counter_sensed, shows}
use Rattle.counters.specs.Laws.{IsCounter, IsDigit}
use Rattle.net.specs.Panel.{unit_of}
use Rattle.print_unit.specs.Emitters.{emits_row, emitter_of}
use Rattle.machine.specs.Below.stations.Comparing.{Compared, comparing_emits}
use Rattle.machine.specs.Below.stations.Stations.{StationCards, stations_emits}
use Rattle.storage_units.specs.Storage.{StorageState, storage_emits}
use Rattle.machine.specs.Cycles.{PointStep, Reached, point_at}
use Rattle.machine.specs.Kept.{IsKept, KeepsPoints, kept_at}
use Rattle.machine.specs.Machine.{MachineState, closes, emits, group_units}
use Rattle.machine.specs.declared.kept.KeptPoint.{KeptPoint}
use Rattle.net.proofs.KindRows.{GX_numbered, numbered_in}
use Rattle.net.proofs.Rows.{is_hub-same}
use Rattle.net.specs.HubSets.{has_hub, is_hub, is_same_number}
use Rattle.net.specs.Impulsed.{IsPicture}
use Rattle.net.specs.declared.cycle.Cycle.{Cycle}
use Rattle.net.specs.declared.cycle.Cycle.TheVariants.{RunIn, Card, Prog, Head}
use Rattle.net.specs.declared.cycle.Point.{Point}
use Rattle.net.specs.declared.cycle.Point.TheVariants.{C, Row, K}
use Rattle.hubs.specs.SetupsWords.Wiring.{Wiring}
use Rattle.explain_words.specs.ExplanationText.Laws.{GroupsAreAsTold, IsReadOut}
use Rattle.explain_words.specs.ExplanationText.Notes.{digit_down, digit_in, digit_text, held_text}
use Rattle.explain_words.specs.ExplanationText.Text.{row_at}

-- What the points of a cycle make of counter groups: they keep their names and digits, and they are told to read out if their entries were
-- impulsed at the control point.
record Senses (wiring : Wiring) (cycle : Cycle) (old now : MachineState) : Type 0 where
  change : Counter → Counter
  groups : now.groups ≡ map change old.groups
  name : (group : Counter) → (change group).name ≡ group.name
  digits : (group : Counter) → (change group).digits ≡ group.digits
  picture : Hub → Bool
  is_picture : IsPicture wiring (emits old cycle C) (closes old cycle C) picture
  told : (group : Counter) → (change group).controls.read_out ≡ picture (RO group.name)

same-name : (group : Counter) (cycle : Cycle) (point : Point) (picture : Hub → Bool) → (counter_sensed group cycle point picture).name ≡ group.name
same-name group cycle C picture = refl
same-name group cycle (Row row) picture = refl
same-name group cycle K picture = refl

same-digits : (group : Counter) (cycle : Cycle) (point : Point) (picture : Hub → Bool)
    → (counter_sensed group cycle point picture).digits ≡ group.digits
same-digits group cycle C picture = refl
same-digits group cycle (Row row) picture = refl
same-digits group cycle K picture = refl

-- the points behind the control point
abbrev is_later : Point → Bool
is_later C = false
is_later (Row row) = true
is_later K = true

same-told : (group : Counter) (cycle : Cycle) (point : Point) (picture : Hub → Bool) → is_later point ≡ true
    → (counter_sensed group cycle point picture).controls.read_out ≡ group.controls.read_out
same-told group cycle C picture later = absurd (false≢true later)
same-told group cycle (Row row) picture later = refl
same-told group cycle K picture later = refl

later-points : (n : ℕ) → is_later (point_at (suc n)) ≡ true
later-points zero = refl
later-points (suc zero) = refl
later-points (suc (suc zero)) = refl
later-points (suc (suc (suc zero))) = refl
later-points (suc (suc (suc (suc zero)))) = refl
later-points (suc (suc (suc (suc (suc zero))))) = refl
later-points (suc (suc (suc (suc (suc (suc zero)))))) = refl
later-points (suc (suc (suc (suc (suc (suc (suc zero))))))) = refl
later-points (suc (suc (suc (suc (suc (suc (suc (suc zero)))))))) = refl
later-points (suc (suc (suc (suc (suc (suc (suc (suc (suc zero))))))))) = refl
later-points (suc (suc (suc (suc (suc (suc (suc (suc (suc (suc zero)))))))))) = refl
later-points (suc (suc (suc (suc (suc (suc (suc (suc (suc (suc (suc zero))))))))))) = refl
later-points (suc (suc (suc (suc (suc (suc (suc (suc (suc (suc (suc (suc zero)))))))))))) = refl
later-points (suc (suc (suc (suc (suc (suc (suc (suc (suc (suc (suc (suc (suc n))))))))))))) = refl

mapped : (f g : Counter → Counter) (groups : List Counter) → map f (map g groups) ≡ map (λ (c : Counter). f (g c)) groups
mapped f g [] = refl
mapped f g (group ∷ groups) = ap (λ (l : List Counter). f (g group) ∷ l) (mapped f g groups)

senses : (wiring : Wiring) (cycle : Cycle) (points : ℕ) (old now : MachineState) → Reached wiring cycle (suc points) old now
    → Senses wiring cycle old now
unfolding Reached
senses wiring cycle zero old now (mid, same, step) =
    let first : PointStep wiring cycle C old now = subst (λ (m : MachineState). PointStep wiring cycle C m now) same step in
    record {
      change = λ group. counter_sensed group cycle C first.picture;
      groups = ap (λ (m : MachineState). m.groups) first.is_new;
      name = λ group. refl;
      digits = λ group. refl;
      picture = first.picture;
      is_picture = first.is_picture;
      told = λ group. refl;
    }
senses wiring cycle (suc points) old now (mid, reached, step) =
    let before = senses wiring cycle points old mid reached in
    record {
      change = λ group. counter_sensed (before.change group) cycle (point_at (suc points)) step.picture;
      groups =
          ap (λ (m : MachineState). m.groups) step.is_new
          ∙ ap (map (λ (group : Counter). counter_sensed group cycle (point_at (suc points)) step.picture)) before.groups
          ∙ mapped (λ (group : Counter). counter_sensed group cycle (point_at (suc points)) step.picture) before.change old.groups;
      name = λ group. same-name (before.change group) cycle (point_at (suc points)) step.picture ∙ before.name group;
      digits = λ group. same-digits (before.change group) cycle (point_at (suc points)) step.picture ∙ before.digits group;
      picture = before.picture;
      is_picture = before.is_picture;
      told = λ group.
          same-told (before.change group) cycle (point_at (suc points)) step.picture (later-points points) ∙ before.told group;
    }

-- Counter groups alone emit at their exits.
no-stations : (cards : StationCards) (cycle : Cycle) (row : CardRow) (group : Group) (position : ℕ)
    → stations_emits cards cycle (Row row) (GX group position) ≡ false
no-stations cards RunIn row group position = refl
no-stations cards Card row group position = refl
no-stations cards (Prog level ordinal) row group position = refl
no-stations cards (Head heading) row group position = refl

no-comparing : (compared : Compared) (cycle : Cycle) (row : CardRow) (hub : Hub) → comparing_emits compared cycle (Row row) hub ≡ false
no-comparing compared RunIn row hub = refl
no-comparing compared other row hub = refl

no-storage : (cycle : Cycle) (row : CardRow) (group : Group) (position : ℕ) (storage : List StorageState)
    → list_any (λ (unit : StorageState). storage_emits unit cycle (Row row) (GX group position)) storage ≡ false
no-storage cycle row group position [] = refl
no-storage cycle row group position (unit ∷ others) = no-storage cycle row group position others

no-emitter : (emitter : Option ℕ) (row : CardRow) (group : Group) (position : ℕ) → emits_row emitter row (GX group position) ≡ false
no-emitter None row group position = refl
no-emitter (Some emitter) row group position = by (is_hub (EM emitter (row_number row)) (GX group position)) refl
  where
    by : (b : Bool) → is_hub (EM emitter (row_number row)) (GX group position) ≡ b → b ≡ false
    by true is = let same = is_hub-same (EM emitter (row_number row)) (GX group position) is in cc
    by false is = refl

alone : (b : Bool) → (false || false || b || false || false || false || false || false || false || false || false) ≡ b
alone true = refl
alone false = refl

groups-emit : (machine : MachineState) (cycle : Cycle) (row : CardRow) (group : Group) (position : ℕ)
    → emits machine cycle (Row row) (GX group position)
    ≡ list_any (λ (counter : Counter). counter_emits counter cycle (Row row) (GX group position)) machine.groups
groups-emit machine cycle row group position =
    (λ i. no-stations machine.stations cycle row group position i
    || no-comparing machine.comparing cycle row (GX group position) i
    || list_any (λ (counter : Counter). counter_emits counter cycle (Row row) (GX group position)) machine.groups
    || no-storage cycle row group position machine.storage i
    || false || false || false
    || no-emitter (emitter_of cycle) row group position i
    || false || false || false)
    ∙ alone (list_any (λ (counter : Counter). counter_emits counter cycle (Row row) (GX group position)) machine.groups)

-- by what the control point told them
any-changed : (test other : Counter → Bool) (change : Counter → Counter) → ((group : Counter) → test (change group) ≡ other group)
    → (groups : List Counter) → list_any test (map change groups) ≡ list_any other groups
any-changed test other change same [] = refl
any-changed test other change same (group ∷ groups) =
    let here = same group in let others = any-changed test other change same groups in λ i. here i || others i

abbrev reads : (Hub → Bool) → (given : ℕ) → Hub → Counter → Bool
reads picture given hub counter = picture (RO counter.name) && shows counter.name given counter.digits hub

read-emits : (wiring : Wiring) (cycle : Cycle) (old now : MachineState) (sensed : Senses wiring cycle old now) (row : CardRow) (group : Group)
    (position : ℕ)
    → emits now cycle (Row row) (GX group position) ≡ list_any (reads sensed.picture (row_number row) (GX group position)) old.groups
read-emits wiring cycle old now sensed row group position =
    groups-emit now cycle row group position
    ∙ ap (list_any (λ (counter : Counter). counter_emits counter cycle (Row row) (GX group position))) sensed.groups
    ∙ any-changed (λ (counter : Counter). counter_emits counter cycle (Row row) (GX group position))
    (reads sensed.picture (row_number row) (GX group position)) sensed.change
    (λ counter i. sensed.told counter i && shows (sensed.name counter i) (row_number row) (sensed.digits counter i) (GX group position))
    old.groups

-- what some group passes
any-some : (test : Counter → Bool) (groups : List Counter) → list_any test groups ≡ true
    → (counter : Counter) × Contains groups counter × (test counter ≡ true)
any-some test [] on = absurd (false≢true on)
any-some test (group ∷ groups) on = by (test group) refl on (any-some test groups)
  where
    by : (b : Bool) → test group ≡ b → (b || list_any test groups) ≡ true
        → (list_any test groups ≡ true → (counter : Counter) × Contains groups counter × (test counter ≡ true))
        → (counter : Counter) × Contains (group ∷ groups) counter × (test counter ≡ true)
    by true is on rest = (group, (0, omega arith, refl), is)
    by false is on rest =
        let (counter, (k, within, at), passes) = rest on in (counter, (suc k, omega (arith, within), at), passes)

-- if it is the only one, the test tells of it
any-one : (test : Counter → Bool) (own : Counter) (groups : List Counter) → Contains groups own
    → ((other : Counter) → Contains groups other → test other ≡ true → other ≡ own) → list_any test groups ≡ test own
any-one test own groups there alone = by (list_any test groups) (test own) refl refl
  where
    by : (a b : Bool) → list_any test groups ≡ a → test own ≡ b → a ≡ b
    by true true any is = refl
    by false false any is = refl
    by true false any is =
        let (counter, listed, passes) = any-some test groups any in
        absurd (false≢true (sym is ∙ ap test (sym (alone counter listed passes)) ∙ passes))
    by false true any is = absurd (false≢true (sym any ∙ passed groups there))
      where
        passed : (some : List Counter) → Contains some own → list_any test some ≡ true
        passed [] (k, within, at) = absurd (omega (arith, within))
        passed (group ∷ others) (zero, within, at) = ap (λ (b : Bool). b || list_any test others) (ap test at ∙ is)
        passed (group ∷ others) (suc k, within, at) = either (test group) (passed others (k, omega (arith, within), at))
          where
            either : (b : Bool) → list_any test others ≡ true → (b || list_any test others) ≡ true
            either true on = refl
            either false on = on

-- an exit that shows a digit is one of the group
shown-is : (name : Group) (given : ℕ) (digits : List ℕ) (hub : Hub) → shows name given digits hub ≡ true
    → (position : ℕ) × (GX name position ≡ hub)
shown-is name given [] hub on = absurd (false≢true on)
shown-is name given (digit ∷ below) hub on =
    by (digit == given) (is_hub (GX name (length below + 1)) hub) refl on (shown-is name given below hub)
  where
    by : (a b : Bool) → is_hub (GX name (length below + 1)) hub ≡ b → ((a && b) || shows name given below hub) ≡ true
        → (shows name given below hub ≡ true → (position : ℕ) × (GX name position ≡ hub)) → (position : ℕ) × (GX name position ≡ hub)
    by true true is on rest = (length below + 1, is_hub-same (GX name (length below + 1)) hub is)
    by true false is on rest = rest on
    by false b is on rest = rest on

same-group : (one other : Group) (position place : ℕ) → GX one position ≡ GX other place → one ≡ other
same-group one other position place same = cc

second : (a b : Bool) → (a && b) ≡ true → b ≡ true
second true b on = on
second false b on = absurd (false≢true on)

first : (a b : Bool) → (a && b) ≡ true → a ≡ true
first true b on = refl
first false b on = on

-- a group that is read at an exit of a group is that group
read-named : (picture : Hub → Bool) (given : ℕ) (group : Group) (position : ℕ) (counter : Counter)
    → reads picture given (GX group position) counter ≡ true → counter.name ≡ group
read-named picture given group position counter on =
    let (place, is) = shown-is counter.name given counter.digits (GX group position)
    (second (picture (RO counter.name)) (shows counter.name given counter.digits (GX group position)) on) in
    same-group counter.name group place position is

-- no two groups have one name
numbered-at : (groups : List Counter) (k : ℕ) (counter : Counter) → map counter_number groups ≡ group_units → k < length groups
    → get_or groups k counter ≡ counter → counter_number counter ≡ get_or group_units k (counter_number counter)
numbered-at groups k counter ordered within at =
    ap counter_number (sym at)
    ∙ sym (get_or-map counter_number groups k counter (counter_number counter) within)
    ∙ ap (λ (l : List ℕ). get_or l k (counter_number counter)) ordered

units-at : (k d : ℕ) → k < 32 → get_or group_units k d ≡ 3 + k
units-at k d low = get_or-range_with_len 3 32 k d low

one-named : (groups : List Counter) → map counter_number groups ≡ group_units → (one other : Counter) → Contains groups one
    → Contains groups other → one.name ≡ other.name → one ≡ other
one-named groups ordered one other (k, within, at) (j, below, is) same =
    let many : length groups ≡ 32 = sym (length-mapped groups) ∙ ap length ordered in
    let low : k < 32 = omega (arith, within, many) in
    let less : j < 32 = omega (arith, below, many) in
    let numbers : 3 + k ≡ 3 + j
    = sym (units-at k (counter_number one) low)
    ∙ sym (numbered-at groups k one ordered within at)
    ∙ ap unit_of same
    ∙ numbered-at groups j other ordered below is
    ∙ units-at j (counter_number other) less in
    let places : k ≡ j = omega (arith, numbers) in
    sym at ∙ ap (λ (n : ℕ). get_or groups n one) places ∙ any-default j below ∙ is
  where
    length-mapped : (some : List Counter) → length (map counter_number some) ≡ length some
    length-mapped [] = refl
    length-mapped (group ∷ others) = ap suc (length-mapped others)

    any-default : (n : ℕ) → n < length groups → get_or groups n one ≡ get_or groups n other
    any-default n small = get_or_default groups n one other small

-- whether two exits of a group are one, by their positions
same-exit : (name : Group) (one other : ℕ) → is_width name.width ≡ true → is_within name.number 8 ≡ true
    → 1 ≤ one → one ≤ name.width → 1 ≤ other → other ≤ name.width → is_hub (GX name one) (GX name other) ≡ (one == other)
same-exit name one other wide named from to least most =
    ap (λ m. is_same_number m (number_of (GX name other))) (GX_numbered name wide named one ∙ numbered_in start name.width one from to)
    ∙ ap (is_same_number (Some (start + one))) (GX_numbered name wide named other ∙ numbered_in start name.width other least most)
    ∙ shifted start one other
  where
    start : ℕ
    start = 190 + positions_before name.width + (name.number - 1) * name.width

    shifted : (n a b : ℕ) → (n + a == n + b) ≡ (a == b)
    shifted n a b = grind (arith, nat_tests)

-- above the positions of digits nothing is shown
shows-none : (name : Group) (given : ℕ) (digits : List ℕ) (position : ℕ) → is_width name.width ≡ true → is_within name.number 8 ≡ true
    → length digits < position → position ≤ name.width → shows name given digits (GX name position) ≡ false
shows-none name given [] position wide named above most = refl
shows-none name given (digit ∷ below) position wide named above most =
    let own : is_hub (GX name (length below + 1)) (GX name position) ≡ (length below + 1 == position)
    = same-exit name (length below + 1) position wide named (omega arith) (omega (arith, above, most)) (omega (arith, above)) most in
    let other : (length below + 1 == position) ≡ false = grind (arith, nat_tests, above) in
    by (digit == given) (own ∙ other) (shows-none name given below position wide named (omega (arith, above)) most)
  where
    by : (a : Bool) → is_hub (GX name (length below + 1)) (GX name position) ≡ false → shows name given below (GX name position) ≡ false
        → ((a && is_hub (GX name (length below + 1)) (GX name position)) || shows name given below (GX name position)) ≡ false
    by true off rest = (λ i. off i || rest i)
    by false off rest = rest

-- at a position the digit is shown that stands there
shows-digit : (name : Group) (given : ℕ) (digits : List ℕ) (position : ℕ) → is_width name.width ≡ true → is_within name.number 8 ≡ true
    → length digits ≤ name.width → 1 ≤ position → position ≤ length digits
    → shows name given digits (GX name position) ≡ (get_or digits (length digits - position) 0 == given)
shows-digit name given [] position wide named few from to = absurd (omega (arith, from, to))
shows-digit name given (digit ∷ below) position wide named few from to =
    by (cases_lt (length below) position) (shows-digit name given below position wide named (omega (arith, few)) from)
  where
    own : is_hub (GX name (length below + 1)) (GX name position) ≡ (length below + 1 == position)
    own = same-exit name (length below + 1) position wide named (omega arith) (omega (arith, few)) from (omega (arith, few, to))

    top : (a b c : Bool) → b ≡ true → c ≡ false → ((a && b) || c) ≡ a
    top true b c on off = (λ i. on i || off i)
    top false b c on off = off

    rest : (a b c : Bool) → b ≡ false → ((a && b) || c) ≡ c
    rest true b c off = ap (λ (x : Bool). x || c) off
    rest false b c off = refl

    by : (length below < position) ⊎ (position ≤ length below)
        → (position ≤ length below → shows name given below (GX name position) ≡ (get_or below (length below - position) 0 == given))
        → shows name given (digit ∷ below) (GX name position) ≡ (get_or (digit ∷ below) (suc (length below) - position) 0 == given)
    by (inl high) lower =
        let same : (length below + 1 == position) ≡ true = grind (arith, nat_tests, high, to) in
        let place : suc (length below) - position ≡ 0 = omega (arith, high) in
        top (digit == given) _ _ (own ∙ same) (shows-none name given below position wide named high (omega (arith, few, to)))
        ∙ ap (λ (k : ℕ). get_or (digit ∷ below) k 0 == given) (sym place)
    by (inr low) lower =
        let other : (length below + 1 == position) ≡ false = grind (arith, nat_tests, low) in
        let place : suc (length below) - position ≡ suc (length below - position) = omega (arith, low) in
        rest (digit == given) _ _ (own ∙ other)
        ∙ lower low
        ∙ ap (λ (k : ℕ). get_or (digit ∷ below) k 0 == given) (sym place)

-- the digit that a text has of an exit is that of the row at which the exit emitted
find-digit : (points : List KeptPoint) (exit : Hub) (digit left from : ℕ) → digit ≤ 9 → left + from ≡ 10 → from ≤ 9 - digit
    → ((place : ℕ) → place < 10 → has_hub (kept_at points (place + 1)).exits exit ≡ (digit == row_at place))
    → digit_in points exit (range_with_len from left) ≡ decimal digit
find-digit points exit digit zero from small all low tells = absurd (omega (arith, small, all, low))
find-digit points exit digit (suc left) from small all low tells =
    by (digit == row_at from) refl (tells from (omega (arith, all)))
    (λ later. find-digit points exit digit left (from + 1) small (omega (arith, all)) later tells)
  where
    row : row_at from ≡ 9 - from
    row = let below : from < 10 = omega (arith, all) in grind (arith, nat_tests, below)

    by : (b : Bool) → (digit == row_at from) ≡ b → has_hub (kept_at points (from + 1)).exits exit ≡ (digit == row_at from)
        → (from + 1 ≤ 9 - digit → digit_in points exit (range_with_len (from + 1) left) ≡ decimal digit)
        → (if has_hub (kept_at points (from + 1)).exits exit then decimal (row_at from) else digit_in points exit (range_with_len (from + 1) left))
        ≡ decimal digit
    by true is told rest =
        let same : row_at from ≡ digit = grind (arith, nat_tests, is) in
        ap (λ (b : Bool). if b then decimal (row_at from) else digit_in points exit (range_with_len (from + 1) left)) (told ∙ is)
        ∙ ap decimal same
    by false is told rest =
        let more : from + 1 ≤ 9 - digit = grind (arith, nat_tests, is, row, low, small, all) in
        ap (λ (b : Bool). if b then decimal (row_at from) else digit_in points exit (range_with_len (from + 1) left)) (told ∙ is)
        ∙ rest more

-- one text for each digit of a list
each-digit : (tell : ℕ → List ℕ) (digits : List ℕ) (from : ℕ)
    → ((k : ℕ) → k < length digits → tell (from + k) ≡ decimal (get_or digits k 0))
    → flat_map tell (range_with_len from (length digits)) ≡ flat_map decimal digits
each-digit tell [] from tells = refl
each-digit tell (digit ∷ others) from tells =
    let rest = each-digit tell others (from + 1)
    (λ k low. ap tell (next k) ∙ tells (suc k) (omega (arith, low))) in
    let first : tell from ≡ decimal digit = ap tell start ∙ tells 0 (omega arith) in
    (λ i. first i ++ rest i)
  where
    next : (k : ℕ) → from + 1 + k ≡ from + suc k
    next k = omega arith

    start : from ≡ from + 0
    start = omega arith

-- the row that passes at a place
record Passes (place : ℕ) : Type 0 where
  row : CardRow
  at : point_at (place + 1) ≡ Row row
  number : row_number row ≡ row_at place

passes : (place : ℕ) → place < 12 → Passes place
passes zero low = record { row = Nine; at = refl; number = refl }
passes (suc zero) low = record { row = Eight; at = refl; number = refl }
passes (suc (suc zero)) low = record { row = Seven; at = refl; number = refl }
passes (suc (suc (suc zero))) low = record { row = Six; at = refl; number = refl }
passes (suc (suc (suc (suc zero)))) low = record { row = Five; at = refl; number = refl }
passes (suc (suc (suc (suc (suc zero))))) low = record { row = Four; at = refl; number = refl }
passes (suc (suc (suc (suc (suc (suc zero)))))) low = record { row = Three; at = refl; number = refl }
passes (suc (suc (suc (suc (suc (suc (suc zero))))))) low = record { row = Two; at = refl; number = refl }
passes (suc (suc (suc (suc (suc (suc (suc (suc zero)))))))) low = record { row = One; at = refl; number = refl }
passes (suc (suc (suc (suc (suc (suc (suc (suc (suc zero))))))))) low = record { row = Zero; at = refl; number = refl }
passes (suc (suc (suc (suc (suc (suc (suc (suc (suc (suc zero)))))))))) low = record { row = Eleven; at = refl; number = refl }
passes (suc (suc (suc (suc (suc (suc (suc (suc (suc (suc (suc zero))))))))))) low = record { row = Twelve; at = refl; number = refl }
passes (suc (suc (suc (suc (suc (suc (suc (suc (suc (suc (suc (suc place)))))))))))) low = absurd (omega (arith, low))

-- Between two pictures of one point there is no difference.
one-picture : (wiring : Wiring) (exits closed : Hub → Bool) (one other : Hub → Bool) → IsPicture wiring exits closed one
    → IsPicture wiring exits closed other → (hub : Hub) → one hub ≡ other hub
one-picture wiring exits closed one other is also hub =
    by (one hub) (other hub) (λ on. (also hub).1 ((is hub).0 on)) (λ on. (is hub).1 ((also hub).0 on))
  where
    by : (a b : Bool) → (a ≡ true → b ≡ true) → (b ≡ true → a ≡ true) → a ≡ b
    by true b to from = sym (to refl)
    by false true to from = from refl
    by false false to from = refl

module _ (wiring : Wiring) (cycle : Cycle) (old : MachineState) (points : List KeptPoint) (keeps : KeepsPoints wiring cycle old 14 points) where
  -- what is kept of a row, of which the machine stands before it
  abbrev kept : (place : ℕ) → place < 12
      → (now : MachineState) × Reached wiring cycle (place + 1) old now × IsKept cycle (point_at (place + 1)) now (kept_at points (place + 1))
  kept place low = keeps (place + 1) (omega (arith, low))

  sensed-at : (place : ℕ) (low : place < 12) → Senses wiring cycle old (kept place low).0
  sensed-at place low =
      senses wiring cycle place old (kept place low).0
      (subst (λ (n : ℕ). Reached wiring cycle n old (kept place low).0) (plus place) (kept place low).1)
    where
      plus : (n : ℕ) → n + 1 ≡ suc n
      plus n = omega arith

  kept-emits : (place : ℕ) (low : place < 12) (group : Group) (position : ℕ)
      → has_hub (kept_at points (place + 1)).exits (GX group position)
      ≡ list_any (reads (sensed-at place low).picture (row_at place) (GX group position)) old.groups
  kept-emits place low group position =
      let at = passes place low in
      (kept place low).2.exits (GX group position)
      ∙ ap (λ (p : Point). emits (kept place low).0 cycle p (GX group position)) at.at
      ∙ read-emits wiring cycle old (kept place low).0 (sensed-at place low) at.row group position
      ∙ ap (λ (n : ℕ). list_any (reads (sensed-at place low).picture n (GX group position)) old.groups) at.number

  -- the digit that is told of a position of a group that is read out
  digit-told : map counter_number old.groups ≡ group_units → (place : ℕ) (low : place < 12) (own : Counter) → Contains old.groups own
      → IsCounter own → (sensed-at place low).picture (RO own.name) ≡ true → (down : ℕ) → down < length own.digits
      → digit_text points (GX own.name (own.name.width - down)) ≡ decimal (get_or own.digits down 0)
  unfolding digit_text
  digit-told ordered place low own listed lawful read down less =
      find-digit points (GX own.name (own.name.width - down)) (get_or own.digits down 0) 10 0 (All-get_or IsDigit own.digits down 0 less lawful.digits)
      refl (omega arith) tells
    where
      long : length own.digits ≡ own.name.width
      long = lawful.positions

      from : 1 ≤ own.name.width - down
      from = omega (arith, less, long)

      to : own.name.width - down ≤ length own.digits
      to = omega (arith, long)

      at : length own.digits - (own.name.width - down) ≡ down
      at = omega (arith, less, long)

      both : (a b c : Bool) → a ≡ true → b ≡ c → (a && b) ≡ c
      both true b c on same = same
      both false b c on same = absurd (false≢true on)

      shown : (given : ℕ) → shows own.name given own.digits (GX own.name (own.name.width - down)) ≡ (get_or own.digits down 0 == given)
      shown given =
          shows-digit own.name given own.digits (own.name.width - down) lawful.width lawful.named (omega (arith, long)) from to
          ∙ ap (λ (k : ℕ). get_or own.digits k 0 == given) at

      told : (row : ℕ) (under : row < 12) → (sensed-at row under).picture (RO own.name) ≡ true
      told row under =
          one-picture wiring (emits old cycle C) (closes old cycle C) (sensed-at row under).picture (sensed-at place low).picture
          (sensed-at row under).is_picture (sensed-at place low).is_picture (RO own.name)
          ∙ read

      tells : (row : ℕ) → row < 10
          → has_hub (kept_at points (row + 1)).exits (GX own.name (own.name.width - down)) ≡ (get_or own.digits down 0 == row_at row)
      tells row few =
          let under : row < 12 = omega (arith, few) in
          kept-emits row under own.name (own.name.width - down)
          ∙ any-one (reads (sensed-at row under).picture (row_at row) (GX own.name (own.name.width - down))) own old.groups listed
          (λ other there passes.
          one-named old.groups ordered other own there listed
          (read-named (sensed-at row under).picture (row_at row) own.name (own.name.width - down) other passes))
          ∙ both ((sensed-at row under).picture (RO own.name)) (shows own.name (row_at row) own.digits (GX own.name (own.name.width - down)))
          (get_or own.digits down 0 == row_at row) (told row under) (shown (row_at row))

pub groups-told : GroupsAreAsTold
groups-told wiring deck page line wheel told is place group position low on =
    let old = machine_before is.run in
    let between = (ready-before wiring deck told.cards told.cycle told.line is.run).between in
    let here = sensed-at wiring told.cycle old is.points is.kept place low in
    let (own, listed, passed) = any-some (reads here.picture (row_at place) (GX group position)) old.groups
    (sym (kept-emits wiring told.cycle old is.points is.kept place low group position) ∙ on) in
    let named : own.name ≡ group = read-named here.picture (row_at place) group position own passed in
    let read : here.picture (RO own.name) ≡ true
    = first (here.picture (RO own.name)) (shows own.name (row_at place) own.digits (GX group position)) passed in
    let lawful : IsCounter own = subst IsCounter listed.2 (between.groups listed.0 own listed.1).lawful in
    subst (λ (g : Group). IsReadOut wiring told.cycle old g (held_text is.points g)) named
    (record {
      counter = own;
      listed = listed;
      named = refl;
      digits =
          ap (λ (n : ℕ). flat_map (digit_down is.points own.name) (range_with_len 0 n)) (sym lawful.positions)
          ∙ each-digit (digit_down is.points own.name) own.digits 0
          (λ k less.
          ap (digit_down is.points own.name) (plus k)
          ∙ digit-told wiring told.cycle old is.points is.kept between.ordered place low own listed lawful read k less);
      told = (here.is_picture (RO own.name)).0 read;
    })
  where
    plus : (k : ℕ) → 0 + k ≡ k
    plus k = omega arith
