-- The stops of a tape, one by one and channel by channel.
use Rattle.std.proofs.Common.{◌≡◌, ℕ, ◌+◌, ◌<◌, ◌≤◌, ◌⊎◌, inl, inr, Bool, true, false, ◌||◌, ◌&&◌, nat_eq, List, [], length, get_or, refl, sym, ap, ◌∙◌, subst, arith}
use Rattle.std.proofs.lemmas.Bool.{cases_lt}
use Rattle.std.proofs.lemmas.Bool.Decides.{nat_tests}
use Rattle.std.proofs.lemmas.Option.{slice_get-get_or, get_or_from_slice_get}
use Rattle.std.specs.List.{All, Contains}
use Rattle.std.proofs.Math.Bool.{or-true}
use Rattle.chart_lines.specs.declared.charts.chart.Line.{Line}
use Rattle.hubs.specs.SetupsWords.Tapes.{AddsStop, CarriageTape, HasStops, has_stop}
use Rattle.wiring_table.specs.Below.report_definition.ChartForm.{form_of, stops_of}
use Rattle.wiring_lines.specs.JacksAndTape.HelperJacks.{HasTape, Punches, StopsBefore}
use Rattle.wiring_table.specs.WiredFor.{IsTapeOf}

-- what is read within a list doesn't hang on the value for what is past its end
read-alike : (xs : List ℕ) (k d e : ℕ) → k < length xs → get_or xs k d ≡ get_or xs k e
read-alike xs k d e less = get_or_from_slice_get xs k (get_or xs k e) d (slice_get-get_or xs k e less)

-- a stop of a channel among the first of some lines
abbrev pub Among : (channel : ℕ) → List ℕ → (index c line : ℕ) → Type 0
Among channel stops index c line = (c ≡ channel) × ((k : ℕ) × (k < index) × (get_or stops k line ≡ line))

pub punches-none : (channel : ℕ) (stops : List ℕ) {tape : CarriageTape} → Punches (Among channel stops 0) tape tape
punches-none channel stops {tape} = record {
  lines = refl;
  first = refl;
  overflow = refl;
  stops = λ c l. (λ has. inl has, λ either. elim either [ inl has ↦ has | inr one ↦ absurd (none c l one) ]);
}
  where
    none : (c l : ℕ) → Among channel stops 0 c l → ⊥
    none c l among = let less = among.1.1 in omega (arith, less)

pub punches-more : (channel index : ℕ) (stops : List ℕ) {old mid new : CarriageTape} → index < length stops
    → Punches (Among channel stops index) old mid → AddsStop mid new channel (get_or stops index 0)
    → Punches (Among channel stops (index + 1)) old new
punches-more channel index stops {old} {mid} {new} within so_far added = record {
  lines = added.lines ∙ so_far.lines;
  first = added.first ∙ so_far.first;
  overflow = added.overflow ∙ so_far.overflow;
  stops = λ c l. (
    λ has. onward c l (has_stop mid c l) (nat_eq c channel && nat_eq l (get_or stops index 0)) refl refl (sym (added.stops c l) ∙ has),
    back c l,
  );
}
  where
    onward : (c l : ℕ) (before here : Bool) → has_stop mid c l ≡ before
        → (nat_eq c channel && nat_eq l (get_or stops index 0)) ≡ here → (before || here) ≡ true
        → (has_stop old c l ≡ true) ⊎ Among channel stops (index + 1) c l
    onward c l true here e f is = elim ((so_far.stops c l).0 e) [
      | inl had ↦ inl had
      | inr among ↦ let less = among.1.1 in inr (among.0, (among.1.0, omega (arith, less), among.1.2))
    ]
    onward c l false true e f is =
        let same : c ≡ channel = grind (arith, nat_tests, f) in
        let line : l ≡ get_or stops index 0 = grind (arith, nat_tests, f) in
        inr (same, (index, omega arith, read-alike stops index l 0 within ∙ sym line))
    onward c l false false e f is = cc

    back : (c l : ℕ) → (has_stop old c l ≡ true) ⊎ Among channel stops (index + 1) c l → has_stop new c l ≡ true
    back c l (inl had) =
        added.stops c l ∙ ap (λ b. b || (nat_eq c channel && nat_eq l (get_or stops index 0))) ((so_far.stops c l).1 (inl had))
    back c l (inr among) = by (cases_lt among.1.0 index)
      where
        by : (among.1.0 < index) ⊎ (index ≤ among.1.0) → has_stop new c l ≡ true
        by (inl under) =
            added.stops c l
            ∙ ap (λ b. b || (nat_eq c channel && nat_eq l (get_or stops index 0)))
            ((so_far.stops c l).1 (inr (among.0, (among.1.0, under, among.1.2))))
        by (inr over) =
            let less = among.1.1 in
            let k : among.1.0 ≡ index = omega (arith, less, over) in
            let line : get_or stops index 0 ≡ l = read-alike stops index 0 l within ∙ ap (λ i. get_or stops i l) (sym k) ∙ among.1.2 in
            let here : (nat_eq c channel && nat_eq l (get_or stops index 0)) ≡ true = equal c channel l (get_or stops index 0) among.0 (sym line) in
            added.stops c l ∙ ap (λ b. has_stop mid c l || b) here ∙ or-true (has_stop mid c l)
          where
            equal : (a b d e : ℕ) → a ≡ b → d ≡ e → (nat_eq a b && nat_eq d e) ≡ true
            equal a b d e x y = grind (arith, nat_tests, x, y)

-- all stops of a channel
pub punches-all : (channel index : ℕ) (stops : List ℕ) {old new : CarriageTape} → Punches (Among channel stops index) old new
    → index ≡ length stops → Punches (λ c line. (c ≡ channel) × Contains stops line) old new
punches-all channel index stops {old} {new} added same =
    let P : ℕ → Type 0 = λ n. Punches (Among channel stops n) old new in
    subst P same added

-- the stops of no channel yet
pub channels-none : {lines : List Line} {tape : CarriageTape} → Punches (StopsBefore lines 2) tape tape
channels-none {lines} {tape} = record {
  lines = refl;
  first = refl;
  overflow = refl;
  stops = λ c l. (λ has. inl has, λ either. elim either [ inl has ↦ has | inr stop ↦ absurd (none c l stop) ]);
}
  where
    none : (c l : ℕ) → StopsBefore lines 2 c l → ⊥
    none c l stop = let from = stop.from in let less = stop.before in omega (arith, from, less)

-- those of one channel more
pub channels-more : (lines : List Line) (channel : ℕ) (stops : List ℕ) (old mid new : CarriageTape) → 2 ≤ channel
    → stops ≡ stops_of lines channel → Punches (StopsBefore lines channel) old mid
    → Punches (λ c line. (c ≡ channel) × Contains stops line) mid new → Punches (StopsBefore lines (channel + 1)) old new
channels-more lines channel stops old mid new from same so_far added = record {
  lines = added.lines ∙ so_far.lines;
  first = added.first ∙ so_far.first;
  overflow = added.overflow ∙ so_far.overflow;
  stops = λ c l. (λ has. onward c l ((added.stops c l).0 has), back c l);
}
  where
    onward : (c l : ℕ) → (has_stop mid c l ≡ true) ⊎ ((c ≡ channel) × Contains stops l)
        → (has_stop old c l ≡ true) ⊎ StopsBefore lines (channel + 1) c l
    onward c l (inl had) = elim ((so_far.stops c l).0 had) [
      | inl before ↦ inl before
      | inr stop ↦ let less = stop.before in inr (record { from = stop.from; before = omega (arith, less); listed = stop.listed })
    ]
    onward c l (inr one) =
        let P : List ℕ → Type 0 = λ xs. Contains xs l in
        let Q : ℕ → Type 0 = λ n. Contains (stops_of lines n) l in
        let e = one.0 in
        inr (record { from = omega (arith, from, e); before = omega (arith, e); listed = subst Q (sym e) (subst P same one.1) })

    back : (c l : ℕ) → (has_stop old c l ≡ true) ⊎ StopsBefore lines (channel + 1) c l → has_stop new c l ≡ true
    back c l (inl had) = (added.stops c l).1 (inl ((so_far.stops c l).1 (inl had)))
    back c l (inr stop) = by (cases_lt c channel)
      where
        by : (c < channel) ⊎ (channel ≤ c) → has_stop new c l ≡ true
        by (inl under) =
            (added.stops c l).1 (inl ((so_far.stops c l).1 (inr (record { from = stop.from; before = under; listed = stop.listed }))))
        by (inr over) =
            let less = stop.before in
            let e : c ≡ channel = omega (arith, less, over) in
            let P : List ℕ → Type 0 = λ xs. Contains xs l in
            let Q : ℕ → Type 0 = λ n. Contains (stops_of lines n) l in
            (added.stops c l).1 (inr (e, subst P (sym same) (subst Q e stop.listed)))

-- the stops of a channel are lines of the form
pub stops-within : (lines : List Line) (channel long : ℕ) (stops : List ℕ) → HasTape lines → stops ≡ stops_of lines channel
    → long ≡ (form_of lines).lines → All (λ line. (1 ≤ line) × (line ≤ long)) stops
stops-within lines channel long stops has same e = λ k d less. at k d less
  where
    at : (k d : ℕ) → k < length stops → (1 ≤ get_or stops k d) × (get_or stops k d ≤ long)
    at k d less =
        let P : List ℕ → Type 0 = λ xs. Contains xs (get_or stops k d) in
        let listed : Contains stops (get_or stops k d) = (k, less, read-alike stops k (get_or stops k d) d less) in
        let stop = has.stops channel (get_or stops k d) (subst P same listed) in
        let to = stop.line_to in
        (stop.line_from, omega (arith, to, e))

-- a tape with the stops of all channels is that of the chart
pub tape-whole : (lines : List Line) (bare tape : CarriageTape) (bound : ℕ) → HasTape lines → bare.lines ≡ (form_of lines).lines
    → bare.first ≡ (form_of lines).first → bare.overflow ≡ (form_of lines).overflow → HasStops bare []
    → Punches (StopsBefore lines bound) bare tape → bound ≡ 12 → IsTapeOf lines tape
tape-whole lines bare tape bound has long top full none punched twelve = record {
  form_lines = punched.lines ∙ long;
  first = punched.first ∙ top;
  overflow = punched.overflow ∙ full;
  stops = λ channel line. (
    λ there. elim ((punched.stops channel line).0 there) [
      | inl before ↦ absurd (nothing channel line before)
      | inr stop ↦ stop.listed
    ],
    λ listed. (punched.stops channel line).1 (inr (due channel line listed)),
  );
}
  where
    nothing : (channel line : ℕ) → has_stop bare channel line ≡ true → ⊥
    nothing channel line is = let some = (none channel line).0 is in omega (arith, some.1)

    due : (channel line : ℕ) → Contains (stops_of lines channel) line → StopsBefore lines bound channel line
    due channel line listed =
        let stop = has.stops channel line listed in
        let to = stop.channel_to in
        record { from = stop.channel_from; before = omega (arith, to, twelve); listed = listed }
