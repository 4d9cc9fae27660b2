-- A stop written into the rows of channels.
use Rattle.std.proofs.Common.{◌≡◌, ◌≢◌, refl, sym, subst, ap, ◌∙◌, ⊎_elim, ℕ, ◌<◌, zero, suc, eqb, arith, Contains}
use Rattle.std.proofs.Common.{Bool, true, false, not, ◌||◌, ◌&&◌, List, [], ◌∷◌, ◌++◌, length, get_or, set, take}
use Rattle.std.specs.List.{All, list_all}
use Rattle.std.proofs.lemmas.Bool.{and_parts, and_from, or_cases, or_left, or_right, eqb-true, eq-eqb}
use Rattle.std.proofs.lemmas.Bool.{both_ways, false_from_ne_true}
use Rattle.std.proofs.lemmas.List.{get_or_default, get_or-take, length-set, length-take}
use Rattle.std.proofs.lemmas.List.Elements.{All-from_get_or, All-get_or, All-push, Contains-get_or, Contains-append_left}
use Rattle.std.proofs.lemmas.List.Elements.{Contains-push, Contains-push_cases}
use Rattle.std.proofs.lemmas.List.Quantifiers.{all_pairs_push}
use Rattle.hubs.specs.SetupsWords.Tapes.{CarriageTape, has_stop, IsCarriageTape, IsStop, IsTape, HasStops, AddsStop}
use Rattle.std.proofs.lemmas.Grind.{common_steps}
use Rattle.std.proofs.lemmas.Bool.Decides.{nat_tests}

-- a row written back with a hole more
pub stops_after : (stops : List (List Bool)) (row : List Bool) (channel line c l : ℕ) → channel < length stops
    → get_or row l false ≡ (get_or (get_or stops channel []) l false || eqb l line)
    → get_or (get_or (set stops channel row) c []) l false
    ≡ (get_or (get_or stops c []) l false || (eqb c channel && eqb l line))
stops_after stops row channel line c l in_stops in_row = grind (arith, nat_tests, common_steps)

-- a row of no hole has none at any line
pub blank_row : (row : List Bool) → list_all not row ≡ true → (l : ℕ) → get_or row l false ≡ false
blank_row [] blank l = refl
blank_row (false ∷ row) blank zero = refl
blank_row (false ∷ row) blank (suc l) = blank_row row blank l
blank_row (true ∷ row) blank l = cc

-- rows without a hole have no stop
pub blank_rows : (rows : List (List Bool)) → list_all (list_all not) rows ≡ true → (c l : ℕ)
    → get_or (get_or rows c []) l false ≡ false
blank_rows [] blank c l = refl
blank_rows (row ∷ rows) blank zero l = blank_row row (and_parts _ _ blank).0 l
blank_rows (row ∷ rows) blank (suc c) l = blank_rows rows (and_parts _ _ blank).1 c l

-- the tape's stops are still exactly the holes, with one more on both sides
pub HasStops-push : (old new : CarriageTape) (holes : List (ℕ × ℕ)) (channel line : ℕ) → HasStops old holes
    → AddsStop old new channel line → HasStops new (holes ++ (channel, line) ∷ [])
HasStops-push old new holes channel line held adds c l = (listed, stands) where
  listed : has_stop new c l ≡ true → Contains (holes ++ (channel, line) ∷ []) (c, l)
  listed there =
      ⊎_elim
      (λ before. Contains-append_left holes _ _ ((held c l).0 before))
      (λ here.
      let same = and_parts _ _ here in
      rw (eqb-true c channel same.0, eqb-true l line same.1) (Contains-push holes (channel, line)))
      (or_cases (has_stop old c l) _ (sym (adds.stops c l) ∙ there))

  is_here : ◌≡◌ {A = ℕ × ℕ} (channel, line) (c, l) → (eqb c channel && eqb l line) ≡ true
  is_here same =
      and_from _ _ (eq-eqb c channel (sym (ap (λ (x : ℕ × ℕ). x.0) same)))
      (eq-eqb l line (sym (ap (λ (x : ℕ × ℕ). x.1) same)))

  stands : Contains (holes ++ (channel, line) ∷ []) (c, l) → has_stop new c l ≡ true
  stands there =
      ⊎_elim
      (λ before. adds.stops c l ∙ or_left _ _ ((held c l).1 before))
      (λ same. adds.stops c l ∙ or_right (has_stop old c l) _ (is_here same))
      (Contains-push_cases holes (channel, line) (c, l) there)

-- a stop of the form that is not there may join the stops of a tape
pub IsTape-push : (lines first overflow : ℕ) (form : CarriageTape) (holes : List (ℕ × ℕ)) (channel line : ℕ)
    → HasStops form holes → IsTape lines first overflow holes → IsStop lines channel line
    → has_stop form channel line ≡ false → IsTape lines first overflow (holes ++ (channel, line) ∷ [])
IsTape-push lines first overflow form holes channel line held tape stop free =
    record {
      formed = tape.formed;
      stops = All-push (λ (x : ℕ × ℕ). IsStop lines x.0 x.1) holes (channel, line) tape.stops stop;
      once =
          all_pairs_push (λ (one other : ℕ × ℕ). one ≢ other) holes (channel, line) tape.once
          (λ k d within same.
          both_ways (has_stop form channel line) free
          ((held channel line).1 (rw same at (Contains-get_or holes k d within))));
    }

-- a stop that a tape can't take spoils each list of stops that it stands in
pub refused : (lines first overflow : ℕ) (form : CarriageTape) (stops : List (ℕ × ℕ)) (i : ℕ) (d : ℕ × ℕ) → i < length stops
    → HasStops form (take i stops)
    → (IsStop lines (get_or stops i d).0 (get_or stops i d).1
    → has_stop form (get_or stops i d).0 (get_or stops i d).1 ≡ false → ⊥)
    → IsTape lines first overflow stops → ⊥
refused lines first overflow form stops i d within held unfit tape =
    let hole = get_or stops i d in
    unfit (tape.stops i d within)
    (false_from_ne_true (has_stop form hole.0 hole.1)
    (λ there.
    let before = (held hole.0 hole.1).0 there in
    let earlier : before.0 < i = omega (arith, before.1, length-take i stops) in
    tape.once before.0 i hole earlier within
    (sym (get_or-take i stops before.0 hole earlier) ∙ before.2 ∙ get_or_default stops i d hole within)))

-- a row written in the place of another keeps the places
lines-set : (stops : List (List Bool)) (row : List Bool) (channel : ℕ) → channel < length stops → length row ≡ 145
    → All (λ (r : List Bool). length r ≡ 145) stops → All (λ (r : List Bool). length r ≡ 145) (set stops channel row)
lines-set stops row channel within long all =
    All-from_get_or (λ (r : List Bool). length r ≡ 145) (set stops channel row) [] at
  where
    at : (k : ℕ) → k < length (set stops channel row) → length (get_or (set stops channel row) k []) ≡ 145
    at k in_set =
        let in_stops : k < length stops = subst (λ (n : ℕ). k < n) (length-set stops channel row) in_set in
        let kept : length (get_or stops k []) ≡ 145 = All-get_or (λ (r : List Bool). length r ≡ 145) stops k [] in_stops all in
        grind (arith, nat_tests, common_steps)

-- a stop punched into a tape leaves a tape
pub IsCarriageTape-punched : (form : CarriageTape) (row : List Bool) (channel line : ℕ) → IsCarriageTape form → IsStop form.lines channel line
    → length row ≡ 145 → ((l : ℕ) → get_or row l false ≡ (get_or (get_or form.stops channel []) l false || eqb l line))
    → IsCarriageTape
    (record { lines = form.lines; first = form.first; overflow = form.overflow; stops = set form.stops channel row })
IsCarriageTape-punched form row channel line is stop long in_row = record {
  formed = is.formed;
  places = record {
    channels = length-set form.stops channel row ∙ is.places.channels;
    lines = lines-set form.stops row channel within long is.places.lines;
  };
  stops = λ c l there.
      ⊎_elim
      (is.stops c l)
      (λ here.
      let same = and_parts _ _ here in
      rw (eqb-true c channel same.0, eqb-true l line same.1) stop)
      (or_cases (has_stop form c l) _ (sym (stops_after form.stops row channel line c l within (in_row l)) ∙ there));
} where
  within : channel < length form.stops
  within = omega (arith, stop.channel_to, is.places.channels)
