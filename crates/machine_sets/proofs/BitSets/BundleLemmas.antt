-- Runs of wires beside the rows.
use Rattle.std.proofs.Common.{suc, ⊎_elim, ◌⊎◌, inl, inr, ◌≡◌, ℕ, ◌+◌, ◌-◌, ◌*◌, ◌^◌, ◌<◌, ◌≤◌, ◌∙◌, sym, ap, refl, arith, Bool, true, false, not, ◌&&◌, ◌||◌, List, [], ◌∷◌, length, slice_index_or, drop, add-one}
use Rattle.std.proofs.Math.Seq.{drop-cons}
use Rattle.std.proofs.lemmas.Grind.{common_steps}
use Rattle.std.specs.Prelude.{nat_le, nat_lt, ◌==◌, All}
use Rattle.std.specs.Int.Bits.{bit_and}
use Rattle.std.proofs.lemmas.Bool.Decides.{nat_tests}
use Rattle.std.proofs.lemmas.Bool.{cases_eq, cases_lt, false≢true, eqb-true, ltb-true, leb-true, and_from, and_parts, or_right, or_left, or_cases, eq-eqb}
use Rattle.std.proofs.Math.Bool.{and-false, or-false}
use Rattle.machine_sets.specs.BitSets.Bits.{is_bit, has_place, is_in_run}
use Rattle.machine_sets.specs.BitSets.Bundles.{follows_run, follows, IsBundle, AreCovered, AreRows}
use Rattle.machine_sets.specs.BitSets.Contacts.{is_contact, is_any_contact, IsRunInRange}
use Rattle.machine_sets.specs.BitSets.Rows.{GainsLed, leads}
use Rattle.machine_sets.specs.declared.bit_sets.contacts.Run.{Run}
use Rattle.machine_sets.specs.declared.bit_sets.shorts.Short.{Short}
use Rattle.machine_sets.proofs.BitSets.BitLemmas.{is_bit-above, is_bit-and, none_set}
use Rattle.machine_sets.proofs.BitSets.ContactLemmas.{IsRow}
use Rattle.machine_sets.proofs.BitSets.LedLemmas.{GainsLed-same, are_zeros, in_both, leads-low, leads-once, leads-past, leads-zeros, length-zeros, near_word}

all : (a b c : Bool) → a ≡ true → b ≡ true → c ≡ true → (a && (b && c)) ≡ true
all a b c e f g = grind (arith, nat_tests)

-- what a contact of a run says in numbers
pub contact_parts : (run : Run) (from to : ℕ) → is_contact run from to ≡ true
    → (run.exits ≤ to) × (to - run.exits < run.count) × (from ≡ run.common + (to - run.exits))
contact_parts run from to is =
    let a : nat_le run.exits to ≡ true = (and_parts _ _ is).0 in
    let b : nat_lt (to - run.exits) run.count ≡ true = (and_parts _ _ (and_parts (nat_le run.exits to) _ is).1).0 in
    let c : (from == run.common + (to - run.exits)) ≡ true = (and_parts _ _ (and_parts (nat_le run.exits to) _ is).1).1 in
    (leb-true _ _ a, ltb-true _ _ b, eqb-true _ _ c)

-- the bits that a run leads on are those of its places
pub run_follows : (run : Run) (new : List ℕ) (commons ones place : ℕ) → IsRunInRange run → IsRow commons new run.common
    → ((k : ℕ) → is_bit ones k ≡ nat_lt k run.count)
    → is_in_run run.exits (bit_and commons ones) place ≡ follows_run new run place
run_follows run new commons ones place range at_commons at_ones =
    ap (λ b. nat_le run.exits place && b) (by_bit (place - run.exits)) where
      by_bit : (k : ℕ) → is_bit (bit_and commons ones) k ≡ (nat_lt k run.count && has_place new (run.common + k))
      by_bit k =
          let count = range.count in
          let within : nat_lt k run.count ≡ true → nat_lt k 128 ≡ true = λ e. grind (arith, nat_tests, e, count) in
          is_bit-and commons ones k
          ∙ all (is_bit commons k) (is_bit ones k) (nat_lt k 128) (nat_lt k run.count) (has_place new (run.common + k))
          (at_commons k) (at_ones k) within where
            all : (a o near lt h : Bool) → a ≡ (near && h) → o ≡ lt → (lt ≡ true → near ≡ true) → (a && o) ≡ (lt && h)
            all a o near true h p q f = let is = f refl in grind (arith, nat_tests)
            all a o near false h p q f = grind (arith, nat_tests)

-- no bit, no place
pub run_follows_none : (run : Run) (new : List ℕ) (commons ones place : ℕ) (old : Bool) → IsRunInRange run
    → IsRow commons new run.common → ((k : ℕ) → is_bit ones k ≡ nat_lt k run.count) → bit_and commons ones ≡ 0
    → old ≡ (old || (nat_lt place 1984 && follows_run new run place))
run_follows_none run new commons ones place old range at_commons at_ones none =
    sym (ap (λ b. old || (nat_lt place 1984 && b))
    (sym (run_follows run new commons ones place range at_commons at_ones)
    ∙ ap (λ b. nat_le run.exits place && b) (none_set (bit_and commons ones) none (place - run.exits)) ∙ and-false _)
    ∙ ap (λ b. old || b) (and-false _) ∙ or-false _)

-- one run more

pub follows_more :
    (new : List ℕ) (runs : List Run) (i : ℕ) (d : Run) (k : ℕ) (old now whole : Bool) → i < length runs
    → (old || (nat_lt k 1984 && follows new (drop i runs) k)) ≡ whole
    → now ≡ (old || (nat_lt k 1984 && follows_run new (slice_index_or runs i d) k))
    → (now || (nat_lt k 1984 && follows new (drop (i + 1) runs) k)) ≡ whole
follows_more new runs i d k old now whole inside before gained =
    let parts : drop i runs ≡ slice_index_or runs i d ∷ drop (i + 1) runs = rw (add-one, drop-cons runs i d) in
    by (nat_lt k 1984) (follows_run new (slice_index_or runs i d) k) (follows new (drop (i + 1) runs) k) whole
    gained (ap (λ (rest : List Run). old || (nat_lt k 1984 && follows new rest k)) (sym parts) ∙ before) where
      by : (t r rest w : Bool) → now ≡ (old || (t && r)) → (old || (t && (r || rest))) ≡ w → (now || (t && rest)) ≡ w
      by t r rest w e f = grind (arith, nat_tests)

pub follows_last : (new : List ℕ) (runs : List Run) (i k : ℕ) (old whole : Bool) → length runs ≤ i
    → (old || (nat_lt k 1984 && follows new (drop i runs) k)) ≡ whole → old ≡ whole
follows_last new runs i k old whole end before =
    let none : drop i runs ≡ [] = grind (arith, common_steps) in
    sym (ap (λ (rest : List Run). old || (nat_lt k 1984 && follows new rest k)) none
    ∙ ap (λ b. old || b) (and-false _) ∙ or-false _) ∙ before

pub any_more : (runs : List Run) (i : ℕ) (d : Run) (from to : ℕ) (whole : Bool) → i < length runs
    → is_any_contact (drop i runs) from to ≡ whole → is_contact (slice_index_or runs i d) from to ≡ false
    → is_any_contact (drop (i + 1) runs) from to ≡ whole
any_more runs i d from to whole inside before out =
    let parts : drop i runs ≡ slice_index_or runs i d ∷ drop (i + 1) runs = rw (add-one, drop-cons runs i d) in
    sym (ap (λ b. b || is_any_contact (drop (i + 1) runs) from to) out)
    ∙ ap (λ (rest : List Run). is_any_contact rest from to) (sym parts) ∙ before

pub any_found : (runs : List Run) (i : ℕ) (d : Run) (from to : ℕ) (whole : Bool) → i < length runs
    → is_any_contact (drop i runs) from to ≡ whole → is_contact (slice_index_or runs i d) from to ≡ true → true ≡ whole
any_found runs i d from to whole inside before at =
    let parts : drop i runs ≡ slice_index_or runs i d ∷ drop (i + 1) runs = rw (add-one, drop-cons runs i d) in
    sym (ap (λ b. b || is_any_contact (drop (i + 1) runs) from to) at)
    ∙ ap (λ (rest : List Run). is_any_contact rest from to) (sym parts) ∙ before

pub any_last : (runs : List Run) (i from to : ℕ) (whole : Bool) → length runs ≤ i
    → is_any_contact (drop i runs) from to ≡ whole → false ≡ whole
any_last runs i from to whole end before =
    let none : drop i runs ≡ [] = grind (arith, common_steps) in
    sym (ap (λ (rest : List Run). is_any_contact rest from to) none) ∙ before

-- what runs lead on is led on by a wire, and the other way round

pub followed_by : (new : List ℕ) (runs : List Run) (to : ℕ) → follows new runs to ≡ true
    → (from : ℕ) × (has_place new from ≡ true) × (is_any_contact runs from to ≡ true)
followed_by new [] to at = cc
followed_by new (run ∷ runs) to at =
    ⊎_elim
    (λ here.
    let low : nat_le run.exits to ≡ true = (and_parts _ _ here).0 in
    let far = (and_parts (nat_le run.exits to) _ here).1 in
    let near : nat_lt (to - run.exits) run.count ≡ true = (and_parts _ _ far).0 in
    let wire : is_contact run (run.common + (to - run.exits)) to ≡ true =
    all _ _ _ low near ((eq-eqb (run.common + (to - run.exits)) (run.common + (to - run.exits)) refl)) in (
      run.common + (to - run.exits),
      (and_parts (nat_lt (to - run.exits) run.count) _ far).1,
      or_left (is_contact run (run.common + (to - run.exits)) to) (is_any_contact runs (run.common + (to - run.exits)) to) wire,
    ))
    (λ there. let rest = followed_by new runs to there in (rest.0, rest.1, or_right (is_contact run rest.0 to) _ rest.2))
    (or_cases (follows_run new run to) (follows new runs to) at)

pub follows_from : (new : List ℕ) (runs : List Run) (from to : ℕ) → has_place new from ≡ true
    → is_any_contact runs from to ≡ true → follows new runs to ≡ true
follows_from new [] from to at wire = cc
follows_from new (run ∷ runs) from to at wire =
    ⊎_elim
    (λ here.
    let parts = contact_parts run from to here in
    let low : nat_le run.exits to ≡ true = (and_parts _ _ here).0 in
    let near : nat_lt (to - run.exits) run.count ≡ true = (and_parts _ _ (and_parts (nat_le run.exits to) _ here).1).0 in
    let led : follows_run new run to ≡ true = all _ _ _ low near (ap (has_place new) (sym parts.2) ∙ at) in
    or_left (follows_run new run to) (follows new runs to) led)
    (λ there. or_right (follows_run new run to) _ (follows_from new runs from to at there))
    (or_cases (is_contact run from to) (is_any_contact runs from to) wire)

-- the wires of runs are among those of the rows
pub bundled_any : (rows : List (List ℕ)) (runs : List Run) → All (IsBundle rows) runs → (from to : ℕ)
    → is_any_contact runs from to ≡ true → leads rows from to ≡ true
bundled_any rows [] bundled from to wire = cc
bundled_any rows (run ∷ runs) bundled from to wire =
    ⊎_elim
    (λ here. let first = bundled 0 run (omega arith) in first.wired from to here)
    (λ there. bundled_any rows runs (λ i d inside. bundled (suc i) d (omega (arith, inside))) from to there)
    (or_cases (is_contact run from to) (is_any_contact runs from to) wire)

-- the runs and the places kept apart are all that lead anywhere
pub GainsLed-bundled : (rows : List (List ℕ)) (marked apart new : List ℕ) (runs : List Run) (shorts : List Short) (old now after : List ℕ)
    → AreRows marked apart runs shorts rows
    → ((place : ℕ) → has_place now place ≡ (has_place old place || (nat_lt place 1984 && follows new runs place)))
    → GainsLed rows (λ place. has_place new place && has_place apart place) now after
    → GainsLed rows (has_place new) old after
GainsLed-bundled rows marked apart new runs shorts old now after are_rows gained gains = record {
  kept = λ place held. gains.kept place (gained place ∙ or_left _ _ held);
  led = λ from to at leads. ⊎_elim
      (λ is_apart. gains.led from to (and_from _ _ at is_apart) leads)
      (λ wire.
      let inside = are_rows.within from to leads in
      let low : nat_lt to 1984 ≡ true = grind (arith, nat_tests, inside) in
      gains.kept to (gained to ∙ or_right (has_place old to) _ (and_from _ _ low (follows_from new runs from to at wire))))
      (are_rows.covered from to leads);
  only = λ to held. ⊎_elim
      (λ at_now. ⊎_elim
      (λ at_old. inl at_old)
      (λ led.
      let by = followed_by new runs to (and_parts (nat_lt to 1984) _ led).1 in
      inr (by.0, by.1, bundled_any rows runs are_rows.bundled by.0 to by.2))
      (or_cases (has_place old to) (nat_lt to 1984 && follows new runs to) (sym (gained to) ∙ at_now)))
      (λ by. inr (by.0, (and_parts _ _ by.1).0, by.2))
      (gains.only to held);
  last = λ from to next at leads. leads-once rows are_rows.short are_rows.onward from to next leads;
}

-- the places of one word alone, led on by runs and, those kept apart, by rows
pub GainsLed-word_bundled : (rows : List (List ℕ)) (marked apart new : List ℕ) (runs : List Run) (shorts : List Short) (old now after : List ℕ) (number bits : ℕ)
    → AreRows marked apart runs shorts rows → bits < 2 ^ 64
    → ((place : ℕ) → has_place new place ≡ (nat_lt place 1984 && is_in_run (64 * number) bits place))
    → ((place : ℕ) → has_place now place ≡ (has_place old place || (nat_lt place 1984 && follows new runs place)))
    → GainsLed rows (is_in_run (64 * number) (bit_and bits (slice_index_or apart number 0))) now after
    → GainsLed rows (is_in_run (64 * number) bits) old after
GainsLed-word_bundled rows marked apart new runs shorts old now after number bits are_rows few is gained gains =
    GainsLed-same rows are_rows.short (has_place new) (is_in_run (64 * number) bits) old after
    (λ from to at leads. is from ∙ and_from _ _ (inside from to leads) at)
    (λ from to at leads. (and_parts (nat_lt from 1984) _ (sym (is from) ∙ at)).1)
    (GainsLed-bundled rows marked apart new runs shorts old now after are_rows gained
    (GainsLed-same rows are_rows.short
    (is_in_run (64 * number) (bit_and bits (slice_index_or apart number 0)))
    (λ place. has_place new place && has_place apart place) now after
    (λ from to at leads.
    let run : is_in_run (64 * number) bits from ≡ true = (and_parts (nat_lt from 1984) _ (sym (is from) ∙ (and_parts _ _ at).0)).1 in
    in_both (64 * number) bits (slice_index_or apart number 0) from
    ∙ and_from _ _ run (near from run ∙ (and_parts (has_place new from) _ at).1))
    (λ from to at leads.
    let parts = and_parts _ _ (sym (in_both (64 * number) bits (slice_index_or apart number 0) from) ∙ at) in
    and_from _ _ (is from ∙ and_from _ _ (inside from to leads) parts.0) (sym (near from parts.0) ∙ parts.1))
    gains)) where
      inside : (from to : ℕ) → leads rows from to ≡ true → nat_lt from 1984 ≡ true
      inside from to at = let low = leads-low rows are_rows.short from to at in grind (arith, nat_tests, low)

      near : (from : ℕ) → is_in_run (64 * number) bits from ≡ true
          → is_in_run (64 * number) (slice_index_or apart number 0) from ≡ has_place apart from
      near from run =
          let low : 64 * number ≤ from = leb-true _ _ (and_parts _ _ run).0 in
          let high : from < 64 * number + 64 = ⊎_elim
          (λ (below : from < 64 * number + 64). below)
          (λ above. absurd (false≢true
          (sym (is_bit-above bits 64 (from - 64 * number) few (omega arith)) ∙ (and_parts (nat_le (64 * number) from) _ run).1)))
          (cases_lt from (64 * number + 64)) in
          near_word apart number from low high

-- rows that are covered as far as a place
abbrev pub AreCoveredBelow : ℕ → List ℕ → List Run → List (List ℕ) → Type 0
AreCoveredBelow end apart runs rows =
    (from to : ℕ) → from < end → leads rows from to ≡ true
    → (has_place apart from ≡ true) ⊎ (is_any_contact runs from to ≡ true)

pub AreCovered-more : (rows : List (List ℕ)) (runs : List Run) (at : ℕ) (old new : List ℕ) (is_covered : Bool)
    → AreCoveredBelow at old runs rows
    → ((place : ℕ) → has_place new place ≡ (has_place old place || (not is_covered && (place == at))))
    → (is_covered ≡ true → (to : ℕ) → leads rows at to ≡ true → is_any_contact runs at to ≡ true)
    → AreCoveredBelow (at + 1) new runs rows
AreCovered-more rows runs at old new is_covered before gained covers from to low leads_on = ⊎_elim
    (λ (same : from ≡ at). here is_covered refl same)
    (λ other. ⊎_elim (λ is_apart. inl (gained from ∙ or_left _ _ is_apart)) inr (before from to (omega arith) leads_on))
    (cases_eq from at) where
      here : (b : Bool) → is_covered ≡ b → from ≡ at → (has_place new from ≡ true) ⊎ (is_any_contact runs from to ≡ true)
      here true is same =
          inr (ap (λ n. is_any_contact runs n to) same ∙ covers is to (ap (λ n. leads rows n to) (sym same) ∙ leads_on))
      here false is same =
          let equal : (from == at) ≡ true = grind (arith, nat_tests, same) in
          inl (gained from ∙ or_right (has_place old from) _ (and_from _ _ (ap not is) equal))

-- as far as there are rows is all
pub AreCovered-all : (rows : List (List ℕ)) (runs : List Run) (end : ℕ) (apart : List ℕ) → length rows ≤ end
    → AreCoveredBelow end apart runs rows → AreCovered apart runs rows
AreCovered-all rows runs end apart far covered from to leads_on = ⊎_elim
    (λ (low : from < end). covered from to low leads_on)
    (λ past. absurd (false≢true (sym (leads-past rows from to (omega (arith, far, past))) ∙ leads_on)))
    (cases_lt from end)

-- rows of zeros have no wire and no run
pub AreRows-zeros : (count : ℕ) (marked apart : List ℕ) (runs : List Run) (shorts : List Short) (rows : List (List ℕ)) → count ≤ 1040
    → runs ≡ [] → shorts ≡ [] → rows ≡ are_zeros count → AreRows marked apart runs shorts rows
AreRows-zeros count marked apart runs shorts rows low empty none are = record {
  short = omega (arith, length-zeros count rows are);
  onward = λ from to at. absurd (false≢true (sym (leads-zeros count from to rows are) ∙ at));
  within = λ from to at. absurd (false≢true (sym (leads-zeros count from to rows are) ∙ at));
  marks = λ from to at. absurd (false≢true (sym (leads-zeros count from to rows are) ∙ at));
  bundled = λ i d inside. absurd (omega (arith, inside, ap (λ (r : List Run). length r) empty));
  covered = λ from to at. absurd (false≢true (sym (leads-zeros count from to rows are) ∙ at));
  shortened = λ from d inside. absurd (omega (arith, inside, ap (λ (s : List Short). length s) none));
}
