-- Lists of what is known of the rows of a kept cycle, row by row.
use Rattle.std.proofs.Common.{◌≡◌, ◌∙◌, sym, ap, subst, refl, arith, ℕ, ◌+◌, ◌<◌, ◌≤◌, Bool, true, false, ◌↔◌, ◌⊎◌, inl, inr, List, [], ◌∷◌, ◌++◌, Option, None, length, length-append, get_or, slice_index_or, slice_set, map}
use Rattle.std.specs.Prelude.{Vec, is_some}
use Rattle.std.specs.declared.alloc.Global.{Global}
use Rattle.std.proofs.lemmas.Bool.{cases_lt}
use Rattle.std.proofs.lemmas.List.{get_or_append_left, get_or-map, get_or-set_other, get_or-set_same}
use Rattle.std.proofs.lemmas.List.FromFn.{fill_by_all}
use Rattle.std.proofs.Math.Seq.{get_or-append_seam}
use Rattle.hubs.specs.declared.hub.Hub.{Hub}
use Rattle.hubs.specs.declared.hub.Hub.TheVariants.{W}
use Rattle.hubs.specs.SetupsWords.Wiring.{Wiring}
use Rattle.net.specs.HubSets.{has_hub}
use Rattle.net.specs.Impulsed.{IsImpulsed}
use Rattle.net.specs.declared.cycle.Point.{Point}
use Rattle.machine.specs.Cycles.{point_at}
use Rattle.machine.specs.Kept.{kept_at}
use Rattle.machine.specs.declared.kept.KeptPoint.{KeptPoint}
use Rattle.explain_wheels.specs.WaysWords.Tables.{AreWaysOf, WayTable}
use Rattle.proof_cycles.specs.WholeCycles.WholeCycles.{rows_received}
use Rattle.explain_wheels.specs.ExplanationsWords.Explanations.{IsTold, TellsRows}
use Rattle.explain_wheels.specs.ExplanationsWords.Rows.{ArePictures, AreRowWays, HasReceived, no_ways}

-- what holds of each element and of one more holds of each of the list with that one behind
each-more : {X : Type 0} (P : ℕ → X → Type 0) (xs : List X) (x d : X) (count : ℕ) → length xs ≡ count
    → ((k : ℕ) → k < count → P k (get_or xs k d)) → P count x → (k : ℕ) → k < count + 1 → P k (get_or (xs ++ x ∷ []) k d)
each-more P xs x d count long each one k less = by (cases_lt k count)
  where
    by : (k < count) ⊎ (count ≤ k) → P k (get_or (xs ++ x ∷ []) k d)
    by (inl below) = subst (P k) (sym (get_or_append_left xs (x ∷ []) d k (omega (arith, below, long)))) (each k below)
    by (inr above) =
        let same : k ≡ length xs = omega (arith, above, less, long) in
        let last : k ≡ count = omega (arith, above, less) in
        subst (λ n. P n (get_or (xs ++ x ∷ []) k d)) (sym last)
        (subst (P count) (sym (ap (λ n. get_or (xs ++ x ∷ []) n d) same ∙ get_or-append_seam xs x [] d)) one)

one-longer : {X : Type 0} (xs : List X) (x : X) (count : ℕ) → length xs ≡ count → length (xs ++ x ∷ []) ≡ count + 1
one-longer xs x count long = let more = length-append xs (x ∷ []) in omega (arith, more, long)

pub AreRowWays-none : (wiring : Wiring) (points : List KeptPoint) → AreRowWays wiring points 0 []
AreRowWays-none wiring points = record { long = refl; each = λ row less. absurd (omega (arith, less)) }

pub AreRowWays-more : (wiring : Wiring) (points : List KeptPoint) (count : ℕ) (ways : List WayTable) (way : WayTable)
    → AreRowWays wiring points count ways
    → AreWaysOf wiring (has_hub (kept_at points (count + 1)).exits) (has_hub (kept_at points (count + 1)).contacts) way
    → AreRowWays wiring points (count + 1) (ways ++ way ∷ [])
AreRowWays-more wiring points count ways way are one = record {
  long = one-longer ways way count are.long;
  each =
      each-more
      (λ row way. AreWaysOf wiring (has_hub (kept_at points (row + 1)).exits) (has_hub (kept_at points (row + 1)).contacts) way)
      ways way no_ways count are.long are.each one;
}

pub TellsRows-none : (wiring : Wiring) (points : List KeptPoint) (hub : Hub) → TellsRows wiring points 0 hub []
TellsRows-none wiring points hub = record { long = refl; told = λ row less. absurd (omega (arith, less)) }

pub TellsRows-more : (wiring : Wiring) (points : List KeptPoint) (count : ℕ) (hub : Hub) (rows : List (Option (Vec Hub Global)))
    (row : Option (Vec Hub Global)) → TellsRows wiring points count hub rows → IsTold wiring (kept_at points (count + 1)) hub row
    → TellsRows wiring points (count + 1) hub (rows ++ row ∷ [])
TellsRows-more wiring points count hub rows row tells one = record {
  long = one-longer rows row count tells.long;
  told = each-more (λ row found. IsTold wiring (kept_at points (row + 1)) hub found) rows row None count tells.long tells.told one;
}

pub HasReceived-none : (wiring : Wiring) (points : List KeptPoint) (wheel : ℕ) (received : List Bool)
    → HasReceived wiring points wheel 0 received
HasReceived-none wiring points wheel received = λ row less. absurd (omega (arith, less))

pub HasReceived-more : (wiring : Wiring) (points : List KeptPoint) (wheel count : ℕ) (received : List Bool) (has : Bool)
    → count < length received → HasReceived wiring points wheel count received
    → ((has ≡ true)
    ↔ IsImpulsed wiring (has_hub (kept_at points (count + 1)).exits) (has_hub (kept_at points (count + 1)).contacts) (W wheel))
    → HasReceived wiring points wheel (count + 1) (slice_set received count has)
HasReceived-more wiring points wheel count received has within before one = λ row less. by row less (cases_lt row count)
  where
    Is : ℕ → Bool → Type 0
    Is row one =
        (one ≡ true) ↔ IsImpulsed wiring (has_hub (kept_at points (row + 1)).exits) (has_hub (kept_at points (row + 1)).contacts) (W wheel)

    by : (row : ℕ) → row < count + 1 → (row < count) ⊎ (count ≤ row) → Is row (slice_index_or (slice_set received count has) row false)
    by row less (inl below) =
        subst (Is row) (sym (get_or-set_other received count row has false (omega (arith, below)))) (before row below)
    by row less (inr above) =
        let last : row ≡ count = omega (arith, above, less) in
        subst (λ n. Is n (slice_index_or (slice_set received count has) n false)) (sym last)
        (subst (Is count) (sym (get_or-set_same received count has false within)) one)

-- tests that hold of the same are the same
pub same_test : {P : Type 0} (a b : Bool) → ((a ≡ true) ↔ P) → ((b ≡ true) ↔ P) → a ≡ b
same_test true true first second = refl
same_test true false first second = sym (second.1 (first.0 refl))
same_test false true first second = first.1 (second.0 refl)
same_test false false first second = refl

-- the rows at which a wheel was impulsed are those that it received
pub received-is : (wiring : Wiring) (points : List KeptPoint) (pictures : Point → Hub → Bool) (wheel : ℕ) (received : List Bool)
    → length received ≡ 12 → HasReceived wiring points wheel 12 received → ArePictures wiring points pictures
    → received ≡ rows_received pictures wheel
received-is wiring points pictures wheel received long has seen =
    fill_by_all (λ row. pictures (point_at (row + 1)) (W wheel)) received 12 false long
    (λ row less. same_test _ _ (has row less) (seen row less (W wheel)))

-- the rows of which a way is told are those at which the wheel was impulsed
pub told-received : (wiring : Wiring) (points : List KeptPoint) (wheel : ℕ) (rows : List (Option (Vec Hub Global)))
    → TellsRows wiring points 12 (W wheel) rows → HasReceived wiring points wheel 12 (map is_some rows)
told-received wiring points wheel rows tells = λ row less.
    let read = get_or-map is_some rows row None false (let long = tells.long in omega (arith, less, long)) in
    let exactly = (tells.told row less).exactly in (
      (λ is. exactly.0 (sym read ∙ is)),
      (λ impulsed. read ∙ exactly.1 impulsed),
    )
