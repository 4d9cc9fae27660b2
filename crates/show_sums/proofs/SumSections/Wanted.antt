-- Sums are wanted, wheel by wheel.
use Rattle.std.proofs.Common.{◌≡◌, ◌∙◌, sym, ap, subst, refl, Bool, true, false, ℕ, ◌+◌, ◌<◌, List, [], ◌∷◌, ◌++◌, Some, None, length, take, get_or}
use Rattle.std.specs.Prelude.{All, map}
use Rattle.std.specs.List.{AllZip}
use Rattle.std.proofs.lemmas.List.{take_more}
use Rattle.std.proofs.lemmas.List.Elements.{All-nil, All-push, All-same}
use Rattle.explain_wheels.specs.ExplanationsWords.PlacedInRun.{PlacedLinesArePrinted}
use Rattle.explain_wheels.specs.declared.explanations.explanation.Explanation.{Explanation}
use Rattle.show_links.specs.SumPlaces.Places.{has_sum, sum_at}
use Rattle.show_links.specs.declared.sum_places.places.SumPlace.{SumPlace}
use Rattle.explain_words.specs.declared.explanation_text.text.ToldWheel.{ToldWheel}
use Rattle.hubs.specs.SetupsWords.Wiring.{Wiring}
use Rattle.explain_wheel_ledgers.specs.Printed.{place_printed}
use Rattle.explain_wheel_ledgers.specs.declared.chart_totals.TitledAccount.{TitledAccount}
use Rattle.show_sums.specs.SumSections.Sums.{AreSums, IsExplained, place_of}
use Rattle.show_sums.specs.SumSections.Sums.AreSums.{begun, more}
use Rattle.show_sums.specs.SumSections.Sums.TakesSum.{none as none-taken, known as known-taken, new as new-taken}
use Rattle.show_sums.specs.SumSections.WantedSums.{AreWantedFor, IsSumFor, IsWanted, WantsSum, wanted_at}
use Rattle.show_sums.specs.declared.sum_sections.sums.PageSum.{PageSum}
use Rattle.show_sums.specs.declared.sum_sections.sums.WantedSum.{WantedSum}
use Rattle.show_sums.proofs.SumSections.Found.{stands_there}

-- what belongs to a list with one more at its end
record EndsWith {X Y : Type 0} (R : X → Y → Type 0) (xs : List X) (x : X) (ys : List Y) : Type 0 where
  front : List Y
  last : Y
  is : ys ≡ front ++ last ∷ []
  each : AllZip R xs front
  same : R x last

ends-with : {X Y : Type 0} (R : X → Y → Type 0) (xs : List X) (x : X) (ys : List Y) → AllZip R (xs ++ x ∷ []) ys → EndsWith R xs x ys
ends-with R [] x [] zip = absurd zip
ends-with R [] x (y ∷ []) zip = record { front = []; last = y; is = refl; each = tt; same = zip.0 }
ends-with R [] x (y ∷ z ∷ ys) zip = absurd zip.1
ends-with R (w ∷ xs) x [] zip = absurd zip
ends-with {Y = Y} R (w ∷ xs) x (y ∷ ys) zip =
    let rest = ends-with R xs x ys zip.1 in
    record {
      front = y ∷ rest.front;
      last = rest.last;
      is = ap (λ (l : List Y). y ∷ l) rest.is;
      each = (zip.0, rest.each);
      same = rest.same;
    }

pub zip-push : {X Y : Type 0} (R : X → Y → Type 0) (xs : List X) (ys : List Y) (x : X) (y : Y) → AllZip R xs ys → R x y
    → AllZip R (xs ++ x ∷ []) (ys ++ y ∷ [])
zip-push R [] [] x y zip is = (is, tt)
zip-push R [] (z ∷ ys) x y zip is = absurd zip
zip-push R (w ∷ xs) [] x y zip is = absurd zip
zip-push R (w ∷ xs) (z ∷ ys) x y zip is = (zip.0, zip-push R xs ys x y zip.1 is)

module _ (wiring : Wiring) (totals : List TitledAccount) (deck : List (List ℕ)) where
  -- they stand where the wanted ones do
  same-places : (wanted : List WantedSum) (sums : List PageSum) → AllZip (IsSumFor wiring totals deck) wanted sums
      → map place_of sums ≡ map wanted_at wanted
  same-places [] [] zip = refl
  same-places [] (sum ∷ sums) zip = absurd zip
  same-places (one ∷ wanted) [] zip = absurd zip
  same-places (one ∷ wanted) (sum ∷ sums) zip =
      ap (λ (p : SumPlace). p ∷ map place_of sums) zip.0.at
      ∙ ap (λ (l : List SumPlace). one.at ∷ l) (same-places wanted sums zip.1)

  none-wanted : (sums : List PageSum) → AllZip (IsSumFor wiring totals deck) [] sums → AreSums wiring totals deck [] sums
  none-wanted [] zip = begun
  none-wanted (sum ∷ sums) zip = absurd zip

  -- whether one of them stands there
  same-has : (wanted : List WantedSum) (sums : List PageSum) (one why : Explanation) (place : ℕ) (has : Bool)
      → AllZip (IsSumFor wiring totals deck) wanted sums → one ≡ why → has_sum (map wanted_at wanted) (sum_at totals why place) ≡ has
      → has_sum (map place_of sums) (sum_at totals one place) ≡ has
  same-has wanted sums one why place has zip same is =
      ap (λ (l : List SumPlace). has_sum l (sum_at totals one place)) (same-places wanted sums zip)
      ∙ ap (λ (w : Explanation). has_sum (map wanted_at wanted) (sum_at totals w place)) same
      ∙ is

-- none before the first wheel
pub wanted-none : (totals : List TitledAccount) (wanted : List WantedSum) → wanted ≡ [] → (wiring : Wiring) (deck : List (List ℕ))
    → AreWantedFor wiring totals deck [] wanted
wanted-none totals wanted empty wiring deck =
    subst (AreWantedFor wiring totals deck []) (sym empty)
    (record { each = All-nil (IsWanted wiring deck); suffice = none-wanted wiring totals deck })

-- no counter group is printed on a wheel
pub wants-none : (totals : List TitledAccount) (why : Explanation) (wanted : List WantedSum) → place_printed why ≡ None
    → WantsSum totals why wanted wanted
wants-none totals why wanted printed = λ wiring deck told one same explained before.
    record {
      each = before.each;
      suffice = λ sums zip. more told one sums sums (before.suffice sums zip) (none-taken sums (ap place_printed same ∙ printed));
    }

-- its sum is wanted already
pub wants-known : (totals : List TitledAccount) (why : Explanation) (wanted : List WantedSum) (place : ℕ) → place_printed why ≡ Some place
    → has_sum (map wanted_at wanted) (sum_at totals why place) ≡ true → WantsSum totals why wanted wanted
wants-known totals why wanted place printed has = λ wiring deck told one same explained before.
    record {
      each = before.each;
      suffice = λ sums zip.
          more told one sums sums (before.suffice sums zip)
          (known-taken sums place (ap place_printed same ∙ printed)
          (same-has wiring totals deck wanted sums one.why why place true zip same has));
    }

-- it is wanted from now on
pub wants-new : (totals : List TitledAccount) (why : Explanation) (old new : List WantedSum) (place : ℕ) (at : SumPlace)
    → PlacedLinesArePrinted → place_printed why ≡ Some place → place < 32
    → has_sum (map wanted_at old) (sum_at totals why place) ≡ false → at ≡ sum_at totals why place
    → new ≡ old ++ (record { at = at; place = place }) ∷ [] → WantsSum totals why old new
wants-new totals why old new place at law printed low has is_at pushed = λ wiring deck told one same explained before.
    let wanted : WantedSum = record { at = sum_at totals why place; place = place } in
    let added : new ≡ old ++ wanted ∷ [] =
    pushed ∙ ap (λ (a : SumPlace). old ++ (record { at = a; place = place }) ∷ []) is_at in
    record {
      each =
          All-same (IsWanted wiring deck) new (old ++ wanted ∷ []) added
          (All-push (IsWanted wiring deck) old wanted before.each
          (record { place = low; there = stands_there wiring deck why law explained }));
      suffice = λ sums zip.
          let end : EndsWith (IsSumFor wiring totals deck) old wanted sums =
          ends-with (IsSumFor wiring totals deck) old wanted sums
          (subst (λ (l : List WantedSum). AllZip (IsSumFor wiring totals deck) l sums) added zip) in
          subst (AreSums wiring totals deck (told ++ one ∷ [])) (sym end.is)
          (more told one end.front (end.front ++ end.last ∷ []) (before.suffice end.front end.each)
          (new-taken end.front place end.last (ap place_printed same ∙ printed)
          (same-has wiring totals deck old end.front one.why why place false end.each same has)
          (end.same.is one.why (ap (λ (w : Explanation). sum_at totals w place) same))));
    }

-- one wheel more
pub wanted-more : (totals : List TitledAccount) (told : List ToldWheel) (place : ℕ) (one : ToldWheel) (old new : List WantedSum)
    → place < length told → one ≡ get_or told place one → WantsSum totals one.why old new
    → ((wiring : Wiring) (deck : List (List ℕ)) → All (λ (t : ToldWheel). IsExplained wiring deck t.why) told
    → AreWantedFor wiring totals deck (take place told) old)
    → (wiring : Wiring) (deck : List (List ℕ)) → All (λ (t : ToldWheel). IsExplained wiring deck t.why) told
    → AreWantedFor wiring totals deck (take (place + 1) told) new
wanted-more totals told place one old new less item wants before wiring deck explained =
    subst (λ (l : List ToldWheel). AreWantedFor wiring totals deck l new)
    (sym (take_more told place one less ∙ ap (λ (t : ToldWheel). take place told ++ t ∷ []) (sym item)))
    (wants wiring deck (take place told) one refl
    (subst (λ (t : ToldWheel). IsExplained wiring deck t.why) (sym item) (explained place one less))
    (before wiring deck explained))

-- whether a sum is among some that are wanted, as it is looked up
pub wanted-has : (totals : List TitledAccount) (why : Explanation) (place : ℕ) (wanted lent : List WantedSum) (places also : List SumPlace)
    (at : SumPlace) (has is : Bool) → lent ≡ wanted → places ≡ map wanted_at lent → also ≡ places → at ≡ sum_at totals why place
    → has ≡ has_sum also at → has ≡ is → has_sum (map wanted_at wanted) (sum_at totals why place) ≡ is
wanted-has totals why place wanted lent places also at has is same placed copied here looked told =
    sym (ap (λ (l : List SumPlace). has_sum l at) (copied ∙ placed ∙ ap (λ (s : List WantedSum). map wanted_at s) same)
    ∙ ap (λ (s : SumPlace). has_sum (map wanted_at wanted) s) here)
    ∙ sym looked ∙ told
