-- The wires of a setup, counted exit by exit and place by place.
use Rattle.std.proofs.Common.{◌≡◌, ◌∙◌, ℕ, ◌+◌, ◌<◌, ◌≤◌, ◌⊎◌, inl, inr, List, [], ◌∷◌, ◌++◌, length, take, get_or, slice_get, Some, None, Bool, true, false, true≢false, refl, sym, ap, subst, arith, eqb, suc}
use Rattle.std.specs.List.{All, AllPairs, Contains, list_any}
use Rattle.std.proofs.lemmas.Bool.{eqb-true, eq-eqb}
use Rattle.std.proofs.lemmas.Bool.Decides.{eqb_tells}
use Rattle.std.proofs.Math.Seq.{take-suc}
use Rattle.std.proofs.lemmas.List.{take_all, take-append-drop}
use Rattle.std.proofs.lemmas.List.Elements.{All-contains, All-head, All-tail, All-take, Contains-append_cases, Contains-append_left, Contains-append_right, Contains-push, Contains-push_cases}
use Rattle.std.proofs.lemmas.Map.Made.{IsDistinct-from_AllPairs}
use Rattle.std.proofs.lemmas.Map.Steps.{length-le_from_distinct_below}
use Rattle.std.proofs.lemmas.Map.Views.{Contains-from_any}
use Rattle.std.proofs.lemmas.Option.{none-some, same_Some, slice_get-get_or}
use Rattle.hubs.specs.Hubs.{number_of}
use Rattle.hubs.specs.declared.hub.Hub.{Hub}
use Rattle.hubs.proofs.HubLemmas.{hub_numbered, is_exit-number, number_of-injective}
use Rattle.hubs.specs.SetupsWords.Wiring.{HasWire, IsEntryNumber, IsLawfulWiring, IsWireOf, Wiring}
use Rattle.match_panels.specs.DifferencesWords.Differences.{AreMany}
use Rattle.match_panels.specs.DifferencesWords.HelperSizes.{HasBefore, IsNewAt, WireFrom, WireFromBefore}
use Rattle.match_panels.proofs.DifferencesWords.Counts.{many-as, many-both, many-none, many-one}
use Rattle.match_panels.proofs.DifferencesWords.Stops.{below_or_at}

-- a number is on a list or not
is_on : (xs : List ℕ) (x : ℕ) → Contains xs x ⊎ ¬ Contains xs x
is_on [] x = inr (λ has. omega (arith, has.1))
is_on (y ∷ ys) x = by (eqb_tells y x) (is_on ys x)
  where
    by : ((eqb y x ≡ true) × (y ≡ x)) ⊎ ((eqb y x ≡ false) × ¬ (y ≡ x)) → Contains ys x ⊎ ¬ Contains ys x → Contains (y ∷ ys) x ⊎ ¬ Contains (y ∷ ys) x
    by (inl same) rest = inl (0, omega arith, same.1)
    by (inr apart) (inl has) = inl (Contains-append_right (y ∷ []) ys x has)
    by (inr apart) (inr none) = inr (λ has. elim (Contains-append_cases (y ∷ []) ys x has) [
      | inl first ↦ elim (Contains-push_cases [] y x first) [ inl h ↦ absurd (omega (arith, h.1)) | inr e ↦ apart.1 e ]
      | inr other ↦ none other
    ])

module _ (numbers : List ℕ) where
  pub new-one : {place : ℕ} → place < length numbers → (HasBefore numbers place → ⊥) → AreMany (IsNewAt numbers place) 1
  new-one {place} less none =
      let here : slice_get numbers place ≡ Some (get_or numbers place 0) = slice_get-get_or numbers place 0 less in
      many-one (get_or numbers place 0)
      (record { here = here; new = λ has. none (record { number = get_or numbers place 0; here = here; before = has }) })
      (λ n is. same_Some n (get_or numbers place 0) (sym is.here ∙ here))

  next : (place : ℕ) → place < length numbers → take (place + 1) numbers ≡ take place numbers ++ (get_or numbers place 0 ∷ [])
  next place less = let same : place + 1 ≡ suc place = omega arith in ap (λ n. take n numbers) same ∙ take-suc numbers place 0 less

  pub front-none : AreMany (Contains (take 0 numbers)) 0
  front-none = many-none (λ n has. omega (arith, has.1))

  pub front-more : {place m n : ℕ} → place < length numbers → AreMany (Contains (take place numbers)) m
      → AreMany (IsNewAt numbers place) n → AreMany (Contains (take (place + 1) numbers)) (m + n)
  front-more {place} less so_far new =
      many-both
      (λ x has. subst (λ l. Contains l x) (sym (next place less)) (Contains-append_left (take place numbers) (it ∷ []) x has))
      (λ x is. subst (λ l. Contains l x) (sym (next place less)) (subst (Contains (take place numbers ++ (it ∷ []))) (same x is) (Contains-push (take place numbers) it)))
      (λ x has. split x (Contains-push_cases (take place numbers) it x (subst (λ l. Contains l x) (next place less) has)) (is_on (take place numbers) x))
      (λ x has is. is.new has) so_far new
    where
      it : ℕ
      it = get_or numbers place 0

      here : slice_get numbers place ≡ Some it
      here = slice_get-get_or numbers place 0 less

      same : (x : ℕ) → IsNewAt numbers place x → it ≡ x
      same x is = same_Some it x (sym here ∙ is.here)

      split : (x : ℕ) → Contains (take place numbers) x ⊎ (it ≡ x) → Contains (take place numbers) x ⊎ ¬ Contains (take place numbers) x
          → Contains (take place numbers) x ⊎ IsNewAt numbers place x
      split x (inl has) test = inl has
      split x (inr e) (inl has) = inl has
      split x (inr e) (inr none) = inr (record { here = here ∙ ap (λ n. Some n) e; new = none })

  pub front-all : {place m : ℕ} → length numbers ≤ place → AreMany (Contains (take place numbers)) m → AreMany (Contains numbers) m
  front-all {place} {m} last many = subst (λ l. AreMany (Contains l) m) (take_all place numbers last) many

-- numbers of entries, each once, are no more than there are entries
few : (xs : List ℕ) {m : ℕ} → All IsEntryNumber xs → AreMany (Contains xs) m → m ≤ 1937
few xs {m} entries many =
    let below = length-le_from_distinct_below many.things 1937 (IsDistinct-from_AllPairs {eq = eqb} (λ a b. (eqb-true a b, eq-eqb a b)) many.things many.once)
    (λ q found. let has = (many.all q).1 (Contains-from_any {eq = eqb} eqb-true q many.things found) in
    omega (arith, (All-contains IsEntryNumber xs q entries has).1)) in
    omega (arith, many.counted, below)

pub front-few : (numbers : List ℕ) (place : ℕ) {m : ℕ} → All IsEntryNumber numbers → AreMany (Contains (take place numbers)) m → m ≤ 1937
front-few numbers place entries many = few (take place numbers) (All-take IsEntryNumber place numbers entries) many

-- a wire from an exit to an entry of a list
record IsTo (exit : Hub) (numbers : List ℕ) (wire : Hub × Hub) : Type 0 where
  leaves : wire.0 ≡ exit
  number : ℕ
  numbered : number_of wire.1 ≡ Some number
  listed : Contains numbers number

-- a wire by its ends
wire-is : (wire : Hub × Hub) (exit entry : Hub) → wire.0 ≡ exit → wire.1 ≡ entry → wire ≡ (exit, entry)
wire-is wire exit entry e f =
    ap (λ (a : Hub). let w : Hub × Hub = (a, wire.1) in w) e ∙ ap (λ (b : Hub). let w : Hub × Hub = (exit, b) in w) f

-- the wires to entries, by their numbers
to-entries : (exit : Hub) (things : List ℕ) → ((n : ℕ) → Contains things n → IsEntryNumber n) → AllPairs (λ (a b : ℕ). ¬ (a ≡ b)) things
    → AreMany (IsTo exit things) (length things)
to-entries exit [] range once = many-none (λ wire is. omega (arith, is.listed.1))
to-entries exit (n ∷ ns) range once =
    let first : Contains (n ∷ ns) n = (0, omega arith, refl) in
    let at = range n first in
    let hub = hub_numbered n (omega (arith, at.0)) at.1 in
    let one_more : 1 + length ns ≡ length (n ∷ ns) = omega arith in
    subst (AreMany (IsTo exit (n ∷ ns))) one_more
    (many-both {R = IsTo exit (n ∷ [])} {S = IsTo exit ns}
    (λ wire is. record { leaves = is.leaves; number = is.number; numbered = is.numbered; listed = Contains-append_left (n ∷ []) ns is.number is.listed })
    (λ wire is. record { leaves = is.leaves; number = is.number; numbered = is.numbered; listed = Contains-append_right (n ∷ []) ns is.number is.listed })
    (λ wire is. elim (Contains-append_cases (n ∷ []) ns is.number is.listed) [
      | inl here ↦ inl (record { leaves = is.leaves; number = is.number; numbered = is.numbered; listed = here })
      | inr there ↦ inr (record { leaves = is.leaves; number = is.number; numbered = is.numbered; listed = there })
    ])
    (λ wire is also. apart wire is also)
    (many-one (exit, hub.0) (record { leaves = refl; number = n; numbered = hub.1; listed = (0, omega arith, refl) })
    (λ wire is. wire-is wire exit hub.0 is.leaves
    (number_of-injective wire.1 hub.0 n (is.numbered ∙ ap (λ k. Some k) (sym (only n is.number is.listed))) hub.1)))
    (to-entries exit ns (λ m has. range m (Contains-append_right (n ∷ []) ns m has)) (λ i j d less within. once (suc i) (suc j) d (omega (arith, less)) (omega (arith, within)))))
  where
    only : (a b : ℕ) → Contains (a ∷ []) b → a ≡ b
    only a b has = elim (Contains-push_cases [] a b has) [ inl h ↦ absurd (omega (arith, h.1)) | inr e ↦ e ]

    apart : (wire : Hub × Hub) → IsTo exit (n ∷ []) wire → IsTo exit ns wire → ⊥
    apart wire is also =
        let same : n ≡ also.number = only n is.number is.listed ∙ same_Some is.number also.number (sym is.numbered ∙ also.numbered) in
        let k = also.listed in
        once 0 (suc k.0) also.number (omega arith) (omega (arith, k.1)) (same ∙ sym k.2)

module _ (setup : Wiring) where
  pub from-row : {number m : ℕ} (exit : Hub) (entries : List ℕ) → number_of exit ≡ Some number
      → ((hub : Hub) → number_of hub ≡ Some number → Some exit ≡ Some hub) → All IsEntryNumber entries
      → ((entry : Hub) (n : ℕ) → number_of entry ≡ Some n → (Contains entries n → HasWire setup exit entry) × (HasWire setup exit entry → Contains entries n))
      → AreMany (Contains entries) m → AreMany (WireFrom setup number) m
  from-row {number} {m} exit entries numbered found range value many =
      subst (AreMany (WireFrom setup number)) (sym many.counted)
      (many-as {R = IsTo exit many.things}
      (λ wire is. record {
        numbered = ap number_of is.leaves ∙ numbered;
        there = subst (λ h. HasWire setup h wire.1) (sym is.leaves) ((value wire.1 is.number is.numbered).0 ((many.all is.number).1 is.listed));
      })
      (λ wire is.
      let leaves : wire.0 ≡ exit = sym (same_Some exit wire.0 (found wire.0 is.numbered)) in
      record {
        leaves = leaves;
        number = is.there.to;
        numbered = is.there.entry_numbered;
        listed = (many.all is.there.to).0 ((value wire.1 is.there.to is.there.entry_numbered).1 (subst (λ h. HasWire setup h wire.1) leaves is.there));
      })
      (to-entries exit many.things (λ n has. All-contains IsEntryNumber entries n range ((many.all n).1 has)) many.once))

  pub exits-none : AreMany (WireFromBefore setup 0) 0
  exits-none = many-none (λ wire is. omega (arith, is.before))

  pub exits-more : {number m n : ℕ} → AreMany (WireFromBefore setup number) m → AreMany (WireFrom setup number) n
      → AreMany (WireFromBefore setup (number + 1)) (m + n)
  exits-more {number} so_far next =
      many-both (λ wire is. record { there = is.there; before = omega (arith, is.before) })
      (λ wire is. record { there = is.there; before = omega (arith, same wire is) })
      (λ wire is. elim (below_or_at is.there.number number is.before) [
        | inl less ↦ inl (record { there = is.there; before = less })
        | inr here ↦ inr (record { numbered = is.there.numbered ∙ ap (λ (n : ℕ). Some n) here; there = is.there })
      ])
      (λ wire is also. omega (arith, is.before, apart wire is also)) so_far next
    where
      same : (wire : Hub × Hub) (is : WireFrom setup number wire) → is.there.number ≡ number
      same wire is = same_Some is.there.number number (sym is.there.numbered ∙ is.numbered)

      apart : (wire : Hub × Hub) (is : WireFromBefore setup number wire) → WireFrom setup number wire → is.there.number ≡ number
      apart wire is also = same_Some is.there.number number (sym is.there.numbered ∙ also.numbered)

  pub exits-all : {bound m : ℕ} → IsLawfulWiring setup → 1041 ≤ bound → AreMany (WireFromBefore setup bound) m → AreMany (IsWireOf setup) m
  exits-all lawful last many =
      many-as (λ wire is. is.there)
      (λ wire is. record {
        there = is;
        before = omega (arith, last, (is_exit-number wire.0 is.number is.numbered).0 (lawful.leads wire.0 wire.1 is).0);
      }) many
