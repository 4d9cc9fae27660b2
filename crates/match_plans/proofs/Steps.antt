-- Going through a list, with what each element gives.
use Rattle.std.proofs.Common.{◌≡◌, ◌∙◌, refl, sym, ap, subst, ℕ, ◌+◌, ◌<◌, ◌≤◌, ◌⊎◌, inl, inr, suc, Contains, true, false, List, [], ◌∷◌, ◌++◌, Option, Some, None, Result, Ok, Err, IfOk, IfSome, is_some, length, drop, get_or, slice_get, filter_map, flat_map, arith, append_assoc, append-nil}
use Rattle.std.specs.List.{cons_option}
use Rattle.std.proofs.Math.Seq.{drop-cons}
use Rattle.std.proofs.lemmas.List.{drop_all}
use Rattle.std.proofs.lemmas.List.Elements.{Contains-push_cases}
use Rattle.std.proofs.lemmas.Bool.{cases_lt}
use Rattle.std.proofs.lemmas.Option.{same_Some, slice_get-get_or}
use Rattle.chart_lines.proofs.ChartsWords.Listed.{listed-at, place-of}
use Rattle.chart_plans.specs.PlansWords.PartNumbers.{AreThere}

module _ {X Y : Type 0} (f : X → Option Y) (xs : List X) (i : ℕ) (x : X) (less : i < length xs) (is : x ≡ get_or xs i x) where
  cut : drop i xs ≡ x ∷ drop (i + 1) xs
  cut =
      let next : suc i ≡ i + 1 = omega arith in
      drop-cons xs i x less ∙ ap (λ y. y ∷ drop (suc i) xs) (sym is) ∙ ap (λ n. x ∷ drop n xs) next

  pub one-more : (y : Y) (items all : List Y) → f x ≡ Some y → items ++ filter_map f (drop i xs) ≡ all
      → (items ++ y ∷ []) ++ filter_map f (drop (i + 1) xs) ≡ all
  one-more y items all gives known =
      append_assoc items (y ∷ []) (filter_map f (drop (i + 1) xs))
      ∙ ap (λ o. items ++ cons_option o (filter_map f (drop (i + 1) xs))) (sym gives)
      ∙ ap (λ ys. items ++ filter_map f ys) (sym cut) ∙ known

  pub no-more : (items all : List Y) → f x ≡ None → items ++ filter_map f (drop i xs) ≡ all
      → items ++ filter_map f (drop (i + 1) xs) ≡ all
  no-more items all gives known =
      ap (λ o. items ++ cons_option o (filter_map f (drop (i + 1) xs))) (sym gives)
      ∙ ap (λ ys. items ++ filter_map f ys) (sym cut) ∙ known

module _ {X Y : Type 0} (parts : X → List Y) (xs : List X) (i : ℕ) (x : X) (less : i < length xs) (is : x ≡ get_or xs i x) where
  cut-at : drop i xs ≡ x ∷ drop (i + 1) xs
  cut-at =
      let next : suc i ≡ i + 1 = omega arith in
      drop-cons xs i x less ∙ ap (λ y. y ∷ drop (suc i) xs) (sym is) ∙ ap (λ n. x ∷ drop n xs) next

  pub parts-more : (own items all : List Y) → parts x ≡ own → items ++ flat_map parts (drop i xs) ≡ all
      → (items ++ own) ++ flat_map parts (drop (i + 1) xs) ≡ all
  parts-more own items all gives known =
      append_assoc items own (flat_map parts (drop (i + 1) xs))
      ∙ ap (λ ys. items ++ (ys ++ flat_map parts (drop (i + 1) xs))) (sym gives)
      ∙ ap (λ ys. items ++ flat_map parts ys) (sym cut-at) ∙ known

  pub parts-none : (items all : List Y) → parts x ≡ [] → items ++ flat_map parts (drop i xs) ≡ all
      → items ++ flat_map parts (drop (i + 1) xs) ≡ all
  parts-none items all gives known =
      ap (λ ys. items ++ (ys ++ flat_map parts (drop (i + 1) xs))) (sym gives)
      ∙ ap (λ ys. items ++ flat_map parts ys) (sym cut-at) ∙ known

pub parts-all : {X Y : Type 0} (parts : X → List Y) (xs : List X) (i : ℕ) (items all : List Y) → length xs ≤ i
    → items ++ flat_map parts (drop i xs) ≡ all → items ≡ all
parts-all parts xs i items all past known =
    sym (append-nil items) ∙ ap (λ ys. items ++ flat_map parts ys) (sym (drop_all i xs past)) ∙ known

-- an option that has a value, and one that has none
pub value-of : {X : Type 0} (o : Option X) → true ≡ is_some o → (x : X) × (o ≡ Some x)
value-of (Some x) has = (x, refl)
value-of None has = cc

pub none-of : {X : Type 0} (o : Option X) → false ≡ is_some o → o ≡ None
none-of (Some x) has = cc
none-of None has = refl

-- what follows from what holds where a call gave no error
pub if-ok : {T E : Type 0} (r : Result T E) (P Q : T → Type 0) → ((x : T) → P x → Q x) → IfOk r P → IfOk r Q
if-ok (Ok x) P Q f p = f x p
if-ok (Err e) P Q f p = tt

-- the numbers of parts of a machine, and one more
pub there-more : (last number : ℕ) (numbers : List ℕ) → AreThere last numbers → 1 ≤ number → number ≤ last
    → AreThere last (numbers ++ number ∷ [])
there-more last number numbers there from to place each at =
    by (Contains-push_cases numbers number each (listed-at (numbers ++ number ∷ []) place each at))
  where
    by : Contains numbers each ⊎ (number ≡ each) → (1 ≤ each) × (each ≤ last)
    by (inl (k, within, is)) = there k each (place-of numbers each k within is)
    by (inr same) = (omega (arith, from, same), omega (arith, to, same))

pub there-none : (last : ℕ) → AreThere last []
there-none last place number at = cc

-- what follows from three things that hold where a call gave no error
pub if-all-ok : {T E : Type 0} (r : Result T E) (P Q R S : T → Type 0) → ((x : T) → P x → Q x → R x → S x) → IfOk r P → IfOk r Q → IfOk r R
    → IfOk r S
if-all-ok (Ok x) P Q R S f p q r = f x p q r
if-all-ok (Err e) P Q R S f p q r = tt

-- what holds where an option has a value gives what follows from it
pub all-of : {T P Q : Type 0} (o : Option T) → (P → Q) → IfSome o (λ value. P) → IfSome o (λ value. Q)
all-of (Some value) follows holds = follows holds
all-of None follows holds = tt

-- what stands at a place of a list that is the same as another
pub item-at : {X : Type 0} (xs ys : List X) (i k : ℕ) (x : X) → xs ≡ ys → k ≡ i → i < length xs → x ≡ get_or xs i x → slice_get ys k ≡ Some x
item-at xs ys i k x same place less is =
    ap (λ zs. slice_get zs k) (sym same) ∙ ap (slice_get xs) place ∙ slice_get-get_or xs i x less ∙ ap Some (sym is)

pub item-or : {X : Type 0} (xs ys : List X) (i k : ℕ) (d : X) → xs ≡ ys → k ≡ i → i < length xs → slice_get ys k ≡ Some (get_or xs i d)
item-or xs ys i k d same place less = ap (λ zs. slice_get zs k) (sym same) ∙ ap (slice_get xs) place ∙ slice_get-get_or xs i d less

-- what no element so far is, and the next one isn't, no element up to that one is
pub told-more : {X : Type 0} (Is : X → Type 0) (xs : List X) (i : ℕ) (x : X) → x ≡ get_or xs i x → ((k : ℕ) (y : X) → k < i → get_or xs k y ≡ y → ¬ Is y)
    → ¬ Is x → i < length xs → (k : ℕ) (y : X) → k < i + 1 → get_or xs k y ≡ y → ¬ Is y
told-more Is xs i x at none not inside k y less here = by (cases_lt k i)
  where
    by : (k < i) ⊎ (i ≤ k) → ¬ Is y
    by (inl before) = none k y before here
    by (inr after) =
        let same : k ≡ i = omega (arith, less, after) in
        let one : slice_get xs k ≡ Some y = slice_get-get_or xs k y (omega (arith, inside, same)) ∙ ap Some here in
        let other : slice_get xs i ≡ Some x = slice_get-get_or xs i x inside ∙ ap Some (sym at) in
        let both : y ≡ x = same_Some y x (sym one ∙ ap (slice_get xs) same ∙ other) in
        subst (λ z. ¬ Is z) (sym both) not
