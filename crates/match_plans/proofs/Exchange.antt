-- Numbers that are taken one after the other, each that of a part which the wires name and which is not yet taken. They are those of a plan,
-- if each part that is named is that of a place which may change its part with the one at hand.
use Rattle.std.proofs.Common.{◌≡◌, ◌≢◌, ◌∙◌, refl, sym, ap, subst, ℕ, zero, suc, ◌<◌, ◌≤◌, ◌⊎◌, inl, inr, List, [], ◌∷◌, ◌++◌, Contains, Some, length, get_or, slice_get, arith}
use Rattle.std.proofs.lemmas.Bool.{cases_lt}
use Rattle.std.proofs.lemmas.Option.{slice_get-get_or, slice_get_within}
use Rattle.chart_lines.proofs.ChartsWords.Listed.{listed-at}
use Rattle.chart_plans.specs.PlansWords.PartNumbers.{AreApart, AreNumbers, AreThere}

-- a list with another element at a place
abbrev put : List ℕ → ℕ → ℕ → List ℕ
put [] place x = []
put (y ∷ ys) zero x = x ∷ ys
put (y ∷ ys) (suc k) x = y ∷ put ys k x

length-put : (ys : List ℕ) (place x : ℕ) → length (put ys place x) ≡ length ys
length-put [] place x = refl
length-put (y ∷ ys) zero x = refl
length-put (y ∷ ys) (suc k) x = ap suc (length-put ys k x)

get-put : (ys : List ℕ) (place x : ℕ) → place < length ys → slice_get (put ys place x) place ≡ Some x
get-put [] place x less = absurd (omega (arith, less))
get-put (y ∷ ys) zero x less = refl
get-put (y ∷ ys) (suc k) x less = get-put ys k x (omega (arith, less))

get-put-other : (ys : List ℕ) (place x k : ℕ) → k ≢ place → slice_get (put ys place x) k ≡ slice_get ys k
get-put-other [] place x k apart = refl
get-put-other (y ∷ ys) zero x zero apart = absurd (apart refl)
get-put-other (y ∷ ys) zero x (suc k) apart = refl
get-put-other (y ∷ ys) (suc place) x zero apart = refl
get-put-other (y ∷ ys) (suc place) x (suc k) apart = get-put-other ys place x k (λ same. apart (ap suc same))

-- two lists of numbers that differ in that two places have changed theirs
pub record Exchanged (numbers others : List ℕ) (one other : ℕ) : Type 0 where
  pub many : length others ≡ length numbers
  pub first : slice_get others one ≡ slice_get numbers other
  pub second : slice_get others other ≡ slice_get numbers one
  pub rest : (place : ℕ) → place ≢ one → place ≢ other → slice_get others place ≡ slice_get numbers place

pub turned : {numbers others : List ℕ} {one other : ℕ} → Exchanged numbers others one other → Exchanged others numbers one other
turned e = record {
  many = sym e.many;
  first = sym e.second;
  second = sym e.first;
  rest = λ place not_one not_other. sym (e.rest place not_one not_other);
}

-- where each number of the others stands in the numbers
pub data Whose (one other place k : ℕ) : Type 0 where
  stays : place ≢ one → place ≢ other → k ≡ place → Whose one other place k
  ahead : place ≡ one → k ≡ other → Whose one other place k
  back : place ≡ other → k ≡ one → Whose one other place k

pub record From (numbers others : List ℕ) (one other place : ℕ) : Type 0 where
  pub k : ℕ
  pub is : slice_get others place ≡ slice_get numbers k
  pub whose : Whose one other place k

equal : (n m : ℕ) → (n ≡ m) ⊎ (n ≢ m)
equal n m = by (cases_lt n m) (cases_lt m n)
  where
    by : (n < m) ⊎ (m ≤ n) → (m < n) ⊎ (n ≤ m) → (n ≡ m) ⊎ (n ≢ m)
    by (inl less) more = inr (λ same. omega (arith, less, same))
    by (inr most) (inl less) = inr (λ same. omega (arith, less, same))
    by (inr most) (inr least) = inl (omega (arith, most, least))

pub from-where : {numbers others : List ℕ} {one other : ℕ} → Exchanged numbers others one other → (place : ℕ)
    → From numbers others one other place
from-where {numbers} {others} {one} {other} e place = by (equal place one) (equal place other)
  where
    by : (place ≡ one) ⊎ (place ≢ one) → (place ≡ other) ⊎ (place ≢ other) → From numbers others one other place
    by (inl same) at = record { k = other; is = ap (slice_get others) same ∙ e.first; whose = ahead same refl }
    by (inr apart) (inl same) = record { k = one; is = ap (slice_get others) same ∙ e.second; whose = back same refl }
    by (inr apart) (inr apart_too) = record { k = place; is = e.rest place apart apart_too; whose = stays apart apart_too refl }

-- such numbers are those of parts of their own, if the others are
pub numbers-exchanged : {numbers others : List ℕ} {one other : ℕ} (last things : ℕ) → Exchanged numbers others one other
    → AreNumbers last things numbers → AreNumbers last things others
numbers-exchanged {numbers} {others} {one} {other} last things e are = record {
  many = e.many ∙ are.many;
  there = λ place number at. let f = from-where e place in are.there f.k number (sym f.is ∙ at);
  own = λ a b number at_a at_b.
      let f = from-where e a in
      let g = from-where e b in
      let same : f.k ≡ g.k = are.own f.k g.k number (sym f.is ∙ at_a) (sym g.is ∙ at_b) in
      places a b f.k g.k same f.whose g.whose;
}
  where
    places : (a b k m : ℕ) → k ≡ m → Whose one other a k → Whose one other b m → a ≡ b
    places a b k m same (stays not_one not_other p) (stays q r s) = sym p ∙ same ∙ s
    places a b k m same (stays not_one not_other p) (ahead q r) = absurd (not_other (sym p ∙ same ∙ r))
    places a b k m same (stays not_one not_other p) (back q r) = absurd (not_one (sym p ∙ same ∙ r))
    places a b k m same (ahead p q) (stays not_one not_other r) = absurd (not_other (sym r ∙ sym same ∙ q))
    places a b k m same (ahead p q) (ahead r s) = p ∙ sym r
    places a b k m same (ahead p q) (back r s) = p ∙ sym s ∙ sym same ∙ q ∙ sym r
    places a b k m same (back p q) (stays not_one not_other r) = absurd (not_one (sym r ∙ sym same ∙ q))
    places a b k m same (back p q) (ahead r s) = p ∙ sym s ∙ sym same ∙ q ∙ sym r
    places a b k m same (back p q) (back r s) = p ∙ sym r

-- a place changes its number with another
exchange : (numbers : List ℕ) (one other first second : ℕ) → slice_get numbers one ≡ Some first → slice_get numbers other ≡ Some second
    → Exchanged numbers (put (put numbers one second) other first) one other
exchange numbers one other first second at_one at_other =
    let within = slice_get_within numbers one first at_one in
    let within_too = slice_get_within numbers other second at_other in
    record {
      many = length-put (put numbers one second) other first ∙ length-put numbers one second;
      first = by (equal one other);
      second = get-put (put numbers one second) other first (omega (arith, within_too, length-put numbers one second)) ∙ sym at_one;
      rest = λ place not_one not_other.
          get-put-other (put numbers one second) other first place not_other ∙ get-put-other numbers one second place not_one;
    }
  where
    by : (one ≡ other) ⊎ (one ≢ other) → slice_get (put (put numbers one second) other first) one ≡ slice_get numbers other
    by (inl same) =
        let within_too = slice_get_within numbers other second at_other in
        ap (slice_get (put (put numbers one second) other first)) same
        ∙ get-put (put numbers one second) other first (omega (arith, within_too, length-put numbers one second))
        ∙ sym at_one ∙ ap (slice_get numbers) same
    by (inr apart) =
        let within = slice_get_within numbers one first at_one in
        get-put-other (put numbers one second) other first one apart ∙ get-put numbers one second within ∙ sym at_other

-- the first of some numbers
abbrev pub Begins : (items numbers : List ℕ) → Type 0
Begins items numbers = (place number : ℕ) → slice_get items place ≡ Some number → slice_get numbers place ≡ Some number

begins-whole : (items numbers : List ℕ) → length items ≡ length numbers → Begins items numbers → items ≡ numbers
begins-whole [] [] same begins = refl
begins-whole [] (y ∷ ys) same begins = cc
begins-whole (x ∷ xs) [] same begins = cc
begins-whole (x ∷ xs) (y ∷ ys) same begins =
    let own = begins 0 x refl in
    let head : x ≡ y = cc in
    let tail = begins-whole xs ys (omega (arith, same)) (λ place number at. begins (suc place) number at) in
    ap (λ z. z ∷ xs) head ∙ ap (λ zs. y ∷ zs) tail

-- what one more has at a place
after-more : (items : List ℕ) (next place number : ℕ) → slice_get (items ++ next ∷ []) place ≡ Some number
    → (slice_get items place ≡ Some number) ⊎ ((place ≡ length items) × (number ≡ next))
after-more [] next zero number at = let same : number ≡ next = cc in inr (refl, same)
after-more [] next (suc k) number at = cc
after-more (x ∷ xs) next zero number at = inl at
after-more (x ∷ xs) next (suc k) number at = by (after-more xs next k number at)
  where
    by : (slice_get xs k ≡ Some number) ⊎ ((k ≡ length xs) × (number ≡ next))
        → (slice_get xs k ≡ Some number) ⊎ ((suc k ≡ suc (length xs)) × (number ≡ next))
    by (inl before) = inl before
    by (inr (same, is)) = inr (ap suc same, is)

-- numbers that will do, of which the items are the first
pub record Goes (Good : List ℕ → Type 0) (things : ℕ) (items : List ℕ) : Type 0 where
  pub numbers : List ℕ
  pub good : Good numbers
  pub many : length numbers ≡ things
  pub begins : Begins items numbers

-- a place whose part may change with that of another has it
pub record Holds (Alike : ℕ → ℕ → Type 0) (numbers : List ℕ) (place number : ℕ) : Type 0 where
  pub other : ℕ
  pub is : slice_get numbers other ≡ Some number
  pub alike : Alike place other

module _ (Good : List ℕ → Type 0) (Alike : ℕ → ℕ → Type 0) (things : ℕ)
    (change : (numbers others : List ℕ) (one other : ℕ) → Good numbers → Alike one other → Exchanged numbers others one other → Good others) where
  pub goes-all : {items : List ℕ} → things ≤ length items → Goes Good things items → Good items
  goes-all {items} all goes =
      let few = goes.many in
      subst Good (sym (begins-whole items goes.numbers same goes.begins)) goes.good
    where
      same : length items ≡ length goes.numbers
      same = omega (arith, all, most, goes.many)
        where
          most : length items ≤ length goes.numbers
          most = at-most items goes.numbers goes.begins
            where
              at-most : (xs ys : List ℕ) → Begins xs ys → length xs ≤ length ys
              at-most [] ys begins = omega arith
              at-most (x ∷ xs) [] begins = let wrong = begins 0 x refl in cc
              at-most (x ∷ xs) (y ∷ ys) begins =
                  let later = at-most xs ys (λ place number at. begins (suc place) number at) in
                  omega (arith, later)

  -- one more, where a place that is alike has the number and no item is it
  pub goes-more : {items : List ℕ} (number : ℕ) → length items < things → ¬ Contains items number
      → ((numbers : List ℕ) → Good numbers → Holds Alike numbers (length items) number) → Goes Good things items
      → Goes Good things (items ++ number ∷ [])
  goes-more {items} number less fresh held goes =
      let few = goes.many in
      let within : length items < length goes.numbers = omega (arith, less, few) in
      let h = held goes.numbers goes.good in
      let own = get_or goes.numbers (length items) 0 in
      let e = exchange goes.numbers (length items) h.other own number (slice_get-get_or goes.numbers (length items) 0 within) h.is in
      record {
        numbers = put (put goes.numbers (length items) number) h.other own;
        good = change goes.numbers (put (put goes.numbers (length items) number) h.other own) (length items) h.other goes.good h.alike e;
        many = e.many ∙ goes.many;
        begins = λ place its at. by place its h.other h.is e (after-more items number place its at);
      }
    where
      by : (place its other : ℕ) {others : List ℕ} → slice_get goes.numbers other ≡ Some number
          → Exchanged goes.numbers others (length items) other
          → (slice_get items place ≡ Some its) ⊎ ((place ≡ length items) × (its ≡ number)) → slice_get others place ≡ Some its
      by place its other {others} is e (inr (same, is_number)) =
          ap (slice_get others) same ∙ e.first ∙ is ∙ ap Some (sym is_number)
      by place its other {others} is e (inl before) =
          let low = slice_get_within items place its before in
          let at = goes.begins place its before in
          e.rest place (λ same. omega (arith, low, same))
          (λ same.
          let number_there : slice_get items place ≡ Some number =
          before ∙ sym at ∙ ap (slice_get goes.numbers) same ∙ is in
          fresh (listed-at items place number number_there))
          ∙ at

  -- and there is one where some place has it
  pub goes-on : {items : List ℕ} (last : ℕ) (Named : ℕ → Type 0) → length items < things
      → ((numbers : List ℕ) → Good numbers → AreThere last numbers × AreApart numbers
      × ((number : ℕ) → slice_get numbers (length items) ≡ Some number → Named number))
      → ((number : ℕ) → 1 ≤ number → number ≤ last → Named number → Contains items number)
      → Goes Good things items → ⊥
  goes-on {items} last Named less known none goes =
      let few = goes.many in
      let within : length items < length goes.numbers = omega (arith, less, few) in
      let (there, apart, named) = known goes.numbers goes.good in
      let own = get_or goes.numbers (length items) 0 in
      let at = slice_get-get_or goes.numbers (length items) 0 within in
      let range = there (length items) own at in
      let (k, inside, is) = none own range.0 range.1 (named own at) in
      let here : slice_get items k ≡ Some own = slice_get-get_or items k own inside ∙ ap Some is in
      let same = apart (length items) k own at (goes.begins k own here) in
      omega (arith, same, inside)
