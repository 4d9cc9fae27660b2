-- Fourteen points, one after another: the picture that is seen at each, and what is reached by them. The state is any.
use Rattle.std.proofs.Common.{◌≡◌, ◌∙◌, sym, ap, subst, ℕ, zero, suc, ◌+◌, ◌<◌, ◌==◌, ◌⊎◌, inl, inr, Bool, true, false, List, [], ◌∷◌, map, arith, if◌then◌else◌}
use Rattle.std.proofs.Math.ListN.{get_or-map}
use Rattle.std.proofs.lemmas.Bool.Decides.{nat_tests}
use Rattle.std.proofs.lemmas.List.FromFn.{get_or-range_with_len}
use Rattle.card_code.specs.Rows.{rows, passing_place}
use Rattle.card_code.specs.declared.row.Row.{Row as CardRow}
use Rattle.card_code.specs.declared.row.Row.TheVariants.{Zero, One, Two, Three, Four, Five, Six, Seven, Eight, Nine, Eleven, Twelve}
use Rattle.hubs.specs.declared.hub.Hub.{Hub}
use Rattle.net.specs.Cycles.{points}
use Rattle.net.specs.declared.cycle.Point.{Point}
use Rattle.net.specs.declared.cycle.Point.TheVariants.{C, Row, K}
use Rattle.machine.specs.Cycles.{point_at}

-- what a state becomes by the pictures of some points, one after another
abbrev pub after : {M : Type 0} → (M → Point → (Hub → Bool) → M) → (Point → Hub → Bool) → List Point → M → M
after sense pictures [] state = state
after sense pictures (point ∷ others) state = after sense pictures others (sense state point (pictures point))

-- One point: a picture that the state has there is sensed.
pub record Step {M : Type 0} (sense : M → Point → (Hub → Bool) → M) (Has : M → Point → (Hub → Bool) → Type 0)
    (point : Point) (old new : M) : Type 0 where
  pub picture : Hub → Bool
  pub has : Has old point picture
  pub is_new : new ≡ sense old point picture

-- the points up to a place
unfoldable pub Walk : {M : Type 0} → (M → Point → (Hub → Bool) → M) → (M → Point → (Hub → Bool) → Type 0) → ℕ → M → M → Type 0
Walk sense Has zero old now = now ≡ old
Walk {M} sense Has (suc place) old now =
    (mid : M) × Walk sense Has place old mid × Step sense Has (point_at place) mid now

-- the rows before a row
abbrev pub rows_before : CardRow → List CardRow
rows_before Nine = []
rows_before Eight = Nine ∷ []
rows_before Seven = Nine ∷ Eight ∷ []
rows_before Six = Nine ∷ Eight ∷ Seven ∷ []
rows_before Five = Nine ∷ Eight ∷ Seven ∷ Six ∷ []
rows_before Four = Nine ∷ Eight ∷ Seven ∷ Six ∷ Five ∷ []
rows_before Three = Nine ∷ Eight ∷ Seven ∷ Six ∷ Five ∷ Four ∷ []
rows_before Two = Nine ∷ Eight ∷ Seven ∷ Six ∷ Five ∷ Four ∷ Three ∷ []
rows_before One = Nine ∷ Eight ∷ Seven ∷ Six ∷ Five ∷ Four ∷ Three ∷ Two ∷ []
rows_before Zero = Nine ∷ Eight ∷ Seven ∷ Six ∷ Five ∷ Four ∷ Three ∷ Two ∷ One ∷ []
rows_before Eleven = Nine ∷ Eight ∷ Seven ∷ Six ∷ Five ∷ Four ∷ Three ∷ Two ∷ One ∷ Zero ∷ []
rows_before Twelve = Nine ∷ Eight ∷ Seven ∷ Six ∷ Five ∷ Four ∷ Three ∷ Two ∷ One ∷ Zero ∷ Eleven ∷ []

-- All points by their pictures: each is one that the state after the points before it has.
pub record IsWalked {M : Type 0} (sense : M → Point → (Hub → Bool) → M) (Has : M → Point → (Hub → Bool) → Type 0) (old now : M) :
    Type 0 where
  pub pictures : Point → Hub → Bool
  pub control : Has old C (pictures C)
  pub at_rows :
      (row : CardRow) → Has (after sense pictures (C ∷ map Row (rows_before row)) old) (Row row) (pictures (Row row))
  pub closing : Has (after sense pictures (C ∷ map Row rows) old) K (pictures K)
  pub reached : now ≡ after sense pictures points old

-- the state before the point with a place
after_places : {M : Type 0} → (M → Point → (Hub → Bool) → M) → (Point → Hub → Bool) → ℕ → M → M
after_places sense pictures zero state = state
after_places sense pictures (suc place) state =
    sense (after_places sense pictures place state) (point_at place) (pictures (point_at place))

-- the pictures agree with those of a walk
Agrees : {M : Type 0} (sense : M → Point → (Hub → Bool) → M) (Has : M → Point → (Hub → Bool) → Type 0) (old : M)
    → (Point → Hub → Bool) → (place : ℕ) (now : M) → Walk sense Has place old now → Type 0
unfolding Walk
Agrees sense Has old pictures zero now same = Unit {0}
Agrees sense Has old pictures (suc place) now (mid, walk, step) =
    (pictures (point_at place) ≡ step.picture) × Agrees sense Has old pictures place mid walk

-- what a walk reaches, by its pictures
reached : {M : Type 0} (sense : M → Point → (Hub → Bool) → M) (Has : M → Point → (Hub → Bool) → Type 0) (old : M)
    → (pictures : Point → Hub → Bool) (place : ℕ) (now : M) (walk : Walk sense Has place old now)
    → Agrees sense Has old pictures place now walk → now ≡ after_places sense pictures place old
unfolding Walk after_places Agrees
reached sense Has old pictures zero now same agrees = same
reached sense Has old pictures (suc place) now (mid, walk, step) (here, agrees) =
    let before = reached sense Has old pictures place mid walk agrees in
    step.is_new ∙ (λ i. sense (before i) (point_at place) (sym here i))

-- each point of a walk has its picture
had : {M : Type 0} (sense : M → Point → (Hub → Bool) → M) (Has : M → Point → (Hub → Bool) → Type 0) (old : M)
    → (pictures : Point → Hub → Bool) (place : ℕ) (now : M) (walk : Walk sense Has place old now)
    → Agrees sense Has old pictures place now walk → (k : ℕ) → k < place
    → Has (after_places sense pictures k old) (point_at k) (pictures (point_at k))
unfolding Walk after_places Agrees
had sense Has old pictures zero now same agrees k less = absurd (omega (arith, less))
had {M} sense Has old pictures (suc place) now (mid, walk, step) (here, agrees) k less =
    by (last_or_less k place less) (λ before. had sense Has old pictures place mid walk agrees k before)
  where
    last_or_less : (a b : ℕ) → a < suc b → (a ≡ b) ⊎ (a < b)
    last_or_less a b less = grind (arith, less)

    by : (k ≡ place) ⊎ (k < place) → (k < place → Has (after_places sense pictures k old) (point_at k) (pictures (point_at k)))
        → Has (after_places sense pictures k old) (point_at k) (pictures (point_at k))
    by (inr before) others = others before
    by (inl last) others =
        subst (λ (n : ℕ). Has (after_places sense pictures n old) (point_at n) (pictures (point_at n))) (sym last)
        (subst (λ (m : M). Has m (point_at place) (pictures (point_at place)))
        (reached sense Has old pictures place mid walk agrees)
        (subst (λ (picture : Hub → Bool). Has mid (point_at place) picture) (sym here) step.has))

-- the picture of the point with a place
picture_at : {M : Type 0} (sense : M → Point → (Hub → Bool) → M) (Has : M → Point → (Hub → Bool) → Type 0) (old : M)
    → (place : ℕ) (now : M) → Walk sense Has place old now → ℕ → Hub → Bool
unfolding Walk
picture_at sense Has old zero now same k = λ hub. false
picture_at sense Has old (suc place) now (mid, walk, step) k =
    if k == place then step.picture else picture_at sense Has old place mid walk k

-- pictures that are a walk's by their places agree with it
agreeing : {M : Type 0} (sense : M → Point → (Hub → Bool) → M) (Has : M → Point → (Hub → Bool) → Type 0) (old : M)
    → (pictures : Point → Hub → Bool) (place : ℕ) (now : M) (walk : Walk sense Has place old now)
    → ((k : ℕ) → k < place → pictures (point_at k) ≡ picture_at sense Has old place now walk k)
    → Agrees sense Has old pictures place now walk
unfolding Walk Agrees picture_at
agreeing sense Has old pictures zero now same is = tt
agreeing sense Has old pictures (suc place) now (mid, walk, step) is =
    let here = is place (omega arith) in
    let others =
    λ (k : ℕ) (less : k < place). is k (omega (arith, less)) ∙ earlier k place less step.picture (picture_at sense Has old place mid walk k) in (
      here ∙ last place step.picture (picture_at sense Has old place mid walk place),
      agreeing sense Has old pictures place mid walk others,
    )
  where
    last : (k : ℕ) (one other : Hub → Bool) → (if k == k then one else other) ≡ one
    last k one other = let same : (k == k) ≡ true = grind (arith, nat_tests) in ap (λ (b : Bool). if b then one else other) same

    earlier : (k place : ℕ) → k < place → (one other : Hub → Bool) → (if k == place then one else other) ≡ other
    earlier k place less one other =
        let differ : (k == place) ≡ false = grind (arith, nat_tests, less) in ap (λ (b : Bool). if b then one else other) differ

-- the place of a point
place_of : Point → ℕ
place_of C = 0
place_of (Row row) = suc (passing_place row)
place_of K = 13

place-point_at : (k : ℕ) → k < 14 → place_of (point_at k) ≡ k
unfolding place_of
place-point_at k less = sym (get_or-map place_of points k K) ∙ get_or-range_with_len 0 14 k 13 less ∙ plain
  where
    plain : 0 + k ≡ k
    plain = omega arith

-- at a row the state is that after the control point and the rows before it
Has-row : {M : Type 0} (sense : M → Point → (Hub → Bool) → M) (Has : M → Point → (Hub → Bool) → Type 0) (old : M)
    → (pictures : Point → Hub → Bool)
    → ((k : ℕ) → k < 14 → Has (after_places sense pictures k old) (point_at k) (pictures (point_at k))) → (row : CardRow)
    → Has (after sense pictures (C ∷ map Row (rows_before row)) old) (Row row) (pictures (Row row))
unfolding after_places
Has-row sense Has old pictures had Nine = had 1 (omega arith)
Has-row sense Has old pictures had Eight = had 2 (omega arith)
Has-row sense Has old pictures had Seven = had 3 (omega arith)
Has-row sense Has old pictures had Six = had 4 (omega arith)
Has-row sense Has old pictures had Five = had 5 (omega arith)
Has-row sense Has old pictures had Four = had 6 (omega arith)
Has-row sense Has old pictures had Three = had 7 (omega arith)
Has-row sense Has old pictures had Two = had 8 (omega arith)
Has-row sense Has old pictures had One = had 9 (omega arith)
Has-row sense Has old pictures had Zero = had 10 (omega arith)
Has-row sense Has old pictures had Eleven = had 11 (omega arith)
Has-row sense Has old pictures had Twelve = had 12 (omega arith)

-- fourteen points have their pictures
pub walked : {M : Type 0} (sense : M → Point → (Hub → Bool) → M) (Has : M → Point → (Hub → Bool) → Type 0) (old now : M)
    → Walk sense Has 14 old now → IsWalked sense Has old now
unfolding after_places
walked sense Has old now walk =
    let pictures : Point → Hub → Bool = λ point. picture_at sense Has old 14 now walk (place_of point) in
    let agrees : Agrees sense Has old pictures 14 now walk =
    agreeing sense Has old pictures 14 now walk (λ k less. ap (picture_at sense Has old 14 now walk) (place-point_at k less)) in
    let has = had sense Has old pictures 14 now walk agrees in
    record {
      pictures = pictures;
      control = has 0 (omega arith);
      at_rows = Has-row sense Has old pictures has;
      closing = has 13 (omega arith);
      reached = reached sense Has old pictures 14 now walk agrees;
    }
