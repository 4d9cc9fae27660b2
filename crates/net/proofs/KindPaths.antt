-- The paths of the kinds of cycles, one kind after the other.
use Rattle.std.proofs.Common.{◌≡◌, ⊎_elim, ℕ, ◌+◌, ◌<◌, ◌++◌, List, [], ◌∷◌, arith, get_or, length, refl, subst, sym}
use Rattle.std.proofs.lemmas.Grind.{common_steps}
use Rattle.std.proofs.lemmas.Bool.{cases_lt}
use Rattle.machine_sets.specs.SpreadsWords.Paths.{PathLinks}
use Rattle.machine_sets.specs.declared.spreads.links.Link.{Link}
use Rattle.net.specs.CyclePaths.{ArePathsOfKind}
use Rattle.net.specs.declared.tellings.Telling.{Telling}

-- so many kinds have their paths
pub record ArePathsBelow (links : List Link) (tellings : List Telling) (count : ℕ) (all : List PathLinks) : Type 0 where
  pub long : length all ≡ count
  pub each :
      (kind : ℕ) (telling : Telling) (paths : PathLinks) → kind < count
      → ArePathsOfKind links kind (get_or tellings kind telling) (get_or all kind paths)

pub paths-first : (links : List Link) (tellings : List Telling) (all : List PathLinks) → all ≡ [] → ArePathsBelow links tellings 0 all
paths-first links tellings all none = rw none (record { long = refl; each = λ kind telling d never. absurd (omega (arith, never)) })

pub paths-more : (links : List Link) (tellings : List Telling) (count : ℕ) (old new : List PathLinks) (paths : PathLinks)
    → new ≡ old ++ paths ∷ [] → ((telling : Telling) → ArePathsOfKind links count (get_or tellings count telling) paths)
    → ArePathsBelow links tellings count old → ArePathsBelow links tellings (count + 1) new
paths-more links tellings count old new paths is here before = rw is (record {
  long =
      let long = before.long in let more : length (old ++ paths ∷ []) ≡ length old + 1 = grind (arith, common_steps) in omega (arith, long, more);
  each = λ kind telling d low. ⊎_elim
      (λ (below : kind < count).
      let long = before.long in
      let inside : kind < length old = omega (arith, below, long) in
      let read : get_or (old ++ paths ∷ []) kind d ≡ get_or old kind d = grind (arith, common_steps, inside) in
      subst (ArePathsOfKind links kind (get_or tellings kind telling)) (sym read) (before.each kind telling d below))
      (λ above.
      let long = before.long in
      let last : kind ≡ count = omega (arith, low, above) in
      let end : kind ≡ length old = omega (arith, last, long) in
      let read : get_or (old ++ paths ∷ []) kind d ≡ paths = grind (arith, common_steps, end) in
      subst (ArePathsOfKind links kind (get_or tellings kind telling)) (sym read)
      (subst (λ (k : ℕ). ArePathsOfKind links k (get_or tellings k telling) paths) (sym last) (here telling)))
      (cases_lt kind count);
})

-- one of sixteen
pub one-of : {X : Type 0} (xs : List X) → length xs ≡ 16 → X
one-of [] sixteen = absurd (omega (arith, sixteen))
one-of (x ∷ xs) sixteen = x
