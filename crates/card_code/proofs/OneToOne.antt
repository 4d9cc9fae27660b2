-- A list of pairs in which nothing stands twice, looked up both ways.
use Rattle.std.proofs.Common.{◌≡◌, ℕ, ◌<◌, ◌⊎◌, inl, inr, suc, zero, List, [], ◌∷◌, length, ap, ap₂, refl, subst, arith, Bool, true, false, not, ◌&&◌, is_some, Option, Some, Contains, ◌==◌, if◌then◌else◌, slice_index_or}
use Rattle.std.proofs.lemmas.Grind.{common_steps}
use Rattle.std.proofs.lemmas.Bool.Decides.{nat_tests}
use Rattle.card_code.specs.CardCode.{character_in, code, is_one_to_one, rows_in}

-- a look-up that is met at once
met : (key value sought found : ℕ) (rest : Option ℕ) → key ≡ sought → value ≡ found →
    (if key == sought then Some value else rest) ≡ Some found
met key value sought found rest e f = grind (arith, nat_tests, common_steps)

-- a look-up that goes on
goes_on : (key value sought found : ℕ) (rest : Option ℕ) → rest ≡ Some found →
    (key ≡ sought → is_some rest ≡ false) → (if key == sought then Some value else rest) ≡ Some found
goes_on key value sought found rest e once = grind (arith, nat_tests, common_steps)

-- where a value was found
found_at : (key value sought found : ℕ) (rest : Option ℕ) →
    (if key == sought then Some value else rest) ≡ Some found →
    ((key ≡ sought) × (value ≡ found)) ⊎ (rest ≡ Some found)
found_at key value sought found rest e = grind (arith, nat_tests, common_steps)

-- the three parts of the test
parts : (x y z : Bool) → (not x && not y && z) ≡ true → (x ≡ false) × (y ≡ false) × (z ≡ true)
parts x y z e = grind (arith, nat_tests, common_steps)

-- the first pair
first_pair : (pair : ℕ × ℕ) (pairs : List (ℕ × ℕ)) (character set : ℕ) → pair.0 ≡ character → pair.1 ≡ set →
    Contains (pair ∷ pairs) (character, set)
first_pair pair pairs character set e f = (0, omega arith, ap₂ (λ c s. (c, s)) e f)

-- a further pair
later_pair : (pair : ℕ × ℕ) (pairs : List (ℕ × ℕ)) (x : ℕ × ℕ) → Contains pairs x → Contains (pair ∷ pairs) x
later_pair pair pairs x c = let within = c.1 in (suc c.0, omega arith, c.2)

-- the rows that are found stand beside the character
pub Contains-rows : (pairs : List (ℕ × ℕ)) (character set : ℕ) → rows_in pairs character ≡ Some set →
    Contains pairs (character, set)
Contains-rows [] character set e = cc
Contains-rows (pair ∷ pairs) character set e =
    elim (found_at pair.0 pair.1 character set (rows_in pairs character) e) [
      | inl h ↦ first_pair pair pairs character set h.0 h.1
      | inr h ↦ later_pair pair pairs (character, set) (Contains-rows pairs character set h)
    ]

-- the character that is found stands beside the rows
pub Contains-character : (pairs : List (ℕ × ℕ)) (character set : ℕ) →
    character_in pairs set ≡ Some character → Contains pairs (character, set)
Contains-character [] character set e = cc
Contains-character (pair ∷ pairs) character set e =
    elim (found_at pair.1 pair.0 set character (character_in pairs set) e) [
      | inl h ↦ first_pair pair pairs character set h.1 h.0
      | inr h ↦ later_pair pair pairs (character, set) (Contains-character pairs character set h)
    ]

-- a pair is found by its character and by its rows
both_at : (pairs : List (ℕ × ℕ)) (k character set : ℕ) → is_one_to_one pairs ≡ true → k < length pairs →
    slice_index_or pairs k (character, set) ≡ (character, set) →
    (rows_in pairs character ≡ Some set) × (character_in pairs set ≡ Some character)
both_at [] k character set once within at = absurd (omega arith)
both_at (pair ∷ pairs) zero character set once within at =
    let e : pair.0 ≡ character = ap (λ p. p.0) at in
    let f : pair.1 ≡ set = ap (λ p. p.1) at in (
      met pair.0 pair.1 character set (rows_in pairs character) e f,
      met pair.1 pair.0 set character (character_in pairs set) f e,
    )
both_at (pair ∷ pairs) (suc k) character set once within at =
    let rows = rows_in pairs in
    let characters = character_in pairs in
    let apart = parts (is_some (rows pair.0)) (is_some (characters pair.1)) (is_one_to_one pairs) once in
    let later = both_at pairs k character set apart.2 (omega arith) at in
    let one_character = λ (e : pair.0 ≡ character). subst (λ c. is_some (rows c) ≡ false) e apart.0 in
    let one_set = λ (e : pair.1 ≡ set). subst (λ s. is_some (characters s) ≡ false) e apart.1 in (
      goes_on pair.0 pair.1 character set (rows character) later.0 one_character,
      goes_on pair.1 pair.0 set character (characters set) later.1 one_set,
    )

-- nothing stands twice in the card code
pub code-once : is_one_to_one code ≡ true
unfolding code
code-once = refl

-- a pair is found by its character
pub rows_in-pair : (pairs : List (ℕ × ℕ)) (character set : ℕ) → is_one_to_one pairs ≡ true →
    Contains pairs (character, set) → rows_in pairs character ≡ Some set
rows_in-pair pairs character set once pair = (both_at pairs pair.0 character set once pair.1 pair.2).0

-- a pair is found by its rows
pub character_in-pair : (pairs : List (ℕ × ℕ)) (character set : ℕ) → is_one_to_one pairs ≡ true →
    Contains pairs (character, set) → character_in pairs set ≡ Some character
character_in-pair pairs character set once pair = (both_at pairs pair.0 character set once pair.1 pair.2).1
