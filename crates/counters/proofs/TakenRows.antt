-- What a group takes at a row, by the bits of a word.
use Rattle.std.proofs.Common.{◌≡◌, ◌∙◌, refl, sym, ap, ℕ, ◌+◌, ◌-◌, ◌<◌, ◌≤◌, Bool, true, List, [], ◌∷◌, length, zero, suc, take, reverse, get_or, ◌++◌, arith, if◌then◌else◌}
use Rattle.std.proofs.lemmas.Grind.{same_number_lists}
use Rattle.std.proofs.lemmas.List.{get_or-reverse, length-reverse}
use Rattle.std.proofs.Math.Seq.{take-append_seam}
use Rattle.hubs.specs.declared.hub.Hub.{Hub}
use Rattle.hubs.specs.declared.hub.Hub.TheVariants.{GE}
use Rattle.net.specs.HubSets.{is_bit}
use Rattle.counters.specs.OwnHubs.{all_taken-same}
use Rattle.counters.specs.Counters.{Counter, all_taken, entered_after, taken, takes}

-- what a group has entered after a row where it takes digits
pub entered_after-taking :
    (counter : Counter) (row : ℕ) (picture : Hub → Bool) (impulsed : ℕ → Bool) (width : ℕ) (new : List ℕ)
    → takes counter.controls row ≡ true → length counter.entered ≤ width
    → ((position : ℕ) → 1 ≤ position → position ≤ width → impulsed position ≡ picture (GE counter.name position))
    → new ≡ all_taken row impulsed counter.entered
    → new ≡ entered_after counter row picture
entered_after-taking counter row picture impulsed width new taking long same is =
    is
    ∙ all_taken-same row impulsed (λ position. picture (GE counter.name position)) counter.entered width long same
    ∙ sym (ap (λ b. if b then all_taken row (λ position. picture (GE counter.name position)) counter.entered else counter.entered) taking)

-- a row is taken by as many positions as there are
pub length-all_taken : (row : ℕ) (impulsed : ℕ → Bool) (entered : List ℕ) → length (all_taken row impulsed entered) ≡ length entered
length-all_taken row impulsed [] = refl
length-all_taken row impulsed (x ∷ below) = ap suc (length-all_taken row impulsed below)

-- the first of two parts, by its length
pub take-first_part : (n : ℕ) (xs ys : List ℕ) → length xs ≡ n → take n (xs ++ ys) ≡ xs
take-first_part n xs ys long = ap (λ k. take k (xs ++ ys)) (sym long) ∙ take-append_seam xs ys

-- what becomes of each digit by its place, counted from the top
pub reversed-at : (becomes : ℕ → ℕ → ℕ) (old new : List ℕ) → length new ≡ length old
    → ((k : ℕ) → k < length old → get_or new k 0 ≡ becomes k (get_or old k 0))
    → (k : ℕ) → k < length old → get_or (reverse new) k 0 ≡ becomes (length old - 1 - k) (get_or (reverse old) k 0)
reversed-at becomes old new long each k near =
    let place : length new - 1 - k ≡ length old - 1 - k = omega (arith, long) in
    get_or-reverse new k 0 (omega (arith, near, long))
    ∙ ap (λ i. get_or new i 0) place
    ∙ each (length old - 1 - k) (omega (arith, near))
    ∙ ap (becomes (length old - 1 - k)) (sym (get_or-reverse old k 0 near))

-- each position takes the row by its test
all_taken-at : (row : ℕ) (impulsed : ℕ → Bool) (entered : List ℕ) (k : ℕ) → k < length entered
    → get_or (all_taken row impulsed entered) k 0 ≡ taken row (impulsed (length entered - k)) (get_or entered k 0)
all_taken-at row impulsed [] k near = absurd (omega (arith, near))
all_taken-at row impulsed (x ∷ below) zero near =
    let place : length below + 1 ≡ length (x ∷ below) - 0 = omega arith in ap (λ p. taken row (impulsed p) x) place
all_taken-at row impulsed (x ∷ below) (suc k) near =
    let place : length below - k ≡ length (x ∷ below) - suc k = omega arith in
    all_taken-at row impulsed below k (omega (arith, near)) ∙ ap (λ p. taken row (impulsed p) (get_or below k 0)) place

-- where each position has taken a row by its bit, from the units on, all of them have, from the top down
pub taken-by_bits : (row bits : ℕ) (old new : List ℕ) → length new ≡ length old
    → ((k : ℕ) → k < length old → get_or new k 0 ≡ taken row (is_bit bits k) (get_or old k 0))
    → reverse new ≡ all_taken row (λ position. is_bit bits (position - 1)) (reverse old)
taken-by_bits row bits old new long each =
    same_number_lists (reverse new) (all_taken row impulsed (reverse old))
    (length-reverse new ∙ long ∙ sym (length-all_taken row impulsed (reverse old) ∙ length-reverse old))
    (λ k near.
    let low : k < length old = omega (arith, near, long, length-reverse new) in
    let place : length old - 1 - k ≡ length (reverse old) - k - 1 = omega (arith, length-reverse old) in
    reversed-at (λ k d. taken row (is_bit bits k) d) old new long each k low
    ∙ ap (λ b. taken row (is_bit bits b) (get_or (reverse old) k 0)) place
    ∙ sym (all_taken-at row impulsed (reverse old) k (omega (arith, low, length-reverse old))))
  where
    impulsed : ℕ → Bool
    impulsed position = is_bit bits (position - 1)
