-- The front of two texts, one behind the other.
use Rattle.std.proofs.Common.{◌≡◌, ◌∙◌, ◌⊎◌, refl, sym, ap, subst, ℕ, suc, ◌+◌, List, [], ◌∷◌, ◌++◌, Option, length, take, arith, length-append}
use Rattle.std.proofs.KnownBytes.{Appends-trans}
use Rattle.std.specs.Io.KnownBytes.{Appends}
use Rattle.cli_decks.specs.CheckCalls.DeckChecks.HelperStanding.{BreaksOff}
use Rattle.fault_lines.specs.declared.faults.fault.Fault.{Fault}
use Rattle.fault_lines.specs.declared.faults.fault.Fault.TheVariants as fault

-- a front that has all of the first text
take_over : {X : Type 0} (first second : List X) (count : ℕ) → take (length first + count) (first ++ second) ≡ first ++ take count second
take_over {X} [] second count =
    let none : 0 + count ≡ count = omega arith in
    ap (λ (n : ℕ). take n second) none
take_over {X} (x ∷ first) second count =
    let more : suc (length first) + count ≡ suc (length first + count) = omega arith in
    ap (λ (n : ℕ). take n (x ∷ (first ++ second))) more ∙ ap (λ (l : List X). x ∷ l) (take_over first second count)

-- the first is taken, and the front of the second
pub taken_behind : (first second : List ℕ) (old mid new : Option (List ℕ)) (told : Fault) → Appends old mid first → BreaksOff second mid new told
    → BreaksOff (first ++ second) old new told
taken_behind first second old mid new told before breaks = record {
  count = length first + breaks.count;
  within = omega (arith, length-append first second, breaks.within);
  taken =
      subst (Appends old new) (sym (take_over first second breaks.count))
      (Appends-trans old mid new first (take breaks.count second) before breaks.taken);
  named = breaks.named;
}

-- the first alone is taken
pub taken_before : (first second : List ℕ) (old mid : Option (List ℕ)) (told : Fault) → Appends old mid first
    → (told ≡ fault.Memory) ⊎ (told ≡ fault.Write) → BreaksOff (first ++ second) old mid told
taken_before first second old mid told before named = record {
  count = length first;
  within = omega (arith, length-append first second);
  taken = subst (Appends old mid) (sym (all first second)) before;
  named = named;
}
  where
    all : (first second : List ℕ) → take (length first) (first ++ second) ≡ first
    all [] second = refl
    all (x ∷ first) second = ap (λ l. x ∷ l) (all first second)
