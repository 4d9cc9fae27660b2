-- A run over a deck goes one way, so that its trace is one.
use Rattle.std.proofs.Common.{◌≡◌, ◌∙◌, sym, ap, subst, refl, ℕ, Bool, true, false, List, [], ◌∷◌, ◌++◌, arith, nat_lt}
use Rattle.std.proofs.lemmas.Bool.Decides.{nat_tests}
use Rattle.std.specs.List.{flat_map}
use Rattle.explain_wheels.specs.RunsWords.{Along, ComesTo, Goes, along_after, at_start, card_in, on}
use Rattle.explain_wheels.proofs.RunsWords.Places.{goes-one, later-due}
use Rattle.hubs.specs.SetupsWords.Wiring.{Wiring}
use Rattle.explain_words.specs.TracesWords.OneTrace.{TracesAreOne}
use Rattle.explain_words.specs.TracesWords.Traces.{AreCycles, CyclesTo, ToldCycle, next, none, told_cycle, told_line}

module _ (wiring : Wiring) (deck : List (List ℕ)) where
  comes-to : {along : Along} {cycles : List ToldCycle} → CyclesTo wiring deck along cycles → ComesTo wiring deck along
  comes-to none = at_start
  comes-to (next cycle along cycles behind told goes) = on cycle along behind (comes-to told) goes

  -- behind as many cycles a run is at one place, and the same cycles are told
  cycles-same : {here there : Along} {one other : List ToldCycle} → CyclesTo wiring deck here one → CyclesTo wiring deck there other
      → here.passed ≡ there.passed → (here ≡ there) × (one ≡ other)
  cycles-same none none same = (refl, refl)
  cycles-same none (next cycle along cycles behind told goes) same = absurd (omega (arith, same))
  cycles-same (next cycle along cycles behind told goes) none same = absurd (omega (arith, same))
  cycles-same (next cycle along cycles behind told goes) (next other also others other_behind also_told also_goes) same =
      let before = cycles-same told also_told (omega (arith, same)) in
      let one =
      goes-one wiring cycle other also behind other_behind (subst (λ (a : Along). Goes wiring cycle a behind) before.0 goes) also_goes in (
        λ i. along_after (one.0 i) (one.1 i) (before.0 i),
        λ i. before.1 i ++ told_cycle (one.0 i) (card_in (one.0 i) (before.0 i).card) (one.1 i) ∷ [],
      )

  -- all cycles of a run are told in one way
  cycles-one : (one other : List ToldCycle) → AreCycles wiring deck one → AreCycles wiring deck other → one ≡ other
  cycles-one one other first second =
      by (nat_lt first.along.passed second.along.passed) (nat_lt second.along.passed first.along.passed) refl refl
    where
      by : (b c : Bool) → nat_lt first.along.passed second.along.passed ≡ b → nat_lt second.along.passed first.along.passed ≡ c
          → one ≡ other
      by true c less also =
          absurd (later-due wiring deck (comes-to first.told) (comes-to second.told) (grind (arith, nat_tests, less)) first.over)
      by false true less also =
          absurd (later-due wiring deck (comes-to second.told) (comes-to first.told) (grind (arith, nat_tests, also)) second.over)
      by false false less also = (cycles-same first.told second.told (grind (arith, nat_tests, less, also))).1

pub traces-one : TracesAreOne
traces-one wiring deck one other first second =
    first.lines ∙ ap (λ (cycles : List ToldCycle). flat_map told_line cycles) (cycles-one wiring deck first.cycles second.cycles first.are_cycles second.are_cycles)
    ∙ sym second.lines
