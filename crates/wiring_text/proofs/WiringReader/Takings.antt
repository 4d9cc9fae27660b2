-- Taking one line of a wiring chart.
use Rattle.std.proofs.Common.{◌≡◌, ℕ, Bool, true, false, [], ◌∷◌, ◌++◌, Result, Ok, refl, ap, sym, inr, subst}
use Rattle.hubs.specs.SetupsWords.Wiring.{Wiring}
use Rattle.hubs.specs.declared.setups.fault.SetupFault.{SetupFault}
use Rattle.wiring_text.specs.WiringReader.TextReading.{Content, IsPut, Puts, Refuses, SoFar, Takes, step}
use Rattle.wiring_text.specs.declared.fault.WiringFault.TheVariants.{LineTwice}
use Rattle.chart_lines.specs.declared.tokens.frame.Content.TheVariants.{Empty, End, Says}
use Rattle.wiring_text.specs.declared.statement.Statement.{Statement}

-- an empty line
pub takes_empty : (content : Content) (number : ℕ) (setup : Wiring) (ended : Bool) → content ≡ Empty
    → Takes content number setup ended setup ended
takes_empty content number setup ended is form said holds =
    let so_far : SoFar = record { said = said; ended = ended } in
    record { next = so_far; stepped = ap (step form.lines number so_far) is; holds = holds; end = refl }

-- the first END
pub takes_end : (content : Content) (number : ℕ) (setup : Wiring) (ended : Bool) → content ≡ End → ended ≡ false
    → Takes content number setup ended setup true
takes_end content number setup ended is before form said holds = record {
  next = record { said = said; ended = true };
  stepped = rw (is, before) refl;
  holds = holds;
  end = refl;
}

-- a statement that is new
pub takes_said : (content : Content) (number : ℕ) (old new : Wiring) (ended : Bool) (statement : Statement)
    (answer : Result Bool SetupFault) → content ≡ Says statement → ended ≡ false → answer ≡ Ok true
    → Puts statement old answer new → Takes content number old ended new ended
takes_said content number old new ended statement answer is before told puts form said holds =
    let put : IsPut form said statement (Ok true) new =
    subst (λ (a : Result Bool SetupFault). IsPut form said statement a new) told (puts form said holds) in
    record {
      next = record { said = said ++ statement ∷ []; ended = false };
      stepped = rw (is, before, put.0, put.1) refl;
      holds = put.2;
      end = sym before;
    }

-- a statement that stood before
pub refuses_said : (content : Content) (number : ℕ) (old new : Wiring) (ended : Bool) (statement : Statement)
    (answer : Result Bool SetupFault) → content ≡ Says statement → ended ≡ false → answer ≡ Ok false
    → Puts statement old answer new → Refuses content number old ended (LineTwice number)
refuses_said content number old new ended statement answer is before told puts form said holds =
    let put : IsPut form said statement (Ok false) new =
    subst (λ (a : Result Bool SetupFault). IsPut form said statement a new) told (puts form said holds) in
    inr (rw (is, before, put) refl)
