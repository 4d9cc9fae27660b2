-- The start of a group, and the end of its cycle.
use Rattle.std.proofs.Common.{◌≡◌, ◌∙◌, ap, ℕ, List, Bool, false, replicate, if◌then◌else◌}
use Rattle.hubs.specs.declared.hub.Group.{Group}
use Rattle.net.specs.declared.cycle.Cycle.{Cycle}
use Rattle.counters.specs.Counters.{Counter, counter_ended, counter_of, digits_ended, no_controls, top_is_nine}
use Rattle.counters.specs.declared.controls.Controls.{Controls}

-- a group with nothing in it, by its parts
abbrev begun : Group → List ℕ → Controls → Counter
begun name digits controls = record {
  name = name;
  digits = digits;
  entered = digits;
  carry = false;
  controls = controls;
  latch = false;
}

pub counter_of-parts : (name : Group) (digits : List ℕ) (controls : Controls)
    → digits ≡ replicate name.width 0 → controls ≡ no_controls
    → record { name = name; digits = digits; entered = digits; carry = false; controls = controls; latch = false } ≡ counter_of name
counter_of-parts name digits controls zeros none =
    ap (λ ds. begun name ds controls) zeros ∙ ap (begun name (replicate name.width 0)) none

-- a group at the end of its cycle, by its parts
pub counter_ended-parts : (counter : Counter) (cycle : Cycle) (digits entered : List ℕ) (controls : Controls) (latch : Bool)
    → digits ≡ digits_ended counter → entered ≡ replicate counter.name.width 0 → controls ≡ no_controls
    → latch ≡ (if counter.controls.test then top_is_nine digits else counter.latch)
    → record { name = counter.name; digits = digits; entered = entered; carry = false; controls = controls; latch = latch }
    ≡ counter_ended counter cycle
counter_ended-parts counter cycle digits entered controls latch turned empty none is =
    ap (ended digits entered controls) is
    ∙ ap (λ es. ended digits es controls (if counter.controls.test then top_is_nine digits else counter.latch)) empty
    ∙ ap (λ k. ended digits (replicate counter.name.width 0) k (if counter.controls.test then top_is_nine digits else counter.latch)) none
    ∙ ap (λ ds. ended ds (replicate counter.name.width 0) no_controls (if counter.controls.test then top_is_nine ds else counter.latch)) turned
  where
    ended : List ℕ → List ℕ → Controls → Bool → Counter
    ended digits entered controls latch = record {
      name = counter.name;
      digits = digits;
      entered = entered;
      carry = false;
      controls = controls;
      latch = latch;
    }
