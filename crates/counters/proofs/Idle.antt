-- Without plus, minus and read-out nothing turns.
use Rattle.std.proofs.Common.{◌≡◌, ◌∙◌, refl, ap, ℕ, ◌≤◌, ◌==◌, ◌&&◌, ◌||◌, Bool, false, List, [], ◌∷◌, All, length, arith}
use Rattle.std.proofs.lemmas.Bool.Decides.{nat_tests}
use Rattle.std.proofs.lemmas.List.Elements.{All-head, All-tail}
use Rattle.counters.specs.Counters.{wheel_of, wheels_of}
use Rattle.counters.specs.Laws.{IsDigit}
use Rattle.counters.specs.Wheels.{passes, stands, stepped, carries_out, turned}
use Rattle.counters.specs.declared.controls.Controls.{Controls}

-- a wheel that starts from its digit and doesn't advance
rests : (controls : Controls) (d e : ℕ) → controls.read_out ≡ false → controls.minus ≡ false → controls.plus ≡ false → d ≤ 9
    → (stands (wheel_of controls d e) ≡ d) × (passes (wheel_of controls d e) ≡ false)
rests controls d e read minus plus small = (grind (arith, nat_tests, read, minus, plus), grind (arith, nat_tests, read, minus, plus))

no_carry : (p n : Bool) (below : Bool) → p ≡ false → below ≡ false → (p || (n && below)) ≡ false
no_carry p n below e f = grind (arith, nat_tests, e, f)

pub idle-carries_out : (controls : Controls) (ds es : List ℕ)
    → controls.read_out ≡ false → controls.minus ≡ false → controls.plus ≡ false → All IsDigit ds
    → carries_out (wheels_of controls ds es) false ≡ false
idle-carries_out controls [] es read minus plus all = refl
idle-carries_out controls (d ∷ ds) [] read minus plus all = refl
idle-carries_out controls (d ∷ ds) (e ∷ es) read minus plus all =
    no_carry (passes (wheel_of controls d e)) (stands (wheel_of controls d e) == 9) (carries_out (wheels_of controls ds es) false)
    (rests controls d e read minus plus (All-head IsDigit d ds all)).1
    (idle-carries_out controls ds es read minus plus (All-tail IsDigit d ds all))

pub idle-turned : (controls : Controls) (ds es : List ℕ)
    → controls.read_out ≡ false → controls.minus ≡ false → controls.plus ≡ false → All IsDigit ds → length ds ≡ length es
    → turned (wheels_of controls ds es) false ≡ ds
idle-turned controls [] es read minus plus all same = refl
idle-turned controls (d ∷ ds) [] read minus plus all same = absurd (omega (arith, same))
idle-turned controls (d ∷ ds) (e ∷ es) read minus plus all same =
    let out = idle-carries_out controls ds es read minus plus (All-tail IsDigit d ds all) in
    ap (λ b. stepped (wheel_of controls d e) b ∷ turned (wheels_of controls ds es) false) out
    ∙ ap (λ k. k ∷ turned (wheels_of controls ds es) false) (rests controls d e read minus plus (All-head IsDigit d ds all)).0
    ∙ ap (λ ks. d ∷ ks) (idle-turned controls ds es read minus plus (All-tail IsDigit d ds all) (omega (arith, same)))
