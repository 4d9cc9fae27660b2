-- The test for a wire against the wires.
use Rattle.std.proofs.Common.{refl, Bool, false, arith, ◌≡◌, ◌↔◌, ap, sym, ◌∙◌, ℕ, true, Option, Some, None, IsTrue}
use Rattle.std.proofs.Common.{List, Contains, nat_eq}
use Rattle.std.proofs.lemmas.Bool.{eq-eqb, eqb-true, false≢true}
use Rattle.std.proofs.lemmas.Bool.Decides.{nat_tests}
use Rattle.std.proofs.lemmas.Option.{none-some}
use Rattle.std.proofs.lemmas.Map.Views.{Contains-from_any, list_any-from_Contains}
use Rattle.std.specs.List.{list_any}
use Rattle.hubs.proofs.SetupsWords.WiringLemmas.{HasWire-by_number}
use Rattle.hubs.specs.Hubs.{number_of}
use Rattle.hubs.specs.SetupsWords.Wiring.{Wiring, HasWire, is_wired, row_at, is_listed}
use Rattle.hubs.specs.declared.hub.Hub.{Hub}

-- a row has a number where the test finds it
listed : (row : List ℕ) (to : ℕ) → Contains row to → list_any (nat_eq to) row ≡ true
listed row to has = list_any-from_Contains (record { refl = λ x. eq-eqb x x refl; symm = λ x y. grind (arith, nat_tests); congr = λ x y z same. ap (λ n. nat_eq n z) (eqb-true x y same) }) to row has

HasWire-test : (wiring : Wiring) (exit entry : Hub) (number to : Option ℕ) → number_of exit ≡ number
    → number_of entry ≡ to → IsTrue (is_listed (row_at wiring number) to) ↔ HasWire wiring exit entry
HasWire-test wiring exit entry (Some number) (Some to) numbered entry_numbered =
    let wire = HasWire-by_number wiring exit entry number to numbered entry_numbered in
    (λ yes. wire.0 (Contains-from_any eqb-true to _ yes), λ has. listed _ to (wire.1 has))
HasWire-test wiring exit entry number None numbered entry_numbered =
    (λ yes. absurd (false≢true yes), λ wire. absurd (none-some wire.to (sym entry_numbered ∙ wire.entry_numbered)))
HasWire-test wiring exit entry None (Some to) numbered entry_numbered =
    (λ yes. absurd (false≢true yes), λ wire. absurd (none-some wire.number (sym numbered ∙ wire.numbered)))

pub HasWire-is_wired : (wiring : Wiring) (exit entry : Hub) → IsTrue (is_wired wiring exit entry) ↔ HasWire wiring exit entry
HasWire-is_wired wiring exit entry = HasWire-test wiring exit entry _ _ refl refl

-- a test that tells of a wire is the one for it
pub wired-test : (wiring : Wiring) (exit entry : Hub) (test : Bool) → IsTrue test ↔ HasWire wiring exit entry
    → test ≡ is_wired wiring exit entry
wired-test wiring exit entry test is = by test (is_wired wiring exit entry) is (HasWire-is_wired wiring exit entry)
  where
    by : (one other : Bool) → IsTrue one ↔ HasWire wiring exit entry → IsTrue other ↔ HasWire wiring exit entry → one ≡ other
    by true other e f = sym (f.1 (e.0 refl))
    by false true e f = e.1 (f.0 refl)
    by false false e f = refl
