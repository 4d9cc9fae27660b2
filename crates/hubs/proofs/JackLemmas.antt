-- Jacks by the test that tells them apart.
use Rattle.std.proofs.Common.{◌≡◌, true, refl, ap}
use Rattle.std.proofs.lemmas.Bool.{eqb-true, eq-eqb}
use Rattle.hubs.specs.Jacks.{is_same_jack}
use Rattle.hubs.specs.declared.jack.Jack.{Jack}
use Rattle.hubs.specs.declared.jack.Jack.TheVariants as jack

-- jacks that pass the test are the same
pub same_jack : (one other : Jack) → is_same_jack one other ≡ true → one ≡ other
same_jack jack.List jack.List is = refl
same_jack (jack.Total a) (jack.Total b) is = ap jack.Total (eqb-true a b is)
same_jack (jack.Head a) (jack.Head b) is = ap jack.Head (eqb-true a b is)
same_jack (jack.Link a) (jack.Link b) is = ap jack.Link (eqb-true a b is)
same_jack (jack.Suppress a) (jack.Suppress b) is = ap jack.Suppress (eqb-true a b is)
same_jack (jack.Symbol a) (jack.Symbol b) is = ap jack.Symbol (eqb-true a b is)
same_jack one other is = cc

-- a jack is the same as itself
pub own_jack : (each : Jack) → is_same_jack each each ≡ true
own_jack jack.List = refl
own_jack (jack.Total n) = eq-eqb n n refl
own_jack (jack.Head n) = eq-eqb n n refl
own_jack (jack.Link n) = eq-eqb n n refl
own_jack (jack.Suppress n) = eq-eqb n n refl
own_jack (jack.Symbol n) = eq-eqb n n refl
