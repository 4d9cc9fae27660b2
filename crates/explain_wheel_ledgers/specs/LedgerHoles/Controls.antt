-- By which ways the groups of an account were told what to do in a cycle of a run.
use Rattle.std.specs.Prelude.{◌≡◌, ℕ, ◌+◌, List, ◌++◌, codes}
use Rattle.counters.specs.Counters.{group_of_unit}
use Rattle.hubs.specs.declared.hub.Group.{Group}
use Rattle.hubs.specs.declared.hub.Hub.TheVariants.{MI, PL, RO}
use Rattle.explain_ledgers.specs.LedgersWords.Running.{HasCycle}
use Rattle.explain_ledgers.specs.declared.ledgers.account.Account.{Account}
use Rattle.explain_ledgers.specs.declared.ledgers.account.Account.TheVariants.{One, Coupled}
use Rattle.hubs.specs.SetupsWords.Wiring.{Wiring}
use Rattle.explain_wheel_ledgers.specs.LedgerHoles.Ways.{IsWayLine}

-- The lines of the ways to the plus, minus and read-out entries of a group at the control point, which has place 0.
pub record AreControlLines {wiring : Wiring} {deck : List (List ℕ)} {passed : ℕ} (has : HasCycle wiring deck passed) (group : Group)
    (answer : List ℕ) : Type 0 where
  pub plus : List ℕ
  pub is_plus : IsWayLine has 0 (PL group) (codes "    plus:") plus
  pub minus : List ℕ
  pub is_minus : IsWayLine has 0 (MI group) (codes "    minus:") minus
  pub read_out : List ℕ
  pub is_read_out : IsWayLine has 0 (RO group) (codes "    read out:") read_out
  pub whole : answer ≡ plus ++ minus ++ read_out

-- those of two groups, one behind the other
pub record AreBothLines {wiring : Wiring} {deck : List (List ℕ)} {passed : ℕ} (has : HasCycle wiring deck passed) (one other : Group)
    (answer : List ℕ) : Type 0 where
  pub of_one : List ℕ
  pub first : AreControlLines has one of_one
  pub of_other : List ℕ
  pub second : AreControlLines has other of_other
  pub whole : answer ≡ of_one ++ of_other

-- those of the groups of an account, the group with the units first
abbrev pub AreAccountLines : {wiring : Wiring} {deck : List (List ℕ)} {passed : ℕ} → HasCycle wiring deck passed → Account → List ℕ → Type 0
AreAccountLines has (One place) answer = AreControlLines has (group_of_unit (3 + place)) answer
AreAccountLines has (Coupled upper lower) answer =
    AreBothLines has (group_of_unit (3 + lower)) (group_of_unit (3 + upper)) answer
