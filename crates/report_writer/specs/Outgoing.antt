-- Bytes on their way to a sink. What contracts see of a sink is an argument: the bytes that it holds, and whether it has failed.
use Rattle.std.specs.Prelude.{◌≡◌, ℕ, ◌+◌, ◌≤◌, Bool, true, List, [], ◌++◌, length, take, Option, Result, MatchResult, OnOk}
use Rattle.std.specs.Io.KnownBytes.{Appends}
use Rattle.report_writer.specs.declared.fault.WriteFault.{WriteFault}

-- a sink, the bytes taken up for it that were not written yet, how many were written, and whether a fault was told
pub record Outgoing (S : Type 0) : Type 0 where
  pub sink : S
  pub waiting : List ℕ
  pub written : ℕ
  pub has_failed : Bool

-- how many bytes were taken up
abbrev pub total : {S : Type 0} → Outgoing S → ℕ
total outgoing = outgoing.written + length outgoing.waiting

-- The sink has taken these bytes, and they are counted.
pub record Sends {S : Type 0} (held : S → Option (List ℕ)) (bytes : List ℕ) (old new : Outgoing S) : Type 0 where
  pub taken : Appends (held old.sink) (held new.sink) bytes
  pub counted : new.written ≡ old.written + length bytes

-- Bytes are taken up after those that wait: the first of all of them are written, and the others wait.
pub record TakesUp {S : Type 0} (held : S → Option (List ℕ)) (bytes : List ℕ) (old new : Outgoing S) : Type 0 where
  pub sent : List ℕ
  pub sends : Sends held sent old new
  pub parts : old.waiting ++ bytes ≡ sent ++ new.waiting
  pub well : new.has_failed ≡ old.has_failed

-- The sink has failed: the first of all of them are written, and the others never will be.
pub record Breaks {S : Type 0} (held : S → Option (List ℕ)) (has_failed : S → Bool) (bytes : List ℕ)
    (old new : Outgoing S) : Type 0 where
  pub sent : List ℕ
  pub lost : List ℕ
  pub sends : Sends held sent old new
  pub parts : old.waiting ++ bytes ≡ sent ++ lost
  pub told : new.has_failed ≡ true
  pub failed : has_failed new.sink ≡ true

-- Bytes are taken up, or the sink has failed, and the fault tells how many are written.
abbrev pub Takes : {S T : Type 0} → (S → Option (List ℕ)) → (S → Bool) → (bytes : List ℕ) → Result T WriteFault → (old new : Outgoing S)
    → Type 0
Takes held has_failed bytes result old new =
    MatchResult result (λ _. TakesUp held bytes old new)
    (λ fault. (fault.written ≡ new.written) × Breaks held has_failed bytes old new)

-- A sink is handed back after bytes were taken up for it and all were written, or after it has failed.
pub record HandsBack {S T : Type 0} (held : S → Option (List ℕ)) (has_failed : S → Bool) (bytes : List ℕ)
    (result : Result T WriteFault) (old : Outgoing S) (sink : S) : Type 0 where
  pub last : Outgoing S
  pub handed : sink ≡ last.sink
  pub takes : Takes held has_failed bytes result old last
  pub all : OnOk result (last.waiting ≡ [])

-- What is held has gained the first of some bytes, as many as the fault tells, and the sink has failed.
pub record BreaksOff (bytes : List ℕ) (fault : WriteFault) (old new : Option (List ℕ)) (has_failed : Bool) : Type 0 where
  pub within : fault.written ≤ length bytes
  pub taken : Appends old new (take fault.written bytes)
  pub failed : has_failed ≡ true

-- What a sink holds has gained some bytes, or the first of them before the sink failed.
abbrev pub Writes : {T : Type 0} → (bytes : List ℕ) → Result T WriteFault → (old new : Option (List ℕ)) → (has_failed : Bool) → Type 0
Writes bytes result old new has_failed = MatchResult result (λ _. Appends old new bytes) (λ fault. BreaksOff bytes fault old new has_failed)
