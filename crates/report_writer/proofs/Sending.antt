-- Bytes that are taken up one after another.
use Rattle.std.proofs.Common.{◌≡◌, ◌∙◌, ℕ, ◌+◌, ◌≤◌, Bool, true, List, [], ◌++◌, length, take, drop, Option, Result, Ok, Err, refl, sym, ap, subst, arith, append_assoc, append-nil, length-append, take-append-drop}
use Rattle.std.proofs.KnownBytes.{Appends-nil, Appends-trans}
use Rattle.std.proofs.Math.Seq.{length-take-le}
use Rattle.std.specs.Io.KnownBytes.{Appends}
use Rattle.report_writer.specs.Outgoing.{Breaks, Outgoing, Sends, Takes, TakesUp, total}
use Rattle.report_writer.specs.declared.fault.WriteFault.{WriteFault}

-- the parts of bytes one after another
parts_after : (old one mid other new sent more : List ℕ) → old ++ one ≡ sent ++ mid → mid ++ other ≡ more ++ new
    → old ++ (one ++ other) ≡ (sent ++ more) ++ new
parts_after old one mid other new sent more p q =
    sym (append_assoc old one other) ∙ ap (λ t. t ++ other) p ∙ append_assoc sent mid other ∙ ap (λ t. sent ++ t) q
    ∙ sym (append_assoc sent more new)

module _ {S : Type 0} {held : S → Option (List ℕ)} where
  -- no byte
  pub sends_none : (now : Outgoing S) → Sends held [] now now
  sends_none now = record { taken = Appends-nil (held now.sink); counted = omega arith }

  pub takes_none : (now : Outgoing S) → TakesUp held [] now now
  takes_none now = record { sent = []; sends = sends_none now; parts = append-nil now.waiting; well = refl }

  -- bytes after others
  pub sends_after : {one other : List ℕ} {old mid new : Outgoing S} → Sends held one old mid → Sends held other mid new
      → Sends held (one ++ other) old new
  sends_after {one} {other} {old} {mid} {new} p q = record {
    taken = Appends-trans (held old.sink) (held mid.sink) (held new.sink) one other p.taken q.taken;
    counted = omega (arith, length-append one other, p.counted, q.counted);
  }

  pub takes_after : {one other : List ℕ} {old mid new : Outgoing S} → TakesUp held one old mid → TakesUp held other mid new
      → TakesUp held (one ++ other) old new
  takes_after {one} {other} {old} {mid} {new} p q = record {
    sent = p.sent ++ q.sent;
    sends = sends_after p.sends q.sends;
    parts = parts_after old.waiting one mid.waiting other new.waiting p.sent q.sent p.parts q.parts;
    well = q.well ∙ p.well;
  }

  -- how many bytes are taken up
  pub total_after : {bytes : List ℕ} {old new : Outgoing S} → TakesUp held bytes old new → total new ≡ total old + length bytes
  total_after {bytes} {old} {new} p =
      omega (arith, p.sends.counted, length-append old.waiting bytes, length-append p.sent new.waiting, ap length p.parts)

  module _ {has_failed : S → Bool} where
    -- a failure after bytes that were taken up
    pub breaks_after : {one other : List ℕ} {old mid new : Outgoing S} → TakesUp held one old mid
        → Breaks held has_failed other mid new → Breaks held has_failed (one ++ other) old new
    breaks_after {one} {other} {old} {mid} {new} p q = record {
      sent = p.sent ++ q.sent;
      lost = q.lost;
      sends = sends_after p.sends q.sends;
      parts = parts_after old.waiting one mid.waiting other q.lost p.sent q.sent p.parts q.parts;
      told = q.told;
      failed = q.failed;
    }

    -- a failure before bytes that were still to come
    pub breaks_before : {one : List ℕ} (other : List ℕ) {old new : Outgoing S} → Breaks held has_failed one old new
        → Breaks held has_failed (one ++ other) old new
    breaks_before {one} other {old} {new} p = record {
      sent = p.sent;
      lost = p.lost ++ other;
      sends = p.sends;
      parts = sym (append_assoc old.waiting one other) ∙ ap (λ t. t ++ other) p.parts ∙ append_assoc p.sent p.lost other;
      told = p.told;
      failed = p.failed;
    }

-- the same bytes in another form
pub takes_as : {S : Type 0} {held : S → Option (List ℕ)} {one other : List ℕ} {old new : Outgoing S} → one ≡ other
    → TakesUp held one old new → TakesUp held other old new
takes_as {S} {held} {one} {other} {old} {new} is p = subst (λ (bytes : List ℕ). TakesUp held bytes old new) is p

-- a failure in the first part of bytes
pub breaks_in :
    {S : Type 0} {held : S → Option (List ℕ)} {has_failed : S → Bool} {one all : List ℕ} (other : List ℕ) {old new : Outgoing S}
    → one ++ other ≡ all → Breaks held has_failed one old new → Breaks held has_failed all old new
breaks_in {S} {held} {has_failed} {one} {all} other {old} {new} is p =
    subst (λ (bytes : List ℕ). Breaks held has_failed bytes old new) is (breaks_before other p)

-- a failure after the first so many of the bytes that wait
pub breaks_at :
    {S : Type 0} (held : S → Option (List ℕ)) (has_failed : S → Bool) (old new : Outgoing S) (bytes : List ℕ) (done : ℕ)
    → bytes ≡ old.waiting → done ≤ length bytes → Appends (held old.sink) (held new.sink) (take done bytes)
    → new.written ≡ old.written + done → new.has_failed ≡ true → has_failed new.sink ≡ true
    → Breaks held has_failed [] old new
breaks_at held has_failed old new bytes done are within taken counted told failed = record {
  sent = take done bytes;
  lost = drop done bytes;
  sends = record { taken = taken; counted = counted ∙ ap (λ n. old.written + n) (sym (length-take-le done bytes within)) };
  parts = append-nil old.waiting ∙ sym are ∙ sym (take-append-drop done bytes);
  told = told;
  failed = failed;
}

-- the last of several
pub takes_then :
    {S T : Type 0} (held : S → Option (List ℕ)) (has_failed : S → Bool) (one other : List ℕ) (old mid new : Outgoing S)
    → TakesUp held one old mid → (result : Result T WriteFault) → Takes held has_failed other result mid new
    → Takes held has_failed (one ++ other) result old new
takes_then held has_failed one other old mid new p (Ok x) q = takes_after p q
takes_then held has_failed one other old mid new p (Err fault) q = (q.0, breaks_after p q.1)

-- and no byte after it
module _ {S : Type 0} {held : S → Option (List ℕ)} {bytes : List ℕ} {old mid new : Outgoing S} where
  pub takes_no_more : TakesUp held bytes old mid → TakesUp held [] mid new → TakesUp held bytes old new
  takes_no_more p q = takes_as (append-nil bytes) (takes_after p q)

  pub breaks_no_more : {has_failed : S → Bool} → TakesUp held bytes old mid → Breaks held has_failed [] mid new
      → Breaks held has_failed bytes old new
  breaks_no_more {has_failed} p q =
      subst (λ (all : List ℕ). Breaks held has_failed all old new) (append-nil bytes) (breaks_after p q)

pub takes_then_none :
    {S T : Type 0} (held : S → Option (List ℕ)) (has_failed : S → Bool) (bytes : List ℕ) (old mid new : Outgoing S)
    → TakesUp held bytes old mid → (result : Result T WriteFault) → Takes held has_failed [] result mid new
    → Takes held has_failed bytes result old new
takes_then_none held has_failed bytes old mid new p (Ok x) q = takes_no_more p q
takes_then_none held has_failed bytes old mid new p (Err fault) q = (q.0, breaks_no_more p q.1)
