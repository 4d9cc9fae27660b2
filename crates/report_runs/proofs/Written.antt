-- What is written of the bytes that a writer of pages has taken up.
use Rattle.std.proofs.Common.{◌≡◌, ◌∙◌, refl, sym, ap, subst, ℕ, Bool, false, List, [], ◌++◌, Option, length, drop, append_assoc, append-nil, length-append, take-append-drop, arith}
use Rattle.std.proofs.KnownBytes.{Appends-nil, Appends-trans}
use Rattle.std.proofs.Math.Seq.{take-append_seam}
use Rattle.std.proofs.lemmas.Bool.{false≢true}
use Rattle.std.specs.Io.{StartsWith}
use Rattle.std.specs.Io.KnownBytes.{Appends}
use Rattle.report_writer.specs.Added.{added_all, line_after, page_after}
use Rattle.report_writer.specs.Open.{Open, bytes_to}
use Rattle.report_writer.specs.Outgoing.{Breaks, Outgoing, TakesUp}
use Rattle.report_writer.specs.Writing.{Writing}
use Rattle.report_writer.proofs.Opens.{open_grows_by_all, order_goes_on}
use Rattle.report_writer.proofs.Texts.{line_after-append, page_after-append}
use Rattle.page_text.specs.PlacedLines.InOrder.{FollowInOrder, IsInOrder}
use Rattle.page_text.specs.declared.placed_lines.placed_line.PlacedLine.{PlacedLine}
use Rattle.report_runs.specs.HelperStanding.{HasTaken, TakesLines}

-- bytes begin with the first of those that they begin with
pub begins_shorter : (bytes one other : List ℕ) → StartsWith bytes (one ++ other) → StartsWith bytes one
begins_shorter bytes one other begins =
    let rest = drop (length (one ++ other)) bytes in
    let whole : bytes ≡ one ++ (other ++ rest) =
    sym (take-append-drop (length (one ++ other)) bytes) ∙ ap (λ t. t ++ rest) begins ∙ append_assoc one other rest in
    subst (λ b. StartsWith b one) (sym whole) (take-append_seam one (other ++ rest))

-- nothing is written before the first line
pub open_none : (form : ℕ) → Open [] form ≡ []
unfolding bytes_to
open_none form = refl

-- the parts of bytes one after another
parts_after : (bytes more old left sent new : List ℕ) → bytes ≡ old ++ left → left ++ more ≡ sent ++ new
    → bytes ++ more ≡ (old ++ sent) ++ new
parts_after bytes more old left sent new p q =
    ap (λ t. t ++ more) p ∙ append_assoc old left more ∙ ap (λ t. old ++ t) q ∙ sym (append_assoc old sent new)

module _ {W : Type 0} {held : W → Option (List ℕ)} {has_failed : W → Bool} {before : Option (List ℕ)} where
  -- bytes more are taken up
  pub taken_more : (bytes more : List ℕ) (old new : Outgoing W) → HasTaken held has_failed before bytes old → old.has_failed ≡ false
      → TakesUp held more old new → HasTaken held has_failed before (bytes ++ more) new
  taken_more bytes more old new taken well takes = record {
    sent = taken.sent ++ takes.sent;
    left = new.waiting;
    parts = parts_after bytes more taken.sent taken.left takes.sent new.waiting taken.parts
        (ap (λ t. t ++ more) (taken.waits well) ∙ takes.parts);
    taken = Appends-trans before (held old.sink) (held new.sink) taken.sent takes.sent taken.taken takes.sends.taken;
    counted = omega (arith, length-append taken.sent takes.sent, taken.counted, takes.sends.counted);
    waits = λ _. refl;
    broken = λ is. absurd (false≢true (sym (takes.well ∙ well) ∙ is));
  }

  -- the sink fails at them
  pub taken_broken : (bytes more : List ℕ) (old new : Outgoing W) → HasTaken held has_failed before bytes old → old.has_failed ≡ false
      → Breaks held has_failed more old new → HasTaken held has_failed before (bytes ++ more) new
  taken_broken bytes more old new taken well breaks = record {
    sent = taken.sent ++ breaks.sent;
    left = breaks.lost;
    parts = parts_after bytes more taken.sent taken.left breaks.sent breaks.lost taken.parts
        (ap (λ t. t ++ more) (taken.waits well) ∙ breaks.parts);
    taken = Appends-trans before (held old.sink) (held new.sink) taken.sent breaks.sent taken.taken breaks.sends.taken;
    counted = omega (arith, length-append taken.sent breaks.sent, taken.counted, breaks.sends.counted);
    waits = λ is. absurd (false≢true (sym is ∙ breaks.told));
    broken = λ _. breaks.failed;
  }

  -- all is written where nothing waits
  pub all_written : (bytes : List ℕ) (out : Outgoing W) (taken : HasTaken held has_failed before bytes out) → out.has_failed ≡ false
      → out.waiting ≡ [] → bytes ≡ taken.sent
  all_written bytes out taken well none =
      taken.parts ∙ ap (λ t. taken.sent ++ t) (taken.waits well ∙ none) ∙ append-nil taken.sent

  -- nothing is taken up at the start
  pub taken_none : (out : Outgoing W) → before ≡ held out.sink → out.waiting ≡ [] → out.written ≡ 0 → out.has_failed ≡ false
      → HasTaken held has_failed before [] out
  taken_none out same none zero well = record {
    sent = [];
    left = [];
    parts = refl;
    taken = subst (λ b. Appends b (held out.sink) []) (sym same) (Appends-nil (held out.sink));
    counted = sym zero;
    waits = λ _. sym none;
    broken = λ is. absurd (false≢true (sym well ∙ is));
  }

  module _ (form : ℕ) (lines more : List PlacedLine) (old new : Writing W) (form_is : old.form_lines ≡ form)
      (order : IsInOrder form (lines ++ more)) (takes : TakesLines held has_failed before lines old) where
    -- the bytes that lines more add
    adds : added_all old.form_lines old.page old.line more ≡ added_all form (page_after 1 lines) (line_after 0 lines) more
    adds = ap (λ f. added_all f old.page old.line more) form_is ∙ ap (λ p. added_all form p old.line more) takes.page
        ∙ ap (λ l. added_all form (page_after 1 lines) l more) takes.line

    grows : Open lines old.form_lines ++ added_all old.form_lines old.page old.line more ≡ Open (lines ++ more) form
    grows = ap (λ f. Open lines f ++ added_all old.form_lines old.page old.line more) form_is
        ∙ ap (λ t. Open lines form ++ t) adds ∙ sym (open_grows_by_all form lines more order)

    -- they come in order
    pub follow : FollowInOrder old.form_lines old.page old.line more
    follow = subst (λ f. FollowInOrder f old.page old.line more) (sym form_is)
        (subst (λ p. FollowInOrder form p old.line more) (sym takes.page)
        (subst (λ l. FollowInOrder form (page_after 1 lines) l more) (sym takes.line) (order_goes_on form lines more order).1))

    -- they are taken up
    pub takes_more : TakesUp held (added_all old.form_lines old.page old.line more) old.out new.out → new.form_lines ≡ old.form_lines
        → new.page ≡ page_after old.page more → new.line ≡ line_after old.line more
        → TakesLines held has_failed before (lines ++ more) new
    takes_more bytes same page line = record {
      bytes = subst (λ b. HasTaken held has_failed before b new.out)
          (grows ∙ ap (Open (lines ++ more)) (sym (same ∙ form_is)))
          (taken_more (Open lines old.form_lines) (added_all old.form_lines old.page old.line more) old.out new.out takes.bytes takes.well bytes);
      well = bytes.well ∙ takes.well;
      page = page ∙ ap (λ p. page_after p more) takes.page ∙ sym (page_after-append 1 lines more);
      line = line ∙ ap (λ l. line_after l more) takes.line ∙ sym (line_after-append 0 lines more);
    }

    -- the sink fails at them
    pub breaks_more : Breaks held has_failed (added_all old.form_lines old.page old.line more) old.out new.out
        → HasTaken held has_failed before (Open (lines ++ more) form) new.out
    breaks_more bytes = subst (λ b. HasTaken held has_failed before b new.out) grows
        (taken_broken (Open lines old.form_lines) (added_all old.form_lines old.page old.line more) old.out new.out takes.bytes takes.well bytes)
