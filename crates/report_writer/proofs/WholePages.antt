-- All lines are taken up, and the pages are ended.
use Rattle.std.proofs.Common.{ap₂, IfErr, IsErr, ◌≡◌, ◌∙◌, ℕ, Bool, true, List, [], ◌++◌, length, take, Option, Result, Ok, Err, IsErrAnd, OnOk, sym, ap, subst, arith, append-nil, length-append}
use Rattle.std.proofs.lemmas.Bool.{false≢true}
use Rattle.std.proofs.lemmas.Result.{on_ok_weaker}
use Rattle.page_text.specs.Pages.{Pages}
use Rattle.report_writer.proofs.Opens.{pages_of}
use Rattle.report_writer.specs.Added.{added_all, last_end, line_after}
use Rattle.report_writer.specs.Writing.{Writing}
use Rattle.page_text.specs.declared.placed_lines.placed_line.PlacedLine.{PlacedLine}
use Rattle.page_text.specs.PlacedLines.InOrder.{IsInOrder}
use Rattle.std.proofs.Math.Seq.{take-append_seam}
use Rattle.std.specs.Io.KnownBytes.{Appends}
use Rattle.report_writer.proofs.Sending.{breaks_after, breaks_before, takes_after}
use Rattle.report_writer.specs.Outgoing.{Breaks, BreaksOff, Outgoing, Takes, TakesUp, Writes}
use Rattle.report_writer.specs.declared.fault.WriteFault.{WriteFault}

module _ {S : Type 0} (held : S → Option (List ℕ)) (has_failed : S → Bool) (old : Outgoing S) (none : old.waiting ≡ []) (begun : old.written ≡ 0) where
  -- all bytes that were taken up are written where none wait
  all_written : (bytes : List ℕ) (new : Outgoing S) → TakesUp held bytes old new → new.waiting ≡ [] → Appends (held old.sink) (held new.sink) bytes
  all_written bytes new takes all =
      let sent : takes.sent ≡ bytes =
      sym (append-nil takes.sent) ∙ ap (λ t. takes.sent ++ t) (sym all) ∙ sym takes.parts ∙ ap (λ t. t ++ bytes) none in
      subst (Appends (held old.sink) (held new.sink)) sent takes.sends.taken

  -- a failure leaves the first of them, as many as are counted
  first_written : (bytes : List ℕ) (fault : WriteFault) (new : Outgoing S) → fault.written ≡ new.written → Breaks held has_failed bytes old new
      → BreaksOff bytes fault (held old.sink) (held new.sink) (has_failed new.sink)
  first_written bytes fault new told breaks =
      let whole : breaks.sent ++ breaks.lost ≡ bytes = sym breaks.parts ∙ ap (λ t. t ++ bytes) none in
      let count : fault.written ≡ length breaks.sent = omega (arith, told, breaks.sends.counted, begun) in
      let front : breaks.sent ≡ take fault.written bytes =
      sym (take-append_seam breaks.sent breaks.lost) ∙ ap (take (length breaks.sent)) whole ∙ ap (λ n. take n bytes) (sym count) in
      record {
        within = omega (arith, count, ap length whole, length-append breaks.sent breaks.lost);
        taken = subst (Appends (held old.sink) (held new.sink)) front breaks.sends.taken;
        failed = breaks.failed;
      }

  -- bytes, and those at the end
  pub writes : {T U : Type 0} (bytes end : List ℕ) (mid last : Outgoing S) (result : Result T WriteFault) (ended : Result U WriteFault)
      → Takes held has_failed bytes result old mid → (OnOk result (Takes held has_failed end ended mid last)) → OnOk ended (last.waiting ≡ [])
      → (mid.has_failed ≡ true → IsErrAnd ended (λ fault. fault.written ≡ mid.written) × (last ≡ mid))
      → Writes (bytes ++ end) ended (held old.sink) (held last.sink) (has_failed last.sink)
  writes bytes end mid last (Ok x) (Ok y) takes ends all again = all_written (bytes ++ end) last (takes_after takes ends) all
  writes bytes end mid last (Ok x) (Err fault) takes ends all again = first_written (bytes ++ end) fault last ends.0 (breaks_after takes ends.1)
  writes bytes end mid last (Err told) (Ok y) takes ends all again = absurd (again takes.1.told).0
  writes bytes end mid last (Err told) (Err fault) takes ends all again =
      let same = again takes.1.told in
      subst (λ (o : Outgoing S). BreaksOff (bytes ++ end) fault (held old.sink) (held o.sink) (has_failed o.sink)) (sym same.1)
      (first_written (bytes ++ end) fault mid same.0 (breaks_before end takes.1))

told_again : {U : Type 0} (ended : Result U WriteFault) (written : ℕ) → IsErr ended → IfErr ended (λ fault. fault.written ≡ written)
    → IsErrAnd ended (λ fault. fault.written ≡ written)
told_again (Ok y) written err told = false≢true err
told_again (Err fault) written err told = told

told_of :
    {S U : Type 0} (held : S → Option (List ℕ)) (has_failed : S → Bool) (bytes : List ℕ) (mid last : Outgoing S) (ended : Result U WriteFault)
    → last.written ≡ mid.written → Takes held has_failed bytes ended mid last → IfErr ended (λ fault. fault.written ≡ mid.written)
told_of held has_failed bytes mid last (Ok y) same ends = tt
told_of held has_failed bytes mid last (Err fault) same ends = ends.0 ∙ same

-- all lines from the first on, and the end of the last page
pub whole_pages :
    {S T U : Type 0} (held : S → Option (List ℕ)) (has_failed : S → Bool) (form_lines : ℕ) (lines : List PlacedLine) (begun mid last : Writing S)
    (result : Result T WriteFault) (ended : Result U WriteFault)
    → IsInOrder form_lines lines → begun.out.waiting ≡ [] → begun.out.written ≡ 0 → begun.form_lines ≡ form_lines → begun.page ≡ 1 → begun.line ≡ 0
    → Takes held has_failed (added_all begun.form_lines begun.page begun.line lines) result begun.out mid.out
    → OnOk result (mid.line ≡ line_after begun.line lines) → mid.form_lines ≡ begun.form_lines
    → Takes held has_failed (last_end mid.form_lines mid.line) ended mid.out last.out → OnOk ended (last.out.waiting ≡ [])
    → (mid.out.has_failed ≡ true → IsErr ended × (last ≡ mid))
    → Writes (Pages lines form_lines) ended (held begun.out.sink) (held last.out.sink) (has_failed last.out.sink)
whole_pages held has_failed form_lines lines begun mid last result ended order none zero form page line takes at kept ends all again =
    let end = last_end form_lines (line_after 0 lines) in
    let added : added_all begun.form_lines begun.page begun.line lines ≡ added_all form_lines 1 0 lines =
    ap (λ f. added_all f begun.page begun.line lines) form ∙ ap (λ p. added_all form_lines p begun.line lines) page
    ∙ ap (λ l. added_all form_lines 1 l lines) line in
    let end_is : mid.line ≡ line_after begun.line lines → last_end mid.form_lines mid.line ≡ end =
    λ is. ap₂ last_end (kept ∙ form) (is ∙ ap (λ l. line_after l lines) line) in
    subst
    (λ (bytes : List ℕ). Writes bytes ended (held begun.out.sink) (held last.out.sink) (has_failed last.out.sink))
    (ap (λ t. t ++ end) added ∙ pages_of form_lines lines order)
    (writes held has_failed begun.out none zero (added_all begun.form_lines begun.page begun.line lines) end mid.out last.out result ended takes
    (on_ok_weaker result (λ is. subst (λ (bytes : List ℕ). Takes held has_failed bytes ended mid.out last.out) (end_is is) ends) at)
    all
    (λ failed. (told_again ended mid.out.written (again failed).0 (told_of held has_failed _ mid.out last.out ended (ap (λ w. w.out.written) (again failed).1) ends), ap (λ w. w.out) (again failed).1)))
