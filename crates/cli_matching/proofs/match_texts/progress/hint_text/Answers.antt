use Rattle.std.proofs.Common.{List, ap, subst, sym, ℕ, ◌++◌, ◌∙◌}
use Rattle.std.specs.String.{string_bytes}
use Rattle.cli_matching.proofs.MatchTexts.Far.{hint_told}
use Rattle.cli_matching.specs.MatchTexts.Counts.{AreCountsOf}
use Rattle.cli_matching.specs.MatchTexts.Progress.{IsHintText}
use Rattle.match_panels.specs.declared.matching.answer.Matching.{Matching}
use Rattle.cli_matching.proofs.match_texts.progress.hint_text.Goals as goal

pub returns-in_ok-write_standings-in-Differs : goal.returns-in_ok-write_standings-in-Differs
returns-in_ok-write_standings-in-Differs c =
    let numbered = string_bytes c.write_numbers.new.text in
    let text = string_bytes c.write_standings.new.text in
    subst (λ (m : Matching). IsHintText c.args.version c.args.chart.now.lines c.args.setup.now c.args.wiring.now m text) (sym c.in-Differs.is)
    (hint_told c.args.version c.args.chart.now.lines c.args.setup.now c.in-Differs.plan c.in-Differs.missing c.in-Differs.extra
    c.args.wiring.now c.counts_of.result (string_bytes c.in_ok-narrow-in-Differs.narrow) (string_bytes c.new-text-in-Differs.result)
    (string_bytes c.write_counts.new.text) (string_bytes c.write_extra.new.text) numbered (string_bytes c.push_str.new.self) text
    c.in_ok-numbers-in-Differs.numbers.items c.as_slice-in-Differs.result.now c.in_ok-counts-in-Differs.counts.items c.as_slice.result.now
    c.as_slice-in-Differs-2.result.now (subst (λ (m : Matching). AreCountsOf m c.counts_of.result) c.in-Differs.is c.counts_of.ensures)
    c.in_ok-narrow-in-Differs.ensures c.in_ok-counts-in-Differs.ensures c.in_ok-numbers-in-Differs.ensures c.as_slice.ensures.value
    c.as_slice-in-Differs-2.ensures.value c.as_slice-in-Differs.ensures.value c.new-text-in-Differs.ensures.bytes
    c.in_ok-write_counts-in-Differs.ensures c.in_ok-write_extra-in-Differs.ensures c.in_ok-write_numbers-in-Differs.ensures
    (c.in_ok-push_str-in-Differs.ensures.bytes ∙ ap (λ (its : List ℕ). numbered ++ its) c.as_str.ensures.value)
    c.in_ok-write_standings-in-Differs.ensures)
