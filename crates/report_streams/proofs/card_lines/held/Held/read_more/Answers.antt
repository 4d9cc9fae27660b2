use Rattle.std.proofs.Common.{◌∙◌, ◌++◌, ◌+◌, List, ℕ, ap, length, subst, sym, length-append}
use Rattle.std.proofs.lemmas.List.{nil_from_length}
use Rattle.std.proofs.lemmas.Result.{err_from_is_err_and}
use Rattle.std.specs.Io.KnownBytes.{Keeps, prepend_known}
use Rattle.report_streams.proofs.CardLines.Blocks.{text_stays}
use Rattle.report_streams.proofs.CardLines.Cuts.{alone, part_alone}
use Rattle.report_streams.proofs.card_lines.held.Held.read_more.Goals as goal
use Rattle.report_streams.specs.CardLines.Front.{IsPart}

pub read-requires : goal.read-requires
read-requires g c = part_alone _ _ c.self.invariant (subst IsPart (sym c.self.view_is) c.requires)

-- what is held is a line alone
pub returns-in_err-count-clause-text : goal.returns-in_err-count-clause-text
returns-in_err-count-clause-text g c =
    let held = sym (alone _ _ (part_alone _ _ c.self.invariant (subst IsPart (sym c.self.view_is) c.requires))) ∙ c.self.view_is in
    let left = g.S.Source.left in
    subst
    (λ (held : List ℕ). Keeps (prepend_known held (left c.args.source.now)) (prepend_known (c.self.inside.line.items ++ c.read.new.self) (left c.read.new.source)))
    held
    (text_stays c.self.inside.line.items c.read.new.self _ _ c.read.ensures.text)

pub returns-in_err-count-clause-kept : goal.returns-in_err-count-clause-kept
returns-in_err-count-clause-kept g c =
    let held = sym (alone _ _ (part_alone _ _ c.self.invariant (subst IsPart (sym c.self.view_is) c.requires))) ∙ c.self.view_is in
    let p = err_from_is_err_and c.from_residual.result c.from_residual.ensures.1 in
    rw (p.1) (alone _ _ c.in_err-count.ensures.kept ∙ held)

pub returns-clause-text : goal.returns-clause-text
returns-clause-text g c =
    let held = sym (alone _ _ (part_alone _ _ c.self.invariant (subst IsPart (sym c.self.view_is) c.requires))) ∙ c.self.view_is in
    let left = g.S.Source.left in
    subst
    (λ (held : List ℕ). Keeps (prepend_known held (left c.args.source.now)) (prepend_known (c.cut.new.line.items ++ c.cut.new.block) (left c.read.new.source)))
    held
    (subst
    (λ (new : List ℕ). Keeps (prepend_known c.self.inside.line.items (left c.args.source.now)) (prepend_known new (left c.read.new.source)))
    (sym c.cut.ensures.text)
    (text_stays c.self.inside.line.items c.read.new.self _ _ c.read.ensures.text))

pub returns-clause-more : goal.returns-clause-more
returns-clause-more g c =
    let held = sym (alone _ _ (part_alone _ _ c.self.invariant (subst IsPart (sym c.self.view_is) c.requires))) ∙ c.self.view_is in
    ap length c.cut.ensures.text ∙ length-append c.self.inside.line.items c.read.new.self
    ∙ ap (λ n. length c.self.inside.line.items + n) c.in_ok-count.ensures.more ∙ ap (λ (t : List ℕ). length t + c.in_ok-count.count) held

pub returns-clause-none : goal.returns-clause-none
returns-clause-none g c = λ none.
    let held = sym (alone _ _ (part_alone _ _ c.self.invariant (subst IsPart (sym c.self.view_is) c.requires))) ∙ c.self.view_is in
    c.cut.ensures.text ∙ alone _ _ (nil_from_length _ (c.in_ok-count.ensures.more ∙ none)) ∙ held
