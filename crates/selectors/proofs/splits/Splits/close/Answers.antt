use Rattle.std.proofs.Common.{◌∙◌, ◌||◌, ap, sym}
use Rattle.net.specs.HubSets.{has_hub}
use Rattle.selectors.proofs.ContactLemmas.{digits_close, zones_close}
use Rattle.selectors.proofs.splits.Splits.close.Goals as goal

pub returns-then-is_digit_row : goal.returns-then-is_digit_row
returns-then-is_digit_row c cycle hub = c.insert_row.ensures hub
    ∙ ap (λ gained. has_hub c.args.contacts.now hub || gained)
    (digits_close c.args.point c.in-Row.row hub c.in-Row.is (sym c.is_digit_row.ensures ∙ c.if-is_digit_row.true))

pub returns-else-is_digit_row : goal.returns-else-is_digit_row
returns-else-is_digit_row c cycle hub = c.insert_row-else-is_digit_row.ensures hub
    ∙ ap (λ gained. has_hub c.args.contacts.now hub || gained)
    (zones_close c.args.point c.in-Row.row hub c.in-Row.is (sym c.is_digit_row.ensures ∙ c.if-is_digit_row.false))
