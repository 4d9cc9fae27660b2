use Rattle.explain_wheel_ledgers.proofs.Accounts.{is_account_told}
use Rattle.show_links.proofs.sum_places.places.sum_at.Goals as goal

pub units_group-group-requires : goal.units_group-group-requires
units_group-group-requires c =
    is_account_told c.find_total-total.result c.args.place c.account_told-account.result c.account_told-account.ensures
    c.find_total-total.ensures.account c.requires.place

pub upper_group-upper-requires : goal.upper_group-upper-requires
upper_group-upper-requires c =
    is_account_told c.find_total-total.result c.args.place c.account_told-account.result c.account_told-account.ensures
    c.find_total-total.ensures.account c.requires.place
