-- The figure of an account on a wheel of a line: the characters on the wheel and on those that are joined with it, up to a blank. Zero control
-- joins wheels by LINK. Where it isn't used, a figure stands on the wheels to which its digits and its mark are wired, and between digits.
use Rattle.std.specs.Prelude.{ℕ, zero, suc, ◌+◌, ◌-◌, ◌&&◌, ◌||◌, nat_eq, Bool, false, not, List, ◌++◌, codes, drop, slice_index_or, take, if◌then◌else◌}
use Rattle.counters.specs.Counters.{group_of_unit, width_of}
use Rattle.hubs.specs.declared.hub.Group.{Group}
use Rattle.hubs.specs.declared.hub.Hub.TheVariants.{BAN, BAT, GX, W}
use Rattle.hubs.specs.declared.jack.Jack.TheVariants.{Link}
use Rattle.explain_ledgers.specs.declared.ledgers.account.Account.{Account}
use Rattle.explain_ledgers.specs.declared.ledgers.account.Account.TheVariants.{One, Coupled}
use Rattle.hubs.specs.SetupsWords.Wiring.{Wiring, is_plugged, is_wired}

-- a wire leads to a wheel from one of so many positions of a group
unfoldable pub digit_to : Wiring → Group → (wheel : ℕ) → (positions : ℕ) → Bool
digit_to wiring group wheel zero = false
digit_to wiring group wheel (suc position) = is_wired wiring (GX group (suc position)) (W wheel) || digit_to wiring group wheel position

-- one leads there from the contact of a balance position of a group
abbrev pub balance_to : Wiring → Group → (wheel position : ℕ) → Bool
balance_to wiring group wheel position =
    is_wired wiring (BAT group position) (W wheel) || is_wired wiring (BAN group position) (W wheel)

-- from one of its four balance positions
abbrev pub mark_to : Wiring → Group → (wheel : ℕ) → Bool
mark_to wiring group wheel =
    balance_to wiring group wheel 1 || balance_to wiring group wheel 2 || balance_to wiring group wheel 3 || balance_to wiring group wheel 4

-- a digit of the group of a place is wired to a wheel
abbrev pub digit_of : Wiring → (place wheel : ℕ) → Bool
digit_of wiring place wheel = digit_to wiring (group_of_unit (3 + place)) wheel (width_of (3 + place))

-- its mark is
abbrev pub mark_of : Wiring → (place wheel : ℕ) → Bool
mark_of wiring place wheel = mark_to wiring (group_of_unit (3 + place)) wheel

-- a digit of an account is wired to a wheel
abbrev pub has_digit : Wiring → Account → (wheel : ℕ) → Bool
has_digit wiring (One place) wheel = digit_of wiring place wheel
has_digit wiring (Coupled upper lower) wheel = digit_of wiring upper wheel || digit_of wiring lower wheel

-- its mark is
abbrev pub has_mark : Wiring → Account → (wheel : ℕ) → Bool
has_mark wiring (One place) wheel = mark_of wiring place wheel
has_mark wiring (Coupled upper lower) wheel = mark_of wiring upper wheel || mark_of wiring lower wheel

-- a wheel is one of an account's own: a digit or the mark of the account is wired to it, or it stands between two digits, as a point does
abbrev pub is_own : Wiring → Account → (wheel : ℕ) → Bool
is_own wiring account wheel =
    has_digit wiring account wheel || has_mark wiring account wheel
    || (has_digit wiring account (wheel - 1) && has_digit wiring account (wheel + 1))

-- a wheel is joined to the one before it: LINK is plugged on it, or both are the account's own
unfoldable pub is_joined : Wiring → Account → (wheel : ℕ) → Bool
is_joined wiring account wheel =
    is_plugged wiring (Link wheel) || (is_own wiring account (wheel - 1) && is_own wiring account wheel)

-- a figure that goes on behind a place of a line begins there: the place is blank, or the wheel behind it isn't joined to it
abbrev pub begins_behind : Wiring → Account → List ℕ → (place : ℕ) → Bool
begins_behind wiring account text place = nat_eq (slice_index_or text place 32) 32 || not (is_joined wiring account (place + 2))

-- one that goes on before a place ends there: the place is blank, or its wheel isn't joined to the one before it
abbrev pub ends_before : Wiring → Account → List ℕ → (place : ℕ) → Bool
ends_before wiring account text place = nat_eq (slice_index_or text place 32) 32 || not (is_joined wiring account (place + 1))

-- Where a figure begins, if a character of it stands behind so many others of the line.
unfoldable pub begin_of : Wiring → Account → List ℕ → ℕ → ℕ
begin_of wiring account text zero = zero
begin_of wiring account text (suc place) =
    if begins_behind wiring account text place then suc place else begin_of wiring account text place

-- Where it ends, if it goes on before a place, from which the line has so many characters.
unfoldable pub end_of : Wiring → Account → List ℕ → (place others : ℕ) → ℕ
end_of wiring account text place zero = place
end_of wiring account text place (suc others) =
    if ends_before wiring account text place then place else end_of wiring account text (place + 1) others

-- The figure on a wheel of a line.
abbrev pub figure_on : Wiring → Account → List ℕ → (wheel : ℕ) → List ℕ
figure_on wiring account text wheel =
    let begin = begin_of wiring account text (wheel - 1) in
    take (end_of wiring account text wheel (120 - wheel) - begin) (drop begin text)

-- what was printed: that figure, or that the wheel itself is blank
abbrev pub printed_text : Wiring → Account → List ℕ → (wheel : ℕ) → List ℕ
printed_text wiring account text wheel =
    if nat_eq (slice_index_or text (wheel - 1) 32) 32
    then codes "printed a blank\n"
    else codes "printed " ++ figure_on wiring account text wheel ++ codes "\n"
