-- Eights of contacts, cut off the runs in which they lie, and how they are added.
use Rattle.std.proofs.Common.{⊎_elim, ◌≡◌, ◌≢◌, ◌∙◌, ◌⊎◌, inl, inr, ℕ, ◌+◌, ◌-◌, ◌<◌, ◌≤◌, ◌&&◌, ◌||◌, Bool, true, false, List, [], ◌∷◌, ◌++◌, All, sym, ap, subst, arith, length, take, slice_index_or, min}
use Rattle.std.specs.Prelude.{◌==◌, nat_le, nat_lt}
use Rattle.std.proofs.lemmas.Bool.{cases_eq, cases_lt, false≢true, or_cases, or_left, or_right}
use Rattle.std.proofs.lemmas.Bool.Decides.{nat_tests}
use Rattle.std.proofs.lemmas.List.Elements.{All-nil, All-push}
use Rattle.machine_sets.specs.BitSets.Contacts.{is_any_contact, is_contact}
use Rattle.machine_sets.specs.declared.bit_sets.contacts.Run.{Run}
use Rattle.machine_sets.specs.SpreadsWords.Links.{AreEights, HasRoom, IsEight, is_led_to}
use Rattle.machine_sets.specs.SpreadsWords.Passing.{AddsEights, eight_of}
use Rattle.machine_sets.specs.declared.spreads.links.Link.{Link}
use Rattle.machine_sets.proofs.SpreadsWords.PassLemmas.{any-appended, any-more, linked-led}

-- the first contacts of a run, up to one of them
abbrev pub front_of : Run → ℕ → Run
front_of run from = record run { count = min from run.count }

-- a part of a run that has room is an eight
is-eight : (run : Run) (from : ℕ) → from < run.count → HasRoom run → IsEight (eight_of run from)
is-eight run from low room = record {
  room = record {
    from = let first = room.from in omega (arith, first);
    high = let high = room.high in omega (arith, high, low);
    to = let to = room.to in omega (arith, to, low);
  };
  few = omega arith;
}

-- the first contacts of a run and the eight behind them
eight-behind : (run : Run) (from f t : ℕ) → from < run.count
    → is_contact (front_of run (from + 8)) f t ≡ (is_contact (front_of run from) f t || is_contact (eight_of run from) f t)
eight-behind run from f t low =
    by run.exits run.count (f == run.common + (t - run.exits)) (f == run.common + from + (t - (run.exits + from)))
    (λ more. ap (λ (n : ℕ). f == n) (index run.common run.exits more))
  where
    index : (common exits : ℕ) → exits + from ≤ t → common + from + (t - (exits + from)) ≡ common + (t - exits)
    index common exits more = omega (arith, more)

    by : (exits count : ℕ) (a b : Bool) → (exits + from ≤ t → b ≡ a)
        → (nat_le exits t && (nat_lt (t - exits) (min (from + 8) count) && a))
        ≡ ((nat_le exits t && (nat_lt (t - exits) (min from count) && a))
        || (nat_le (exits + from) t && (nat_lt (t - (exits + from)) (min (count - from) 8) && b)))
    by exits count a b same = ⊎_elim
        (λ (less : t < exits + from). grind (arith, nat_tests, less, low))
        (λ (more : exits + from ≤ t). let e = same more in grind (arith, nat_tests, more, low, e)) (cases_lt t (exits + from))

-- where what is new is one run more, which the test gains, its contacts are added
one-more : (test more : ℕ → ℕ → Bool) (contacts : List Link) (first old : List Run) (run : Run)
    → ((f t : ℕ) → more f t ≡ (test f t || is_contact run f t)) → AddsEights test contacts first old
    → AddsEights more contacts first (old ++ run ∷ [])
one-more test more contacts first old run gains before = record {
  kept = λ f t at. any-appended old run f t ∙ or_left _ _ (before.kept f t at);
  added = λ f t of listed.
      any-appended old run f t
      ∙ ⊎_elim (λ at. or_left _ _ (before.added f t at listed)) (λ at. or_right (is_any_contact old f t) _ at)
      (or_cases (test f t) (is_contact run f t) (sym (gains f t) ∙ of));
  only = λ f t at.
      ⊎_elim (λ there. widened f t (before.only f t there)) (λ here. inr (gains f t ∙ or_right (test f t) _ here))
      (or_cases (is_any_contact old f t) (is_contact run f t) (sym (any-appended old run f t) ∙ at));
}
  where
    widened : (f t : ℕ) → (is_any_contact first f t ≡ true) ⊎ (test f t ≡ true) → (is_any_contact first f t ≡ true) ⊎ (more f t ≡ true)
    widened f t (inl at) = inl at
    widened f t (inr at) = inr (gains f t ∙ or_left _ _ at)

-- one eight more is added
pub eights-more : (run : Run) (from : ℕ) (contacts : List Link) (first old new : List Run) (eight : Run) → from < run.count → HasRoom run
    → eight ≡ eight_of run from → new ≡ old ++ eight ∷ [] → All IsEight old → AddsEights (is_contact (front_of run from)) contacts first old
    → All IsEight new × AddsEights (is_contact (front_of run (from + 8))) contacts first new
eights-more run from contacts first old new eight low room cut is eights before =
    subst (λ (items : List Run). All IsEight items × AddsEights (is_contact (front_of run (from + 8))) contacts first items)
    (sym (is ∙ ap (λ (e : Run). old ++ e ∷ []) cut)) (
      All-push IsEight old (eight_of run from) eights (is-eight run from low room),
      one-more (is_contact (front_of run from)) (is_contact (front_of run (from + 8))) contacts first old (eight_of run from)
          (λ f t. eight-behind run from f t low) before,
    )

-- a contact that isn't listed is passed over
pub eights-past : (run : Run) (from : ℕ) (contacts : List Link) (first old : List Run) → from < run.count
    → is_led_to contacts (run.exits + from) ≡ false → AddsEights (is_contact (front_of run from)) contacts first old
    → AddsEights (is_contact (front_of run (from + 1))) contacts first old
eights-past run from contacts first old low none before = record {
  kept = before.kept;
  added = λ f t of listed. ⊎_elim
      (λ (same : t ≡ run.exits + from).
      absurd (false≢true (sym none ∙ ap (λ (p : ℕ). is_led_to contacts p) (sym same) ∙ linked-led contacts f t listed)))
      (λ (other : t ≢ run.exits + from).
      before.added f t (narrowed run.exits run.count t (f == run.common + (t - run.exits)) other low of) listed)
      (cases_eq t (run.exits + from));
  only = λ f t at. widened f t (before.only f t at);
}
  where
    narrowed : (exits count t : ℕ) (a : Bool) → t ≢ exits + from → from < count
        → (nat_le exits t && (nat_lt (t - exits) (min (from + 1) count) && a)) ≡ true
        → (nat_le exits t && (nat_lt (t - exits) (min from count) && a)) ≡ true
    narrowed exits count t a other low of = grind (arith, nat_tests, other, low, of)

    longer : (exits count t : ℕ) (a : Bool) → (nat_le exits t && (nat_lt (t - exits) (min from count) && a)) ≡ true
        → (nat_le exits t && (nat_lt (t - exits) (min (from + 1) count) && a)) ≡ true
    longer exits count t a of = grind (arith, nat_tests, of)

    widened : (f t : ℕ) → (is_any_contact first f t ≡ true) ⊎ (is_contact (front_of run from) f t ≡ true)
        → (is_any_contact first f t ≡ true) ⊎ (is_contact (front_of run (from + 1)) f t ≡ true)
    widened f t (inl at) = inl at
    widened f t (inr at) = inr (longer run.exits run.count t (f == run.common + (t - run.exits)) at)

-- no run has none
pub AreEights-none : (contacts : List Link) → AreEights [] contacts []
AreEights-none contacts = record {
  each = All-nil IsEight;
  lie = λ from to of listed. of;
  only = λ from to at. at;
}

-- one run more has its eights
pub AreEights-more : (runs : List Run) (i : ℕ) (d run : Run) (contacts : List Link) (old new : List Run) → i < length runs
    → slice_index_or runs i d ≡ run → AreEights (take i runs) contacts old → All IsEight new → AddsEights (is_contact run) contacts old new
    → AreEights (take (i + 1) runs) contacts new
AreEights-more runs i d run contacts old new inside is before each then = record {
  each = each;
  lie = λ f t of listed.
      ⊎_elim (λ at. then.kept f t (before.lie f t at listed)) (λ at. then.added f t at listed)
      (or_cases (is_any_contact (take i runs) f t) (is_contact run f t) (sym (gains f t) ∙ of));
  only = λ f t at. ⊎_elim
      (λ there. gains f t ∙ or_left _ _ (before.only f t there))
      (λ here. gains f t ∙ or_right (is_any_contact (take i runs) f t) _ here)
      (then.only f t at);
}
  where
    gains : (f t : ℕ) → is_any_contact (take (i + 1) runs) f t ≡ (is_any_contact (take i runs) f t || is_contact run f t)
    gains f t = any-more runs i d run f t inside is
