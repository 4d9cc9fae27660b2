-- The same tapes are equal.
use Rattle.std.proofs.Common.{◌≡◌, ◌∙◌, sym, subst, ℕ, ◌<◌, Bool, false, List, [], length, get_or}
use Rattle.std.proofs.lemmas.List.{ext_get_or}
use Rattle.std.proofs.lemmas.List.Elements.{All-get_or}
use Rattle.hubs.specs.SetupsWords.Tapes.{CarriageTape, IsCarriageTape, SameTape}

-- rows with as many places are the same where they have the same stops
same_row : (one other : List Bool) → length one ≡ 145 → length other ≡ 145
    → ((line : ℕ) → get_or one line false ≡ get_or other line false) → one ≡ other
same_row one other long also same = ext_get_or false one other (long ∙ sym also) (λ line _. same line)

-- the same tapes are equal
pub SameTape-same : (one other : CarriageTape) → IsCarriageTape one → IsCarriageTape other → SameTape one other → one ≡ other
SameTape-same one other first second same = λ i. record {
  lines = sym same.lines i;
  first = sym same.first i;
  overflow = sym same.overflow i;
  stops = rows i;
} where
  long_row : (form : CarriageTape) → IsCarriageTape form → (channel : ℕ) → channel < length form.stops → length (get_or form.stops channel []) ≡ 145
  long_row form is channel within = All-get_or (λ (r : List Bool). length r ≡ 145) form.stops channel [] within is.places.lines

  rows : one.stops ≡ other.stops
  rows =
      let long : length one.stops ≡ length other.stops = first.places.channels ∙ sym second.places.channels in
      ext_get_or [] one.stops other.stops long
      (λ channel within.
      same_row (get_or one.stops channel []) (get_or other.stops channel [])
      (long_row one first channel within)
      (long_row other second channel (subst (λ (n : ℕ). channel < n) long within))
      (λ line. sym (same.stops channel line)))
