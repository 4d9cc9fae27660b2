-- The row of a group's exits that emit.
use Rattle.std.proofs.Common.{◌≡◌, ◌≢◌, ◌∙◌, refl, sym, ap, ℕ, suc, ◌+◌, ◌-◌, ◌*◌, ◌%◌, ◌^◌, ◌<◌, ◌≤◌, ◌&&◌, ◌||◌, inl, inr, Bool, true, false, Option, Some, None, List, [], ◌∷◌, length, reverse, get_or, bit_or, arith}
use Rattle.std.specs.Prelude.{◌==◌, nat_le, nat_lt}
use Rattle.std.proofs.Math.Nat.{zero-mul}
use Rattle.std.proofs.lemmas.Bool.Decides.{eqb_tells, nat_tests}
use Rattle.std.proofs.lemmas.Nat.Bits.{bit_at-pow_other, bit_at-pow_same, bit_at-lt, bit_at-zero, bit_at_or}
use Rattle.std.proofs.lemmas.List.{get_or-reverse, length-reverse}
use Rattle.std.proofs.lemmas.Nat.{one_shl}
use Rattle.std.specs.Int.{bit_at}
use mir.Val.{bool_byte}
use Rattle.hubs.specs.Hubs.{number_of}
use Rattle.hubs.specs.HubTable.Places.{is_width, positions_before}
use Rattle.hubs.specs.HubTable.Ranges.{is_within}
use Rattle.hubs.specs.declared.hub.Group.{Group}
use Rattle.hubs.specs.declared.hub.Hub.{Hub}
use Rattle.hubs.specs.declared.hub.Hub.TheVariants.{GX}
use Rattle.net.proofs.KindRows.{GX_numbered, numbered_in}
use Rattle.net.specs.HubSets.{is_bit, is_bit_from, is_hub, is_in_row, is_same_number}
use Rattle.net.specs.HubRows.{has_at}
use Rattle.net.specs.RowSets.{is_in_sets, is_set_from}
use Rattle.counters.specs.Counters.{shows}
use Rattle.counters.specs.Shown.{shows_at}

-- before the first position no bit is set
pub no_bits : (given : ℕ) (digits : List ℕ) (bit : ℕ)
    → is_bit 0 bit ≡ (nat_lt bit 0 && (get_or digits bit 0 == given))
unfolding is_bit
no_bits given digits bit = let e = bit_at-zero bit in grind (arith, nat_tests, e)

-- the bits of two words together
pub is_bit-or : (a b j : ℕ) → is_bit (bit_or a b) j ≡ (is_bit a j || is_bit b j)
unfolding is_bit
is_bit-or a b j =
    let x = bit_at-lt a j in let y = bit_at-lt b j in let z = bit_at_or a b j in
    grind (arith, nat_tests, x, y, z)

-- the bits of one position more
pub one_bit_more :
    (given : ℕ) (digits : List ℕ) (k bit bits one : ℕ) (test : Bool)
    → test ≡ (get_or digits k 0 == given)
    → is_bit bits bit ≡ (nat_lt bit k && (get_or digits bit 0 == given))
    → is_bit one bit ≡ (test && (bit == k))
    → is_bit (bit_or bits one) bit ≡ (nat_lt bit (k + 1) && (get_or digits bit 0 == given))
one_bit_more given digits k bit bits one test is so_far here = is_bit-or bits one bit ∙ elim (eqb_tells bit k) [
  | inl same ↦
      let place : (get_or digits bit 0 == given) ≡ test = ap (λ b. get_or digits b 0 == given) same.1 ∙ sym is in
      grind (arith, nat_tests, place, so_far, here, same.1)
  | inr other ↦ grind (arith, nat_tests, so_far, here, other.1)
]

-- no bit of 0 is set
pub is_bit-zero : (j : ℕ) → is_bit 0 j ≡ false
unfolding is_bit
is_bit-zero j = ap (λ n. n == 1) (bit_at-zero j)

-- the bits of a power
pub is_bit-pow : (k j : ℕ) → is_bit (2 ^ k) j ≡ (j == k)
unfolding is_bit
is_bit-pow k j = elim (eqb_tells j k) [
  | inl same ↦
      let e : bit_at (2 ^ k) j ≡ 1 = ap (bit_at (2 ^ k)) same.1 ∙ bit_at-pow_same k in
      grind (arith, nat_tests, e, same.1)
  | inr other ↦ let e = bit_at-pow_other k j other.1 in grind (arith, nat_tests, e, other.1)
]

-- one bit, where a test is true
pub is_bit-where : (test : Bool) (k j : ℕ) → k < 128 → is_bit (bool_byte test * 2 ^ k % 2 ^ 128) j ≡ (test && (j == k))
is_bit-where true k j low = ap (λ n. is_bit n j) (one_shl k 128 low) ∙ is_bit-pow k j
is_bit-where false k j low = ap (λ n. is_bit (n % 2 ^ 128) j) (zero-mul (2 ^ k)) ∙ is_bit-zero j

-- whether the position of a bit, counted from the units, has the given digit, by the digits from the top down
abbrev shows_below : ℕ → List ℕ → ℕ → Bool
shows_below given digits bit = nat_lt bit (length digits) && (get_or digits (length digits - 1 - bit) 0 == given)

-- the same, by the digits from the units on
shows_at-reverse : (given : ℕ) (digits : List ℕ) (bit : ℕ) → shows_at given digits bit ≡ shows_below given (reverse digits) bit
shows_at-reverse given digits bit = by (nat_lt bit (length digits)) refl where
  long : length (reverse digits) ≡ length digits
  long = length-reverse digits

  by : (b : Bool) → nat_lt bit (length digits) ≡ b → shows_at given digits bit ≡ shows_below given (reverse digits) bit
  by true low =
      let within : bit < length digits = grind (arith, nat_tests, low) in
      let place : length digits - 1 - (length (reverse digits) - 1 - bit) ≡ bit = omega (arith, long, within) in
      let item : get_or (reverse digits) (length (reverse digits) - 1 - bit) 0 ≡ get_or digits bit 0
      = get_or-reverse digits (length (reverse digits) - 1 - bit) 0 (omega (arith, long, within)) ∙ ap (λ k. get_or digits k 0) place in
      ap (λ n. nat_lt bit n && (get_or digits bit 0 == given)) (sym long)
      ∙ ap (λ d. nat_lt bit (length (reverse digits)) && (d == given)) (sym item)
  by false high =
      ap (λ b. b && (get_or digits bit 0 == given)) high
      ∙ sym (ap (λ n. nat_lt bit n && (get_or (reverse digits) (length (reverse digits) - 1 - bit) 0 == given)) long
      ∙ ap (λ b. b && (get_or (reverse digits) (length (reverse digits) - 1 - bit) 0 == given)) high)

-- a list at its first place, and after it
at_first : (d i : ℕ) (below : List ℕ) → i ≡ 0 → get_or (d ∷ below) i 0 ≡ d
at_first d i below is = ap (λ k. get_or (d ∷ below) k 0) is

at_next : (d i j : ℕ) (below : List ℕ) → i ≡ suc j → get_or (d ∷ below) i 0 ≡ get_or below j 0
at_next d i j below is = ap (λ k. get_or (d ∷ below) k 0) is

-- one position more, by the number of a hub
shows_more :
    (given start h d : ℕ) (below : List ℕ) (own seen : Bool)
    → own ≡ (start + (length below + 1) == h)
    → seen ≡ (nat_le (start + 1) h && shows_below given below (h - (start + 1)))
    → (((d == given) && own) || seen) ≡ (nat_le (start + 1) h && shows_below given (d ∷ below) (h - (start + 1)))
shows_more given start h d below own seen is so_far = elim (eqb_tells h (start + (length below + 1))) [
  | inl same ↦
      let first = at_first d (length (d ∷ below) - 1 - (h - (start + 1))) below (omega (arith, same.1)) in
      grind (arith, nat_tests, first, is, so_far, same.1)
  | inr other ↦ by (nat_lt (h - (start + 1)) (length below)) refl other.1
]
  where
    by : (b : Bool) → nat_lt (h - (start + 1)) (length below) ≡ b → h ≢ start + (length below + 1)
        → (((d == given) && own) || seen) ≡ (nat_le (start + 1) h && shows_below given (d ∷ below) (h - (start + 1)))
    by true low other =
        let within : h - (start + 1) < length below = grind (arith, nat_tests, low) in
        let next = at_next d (length (d ∷ below) - 1 - (h - (start + 1))) (length below - 1 - (h - (start + 1))) below
        (omega (arith, within)) in
        grind (arith, nat_tests, next, is, so_far, other, low)
    by false high other = grind (arith, nat_tests, is, so_far, other, high)

-- the exits of some lowest positions that emit, by the number of a hub
shows-number :
    (name : Group) (given : ℕ) (start : ℕ) (digits : List ℕ) (hub : Hub) (h : ℕ)
    → ((n : ℕ) → 1 ≤ n → n ≤ length digits → number_of (GX name n) ≡ Some (start + n)) → number_of hub ≡ Some h
    → shows name given digits hub ≡ (nat_le (start + 1) h && shows_below given digits (h - (start + 1)))
shows-number name given start [] hub h numbered is = grind (arith, nat_tests)
shows-number name given start (d ∷ below) hub h numbered is =
    shows_more given start h d below (is_hub (GX name (length below + 1)) hub) (shows name given below hub)
    (ap (λ m. is_same_number m (number_of hub)) (numbered (length below + 1) (omega arith) (omega arith))
    ∙ ap (is_same_number (Some (start + (length below + 1)))) is)
    (shows-number name given start below hub h (λ n from to. numbered n from (omega (arith, to))) is)

-- a hub without a number is no position's exit
no_number : (m : Option ℕ) → is_same_number m None ≡ false
no_number None = refl
no_number (Some m) = refl

no_bit_from : (m : Option ℕ) (bits : ℕ) → is_bit_from m bits None ≡ false
no_bit_from None bits = refl
no_bit_from (Some m) bits = refl

shows-none : (name : Group) (given : ℕ) (digits : List ℕ) (hub : Hub) → number_of hub ≡ None → shows name given digits hub ≡ false
shows-none name given [] hub none = refl
shows-none name given (d ∷ below) hub none =
    let own : is_hub (GX name (length below + 1)) hub ≡ false
    = ap (is_same_number (number_of (GX name (length below + 1)))) none ∙ no_number (number_of (GX name (length below + 1))) in
    both (d == given) (is_hub (GX name (length below + 1)) hub) (shows name given below hub) own (shows-none name given below hub none)
  where
    both : (a b c : Bool) → b ≡ false → c ≡ false → ((a && b) || c) ≡ false
    both a b c e f = grind (arith, nat_tests, e, f)

-- the row of the exits
pub shows-row :
    (name : Group) (given : ℕ) (digits : List ℕ) (bits : ℕ) (hub : Hub)
    → is_width name.width ≡ true → is_within name.number 8 ≡ true → length digits ≡ name.width
    → ((bit : ℕ) → is_bit bits bit ≡ shows_at given digits bit)
    → is_in_row (GX name 1) bits hub ≡ shows name given (reverse digits) hub
shows-row name given digits bits hub wide named long bit = by (number_of hub) refl
  where
    start : ℕ
    start = 190 + positions_before name.width + (name.number - 1) * name.width

    numbered : (n : ℕ) → 1 ≤ n → n ≤ length (reverse digits) → number_of (GX name n) ≡ Some (start + n)
    numbered n from to =
        GX_numbered name wide named n ∙ numbered_in start name.width n from (omega (arith, to, long, length-reverse digits))

    some : 1 ≤ length (reverse digits)
    some = let e : 1 ≤ name.width = grind (arith, nat_tests, wide) in omega (arith, e, long, length-reverse digits)

    by : (m : Option ℕ) → number_of hub ≡ m → is_in_row (GX name 1) bits hub ≡ shows name given (reverse digits) hub
    by None none =
        ap (is_bit_from (number_of (GX name 1)) bits) none ∙ no_bit_from (number_of (GX name 1)) bits
        ∙ sym (shows-none name given (reverse digits) hub none)
    by (Some h) is =
        ap (λ m. is_bit_from m bits (number_of hub)) (numbered 1 (omega arith) some)
        ∙ ap (is_bit_from (Some (start + 1)) bits) is
        ∙ ap (λ b. nat_le (start + 1) h && b) (bit (h - (start + 1)) ∙ shows_at-reverse given digits (h - (start + 1)))
        ∙ sym (shows-number name given start (reverse digits) hub h numbered is)

-- the sets of the exits have each row where the position's digit is that of the row
pub shows-sets :
    (name : Group) (given place : ℕ) (digits : List ℕ) (sets : List ℕ) (hub : Hub)
    → is_width name.width ≡ true → is_within name.number 8 ≡ true → length digits ≡ name.width
    → ((k : ℕ) → has_at sets k place ≡ shows_at given digits k)
    → is_in_sets (GX name 1) sets place hub ≡ shows name given (reverse digits) hub
shows-sets name given place digits sets hub wide named long at = by (number_of hub) refl
  where
    start : ℕ
    start = 190 + positions_before name.width + (name.number - 1) * name.width

    numbered : (n : ℕ) → 1 ≤ n → n ≤ length (reverse digits) → number_of (GX name n) ≡ Some (start + n)
    numbered n from to =
        GX_numbered name wide named n ∙ numbered_in start name.width n from (omega (arith, to, long, length-reverse digits))

    some : 1 ≤ length (reverse digits)
    some = let e : 1 ≤ name.width = grind (arith, nat_tests, wide) in omega (arith, e, long, length-reverse digits)

    no_set_from : (m : Option ℕ) → is_set_from m sets place None ≡ false
    no_set_from None = refl
    no_set_from (Some m) = refl

    by : (m : Option ℕ) → number_of hub ≡ m → is_in_sets (GX name 1) sets place hub ≡ shows name given (reverse digits) hub
    by None none =
        ap (is_set_from (number_of (GX name 1)) sets place) none ∙ no_set_from (number_of (GX name 1))
        ∙ sym (shows-none name given (reverse digits) hub none)
    by (Some h) is =
        ap (λ m. is_set_from m sets place (number_of hub)) (numbered 1 (omega arith) some)
        ∙ ap (is_set_from (Some (start + 1)) sets place) is
        ∙ ap (λ b. nat_le (start + 1) h && b) (at (h - (start + 1)) ∙ shows_at-reverse given digits (h - (start + 1)))
        ∙ sym (shows-number name given start (reverse digits) hub h numbered is)
