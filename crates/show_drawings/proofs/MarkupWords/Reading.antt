-- Escaped bytes read back, and what they are written with.
use Rattle.std.proofs.Common.{◌≡◌, ◌∙◌, ◌≢◌, true≢false, refl, sym, ap, arith, ℕ, zero, suc, ◌<◌, ◌==◌, Bool, true, false, ◌&&◌, ◌||◌, List, [], ◌∷◌, ◌++◌, Some, None, append_assoc, append-nil, codes}
use Rattle.std.specs.Prelude.{if◌then◌else◌, not}
use Rattle.std.specs.List.{All, list_all}
use Rattle.std.proofs.lemmas.Bool.{and_parts, eqb-true, eq-eqb}
use Rattle.std.proofs.lemmas.List.Elements.{All-append, All-cons, All-head, All-nil, All-tail}
use Rattle.show_drawings.specs.MarkupWords.Escapes.{IsByte, IsWritable, byte_number, four_digits, escaped, escaped_byte, is_name, is_plain, meant, read, unescaped}

-- what stands between & and ; where a byte is not written as it is
name_of : ℕ → List ℕ
name_of byte =
    if byte == 38 then codes "amp"
    else if byte == 60 then codes "lt"
    else if byte == 62 then codes "gt"
    else if byte == 34 then codes "quot"
    else if byte == 39 then codes "apos"
    else codes "#" ++ four_digits (byte_number byte)

-- whether no semicolon stands in a name
is_open : List ℕ → Bool
is_open [] = true
is_open (byte ∷ bytes) = not (byte == 59) && is_open bytes

-- whether a byte is written as it is, or by its name
is_right : ℕ → Bool
is_right byte =
    if is_plain byte then not (byte == 38) && is_name (escaped_byte byte) (byte ∷ [])
    else is_name (escaped_byte byte) (38 ∷ name_of byte ++ 59 ∷ []) && (is_open (name_of byte) && (meant (name_of byte) == byte))

-- whether a byte is written in what may be written
is_writable : ℕ → Bool
is_writable byte = is_plain byte || (byte == 38)

is_well_written : ℕ → Bool
is_well_written byte = list_all is_writable (escaped_byte byte)

-- whether all numbers below one pass a test
all_pass : (ℕ → Bool) → ℕ → Bool
all_pass test zero = true
all_pass test (suc n) = all_pass test n && test n

pass_below : (test : ℕ → Bool) (count n : ℕ) → all_pass test count ≡ true → n < count → test n ≡ true
unfolding all_pass
pass_below test zero n all less = absurd (omega (arith, less))
pass_below test (suc count) n all less =
    let parts = and_parts (all_pass test count) (test count) all in
    at (n == count) refl parts.1 (λ below. pass_below test count n parts.0 below)
  where
    at : (same : Bool) → (n == count) ≡ same → test count ≡ true → (n < count → test n ≡ true) → test n ≡ true
    at true e last before = ap test (eqb-true n count e) ∙ last
    at false e last before =
        let apart : n ≢ count = λ one. true≢false (sym (eq-eqb n count one) ∙ e) in before (omega (arith, less))

all_right : all_pass is_right 256 ≡ true
unfolding all_pass is_right name_of is_open
all_right = refl

all_well_written : all_pass is_well_written 256 ≡ true
unfolding all_pass is_well_written is_writable
all_well_written = refl

-- two names are one
same_name : (one other : List ℕ) → is_name one other ≡ true → one ≡ other
same_name [] [] e = refl
same_name [] (b ∷ bs) e = cc
same_name (a ∷ others) [] e = cc
same_name (a ∷ others) (b ∷ bs) e =
    let parts = and_parts (a == b) (is_name others bs) e in
    ap (λ (n : ℕ). n ∷ others) (eqb-true a b parts.0) ∙ ap (λ (l : List ℕ). b ∷ l) (same_name others bs parts.1)

-- a name is read to its end
read_name : (seen name rest : List ℕ) → is_open name ≡ true
    → read (Some seen) (name ++ 59 ∷ rest) ≡ meant (seen ++ name) ∷ read None rest
unfolding is_open
read_name seen [] rest e = ap (λ (l : List ℕ). meant l ∷ read None rest) (sym (append-nil seen))
read_name seen (byte ∷ bytes) rest e =
    let parts = and_parts (not (byte == 59)) (is_open bytes) e in
    goes_on (byte == 59) refl parts.0 (read_name (seen ++ byte ∷ []) bytes rest parts.1)
  where
    goes_on : (last : Bool) → (byte == 59) ≡ last → not (byte == 59) ≡ true
        → read (Some (seen ++ byte ∷ [])) (bytes ++ 59 ∷ rest) ≡ meant ((seen ++ byte ∷ []) ++ bytes) ∷ read None rest
        → read (Some seen) (byte ∷ bytes ++ 59 ∷ rest) ≡ meant (seen ++ byte ∷ bytes) ∷ read None rest
    goes_on true e apart next = absurd (true≢false (sym apart ∙ ap not e))
    goes_on false e apart next =
        ap (λ (b : Bool). if b then meant seen ∷ read None (bytes ++ 59 ∷ rest) else read (Some (seen ++ byte ∷ [])) (bytes ++ 59 ∷ rest)) e
        ∙ next ∙ ap (λ (l : List ℕ). meant l ∷ read None rest) (append_assoc seen (byte ∷ []) bytes)

-- a byte that is written, read back
read_byte : (byte : ℕ) (rest : List ℕ) → byte < 256 → read None (escaped_byte byte ++ rest) ≡ byte ∷ read None rest
unfolding is_right
read_byte byte rest less = by_kind (is_plain byte) refl (pass_below is_right 256 byte all_right less)
  where
    as_it_is : (same : Bool) → (byte == 38) ≡ same → not (byte == 38) ≡ true → read None (byte ∷ rest) ≡ byte ∷ read None rest
    as_it_is true e apart = absurd (true≢false (sym apart ∙ ap not e))
    as_it_is false e apart = ap (λ (b : Bool). if b then read (Some []) rest else byte ∷ read None rest) e

    by_kind : (kind : Bool) → is_plain byte ≡ kind → is_right byte ≡ true
        → read None (escaped_byte byte ++ rest) ≡ byte ∷ read None rest
    by_kind true e right =
        let chosen = sym (ap (λ (b : Bool). if b then not (byte == 38) && is_name (escaped_byte byte) (byte ∷ [])
        else is_name (escaped_byte byte) (38 ∷ name_of byte ++ 59 ∷ []) && (is_open (name_of byte) && (meant (name_of byte) == byte))) e) ∙ right in
        let parts = and_parts (not (byte == 38)) (is_name (escaped_byte byte) (byte ∷ [])) chosen in
        ap (λ (l : List ℕ). read None (l ++ rest)) (same_name (escaped_byte byte) (byte ∷ []) parts.1)
        ∙ as_it_is (byte == 38) refl parts.0
    by_kind false e right =
        let chosen = sym (ap (λ (b : Bool). if b then not (byte == 38) && is_name (escaped_byte byte) (byte ∷ [])
        else is_name (escaped_byte byte) (38 ∷ name_of byte ++ 59 ∷ []) && (is_open (name_of byte) && (meant (name_of byte) == byte))) e) ∙ right in
        let parts = and_parts (is_name (escaped_byte byte) (38 ∷ name_of byte ++ 59 ∷ [])) _ chosen in
        let named = and_parts (is_open (name_of byte)) (meant (name_of byte) == byte) parts.1 in
        ap (λ (l : List ℕ). read None (l ++ rest)) (same_name (escaped_byte byte) (38 ∷ name_of byte ++ 59 ∷ []) parts.0)
        ∙ ap (λ (l : List ℕ). read (Some []) l) (append_assoc (name_of byte) (59 ∷ []) rest)
        ∙ read_name [] (name_of byte) rest named.0
        ∙ ap (λ (n : ℕ). n ∷ read None rest) (eqb-true (meant (name_of byte)) byte named.1)

pub read_back : (words : List ℕ) → All IsByte words → unescaped (escaped words) ≡ words
read_back [] all = refl
read_back (byte ∷ bytes) all =
    read_byte byte (escaped bytes) (All-head IsByte byte bytes all)
    ∙ ap (λ (l : List ℕ). byte ∷ l) (read_back bytes (All-tail IsByte byte bytes all))

writable_list : (text : List ℕ) → list_all is_writable text ≡ true → All IsWritable text
unfolding is_writable
writable_list [] e = All-nil IsWritable
writable_list (byte ∷ bytes) e =
    let parts = and_parts (is_writable byte) (list_all is_writable bytes) e in
    All-cons IsWritable byte bytes parts.0 (writable_list bytes parts.1)

pub written_well : (words : List ℕ) → All IsByte words → All IsWritable (escaped words)
unfolding is_well_written
written_well [] all = All-nil IsWritable
written_well (byte ∷ bytes) all =
    All-append IsWritable (escaped_byte byte) (escaped bytes)
    (writable_list (escaped_byte byte) (pass_below is_well_written 256 byte all_well_written (All-head IsByte byte bytes all)))
    (written_well bytes (All-tail IsByte byte bytes all))
