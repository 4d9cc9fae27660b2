-- The pages of a text: a form feed ends each.
use Rattle.std.specs.Prelude.{ℕ, ◌-◌, suc, zero, Bool, not, ◌||◌, List, [], ◌∷◌, if◌then◌else◌, ◌==◌, length}

-- so many pages from the first on
abbrev pub first_pages : (count : ℕ) → List ℕ → List ℕ
first_pages zero text = []
first_pages (suc count) [] = []
first_pages (suc count) (byte ∷ bytes) = byte ∷ (if byte == 12 then first_pages count bytes else first_pages (suc count) bytes)

-- what stands behind so many pages
abbrev pub pages_behind : (count : ℕ) → List ℕ → List ℕ
pages_behind zero text = text
pages_behind (suc count) [] = []
pages_behind (suc count) (byte ∷ bytes) = if byte == 12 then pages_behind count bytes else pages_behind (suc count) bytes

-- The pages from one to another: those before the first are left out, and so are those behind the last.
abbrev pub chosen_pages : (first last : ℕ) → List ℕ → List ℕ
chosen_pages first last text = first_pages (last - (first - 1)) (pages_behind (first - 1) text)

-- Whether a text has a page with this number: something stands behind the pages before it. Page 0 stands before the first one, and is always
-- there.
abbrev pub has_page : (number : ℕ) → List ℕ → Bool
has_page number text = (number == 0) || not (length (pages_behind (number - 1) text) == 0)
