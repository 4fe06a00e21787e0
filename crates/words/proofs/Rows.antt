-- The search by numbers finds the row that a word stands in; the rows are distinct words.
-- Assumes nothing.
use mathlib.Core.Path.{◌≡◌, refl, sym, ap, ◌∙◌}
use mathlib.Core.Bool.{Bool, true, false, cond}
use mathlib.Core.List.{List, [], ◌∷◌, map, reverse}
use Prim.Native.Nat.{ℕ, ◌+◌, ◌-◌, ◌*◌, ◌^◌, ◌<◌, ◌≤◌}
use native.Mathlib.Omega.{arith}
use native.Mathlib.Nat.{pow-suc, pow-le-pow_right, le_refl}
use borrow.Author.Tests.{leb-true, eqb-true, eqb-false, eq-eqb, ne_eqb}
use lib.Dec.{T, leb, eqb}
use lib.ListN.{length, drop, get_or, drop_of_length-le, length-drop, length-map}
use Rattle.std.specs.Prelude.{Some, None, position}
use Rattle.std.specs.List.{position_from}
use Rattle.std.proofs.lemmas.Iterator.Adapters.{position_from-zero}
use Rattle.std.proofs.lemmas.List.{length-reverse, get_or-reverse}
use Rattle.laws.specs.Pick.{pick, within, same_list}
use Rattle.laws.specs.Text.{bytes}
use Rattle.laws.proofs.Lists.{uncons, same_equal}
use Rattle.laws.proofs.Ranges.{Ranged, ranged, below, inside, above}
use Rattle.laws.proofs.Table.{every, first_passes, others_pass}
use Rattle.words.specs.Vocabulary.{lower_of, lower, Row, subset, others, vocabulary, row_from, row_of}
use Rattle.words.specs.Inside.Codes.{letter_of, code_of, row_code, codes}
use Rattle.words.proofs.Letters.{digit_some, digit-below, lower-digit, digit-lower}

-- THE NUMBER OF A WORD

pub code_below : (s : List ℕ) → code_of s < 28 ^ length s
unfolding code_of
code_below [] = omega arith
code_below (b ∷ s) = let h = code_below s in let d = digit-below b in rw pow-suc (omega arith)

-- one letter more, going back: the number of what is left of a word, of which k bytes have been read from its end
pub code-back : (s : List ℕ) (k code byte : ℕ) → code ≡ code_of (drop (length s - k) s) → (k < length (reverse s)) × (byte ≡ get_or (reverse s) k byte)
    → code * 28 + letter_of byte ≡ code_of (drop (length s - (k + 1)) s)
unfolding code_of
code-back s k code byte e turn =
    let h : k < length s = rw length-reverse at turn.0 in
    let at : length s - 1 - k ≡ length s - (k + 1) = omega arith in
    let next : length s - (k + 1) + 1 ≡ length s - k = omega arith in
    let is : byte ≡ get_or s (length s - (k + 1)) byte = turn.1 ∙ get_or-reverse s k byte h ∙ ap (λ i. get_or s i byte) at in
    rw (uncons s (length s - (k + 1)) byte (omega arith), next, ← is, ← e)

pub code-none : (s : List ℕ) → 0 ≡ code_of (drop (length s) s)
unfolding code_of
code-none s = rw (drop_of_length-le s (le_refl (length s)))

pub code-whole : (s : List ℕ) (k code : ℕ) → code ≡ code_of (drop (length s - k) s) → k ≡ length (reverse s) → code ≡ code_of s
code-whole s k code e h = let z : length s - k ≡ 0 = omega (arith, length-reverse s) in rw z at e

pub code_fits : (s : List ℕ) (i : ℕ) → length s ≤ 13 → code_of (drop i s) < 28 ^ 13
code_fits s i h =
    let p = code_below (drop i s) in
    let l : length (drop i s) ≤ 13 = rw length-drop (omega arith) in
    let q : 28 ^ length (drop i s) ≤ 28 ^ 13 = pow-le-pow_right (omega arith) l in
    omega arith

-- small letters only
abbrev small : List ℕ → Bool
small row = every (within 97 122) row

-- two digits in front of two numbers
digits_same : (x y d e : ℕ) → d ≡ e → eqb x y ≡ eqb (x * 28 + d) (y * 28 + e)
digits_same x y d e h = go (eqb x y) refl
  where
    go : (t : Bool) → eqb x y ≡ t → t ≡ eqb (x * 28 + d) (y * 28 + e)
    go true p = let z = eqb-true x y p in sym (eq-eqb (x * 28 + d) (y * 28 + e) (omega arith))
    go false p = let f = eqb-false x y p in sym (ne_eqb _ _ (λ (z : x * 28 + d ≡ y * 28 + e). f (omega arith)))

inside_of : (low high n : ℕ) → within low high n ≡ true → (low ≤ n) × (n ≤ high)
inside_of low high n e = go (ranged low high n)
  where
    go : Ranged low high n → (low ≤ n) × (n ≤ high)
    go (below f h) = let z : ◌≡◌ {A = ℕ} 0 1 = cc in absurd (omega arith)
    go (inside f h l) = (h, l)
    go (above f h) = let z : ◌≡◌ {A = ℕ} 0 1 = cc in absurd (omega arith)

-- a word and a row of small letters are the same just where their numbers are
pub coded : (word row : List ℕ) → T (small row) → same_list (lower word) row ≡ eqb (code_of row) (code_of word)
unfolding code_of same_list
coded [] [] t = refl
coded [] (c ∷ row) t = let d = digit_some c in sym (ne_eqb _ _ (λ (z : code_of row * 28 + letter_of c ≡ 0). omega arith))
coded (b ∷ word) [] t = let d = digit_some b in sym (ne_eqb _ _ (λ (z : 0 ≡ code_of word * 28 + letter_of b). omega arith))
coded (b ∷ word) (c ∷ row) t =
    let r = inside_of 97 122 c (first_passes (within 97 122 c) (small row) t) in
    go r (eqb (lower_of b) c) refl (coded word row (others_pass (within 97 122 c) (small row) t))
  where
    go : (97 ≤ c) × (c ≤ 122) → (p : Bool) → eqb (lower_of b) c ≡ p → same_list (lower word) row ≡ eqb (code_of row) (code_of word)
        → pick p (same_list (lower word) row) false ≡ eqb (code_of row * 28 + letter_of c) (code_of word * 28 + letter_of b)
    go r true p ih = ih ∙ digits_same (code_of row) (code_of word) _ _ (sym (lower-digit b c r.0 r.1 (eqb-true _ _ p)))
    go r false p ih =
        let f = eqb-false (lower_of b) c p in
        let x = digit-below b in
        let y = digit-below c in
        sym (ne_eqb _ _ (λ (z : code_of row * 28 + letter_of c ≡ code_of word * 28 + letter_of b). f (digit-lower b c r.0 r.1 (omega arith))))

-- THE ROWS

-- small letters only, at most 13 of them
abbrev proper : Row → Bool
proper r = pick (small (bytes r.spelling)) (leb (length (bytes r.spelling)) 13) false

all_proper : T (every proper vocabulary)
unfolding subset others vocabulary
all_proper = tt

proper-small : (r : Row) → proper r ≡ true → T (small (bytes r.spelling))
proper-small r e = go (small (bytes r.spelling)) (leb (length (bytes r.spelling)) 13) e
  where
    go : (a b : Bool) → pick a b false ≡ true → T a
    go true b e = tt
    go false b e = let z : ◌≡◌ {A = ℕ} 0 1 = cc in absurd (omega arith)

proper-short : (r : Row) → proper r ≡ true → length (bytes r.spelling) ≤ 13
proper-short r e = leb-true _ _ (go (small (bytes r.spelling)) (leb (length (bytes r.spelling)) 13) e)
  where
    go : (a b : Bool) → pick a b false ≡ true → b ≡ true
    go true b e = e
    go false b e = let z : ◌≡◌ {A = ℕ} 0 1 = cc in absurd (omega arith)

found : (k : ℕ) (word : List ℕ) (rows : List Row) → T (every proper rows) → position_from (λ c. eqb c (code_of word)) k (map row_code rows) ≡ row_from k (lower word) rows
unfolding row_from
found k word [] t = refl
found k word (r ∷ rows) t =
    rw (
      coded word (bytes r.spelling) (proper-small r (first_passes (proper r) (every proper rows) t)),
      found (k + 1) word rows (others_pass (proper r) (every proper rows) t),
    ) (go (eqb (row_code r) (code_of word)))
  where
    go : (t : Bool) → cond t (Some k) (row_from (k + 1) (lower word) rows) ≡ pick t (Some k) (row_from (k + 1) (lower word) rows)
    go true = refl
    go false = refl

-- the row by the word's number is the row by the word
pub row_by_code : (word : List ℕ) → position (λ c. eqb c (code_of word)) codes ≡ row_of word
unfolding codes row_of
row_by_code word = position_from-zero (λ c. eqb c (code_of word)) codes ∙ found 0 word vocabulary all_proper

-- a word of more than 13 bytes stands in no row
missed : (k : ℕ) (word : List ℕ) (rows : List Row) → T (every proper rows) → 13 < length word → None ≡ row_from k (lower word) rows
unfolding row_from
missed k word [] t h = refl
missed k word (r ∷ rows) t h =
    go (same_list (lower word) (bytes r.spelling)) refl (missed (k + 1) word rows (others_pass (proper r) (every proper rows) t) h)
  where
    go : (p : Bool) → same_list (lower word) (bytes r.spelling) ≡ p → None ≡ row_from (k + 1) (lower word) rows
        → None ≡ pick p (Some k) (row_from (k + 1) (lower word) rows)
    go true p ih =
        let e = ap length (same_equal (lower word) (bytes r.spelling) p) in
        let l = proper-short r (first_passes (proper r) (every proper rows) t) in
        absurd (omega (arith, length-map word lower_of))
    go false p ih = ih

pub row_of_long : (word : List ℕ) → 13 < length word → None ≡ row_of word
unfolding row_of
row_of_long word h = missed 0 word vocabulary all_proper h
