-- Names kept in a ledger: the search among them, one more of them, and that they stay where other words change.
-- Assumes nothing.
use mathlib.Core.Path.{◌≡◌, refl, sym, ap, ◌∙◌, subst}
use mathlib.Core.Bool.{Bool, true, false, ◌||◌}
use mathlib.Core.List.{List, [], ◌∷◌, ◌++◌}
use Prim.Native.Nat.{ℕ, zero, suc, ◌+◌, ◌-◌, ◌*◌, ◌<◌, ◌≤◌}
use native.Mathlib.Omega.{arith}
use native.Mathlib.Decide.{dec_lt}
use native.Mathlib.Numerals.{add-one}
use borrow.Author.Tests.{lt-ltb, le-ltb}
use lib.Dec.{ltb}
use lib.ListN.{length, get_or, set, length-set}
use lib.Seq.{get_or-set_same, get_or-set_other}
use Rattle.laws.specs.Pick.{pick, same_list}
use Rattle.words.specs.Token.{Name}
use Rattle.look.specs.Inside.Looks.{name_at}
use Rattle.names.specs.Judge.{is_among, number_of}
use Rattle.ledger.specs.Inside.Standing.{Span, Shelf, names_from, Finds, added}
use Rattle.std.specs.Prelude.{Some, None, is_some}
use Rattle.std.specs.Prelude as std

-- THE SEARCH

pub names-length : (t l : List ℕ) (at n : ℕ) → length (names_from t l at n) ≡ n
unfolding names_from
names-length t l at zero = refl
names-length t l at (suc n) = ap suc (names-length t l (at + 2) n)

ltb_suc : (a b : ℕ) → ltb (suc a) (suc b) ≡ ltb a b
ltb_suc a b = elim (dec_lt a b) [
  | yes h ↦ lt-ltb (suc a) (suc b) (omega arith) ∙ sym (lt-ltb a b h)
  | no h ↦ le-ltb (suc a) (suc b) (omega arith) ∙ sym (le-ltb a b (omega arith))
]

-- a name is among names just where its number is below theirs
pub among-number : (n : Name) (ns : List Name) → is_among n ns ≡ ltb (number_of n ns) (length ns)
among-number n [] = refl
among-number n (m ∷ ms) = go (same_list m n) (among-number n ms)
  where
    go : (b : Bool) → is_among n ms ≡ ltb (number_of n ms) (length ms) → (b || is_among n ms) ≡ ltb (pick b 0 (suc (number_of n ms))) (suc (length ms))
    go true e = sym (lt-ltb 0 (suc (length ms)) (omega arith))
    go false e = e ∙ sym (ltb_suc (number_of n ms) (length ms))

pub number_most : (n : Name) (ns : List Name) → number_of n ns ≤ length ns
number_most n [] = omega arith
number_most n (m ∷ ms) = go (same_list m n) (number_most n ms)
  where
    go : (b : Bool) → number_of n ms ≤ length ms → pick b 0 (suc (number_of n ms)) ≤ suc (length ms)
    go true h = omega arith
    go false h = omega arith

-- the names from base on, of which those before i are passed; s says whether the next one is the name n
module _ (t l : List ℕ) (base count i : ℕ) (n : Name) (h : i < count) where
  next_name : names_from t l (base + 2 * i) (count - i)
      ≡ name_at t (get_or l (base + 2 * i) 0) (get_or l (base + 2 * i + 1) 0) ∷ names_from t l (base + 2 * (i + 1)) (count - (i + 1))
  unfolding names_from
  next_name =
      let z : count - i ≡ suc (count - (i + 1)) = omega arith in
      let w : base + 2 * (i + 1) ≡ base + 2 * i + 2 = omega arith in
      rw (z, w)

  module _ (s : Bool) (e : s ≡ same_list (name_at t (get_or l (base + 2 * i) 0) (get_or l (base + 2 * i + 1) 0)) n) where
    pub find_hit : s ≡ true → i + number_of n (names_from t l (base + 2 * i) (count - i)) ≡ i
    find_hit q = rw (next_name, sym e ∙ q) (omega arith)

    pub find_miss : s ≡ false
        → i + 1 + number_of n (names_from t l (base + 2 * (i + 1)) (count - (i + 1))) ≡ i + number_of n (names_from t l (base + 2 * i) (count - i))
    find_miss q = rw (next_name, sym e ∙ q) (omega arith)

pub find_none : (t l : List ℕ) (base count i : ℕ) (n : Name) → count ≤ i → i ≤ count → i + number_of n (names_from t l (base + 2 * i) (count - i)) ≡ i
unfolding names_from
find_none t l base count i n h g = let z : count - i ≡ 0 = omega arith in rw z (omega arith)

pub find_first : (t l : List ℕ) (base count : ℕ) (n : Name) → 0 + number_of n (names_from t l (base + 2 * 0) (count - 0)) ≡ number_of n (names_from t l base count)
find_first t l base count n =
    let z : base + 2 * 0 ≡ base = omega arith in
    let w : count - 0 ≡ count = omega arith in
    rw (z, w) (omega arith)

-- by the number r, the name is among the names from base on or is not
module _ (t l : List ℕ) (base count : ℕ) (n : Name) (r : ℕ) (e : r ≡ number_of n (names_from t l base count)) where
  pub among-answer : ltb r count ≡ is_among n (names_from t l base count)
  among-answer = rw (among-number n (names_from t l base count), names-length t l base count, e)

  pub among-found : r < count → is_among n (names_from t l base count) ≡ true
  among-found h = sym among-answer ∙ lt-ltb r count h

  pub among-missed : count ≤ r → is_among n (names_from t l base count) ≡ false
  among-missed h = sym among-answer ∙ le-ltb r count h

-- and by what is found
pub among-finds : (t l : List ℕ) (base count : ℕ) (n : Name) (r : std.Option ℕ) → Finds t l base count n r → is_some r ≡ is_among n (names_from t l base count)
among-finds t l base count n (Some i) x = sym (among-found t l base count n i x.1 x.0)
among-finds t l base count n None x = sym (among-missed t l base count n count x (omega arith))

-- WHERE OTHER WORDS CHANGE

pub names_same : (t l m : List ℕ) (at n : ℕ) → ((k : ℕ) → at ≤ k → k < at + 2 * n → get_or m k 0 ≡ get_or l k 0) → names_from t m at n ≡ names_from t l at n
unfolding names_from
names_same t l m at zero f = refl
names_same t l m at (suc n) f =
    rw (f at (omega arith) (omega arith), f (at + 1) (omega arith) (omega arith), names_same t l m (at + 2) n (λ k h g. f k (omega arith) (omega arith)))

pub shelf_same : (t l m : List ℕ) (at n : ℕ) → length m ≡ length l → ((k : ℕ) → at ≤ k → k < at + 2 * n → get_or m k 0 ≡ get_or l k 0) → Shelf t l at n → Shelf t m at n
shelf_same t l m at n e f s =
    record {
      size = e ∙ s.size;
      room = s.room;
      spans = λ i h. rw (f (at + 2 * i) (omega arith) (omega arith), f (at + 2 * i + 1) (omega arith) (omega arith)) (s.spans i h);
    }

-- ONE NAME MORE

-- the last of the names
names_last : (t l : List ℕ) (at n : ℕ)
    → names_from t l at (suc n) ≡ names_from t l at n ++ (name_at t (get_or l (at + 2 * n) 0) (get_or l (at + 2 * n + 1) 0) ∷ [])
unfolding names_from
names_last t l at zero = let z : at + 2 * 0 ≡ at = omega arith in rw z
names_last t l at (suc n) =
    let z : at + 2 + 2 * n ≡ at + 2 * suc n = omega arith in
    let e : names_from t l (at + 2) (suc n) ≡ names_from t l (at + 2) n ++ (name_at t (get_or l (at + 2 * suc n) 0) (get_or l (at + 2 * suc n + 1) 0) ∷ []) =
    subst (λ (k : ℕ). names_from t l (at + 2) (suc n) ≡ names_from t l (at + 2) n ++ (name_at t (get_or l k 0) (get_or l (k + 1) 0) ∷ [])) z (names_last t l (at + 2) n) in
    ap (λ (ns : List Name). name_at t (get_or l at 0) (get_or l (at + 1) 0) ∷ ns) e

pub among_last : (n m : Name) (ns : List Name) → is_among n (ns ++ (m ∷ [])) ≡ (same_list m n || is_among n ns)
among_last n m [] = refl
among_last n m (k ∷ ks) = rw (among_last n m ks) (swap (same_list k n) (same_list m n) (is_among n ks))
  where
    swap : (a b c : Bool) → (a || (b || c)) ≡ (b || (a || c))
    swap true true c = refl
    swap true false c = refl
    swap false true c = refl
    swap false false c = refl

-- a name more on the shelf from base on, whose number of names stands in the word at counter
module _ (l : List ℕ) (counter base start end : ℕ) (size : length l ≡ 328) (low : counter < 6) (high : 6 ≤ base) (room : base + 2 * get_or l counter 0 + 2 ≤ 328) where
  abbrev count : ℕ
  count = get_or l counter 0

  abbrev at : ℕ
  at = base + 2 * count

  abbrev one : List ℕ
  one = set l at start

  abbrev two : List ℕ
  two = set one (at + 1) end

  pub added-size : length (added l counter base start end) ≡ 328
  added-size = length-set two counter (count + 1) ∙ length-set one (at + 1) end ∙ length-set l at start ∙ size

  two_size : length two ≡ 328
  two_size = length-set one (at + 1) end ∙ length-set l at start ∙ size

  pub added_other : (k : ℕ) → (k ≡ counter → ⊥) → (k ≡ at → ⊥) → (k ≡ at + 1 → ⊥) → get_or (added l counter base start end) k 0 ≡ get_or l k 0
  added_other k f g h =
      get_or-set_other two counter k (count + 1) 0 f ∙ get_or-set_other one (at + 1) k end 0 h ∙ get_or-set_other l at k start 0 g

  pub added-count : get_or (added l counter base start end) counter 0 ≡ count + 1
  added-count = get_or-set_same two counter (count + 1) 0 (omega (arith, two_size))

  added-start : get_or (added l counter base start end) at 0 ≡ start
  added-start =
      get_or-set_other two counter at (count + 1) 0 (λ z. omega arith)
      ∙ get_or-set_other one (at + 1) at end 0 (λ z. omega arith) ∙ get_or-set_same l at start 0 (omega arith)

  added_end : get_or (added l counter base start end) (at + 1) 0 ≡ end
  added_end =
      get_or-set_other two counter (at + 1) (count + 1) 0 (λ z. omega arith)
      ∙ get_or-set_same one (at + 1) end 0 (omega (arith, length-set l at start))

  module _ (t : List ℕ) where
    pub added-names : names_from t (added l counter base start end) base (count + 1) ≡ names_from t l base count ++ (name_at t start end ∷ [])
    added-names =
        ap (names_from t (added l counter base start end) base) (add-one count)
        ∙ names_last t (added l counter base start end) base count
        ∙ rw (added-start, added_end, names_same t l (added l counter base start end) base count (λ k h g. added_other k (λ z. omega arith) (λ z. omega arith) (λ z. omega arith)))

    pub added_shelf : Shelf t l base count → Span t start end → Shelf t (added l counter base start end) base (count + 1)
    added_shelf s p =
        record {
          size = added-size;
          room = omega arith;
          spans = λ i h. elim (dec_lt i count) [
            | yes g ↦ rw (
              added_other (base + 2 * i) (λ z. omega arith) (λ z. omega arith) (λ z. omega arith),
              added_other (base + 2 * i + 1) (λ z. omega arith) (λ z. omega arith) (λ z. omega arith),
            ) (s.spans i g)
            | no g ↦ let z : i ≡ count = omega arith in rw (z, added-start, added_end) p
          ];
        }
