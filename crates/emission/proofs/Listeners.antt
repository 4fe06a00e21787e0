-- The words of the processes that signals wake, written process by process: each has its bit above those before. Assumes nothing.
use Prim.Native.Nat.{ℕ, ◌+◌, ◌*◌, ◌^◌, ◌<◌}
use native.Mathlib.Nat.{pow-suc}
use native.Mathlib.Omega.{arith}
use mathlib.Core.Path.{◌≡◌, refl, ◌∙◌, ap}
use mathlib.Core.Bool.{Bool, true, false, ◌||◌}
use mathlib.Core.List.{List, [], ◌∷◌, ◌++◌, map, map-append}
use lib.Dec.{eqb, ltb}
use lib.ListN.{length, get_or, set, length-map}
use borrow.Author.Tests.{lt-ltb, le-ltb, ltb-true, ltb-false, eqb-true, ne_eqb}
use Rattle.laws.specs.Pick.{pick}
use Rattle.laws.proofs.Ranges.{within-inside}
use Rattle.words.specs.Token.{Name}
use Rattle.syntax.specs.Circuit.{Activity}
use Rattle.rules.specs.Statements.{member}
use Rattle.table.specs.Instructions.{Instruction}
use Rattle.table.specs.Translation.{number, word, listeners_of}
use Rattle.table.proofs.Tabulated.{word_below}
use Rattle.names.specs.Judge.{number_of}
use Rattle.names.specs.CircuitOf.{without, distinct, numbers}
use Rattle.layout.specs.TableWords.{listeners_from}
use Rattle.emission.specs.Inside.Draft.{Draft, bit_of, with_bit, waking, with_words, with_listener, each_draft}
use Rattle.emission.proofs.Columns.{Filled, filled-wakes, filled_same}

-- BITS

word-snoc : (bs : List Bool) (b : Bool) → word (bs ++ (b ∷ [])) ≡ word bs + number b * 2 ^ length bs
unfolding word
word-snoc [] b = omega arith
word-snoc (true ∷ bs) b = rw (pow-suc, word-snoc bs b) (omega arith)
word-snoc (false ∷ bs) b = rw (pow-suc, word-snoc bs b) (omega arith)

bit_of_lem : (p : ℕ) → p < 64 → bit_of (p + 1) ≡ 2 ^ p
bit_of_lem p l = rw (within-inside 1 64 (p + 1) (omega arith) (omega arith)) (ap (λ n. 2 ^ n) (omega arith))

-- the bit of the next process is above all so far
next_bit : (bs : List Bool) (b : Bool) → length bs < 64 → word (bs ++ (b ∷ [])) ≡ pick b (with_bit (word bs) (length bs + 1)) (word bs)
next_bit bs true l =
    rw (bit_of_lem (length bs) l, lt-ltb (word bs) (2 ^ length bs) (word_below bs)) (word-snoc bs true ∙ omega arith)
next_bit bs false l = word-snoc bs false ∙ omega arith

bit_again : (w p : ℕ) → with_bit (with_bit w p) p ≡ with_bit w p
bit_again w p = go (ltb w (bit_of p)) refl
  where
    go : (b : Bool) → ltb w (bit_of p) ≡ b → with_bit (pick b (w + bit_of p) w) p ≡ pick b (w + bit_of p) w
    go true e = rw (le-ltb (w + bit_of p) (bit_of p) (omega arith))
    go false e = rw e

once : (a b : Bool) (w p : ℕ) → pick b (with_bit (pick a (with_bit w p) w) p) (pick a (with_bit w p) w) ≡ pick (a || b) (with_bit w p) w
once true true w p = bit_again w p
once true false w p = refl
once false b w p = refl

-- a repeated number counts once
member-without : (j k : ℕ) (is : List ℕ) → eqb j k ≡ false → member (without j is) k ≡ member is k
unfolding member
member-without j k [] e = refl
member-without j k (i ∷ is) e = go (eqb i j) refl (member-without j k is e)
  where
    go : (b : Bool) → eqb i j ≡ b → member (without j is) k ≡ member is k → member (pick b (without j is) (i ∷ without j is)) k ≡ (eqb i k || member is k)
    go true h r = rw (eqb-true i j h, e) r
    go false h r = rw r

pub member-distinct : (is : List ℕ) (k : ℕ) → member (distinct is) k ≡ member is k
unfolding member
member-distinct [] k = refl
member-distinct (i ∷ is) k = go (eqb i k) refl (member-distinct is k)
  where
    go : (b : Bool) → eqb i k ≡ b → member (distinct is) k ≡ member is k → (b || member (without i (distinct is)) k) ≡ (b || member is k)
    go true e r = refl
    go false e r = member-without i k (distinct is) e ∙ r

-- PROCESSES

-- the process behind others
pub next_listener : (before : List Activity) (a : Activity) (k : ℕ) → length before < 64
    → listeners_of (before ++ (a ∷ [])) k ≡ pick (member a.wakes k) (with_bit (listeners_of before k) (length before + 1)) (listeners_of before k)
unfolding listeners_of
next_listener before a k l =
    let f : Activity → Bool = λ b. member b.wakes k in
    let n = length-map before f in
    ap word (map-append f before (a ∷ []))
    ∙ next_bit (map f before) (f a) (omega arith)
    ∙ ap (λ n. pick (f a) (with_bit (word (map f before)) (n + 1)) (word (map f before))) n

module _ {behind : List ℕ} {values : List Bool} {ends : List ℕ} {code : List Instruction} where
  filled-waking : (words : List ℕ) (wakes : ℕ → ℕ) (s p : ℕ) → Filled words behind values wakes ends code
      → Filled (waking words s p) behind values (λ k. pick (eqb s k) (with_bit (wakes k) p) (wakes k)) ends code
  filled-waking words wakes s p f = go (ltb s 64) refl
    where
      same : (k : ℕ) (b : Bool) → s < 64 → eqb s k ≡ b → pick b (with_bit (get_or words (listeners_from + s) 0) p) (wakes k) ≡ pick b (with_bit (wakes k) p) (wakes k)
      same k true l e = ap (λ w. with_bit w p) (f.listeners s l ∙ ap wakes (eqb-true s k e))
      same k false l e = refl

      go : (b : Bool) → ltb s 64 ≡ b → Filled (pick b (set words (listeners_from + s) (with_bit (get_or words (listeners_from + s) 0) p)) words)
          behind values (λ k. pick (eqb s k) (with_bit (wakes k) p) (wakes k)) ends code
      go true e = let l = ltb-true s 64 e in filled_same (filled-wakes f s (with_bit (get_or words (listeners_from + s) 0) p) l) _ (λ k h. same k (eqb s k) l refl)
      go false e = let l = ltb-false s 64 e in filled_same f _ (λ k h. rw (ne_eqb s k (λ q. omega arith)))

  pub filled-listeners : (ns : List Name) (m : Draft) (wakes : ℕ → ℕ) → Filled m.words behind values wakes ends code
      → Filled (each_draft with_listener ns m).words behind values (λ k. pick (member (numbers m.names ns) k) (with_bit (wakes k) m.processes) (wakes k)) ends code
  unfolding member with_listener
  filled-listeners [] m wakes f = f
  filled-listeners (n ∷ ns) m wakes f =
      let s = number_of n m.names in
      filled_same (filled-listeners ns (with_listener n m) _ (filled-waking m.words wakes s m.processes f)) _
      (λ k l. once (eqb s k) (member (numbers m.names ns) k) (wakes k) m.processes)

-- listening writes words alone
pub listeners-words : (ns : List Name) (m : Draft) → each_draft with_listener ns m ≡ with_words (each_draft with_listener ns m).words m
unfolding with_listener
listeners-words [] m = refl
listeners-words (n ∷ ns) m = listeners-words ns (with_listener n m)
