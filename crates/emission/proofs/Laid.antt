-- Instructions put one behind another, and one of them written anew. Assumes nothing.
use Prim.Native.Nat.{ℕ, ◌+◌, ◌≤◌, ◌<◌}
use native.Mathlib.Omega.{arith}
use mathlib.Core.Path.{◌≡◌, refl, ◌∙◌, ap}
use mathlib.Core.Bool.{Bool, true, false}
use mathlib.Core.List.{List, [], ◌∷◌, ◌++◌}
use lib.Dec.{ltb}
use lib.ListN.{length, set}
use lib.Seq.{set-set, set_comm}
use borrow.Author.Tests.{lt-ltb, ltb-true}
use Rattle.laws.specs.Pick.{pick}
use Rattle.table.specs.Instructions.{Instruction}
use Rattle.layout.specs.TableWords.{operations_from, delays_from, operation_word, delay_word}
use Rattle.emission.specs.Inside.Draft.{Draft, placed, following, with_words, put}

abbrev pub puts : List Instruction → Draft → Draft
puts [] m = m
puts (i ∷ is) m = puts is (put i m)

pub puts-append : (is js : List Instruction) (m : Draft) → puts (is ++ js) m ≡ puts js (puts is m)
puts-append [] js m = refl
puts-append (i ∷ is) js m = puts-append is js (put i m)

pub puts-names : (is : List Instruction) (m : Draft) → (puts is m).names ≡ m.names
unfolding put
puts-names [] m = refl
puts-names (i ∷ is) m = puts-names is (put i m)

pub puts-processes : (is : List Instruction) (m : Draft) → (puts is m).processes ≡ m.processes
unfolding put
puts-processes [] m = refl
puts-processes (i ∷ is) m = puts-processes is (put i m)

pub next_put : (i : Instruction) (m : Draft) → m.next < 4096 → (put i m).next ≡ m.next + 1
unfolding put
next_put i m l = rw (lt-ltb m.next 4096 l)

pub puts_next : (is : List Instruction) (m : Draft) → m.next + length is ≤ 4096 → (puts is m).next ≡ m.next + length is
puts_next [] m l = omega arith
puts_next (i ∷ is) m l = let e = next_put i m (omega arith) in omega (arith, puts_next is (put i m) (omega arith))

-- the operation at address n anew
abbrev pub anew : (n operation : ℕ) → Draft → Draft
anew n operation m = with_words (set m.words (operations_from + n) operation) m

placed-anew : (words : List ℕ) (n k operation delay other : ℕ) → n < k
    → set (placed words k operation delay) (operations_from + n) other ≡ placed (set words (operations_from + n) other) k operation delay
placed-anew words n k operation delay other l = go (ltb k 4096) refl
  where
    go : (b : Bool) → ltb k 4096 ≡ b
        → set (pick b (set (set words (operations_from + k) operation) (delays_from + k) delay) words) (operations_from + n) other
        ≡ pick b (set (set (set words (operations_from + n) other) (operations_from + k) operation) (delays_from + k) delay) (set words (operations_from + n) other)
    go true e =
        let h = ltb-true k 4096 e in
        set_comm (set words (operations_from + k) operation) (delays_from + k) (operations_from + n) delay other (omega arith)
        ∙ ap (λ ws. set ws (delays_from + k) delay) (set_comm words (operations_from + k) (operations_from + n) operation other (omega arith))
    go false e = refl

anew-put : (i : Instruction) (n operation : ℕ) (m : Draft) → n < m.next → anew n operation (put i m) ≡ put i (anew n operation m)
unfolding put
anew-put i n operation m l =
    ap (λ ws. record { words = ws; next = following m.next; names = m.names; processes = m.processes })
    (placed-anew m.words n m.next (operation_word i) (delay_word i) operation l)

next_least : (i : Instruction) (m : Draft) → m.next ≤ (put i m).next
unfolding put
next_least i m = go (ltb m.next 4096)
  where
    go : (b : Bool) → m.next ≤ pick b (m.next + 1) m.next
    go true = omega arith
    go false = omega arith

-- instructions behind it stay
pub anew-puts : (is : List Instruction) (n operation : ℕ) (m : Draft) → n < m.next → anew n operation (puts is m) ≡ puts is (anew n operation m)
anew-puts [] n operation m l = refl
anew-puts (i ∷ is) n operation m l = anew-puts is n operation (put i m) (omega (arith, next_least i m)) ∙ ap (puts is) (anew-put i n operation m l)

-- and it is another instruction with the same delay
pub anew_other : (i j : Instruction) (m : Draft) → m.next < 4096 → delay_word i ≡ delay_word j → anew m.next (operation_word j) (put i m) ≡ put j m
unfolding put
anew_other i j m l e =
    ap (λ ws. record { words = ws; next = following m.next; names = m.names; processes = m.processes })
    (rw (lt-ltb m.next 4096 l, e)
    (set_comm (set m.words (operations_from + m.next) (operation_word i)) (delays_from + m.next) (operations_from + m.next) (delay_word j) (operation_word j) (omega arith)
    ∙ ap (λ ws. set ws (delays_from + m.next) (delay_word j)) (set-set m.words (operations_from + m.next) (operation_word i) (operation_word j))))
