-- The columns of a table that is being written: what each write does to one of them, and that the others stay. Assumes nothing.
use Prim.Native.Nat.{ℕ, zero, suc, ◌+◌, ◌≤◌, ◌<◌}
use native.Mathlib.Omega.{arith}
use mathlib.Core.Path.{◌≡◌, refl, sym, ◌∙◌, ap}
use mathlib.Core.Bool.{Bool, true, false}
use mathlib.Core.List.{List, [], ◌∷◌, ◌++◌, map, map-append}
use lib.Dec.{eqb, eqb-zero-suc, eqb-suc-zero, eqb-suc-suc}
use lib.ListN.{length, get_or, set, drop, length-set, length-map}
use lib.Seq.{get_or-set_same, get_or-set_other, drop-set-lt}
use borrow.Author.Tests.{eqb-true, eqb-false}
use Rattle.laws.specs.Pick.{pick}
use Rattle.table.specs.Instructions.{Instruction}
use Rattle.table.specs.Translation.{number}
use Rattle.layout.specs.TableWords.{initial_from, listeners_from, ends_from, operations_from, delays_from, table_size, operation_word, delay_word}

-- so many words from a place on are those of f
abbrev pub Column : List ℕ → (from size : ℕ) → (ℕ → ℕ) → Type 0
Column words from size f = (k : ℕ) → k < size → get_or words (from + k) 0 ≡ f k

-- one of them is written
set-column : (words : List ℕ) (from size n v : ℕ) (f : ℕ → ℕ) → Column words from size f → from + size ≤ length words → n < size
    → Column (set words (from + n) v) from size (λ k. pick (eqb n k) v (f k))
set-column words from size n v f c l h k g = go (eqb n k) refl
  where
    go : (b : Bool) → eqb n k ≡ b → get_or (set words (from + n) v) (from + k) 0 ≡ pick b v (f k)
    go true e = rw (sym (eqb-true n k e)) (get_or-set_same words (from + n) v 0 (omega arith))
    go false e = get_or-set_other words (from + n) (from + k) v 0 (λ q. eqb-false n k e (omega arith)) ∙ c k g

snoc : (list : List ℕ) (v k : ℕ) → get_or (list ++ (v ∷ [])) k 0 ≡ pick (eqb (length list) k) v (get_or list k 0)
snoc [] v zero = refl
snoc [] v (suc k) = rw (eqb-zero-suc k)
snoc (x ∷ list) v zero = rw (eqb-suc-zero (length list))
snoc (x ∷ list) v (suc k) = rw (eqb-suc-suc (length list) k) (snoc list v k)

-- and it is the next
next_column : {A : Type 0} (f : A → ℕ) (words : List ℕ) (from size : ℕ) (list : List A) (a : A) → Column words from size (λ k. get_or (map f list) k 0)
    → from + size ≤ length words → length list < size → Column (set words (from + length list) (f a)) from size (λ k. get_or (map f (list ++ (a ∷ []))) k 0)
next_column f words from size list a c l h k g =
    set-column words from size (length list) (f a) _ c l h k g
    ∙ ap (λ n. pick (eqb n k) (f a) (get_or (map f list) k 0)) (sym (length-map list f))
    ∙ sym (snoc (map f list) (f a) k)
    ∙ ap (λ l. get_or l k 0) (sym (map-append f list (a ∷ [])))

-- none of them is
other_column : (words : List ℕ) (from size i v : ℕ) (f : ℕ → ℕ) → ((k : ℕ) → k < size → ¬ (from + k ≡ i)) → Column words from size f → Column (set words i v) from size f
other_column words from size i v f h c k l = get_or-set_other words i (from + k) v 0 (h k l) ∙ c k l

-- a table that is being written, and what stands behind it
pub record Filled (words behind : List ℕ) (values : List Bool) (wakes : ℕ → ℕ) (ends : List ℕ) (code : List Instruction) : Type 0 where
  pub long : table_size ≤ length words
  pub after : drop table_size words ≡ behind
  pub initial : Column words initial_from 64 (λ k. get_or (map number values) k 0)
  pub listeners : Column words listeners_from 64 wakes
  pub ended : Column words ends_from 64 (λ p. get_or ends p 0)
  pub operations : Column words operations_from 4096 (λ x. get_or (map operation_word code) x 0)
  pub delays : Column words delays_from 4096 (λ x. get_or (map delay_word code) x 0)

module _ {words behind : List ℕ} {values : List Bool} {wakes : ℕ → ℕ} {ends : List ℕ} {code : List Instruction} (f : Filled words behind values wakes ends code) where
  keeps-long : (i v : ℕ) → table_size ≤ length (set words i v)
  keeps-long i v = omega (arith, f.long, length-set words i v)

  keeps-after : (i v : ℕ) → i < table_size → drop table_size (set words i v) ≡ behind
  keeps-after i v l = drop-set-lt table_size words i v l ∙ f.after

  -- a count, before all columns
  pub filled-count : (i v : ℕ) → i < initial_from → Filled (set words i v) behind values wakes ends code
  filled-count i v l =
      record {
        long = keeps-long i v;
        after = keeps-after i v (omega arith);
        initial = other_column words initial_from 64 i v _ (omega arith) f.initial;
        listeners = other_column words listeners_from 64 i v _ (omega arith) f.listeners;
        ended = other_column words ends_from 64 i v _ (omega arith) f.ended;
        operations = other_column words operations_from 4096 i v _ (omega arith) f.operations;
        delays = other_column words delays_from 4096 i v _ (omega arith) f.delays;
      }

  -- the next starting value
  pub filled-value : (b : Bool) → length values < 64 → Filled (set words (initial_from + length values) (number b)) behind (values ++ (b ∷ [])) wakes ends code
  filled-value b l =
      let i = initial_from + length values in
      let v = number b in
      record {
        long = keeps-long i v;
        after = keeps-after i v (omega arith);
        initial = next_column number words initial_from 64 values b f.initial (omega (arith, f.long)) l;
        listeners = other_column words listeners_from 64 i v _ (omega arith) f.listeners;
        ended = other_column words ends_from 64 i v _ (omega arith) f.ended;
        operations = other_column words operations_from 4096 i v _ (omega arith) f.operations;
        delays = other_column words delays_from 4096 i v _ (omega arith) f.delays;
      }

  -- signal s wakes others
  pub filled-wakes : (s v : ℕ) → s < 64 → Filled (set words (listeners_from + s) v) behind values (λ k. pick (eqb s k) v (wakes k)) ends code
  filled-wakes s v l =
      let i = listeners_from + s in
      record {
        long = keeps-long i v;
        after = keeps-after i v (omega arith);
        initial = other_column words initial_from 64 i v _ (omega arith) f.initial;
        listeners = set-column words listeners_from 64 s v wakes f.listeners (omega (arith, f.long)) l;
        ended = other_column words ends_from 64 i v _ (omega arith) f.ended;
        operations = other_column words operations_from 4096 i v _ (omega arith) f.operations;
        delays = other_column words delays_from 4096 i v _ (omega arith) f.delays;
      }

  -- wakes that agree
  pub filled_same : (others : ℕ → ℕ) → ((k : ℕ) → k < 64 → wakes k ≡ others k) → Filled words behind values others ends code
  filled_same others h =
      record {
        long = f.long;
        after = f.after;
        initial = f.initial;
        listeners = λ k l. f.listeners k l ∙ h k l;
        ended = f.ended;
        operations = f.operations;
        delays = f.delays;
      }

  -- the next process ends
  pub filled_end : (v : ℕ) → length ends < 64 → Filled (set words (ends_from + length ends) v) behind values wakes (ends ++ (v ∷ [])) code
  filled_end v l =
      let i = ends_from + length ends in
      record {
        long = keeps-long i v;
        after = keeps-after i v (omega arith);
        initial = other_column words initial_from 64 i v _ (omega arith) f.initial;
        listeners = other_column words listeners_from 64 i v _ (omega arith) f.listeners;
        ended = λ k g.
            set-column words ends_from 64 (length ends) v _ f.ended (omega (arith, f.long)) l k g ∙ sym (snoc ends v k);
        operations = other_column words operations_from 4096 i v _ (omega arith) f.operations;
        delays = other_column words delays_from 4096 i v _ (omega arith) f.delays;
      }

  -- the next instruction
  pub filled_put : (i : Instruction) → length code < 4096
      → Filled (set (set words (operations_from + length code) (operation_word i)) (delays_from + length code) (delay_word i)) behind values wakes ends (code ++ (i ∷ []))
  filled_put i l =
      let a = operations_from + length code in
      let b = delays_from + length code in
      let o = operation_word i in
      let d = delay_word i in
      let them = set words a o in
      record {
        long = omega (arith, f.long, length-set words a o, length-set them b d);
        after = drop-set-lt table_size them b d (omega arith) ∙ keeps-after a o (omega arith);
        initial = other_column them initial_from 64 b d _ (omega arith) (other_column words initial_from 64 a o _ (omega arith) f.initial);
        listeners = other_column them listeners_from 64 b d _ (omega arith) (other_column words listeners_from 64 a o _ (omega arith) f.listeners);
        ended = other_column them ends_from 64 b d _ (omega arith) (other_column words ends_from 64 a o _ (omega arith) f.ended);
        operations = other_column them operations_from 4096 b d _ (omega arith)
            (next_column operation_word words operations_from 4096 code i f.operations (omega (arith, f.long)) l);
        delays = next_column delay_word them delays_from 4096 code i (other_column words delays_from 4096 a o _ (omega arith) f.delays)
            (omega (arith, f.long, length-set words a o)) l;
      }
