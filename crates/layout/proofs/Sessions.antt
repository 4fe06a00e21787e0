-- The session that words hold, and the words that hold a session: each is one, and the one gives back the other. Assumes nothing.
use Prim.Native.Nat.{ℕ, ◌+◌, ◌*◌, ◌/◌, ◌%◌, ◌≤◌, ◌<◌}
use native.Mathlib.Omega.{arith}
use mathlib.Core.Path.{◌≡◌, refl, sym, ◌∙◌, ap, ap₂}
use mathlib.Core.Bool.{false}
use mathlib.Core.List.{List, [], ◌∷◌, ◌++◌, map}
use lib.ListN.{length, get_or, take, length-append, get_or-append}
use lib.Seq.{get_or-append-add, get_or-take, length-take-le, ext_get_or}
use Rattle.rules.specs.Pending.{Change}
use Rattle.rules.specs.Runner.{Runner}
use Rattle.rules.specs.Session.{Session, FitSession}
use Rattle.table.specs.Table.{Table, tabulate, runners}
use Rattle.table.specs.Translation.{number}
use Rattle.table.proofs.Tabulated.{length-tabulate, at_tabulate}
use Rattle.layout.specs.TableWords.{column}
use Rattle.layout.specs.SessionWords.{count_at, time_at, values_from, pending_from, changes_from, session_size, change_word, change_columns, session_words, HoldsSession, FitSessionWords}
use Rattle.layout.proofs.Columns.{truth, length-column, Stands, behind-column, in_column, read_list}
use Rattle.layout.proofs.ChangeWords.{change_of, none}
use Rattle.layout.proofs.SessionLaws.{session-place, value-truth, pending_at, change-read}

-- THE SESSION THAT WORDS HOLD

-- the pending changes of signal k
abbrev pub changes_at : List ℕ → ℕ → List Change
changes_at words k = tabulate (λ j. change_of (get_or words (changes_from + 16 * k + j) 0)) 0 (get_or words (pending_from + k) 0)

unfoldable pub decode_session : List ℕ → Session
decode_session words =
    record {
      time = get_or words time_at 0;
      values = tabulate (λ k. truth (get_or words (values_from + k) 0)) 0 (get_or words count_at 0);
      pending = tabulate (changes_at words) 0 (get_or words count_at 0);
    }

module _ (rs : List Runner) (n : ℕ) (few : n ≤ 64) where
  pub decode_session_lem : (words : List ℕ) (s : Session) → HoldsSession words s → FitSession rs n s → decode_session words ≡ s
  unfolding decode_session
  decode_session_lem words s h f =
      let a = read_list (λ k. truth (get_or words (values_from + k) 0)) false s.values (get_or words count_at 0) h.count
      (λ k l. value-truth words s h k (omega (arith, f.counted))) in
      let b = read_list (changes_at words) [] s.pending (get_or words count_at 0) (h.count ∙ sym h.agree)
      (λ k l. let m : k < 64 = omega (arith, f.agrees) in
      read_list (λ j. change_of (get_or words (changes_from + 16 * k + j) 0)) none (get_or s.pending k []) (get_or words (pending_from + k) 0)
      (pending_at words s h k m)
      (λ j o. change-read words s h k j m (omega (arith, f.few k)))) in
      λ i. record { time = h.time i; values = a i; pending = b i }

  -- no words hold two fit sessions
  pub one_session : (words : List ℕ) (s u : Session) → HoldsSession words s → FitSession rs n s → HoldsSession words u → FitSession rs n u → s ≡ u
  one_session words s u h f g e = sym (decode_session_lem words s h f) ∙ decode_session_lem words u g e

-- fit words hold the session that they are read as
pub session_of_fit_words : (t : Table) (words : List ℕ) → length t.initial ≤ 64 → (f : FitSessionWords t words) → f.session ≡ decode_session words
session_of_fit_words t words l f = sym (decode_session_lem (runners t) (length t.initial) l words f.session f.holds f.fit)

-- THE WORDS THAT HOLD A SESSION

module _ (s : Session) where
  abbrev counts : List ℕ
  counts = length s.values ∷ s.time ∷ []

  abbrev values : List ℕ
  values = map number s.values

  abbrev lengths : List ℕ
  lengths = map length s.pending

  -- the words behind the values
  abbrev after-values : List ℕ
  after-values = column 64 lengths ++ change_columns 64 s.pending

  -- a word of all changes: of one signal, at one place
  abbrev change_in : ℕ → ℕ
  change_in n = get_or (map change_word (get_or s.pending (n / 16) [])) (n % 16) 0

  length-changes : length (change_columns 64 s.pending) ≡ 1024
  length-changes = length-tabulate change_in 0 1024

  pub length-session_words : length (session_words s) ≡ session_size
  unfolding session_words
  length-session_words = simp (length-append) (omega (arith, length-column 64 values, length-column 64 lengths, length-changes))

  from-values : Stands (session_words s) values_from (column 64 values ++ after-values)
  unfolding session_words
  from-values i = get_or-append-add counts (column 64 values ++ after-values) i 0

  from-pending : Stands (session_words s) pending_from after-values
  from-pending = behind-column (session_words s) values after-values values_from 64 pending_from refl from-values

  from-changes : Stands (session_words s) changes_from (change_columns 64 s.pending)
  from-changes = behind-column (session_words s) lengths (change_columns 64 s.pending) pending_from 64 changes_from refl from-pending

  in_changes : (k j : ℕ) → k < 64 → j < 16 → get_or (session_words s) (changes_from + 16 * k + j) 0 ≡ get_or (map change_word (get_or s.pending k [])) j 0
  in_changes k j l m =
      let p : (0 + (16 * k + j)) / 16 ≡ k = omega arith in
      let q : (0 + (16 * k + j)) % 16 ≡ j = omega arith in
      ap (λ n. get_or (session_words s) n 0) (omega arith) ∙ from-changes (16 * k + j)
      ∙ at_tabulate change_in 0 0 1024 (16 * k + j) (omega arith)
      ∙ ap₂ (λ x y. get_or (map change_word (get_or s.pending x [])) y 0) p q

  pub session_words_hold : length s.pending ≡ length s.values → HoldsSession (session_words s) s
  unfolding session_words
  session_words_hold e =
      record {
        long = omega (arith, length-session_words);
        agree = e;
        count = refl;
        time = refl;
        values = in_column (session_words s) values after-values values_from 64 from-values;
        pending = in_column (session_words s) lengths (change_columns 64 s.pending) pending_from 64 from-pending;
        changes = in_changes;
      }

-- words that agree in a session's places hold the same session
pub holds_same_session : (words others : List ℕ) (s : Session) → session_size ≤ length others → ((i : ℕ) → i < session_size → get_or others i 0 ≡ get_or words i 0)
    → HoldsSession words s → HoldsSession others s
holds_same_session words others s l e h =
    record {
      long = l;
      agree = h.agree;
      count = e count_at (omega arith) ∙ h.count;
      time = e time_at (omega arith) ∙ h.time;
      values = λ k m. e (values_from + k) (omega arith) ∙ h.values k m;
      pending = λ k m. e (pending_from + k) (omega arith) ∙ h.pending k m;
      changes = λ k j m o. e (changes_from + 16 * k + j) (omega arith) ∙ h.changes k j m o;
    }

pub holds-session_words : (s : Session) (more : List ℕ) → length s.pending ≡ length s.values → HoldsSession (session_words s ++ more) s
holds-session_words s more e =
    holds_same_session (session_words s) (session_words s ++ more) s
    (rw (length-append, length-session_words s) (omega arith))
    (λ i l. get_or-append (session_words s) more 0 i (omega (arith, length-session_words s)))
    (session_words_hold s e)

same_place : (words others : List ℕ) (s : Session) → HoldsSession words s → HoldsSession others s → (i : ℕ) → i < session_size → get_or words i 0 ≡ get_or others i 0
same_place words others s h g =
    session-place (λ i. get_or words i 0 ≡ get_or others i 0)
    (h.count ∙ sym g.count)
    (h.time ∙ sym g.time)
    (λ k l. h.values k l ∙ sym (g.values k l))
    (λ k l. h.pending k l ∙ sym (g.pending k l))
    (λ k j l m. h.changes k j l m ∙ sym (g.changes k j l m))

-- the words that hold a session are the session's own: unused places are zero
pub words_of_session : (words : List ℕ) (s : Session) → HoldsSession words s → take session_size words ≡ session_words s
words_of_session words s h =
    let n = length-take-le session_size words h.long in
    ext_get_or 0 (take session_size words) (session_words s) (n ∙ sym (length-session_words s))
    (λ i l. get_or-take session_size words i 0 (omega arith) ∙ same_place words (session_words s) s h (session_words_hold s h.agree) i (omega arith))

pub decode_session_words : (rs : List Runner) (n : ℕ) → n ≤ 64 → (s : Session) → FitSession rs n s → decode_session (session_words s) ≡ s
decode_session_words rs n l s f = decode_session_lem rs n l (session_words s) s (session_words_hold s (f.agrees ∙ sym f.counted)) f
