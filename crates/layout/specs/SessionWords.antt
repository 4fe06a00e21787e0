-- A session in words: which word holds what, and when words hold a session that is fit for a table. Unused places are zero.
-- Assumes nothing: these are definitions.
use Rattle.std.specs.Prelude.{ℕ, ◌+◌, ◌*◌, ◌/◌, ◌%◌, ◌≤◌, ◌<◌, ◌≡◌, refl, true, List, [], ◌∷◌, ◌++◌, map, length, get_or}
use Rattle.rules.specs.Pending.{Change, change}
use Rattle.rules.specs.Session.{Session, FitSession}
use Rattle.table.specs.Table.{Table, runners, tabulate}
use Rattle.table.specs.Translation.{number}
use Rattle.layout.specs.TableWords.{column}

-- WHERE WHAT STANDS

-- words 0 and 1: how many signals there are, and the time
abbrev pub count_at : ℕ
count_at = 0

abbrev pub time_at : ℕ
time_at = 1

-- 64 words each: values, and how many changes are pending for each signal; then 16 words of changes for each signal
abbrev pub values_from : ℕ
values_from = 2

abbrev pub pending_from : ℕ
pending_from = 66

abbrev pub changes_from : ℕ
changes_from = 130

abbrev pub session_size : ℕ
session_size = 1154

-- a change is twice its time, and one more where its value is true
abbrev pub change_word : Change → ℕ
change_word c = 2 * c.time + number c.value

-- THE WORDS OF A SESSION

-- 16 words for each signal: word j of signal k stands at 16 * k + j
abbrev pub change_columns : ℕ → List (List Change) → List ℕ
change_columns signals pending = tabulate (λ n. get_or (map change_word (get_or pending (n / 16) [])) (n % 16) 0) 0 (16 * signals)

unfoldable pub session_words : Session → List ℕ
session_words s =
    length s.values ∷ s.time
    ∷ column 64 (map number s.values) ++ (column 64 (map length s.pending) ++ change_columns 64 s.pending)

-- the words hold s, whatever stands behind them
pub record HoldsSession (words : List ℕ) (s : Session) : Type 0 where
  pub long : session_size ≤ length words
  pub agree : length s.pending ≡ length s.values
  pub count : get_or words count_at 0 ≡ length s.values
  pub time : get_or words time_at 0 ≡ s.time
  pub values : (k : ℕ) → k < 64 → get_or words (values_from + k) 0 ≡ get_or (map number s.values) k 0
  pub pending : (k : ℕ) → k < 64 → get_or words (pending_from + k) 0 ≡ get_or (map length s.pending) k 0
  pub changes : (k j : ℕ) → k < 64 → j < 16 → get_or words (changes_from + 16 * k + j) 0 ≡ get_or (map change_word (get_or s.pending k [])) j 0

-- the words are fit for a table: they hold a session that is
pub record FitSessionWords (t : Table) (words : List ℕ) : Type 0 where
  pub session : Session
  pub holds : HoldsSession words session
  pub fit : FitSession (runners t) (length t.initial) session

-- a change to true at 3 fs
change_at_3 : change_word (change 3 true) ≡ 7
change_at_3 = refl
