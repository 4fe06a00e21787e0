-- An answer as one number for C, kind + 256 * detail, and the report of a call that moved.
-- Kind 0 is done (detail: bytes written), 1 to 33 a refusal (detail: its place, where it has one), 254 quiet, 255 stop reached. Assumes nothing: these are definitions.
use Rattle.std.specs.Prelude.{ℕ, ◌+◌, ◌*◌, ◌≤◌, ◌<◌, ◌≡◌, refl, List, [], ◌∷◌, length, Result, Ok, Err}
use Rattle.std.proofs.lemmas.List.Edits.{sets}
use Rattle.refusal.specs.declared.Reason.{Reason}
use Rattle.session.specs.declared.Answer.{Answer}
use Rattle.session.specs.declared.Answer.TheVariants.{Quiet, StopReached, Moved as Moves}
use Rattle.run.specs.Lent.{Starts, Advances}
use Rattle.refusal.specs.declared.Refusal.{Refusal}
use Rattle.refusal.specs.declared.Reason.TheVariants.{Sentence}
use Rattle.refusal.specs.Numbers.{number_of}
use Rattle.reader.specs.Tabled.{Tables}
use Rattle.heading.specs.Headed.{Heads}

-- A TEXT'S TABLE

abbrev pub table_code : Result (Unit {0}) Refusal → ℕ
table_code (Ok done) = 0
table_code (Err refusal) = number_of refusal.reason + 256 * refusal.place

pub data ReadsInC (text table : List ℕ) : ℕ → List ℕ → Type 0 where
  reads : {table_left : List ℕ} (a : Result (Unit {0}) Refusal) → Tables text table a table_left → ReadsInC text table (table_code a) table_left

-- A TEXT'S HEADER

abbrev pub header_code : Result ℕ Refusal → ℕ
header_code (Ok bytes) = 256 * bytes
header_code (Err refusal) = number_of refusal.reason + 256 * refusal.place

pub data HeadsInC (text out : List ℕ) : ℕ → List ℕ → Type 0 where
  heads : {out_left : List ℕ} (a : Result ℕ Refusal) → Heads text out a out_left → HeadsInC text out (header_code a) out_left

-- A TABLE'S RUN

abbrev pub code_of : Result Answer Reason → ℕ
code_of (Err reason) = number_of reason
code_of (Ok Quiet) = 254
code_of (Ok StopReached) = 255
code_of (Ok (Moves m)) = 256 * m.bytes

-- time, cycles and steps, where the call moved; what stands behind them stays
abbrev pub report_after : Result Answer Reason → List ℕ → List ℕ
report_after (Err reason) report = report
report_after (Ok Quiet) report = report
report_after (Ok StopReached) report = report
report_after (Ok (Moves m)) report = sets report 0 (m.time ∷ m.cycles ∷ m.steps ∷ [])

abbrev pub report_words : ℕ
report_words = 3

-- a start in C: refused 11 where the report is too short too, else the start's answer with its number
pub data StartsInC (table session out report : List ℕ) : ℕ → List ℕ → List ℕ → List ℕ → Type 0 where
  short : length report < report_words → StartsInC table session out report 11 session out report
  starts : {session_left out_left : List ℕ} (a : Result Answer Reason) → report_words ≤ length report → Starts table session out a session_left out_left
      → StartsInC table session out report (code_of a) session_left out_left (report_after a report)

pub data AdvancesInC (table session : List ℕ) (stop : ℕ) (out report : List ℕ) : ℕ → List ℕ → List ℕ → List ℕ → Type 0 where
  short : length report < report_words → AdvancesInC table session stop out report 11 session out report
  advances : {session_left out_left : List ℕ} (a : Result Answer Reason) → report_words ≤ length report → Advances table session out stop a session_left out_left
      → AdvancesInC table session stop out report (code_of a) session_left out_left (report_after a report)

-- no more bytes than a buffer has
abbrev pub Small : Result Answer Reason → Type 0
Small (Err reason) = Unit {0}
Small (Ok Quiet) = Unit {0}
Small (Ok StopReached) = Unit {0}
Small (Ok (Moves m)) = m.bytes ≤ 4096

header_of_a : header_code (Ok 122) ≡ 31232
header_of_a = refl

third_at_20 : header_code (Err (record { reason = Sentence; place = 20 })) ≡ 5123
third_at_20 = refl

moved_17 : code_of (Ok (Moves (record { bytes = 17; time = 0; cycles = 1; steps = 6 }))) ≡ 4352
moved_17 = refl

report_of_17 : report_after (Ok (Moves (record { bytes = 17; time = 0; cycles = 1; steps = 6 }))) (9 ∷ 9 ∷ 9 ∷ 9 ∷ []) ≡ 0 ∷ 1 ∷ 6 ∷ 9 ∷ []
report_of_17 = refl
