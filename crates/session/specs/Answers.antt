-- What a call answers, case by case, in document 01's numbers and values; and what it leaves in a lent buffer.
-- Assumes nothing: these are definitions.
use Rattle.std.specs.Prelude.{ℕ, ◌≡◌, refl, List, [], ◌∷◌, length, Result, Ok, Err, IsErrAnd}
use Rattle.std.proofs.lemmas.List.Edits.{sets}
use Rattle.rules.specs.Calls.{refused, quiet, stop_reached, moved}
use Rattle.rules.specs.Calls as calls
use Rattle.refusal.specs.declared.Reason.{Reason}
use Rattle.refusal.specs.declared.Reason.TheVariants.{Cycles}
use Rattle.refusal.specs.Numbers.{number_of}
use Rattle.session.specs.declared.Moved.{Moved}
use Rattle.session.specs.declared.Answer.{Answer}
use Rattle.session.specs.declared.Answer.TheVariants.{Quiet, StopReached, Moved as Moves}

-- a refusal by the reason that has its number; a call that moved by the bytes written, the time, the cycles and the steps
abbrev pub AnswersAs : calls.Answer → Result Answer Reason → Type 0
AnswersAs (refused number) answer = IsErrAnd answer (λ reason. number_of reason ≡ number)
AnswersAs quiet answer = answer ≡ Ok Quiet
AnswersAs stop_reached answer = answer ≡ Ok StopReached
AnswersAs (moved m) answer = answer ≡ Ok (Moves (record { bytes = length m.bytes; time = m.session.time; cycles = m.cycles; steps = m.steps }))

-- what a start answers: it moves where it is not refused
abbrev pub started : Result Moved Reason → Result Answer Reason
started (Ok m) = Ok (Moves m)
started (Err reason) = Err reason

-- the output buffer after a call: the bytes that it wrote, from the first place on; those behind them stay
abbrev pub out_after : calls.Answer → List ℕ → List ℕ
out_after (refused number) out = out
out_after quiet out = out
out_after stop_reached out = out
out_after (moved m) out = sets out 0 m.bytes

-- refused 16, and nothing is written
refused-16 : AnswersAs (refused 16) (Err Cycles)
refused-16 = refl

untouched : out_after (refused 16) (1 ∷ 2 ∷ []) ≡ 1 ∷ 2 ∷ []
untouched = refl
