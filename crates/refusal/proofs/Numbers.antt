-- No two reasons have one number, and each is between 1 and 16.
-- Assumes nothing.
use mathlib.Core.Path.{◌≡◌, refl, sym, ap, ◌∙◌}
use mathlib.Core.List.{[], ◌∷◌}
use Prim.Native.Nat.{ℕ, ◌≤◌}
use native.Mathlib.Omega.{arith}
use lib.ListN.{get_or}
use Rattle.refusal.specs.declared.Reason.{Reason}
use Rattle.refusal.specs.declared.Refusal.{Refusal}
use Rattle.refusal.specs.declared.Reason.TheVariants.{LongText, Token, Sentence, Nesting, Unknown, Taken, Closing, Delay, Driver, Size, Buffer, Stop, Table, Session, Pending, Cycles}
use Rattle.refusal.specs.Numbers.{number_of}

abbrev reason_at : ℕ → Reason
reason_at number = get_or (LongText ∷ LongText ∷ Token ∷ Sentence ∷ Nesting ∷ Unknown ∷ Taken ∷ Closing ∷ Delay ∷ Driver ∷ Size ∷ Buffer ∷ Stop ∷ Table ∷ Session ∷ Pending ∷ Cycles ∷ []) number LongText

at_its_number : (reason : Reason) → reason_at (number_of reason) ≡ reason
at_its_number LongText = refl
at_its_number Token = refl
at_its_number Sentence = refl
at_its_number Nesting = refl
at_its_number Unknown = refl
at_its_number Taken = refl
at_its_number Closing = refl
at_its_number Delay = refl
at_its_number Driver = refl
at_its_number Size = refl
at_its_number Buffer = refl
at_its_number Stop = refl
at_its_number Table = refl
at_its_number Session = refl
at_its_number Pending = refl
at_its_number Cycles = refl

pub one_reason : (a b : Reason) → number_of a ≡ number_of b → a ≡ b
one_reason a b e = sym (at_its_number a) ∙ ap reason_at e ∙ at_its_number b

pub numbered : (reason : Reason) → (1 ≤ number_of reason) × (number_of reason ≤ 16)
numbered LongText = (omega arith, omega arith)
numbered Token = (omega arith, omega arith)
numbered Sentence = (omega arith, omega arith)
numbered Nesting = (omega arith, omega arith)
numbered Unknown = (omega arith, omega arith)
numbered Taken = (omega arith, omega arith)
numbered Closing = (omega arith, omega arith)
numbered Delay = (omega arith, omega arith)
numbered Driver = (omega arith, omega arith)
numbered Size = (omega arith, omega arith)
numbered Buffer = (omega arith, omega arith)
numbered Stop = (omega arith, omega arith)
numbered Table = (omega arith, omega arith)
numbered Session = (omega arith, omega arith)
numbered Pending = (omega arith, omega arith)
numbered Cycles = (omega arith, omega arith)

abbrev the_refusal : Reason → ℕ → Refusal
the_refusal reason place = record { reason = reason; place = place }

-- two refusals with one number and one place are the same
pub one_refusal : (a b : Refusal) → number_of a.reason ≡ number_of b.reason → a.place ≡ b.place → a ≡ b
one_refusal a b e p =
    ap (λ (r : Reason). the_refusal r a.place) (one_reason a.reason b.reason e) ∙ ap (the_refusal b.reason) p
