-- The numbers of the reasons, as document 01 gives them.
-- Assumes nothing: these are definitions.
use Rattle.std.specs.Prelude.{ℕ, ◌≤◌, ◌<◌, ◌≡◌, refl, Bool, true, false, ◌&&◌, leb, Result, Ok, Err, MatchResult}
use Rattle.refusal.specs.declared.Reason.{Reason}
use Rattle.refusal.specs.declared.NoReason.{NoReason}
use Rattle.refusal.specs.declared.Refusal.{Refusal}
use Rattle.refusal.specs.declared.Reason.TheVariants.{LongText, Token, Sentence, Nesting, Unknown, Taken, Closing, Delay, Driver, Size, Buffer, Stop, Table, Session, Pending, Cycles}

abbrev pub number_of : Reason → ℕ
number_of LongText = 1
number_of Token = 2
number_of Sentence = 3
number_of Nesting = 4
number_of Unknown = 5
number_of Taken = 6
number_of Closing = 7
number_of Delay = 8
number_of Driver = 9
number_of Size = 10
number_of Buffer = 11
number_of Stop = 12
number_of Table = 13
number_of Session = 14
number_of Pending = 15
number_of Cycles = 16

-- the reason with a number, or that number where no reason has it
abbrev pub Names : ℕ → Result Reason NoReason → Type 0
Names number result = MatchResult result (λ reason. number_of reason ≡ number) (λ e. (e.0 ≡ number) × (1 ≤ number → 16 < number))

-- the answer is the refusal of a number at a place
abbrev pub RefusedAs : {A : Type 0} → Result A Refusal → (number place : ℕ) → Type 0
RefusedAs (Ok value) number place = ⊥
RefusedAs (Err refusal) number place = (number_of refusal.reason ≡ number) × (refusal.place ≡ place)

-- 2 to 10 are given with the place where their token starts
abbrev pub has_place : Reason → Bool
has_place reason = leb 2 (number_of reason) && leb (number_of reason) 10

the_33rd_open : has_place Nesting ≡ true
the_33rd_open = refl

a_long_text : has_place LongText ≡ false
a_long_text = refl

a_short_buffer : has_place Buffer ≡ false
a_short_buffer = refl
