-- The stop words of a program: an integer and a unit as in a text; anything else, or a stop too large, is refused 12.
-- Assumes nothing: these are definitions.
use Rattle.std.specs.Prelude.{ℕ, ◌^◌, ◌≡◌, refl, List, [], eqb, length, Option, Some, None, Result, Ok, Err}
use Rattle.std.specs.Option.{ok_or}
use Rattle.laws.specs.Pick.{pick, same_list}
use Rattle.laws.specs.Text.{bytes}
use Rattle.words.specs.Integer.{value_of}
use Rattle.words.specs.Unit.{delay_of}
use Rattle.words.specs.Vocabulary.{same_word}
use Rattle.words.specs.declared.unit.TimeUnit.TheVariants.{Fs, Ps, Ns, Us, Ms, Sec, Min, Hr}
use Rattle.words.specs.declared.unit.TimeUnit.{TimeUnit}
use Rattle.lexis.specs.Byte.{class_of}
use Rattle.lexis.specs.Run.{all_digits}
use Rattle.refusal.specs.declared.Reason.{Reason}
use Rattle.refusal.specs.declared.Reason.TheVariants.{Stop}

-- the unit that a word is, case aside
unfoldable pub unit_of : List ℕ → Option TimeUnit
unit_of word =
    pick (same_word word (bytes "fs")) (Some Fs)
    (pick (same_word word (bytes "ps")) (Some Ps)
    (pick (same_word word (bytes "ns")) (Some Ns)
    (pick (same_word word (bytes "us")) (Some Us)
    (pick (same_word word (bytes "ms")) (Some Ms)
    (pick (same_word word (bytes "sec")) (Some Sec)
    (pick (same_word word (bytes "min")) (Some Min)
    (pick (same_word word (bytes "hr")) (Some Hr)
    None)))))))

abbrev pub stop_in : Option TimeUnit → List ℕ → Result ℕ Reason
stop_in (Some u) digits = ok_or (delay_of (value_of digits) u) Stop
stop_in None digits = Err Stop

-- the first word is digits only, at least one; the second is a unit
unfoldable pub stop_of : (amount scale : List ℕ) → Result ℕ Reason
stop_of amount scale = pick (eqb (length amount) 0) (Err Stop) (pick (all_digits amount) (stop_in (unit_of scale) amount) (Err Stop))

ten_ns : stop_of (bytes "010") (bytes "NS") ≡ Ok 10000000
unfolding stop_of unit_of same_list class_of all_digits
ten_ns = refl

latest : stop_of (bytes "1000") (bytes "sec") ≡ Ok (10 ^ 18)
unfolding stop_of unit_of same_list class_of all_digits
latest = refl

too_late : stop_of (bytes "1") (bytes "hr") ≡ Err Stop
unfolding stop_of unit_of same_list class_of all_digits
too_late = refl

empty : stop_of [] (bytes "ns") ≡ Err Stop
unfolding stop_of
empty = refl

a_sign : stop_of (bytes "+1") (bytes "ns") ≡ Err Stop
unfolding stop_of unit_of same_list class_of all_digits
a_sign = refl

a_blank : stop_of (bytes "1") (bytes "ns ") ≡ Err Stop
unfolding stop_of unit_of same_list class_of all_digits
a_blank = refl
