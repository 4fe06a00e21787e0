-- Units of time: fs 1, ps 10^3, ns 10^6, us 10^9, ms 10^12, sec 10^15, min 60 sec, hr 60 min; and the delay of an amount.
-- Assumes nothing: these are definitions.
use Rattle.std.specs.Prelude.{ℕ, ◌*◌, ◌^◌, ◌≡◌, refl, leb, List, Option, Some, None}
use Rattle.laws.specs.Pick.{pick}
use Rattle.laws.specs.Text.{bytes}
use Rattle.words.specs.declared.unit.TimeUnit.{TimeUnit}
use Rattle.words.specs.declared.unit.TimeUnit.TheVariants.{Fs, Ps, Ns, Us, Ms, Sec, Min, Hr}

abbrev pub spelling_of : TimeUnit → List ℕ
spelling_of Fs = bytes "fs"
spelling_of Ps = bytes "ps"
spelling_of Ns = bytes "ns"
spelling_of Us = bytes "us"
spelling_of Ms = bytes "ms"
spelling_of Sec = bytes "sec"
spelling_of Min = bytes "min"
spelling_of Hr = bytes "hr"

abbrev pub femtoseconds_of : TimeUnit → ℕ
femtoseconds_of Fs = 1
femtoseconds_of Ps = 10 ^ 3
femtoseconds_of Ns = 10 ^ 6
femtoseconds_of Us = 10 ^ 9
femtoseconds_of Ms = 10 ^ 12
femtoseconds_of Sec = 10 ^ 15
femtoseconds_of Min = 60 * 10 ^ 15
femtoseconds_of Hr = 60 * (60 * 10 ^ 15)

-- the longest delay and the latest stop
abbrev pub longest : ℕ
longest = 10 ^ 18

-- so many of a unit, where that is at most the longest
abbrev pub delay_of : ℕ → TimeUnit → Option ℕ
delay_of amount unit = pick (leb (amount * femtoseconds_of unit) longest) (Some (amount * femtoseconds_of unit)) None

three_ns : delay_of 3 Ns ≡ Some 3000000
three_ns = refl

longest_in_sec : delay_of 1000 Sec ≡ Some longest
longest_in_sec = refl

one_sec_more : delay_of 1001 Sec ≡ None
one_sec_more = refl

one_hour : delay_of 1 Hr ≡ None
one_hour = refl

no_hour : delay_of 0 Hr ≡ Some 0
no_hour = refl
