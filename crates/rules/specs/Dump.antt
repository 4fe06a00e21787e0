-- The bytes of the dump: header, start and advance. Each line ends with LF. Assumes nothing: these are definitions.
use Rattle.std.specs.Prelude.{ℕ, zero, suc, ◌+◌, ◌/◌, ◌%◌, ◌≡◌, refl, Bool, true, false, List, [], ◌∷◌, ◌++◌, ltb}
use Rattle.laws.specs.Pick.{pick}
use Rattle.laws.specs.Text.{bytes}
use Rattle.words.specs.Token.{Name}
use Rattle.rules.specs.Formulas.{Values, differ}

abbrev pub LF : ℕ
LF = 10

-- signal k has the identifier byte 33 + k
abbrev pub identifier : ℕ → ℕ
identifier k = 33 + k

-- one `$var` line per signal from number k on: type, width, identifier, name
unfoldable pub variables : ℕ → List Name → List ℕ
variables k [] = []
variables k (name ∷ names) = bytes "$var wire 1 " ++ (identifier k ∷ bytes " " ++ (name ++ (bytes " $end\n" ++ variables (suc k) names)))

-- timescale, scope (the entity's name), the signals, two closing lines; names are in lower case
unfoldable pub header : Name → List Name → List ℕ
header entity names =
    bytes "$timescale 1 fs $end\n$scope module "
    ++ (entity ++ (bytes " $end\n" ++ (variables 0 names ++ bytes "$upscope $end\n$enddefinitions $end\n")))

-- the digits of n in front of others; so many divisions are enough
unfoldable pub digits : ℕ → ℕ → List ℕ → List ℕ
digits zero n others = (48 + n % 10) ∷ others
digits (suc more) n others =
    let rest = digits more (n / 10) ((48 + n % 10) ∷ others) in
    pick (ltb n 10) ((48 + n) ∷ others) rest

unfoldable pub decimal : ℕ → List ℕ
decimal n = digits n n []

-- a value, 1 for true, and the identifier
abbrev pub digit : Bool → ℕ
digit true = 49
digit false = 48

abbrev pub shown : ℕ → Bool → List ℕ
shown k v = digit v ∷ identifier k ∷ LF ∷ []

-- all values, from signal k on
unfoldable pub all : ℕ → Values → List ℕ
all k [] = []
all k (v ∷ vs) = shown k v ++ all (suc k) vs

unfoldable pub start_bytes : Values → List ℕ
start_bytes vs = bytes "#0\n$dumpvars\n" ++ (all 0 vs ++ bytes "$end\n")

-- each signal whose value differs from that before, from signal k on
unfoldable pub changed : ℕ → Values → Values → List ℕ
changed k [] new = []
changed k (a ∷ old) [] = []
changed k (a ∷ old) (b ∷ new) = pick (differ a b) (shown k b) [] ++ changed (suc k) old new

-- `#` with the time in decimal, then those; nothing where there is none
abbrev pub headed : ℕ → List ℕ → List ℕ
headed t [] = []
headed t (b ∷ bs) = bytes "#" ++ (decimal t ++ (LF ∷ b ∷ bs))

unfoldable pub advance_bytes : ℕ → Values → Values → List ℕ
advance_bytes t old new = headed t (changed 0 old new)

header_a : header (bytes "pair") (bytes "q" ∷ bytes "d" ∷ [])
    ≡ bytes "$timescale 1 fs $end\n$scope module pair $end\n$var wire 1 ! q $end\n$var wire 1 \" d $end\n$upscope $end\n$enddefinitions $end\n"
unfolding header variables
header_a = refl

start_a : start_bytes (false ∷ true ∷ []) ≡ bytes "#0\n$dumpvars\n0!\n1\"\n$end\n"
unfolding start_bytes all
start_a = refl

largest_time : advance_bytes 1000000000000000000 (false ∷ true ∷ []) (true ∷ true ∷ []) ≡ bytes "#1000000000000000000\n1!\n"
unfolding advance_bytes changed decimal digits
largest_time = refl

no_change : advance_bytes 7 (false ∷ true ∷ []) (false ∷ true ∷ []) ≡ []
unfolding advance_bytes changed
no_change = refl
