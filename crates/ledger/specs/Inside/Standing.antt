-- What the words of a ledger stand for: a judgement of the tokens so far.
-- Assumes nothing.
use Rattle.std.specs.Prelude.{ℕ, zero, suc, ◌+◌, ◌*◌, ◌<◌, ◌≤◌, ◌≡◌, refl, Bool, ◌||◌, List, [], ◌∷◌, eqb, length, get_or, set, MatchOption}
use Rattle.std.specs.Prelude as std
use Rattle.std.proofs.Math.Option.{Option, none, some}
use Rattle.laws.specs.Pick.{pick, within}
use Rattle.laws.specs.Text.{bytes}
use Rattle.words.specs.declared.unit.TimeUnit.{TimeUnit}
use Rattle.words.specs.Token.{Name}
use Rattle.words.specs.Unit.{femtoseconds_of, longest}
use Rattle.look.specs.declared.Look.{Look}
use Rattle.look.specs.declared.token.Token.TheVariants.{Name as a_name}
use Rattle.look.specs.Inside.Looks.{name_at}
use Rattle.names.specs.Roles.{Role}
use Rattle.names.specs.Judge.{State, Judgement, fine, refused, onward, judge, is_among, number_of, has, assigned}

-- from start to end is a part of the text
pub record Span (text : List ℕ) (start end : ℕ) : Type 0 where
  pub rising : start ≤ end
  pub inside : end ≤ length text

-- NAMES, each kept as two words: where it starts and where it ends

-- the words from base on keep so many names
pub record Shelf (text ledger : List ℕ) (base count : ℕ) : Type 0 where
  pub size : length ledger ≡ 328
  pub room : base + 2 * count ≤ 328
  pub spans : (i : ℕ) → i < count → Span text (get_or ledger (base + 2 * i) 0) (get_or ledger (base + 2 * i + 1) 0)

unfoldable pub names_from : (text ledger : List ℕ) → (base count : ℕ) → List Name
names_from text ledger base zero = []
names_from text ledger base (suc count) = name_at text (get_or ledger base 0) (get_or ledger (base + 1) 0) ∷ names_from text ledger (base + 2) count

-- the number of a name among them, where it is there
abbrev pub Finds : (text ledger : List ℕ) (base count : ℕ) (n : Name) → std.Option ℕ → Type 0
Finds text ledger base count n result =
    MatchOption result (count ≡ number_of n (names_from text ledger base count)) (λ i. (i < count) × (i ≡ number_of n (names_from text ledger base count)))

-- one more name, where the word at counter says how many there are
abbrev pub added : (ledger : List ℕ) (counter base start end : ℕ) → List ℕ
added ledger counter base start end =
    set (set (set ledger (base + 2 * get_or ledger counter 0) start) (base + 2 * get_or ledger counter 0 + 1) end) counter (get_or ledger counter 0 + 1)

-- the name is that of a signal or a label
abbrev pub used_in : (text ledger : List ℕ) → Name → Bool
used_in text ledger n = is_among n (names_from text ledger 6 (get_or ledger 2 0)) || is_among n (names_from text ledger 134 (get_or ledger 3 0))

-- a name that may be missing
abbrev pub SpanIfAny : (text : List ℕ) → std.Option Look → Type 0
SpanIfAny text std.None = Unit {0}
SpanIfAny text (std.Some own) = Span text own.start own.end

abbrev pub name_if_any : (text : List ℕ) → std.Option Look → Option Name
name_if_any text std.None = none
name_if_any text (std.Some own) = some (name_at text own.start own.end)

-- THE WORDS AND A STATE

-- the word of a signal, one more than the number of its process, and what the processes before the last and the last one assign
pub record Driven (driver signal : ℕ) (y : State) : Type 0 where
  pub earlier_ones : has signal y.earlier ≡ within 1 y.processes driver
  pub last_one : has signal y.current ≡ eqb driver (y.processes + 1)
  pub known : driver ≤ y.processes + 1

-- the words stand for the state y, with so many labels at most whose process is not yet opened
pub record Standing (unopened : ℕ) (text ledger : List ℕ) (y : State) : Type 0 where
  pub clear : get_or ledger 0 0 ≡ 0
  pub signals : Shelf text ledger 6 (get_or ledger 2 0)
  pub signals_are : y.signal_names ≡ names_from text ledger 6 (get_or ledger 2 0)
  pub few_signals : get_or ledger 2 0 ≤ 64
  pub labels : Shelf text ledger 134 (get_or ledger 3 0)
  pub labels_are : (n : Name) → is_among n y.label_names ≡ is_among n (names_from text ledger 134 (get_or ledger 3 0))
  pub few_labels : get_or ledger 3 0 ≤ y.processes + unopened
  pub processes_are : get_or ledger 4 0 ≡ y.processes
  pub few_processes : y.processes ≤ 64
  pub instructions_are : get_or ledger 5 0 ≡ y.instructions
  pub few_instructions : y.instructions ≤ 4096
  pub drivers : (k : ℕ) → k < 64 → Driven (get_or ledger (264 + k) 0) k y

pub record Refusing (ledger : List ℕ) (number place : ℕ) : Type 0 where
  pub size : length ledger ≡ 328
  pub number_is : get_or ledger 0 0 ≡ number
  pub place_is : get_or ledger 1 0 ≡ place
  pub some : 0 < number

-- the words stand for a judgement
pub data Keeps (unopened : ℕ) (text ledger : List ℕ) : Judgement → Type 0 where
  keeps_fine : {y : State} → Standing unopened text ledger y → Keeps unopened text ledger (fine y)
  keeps_refused : {number place : ℕ} → Refusing ledger number place → Keeps unopened text ledger (refused number place)

-- for some judgement; and for some text
pub record Sound (unopened : ℕ) (text ledger : List ℕ) : Type 0 where
  pub judgement : Judgement
  pub keeps : Keeps unopened text ledger judgement

pub record Held (unopened : ℕ) (ledger : List ℕ) : Type 0 where
  pub text : List ℕ
  pub sound : Sound unopened text ledger

-- WHAT THE FUNCTIONS DO

-- whatever the tokens so far are judged, the words after the call stand for that and the judgement of one token more
pub record Judges (before after : ℕ) (text : List ℕ) (role : Role) (place : ℕ) (ledger ledger' : List ℕ) : Type 0 where
  pub keeps : (j : Judgement) → Keeps before text ledger j → Keeps after text ledger' (onward j (λ y. judge y role place))

-- the last process assigns a signal, which no process before it may
abbrev pub driven : (signal place : ℕ) → State → Judgement
driven signal place y = pick (has signal y.earlier) (refused 9 place) (fine (assigned signal y))

pub record Drives (text : List ℕ) (signal place : ℕ) (ledger ledger' : List ℕ) : Type 0 where
  pub keeps : (j : Judgement) → Keeps 0 text ledger j → Keeps 0 text ledger' (onward j (λ y. driven signal place y))

-- the number of the signal of a name
pub record Numbers (text ledger : List ℕ) (n : Name) (r : ℕ) : Type 0 where
  pub number_is : (y : State) → Keeps 0 text ledger (fine y) → r ≡ number_of n y.signal_names
  pub few : r ≤ 64

-- an amount of a unit in femtoseconds, where it is not too long
pub record Lasts (ledger : List ℕ) (amount : ℕ) (unit : TimeUnit) (r : ℕ) : Type 0 where
  pub time_is : get_or ledger 0 0 ≡ 0 → amount * femtoseconds_of unit ≤ longest → r ≡ amount * femtoseconds_of unit
  pub short : r ≤ longest

-- EXAMPLES

-- signals q and d of `signal Q, d`
two_names : names_from (bytes "signal Q, d") (7 ∷ 8 ∷ 10 ∷ 11 ∷ []) 0 2 ≡ bytes "q" ∷ bytes "d" ∷ []
unfolding names_from name_at
two_names = refl

-- a process with the label `P`, and one without
a_label : name_if_any (bytes "P : process") (std.Some (record { token = a_name; start = 0; end = 1 })) ≡ some (bytes "p")
unfolding name_at
a_label = refl

no_label : name_if_any (bytes "P : process") std.None ≡ none
no_label = refl

-- behind two names, a third from 7 to 8
one_more : added (2 ∷ 5 ∷ 0 ∷ 0 ∷ 0 ∷ 0 ∷ 0 ∷ []) 0 1 7 8 ≡ 3 ∷ 5 ∷ 0 ∷ 0 ∷ 0 ∷ 7 ∷ 8 ∷ []
one_more = refl
