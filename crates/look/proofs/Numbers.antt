-- A token's number from the token, and back: which numbers a row of the grammar takes, and that it takes no other.
-- Assumes nothing.
use mathlib.Core.Path.{◌≡◌, refl, sym, ap, ◌∙◌, subst}
use mathlib.Core.Bool.{Bool, true, false, ◌||◌}
use mathlib.Core.Option.{none, some}
use mathlib.Core.List.{List, [], ◌∷◌}
use Prim.Native.Nat.{ℕ, zero, suc, ◌+◌, ◌<◌, ◌≤◌}
use native.Mathlib.Omega.{arith}
use native.Mathlib.Decide.{dec_lt}
use borrow.Author.Tests.{eqb-true, eq-eqb}
use lib.Dec.{T, eqb}
use lib.ListN.{length, get_or}
use Rattle.laws.specs.Pick.{pick, within}
use Rattle.laws.proofs.Ranges.{Ranged, ranged, below, inside, above}
use Rattle.laws.proofs.Table.{first_passes, others_pass}
use Rattle.words.specs.Integer.{value_of}
use Rattle.words.specs.declared.unit.TimeUnit.{TimeUnit}
use Rattle.words.specs.declared.unit.TimeUnit.TheVariants.{Fs, Ps, Ns, Us, Ms, Sec, Min, Hr}
use Rattle.words.specs.Token.{Once, NAND, NOR, Chain, AND, OR, XOR, XNOR, Fixed}
use Rattle.words.specs.Token.{ENTITY, IS, END, ARCHITECTURE, OF, SIGNAL, BEGIN, BOOLEAN, PROCESS, TRANSPORT, AFTER, IF, THEN, ELSE, NULL, NOT, OPEN, CLOSE, COMMA, COLON, SEMICOLON, ARROW, BECOMES}
use Rattle.words.specs.Token.{Token, name, integer, literal, once, chain, unit, fixed, foreign}
use Rattle.syntax.proofs.Rows.{Kind, any_name, any_integer, any_literal, any_once, any_chain, any_unit, the_chain, the_fixed, Content, token_of, Fits, fits, Symbol, Row, row, find, rows, next}
use Rattle.look.specs.declared.Look.{Look}
use Rattle.look.specs.Inside.Looks.{part, name_at, kinds, token_of_kind, kind_seen, token_of_look, once_of, chain_of, literal_of}
use Rattle.look.specs.Inside.Tokens.{unit_of}

-- THE NUMBER OF A TOKEN

abbrev pub fixed_kind : Fixed → ℕ
fixed_kind ENTITY = 0
fixed_kind IS = 1
fixed_kind END = 2
fixed_kind ARCHITECTURE = 3
fixed_kind OF = 4
fixed_kind SIGNAL = 5
fixed_kind BEGIN = 6
fixed_kind BOOLEAN = 7
fixed_kind PROCESS = 8
fixed_kind TRANSPORT = 9
fixed_kind AFTER = 10
fixed_kind IF = 11
fixed_kind THEN = 12
fixed_kind ELSE = 13
fixed_kind NULL = 14
fixed_kind NOT = 15
fixed_kind OPEN = 110
fixed_kind CLOSE = 111
fixed_kind COMMA = 112
fixed_kind COLON = 113
fixed_kind SEMICOLON = 114
fixed_kind ARROW = 115
fixed_kind BECOMES = 116

abbrev pub once_kind : Once → ℕ
once_kind NAND = 16
once_kind NOR = 17

abbrev pub chain_kind : Chain → ℕ
chain_kind AND = 18
chain_kind OR = 19
chain_kind XOR = 20
chain_kind XNOR = 21

abbrev pub literal_kind : Bool → ℕ
literal_kind true = 22
literal_kind false = 23

abbrev pub unit_kind : TimeUnit → ℕ
unit_kind Fs = 24
unit_kind Ps = 25
unit_kind Ns = 26
unit_kind Us = 27
unit_kind Ms = 28
unit_kind Sec = 29
unit_kind Min = 30
unit_kind Hr = 31

-- the foreign words have the numbers from 32 to 107
abbrev pub kind_of_token : Token → ℕ
kind_of_token (name n) = 108
kind_of_token (integer n) = 109
kind_of_token (literal b) = literal_kind b
kind_of_token (once o) = once_kind o
kind_of_token (chain c) = chain_kind c
kind_of_token (unit u) = unit_kind u
kind_of_token (fixed w) = fixed_kind w
kind_of_token foreign = 32

abbrev pub least_kind : ℕ → ℕ
least_kind k = pick (within 32 107 k) 32 k

-- each token of the list has the number of its place, counted from i
numbered : ℕ → List Token → Bool
numbered i [] = true
numbered i (t ∷ ts) = let others = numbered (suc i) ts in pick (eqb (kind_of_token t) (least_kind i)) others false

all_numbered : (run : List ℕ) → T (numbered 0 (kinds run))
unfolding numbered
all_numbered run = tt

number_at : (i : ℕ) (ts : List Token) → T (numbered i ts) → (k : ℕ) → k < length ts → kind_of_token (get_or ts k foreign) ≡ least_kind (i + k)
unfolding numbered
number_at i [] t k h = absurd (omega arith)
number_at i (x ∷ ts) t zero h =
    let z : i ≡ i + 0 = omega arith in
    eqb-true _ _ (first_passes (eqb (kind_of_token x) (least_kind i)) (numbered (suc i) ts) t) ∙ ap least_kind z
number_at i (x ∷ ts) t (suc k) h =
    let z : suc i + k ≡ i + suc k = omega arith in
    number_at (suc i) ts (others_pass (eqb (kind_of_token x) (least_kind i)) (numbered (suc i) ts) t) k (omega arith) ∙ ap least_kind z

-- the token of a number has that number; a foreign word's is one of 32 to 107
pub kind-back : (run : List ℕ) (k : ℕ) → k < 117 → kind_of_token (token_of_kind run k) ≡ least_kind k
unfolding token_of_kind
kind-back run k h =
    let z : 0 + k ≡ k = omega arith in
    number_at 0 (kinds run) (all_numbered run) k h ∙ ap least_kind z

-- a number that is not a foreign word's is that of its token
own-kind : (m k : ℕ) → m ≡ least_kind k → (m ≡ 32 → ⊥) → k ≡ m
own-kind m k e f = go (ranged 32 107 k)
  where
    go : Ranged 32 107 k → k ≡ m
    go (below t h) = sym (e ∙ rw t)
    go (inside t h g) = absurd (f (e ∙ rw t))
    go (above t h) = sym (e ∙ rw t)

fixed-own : (w : Fixed) → fixed_kind w ≡ 32 → ⊥
fixed-own ENTITY e = omega arith
fixed-own IS e = omega arith
fixed-own END e = omega arith
fixed-own ARCHITECTURE e = omega arith
fixed-own OF e = omega arith
fixed-own SIGNAL e = omega arith
fixed-own BEGIN e = omega arith
fixed-own BOOLEAN e = omega arith
fixed-own PROCESS e = omega arith
fixed-own TRANSPORT e = omega arith
fixed-own AFTER e = omega arith
fixed-own IF e = omega arith
fixed-own THEN e = omega arith
fixed-own ELSE e = omega arith
fixed-own NULL e = omega arith
fixed-own NOT e = omega arith
fixed-own OPEN e = omega arith
fixed-own CLOSE e = omega arith
fixed-own COMMA e = omega arith
fixed-own COLON e = omega arith
fixed-own SEMICOLON e = omega arith
fixed-own ARROW e = omega arith
fixed-own BECOMES e = omega arith

-- WHICH NUMBERS A ROW TAKES

abbrev pub takes : Kind → ℕ → Bool
takes any_name k = eqb k 108
takes any_integer k = eqb k 109
takes any_literal k = within 22 23 k
takes any_once k = within 16 17 k
takes any_chain k = within 18 21 k
takes any_unit k = within 24 31 k
takes (the_chain c) k = eqb k (chain_kind c)
takes (the_fixed w) k = eqb k (fixed_kind w)

abbrev chain-own : (c : Chain) → chain_kind c ≡ 32 → ⊥
chain-own AND e = omega arith
chain-own OR e = omega arith
chain-own XOR e = omega arith
chain-own XNOR e = omega arith

-- the number of a token that fits is taken
taken : (c : Kind) (a : Content c) (k : ℕ) → kind_of_token (token_of c a) ≡ least_kind k → takes c k ≡ true
taken any_name a k e = rw (own-kind 108 k e (λ z. omega arith))
taken any_integer a k e = rw (own-kind 109 k e (λ z. omega arith))
taken any_literal true k e = rw (own-kind 22 k e (λ z. omega arith))
taken any_literal false k e = rw (own-kind 23 k e (λ z. omega arith))
taken any_once NAND k e = rw (own-kind 16 k e (λ z. omega arith))
taken any_once NOR k e = rw (own-kind 17 k e (λ z. omega arith))
taken any_chain AND k e = rw (own-kind 18 k e (λ z. omega arith))
taken any_chain OR k e = rw (own-kind 19 k e (λ z. omega arith))
taken any_chain XOR k e = rw (own-kind 20 k e (λ z. omega arith))
taken any_chain XNOR k e = rw (own-kind 21 k e (λ z. omega arith))
taken any_unit Fs k e = rw (own-kind 24 k e (λ z. omega arith))
taken any_unit Ps k e = rw (own-kind 25 k e (λ z. omega arith))
taken any_unit Ns k e = rw (own-kind 26 k e (λ z. omega arith))
taken any_unit Us k e = rw (own-kind 27 k e (λ z. omega arith))
taken any_unit Ms k e = rw (own-kind 28 k e (λ z. omega arith))
taken any_unit Sec k e = rw (own-kind 29 k e (λ z. omega arith))
taken any_unit Min k e = rw (own-kind 30 k e (λ z. omega arith))
taken any_unit Hr k e = rw (own-kind 31 k e (λ z. omega arith))
taken (the_chain c) a k e = eq-eqb k (chain_kind c) (own-kind (chain_kind c) k e (chain-own c))
taken (the_fixed w) a k e = eq-eqb k (fixed_kind w) (own-kind (fixed_kind w) k e (fixed-own w))

module _ (run : List ℕ) (k : ℕ) (small : k < 117) where
  pub misfit : (c : Kind) → takes c k ≡ false → fits c (token_of_kind run k) ≡ none
  misfit c f = go (fits c (token_of_kind run k))
    where
      go : (o : Fits c (token_of_kind run k)) → o ≡ none
      go none = refl
      go (some (a, p)) =
          let t = taken c a k (ap kind_of_token p ∙ kind-back run k small) in
          let z : ◌≡◌ {A = ℕ} 0 1 = cc in absurd (omega arith)

  -- no row takes the number
  abbrev pub taken_by : {X : Symbol} → List (Row X) → Bool
  taken_by [] = false
  taken_by (row c ys b ∷ rs) = takes c k || taken_by rs

  none_of : (a b : Bool) → (a || b) ≡ false → (a ≡ false) × (b ≡ false)
  none_of false b e = (refl, e)
  none_of true b e = let z : ◌≡◌ {A = ℕ} 0 1 = cc in absurd (omega arith)

  pub unfound : {X : Symbol} (rs : List (Row X)) → taken_by rs ≡ false → find rs (token_of_kind run k) ≡ none
  unfound [] e = refl
  unfound (row c ys b ∷ rs) e = let f = none_of (takes c k) (taken_by rs) e in rw (misfit c f.0, find) (unfound rs f.1)

  -- so its symbol is stuck
  pub stuck : (X : Symbol) → taken_by (rows X) ≡ false → next X (token_of_kind run k) ≡ none
  stuck X e = unfound (rows X) e

-- THE TOKEN OF A NUMBER

pub fixed-token : (run : List ℕ) (w : Fixed) → token_of_kind run (fixed_kind w) ≡ fixed w
unfolding token_of_kind
fixed-token run ENTITY = refl
fixed-token run IS = refl
fixed-token run END = refl
fixed-token run ARCHITECTURE = refl
fixed-token run OF = refl
fixed-token run SIGNAL = refl
fixed-token run BEGIN = refl
fixed-token run BOOLEAN = refl
fixed-token run PROCESS = refl
fixed-token run TRANSPORT = refl
fixed-token run AFTER = refl
fixed-token run IF = refl
fixed-token run THEN = refl
fixed-token run ELSE = refl
fixed-token run NULL = refl
fixed-token run NOT = refl
fixed-token run OPEN = refl
fixed-token run CLOSE = refl
fixed-token run COMMA = refl
fixed-token run COLON = refl
fixed-token run SEMICOLON = refl
fixed-token run ARROW = refl
fixed-token run BECOMES = refl

-- what holds of each of count numbers from low on
abbrev pub Each : (ℕ → Type 0) → ℕ → ℕ → Type 0
Each P low zero = Unit {0}
Each P low (suc count) = P low × Each P (suc low) count

pub in_range : (P : ℕ → Type 0) (low count : ℕ) → Each P low count → (k : ℕ) → low ≤ k → k < low + count → P k
in_range P low zero e k h l = absurd (omega arith)
in_range P low (suc count) e k h l =
    elim (dec_lt low k) [
      | yes g ↦ in_range P (suc low) count e.1 k g (omega arith)
      | no g ↦ let z : low ≡ k = omega arith in subst P z e.0
    ]

module _ (run : List ℕ) (k : ℕ) where
  pub once-token : 16 ≤ k → k < 18 → token_of_kind run k ≡ once (once_of k)
  unfolding token_of_kind
  once-token h l = in_range (λ (n : ℕ). token_of_kind run n ≡ once (once_of n)) 16 2 (refl, (refl, tt)) k h l

  pub chain-token : 18 ≤ k → k < 22 → token_of_kind run k ≡ chain (chain_of k)
  unfolding token_of_kind
  chain-token h l = in_range (λ (n : ℕ). token_of_kind run n ≡ chain (chain_of n)) 18 4 (refl, (refl, (refl, (refl, tt)))) k h l

  pub literal-token : 22 ≤ k → k < 24 → token_of_kind run k ≡ literal (literal_of k)
  unfolding token_of_kind
  literal-token h l = in_range (λ (n : ℕ). token_of_kind run n ≡ literal (literal_of n)) 22 2 (refl, (refl, tt)) k h l

  pub unit-token : 24 ≤ k → k < 32 → token_of_kind run k ≡ unit (unit_of k)
  unfolding token_of_kind
  unit-token h l =
      in_range (λ (n : ℕ). token_of_kind run n ≡ unit (unit_of n)) 24 8 (refl, (refl, (refl, (refl, (refl, (refl, (refl, (refl, tt)))))))) k h l

-- the numbers of a chain's word, and back
pub chain-kind : (k : ℕ) → 18 ≤ k → k < 22 → chain_kind (chain_of k) ≡ k
chain-kind k h l = in_range (λ (n : ℕ). chain_kind (chain_of n) ≡ n) 18 4 (refl, (refl, (refl, (refl, tt)))) k h l

-- THE TOKEN THAT A LOOK SEES, by its number

module _ (s : List ℕ) (l : Look) where
  pub name-seen : kind_seen l ≡ 108 → token_of_look s l ≡ name (name_at s l.start l.end)
  unfolding token_of_kind name_at
  name-seen e = rw e

  pub integer-seen : kind_seen l ≡ 109 → token_of_look s l ≡ integer (value_of (part s l.start l.end))
  unfolding token_of_kind
  integer-seen e = rw e

  pub fixed-seen : (w : Fixed) → kind_seen l ≡ fixed_kind w → token_of_look s l ≡ fixed w
  fixed-seen w e = ap (token_of_kind (part s l.start l.end)) e ∙ fixed-token (part s l.start l.end) w
