-- The numbers of tokens: no two tokens have one, and the token in a row has the row's.
-- Assumes nothing.
use mathlib.Core.Path.{◌≡◌, refl, sym, ap, ◌∙◌}
use mathlib.Core.Bool.{Bool, true, false, not}
use denote.Enum.Bare.{sameb, same_true, same_false, differs_true, differs_false}
use mathlib.Core.List.{List, [], ◌∷◌, ◌++◌}
use Prim.Native.Nat.{ℕ, suc, ◌<◌, ◌≤◌}
use native.Mathlib.Omega.{arith}
use lib.ListN.{get_or}
use Rattle.words.specs.Token.{unit}
use Rattle.words.specs.declared.unit.TimeUnit.{TimeUnit}
use Rattle.std.specs.Prelude.{Some, None}
use Rattle.look.specs.declared.token.Token.{Token}
use Rattle.look.specs.contracts.token.Token.{the_type}
use Rattle.look.specs.declared.token.Token.TheVariants.{Entity, Is, End, Architecture, Of, Signal, Begin, Boolean, Process, Transport, After, If, Then, Else, Null, Not, Nand, Nor, And, Or, Xor, Xnor, True, False, Fs, Ps, Ns, Us, Ms, Sec, Min, Hr, Abs, Access, Alias, All, Array, Assert, Attribute, Block, Body, Buffer, Bus, Case, Component, Configuration, Constant, Disconnect, Downto, Elsif, Exit, File, For, Function, Generate, Generic, Group, Guarded, Impure, In, Inertial, Inout, Label, Library, Linkage, Literal, Loop, Map, Mod, New, Next, On, OpenWord, Others, Out, Package, Port, Postponed, Procedure, Pure, Range, Record, Register, Reject, Rem, Report, Return, Rol, Ror, Select, Severity, Shared, Sla, Sll, Sra, Srl, Subtype, To, TypeWord, Unaffected, Units, Until, Use, Variable, Wait, When, While, With, Name, Integer, Open, Close, Comma, Colon, Semicolon, Arrow, Becomes, Finish}
use Rattle.laws.specs.Pick.{pick, within}
use Rattle.laws.proofs.Ranges.{Ranged, ranged, below, inside, above}
use Rattle.look.specs.Inside.Tokens.{words_in_rows, token_in_row, number_of, unit_of, unit_seen}
use Rattle.look.specs.Inside.Looks.{token_of_kind}
use Rattle.look.proofs.Numbers.{in_range, unit-token}

-- the tokens by their numbers
abbrev by_number : ℕ → Token
by_number number =
    get_or (words_in_rows ++ Name ∷ Integer ∷ Open ∷ Close ∷ Comma ∷ Colon ∷ Semicolon ∷ Arrow ∷ Becomes ∷ Finish ∷ []) number Finish

at_its_number : (token : Token) → by_number (number_of token) ≡ token
at_its_number Entity = refl
at_its_number Is = refl
at_its_number End = refl
at_its_number Architecture = refl
at_its_number Of = refl
at_its_number Signal = refl
at_its_number Begin = refl
at_its_number Boolean = refl
at_its_number Process = refl
at_its_number Transport = refl
at_its_number After = refl
at_its_number If = refl
at_its_number Then = refl
at_its_number Else = refl
at_its_number Null = refl
at_its_number Not = refl
at_its_number Nand = refl
at_its_number Nor = refl
at_its_number And = refl
at_its_number Or = refl
at_its_number Xor = refl
at_its_number Xnor = refl
at_its_number True = refl
at_its_number False = refl
at_its_number Fs = refl
at_its_number Ps = refl
at_its_number Ns = refl
at_its_number Us = refl
at_its_number Ms = refl
at_its_number Sec = refl
at_its_number Min = refl
at_its_number Hr = refl
at_its_number Abs = refl
at_its_number Access = refl
at_its_number Alias = refl
at_its_number All = refl
at_its_number Array = refl
at_its_number Assert = refl
at_its_number Attribute = refl
at_its_number Block = refl
at_its_number Body = refl
at_its_number Buffer = refl
at_its_number Bus = refl
at_its_number Case = refl
at_its_number Component = refl
at_its_number Configuration = refl
at_its_number Constant = refl
at_its_number Disconnect = refl
at_its_number Downto = refl
at_its_number Elsif = refl
at_its_number Exit = refl
at_its_number File = refl
at_its_number For = refl
at_its_number Function = refl
at_its_number Generate = refl
at_its_number Generic = refl
at_its_number Group = refl
at_its_number Guarded = refl
at_its_number Impure = refl
at_its_number In = refl
at_its_number Inertial = refl
at_its_number Inout = refl
at_its_number Label = refl
at_its_number Library = refl
at_its_number Linkage = refl
at_its_number Literal = refl
at_its_number Loop = refl
at_its_number Map = refl
at_its_number Mod = refl
at_its_number New = refl
at_its_number Next = refl
at_its_number On = refl
at_its_number OpenWord = refl
at_its_number Others = refl
at_its_number Out = refl
at_its_number Package = refl
at_its_number Port = refl
at_its_number Postponed = refl
at_its_number Procedure = refl
at_its_number Pure = refl
at_its_number Range = refl
at_its_number Record = refl
at_its_number Register = refl
at_its_number Reject = refl
at_its_number Rem = refl
at_its_number Report = refl
at_its_number Return = refl
at_its_number Rol = refl
at_its_number Ror = refl
at_its_number Select = refl
at_its_number Severity = refl
at_its_number Shared = refl
at_its_number Sla = refl
at_its_number Sll = refl
at_its_number Sra = refl
at_its_number Srl = refl
at_its_number Subtype = refl
at_its_number To = refl
at_its_number TypeWord = refl
at_its_number Unaffected = refl
at_its_number Units = refl
at_its_number Until = refl
at_its_number Use = refl
at_its_number Variable = refl
at_its_number Wait = refl
at_its_number When = refl
at_its_number While = refl
at_its_number With = refl
at_its_number Name = refl
at_its_number Integer = refl
at_its_number Open = refl
at_its_number Close = refl
at_its_number Comma = refl
at_its_number Colon = refl
at_its_number Semicolon = refl
at_its_number Arrow = refl
at_its_number Becomes = refl
at_its_number Finish = refl

pub one_token : (a b : Token) → number_of a ≡ number_of b → a ≡ b
one_token a b e = sym (at_its_number a) ∙ ap by_number e ∙ at_its_number b

-- the token in a row has the row's number
pub row-number : (row : ℕ) → row < 108 → number_of (token_in_row row) ≡ row
unfolding token_in_row
row-number row h =
    in_range (λ (n : ℕ). number_of (token_in_row n) ≡ n) 0 108
    (refl, (refl, (refl, (refl, (refl, (refl, (refl, (refl, (refl, (refl, (refl, (refl, (refl, (refl, (refl, (refl, (refl, (refl, (refl, (refl, (refl, (refl, (refl, (refl, (refl, (refl, (refl, (refl, (refl, (refl, (refl, (refl, (refl, (refl, (refl, (refl, (refl, (refl, (refl, (refl, (refl, (refl, (refl, (refl, (refl, (refl, (refl, (refl, (refl, (refl, (refl, (refl, (refl, (refl, (refl, (refl, (refl, (refl, (refl, (refl, (refl, (refl, (refl, (refl, (refl, (refl, (refl, (refl, (refl, (refl, (refl, (refl, (refl, (refl, (refl, (refl, (refl, (refl, (refl, (refl, (refl, (refl, (refl, (refl, (refl, (refl, (refl, (refl, (refl, (refl, (refl, (refl, (refl, (refl, (refl, (refl, (refl, (refl, (refl, (refl, (refl, (refl, (refl, (refl, (refl, (refl, (refl, (refl, tt))))))))))))))))))))))))))))))))))))))))))))))))))))))))))))))))))))))))))))))))))))))))))))))))))))))))))))
    row (omega arith) h

-- what a test of two tokens says of their numbers: where it finds one token, and where it finds two
module _ (a b : Token) where
  pub eq-same : true ≡ sameb the_type a b → number_of a ≡ number_of b
  eq-same e = ap number_of (same_true the_type tt a b (sym e))

  pub eq-other : false ≡ sameb the_type a b → number_of a ≡ number_of b → ⊥
  eq-other e n = same_false the_type a b (sym e) (one_token a b n)

  pub ne-same : false ≡ not (sameb the_type a b) → number_of a ≡ number_of b
  ne-same e = ap number_of (differs_false the_type tt a b (sym e))

  pub ne-other : true ≡ not (sameb the_type a b) → number_of a ≡ number_of b → ⊥
  ne-other e n = differs_true the_type a b (sym e) (one_token a b n)

-- what a test of a range says of a number: where it is in it, and where it is not above it
pub bounds : (low high n : ℕ) → within low high n ≡ true → (low ≤ n) × (n < suc high)
bounds low high n e = go (ranged low high n)
  where
    go : Ranged low high n → (low ≤ n) × (n < suc high)
    go (below t h) = let z : ◌≡◌ {A = Bool} true false = sym e ∙ t in let o : ◌≡◌ {A = ℕ} 0 1 = cc in absurd (omega arith)
    go (inside t h g) = (h, omega arith)
    go (above t h) = let z : ◌≡◌ {A = Bool} true false = sym e ∙ t in let o : ◌≡◌ {A = ℕ} 0 1 = cc in absurd (omega arith)

pub under : (low high n : ℕ) → within low high n ≡ false → n < suc high → n < low
under low high n e g = go (ranged low high n)
  where
    go : Ranged low high n → n < low
    go (below t h) = h
    go (inside t h _) = let z : ◌≡◌ {A = Bool} true false = sym t ∙ e in let o : ◌≡◌ {A = ℕ} 0 1 = cc in absurd (omega arith)
    go (above t h) = absurd (omega arith)

-- what a token says of a unit
pub unit-found : (token : Token) (time : TimeUnit) → unit_seen token ≡ Some time → (24 ≤ number_of token) × (number_of token < 32) × (unit_of (number_of token) ≡ time)
unit-found token time e = go (within 24 31 (number_of token)) refl e
  where
    go : (b : Bool) → within 24 31 (number_of token) ≡ b → pick b (Some (unit_of (number_of token))) None ≡ Some time
        → (24 ≤ number_of token) × (number_of token < 32) × (unit_of (number_of token) ≡ time)
    go true i e = let r = bounds 24 31 (number_of token) i in (r.0, r.1, cc)
    go false i e = let o : ◌≡◌ {A = ℕ} 0 1 = cc in absurd (omega arith)

pub no-unit : (token : Token) → unit_seen token ≡ None → within 24 31 (number_of token) ≡ false
no-unit token e = go (within 24 31 (number_of token)) refl e
  where
    go : (b : Bool) → within 24 31 (number_of token) ≡ b → pick b (Some (unit_of (number_of token))) None ≡ None → within 24 31 (number_of token) ≡ false
    go true i e = let o : ◌≡◌ {A = ℕ} 0 1 = cc in absurd (omega arith)
    go false i e = i

pub unit-met : (run : List ℕ) (token : Token) (time : TimeUnit) → unit_seen token ≡ Some time → token_of_kind run (number_of token) ≡ unit time
unit-met run token time e = let f = unit-found token time e in unit-token run (number_of token) f.0 f.1 ∙ ap unit f.2
