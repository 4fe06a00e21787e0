-- The tokens of code by the rows of the vocabulary, and the number that stands for each in the laws of the readers.
-- Assumes nothing.
use Rattle.std.specs.Prelude.{ℕ, ◌-◌, ◌≡◌, refl, Bool, List, [], ◌∷◌, Option, Some, None, get_or}
use Rattle.laws.specs.Pick.{pick, within}
use Rattle.words.specs.declared.unit.TimeUnit.{TimeUnit}
use Rattle.words.specs.declared.unit.TimeUnit.TheVariants as units
use Rattle.look.specs.declared.token.Token.{Token}
use Rattle.look.specs.declared.token.Token.TheVariants.{Entity, Is, End, Architecture, Of, Signal, Begin, Boolean, Process, Transport, After, If, Then, Else, Null, Not, Nand, Nor, And, Or, Xor, Xnor, True, False, Fs, Ps, Ns, Us, Ms, Sec, Min, Hr, Abs, Access, Alias, All, Array, Assert, Attribute, Block, Body, Buffer, Bus, Case, Component, Configuration, Constant, Disconnect, Downto, Elsif, Exit, File, For, Function, Generate, Generic, Group, Guarded, Impure, In, Inertial, Inout, Label, Library, Linkage, Literal, Loop, Map, Mod, New, Next, On, OpenWord, Others, Out, Package, Port, Postponed, Procedure, Pure, Range, Record, Register, Reject, Rem, Report, Return, Rol, Ror, Select, Severity, Shared, Sla, Sll, Sra, Srl, Subtype, To, TypeWord, Unaffected, Units, Until, Use, Variable, Wait, When, While, With, Name, Integer, Open, Close, Comma, Colon, Semicolon, Arrow, Becomes, Finish}

abbrev pub words_in_rows : List Token
words_in_rows =
    Entity ∷ Is ∷ End ∷ Architecture ∷ Of ∷ Signal ∷ Begin ∷ Boolean ∷ Process ∷ Transport ∷ After ∷ If ∷ Then ∷ Else ∷ Null ∷ Not ∷ Nand ∷
    Nor ∷ And ∷ Or ∷ Xor ∷ Xnor ∷
    True ∷ False ∷ Fs ∷ Ps ∷ Ns ∷ Us ∷ Ms ∷ Sec ∷ Min ∷ Hr ∷
    Abs ∷ Access ∷ Alias ∷ All ∷ Array ∷ Assert ∷ Attribute ∷ Block ∷ Body ∷ Buffer ∷ Bus ∷ Case ∷ Component ∷ Configuration ∷ Constant ∷
    Disconnect ∷ Downto ∷ Elsif ∷ Exit ∷ File ∷ For ∷ Function ∷ Generate ∷ Generic ∷ Group ∷ Guarded ∷ Impure ∷ In ∷ Inertial ∷ Inout ∷
    Label ∷ Library ∷ Linkage ∷ Literal ∷ Loop ∷ Map ∷ Mod ∷ New ∷ Next ∷ On ∷ OpenWord ∷ Others ∷ Out ∷ Package ∷ Port ∷ Postponed ∷
    Procedure ∷ Pure ∷ Range ∷ Record ∷ Register ∷ Reject ∷ Rem ∷ Report ∷ Return ∷ Rol ∷ Ror ∷ Select ∷ Severity ∷ Shared ∷ Sla ∷ Sll ∷
    Sra ∷ Srl ∷ Subtype ∷ To ∷ TypeWord ∷ Unaffected ∷ Units ∷ Until ∷ Use ∷ Variable ∷ Wait ∷ When ∷ While ∷ With ∷ []

-- the token of the word in a row; the rows from 32 on are the words that fit nowhere, and behind the last stands no word
unfoldable pub token_in_row : ℕ → Token
token_in_row row = get_or words_in_rows row Name

-- a word has the number of its row
abbrev pub number_of : Token → ℕ
number_of Entity = 0
number_of Is = 1
number_of End = 2
number_of Architecture = 3
number_of Of = 4
number_of Signal = 5
number_of Begin = 6
number_of Boolean = 7
number_of Process = 8
number_of Transport = 9
number_of After = 10
number_of If = 11
number_of Then = 12
number_of Else = 13
number_of Null = 14
number_of Not = 15
number_of Nand = 16
number_of Nor = 17
number_of And = 18
number_of Or = 19
number_of Xor = 20
number_of Xnor = 21
number_of True = 22
number_of False = 23
number_of Fs = 24
number_of Ps = 25
number_of Ns = 26
number_of Us = 27
number_of Ms = 28
number_of Sec = 29
number_of Min = 30
number_of Hr = 31
number_of Abs = 32
number_of Access = 33
number_of Alias = 34
number_of All = 35
number_of Array = 36
number_of Assert = 37
number_of Attribute = 38
number_of Block = 39
number_of Body = 40
number_of Buffer = 41
number_of Bus = 42
number_of Case = 43
number_of Component = 44
number_of Configuration = 45
number_of Constant = 46
number_of Disconnect = 47
number_of Downto = 48
number_of Elsif = 49
number_of Exit = 50
number_of File = 51
number_of For = 52
number_of Function = 53
number_of Generate = 54
number_of Generic = 55
number_of Group = 56
number_of Guarded = 57
number_of Impure = 58
number_of In = 59
number_of Inertial = 60
number_of Inout = 61
number_of Label = 62
number_of Library = 63
number_of Linkage = 64
number_of Literal = 65
number_of Loop = 66
number_of Map = 67
number_of Mod = 68
number_of New = 69
number_of Next = 70
number_of On = 71
number_of OpenWord = 72
number_of Others = 73
number_of Out = 74
number_of Package = 75
number_of Port = 76
number_of Postponed = 77
number_of Procedure = 78
number_of Pure = 79
number_of Range = 80
number_of Record = 81
number_of Register = 82
number_of Reject = 83
number_of Rem = 84
number_of Report = 85
number_of Return = 86
number_of Rol = 87
number_of Ror = 88
number_of Select = 89
number_of Severity = 90
number_of Shared = 91
number_of Sla = 92
number_of Sll = 93
number_of Sra = 94
number_of Srl = 95
number_of Subtype = 96
number_of To = 97
number_of TypeWord = 98
number_of Unaffected = 99
number_of Units = 100
number_of Until = 101
number_of Use = 102
number_of Variable = 103
number_of Wait = 104
number_of When = 105
number_of While = 106
number_of With = 107
number_of Name = 108
number_of Integer = 109
number_of Open = 110
number_of Close = 111
number_of Comma = 112
number_of Colon = 113
number_of Semicolon = 114
number_of Arrow = 115
number_of Becomes = 116
number_of Finish = 117

-- what the number says that is one of several: `true` or `false`, a unit, a binary word, a binary word that may be met again
abbrev pub is_literal : Token → Bool
is_literal token = within 22 23 (number_of token)

abbrev pub unit_of : ℕ → TimeUnit
unit_of number = get_or (units.Fs ∷ units.Ps ∷ units.Ns ∷ units.Us ∷ units.Ms ∷ units.Sec ∷ units.Min ∷ []) (number - 24) units.Hr

abbrev pub unit_seen : Token → Option TimeUnit
unit_seen token = pick (within 24 31 (number_of token)) (Some (unit_of (number_of token))) None

abbrev pub joins : Token → Bool
joins token = within 16 21 (number_of token)

abbrev pub chains : Token → Bool
chains token = within 18 21 (number_of token)

row_26 : token_in_row 26 ≡ Ns
unfolding token_in_row
row_26 = refl

row_107 : token_in_row 107 ≡ With
unfolding token_in_row
row_107 = refl

a_unit_lem : unit_of 26 ≡ units.Ns
a_unit_lem = refl
