-- The vocabulary: the words that are no names, and what each of them is. Case does not count.
-- Assumes nothing: these are definitions.
use Rattle.std.specs.Prelude.{ℕ, ◌+◌, ◌≡◌, refl, Bool, true, false, List, [], ◌∷◌, ◌++◌, map, get_or, length, Option, Some, None}
use Prim.Native.String.{String}
use Rattle.laws.specs.Pick.{pick, within, same_list}
use Rattle.laws.specs.Text.{bytes}
use Rattle.words.specs.declared.unit.TimeUnit.TheVariants.{Fs, Ps, Ns, Us, Ms, Sec, Min, Hr}
use Rattle.words.specs.Token.{Name, NAND, NOR, AND, OR, XOR, XNOR, ENTITY, IS, END, ARCHITECTURE, OF, SIGNAL, BEGIN, BOOLEAN, PROCESS, TRANSPORT, AFTER, IF, THEN, ELSE, NULL, NOT}
use Rattle.words.specs.Token.{Token, name, literal, once, chain, unit, fixed, foreign}

-- a byte, in lower case where it is a letter
abbrev pub lower_of : ℕ → ℕ
lower_of byte = pick (within 65 90 byte) (byte + 32) byte

abbrev pub lower : List ℕ → List ℕ
lower word = map lower_of word

-- the same word: case does not count
abbrev pub same_word : List ℕ → List ℕ → Bool
same_word one other = same_list (lower one) (lower other)

-- a word, in lower case, and the token that it is
pub record Row : Type 0 where
  pub spelling : String
  pub token : Token

abbrev row : String → Token → Row
row spelling token = record { spelling = spelling; token = token }

-- the words of the subset, its literals and units
unfoldable pub subset : List Row
subset =
    row "entity" (fixed ENTITY) ∷ row "is" (fixed IS) ∷ row "end" (fixed END) ∷ row "architecture" (fixed ARCHITECTURE) ∷
    row "of" (fixed OF) ∷ row "signal" (fixed SIGNAL) ∷ row "begin" (fixed BEGIN) ∷ row "boolean" (fixed BOOLEAN) ∷
    row "process" (fixed PROCESS) ∷ row "transport" (fixed TRANSPORT) ∷ row "after" (fixed AFTER) ∷ row "if" (fixed IF) ∷
    row "then" (fixed THEN) ∷ row "else" (fixed ELSE) ∷ row "null" (fixed NULL) ∷ row "not" (fixed NOT) ∷
    row "nand" (once NAND) ∷ row "nor" (once NOR) ∷
    row "and" (chain AND) ∷ row "or" (chain OR) ∷ row "xor" (chain XOR) ∷ row "xnor" (chain XNOR) ∷
    row "true" (literal true) ∷ row "false" (literal false) ∷
    row "fs" (unit Fs) ∷ row "ps" (unit Ps) ∷ row "ns" (unit Ns) ∷ row "us" (unit Us) ∷
    row "ms" (unit Ms) ∷ row "sec" (unit Sec) ∷ row "min" (unit Min) ∷ row "hr" (unit Hr) ∷
    []

-- the other reserved words of IEEE Std 1076-1993
unfoldable pub others : List String
others =
    "abs" ∷ "access" ∷ "alias" ∷ "all" ∷ "array" ∷ "assert" ∷ "attribute" ∷ "block" ∷ "body" ∷ "buffer" ∷
    "bus" ∷ "case" ∷ "component" ∷ "configuration" ∷ "constant" ∷ "disconnect" ∷ "downto" ∷ "elsif" ∷ "exit" ∷
    "file" ∷ "for" ∷ "function" ∷ "generate" ∷ "generic" ∷ "group" ∷ "guarded" ∷ "impure" ∷ "in" ∷ "inertial"
    ∷ "inout" ∷ "label" ∷ "library" ∷ "linkage" ∷ "literal" ∷ "loop" ∷ "map" ∷ "mod" ∷ "new" ∷ "next" ∷ "on" ∷
    "open" ∷ "others" ∷ "out" ∷ "package" ∷ "port" ∷ "postponed" ∷ "procedure" ∷ "pure" ∷ "range" ∷ "record" ∷
    "register" ∷ "reject" ∷ "rem" ∷ "report" ∷ "return" ∷ "rol" ∷ "ror" ∷ "select" ∷ "severity" ∷ "shared" ∷
    "sla" ∷ "sll" ∷ "sra" ∷ "srl" ∷ "subtype" ∷ "to" ∷ "type" ∷ "unaffected" ∷ "units" ∷ "until" ∷ "use" ∷
    "variable" ∷ "wait" ∷ "when" ∷ "while" ∷ "with" ∷ []

unfoldable pub vocabulary : List Row
vocabulary = subset ++ map (λ word. row word foreign) others

-- the number of the first row that a word stands in, counted from k; none where it stands in no row
unfoldable pub row_from : ℕ → List ℕ → List Row → Option ℕ
row_from k word [] = None
row_from k word (r ∷ rows) = let later = row_from (k + 1) word rows in pick (same_list word (bytes r.spelling)) (Some k) later

unfoldable pub row_of : List ℕ → Option ℕ
row_of word = row_from 0 (lower word) vocabulary

-- the token of a row; a word that stands in no row is a name
unfoldable pub token_at : Option ℕ → Name → Token
token_at (Some number) word = get_or (map (λ r. r.token) vocabulary) number (name word)
token_at None word = name word

unfoldable pub word_token : List ℕ → Token
word_token word = token_at (row_of word) (lower word)

rows : length vocabulary ≡ 108
unfolding subset others vocabulary
rows = refl

upper-case : word_token (bytes "ENTITY") ≡ fixed ENTITY
unfolding subset others vocabulary row_from row_of token_at word_token same_list
upper-case = refl

a_unit_lem : word_token (bytes "Ns") ≡ unit Ns
unfolding subset others vocabulary row_from row_of token_at word_token same_list
a_unit_lem = refl

not_of_the_subset : word_token (bytes "inertial") ≡ foreign
unfolding subset others vocabulary row_from row_of token_at word_token same_list
not_of_the_subset = refl

a_name_lem : word_token (bytes "Pair_1") ≡ name (bytes "pair_1")
unfolding subset others vocabulary row_from row_of token_at word_token same_list
a_name_lem = refl
