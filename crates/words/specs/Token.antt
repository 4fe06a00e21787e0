-- The tokens of a text, as the grammar sees them.
-- Assumes nothing: these are definitions.
use Rattle.std.specs.Prelude.{ℕ, Bool, List}
use Rattle.words.specs.declared.unit.TimeUnit.{TimeUnit}

-- a name is its bytes, in lower case
abbrev pub Name : Type 0
Name = List ℕ

-- what joins two factors, and no more
pub data Once : Type 0 where
  NAND NOR : Once
  deriving Discrete as Once-discrete

-- what joins two factors or more
pub data Chain : Type 0 where
  AND OR XOR XNOR : Chain
  deriving Discrete as Chain-discrete

-- the other words of the subset, and the marks
pub data Fixed : Type 0 where
  ENTITY IS END ARCHITECTURE OF SIGNAL BEGIN BOOLEAN PROCESS TRANSPORT AFTER IF THEN ELSE NULL NOT : Fixed
  OPEN CLOSE COMMA COLON SEMICOLON ARROW BECOMES : Fixed
  deriving Discrete as Fixed-discrete

-- a foreign word is reserved and not of the subset: it fits nowhere
pub data Token : Type 0 where
  name : Name → Token
  integer : ℕ → Token
  literal : Bool → Token
  once : Once → Token
  chain : Chain → Token
  unit : TimeUnit → Token
  fixed : Fixed → Token
  foreign : Token
