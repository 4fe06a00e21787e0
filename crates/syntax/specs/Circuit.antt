-- The circuit that a design stands for: the statements as written, over signal numbers, with delays in femtoseconds.
-- It has no place, label or spelling of the text. Assumes nothing: these are definitions.
use Rattle.std.specs.Prelude.{ℕ, Bool, List}

pub data Operator : Type 0 where
  AND OR NAND NOR XOR XNOR : Operator
  deriving Discrete as Operator-discrete

-- an expression over signal numbers
pub data Formula : Type 0 where
  signal : ℕ → Formula
  constant : Bool → Formula
  negated : Formula → Formula
  combined : Operator → Formula → Formula → Formula

-- a list of statements: none; or one of the three, and those after it
pub data Actions : Type 0 where
  done : Actions
  assign : (target : ℕ) → Formula → (delay : ℕ) → Actions → Actions
  branch : Formula → (first second : Actions) → Actions → Actions
  null : Actions → Actions

-- a process: the signals that wake it, each once, and what it does
pub record Activity : Type 0 where
  pub wakes : List ℕ
  pub body : Actions

-- the starting values of the signals, in declared order, and the processes, in written order
pub record Circuit : Type 0 where
  pub initial : List Bool
  pub processes : List Activity
