-- What the kind of an instruction says of it, and when the words of an instruction are legal. Assumes nothing: these are definitions.
use Rattle.std.specs.Prelude.{ℕ, ◌+◌, ◌/◌, ◌%◌, ◌≤◌, ◌<◌, ◌≡◌, Bool, true, false, List, get_or}
use Rattle.kind.specs.declared.Kind.{Kind}
use Rattle.kind.specs.declared.Kind.TheVariants.{Name, Literal, Not, Assignment, Test, Skip}
use Rattle.kind.specs.Numbers.{number_of}

-- how many operands it takes and leaves
abbrev pub takes_of : Kind → ℕ
takes_of Name = 0
takes_of Literal = 0
takes_of Not = 1
takes_of Assignment = 1
takes_of Test = 1
takes_of Skip = 0
takes_of word = 2

abbrev pub leaves_of : Kind → ℕ
leaves_of Assignment = 0
leaves_of Test = 0
leaves_of Skip = 0
leaves_of kind = 1

-- it goes on to the next instruction; it jumps to what it is about
abbrev pub goes_on : Kind → Bool
goes_on Skip = false
goes_on kind = true

abbrev pub jumps : Kind → Bool
jumps Test = true
jumps Skip = true
jumps kind = false

-- the instruction at x may be followed by y
pub data Follows (kind : Kind) (about x y : ℕ) : Type 0 where
  next : goes_on kind ≡ true → y ≡ x + 1 → Follows kind about x y
  jump : jumps kind ≡ true → y ≡ about → Follows kind about x y

abbrev pub Forward : ℕ → ℕ → Kind → ℕ → Type 0
Forward end x kind about = jumps kind ≡ true → (x < about) × (about ≤ end)

-- with so many signals, what an instruction is about is below the first, and its delay below the second
abbrev pub about_below : ℕ → Kind → ℕ
about_below signals Name = signals
about_below signals Assignment = signals
about_below signals Literal = 2
about_below signals Test = 4097
about_below signals Skip = 4097
about_below signals kind = 1

abbrev pub delay_below : Kind → ℕ
delay_below Assignment = 1000000000000000001
delay_below kind = 1

pub record Legal (signals operation delay : ℕ) : Type 0 where
  pub kind : Kind
  pub exists : number_of kind ≡ operation % 16
  pub about : operation / 16 < about_below signals kind
  pub short : delay < delay_below kind

-- those of the first n instructions are
abbrev pub Legals : List ℕ → ℕ → ℕ → Type 0
Legals words signals n = (x : ℕ) → x < n → Legal signals (get_or words (195 + x) 0) (get_or words (4291 + x) 0)
