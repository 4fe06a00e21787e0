-- The kind of an instruction says what the instruction does, and legal words are those of the instruction that they are read as. Assumes nothing.
use Prim.Native.Nat.{ℕ, suc, ◌+◌, ◌*◌, ◌/◌, ◌%◌, ◌<◌}
use native.Mathlib.Omega.{arith}
use mathlib.Core.Path.{◌≡◌, refl, sym, subst, ◌∙◌, ap}
use mathlib.Core.Bool.{true, false}
use mathlib.Core.Logic.{◌⊎◌, inl, inr, ⊎_elim}
use lib.ListN.{get_or}
use Rattle.kind.specs.declared.Kind.{Kind}
use Rattle.kind.specs.declared.Kind.TheVariants.{Name, Literal, Not, And, Or, Nand, Nor, Xor, Xnor, Assignment, Test, Skip}
use Rattle.kind.specs.Numbers.{number_of}
use Rattle.kind.proofs.Numbers.{one_kind}
use Rattle.laws.proofs.Deciding.{differ}
use Rattle.syntax.specs.Circuit.{Operator, AND, OR, NAND, NOR, XOR, XNOR}
use Rattle.table.specs.Instructions.{Instruction, name, literal, negation, binary, takes, leaves}
use Rattle.table.specs.Fit.{Leads, Ahead, Exists}
use Rattle.layout.specs.TableWords.{operation_word, delay_word}
use Rattle.layout.proofs.Columns.{truth}
use Rattle.layout.proofs.Decoded.{number-truth}
use Rattle.layout.proofs.InstructionWords.{kinds, instruction_of}
use Rattle.fitness.specs.Inside.Kinds.{takes_of, leaves_of, goes_on, jumps, Follows, next, jump, Forward, about_below, delay_below, Legal}
use Rattle.fitness.specs.Inside.Drivers.{Posts}

pub record Means (kind : Kind) (about : ℕ) (i : Instruction) : Type 0 where
  pub taken : takes i ≡ takes_of kind
  pub left : leaves i ≡ leaves_of kind
  pub leads : (x y : ℕ) → Follows kind about x y → Leads i x y
  pub follows : (x y : ℕ) → Leads i x y → Follows kind about x y
  pub ahead : (end x : ℕ) → Forward end x kind about → Ahead end x i
  pub forward : (end x : ℕ) → Ahead end x i → Forward end x kind about
  pub posting : kind ≡ Assignment → Posts i about
  pub posted : (k : ℕ) → Posts i k → (kind ≡ Assignment) × (k ≡ about)

goes : (kind : Kind) (about x y : ℕ) → jumps kind ≡ false → Follows kind about x y → y ≡ suc x
goes kind about x y n (next g e) = omega arith
goes kind about x y n (jump j e) = differ (sym j ∙ n)

-- an instruction that goes on and posts nothing
plain : (kind : Kind) (about : ℕ) (i : Instruction) → goes_on kind ≡ true → jumps kind ≡ false → (kind ≡ Assignment → ⊥) → takes i ≡ takes_of kind
    → leaves i ≡ leaves_of kind → ((x y : ℕ) → y ≡ suc x → Leads i x y) → ((x y : ℕ) → Leads i x y → y ≡ suc x) → ((end x : ℕ) → Ahead end x i)
    → ((k : ℕ) → Posts i k → ⊥) → Means kind about i
plain kind about i g j n t l to from a p =
    record {
      taken = t;
      left = l;
      leads = λ x y f. to x y (goes kind about x y j f);
      follows = λ x y f. next g (omega (arith, from x y f));
      ahead = λ end x f. a end x;
      forward = λ end x f h. differ (sym h ∙ j);
      posting = λ e. absurd (n e);
      posted = λ k q. absurd (p k q);
    }

is_binary : (kind : Kind) (about : ℕ) (o : Operator) → goes_on kind ≡ true → jumps kind ≡ false → (kind ≡ Assignment → ⊥) → 2 ≡ takes_of kind → 1 ≡ leaves_of kind
    → Means kind about (binary o)
is_binary kind about o g j n t l = plain kind about (binary o) g j n t l (λ x y e. e) (λ x y e. e) (λ e x. tt) (λ k p. p)

kind_is : (kind : Kind) (about delay : ℕ) → Means kind about (get_or (kinds about delay) (number_of kind) negation)
kind_is Name about delay = plain Name about (name about) refl refl (λ e. cc) refl refl (λ x y e. e) (λ x y e. e) (λ e x. tt) (λ k p. p)
kind_is Literal about delay = plain Literal about (literal (truth about)) refl refl (λ e. cc) refl refl (λ x y e. e) (λ x y e. e) (λ e x. tt) (λ k p. p)
kind_is Not about delay = plain Not about negation refl refl (λ e. cc) refl refl (λ x y e. e) (λ x y e. e) (λ e x. tt) (λ k p. p)
kind_is And about delay = is_binary And about AND refl refl (λ e. cc) refl refl
kind_is Or about delay = is_binary Or about OR refl refl (λ e. cc) refl refl
kind_is Nand about delay = is_binary Nand about NAND refl refl (λ e. cc) refl refl
kind_is Nor about delay = is_binary Nor about NOR refl refl (λ e. cc) refl refl
kind_is Xor about delay = is_binary Xor about XOR refl refl (λ e. cc) refl refl
kind_is Xnor about delay = is_binary Xnor about XNOR refl refl (λ e. cc) refl refl
kind_is Assignment about delay =
    record {
      taken = refl;
      left = refl;
      leads = λ x y f. goes Assignment about x y refl f;
      follows = λ x y f. next refl (omega arith);
      ahead = λ end x f. tt;
      forward = λ end x f h. differ (sym h);
      posting = λ e. refl;
      posted = λ k p. (refl, sym p);
    }
kind_is Test about delay =
    record {
      taken = refl;
      left = refl;
      leads = λ x y f. either about x y f;
      follows = λ x y f. ⊎_elim (λ e. next refl (omega arith)) (λ e. jump refl e) f;
      ahead = λ end x f. f refl;
      forward = λ end x f h. f;
      posting = λ e. cc;
      posted = λ k p. absurd p;
    }
  where
    either : (about x y : ℕ) → Follows Test about x y → (y ≡ suc x) ⊎ (y ≡ about)
    either about x y (next n e) = inl (omega arith)
    either about x y (jump n e) = inr e
kind_is Skip about delay =
    record {
      taken = refl;
      left = refl;
      leads = λ x y f. jumped about x y f;
      follows = λ x y f. jump refl f;
      ahead = λ end x f. f refl;
      forward = λ end x f h. f;
      posting = λ e. cc;
      posted = λ k p. absurd p;
    }
  where
    jumped : (about x y : ℕ) → Follows Skip about x y → y ≡ about
    jumped about x y (next n e) = differ (sym n)
    jumped about x y (jump n e) = e

pub means : (kind : Kind) (operation delay : ℕ) → number_of kind ≡ operation % 16 → Means kind (operation / 16) (instruction_of operation delay)
unfolding instruction_of
means kind operation delay e = rw (← e) (kind_is kind (operation / 16) delay)

-- WORDS

record Words (kind : Kind) (about delay : ℕ) (i : Instruction) : Type 0 where
  operation : operation_word i ≡ number_of kind + 16 * about
  late : delay_word i ≡ delay

words_are : (kind : Kind) (about delay signals : ℕ) → about < about_below signals kind → delay < delay_below kind
    → Words kind about delay (get_or (kinds about delay) (number_of kind) negation)
words_are Name about delay signals a d = record { operation = omega arith; late = omega arith }
words_are Literal about delay signals a d = record { operation = ap (λ b. 1 + 16 * b) (number-truth about (omega arith)); late = omega arith }
words_are Not about delay signals a d = record { operation = omega arith; late = omega arith }
words_are And about delay signals a d = record { operation = omega arith; late = omega arith }
words_are Or about delay signals a d = record { operation = omega arith; late = omega arith }
words_are Nand about delay signals a d = record { operation = omega arith; late = omega arith }
words_are Nor about delay signals a d = record { operation = omega arith; late = omega arith }
words_are Xor about delay signals a d = record { operation = omega arith; late = omega arith }
words_are Xnor about delay signals a d = record { operation = omega arith; late = omega arith }
words_are Assignment about delay signals a d = record { operation = omega arith; late = omega arith }
words_are Test about delay signals a d = record { operation = omega arith; late = omega arith }
words_are Skip about delay signals a d = record { operation = omega arith; late = omega arith }

-- legal words are those of the instruction that they are read as
pub legal-words : (signals operation delay : ℕ) → Legal signals operation delay
    → (operation_word (instruction_of operation delay) ≡ operation) × (delay_word (instruction_of operation delay) ≡ delay)
unfolding instruction_of
legal-words signals operation delay l =
    let q = words_are l.kind (operation / 16) delay signals l.about l.short in
    let e = l.exists in
    rw (← e) (q.operation ∙ omega arith, q.late)

exists_is : (kind : Kind) (about delay signals : ℕ) → about < about_below signals kind → delay < delay_below kind
    → Exists signals (get_or (kinds about delay) (number_of kind) negation)
exists_is Name about delay signals a d = omega arith
exists_is Assignment about delay signals a d = (omega arith, omega arith)
exists_is Literal about delay signals a d = tt
exists_is Not about delay signals a d = tt
exists_is And about delay signals a d = tt
exists_is Or about delay signals a d = tt
exists_is Nand about delay signals a d = tt
exists_is Nor about delay signals a d = tt
exists_is Xor about delay signals a d = tt
exists_is Xnor about delay signals a d = tt
exists_is Test about delay signals a d = tt
exists_is Skip about delay signals a d = tt

-- signal numbers exist, delays keep their size
pub legal-exists : (signals operation delay : ℕ) → Legal signals operation delay → Exists signals (instruction_of operation delay)
unfolding instruction_of
legal-exists signals operation delay l =
    let e = l.exists in
    rw (← e) (exists_is l.kind (operation / 16) delay signals l.about l.short)

-- a legal assignment is to a signal that there is
pub legal-signal : (signals operation delay : ℕ) → Legal signals operation delay → operation % 16 ≡ 9 → operation / 16 < signals
legal-signal signals operation delay l e = subst (λ k. operation / 16 < about_below signals k) (one_kind l.kind Assignment (l.exists ∙ e)) l.about
