-- Case A's table, and what it does: P1 and P2 again, by the machine. Assumes nothing: each is computed.
use Rattle.std.specs.Prelude.{◌≡◌, refl, false, [], ◌∷◌}
use Rattle.laws.specs.Text.{bytes}
use Rattle.rules.specs.Formulas.{size}
use Rattle.rules.specs.Pending.{before, post, taken, kept, values_at, due_in, due, least_in, least}
use Rattle.rules.specs.Runner.{over, joined}
use Rattle.rules.specs.Statements.{member}
use Rattle.rules.specs.Session.{any_below, woken}
use Rattle.rules.specs.Dump.{digits, decimal, all, start_bytes, changed, advance_bytes}
use Rattle.rules.specs.Calls.{moved, cycle, cycles, started, start, advance}
use Rattle.rules.specs.Sized.{instructions}
use Rattle.rules.specs.Cases.{pair, at0, at3}
use Rattle.table.specs.Instructions.{name, negation, assignment}
use Rattle.table.specs.Machine.{does, walk}
use Rattle.table.specs.Table.{bit, tabulate, posts, runner, runners}
use Rattle.table.specs.Translation.{formula_code, code, ends_from, code_from, word, listeners_of, translate}

-- q wakes both processes, d wakes none; three instructions each
pub pair-table : translate pair
    ≡ record {
      initial = false ∷ false ∷ [];
      listeners = 3 ∷ 0 ∷ [];
      ends = 3 ∷ 6 ∷ [];
      code = name 0 ∷ negation ∷ assignment 0 3000000 ∷ name 0 ∷ negation ∷ assignment 1 0 ∷ [];
    }
unfolding pair translate tabulate listeners_of word member ends_from code_from code formula_code instructions size
pair-table = refl

pub P1 : start (runners (translate pair)) (translate pair).initial
    ≡ moved (record { session = at0; bytes = bytes "#0\n$dumpvars\n0!\n1\"\n$end\n"; cycles = 1; steps = 6 })
unfolding pair start started cycles cycle joined over runners runner tabulate bit posts walk does post before taken kept values_at due_in due woken any_below start_bytes all translate listeners_of word member ends_from code_from code formula_code instructions size
P1 = refl

pub P2 : advance (runners (translate pair)) 10000000 at0
    ≡ moved (record { session = at3; bytes = bytes "#3000000\n1!\n0\"\n"; cycles = 2; steps = 6 })
unfolding pair advance least least_in cycles cycle joined over runners runner tabulate bit posts walk does post before taken kept values_at due_in due woken any_below advance_bytes changed decimal digits translate listeners_of word member ends_from code_from code formula_code instructions size
P2 = refl
