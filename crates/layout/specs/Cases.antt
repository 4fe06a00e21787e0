-- Case A in words: its table, and its session after the start. Assumes nothing: each is computed.
use Rattle.std.specs.Prelude.{ℕ, suc, ◌≡◌, refl, List, [], ◌∷◌, eqb}
use Rattle.laws.specs.Pick.{pick}
use Rattle.rules.specs.Formulas.{size}
use Rattle.rules.specs.Statements.{member}
use Rattle.rules.specs.Sized.{instructions}
use Rattle.rules.specs.Cases.{pair, at0}
use Rattle.table.specs.Table.{tabulate}
use Rattle.table.specs.Translation.{formula_code, code, ends_from, code_from, word, listeners_of, translate}
use Rattle.layout.specs.TableWords.{table_words}
use Rattle.layout.specs.SessionWords.{session_words}

-- the words that are not zero, each with its place
unfoldable pub filled : ℕ → List ℕ → List (ℕ × ℕ)
filled place [] = []
filled place (word ∷ words) = let rest = filled (suc place) words in pick (eqb word 0) rest ((place, word) ∷ rest)

-- 2 signals, 2 processes, 6 instructions; q wakes both processes; they end at 3 and at 6; `not`, an assignment to q after
-- 3,000,000 fs, `not`, an assignment to d. All others are zero, as is the word of a name that is signal 0
pub pair-words : filled 0 (table_words (translate pair))
    ≡ (0, 2) ∷ (1, 2) ∷ (2, 6) ∷ (67, 3) ∷ (131, 3) ∷ (132, 6) ∷ (196, 2) ∷ (197, 9) ∷ (199, 2) ∷ (200, 25) ∷ (4293, 3000000) ∷ []
unfolding filled table_words pair translate tabulate listeners_of word member ends_from code_from code formula_code instructions size
pair-words = refl

-- 2 signals at time 0; d is true; one change is pending for q, at 3,000,000 fs to true
pub at0-words : filled 0 (session_words at0) ≡ (0, 2) ∷ (3, 1) ∷ (66, 1) ∷ (130, 6000001) ∷ []
unfolding filled session_words tabulate
at0-words = refl
