-- Every worked case shows what document 01 says: one table, proved at once by computing it from its bytes.
-- Assumes nothing.
use native.Mathlib.Decide.{dec_le}
use mathlib.Core.Path.{◌≡◌, refl}
use mathlib.Core.List.{map}
use Rattle.laws.specs.Pick.{same_list}
use Rattle.words.specs.Vocabulary.{subset, others, vocabulary, row_from, row_of, token_at, word_token}
use Rattle.lexis.specs.Byte.{class_of}
use Rattle.lexis.specs.Blank.{skip_from}
use Rattle.lexis.specs.Run.{run_length, all_digits, singles}
use Rattle.lexis.specs.Token.{mark_of, lexeme_of, scan_of, over_text, first_refused, tokens_of}
use Rattle.syntax.proofs.Theorem.{read}
use Rattle.names.specs.Judge.{judged}
use Rattle.names.proofs.Answer.{answer_to}
use Rattle.rules.specs.Formulas.{value, size}
use Rattle.rules.specs.Pending.{before, post, taken, kept, values_at, due_in, due, least_in, least}
use Rattle.rules.specs.Runner.{over, joined}
use Rattle.rules.specs.Statements.{after, steps, assigns, member, means}
use Rattle.rules.specs.Session.{any_below, woken}
use Rattle.rules.specs.Dump.{variables, header, digits, decimal, all, start_bytes, changed, advance_bytes}
use Rattle.rules.specs.Calls.{cycle, cycles, started, start, advance, advances, calls}
use Rattle.demands.specs.Shown.{design_calls, design_header, Seen, seen}
use Rattle.demands.specs.Cases.{Case, cases}

-- what a text shows with these stops
unfoldable pub shows : Case → Seen
shows c = seen (answer_to c.text) c.stops

-- the same, opened to be computed
computed : Case → Seen
unfolding shows design_calls design_header answer_to read dec_le judged same_list first_refused tokens_of over_text scan_of lexeme_of mark_of skip_from run_length all_digits singles class_of word_token token_at row_of row_from vocabulary others subset value size before post taken kept values_at due_in due least_in least over joined after steps assigns member means any_below woken variables header digits decimal all start_bytes changed advance_bytes cycle cycles started start advance advances calls
computed c = shows c

pub worked : map shows cases ≡ map (λ c. c.expected) cases
unfolding cases computed
worked = refl
