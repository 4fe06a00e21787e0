-- What a text gets: its design, or one refusal of 1 to 10 with its place, in document 01's order:
-- 1; then 2, the first over the whole text; then 3 and 4, first in the text; then 5 to 10, first in the text, lower number first. Assumes nothing: these are definitions.
use Rattle.std.specs.Prelude.{ℕ, ◌≤◌, ◌<◌, ◌≡◌, List, map, length, get_or, Some, None}
use Rattle.words.specs.Token.{Token}
use Rattle.lexis.specs.Token.{tokens_of, first_refused}
use Rattle.syntax.specs.Tree.{Design, design_text}
use Rattle.syntax.specs.Sentence.{nest, most_open, Refused3, Refused4}
use Rattle.names.specs.Judge.{Applies, First, Faultless}

abbrev pub most_bytes : ℕ
most_bytes = 60000

-- 1 has no place: 0
pub data Answer : Type 0 where
  accepts : Design → Answer
  refuses : (number place : ℕ) → Answer

abbrev pub tokens : List ℕ → List Token
tokens text = map (λ p. p.token) (tokens_of text)

abbrev pub starts : List ℕ → List ℕ
starts text = map (λ p. p.start) (tokens_of text)

-- where token k starts; at the end of text, the place is the length
abbrev pub place_of : List ℕ → ℕ → ℕ
place_of text k = get_or (starts text) k (length text)

-- neither 1 nor 2 applies
pub record Scanned (text : List ℕ) : Type 0 where
  pub short : length text ≤ most_bytes
  pub lexical : first_refused text ≡ None

-- nor do 3 and 4: the text is that of the design d
pub record Written (text : List ℕ) (d : Design) : Type 0 where
  pub scanned : Scanned text
  pub sentence : design_text d ≡ tokens text
  pub shallow : nest d ≤ most_open

pub data Gets (text : List ℕ) : Answer → Type 0 where
  too_long : most_bytes < length text → Gets text (refuses 1 0)
  not_lexical : {place : ℕ} → length text ≤ most_bytes → first_refused text ≡ Some place → Gets text (refuses 2 place)
  no_sentence : (k : ℕ) → Scanned text → Refused3 (tokens text) k → Gets text (refuses 3 (place_of text k))
  too_deep : (k : ℕ) → Scanned text → Refused4 (tokens text) k → Gets text (refuses 4 (place_of text k))
  -- 5 to 10
  faulty : {d : Design} (k : ℕ) {number : ℕ} → Written text d → First (Applies d) k number → Gets text (refuses number (place_of text k))
  faultless : {d : Design} → Written text d → Faultless d → Gets text (accepts d)
