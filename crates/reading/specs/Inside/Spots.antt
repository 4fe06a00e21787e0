-- Where reading stands: the grammar's machine, the judge and the draft of the table, from a spot of a text on.
-- Assumes nothing: these are definitions.
use Rattle.std.specs.Prelude.{ℕ, ◌<◌, ◌≡◌, Bool, false, ◌||◌, List, map, eqb, length, get_or, drop, Result, Ok, Err}
use Rattle.laws.specs.Pick.{pick}
use Rattle.lexis.specs.Token.{Placed}
use Rattle.lexis.proofs.Scans.{tokens_at}
use Rattle.syntax.specs.Tree.{Design}
use Rattle.syntax.specs.Sentence.{Verdict, accepted, refused3, refused4}
use Rattle.syntax.proofs.Machine.{Values}
use Rattle.syntax.proofs.Rows.{Symbol, Value}
use Rattle.syntax.proofs.Theorem.{run}
use Rattle.names.specs.Roles.{Role}
use Rattle.names.specs.Judge.{State, Judgement, fine, onward, judged}
use Rattle.emission.specs.Inside.Draft.{Draft}
use Rattle.look.specs.declared.Look.{Look}
use Rattle.look.specs.Inside.Looks.{kind_seen, look_of}
use Rattle.ledger.specs.Inside.Standing.{Keeps}
use Rattle.refusal.specs.declared.Refusal.{Refusal}
use Rattle.refusal.specs.declared.Reason.TheVariants.{Sentence, Nesting}
use Rattle.reading.specs.declared.Unfit.{Unfit}
use Rattle.reading.specs.declared.Unfit.TheVariants.{NoSentence, TooDeep}
use Rattle.reading.specs.declared.Spot.{Spot}

-- how far reading has come: a place of the text and the address of the next instruction; or a refusal's number and its place
pub record Reached : Type 0 where
  pub number : ℕ
  pub at : ℕ
  pub next : ℕ

-- where a spot stands, and where an answer leaves it
abbrev pub at_spot : Spot → Reached
at_spot p = record { number = 0; at = p.at; next = p.next }

abbrev pub unfit_number : Unfit → ℕ
unfit_number (NoSentence place) = 3
unfit_number (TooDeep place) = 4

abbrev pub unfit_place : Unfit → ℕ
unfit_place (NoSentence place) = place
unfit_place (TooDeep place) = place

abbrev pub reached : Result Spot Unfit → Reached
reached (Ok p) = at_spot p
reached (Err e) = record { number = unfit_number e; at = unfit_place e; next = 0 }

abbrev pub refusal_of : Unfit → Refusal
refusal_of (NoSentence place) = record { reason = Sentence; place = place }
refusal_of (TooDeep place) = record { reason = Nesting; place = place }

abbrev pub tokens_from : List ℕ → ℕ → List Placed
tokens_from s at = tokens_at at (drop at s)

abbrev pub starts_from : List ℕ → ℕ → List ℕ
starts_from s at = map (λ p. p.start) (tokens_from s at)

-- a verdict with the place of its token
abbrev pub placed_verdict : ℕ → List ℕ → Verdict Design → Verdict Design
placed_verdict e ps (accepted d) = accepted d
placed_verdict e ps (refused3 k) = refused3 (get_or ps k e)
placed_verdict e ps (refused4 k) = refused4 (get_or ps k e)

-- the machine's verdict on the tokens from place at on
unfoldable pub machine : List ℕ → ℕ → (ss : List Symbol) → (Values Value ss → Design) → Verdict Design
machine s at ss k = placed_verdict (length s) (starts_from s at) (run (map (λ p. p.token) (tokens_from s at)) ss k)

abbrev pub denied : ℕ → ℕ → Verdict Design
denied number place = pick (eqb number 4) (refused4 place) (refused3 place)

-- from a spot on: the machine's, where nothing is refused yet
unfoldable pub verdict : List ℕ → Reached → (ss : List Symbol) → (Values Value ss → Design) → Verdict Design
verdict s p ss k = pick (eqb p.number 0) (machine s p.at ss k) (denied p.number p.at)

-- the judge's answer, where j is what it said of the tokens before place at
unfoldable pub judgement : List ℕ → ℕ → Judgement → List Role → Judgement
judgement s at j rs = onward j (λ y. judged y rs (starts_from s at))

-- what is written of the table, where y is what the tokens so far say
abbrev pub drafted : State → List ℕ → ℕ → Draft
drafted y words next = record { words = words; next = next; names = y.signal_names; processes = y.processes }

-- between two spots the judge met the tokens in these roles, the ledger kept what it says, and the table's words, v before and v' after,
-- got what is to be written where nothing is refused; so many labels are not yet opened
pub record Judged (u u' : ℕ) (s : List ℕ) (p q : Reached) (l l' v v' : List ℕ) (roles : List Role → List Role) (drafts : Draft → Draft) : Type 0 where
  pub after : Judgement → Judgement
  pub keeps : (j : Judgement) → Keeps u s l j → Keeps u' s l' (after j)
  pub folds : (j : Judgement) (r : List Role) → judgement s p.at j (roles r) ≡ judgement s q.at (after j) r
  pub writes : (y y' : State) → Keeps u s l (fine y) → after (fine y) ≡ fine y' → drafts (drafted y v p.next) ≡ drafted y' v' q.next

-- a spot with another address
abbrev pub addressed : Reached → ℕ → Reached
addressed p n = record { number = p.number; at = p.at; next = n }

-- WORDS: a token of the kind, or refusal 3

abbrev pub past : Look → ℕ → Reached
past t n = record { number = 0; at = t.end; next = n }

abbrev pub unfit : Look → ℕ → Reached
unfit t n = record { number = 3; at = t.start; next = n }

abbrev pub deep : Look → ℕ → Reached
deep t n = record { number = 4; at = t.start; next = n }

abbrev pub word_from : Look → Reached → ℕ → Reached
word_from t p kind = pick (eqb (kind_seen t) kind) (past t p.next) (unfit t 0)

unfoldable pub word_of : List ℕ → Reached → ℕ → Reached
word_of s p kind = pick (eqb p.number 0) (word_from (look_of s p.at) p kind) p

-- the next token, where it is of the kind, or refusal 3
abbrev pub TokenAt : List ℕ → ℕ → ℕ → Result Look Unfit → Type 0
TokenAt s at kind (Ok t) = (t ≡ look_of s at) × (kind_seen t ≡ kind)
TokenAt s at kind (Err e) = (kind_seen (look_of s at) ≡ kind → ⊥) × (e ≡ NoSentence (look_of s at).start)

-- something was read, or refused
pub record Forward (p q : Reached) : Type 0 where
  pub more : q.number ≡ 0 → p.at < q.at

-- `end` `if` `;`
abbrev pub end_if_of : List ℕ → Reached → Reached
end_if_of s p = word_of s (word_of s (word_of s p 2) 11) 114

-- a statement begins with a name, `if` or `null`
abbrev pub starter : ℕ → Bool
starter kind = eqb kind 108 || (eqb kind 11 || eqb kind 14)

-- none begins here
pub record Stops (s : List ℕ) (p : Reached) : Type 0 where
  pub none : p.number ≡ 0 → starter (kind_seen (look_of s p.at)) ≡ false
