-- What the readers of a whole design answer: as for its parts, up to the end of the text.
-- Assumes nothing: these are definitions.
use Rattle.std.specs.Prelude.{ℕ, ◌≡◌, Bool, List, [], ◌∷◌, Result, Ok, Err}
use Rattle.std.proofs.Math.Option.{Option, some}
use Rattle.words.specs.Token.{Name, ARCHITECTURE, OF, IS}
use Rattle.syntax.specs.Tree.{Declaration, Process, Design, design}
use Rattle.syntax.proofs.Machine.{Values}
use Rattle.syntax.proofs.Rows.{Symbol, Value, a_design, a_name, the_word, signals, processes, closing, architecture_part}
use Rattle.names.specs.Roles.{Role, belongs, passes, word_roles, closing_roles, declarations_roles, processes_roles}
use Rattle.names.specs.Judge.{State, fine}
use Rattle.names.specs.CircuitOf.{entity_name, signal_names}
use Rattle.names.specs.Text.{accepts, refuses, Gets}
use Rattle.emission.specs.Inside.Draft.{Draft, declarations_draft, processes_draft, design_draft}
use Rattle.ledger.specs.Inside.Standing.{Keeps}
use Rattle.refusal.specs.declared.Refusal.{Refusal}
use Rattle.refusal.specs.Numbers.{number_of}
use Rattle.reading.specs.Inside.Spots.{Reached, tokens_from, verdict, Judged, word_of}
use Rattle.reading.specs.Inside.Reading.{the_name}

-- the end of the text
pub record Finished (s : List ℕ) (p q : Reached) : Type 0 where
  pub fine : q.number ≡ 0 → p.number ≡ 0
  pub moves : (k : Values Value [] → Design) → verdict s p [] k ≡ verdict s q [] k
  pub judges : q.number ≡ 0 → p ≡ q
  pub ends : q.number ≡ 0 → tokens_from s q.at ≡ []

-- from the word `architecture` on
abbrev pub behind_entity : List Symbol
behind_entity =
    the_word ARCHITECTURE ∷ a_name ∷ the_word OF ∷ a_name ∷ the_word IS ∷ signals ∷ processes ∷ closing architecture_part ∷ []

pub record Architecture : Type 0 where
  pub name : Name
  pub of : Name
  pub declared : List Declaration
  pub processes : List Process
  pub word : Bool
  pub closed : Option Name

abbrev pub values_of : Architecture → Values Value behind_entity
values_of a = (tt, (a.name, (tt, (a.of, (tt, (a.declared, (a.processes, ((a.word, a.closed), tt))))))))

abbrev pub architecture_roles : Name → Architecture → List Role → List Role
architecture_roles e a r =
    passes ∷ passes ∷ passes ∷ belongs e a.of ∷ passes ∷ declarations_roles a.declared (passes ∷ processes_roles a.processes (passes
    ∷ word_roles a.word (closing_roles (some a.name) a.closed (passes ∷ r))))

abbrev pub architecture_draft : Architecture → Draft → Draft
architecture_draft a m = processes_draft a.processes (declarations_draft a.declared m)

pub record Behind (s : List ℕ) (e : Name) (p q : Reached) (l l' v v' : List ℕ) : Type 0 where
  pub tree : Architecture
  pub fine : q.number ≡ 0 → p.number ≡ 0
  pub moves : (k : Values Value behind_entity → Design) → verdict s p behind_entity k ≡ verdict s q [] (λ _. k (values_of tree))
  pub judges : q.number ≡ 0 → Judged 0 0 s p q l l' v v' (architecture_roles e tree) (architecture_draft tree)
  pub ends : q.number ≡ 0 → tokens_from s q.at ≡ []

-- the whole text
abbrev pub beginning : Reached
beginning = record { number = 0; at = 0; next = 0 }

abbrev pub whole_roles : (e : Name) (w : Bool) (c : Option Name) → Architecture → List Role → List Role
whole_roles e w c a r = passes ∷ passes ∷ passes ∷ passes ∷ word_roles w (closing_roles (some e) c (passes ∷ architecture_roles e a r))

abbrev pub design_of : (e : Name) (w : Bool) (c : Option Name) → Architecture → Design
design_of e w c a = design e w c a.name a.of a.declared a.processes a.word a.closed

-- the name behind the first word
abbrev pub own_name : List ℕ → Name
own_name s = the_name s (word_of s beginning 0).at

pub record Designed (s : List ℕ) (q : Reached) (l l' v v' : List ℕ) : Type 0 where
  pub entity : Name
  pub word : Bool
  pub closed : Option Name
  pub behind : Architecture
  pub named : entity ≡ own_name s
  pub begun : q.number ≡ 0 → (word_of s beginning 0).number ≡ 0
  pub moves : verdict s beginning (a_design ∷ []) (λ vs. vs.0) ≡ verdict s q [] (λ _. design_of entity word closed behind)
  pub judges : q.number ≡ 0 → Judged 0 0 s beginning q l l' v v' (whole_roles entity word closed behind) (design_draft (design_of entity word closed behind))
  pub ends : q.number ≡ 0 → tokens_from s q.at ≡ []

-- what a text gets, and where it is accepted the state that its tokens lead to, which the ledger keeps
pub record Survey (s : List ℕ) (l : List ℕ) : Type 0 where
  pub tree : Design
  pub gets : Gets s (accepts tree)
  pub state : State
  pub keeps : Keeps 0 s l (fine state)
  pub names : state.signal_names ≡ signal_names tree
  pub named : entity_name tree ≡ own_name s
  pub begun : (word_of s beginning 0).number ≡ 0

pub data Surveyed (s : List ℕ) : Result (Unit {0}) Refusal → List ℕ → Type 0 where
  accepted_as : {l : List ℕ} → Survey s l → Surveyed s (Ok tt) l
  refused_as : {refusal : Refusal} {l : List ℕ} → Gets s (refuses (number_of refusal.reason) refusal.place) → Surveyed s (Err refusal) l
