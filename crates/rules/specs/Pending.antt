-- Pending changes, posts, and the changes that are due. Assumes nothing: these are definitions.
use Rattle.std.specs.Prelude.{ℕ, min, ◌≡◌, refl, Bool, true, false, ◌||◌, List, [], ◌∷◌, ◌++◌, map, ltb, eqb, length, get_or, set}
use Rattle.laws.specs.Pick.{pick}
use Rattle.rules.specs.Sizes.{most_pending}
use Rattle.rules.specs.Outcome.{Outcome, refuses, gives}
use Rattle.rules.specs.Formulas.{Values}

-- at this time the signal takes this value
pub record Change : Type 0 where
  pub time : ℕ
  pub value : Bool

abbrev pub change : ℕ → Bool → Change
change t v = record { time = t; value = v }

-- the pending changes of each signal, in declared order
abbrev pub Pending : Type 0
Pending = List (List Change)

-- POSTS

-- those before t
unfoldable pub before : ℕ → List Change → List Change
before t [] = []
before t (c ∷ cs) = let rest = before t cs in pick (ltb c.time t) (c ∷ rest) rest

-- to post a change for signal k: all its pending changes at that time or later are removed, then this one is added;
-- refused 15 where it is a 17th
unfoldable pub post : ℕ → Change → Pending → Outcome Pending
post k c p =
    let earlier = before c.time (get_or p k []) in
    pick (ltb (length earlier) most_pending) (gives (set p k (earlier ++ (c ∷ [])))) (refuses 15)

-- CHANGES THAT ARE DUE

-- the value that a signal has after the changes of t
unfoldable pub taken : ℕ → Bool → List Change → Bool
taken t v [] = v
taken t v (c ∷ cs) = let rest = taken t v cs in pick (eqb c.time t) c.value rest

-- its changes without those of t
unfoldable pub kept : ℕ → List Change → List Change
kept t [] = []
kept t (c ∷ cs) = let rest = kept t cs in pick (eqb c.time t) rest (c ∷ rest)

unfoldable pub values_at : ℕ → Values → Pending → Values
values_at t [] p = []
values_at t (v ∷ vs) [] = v ∷ vs
values_at t (v ∷ vs) (cs ∷ p) = taken t v cs ∷ values_at t vs p

-- something is pending at t
unfoldable pub due_in : ℕ → List Change → Bool
due_in t [] = false
due_in t (c ∷ cs) = eqb c.time t || due_in t cs

unfoldable pub due : ℕ → Pending → Bool
due t [] = false
due t (cs ∷ p) = due_in t cs || due t p

-- the least of all pending times, if there is one
pub data Least : Type 0 where
  nothing : Least
  first : ℕ → Least

abbrev pub lower : ℕ → Least → Least
lower t nothing = first t
lower t (first u) = first (min t u)

unfoldable pub least_in : List Change → Least → Least
least_in [] l = l
least_in (c ∷ cs) l = lower c.time (least_in cs l)

unfoldable pub least : Pending → Least
least [] = nothing
least (cs ∷ p) = least_in cs (least p)

-- EXAMPLES

-- P8: true after 8, then false after 3: only the second is left
P8 : post 0 (change 3 false) ((change 8 true ∷ []) ∷ []) ≡ gives ((change 3 false ∷ []) ∷ [])
unfolding post before
P8 = refl

-- P9: true after 3, then false after 8: both
P9 : post 0 (change 8 false) ((change 3 true ∷ []) ∷ []) ≡ gives ((change 3 true ∷ change 8 false ∷ []) ∷ [])
unfolding post before
P9 = refl

-- P10: both after 3: the later written
P10 : post 0 (change 3 false) ((change 3 true ∷ []) ∷ []) ≡ gives ((change 3 false ∷ []) ∷ [])
unfolding post before
P10 = refl

-- at 3 signal 0 becomes true
values_at_3 : values_at 3 (false ∷ false ∷ []) ((change 3 true ∷ change 5 false ∷ []) ∷ (change 3 false ∷ []) ∷ []) ≡ true ∷ false ∷ []
unfolding values_at taken
values_at_3 = refl

kept_at_3 : map (kept 3) ((change 3 true ∷ change 5 false ∷ []) ∷ (change 3 false ∷ []) ∷ []) ≡ (change 5 false ∷ []) ∷ [] ∷ []
unfolding kept
kept_at_3 = refl

least_4 : least ((change 5 true ∷ []) ∷ (change 4 true ∷ change 6 true ∷ []) ∷ []) ≡ first 4
unfolding least least_in
least_4 = refl
