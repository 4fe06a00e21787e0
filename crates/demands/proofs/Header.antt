-- The header of every accepted text fits a buffer of 4,096 bytes: it has at most 64 signals, and no name has more than 32 bytes.
-- Assumes nothing.
use Prim.Native.Nat.{ℕ, ◌≤◌}
use mathlib.Core.Path.{subst, sym}
use mathlib.Core.Bool.{Bool, true, false}
use mathlib.Core.Option.{Option, none, some}
use mathlib.Core.List.{List, [], ◌∷◌, ◌++◌}
use lib.ListN.{length}
use native.Mathlib.Omega.{arith}
use Rattle.words.specs.Token.{Name, Fixed, Token}
use Rattle.lexis.proofs.Names.{ShortNames, short-names}
use Rattle.syntax.specs.Tree.{Declaration, declaration, Design, design, design_text, word_text, name_text, comma_text, initial_text, declarations_text}
use Rattle.rules.specs.Sizes.{buffer_bytes}
use Rattle.names.specs.CircuitOf.{entity_name, signal_names, declared_names}
use Rattle.names.specs.Text.{accepts, Gets, faultless}
use Rattle.names.proofs.Answer.{accepted-sized}
use Rattle.names.proofs.Sizes.{as_many_signals}
use Rattle.table.proofs.Written.{Short, header-fits}
use Rattle.demands.specs.Shown.{design_header}

-- what is short in a tree's text is short in the rest
word-rest : (b : Bool) (w : Fixed) (r : List Token) → ShortNames (word_text b w r) → ShortNames r
unfolding ShortNames
word-rest true w r h = h.1
word-rest false w r h = h

name-rest : (o : Option Name) (r : List Token) → ShortNames (name_text o r) → ShortNames r
unfolding ShortNames
name-rest none r h = h
name-rest (some n) r h = h.1

initial-rest : (i : Option Bool) (r : List Token) → ShortNames (initial_text i r) → ShortNames r
unfolding ShortNames
initial-rest none r h = h
initial-rest (some b) r h = h.1.1

-- the names of a list, in front of the names of the rest
comma_short : (ns : List Name) (r : List Token) → ShortNames (comma_text ns r) → Short ns × ShortNames r
unfolding ShortNames Short
comma_short [] r h = (tt, h)
comma_short (n ∷ ns) r h = let more = comma_short ns r h.1.1 in ((h.1.0, more.0), more.1)

short-append : (ns ms : List Name) → Short ns → Short ms → Short (ns ++ ms)
unfolding Short
short-append [] ms h g = g
short-append (n ∷ ns) ms h g = (h.0, short-append ns ms h.1 g)

declarations_short : (ds : List Declaration) (r : List Token) → ShortNames (declarations_text ds r) → Short (declared_names ds)
unfolding ShortNames Short
declarations_short [] r h = tt
declarations_short (declaration n ns i ∷ ds) r h =
    let more = comma_short ns _ h.1.1 in
    (h.1.0, short-append ns (declared_names ds) more.0 (declarations_short ds r (initial-rest i _ more.1.1.1).1))

abbrev ShortDesign : Design → Type 0
ShortDesign d = (length (entity_name d) ≤ 32) × Short (signal_names d)

design-short : (d : Design) → ShortNames (design_text d) → ShortDesign d
unfolding ShortNames
design-short (design e w c a o ds ps w' c') h =
    (h.1.0, declarations_short ds _ (name-rest c _ (word-rest w _ _ h.1.1.1.1)).1.1.1.1.1.1)

pub accepted-short : (text : List ℕ) (d : Design) → Gets text (accepts d) → ShortDesign d
accepted-short text d (faultless w f) = design-short d (subst ShortNames (sym w.sentence) (short-names text))

pub accepted-header-fits : (text : List ℕ) (d : Design) → Gets text (accepts d) → length (design_header d) ≤ buffer_bytes
unfolding design_header
accepted-header-fits text d g =
    let short = accepted-short text d g in
    let few = (accepted-sized text d g).few_signals in
    header-fits (entity_name d) (signal_names d) short.0 short.1 (omega (arith, as_many_signals d))
