-- A look at a place of a text sees the first of the tokens that follow, and leaves the others.
-- Assumes nothing.
use mathlib.Core.Path.{◌≡◌, refl, sym, ap, ◌∙◌, subst}
use mathlib.Core.List.{List, [], ◌∷◌, ◌++◌, map}
use Prim.Native.Nat.{ℕ, zero, suc, ◌+◌, ◌-◌, ◌<◌, ◌≤◌}
use native.Mathlib.Omega.{arith}
use lib.ListN.{length, get_or, drop, take}
use lib.Seq.{drop-drop}
use Rattle.laws.specs.Pick.{same_list}
use Rattle.laws.specs.Text.{bytes}
use Rattle.laws.proofs.Picks.{pick_both}
use Rattle.words.specs.Token.{Token, name, integer, foreign, fixed, OPEN, CLOSE, COMMA, COLON, SEMICOLON, ARROW, BECOMES}
use Rattle.words.specs.Integer.{value_of}
use Rattle.words.specs.Vocabulary.{Row, lower, subset, others, vocabulary, row_from, row_of, token_at, word_token}
use Rattle.std.specs.Prelude.{Option, Some, None, Ok, Err, unwrap_or}
use Rattle.lexis.specs.Token.{Placed, Scan, scan_of, token_of}
use Rattle.lexis.specs.declared.token.Kind.{Kind}
use Rattle.lexis.specs.declared.token.Kind.TheVariants.{Word, Integer, Open, Close, Comma, Colon, Semicolon, Arrow, Becomes}
use Rattle.lexis.proofs.Bounds.{rest-within}
use Rattle.lexis.proofs.Scans.{tokens_at, tokens-token, tokens_end, made-refused}
use Rattle.look.specs.declared.Look.{Look}
use Rattle.look.specs.Inside.Looks.{part, seen_in, kind_of, look_from, look_of, token_of_kind, kind_seen, token_of_look}
use Rattle.look.specs.Inside.Tokens.{number_of}
use Rattle.look.proofs.Tokens.{row-number}

-- THE TOKEN OF A NUMBER is the scan's

-- a row of so many
abbrev Below : ℕ → Option ℕ → Type 0
Below n (Some row) = row < n
Below n None = Unit {0}

row_within : (k : ℕ) (word : List ℕ) (rows : List Row) → Below (k + length rows) (row_from k word rows)
unfolding row_from
row_within k word [] = tt
row_within k word (r ∷ rows) =
    let z : k + 1 + length rows ≡ k + length (r ∷ rows) = omega arith in
    let h = subst (λ (n : ℕ). Below n (row_from (k + 1) word rows)) z (row_within (k + 1) word rows) in
    pick_both (Below (k + length (r ∷ rows))) (same_list word (bytes r.spelling)) (Some k) (row_from (k + 1) word rows) (λ e. omega arith) (λ e. h)

row_below : (run : List ℕ) → Below 108 (row_of run)
unfolding row_of subset others vocabulary
row_below run = row_within 0 (lower run) vocabulary

-- within xs, more may as well stand behind it
get_inside : {A : Type 0} (xs : List A) (n : ℕ) (d e : A) (ys : List A) → n < length xs → get_or xs n d ≡ get_or (xs ++ ys) n e
get_inside [] n d e ys h = absurd (omega arith)
get_inside (x ∷ xs) zero d e ys h = refl
get_inside (x ∷ xs) (suc n) d e ys h = get_inside xs n d e ys (omega arith)

row-token : (run : List ℕ) (row : Option ℕ) → Below 108 row → token_at row (lower run) ≡ token_of_kind run (unwrap_or row 108)
unfolding subset others vocabulary token_at token_of_kind
row-token run (Some row) h =
    get_inside (map (λ r. r.token) vocabulary) row (name (lower run)) foreign
    (name (lower run) ∷ integer (value_of run) ∷ fixed OPEN ∷ fixed CLOSE ∷ fixed COMMA ∷ fixed COLON ∷ fixed SEMICOLON ∷ fixed ARROW ∷ fixed BECOMES ∷ []) h
row-token run None h = refl

word-token : (run : List ℕ) → word_token run ≡ token_of_kind run (unwrap_or (row_of run) 108)
unfolding word_token
word-token run = row-token run (row_of run) (row_below run)

word-number : (run : List ℕ) (row : Option ℕ) → Below 108 row → token_of_kind run (unwrap_or row 108) ≡ token_of_kind run (number_of (seen_in row))
word-number run (Some row) h = ap (token_of_kind run) (sym (row-number row h))
word-number run None h = refl

word-below : (row : Option ℕ) → Below 108 row → number_of (seen_in row) < 117
word-below (Some row) h = rw (row-number row h) (omega arith)
word-below None h = omega arith

kind-token : (k : Kind) (run : List ℕ) → token_of k run ≡ token_of_kind run (number_of (kind_of k run))
unfolding token_of_kind
kind-token Word run = word-token run ∙ word-number run (row_of run) (row_below run)
kind-token Integer run = refl
kind-token Open run = refl
kind-token Close run = refl
kind-token Comma run = refl
kind-token Colon run = refl
kind-token Semicolon run = refl
kind-token Arrow run = refl
kind-token Becomes run = refl

kind-below : (k : Kind) (run : List ℕ) → number_of (kind_of k run) < 117
kind-below Word run = word-below (row_of run) (row_below run)
kind-below Integer run = omega arith
kind-below Open run = omega arith
kind-below Close run = omega arith
kind-below Comma run = omega arith
kind-below Colon run = omega arith
kind-below Semicolon run = omega arith
kind-below Arrow run = omega arith
kind-below Becomes run = omega arith

-- WHAT A LOOK SEES

abbrev pub placed : List ℕ → Look → Placed
placed s l = record { token = token_of_look s l; start = l.start }

-- a token
pub record There (s : List ℕ) (at : ℕ) (l : Look) : Type 0 where
  pub kind : kind_seen l < 117
  pub after : at ≤ l.start
  pub some : l.start < l.end
  pub inside : l.end ≤ length s
  pub tokens : tokens_at at (drop at s) ≡ placed s l ∷ tokens_at l.end (drop l.end s)

-- the end of the text
pub record Gone (s : List ℕ) (at : ℕ) (l : Look) : Type 0 where
  pub kind : kind_seen l ≡ 117
  pub start : l.start ≡ length s
  pub end : l.end ≡ length s
  pub tokens : tokens_at at (drop at s) ≡ []

pub data View (s : List ℕ) (at : ℕ) (l : Look) : Type 0 where
  there : There s at l → View s at l
  gone : Gone s at l → View s at l

part_length : (i l : ℕ) → i + l - i ≡ l
part_length i l = omega arith

by_scan : (s : List ℕ) (at : ℕ) → at ≤ length s → (r : Scan) → scan_of (drop at s) ≡ r → View s at (look_from s at r)
by_scan s at h (Ok (Some found)) e =
    let k = found.kind in
    let i = found.start in
    let l = found.length in
    let w = rest-within s at (Ok (Some found)) e in
    let run : List ℕ = part s (at + i) (at + i + l) in
    let same : take l (drop i (drop at s)) ≡ run = rw (part_length (at + i) l, drop-drop) in
    there record {
      kind = kind-below k run;
      after = omega arith;
      some = omega (arith, w.0);
      inside = omega (arith, w.1);
      tokens = tokens-token s at k i l e
          ∙ ap (λ (t : Token). record { token = t; start = at + i } ∷ tokens_at (at + i + l) (drop (at + i + l) s)) (ap (token_of k) same ∙ kind-token k run);
    }
by_scan s at h (Ok None) e = gone record { kind = refl; start = refl; end = refl; tokens = tokens_end s at e }
by_scan s at h (Err none) e =
    gone record { kind = refl; start = refl; end = refl; tokens = made-refused (λ token rest. token ∷ rest) [] (λ place. []) at (drop at s) none.place e }

pub seen : {s : List ℕ} {at : ℕ} {l : Look} → at ≤ length s → l ≡ look_of s at → View s at l
unfolding look_of
seen {s} {at} h e = subst (View s at) (sym e) (by_scan s at h (scan_of (drop at s)) refl)

pub seen-there : {s : List ℕ} {at : ℕ} {l : Look} → at ≤ length s → l ≡ look_of s at → (kind_seen l ≡ 117 → ⊥) → There s at l
seen-there {s} {at} {l} h e f = go (seen h e)
  where
    go : View s at l → There s at l
    go (there t) = t
    go (gone g) = absurd (f g.kind)

pub seen-gone : {s : List ℕ} {at : ℕ} {l : Look} → at ≤ length s → l ≡ look_of s at → kind_seen l ≡ 117 → Gone s at l
seen-gone {s} {at} {l} h e f = go (seen h e)
  where
    go : View s at l → Gone s at l
    go (there t) = absurd (omega (arith, t.kind))
    go (gone g) = g
