-- Laws of every reader: a refused spot stays, a token that fits nowhere is refused 3, and the address of the next instruction does not count for the machine.
-- Assumes nothing.
use Prim.Native.Nat.{ℕ, ◌<◌, ◌≤◌}
use native.Mathlib.Omega.{arith}
use mathlib.Core.Path.{◌≡◌, refl}
use mathlib.Core.Bool.{false}
use mathlib.Core.Option.{none}
use mathlib.Core.List.{List, [], ◌∷◌, ◌++◌}
use lib.ListN.{length}
use borrow.Author.Tests.{ne_eqb}
use Rattle.words.specs.Token.{Fixed}
use Rattle.syntax.specs.Tree.{Design, expression, alone, enough, plain, named, done, null, unlisted, process}
use Rattle.syntax.proofs.Machine.{Values, made}
use Rattle.syntax.proofs.Rows.{Symbol, Value, rows}
use Rattle.syntax.proofs.Laws.{fill, fill-closing}
use Rattle.names.specs.Roles.{Role}
use Rattle.look.specs.declared.Look.{Look}
use Rattle.look.specs.Inside.Looks.{kind_seen, part, look_of}
use Rattle.look.proofs.Looks.{View, there, gone, seen, seen-there}
use Rattle.look.proofs.Numbers.{fixed_kind, taken_by}
use Rattle.ledger.specs.Inside.Standing.{Span, Judges}
use Rattle.reading.specs.declared.Unfit.{Unfit}
use Rattle.reading.specs.declared.Unfit.TheVariants.{NoSentence, TooDeep}
use Rattle.std.specs.Prelude.{Result, Err, IsErrAnd}
use Rattle.std.proofs.lemmas.Result.{err_from_is_err_and}
use Rattle.reading.specs.declared.Spot.{Spot}
use Rattle.reading.specs.Inside.Spots.{Reached, unfit_number, reached, verdict, past, unfit, word_of, addressed, Forward}
use Rattle.reading.specs.Inside.Reading.{What, whole, an_expression, a_tail, a_statement, some_statements, a_list, a_more, a_process, given, closes, Tree, Context, top, step, Ready, Reads, Named}
use Rattle.reading.proofs.Moves.{off, stuck-moves}
use Rattle.reading.proofs.Words.{worded}

-- where a look stands
pub near : {s : List ℕ} {at : ℕ} {t : Look} → View s at t → at ≤ length s → at ≤ t.start
near (there x) h = x.after
near (gone x) h = omega (arith, x.start)

pub within_text : {s : List ℕ} {at : ℕ} {t : Look} → View s at t → t.start ≤ length s
within_text (there x) = omega (arith, x.some, x.inside)
within_text (gone x) = omega (arith, x.start)

-- some tree, where a refusal leaves none
filler : (w : What) → Tree w
filler (whole X f g) = fill X
filler an_expression = expression (plain (named [])) alone
filler a_tail = alone
filler a_statement = null
filler some_statements = done
filler a_list = unlisted
filler (a_more d) = enough
filler a_process = process none unlisted false done none
filler (given X v f) = tt
filler (closes b f g) = fill-closing b

pub reads-off : (w : What) {s : List ℕ} {room : ℕ} {p : Reached} {l l' v v' : List ℕ} → p.at ≤ length s → (p.number ≡ 0 → ⊥) → Reads w s room p p l l' v v'
reads-off w {s} {room} {p} h f =
    record {
      tree = filler w;
      fine = λ e. e;
      ahead = omega arith;
      inside = h;
      moves = λ c ss k u. off s p f (top w c ∷ ss) ((step w (filler w) c).push ++ ss) k (λ us. k (made Value (step w (filler w) c) ss us));
      judges = λ e. absurd (f e);
    }

pub reads-stuck : (w : What) {s : List ℕ} {room : ℕ} {p : Reached} {n : ℕ} {l l' v v' : List ℕ} {t : Look} → p.at ≤ length s → p.number ≡ 0 → t ≡ look_of s p.at
    → ((c : Context w) (small : kind_seen t < 117) → taken_by (part s t.start t.end) (kind_seen t) small (rows (top w c)) ≡ false)
    → Reads w s room p (unfit t n) l l' v v'
reads-stuck w {s} {room} {p} {n} {t = t} h f e g =
    let sight = seen h e in
    record {
      tree = filler w;
      fine = λ _. f;
      ahead = near sight h;
      inside = within_text sight;
      moves = λ c ss k u. stuck-moves s p f n (top w c) sight (g c) ss ((step w (filler w) c).push ++ ss) k (λ us. k (made Value (step w (filler w) c) ss us));
      judges = λ z. absurd (omega (arith, z));
    }

-- what is refused stays, and no address, ledger or table counts behind it
pub numbered : (r : Unfit) → unfit_number r ≡ 0 → ⊥
numbered (NoSentence place) e = omega (arith, e)
numbered (TooDeep place) e = omega (arith, e)

pub reads-stays : (w : What) {s : List ℕ} {room : ℕ} {p : Reached} {l v : List ℕ} → p.at ≤ length s → (p.number ≡ 0 → ⊥) → Reads w s room p p l l v v
reads-stays w h f = reads-off w h f

pub word-off : (s : List ℕ) (q : Reached) (kind : ℕ) → (q.number ≡ 0 → ⊥) → q ≡ word_of s q kind
unfolding word_of
word-off s q kind f = rw (ne_eqb q.number 0 f)

pub reads-ends : {w : What} {s : List ℕ} {room : ℕ} {p : Reached} {n : ℕ} {l l' l2 v v' v2 : List ℕ} (q : Result Spot Unfit) (r : Unfit) → IsErrAnd q (λ e. e ≡ r)
    → Reads w s room p (addressed (reached (Err r)) n) l l' v v' → Reads w s room p (reached q) l l2 v v2
unfolding verdict
reads-ends {w} {s} {room} {p} {l = l} {l2 = l2} {v = v} {v2 = v2} q r h d =
    let e = err_from_is_err_and q h in
    let o : Reads w s room p (reached (Err r)) l l2 v v2 = record {
      tree = d.tree;
      fine = d.fine;
      ahead = d.ahead;
      inside = d.inside;
      moves = d.moves;
      judges = λ e. absurd (numbered r e);
    } in
    rw (e.1, e.2) o

pub forward-ends : {w : What} {s : List ℕ} {room : ℕ} {p : Reached} {n : ℕ} {l l' l2 v v' v2 : List ℕ} (q : Result Spot Unfit) (r : Unfit) → IsErrAnd q (λ e. e ≡ r)
    → Reads w s room p (addressed (reached (Err r)) n) l l' v v' → Reads w s room p (reached q) l l2 v v2 × Forward p (reached q)
forward-ends {p = p} q r h d =
    let e = err_from_is_err_and q h in
    let o : Forward p (reached (Err r)) = record { more = λ z. absurd (numbered r z) } in
    (reads-ends q r h d, rw (e.1, e.2) o)

-- the address does not count
pub to_address : (s : List ℕ) (q : Reached) (n : ℕ) (ss : List Symbol) (k : Values Value ss → Design) → verdict s q ss k ≡ verdict s (addressed q n) ss k
unfolding verdict
to_address s q n ss k = refl

-- WHAT A CALL NEEDS

pub span : {s : List ℕ} {at : ℕ} {t : Look} → at ≤ length s → t ≡ look_of s at → (kind_seen t ≡ 117 → ⊥) → Span s t.start t.end
span h e g = let x = seen-there h e g in record { rising = omega (arith, x.some); inside = x.inside }

module _ {u : ℕ} {s : List ℕ} {p : Reached} {l : List ℕ} (r : Ready u s p l) where
  -- past a token that is judged, or that nothing is said of
  pub ready-token : {u' : ℕ} {role : Role} {place n : ℕ} {t : Look} {l' : List ℕ} → p.number ≡ 0 → t ≡ look_of s p.at → (kind_seen t ≡ 117 → ⊥)
      → Judges u u' s role place l l' → Ready u' s (past t n) l'
  ready-token f e g j =
      let x = seen-there r.inside e g in
      let d = r.sound f in
      record { inside = x.inside; sound = λ _. record { judgement = _; keeps = j.keeps d.judgement d.keeps } }

  pub ready-pass : {n : ℕ} {t : Look} → p.number ≡ 0 → t ≡ look_of s p.at → (kind_seen t ≡ 117 → ⊥) → Ready u s (past t n) l
  ready-pass f e g = record { inside = (seen-there r.inside e g).inside; sound = λ _. r.sound f }

  pub ready-word : (w : Fixed) {q : Reached} → q ≡ word_of s p (fixed_kind w) → Ready u s q l
  ready-word w e = let d = worded w r.inside e in record { inside = d.inside; sound = λ f. r.sound (d.fine f) }

-- past what a call has read
pub ready-reads : {w : What} {s : List ℕ} {room : ℕ} {p q : Reached} {l l' v v' : List ℕ} → Ready 0 s p l → Reads w s room p q l l' v v' → Ready 0 s q l'
ready-reads r d =
    record { inside = d.inside; sound = λ f. let b = r.sound (d.fine f) in record { judgement = _; keeps = (d.judges f).keeps b.judgement b.keeps } }

pub ready_at : {u : ℕ} {s : List ℕ} {p : Reached} {n : ℕ} {l : List ℕ} → Ready u s p l → Ready u s (addressed p n) l
ready_at r = record { inside = r.inside; sound = r.sound }

pub ready-named : {s : List ℕ} {p q : Reached} {l v : List ℕ} → Ready 0 s p l → Named s p q l v → Ready 0 s q l
ready-named r d = ready-reads r d.reads
