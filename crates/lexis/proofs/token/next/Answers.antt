-- `lexis::token::next` meets its contract: the token that stands where blanks and comments end.
-- Assumes nothing.
use Rattle.std.proofs.Common.{arith, rules, ◌≡◌, false, sym, ap, subst, length, ◌∙◌}
use Rattle.laws.proofs.Lists.{rest}
use Rattle.lexis.specs.Token.{lexeme_of, placed_at, scan_of, Within}
use Rattle.lexis.proofs.Bounds.{place_of, skip-within, scan_within}
use Rattle.lexis.proofs.token.next.Goals as goal

pub returns-in_err-start : goal.returns-in_err-start
unfolding scan_of
returns-in_err-start c =
    let e : c.from_residual.result ≡ scan_of c.args.text.now = rw (sym c.skip.ensures ∙ c.in_err-start.was) (search rules) in
    record { scanned = e; within = subst (Within (length c.args.text.now)) (sym e) (scan_within c.args.text.now) }

pub slice_bounds-lexeme_of-count : goal.slice_bounds-lexeme_of-count
slice_bounds-lexeme_of-count c =
    let e = sym c.skip.ensures ∙ c.in_ok-start.was in
    omega (arith, skip-within false 0 c.args.text.now, ap place_of e)

pub slice_bounds-lexeme_of-start : goal.slice_bounds-lexeme_of-start
slice_bounds-lexeme_of-start c =
    let e = sym c.skip.ensures ∙ c.in_ok-start.was in
    omega (arith, skip-within false 0 c.args.text.now, ap place_of e)

pub returns : goal.returns
unfolding scan_of
returns c =
    let e = sym c.skip.ensures ∙ c.in_ok-start.was in
    let f : c.placed.result ≡ scan_of c.args.text.now = c.placed.ensures ∙ ap (placed_at c.in_ok-start.start) (c.lexeme_of.ensures ∙ ap lexeme_of (rest c.args.text.now c.in_ok-start.start)) ∙ rw e in
    record { scanned = f; within = subst (Within (length c.args.text.now)) (sym f) (scan_within c.args.text.now) }
