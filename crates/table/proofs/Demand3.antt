-- Demand 3 over definitions: for every circuit that keeps the sizes, its table is fit, and start and any calls after it answer over the table
-- as over the statements; and every session on the way is fit. Assumes nothing.
use Prim.Native.Nat.{ℕ, ◌≤◌}
use mathlib.Core.Path.{◌≡◌, refl, sym, ap, subst}
use mathlib.Core.Logic.{◌↔◌}
use mathlib.Core.List.{List, [], ◌∷◌, map}
use lib.ListN.{length}
use Rattle.syntax.specs.Circuit.{Circuit}
use Rattle.words.specs.Unit.{longest}
use Rattle.rules.specs.Runner.{Runner}
use Rattle.rules.specs.Statements.{means}
use Rattle.rules.specs.Session.{Session, FitSession}
use Rattle.rules.specs.Calls.{Answer, refused, quiet, stop_reached, moved, start, advance, advances, following, calls}
use Rattle.rules.specs.Sized.{Sized}
use Rattle.table.proofs.Sessions.{AnswersFit, leaves-fit, start-fit, advance-fit}
use Rattle.table.proofs.Written.{WritesFit, start-writes, advance-writes}
use Rattle.table.specs.Table.{Table, runners}
use Rattle.table.specs.Fit.{FitTable}
use Rattle.table.specs.Translation.{translate}
use Rattle.table.proofs.Faithful.{faithful}
use Rattle.table.proofs.Fitting.{fit_translation}
use Rattle.table.proofs.Obedient.{table-obedient}

-- every stop keeps its size; every session that a call leaves is fit
unfoldable pub InSize : List ℕ → Type 0
InSize [] = Unit {0}
InSize (stop ∷ stops) = (stop ≤ longest) × InSize stops

unfoldable pub AllFit : List Runner → ℕ → List Answer → Type 0
AllFit rs n [] = Unit {0}
AllFit rs n (a ∷ more) = AnswersFit rs n a × AllFit rs n more

-- an answer is a refusal's number, quiet, stop reached, or moved with the session after it (time, values, pending changes), the bytes
-- written, the cycles and the steps; so equal answers agree in all of these
pub record SameCalls (c : Circuit) : Type 0 where
  pub fit : FitTable (translate c)
  pub starts : start (runners (translate c)) (translate c).initial ≡ start (map means c.processes) c.initial
  pub advances : (stop : ℕ) (s : Session) → advance (runners (translate c)) stop s ≡ advance (map means c.processes) stop s
  pub sessions : (s : Session)
      → FitSession (runners (translate c)) (length (translate c).initial) s ↔ FitSession (map means c.processes) (length c.initial) s
  pub calls : (stops : List ℕ) → calls (runners (translate c)) (translate c).initial stops ≡ calls (map means c.processes) c.initial stops

-- demand 3
pub demand_3 : (c : Circuit) → Sized c → SameCalls c
unfolding translate
demand_3 c s =
    let same : runners (translate c) ≡ map means c.processes = sym (faithful c s) in
    record {
      fit = fit_translation c s;
      starts = ap (λ rs. start rs c.initial) same;
      advances = λ stop session. ap (λ rs. advance rs stop session) same;
      sessions = λ session.
          (subst (λ rs. FitSession rs (length c.initial) session) same, subst (λ rs. FitSession rs (length c.initial) session) (sym same));
      calls = λ stops. ap (λ rs. calls rs c.initial stops) same;
    }

module _ (t : Table) (f : FitTable t) where
  -- for every fit table: the session after a call is fit again
  pub fit-start : AnswersFit (runners t) (length t.initial) (start (runners t) t.initial)
  fit-start = start-fit (runners t) (length t.initial) (table-obedient t f) t.initial refl

  pub fit-advance : (stop : ℕ) (s : Session) → stop ≤ longest → FitSession (runners t) (length t.initial) s
      → AnswersFit (runners t) (length t.initial) (advance (runners t) stop s)
  fit-advance stop s h g = advance-fit (runners t) (length t.initial) (table-obedient t f) stop s h g

  -- what a call writes fits its buffer
  pub start-short : WritesFit (start (runners t) t.initial)
  start-short = start-writes (runners t) (length t.initial) f.few_signals t.initial fit-start

  pub advance-short : (stop : ℕ) (s : Session) → stop ≤ longest → FitSession (runners t) (length t.initial) s → WritesFit (advance (runners t) stop s)
  advance-short stop s h g = advance-writes (runners t) (length t.initial) f.few_signals stop s h (fit-advance stop s h g)

  fit-advances : (stops : List ℕ) (s : Session) → InSize stops → FitSession (runners t) (length t.initial) s
      → AllFit (runners t) (length t.initial) (advances (runners t) s stops)
  unfolding InSize AllFit advances
  fit-advances [] s h g = tt
  fit-advances (stop ∷ stops) s h g =
      let a = fit-advance stop s h.0 g in
      (a, fit-advances stops _ h.1 (leaves-fit (runners t) (length t.initial) (advance (runners t) stop s) s a g))

  fit-following : (a : Answer) (stops : List ℕ) → InSize stops → AnswersFit (runners t) (length t.initial) a
      → AllFit (runners t) (length t.initial) (following (runners t) a stops)
  unfolding AllFit
  fit-following (refused r) stops h g = tt
  fit-following quiet stops h g = tt
  fit-following stop_reached stops h g = tt
  fit-following (moved m) stops h g = fit-advances stops m.session h g

  -- and so for any number of calls after the start
  pub fit-calls : (stops : List ℕ) → InSize stops → AllFit (runners t) (length t.initial) (calls (runners t) t.initial stops)
  unfolding AllFit calls
  fit-calls stops h = (fit-start, fit-following (start (runners t) t.initial) stops h fit-start)
