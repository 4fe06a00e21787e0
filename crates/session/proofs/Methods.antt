-- The methods of a session do what the functions on its cells do. Assumes nothing.
use Prim.Native.Nat.{ℕ, ◌<◌}
use mathlib.Core.Path.{◌≡◌, refl}
use mathlib.Core.Bool.{Bool}
use mathlib.Core.List.{List}
use native.Mathlib.Omega.{arith}
use Rattle.std.specs.Prelude.{Result, Ok, Err}
use Rattle.refusal.specs.declared.Reason.{Reason}
use Rattle.table.specs.Table.{runners}
use Rattle.layout.proofs.Tables.{decode_table}
use Rattle.cells.specs.Cells.{FitFor, Posted}
use Rattle.cells.proofs.Columns.{same_values}
use Rattle.cells.proofs.Dues.{fit-posted}
use Rattle.machine.specs.Inside.Steps.{signals_of}
use Rattle.machine.specs.declared.Ran.{Ran}
use Rattle.cycles.specs.Inside.Turns.{Taken, CyclesAs}
use Rattle.cycles.proofs.Cycling.{new-values, new-pending}
use Rattle.session.specs.Sessions.{PostsAs, TakesAs, CycleAs}
use Rattle.session.specs.declared.Session.{Session}

abbrev held : ℕ → ℕ → List ℕ → Session
held n t cs = record { count = n; time = t; cells = cs }

pub method_posts : (n u : ℕ) (cs : List ℕ) (k t : ℕ) (v b : Bool) (ds : List ℕ) → FitFor n cs → k < n → Posted cs k t v b ds
    → PostsAs (held n u cs) k t v b (held n u ds)
method_posts n u cs k t v b ds f l p =
    record {
      pending = p.answer n l f.few;
      values = same_values n cs ds (λ j h. p.values j (omega (arith, f.few)));
      time = refl;
      count = refl;
      fit = fit-posted n k cs ds l f t v b p;
    }

module _ (tb : List ℕ) (n u : ℕ) (cs ds : List ℕ) (e : n ≡ signals_of tb) where
  pub method_takes : (t w v : ℕ) → Taken cs tb t (signals_of tb) w v ds → TakesAs (held n u cs) t (held n u ds)
  method_takes t w v s =
      rw e
      (record {
        pending = new-pending cs tb t w v ds s;
        values = new-values cs tb t w v ds s;
        time = refl;
        count = refl;
        fit = s.fit;
      })

  pub method_cycles : (t n₀ : ℕ) (r : Result Ran Reason) (v : ℕ) → CyclesAs cs tb t n₀ r v ds → CycleAs (runners (decode_table tb)) (held n u cs) t n₀ r (held n t ds)
  method_cycles t n₀ (Ok ran) v g = rw e (λ c. (g.ran u c).ran)
  method_cycles t n₀ (Err reason) v g = rw e ((g.ran u 0).0, λ c. (g.ran u c).1)
