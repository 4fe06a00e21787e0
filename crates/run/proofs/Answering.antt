-- The answers of start and advance, in document 01's order. Assumes nothing.
use Prim.Native.Nat.{ℕ, ◌≤◌, ◌<◌}
use mathlib.Core.Path.{refl}
use mathlib.Core.List.{List}
use Rattle.std.specs.Prelude.{Result, Err}
use Rattle.refusal.specs.declared.Reason.{Reason}
use Rattle.refusal.specs.declared.Reason.TheVariants.{Buffer, Stop, Table, Session}
use Rattle.refusal.specs.Numbers.{number_of}
use Rattle.rules.specs.Calls.{refused, start, advance}
use Rattle.table.specs.Table.{runners}
use Rattle.layout.specs.TableWords.{FitTableWords}
use Rattle.layout.specs.SessionWords.{FitSessionWords}
use Rattle.layout.proofs.Tables.{decode_table}
use Rattle.machine.proofs.Fetching.{held, fits}
use Rattle.session.specs.declared.Answer.{Answer}
use Rattle.run.specs.Lent.{LongEnough, StartDue, AdvanceDue, Gives, Starts, Advances}
use Rattle.run.specs.Lent as lent

-- fit words are fit with the table that they are read as
abbrev pub own-fit : (tb : List ℕ) → FitTableWords tb → FitTableWords tb
own-fit tb f = record { table = decode_table tb; holds = held tb f; fit = fits tb f }

module _ (tb ws bs : List ℕ) where
  gives_reason : (reason : Reason) → Gives (refused (number_of reason)) ws bs (Err reason) ws bs
  gives_reason reason = record { answers = refl; session = refl; bytes = refl }

  pub starts_short : (LongEnough tb ws bs → ⊥) → Starts tb ws bs (Err Buffer) ws bs
  starts_short n = record { says = refused 11; due = lent.StartDue.short n; gives = gives_reason Buffer }

  pub starts_unfit : LongEnough tb ws bs → (FitTableWords tb → ⊥) → Starts tb ws bs (Err Table) ws bs
  starts_unfit l n = record { says = refused 13; due = lent.StartDue.unfit l n; gives = gives_reason Table }

  pub starts_runs : (r : Result Answer Reason) (us cs : List ℕ) → LongEnough tb ws bs → (f : FitTableWords tb)
      → Gives (start (runners f.table) f.table.initial) ws bs r us cs → Starts tb ws bs r us cs
  starts_runs r us cs l f g = record { says = start (runners f.table) f.table.initial; due = lent.StartDue.runs l f; gives = g }

  module _ (stop : ℕ) where
    pub advances_short : (LongEnough tb ws bs → ⊥) → Advances tb ws bs stop (Err Buffer) ws bs
    advances_short n = record { says = refused 11; due = lent.AdvanceDue.short n; gives = gives_reason Buffer }

    pub advances_late : LongEnough tb ws bs → 1000000000000000000 < stop → Advances tb ws bs stop (Err Stop) ws bs
    advances_late l h = record { says = refused 12; due = lent.AdvanceDue.late l h; gives = gives_reason Stop }

    pub advances_unfit : LongEnough tb ws bs → stop ≤ 1000000000000000000 → (FitTableWords tb → ⊥) → Advances tb ws bs stop (Err Table) ws bs
    advances_unfit l h n = record { says = refused 13; due = lent.AdvanceDue.unfit l h n; gives = gives_reason Table }

    pub advances_unfit_session : LongEnough tb ws bs → stop ≤ 1000000000000000000 → (f : FitTableWords tb) → (FitSessionWords f.table ws → ⊥)
        → Advances tb ws bs stop (Err Session) ws bs
    advances_unfit_session l h f n = record { says = refused 14; due = lent.AdvanceDue.unfit_session l h f n; gives = gives_reason Session }

    pub advances_runs : (r : Result Answer Reason) (us cs : List ℕ) → LongEnough tb ws bs → stop ≤ 1000000000000000000 → (f : FitTableWords tb) (s : FitSessionWords f.table ws)
        → Gives (advance (runners f.table) stop s.session) ws bs r us cs → Advances tb ws bs stop r us cs
    advances_runs r us cs l h f s g =
        record { says = advance (runners f.table) stop s.session; due = lent.AdvanceDue.runs l h f s; gives = g }
