-- Document 01's worked cases P1 to P14, each a text with stops and what it shows, from bytes to bytes.
-- Assumes nothing: these are definitions.
use Rattle.std.specs.Prelude.{ℕ, List, [], ◌∷◌, ◌++◌}
use Prim.Native.String.{String}
use Rattle.laws.specs.Text.{bytes}
use Rattle.lexis.specs.Examples.{case_a}
use Rattle.demands.specs.Shown.{Shown, moves, is_quiet, reaches_stop, is_refused, Seen, turned_away, dumped}

pub record Case : Type 0 where
  pub text : List ℕ
  pub stops : List ℕ
  pub expected : Seen

abbrev case : List ℕ → List ℕ → Seen → Case
case text stops expected = record { text = text; stops = stops; expected = expected }

-- an entity e with a signal q, and these statements, woken by q
abbrev woken : String → List ℕ
woken statements =
    bytes "entity e is end; architecture a of e is signal q : boolean; begin process (q) begin " ++ bytes statements ++ bytes " end process; end;"

-- its header, and what its start writes with these bytes for q
abbrev header_e : List ℕ
header_e = bytes "$timescale 1 fs $end\n$scope module e $end\n$var wire 1 ! q $end\n$upscope $end\n$enddefinitions $end\n"

abbrev started : String → (cycles steps : ℕ) → Shown
started line cycles steps = moves (bytes "#0\n$dumpvars\n" ++ bytes line ++ bytes "\n$end\n") 0 cycles steps

-- P1, P2 and P3: case A with its stop, 10 ns: its start, three advances, and after 9,000,000 stop reached; with 9,000,000 as the stop too
case_a_whole : Case
case_a_whole =
    case case_a (10000000 ∷ 10000000 ∷ 10000000 ∷ 10000000 ∷ 9000000 ∷ [])
    (dumped (bytes "$timescale 1 fs $end\n$scope module pair $end\n$var wire 1 ! q $end\n$var wire 1 \" d $end\n$upscope $end\n$enddefinitions $end\n")
    (moves (bytes "#0\n$dumpvars\n0!\n1\"\n$end\n") 0 1 6
    ∷ moves (bytes "#3000000\n1!\n0\"\n") 3000000 2 6
    ∷ moves (bytes "#6000000\n0!\n1\"\n") 6000000 2 6
    ∷ moves (bytes "#9000000\n1!\n0\"\n") 9000000 2 6
    ∷ reaches_stop ∷ reaches_stop ∷ []))

unfoldable pub cases : List Case
unfolding case_a_whole
cases =
    case_a_whole
    -- P4: `true nand true` is false
    ∷ case (woken "q <= transport true nand true;") [] (dumped header_e (started "0!" 1 4 ∷ []))
    -- P5, P6 and P7: the second `nand`, the `or`, the second `not`
    ∷ case (woken "q <= transport q nand q nand q;") [] (turned_away 3 108)
    ∷ case (woken "q <= transport q and q or q;") [] (turned_away 3 107)
    ∷ case (woken "q <= transport not not q;") [] (turned_away 3 103)
    -- P8: true after 8 ns, then false after 3 ns: only the second is left
    ∷ case (woken "q <= transport true after 8 ns; q <= transport false after 3 ns;") (10000000 ∷ 10000000 ∷ [])
    (dumped header_e (started "0!" 0 4 ∷ moves [] 3000000 1 0 ∷ is_quiet ∷ []))
    -- P9: true after 3, false after 8: both, and at 3 the process runs again
    ∷ case (woken "if not q then q <= transport true after 3 ns; q <= transport false after 8 ns; end if;") (10000000 ∷ 10000000 ∷ [])
    (dumped header_e (started "0!" 0 8 ∷ moves (bytes "#3000000\n1!\n") 3000000 1 3 ∷ moves (bytes "#8000000\n0!\n") 8000000 1 8 ∷ []))
    -- P10: both after 3: the later written
    ∷ case (woken "if not q then q <= transport false after 3 ns; q <= transport true after 3 ns; end if;") (10000000 ∷ 10000000 ∷ [])
    (dumped header_e (started "0!" 0 8 ∷ moves (bytes "#3000000\n1!\n") 3000000 1 3 ∷ is_quiet ∷ []))
    -- P11
    ∷ case (woken "q <= transport q after 1000 sec;") [] (dumped header_e (started "0!" 0 2 ∷ []))
    ∷ case (woken "q <= transport q after 1001 sec;") [] (turned_away 8 107)
    ∷ case (woken "q <= transport q after 0 hr;") [] (dumped header_e (started "0!" 1 2 ∷ []))
    -- P12
    ∷ case [] [] (turned_away 3 0)
    -- P13
    ∷ case (woken "q <= transport not q;") [] (dumped header_e (is_refused 16 ∷ []))
    -- P14: no signals, no processes
    ∷ case (bytes "entity e is end; architecture a of e is begin end;") (10000000 ∷ [])
    (dumped (bytes "$timescale 1 fs $end\n$scope module e $end\n$upscope $end\n$enddefinitions $end\n")
    (moves (bytes "#0\n$dumpvars\n$end\n") 0 0 0 ∷ is_quiet ∷ []))
    ∷ []
