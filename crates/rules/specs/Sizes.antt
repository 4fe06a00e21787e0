-- The sizes of document 01 that a run knows, beside the longest delay and latest stop, which stand with the units of time.
-- Assumes nothing: these are definitions.
use Rattle.std.specs.Prelude.{ℕ}

abbrev pub most_signals : ℕ
most_signals = 64

abbrev pub most_processes : ℕ
most_processes = 64

abbrev pub most_instructions : ℕ
most_instructions = 4096

-- pending changes per signal
abbrev pub most_pending : ℕ
most_pending = 16

-- cycles at one time
abbrev pub most_cycles : ℕ
most_cycles = 1000

-- operands of a process at once
abbrev pub most_operands : ℕ
most_operands = 34

-- bytes of an output buffer
abbrev pub buffer_bytes : ℕ
buffer_bytes = 4096
