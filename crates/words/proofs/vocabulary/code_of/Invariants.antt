-- `words::vocabulary::code_of` meets its contract: the number so far is that of the bytes that have been read, from the end.
-- Assumes nothing.
use Rattle.std.proofs.Common.{◌≡◌, ◌-◌, length, drop}
use Rattle.words.specs.Inside.Codes.{code_of}
use Rattle.words.proofs.vocabulary.code_of.Given as goal

abbrev pub invariant-loop-byte : goal.invariant-loop-byte
invariant-loop-byte l = l.code ≡ code_of (drop (length l.word - length l.yielded) l.word)
