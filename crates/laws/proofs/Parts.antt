-- A part of a list is written as one, as `copy_from_slice` does, and word by word.
-- Assumes nothing.
use Prim.Native.Nat.{ℕ, ◌+◌, ◌≤◌}
use mathlib.Core.Path.{◌≡◌, refl, sym, ◌∙◌}
use mathlib.Core.List.{List, append_assoc}
use borrow.Rule.Slice.PartMut.{put_mid}
use lib.ListN.{length, take, drop}
use lib.Seq.{sets, sets-eq}
use Rattle.std.proofs.lemmas.List.Edits.{paste_all}
use Rattle.std.proofs.lemmas.Slice.{put_mid-paste}

pub part_sets : (ws part vs : List ℕ) (at k : ℕ) → part ≡ vs → k ≡ length vs → at + length vs ≤ length ws → put_mid at k ws part ≡ sets ws at vs
part_sets ws part vs at k e n l =
    put_mid-paste at k ws part vs (length vs) e (sym n) refl
    ∙ paste_all ws at vs (length vs) refl
    ∙ sym (sets-eq vs ws at l ∙ append_assoc (take at ws) vs (drop (at + length vs) ws))
