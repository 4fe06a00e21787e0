-- Laws of the pass over a process's instructions: a height that is written down is that of a way, and all ways are followed.
-- Assumes nothing.
use Prim.Native.Nat.{ℕ, suc, ◌+◌, ◌-◌, ◌≤◌, ◌<◌}
use native.Mathlib.Omega.{arith}
use mathlib.Core.Path.{◌≡◌, refl, sym, ◌∙◌, ap, subst}
use mathlib.Core.Bool.{Bool, true, false}
use mathlib.Core.Logic.{inl, inr, ⊎_elim}
use mathlib.Core.List.{List}
use lib.ListN.{get_or, length, set, length-set, replicate, length-replicate}
use lib.Seq.{get_or-set_same, get_or-set_other}
use Rattle.laws.proofs.Cases.{same_or, some}
use Rattle.laws.proofs.Lists.{zero_at}
use Rattle.laws.proofs.Deciding.{differ}
use Rattle.table.specs.Instructions.{Instruction, takes, leaves}
use Rattle.table.specs.Table.{Table, begins}
use Rattle.table.specs.Fit.{at, Leads, Ahead, Way, begin, on, Sound}
use Rattle.table.proofs.Heights.{leads-ahead}
use Rattle.kind.specs.declared.Kind.{Kind}
use Rattle.kind.specs.declared.Kind.TheVariants.{Test, Skip}
use Rattle.fitness.specs.Inside.Kinds.{takes_of, leaves_of, goes_on, jumps, Follows, next, jump, Forward}
use Rattle.fitness.specs.Inside.Heights.{PutAs, after, Broken, short, high, clash, Stepped, Fresh, Passed}
use Rattle.fitness.specs.Inside.Parts.{Sounds}
use Rattle.fitness.proofs.Kind.{Means}

pub leaves-few : (kind : Kind) → leaves_of kind ≤ 1
leaves-few Skip = omega arith
leaves-few kind = omega arith

-- all but a test and a skip go on and do not jump
pub goes_only : (kind : Kind) → (kind ≡ Test → ⊥) → (kind ≡ Skip → ⊥) → (goes_on kind ≡ true) × (jumps kind ≡ false)
goes_only Test t s = absurd (t refl)
goes_only Skip t s = absurd (s refl)
goes_only kind t s = (refl, refl)

-- PUT

pub put-new : (hs : List ℕ) (j h : ℕ) → j < length hs → get_or hs j 0 ≡ 0 → PutAs hs j h true (set hs j h)
put-new hs j h l e =
    record {
      long = length-set hs j h;
      grown = λ k. ⊎_elim
          (λ q. inr (q, ap (λ i. get_or hs i 0) q ∙ e, ap (λ i. get_or (set hs j h) i 0) q ∙ get_or-set_same hs j h 0 l))
          (λ n. inl (get_or-set_other hs j k h 0 n)) (same_or k j);
      there = λ r. get_or-set_same hs j h 0 l;
      clash = λ r. differ r;
    }

pub put_old : (hs : List ℕ) (j h : ℕ) (r : Bool) → (get_or hs j 0 ≡ 0 → ⊥) → (r ≡ true → get_or hs j 0 ≡ h) → (r ≡ false → get_or hs j 0 ≡ h → ⊥) → PutAs hs j h r hs
put_old hs j h r n y z = record { long = refl; grown = λ k. inl refl; there = λ e. y e; clash = λ e. (n, z e) }

-- STEP

module _ (hs : List ℕ) (kind : Kind) (about x : ℕ) where
  pub step-idle : get_or hs x 0 ≡ 0 → Stepped hs kind about x true hs
  step-idle e = record { long = refl; grown = λ k. inl refl; there = λ r z. absurd (omega arith); broken = λ r. differ r }

  pub step-short : (get_or hs x 0 ≡ 0 → ⊥) → get_or hs x 0 ≤ takes_of kind → Stepped hs kind about x false hs
  step-short n e =
      record { long = refl; grown = λ k. inl refl; there = λ r z. differ (sym r); broken = λ r. (omega arith, short e) }

  pub step-high : takes_of kind < get_or hs x 0 → 35 < after hs kind x → Stepped hs kind about x false hs
  step-high n e =
      record { long = refl; grown = λ k. inl refl; there = λ r z. differ (sym r); broken = λ r. (omega arith, high n e) }

  module _ (h : ℕ) (enough : takes_of kind < get_or hs x 0) (most : h ≤ 35) (same : h ≡ after hs kind x) where
    put_at : (y : ℕ) (gs : List ℕ) (r : Bool) → Follows kind about x y → (r ≡ true → (k : ℕ) → Follows kind about x k → k ≡ y) → PutAs hs y h r gs → Stepped hs kind about x r gs
    put_at y gs r f only p =
        record {
          long = p.long;
          grown = λ k. ⊎_elim (λ a. inl a)
              (λ a. inr (record { enough = enough; follows = subst (λ j. Follows kind about x j) (sym a.0) f; none = a.1; some = a.2 ∙ same })) (p.grown k);
          there = λ e z. record { enough = enough; most = omega arith; all = λ k g. ap (λ j. get_or gs j 0) (only e k g) ∙ p.there e ∙ same };
          broken = λ e. let c = p.clash e in (omega arith, clash y enough f c.0 (λ z. c.1 (z ∙ sym same)));
        }

    pub step-next : goes_on kind ≡ true → jumps kind ≡ false → (gs : List ℕ) (r : Bool) → PutAs hs (x + 1) h r gs → Stepped hs kind about x r gs
    step-next g n gs r p = put_at (x + 1) gs r (next g refl) (λ e k f. only k f) p
      where
        only : (k : ℕ) → Follows kind about x k → k ≡ x + 1
        only k (next z e) = e
        only k (jump j e) = differ (sym j ∙ n)

    pub step-jump : jumps kind ≡ true → goes_on kind ≡ false → (gs : List ℕ) (r : Bool) → PutAs hs about h r gs → Stepped hs kind about x r gs
    step-jump j n gs r p = put_at about gs r (jump j refl) (λ e k f. only k f) p
      where
        only : (k : ℕ) → Follows kind about x k → k ≡ about
        only k (next g e) = differ (sym g ∙ n)
        only k (jump z e) = e

    pub step-clash : goes_on kind ≡ true → (gs : List ℕ) (r : Bool) → r ≡ false → PutAs hs (x + 1) h r gs → Stepped hs kind about x r gs
    step-clash g gs r n p = put_at (x + 1) gs r (next g refl) (λ e k f. differ (sym e ∙ n)) p

    pub step-both : goes_on kind ≡ true → jumps kind ≡ true → (ms gs : List ℕ) (b r : Bool) → b ≡ true → PutAs hs (x + 1) h b ms → PutAs ms about h r gs
        → Stepped hs kind about x r gs
    step-both g j ms gs b r hb p q =
        record {
          long = q.long ∙ p.long;
          grown = λ k. ⊎_elim
              (λ a. ⊎_elim (λ b. inl (a ∙ b))
              (λ b. inr (record { enough = enough; follows = next g b.0; none = b.1; some = a ∙ b.2 ∙ same })) (p.grown k))
              (λ a. ⊎_elim
              (λ b. inr (record { enough = enough; follows = jump j a.0; none = sym b ∙ a.1; some = a.2 ∙ same }))
              (λ b. inr (record { enough = enough; follows = next g b.0; none = b.1; some = a.2 ∙ same })) (p.grown k))
              (q.grown k);
          there = λ e z. record { enough = enough; most = omega arith; all = λ k f. reached e k f };
          broken = λ e.
              let c = q.clash e in (
                omega arith,
                ⊎_elim
                    (λ a. clash about enough (jump j refl) (λ z. c.0 (a ∙ z)) (λ z. c.1 (a ∙ z ∙ sym same)))
                    (λ a. absurd (c.1 a.2))
                    (p.grown about),
              );
        }
      where
        reached : r ≡ true → (k : ℕ) → Follows kind about x k → get_or gs k 0 ≡ after hs kind x
        reached e k (next n z) =
            let u : get_or ms k 0 ≡ h = ap (λ i. get_or ms i 0) z ∙ p.there hb in
            ⊎_elim (λ b. b ∙ u ∙ same) (λ b. b.2 ∙ same) (q.grown k)
        reached e k (jump n z) = ap (λ i. get_or gs i 0) z ∙ q.there e ∙ same

-- THE PASS

-- the ways on from i are written down
pub record Closed (code : List Instruction) (hs : List ℕ) (i h : ℕ) : Type 0 where
  pub enough : takes (at code i) ≤ h
  pub all : (j : ℕ) → Leads (at code i) i j → get_or hs j 0 ≡ suc (h - takes (at code i) + leaves (at code i))

-- what is known of the heights when the instructions below x are done
pub record Done (code : List Instruction) (from upto x : ℕ) (hs : List ℕ) : Type 0 where
  pub low : from ≤ x
  pub long : length hs ≡ 4097
  pub start : get_or hs from 0 ≡ 1
  pub clear : (j : ℕ) → upto < j → get_or hs j 0 ≡ 0
  pub most : (j : ℕ) → from ≤ j → get_or hs j 0 ≤ 35
  pub known : (j h : ℕ) → from ≤ j → get_or hs j 0 ≡ suc h → Way code from upto j h
  pub ahead : (i : ℕ) → from ≤ i → i < x → Ahead upto i (at code i)
  pub done : (i h : ℕ) → from ≤ i → i < x → get_or hs i 0 ≡ suc h → Closed code hs i h

pub pass-none : (code : List Instruction) (from upto : ℕ) (hs : List ℕ) → from ≤ upto → Fresh from hs → Done code from upto from hs
pass-none code from upto hs l f =
    record {
      low = omega arith;
      long = f.long;
      start = f.start;
      clear = λ j h. f.clear j (omega arith);
      most = λ j h. ⊎_elim
          (λ e. let u : get_or hs j 0 ≡ 1 = ap (λ i. get_or hs i 0) e ∙ f.start in omega arith)
          (λ n. omega (arith, f.clear j (omega arith))) (same_or j from);
      known = λ j h l e. ⊎_elim
          (λ q. let u : get_or hs j 0 ≡ 1 = ap (λ i. get_or hs i 0) q ∙ f.start in
          let z : h ≡ 0 = omega arith in rw (z, q) begin)
          (λ n. absurd (omega (arith, f.clear j (omega arith)))) (same_or j from);
      ahead = λ i a b. absurd (omega arith);
      done = λ i h a b e. absurd (omega arith);
    }

follows-up : (kind : Kind) (about end x y : ℕ) → Forward end x kind about → x < end → Follows kind about x y → (x < y) × (y ≤ end)
follows-up kind about end x y f l (next n e) = (omega arith, omega arith)
follows-up kind about end x y f l (jump n e) = (omega (arith, f n), omega (arith, f n))

-- every instruction leads somewhere
leads_some : (kind : Kind) (about x : ℕ) → (y : ℕ) × Follows kind about x y
leads_some Skip about x = (about, jump refl refl)
leads_some kind about x = (x + 1, next refl refl)

module _ (code : List Instruction) (from upto x : ℕ) (hs : List ℕ) (d : Done code from upto x hs) (l : x < upto)
    (kind : Kind) (about : ℕ) (kd : Means kind about (at code x)) where
  pub pass_more : (gs : List ℕ) (r : Bool) → Forward upto x kind about → Stepped hs kind about x r gs → r ≡ true → Done code from upto (x + 1) gs
  pass_more gs r a s hr =
      let up : (y : ℕ) → Follows kind about x y → (x < y) × (y ≤ upto) = λ y f. follows-up kind about upto x y a l f in
      record {
        low = omega (arith, d.low);
        long = s.long ∙ d.long;
        start = ⊎_elim (λ e. e ∙ d.start) (λ n. absurd (omega (arith, n.none, d.start))) (s.grown from);
        clear = λ j h. ⊎_elim (λ e. e ∙ d.clear j h) (λ n. absurd (omega (arith, up j n.follows))) (s.grown j);
        most = λ j h. ⊎_elim (λ e. omega (arith, d.most j h)) (λ n. omega (arith, n.some, (s.there hr (omega (arith, n.enough))).most)) (s.grown j);
        known = λ j h b e. ⊎_elim (λ q. d.known j h b (sym q ∙ e))
            (λ n. let m = some (get_or hs x 0) (λ z. omega (arith, n.enough)) in
            let u : h ≡ m.0 - takes (at code x) + leaves (at code x) = omega (arith, n.enough, n.some, m.1, kd.taken, kd.left) in
            rw u (on j (d.known x m.0 d.low m.1) l (kd.leads x j n.follows))) (s.grown j);
        ahead = λ i b h. ⊎_elim (λ q. rw q (kd.ahead upto x a)) (λ n. d.ahead i b (omega arith)) (same_or i x);
        done = λ i h b c e.
            let same : get_or hs i 0 ≡ suc h = ⊎_elim (λ q. sym q ∙ e) (λ n. absurd (omega (arith, up i n.follows))) (s.grown i) in
            ⊎_elim
            (λ q.
            let here : get_or hs x 0 ≡ suc h = ap (λ j. get_or hs j 0) (sym q) ∙ same in
            let t = s.there hr (omega arith) in
            rw q
            (record {
              enough = omega (arith, t.enough, kd.taken);
              all = λ j v. omega (arith, t.enough, t.all j (kd.follows x j v), kd.taken, kd.left);
            }))
            (λ n.
            let k = d.done i h b (omega arith) same in
            record { enough = k.enough; all = λ j v. ⊎_elim (λ q. q ∙ k.all j v) (λ w. absurd (omega (arith, w.none, k.all j v))) (s.grown j) })
            (same_or i x);
      }

  pub pass-back : (Forward upto x kind about → ⊥) → Sound code from upto → ⊥
  pass-back n f = n (kd.forward upto x (f.ahead x d.low l))

  broke : (m : ℕ) → get_or hs x 0 ≡ suc m → Sound code from upto → Forward upto x kind about → Broken hs kind about x → ⊥
  broke m e f a (short s) = omega (arith, f.enough x m (d.known x m d.low e) l, kd.taken)
  broke m e f a (high s h) =
      let y = leads_some kind about x in
      omega (arith, f.most y.0 _ (on y.0 (d.known x m d.low e) l (kd.leads x y.0 y.1)), kd.taken, kd.left)
  broke m e f a (clash j s g n o) =
      let p = some (get_or hs j 0) n in
      let u = follows-up kind about upto x j a l g in
      let v = f.same j _ _ (d.known j p.0 (omega (arith, d.low)) p.1) (on j (d.known x m d.low e) l (kd.leads x j g)) in
      o (omega (arith, p.1, kd.taken, kd.left))

  pub pass-broken : (gs : List ℕ) (r : Bool) → Forward upto x kind about → Stepped hs kind about x r gs → r ≡ false → Sound code from upto → ⊥
  pass-broken gs r a s hr f =
      let b = s.broken hr in
      let m = some (get_or hs x 0) (λ z. omega (arith, b.0)) in
      broke m.0 m.1 f a b.1

module _ (code : List Instruction) (from upto : ℕ) (hs : List ℕ) (d : Done code from upto upto hs) where
  ways : (x h : ℕ) → Way code from upto x h → (from ≤ x) × (get_or hs x 0 ≡ suc h)
  ways x h begin = (omega arith, d.start)
  ways x h (on {x = y} {h = g} k w l v) =
      let r = ways y g w in
      (omega (arith, leads-ahead (at code y) upto y k (d.ahead y r.0 l) l v), (d.done y g r.0 l r.1).all k v)

  pub pass-sound : get_or hs upto 0 ≤ 1 → Sound code from upto
  pass-sound e =
      record {
        ahead = d.ahead;
        enough = λ x h w l. (d.done x h (ways x h w).0 l (ways x h w).1).enough;
        most = λ x h w. omega (arith, (ways x h w).1, d.most x (ways x h w).0);
        same = λ x h g w v. omega (arith, (ways x h w).1, (ways x g v).1);
        ended = λ h w. omega (arith, (ways upto h w).1);
      }

  pub pass_end : 1 < get_or hs upto 0 → Sound code from upto → ⊥
  pass_end e f =
      let m = some (get_or hs upto 0) (λ z. omega arith) in
      omega (arith, f.ended m.0 (d.known upto m.0 d.low m.1), m.1)

  pub pass-fresh : upto ≤ 4096 → Fresh upto (set hs upto 1)
  pass-fresh l =
      record {
        long = length-set hs upto 1 ∙ d.long;
        start = get_or-set_same hs upto 1 0 (omega (arith, d.long));
        clear = λ j h. get_or-set_other hs upto j 1 0 (λ e. omega arith) ∙ d.clear j h;
      }

pub passed-not : (code : List Instruction) (from upto : ℕ) (gs : List ℕ) → (Sound code from upto → ⊥) → Passed code from upto false gs
passed-not code from upto gs n = record { holds = λ e. differ (sym e); fails = λ e. n; fresh = λ e. differ (sym e) }

-- ALL PROCESSES

pub fresh_first : Fresh 0 (set (replicate 4097 0) 0 1)
fresh_first =
    record {
      long = length-set {A = ℕ} (replicate 4097 0) 0 1 ∙ length-replicate {A = ℕ} 4097 0;
      start = refl;
      clear = λ j h. get_or-set_other {A = ℕ} (replicate 4097 0) 0 j 1 0 (λ e. omega arith) ∙ zero_at 4097 j;
    }

module _ (t : Table) (p from end : ℕ) (gs : List ℕ) (r : Bool) (e : from ≡ begins t p) (u : end ≡ begins t (suc p)) (s : Passed t.code from end r gs) where
  pub sounds_bad : (n : ℕ) → p < n → r ≡ false → Sounds t n → ⊥
  sounds_bad n l z a = s.fails z (rw (e, u) (a p l))

  pub sounds_more : r ≡ true → Sounds t p → Sounds t (p + 1)
  sounds_more z a q l =
      ⊎_elim
      (λ h. rw h (subst (λ y. Sound t.code (begins t p) y) u (subst (λ y. Sound t.code y end) e (s.holds z))))
      (λ h. a q (omega arith))
      (same_or q p)
