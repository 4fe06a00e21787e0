-- A stack of symbols, each of which takes one token or refuses it, and which together hold no more than `most` open.
-- What is said here holds for every grammar with five laws. Assumes nothing.
use mathlib.Core.Path.{◌≡◌, refl, sym, ap, ◌∙◌, subst}
use mathlib.Core.Option.{Option, none, some, map, some-injective, none-ne-some}
use mathlib.Core.List.{List, [], ◌∷◌, ◌++◌, head-eq_of_cons-eq, tail-eq_of_cons-eq, nil≢cons, cons≢nil}
use mathlib.Core.Logic.{◌⊎◌, inl, inr}
use Prim.Native.Nat.{ℕ, suc, ◌+◌, ◌<◌, ◌≤◌, max}
use native.Mathlib.Omega.{arith}
use native.Mathlib.Decide.{dec_le}
use lib.ListN.{length, take}
use Rattle.syntax.specs.Sentence.{Verdict, accepted, refused3, refused4}

-- the verdict on a text, from that on the text behind its first token
abbrev pub later : {D : Type 0} → Verdict D → Verdict D
later (accepted d) = accepted d
later (refused3 k) = refused3 (suc k)
later (refused4 k) = refused4 (suc k)

-- the values of a stack's symbols
abbrev pub Values : {Symbol : Type 0} → (Symbol → Type 0) → List Symbol → Type 0
Values Value [] = Unit
Values Value (X ∷ ss) = Value X × Values Value ss

-- the symbols that take X's place, and how their values make X's
pub record Step {Symbol : Type 0} (Value : Symbol → Type 0) (X : Symbol) : Type 0 where
  pub push : List Symbol
  pub build : Values Value push → Value X

-- VALUES OF A STACK

module _ {Symbol : Type 0} (Value : Symbol → Type 0) where
  abbrev pub front : (ys ss : List Symbol) → Values Value (ys ++ ss) → Values Value ys
  front [] ss us = tt
  front (y ∷ ys) ss us = (us.0, front ys ss us.1)

  abbrev pub back : (ys ss : List Symbol) → Values Value (ys ++ ss) → Values Value ss
  back [] ss us = us
  back (y ∷ ys) ss us = back ys ss us.1

  abbrev pub join : (ys ss : List Symbol) → Values Value ys → Values Value ss → Values Value (ys ++ ss)
  join [] ss ws vs = vs
  join (y ∷ ys) ss ws vs = (ws.0, join ys ss ws.1 vs)

  -- the value of X, and those below it, from the values of the symbols that took its place
  abbrev pub made : {X : Symbol} (s : Step Value X) (ss : List Symbol) → Values Value (s.push ++ ss) → Values Value (X ∷ ss)
  made s ss us = (s.build (front s.push ss us), back s.push ss us)

  front-join : (ys ss : List Symbol) (ws : Values Value ys) (vs : Values Value ss) → front ys ss (join ys ss ws vs) ≡ ws
  front-join [] ss ws vs = refl
  front-join (y ∷ ys) ss ws vs = ap (λ us. (ws.0, us)) (front-join ys ss ws.1 vs)

  back-join : (ys ss : List Symbol) (ws : Values Value ys) (vs : Values Value ss) → back ys ss (join ys ss ws vs) ≡ vs
  back-join [] ss ws vs = refl
  back-join (y ∷ ys) ss ws vs = back-join ys ss ws.1 vs

  join-split : (ys ss : List Symbol) (us : Values Value (ys ++ ss)) → join ys ss (front ys ss us) (back ys ss us) ≡ us
  join-split [] ss us = refl
  join-split (y ∷ ys) ss us = ap (λ vs. (us.0, vs)) (join-split ys ss us.1)

  -- the step of Y and then zs, for X, where g makes X's value of theirs
  abbrev pub extended : {X Y : Symbol} (zs : List Symbol) → (Value Y → Values Value zs → Value X) → Step Value Y → Step Value X
  extended zs g s = record { push = s.push ++ zs; build = λ ws. g (s.build (front s.push zs ws)) (back s.push zs ws) }

  -- what is made of a stack and the values of its parts does not depend on how they are grouped
  regrouped : {E R : Type 0} (ys zs ss : List Symbol) (P : (qs : List Symbol) → (Values Value qs → E) → R) (k : Values Value ys → Values Value zs → Values Value ss → E)
      → P ((ys ++ zs) ++ ss) (λ us. k (front ys zs (front (ys ++ zs) ss us)) (back ys zs (front (ys ++ zs) ss us)) (back (ys ++ zs) ss us))
      ≡ P (ys ++ (zs ++ ss)) (λ us. k (front ys (zs ++ ss) us) (front zs ss (back ys (zs ++ ss) us)) (back zs ss (back ys (zs ++ ss) us)))
  regrouped [] zs ss P k = refl
  regrouped {E} (y ∷ ys) zs ss P k = regrouped {E = Value y → E} ys zs ss (λ qs h. P (y ∷ qs) (λ us. h us.1 us.0)) (λ ws vs us v. k (v, ws) vs us)

-- THE MACHINE

-- how many the symbols of a stack hold open
abbrev pub weights : {Symbol : Type 0} → (Symbol → ℕ) → List Symbol → ℕ
weights weight [] = 0
weights weight (X ∷ ss) = weight X + weights weight ss

module _ {Symbol Token : Type 0} (Value : Symbol → Type 0) (next : (X : Symbol) → Token → Option (Step Value X))
    (weight : Symbol → ℕ) (most : ℕ) where
  -- the verdict on the tokens, where the symbols of the stack are still to come and k makes of their values what is read
  abbrev pub run : {D : Type 0} → List Token → (ss : List Symbol) → (Values Value ss → D) → Verdict D
  run [] [] k = accepted (k tt)
  run [] (X ∷ ss) k = refused3 0
  run (t ∷ ts) [] k = refused3 0
  run (t ∷ ts) (X ∷ ss) k = elim (next X t) [
    | none ↦ refused3 0
    | some s ↦ elim (dec_le (weights weight (s.push ++ ss)) most) [
      | yes _ ↦ later (run ts (s.push ++ ss) (λ us. k (made Value s ss us)))
      | no _ ↦ refused4 0
    ]
  ]

  -- the same verdict, where the test of the limit answers d
  abbrev pub limited : {D : Type 0} {X : Symbol} {P : Type 0} → Step Value X → Dec P → List Token → (ss : List Symbol) → (Values Value (X ∷ ss) → D) → Verdict D
  limited s d ts ss k = elim d [
    | yes _ ↦ later (run ts (s.push ++ ss) (λ us. k (made Value s ss us)))
    | no _ ↦ refused4 0
  ]

  -- and where the first token takes the step o
  abbrev pub taking : {D : Type 0} {X : Symbol} → Option (Step Value X) → List Token → (ss : List Symbol) → (Values Value (X ∷ ss) → D) → Verdict D
  taking o ts ss k = elim o [
    | none ↦ refused3 0
    | some s ↦ limited s (dec_le (weights weight (s.push ++ ss)) most) ts ss k
  ]

  module _ {D : Type 0} (X : Symbol) (t : Token) (ts : List Token) (ss : List Symbol) (k : Values Value (X ∷ ss) → D) where
    pub run_none : next X t ≡ none → run (t ∷ ts) (X ∷ ss) k ≡ refused3 0
    run_none n = ap (λ o. taking o ts ss k) n

    pub run_some : (s : Step Value X) → next X t ≡ some s → weights weight (s.push ++ ss) ≤ most
        → run (t ∷ ts) (X ∷ ss) k ≡ later (run ts (s.push ++ ss) (λ us. k (made Value s ss us)))
    run_some s n h = ap (λ o. taking o ts ss k) n ∙ go (dec_le (weights weight (s.push ++ ss)) most)
      where
        go : (d : Dec (weights weight (s.push ++ ss) ≤ most)) → limited s d ts ss k ≡ later (run ts (s.push ++ ss) (λ us. k (made Value s ss us)))
        go (yes _) = refl
        go (no l) = absurd (l h)

    pub run-deep : (s : Step Value X) → next X t ≡ some s → ¬ (weights weight (s.push ++ ss) ≤ most) → run (t ∷ ts) (X ∷ ss) k ≡ refused4 0
    run-deep s n h = ap (λ o. taking o ts ss k) n ∙ go (dec_le (weights weight (s.push ++ ss)) most)
      where
        go : (d : Dec (weights weight (s.push ++ ss) ≤ most)) → limited s d ts ss k ≡ refused4 0
        go (yes l) = absurd (h l)
        go (no _) = refl

  -- where X does what Y does, and zs must follow
  pub run-extended : {D : Type 0} (X Y : Symbol) (zs : List Symbol) (g : Value Y → Values Value zs → Value X)
      (t : Token) (ts : List Token) (ss : List Symbol) (k : Values Value (X ∷ ss) → D) → next X t ≡ map (extended Value zs g) (next Y t)
      → run (t ∷ ts) (X ∷ ss) k ≡ run (t ∷ ts) (Y ∷ (zs ++ ss)) (λ vs. k (g vs.0 (front Value zs ss vs.1), back Value zs ss vs.1))
  run-extended {D} X Y zs g t ts ss k n = ap (λ o. taking o ts ss k) n ∙ go (next Y t)
    where
      go : (o : Option (Step Value Y)) → taking (map (extended Value zs g) o) ts ss k
          ≡ taking o ts (zs ++ ss) (λ vs. k (g vs.0 (front Value zs ss vs.1), back Value zs ss vs.1))
      go none = refl
      go (some s) = regrouped Value s.push zs ss (λ qs h. elim (dec_le (weights weight qs) most) [ yes _ ↦ later (run ts qs h) | no _ ↦ refused4 0 ])
          (λ ws vs us. k (g (s.build ws) vs, us))

-- TEXT AND NESTING OF A STACK

-- the text of a stack's values, in front of r
abbrev pub texts : {Symbol Token : Type 0} (Value : Symbol → Type 0) → ((X : Symbol) → Value X → List Token → List Token)
    → (ss : List Symbol) → Values Value ss → List Token → List Token
texts Value text [] vs r = r
texts Value text (X ∷ ss) vs r = text X vs.0 (texts Value text ss vs.1 r)

-- the most that are open at once while they are read
abbrev pub nests : {Symbol : Type 0} (Value : Symbol → Type 0) → (Symbol → ℕ) → ((X : Symbol) → Value X → ℕ)
    → (ss : List Symbol) → Values Value ss → ℕ
nests Value weight nest [] vs = 0
nests Value weight nest (X ∷ ss) vs = max (nest X vs.0 + weights weight ss) (nests Value weight nest ss vs.1)

module _ {Symbol Token : Type 0} (Value : Symbol → Type 0) (text : (X : Symbol) → Value X → List Token → List Token) where
  pub texts-join : (ys ss : List Symbol) (ws : Values Value ys) (vs : Values Value ss) (r : List Token)
      → texts Value text (ys ++ ss) (join Value ys ss ws vs) r ≡ texts Value text ys ws (texts Value text ss vs r)
  texts-join [] ss ws vs r = refl
  texts-join (y ∷ ys) ss ws vs r = ap (text y ws.0) (texts-join ys ss ws.1 vs r)

  pub texts-split : (ys ss : List Symbol) (us : Values Value (ys ++ ss)) (r : List Token)
      → texts Value text ys (front Value ys ss us) (texts Value text ss (back Value ys ss us) r) ≡ texts Value text (ys ++ ss) us r
  texts-split ys ss us r = sym (texts-join ys ss _ _ r) ∙ ap (λ vs. texts Value text (ys ++ ss) vs r) (join-split Value ys ss us)

pub weights-append : {Symbol : Type 0} (weight : Symbol → ℕ) (ys ss : List Symbol) → weights weight (ys ++ ss) ≡ weights weight ys + weights weight ss
weights-append weight [] ss = omega arith
weights-append weight (y ∷ ys) ss = let h = weights-append weight ys ss in omega arith

module _ {Symbol : Type 0} (Value : Symbol → Type 0) (weight : Symbol → ℕ) (nest : (X : Symbol) → Value X → ℕ) where
  nests-join : (ys ss : List Symbol) (ws : Values Value ys) (vs : Values Value ss) → weights weight ss ≤ nests Value weight nest ss vs
      → nests Value weight nest (ys ++ ss) (join Value ys ss ws vs) ≡ max (nests Value weight nest ys ws + weights weight ss) (nests Value weight nest ss vs)
  nests-join [] ss ws vs h = omega arith
  nests-join (y ∷ ys) ss ws vs h = let a = weights-append weight ys ss in let b = nests-join ys ss ws.1 vs h in omega arith

  pub nests-split : (ys ss : List Symbol) (us : Values Value (ys ++ ss)) → weights weight ss ≤ nests Value weight nest ss (back Value ys ss us)
      → nests Value weight nest (ys ++ ss) us ≡ max (nests Value weight nest ys (front Value ys ss us) + weights weight ss) (nests Value weight nest ss (back Value ys ss us))
  nests-split ys ss us h = sym (ap (nests Value weight nest (ys ++ ss)) (join-split Value ys ss us)) ∙ nests-join ys ss _ _ h

module _ {Symbol Token : Type 0} (Value : Symbol → Type 0) (text : (X : Symbol) → Value X → List Token → List Token)
    (next : (X : Symbol) → Token → Option (Step Value X)) (weight : Symbol → ℕ) (nest : (X : Symbol) → Value X → ℕ) (most : ℕ) where
  abbrev write : (ss : List Symbol) → Values Value ss → List Token
  write ss vs = texts Value text ss vs []

  abbrev depth : (ss : List Symbol) → Values Value ss → ℕ
  depth = nests Value weight nest

  abbrev pub SentenceOf : List Symbol → List Token → Type 0
  SentenceOf ss ts = (vs : Values Value ss) × (write ss vs ≡ ts)

  abbrev pub ViableOf : List Symbol → List Token → Type 0
  ViableOf ss p = (vs : Values Value ss) × (rest : List Token) × (write ss vs ≡ p ++ rest)

  abbrev pub WithinOf : List Symbol → List Token → Type 0
  WithinOf ss p = (vs : Values Value ss) × (depth ss vs ≤ most) × (rest : List Token) × (write ss vs ≡ p ++ rest)

  -- what a verdict says
  abbrev pub Judged : {D : Type 0} (ss : List Symbol) → List Token → (Values Value ss → D) → Verdict D → Type 0
  Judged ss ts k (accepted d) = (vs : Values Value ss) × (depth ss vs ≤ most) × (k vs ≡ d) × (write ss vs ≡ ts)
  Judged ss ts k (refused3 n) = WithinOf ss (take n ts)
      × (((n < length ts) × ¬ ViableOf ss (take (suc n) ts)) ⊎ ((n ≡ length ts) × ¬ SentenceOf ss ts))
  Judged ss ts k (refused4 n) = WithinOf ss (take n ts) × ViableOf ss (take (suc n) ts) × ¬ WithinOf ss (take (suc n) ts)

  -- THE FIVE LAWS: a step has the text of its symbol, every value has a first step, every symbol has a value,
  -- one that opens no more than the symbol holds open, and a step keeps the nesting
  module _ (sound : (X : Symbol) (t : Token) (s : Step Value X) → next X t ≡ some s
      → (ws : Values Value s.push) (r : List Token) → text X (s.build ws) r ≡ t ∷ texts Value text s.push ws r)
      (view : (X : Symbol) (v : Value X) → (t : Token) × (s : Step Value X) × (ws : Values Value s.push) × (next X t ≡ some s) × (s.build ws ≡ v))
      (fill : (X : Symbol) → Value X)
      (shallow : (X : Symbol) → nest X (fill X) ≤ weight X)
      (deep : (X : Symbol) (t : Token) (s : Step Value X) → next X t ≡ some s
      → (ws : Values Value s.push) → nest X (s.build ws) ≡ max (weight X) (depth s.push ws)) where
    abbrev fills : (ss : List Symbol) → Values Value ss
    fills [] = tt
    fills (X ∷ ss) = (fill X, fills ss)

    fills-within : (ss : List Symbol) → depth ss (fills ss) ≤ weights weight ss
    fills-within [] = omega arith
    fills-within (X ∷ ss) = let h = fills-within ss in let l = shallow X in omega arith

    least : (X : Symbol) (v : Value X) → weight X ≤ nest X v
    least X v = let (t, s, ws, n, b) = view X v in let h = deep X t s n ws in subst (λ w. weight X ≤ nest X w) b (omega arith)

    weights-least : (ss : List Symbol) (vs : Values Value ss) → weights weight ss ≤ depth ss vs
    weights-least [] vs = omega arith
    weights-least (X ∷ ss) vs = let l = least X vs.0 in omega arith

    -- a value's text begins with a token that its symbol takes
    opened : (X : Symbol) (ss : List Symbol) (vs : Values Value (X ∷ ss))
        → (t : Token) × (s : Step Value X) × (us : Values Value (s.push ++ ss)) × (next X t ≡ some s)
        × (made Value s ss us ≡ vs) × (write (X ∷ ss) vs ≡ t ∷ write (s.push ++ ss) us)
    opened X ss vs =
        let (t, s, ws, n, b) = view X vs.0 in (
          t,
          s,
          join Value s.push ss ws vs.1,
          n,
          ap (λ w. (s.build w, back Value s.push ss (join Value s.push ss ws vs.1))) (front-join Value s.push ss ws vs.1)
              ∙ ap (λ w. (s.build ws, w)) (back-join Value s.push ss ws vs.1) ∙ ap (λ w. (w, vs.1)) b,
          sym (ap (λ w. text X w (write ss vs.1)) b) ∙ sound X t s n ws _ ∙ ap (λ r. t ∷ r) (sym (texts-join Value text s.push ss ws vs.1 [])),
        )

    not-empty : (X : Symbol) (ss : List Symbol) (vs : Values Value (X ∷ ss)) → ¬ (write (X ∷ ss) vs ≡ [])
    not-empty X ss vs e = let (t, s, us, n, b, f) = opened X ss vs in cons≢nil (sym f ∙ e)

    module _ (X : Symbol) (t : Token) (ss : List Symbol) where
      -- a text that begins with t is read by the step of t
      taken : (vs : Values Value (X ∷ ss)) (ts : List Token) → write (X ∷ ss) vs ≡ t ∷ ts
          → (s : Step Value X) × (us : Values Value (s.push ++ ss)) × (next X t ≡ some s) × (made Value s ss us ≡ vs) × (write (s.push ++ ss) us ≡ ts)
      taken vs ts e =
          let (u, s, us, n, b, f) = opened X ss vs in
          let g : u ∷ write (s.push ++ ss) us ≡ t ∷ ts = sym f ∙ e in
          (s, us, ap (λ x. next X x) (sym (head-eq_of_cons-eq g)) ∙ n, b, tail-eq_of_cons-eq g)

      module _ (s : Step Value X) (n : next X t ≡ some s) where
        takes : (vs : Values Value (X ∷ ss)) (ts : List Token) → write (X ∷ ss) vs ≡ t ∷ ts
            → (us : Values Value (s.push ++ ss)) × (made Value s ss us ≡ vs) × (write (s.push ++ ss) us ≡ ts)
        takes vs ts e =
            let (z, us, m, b, g) = taken vs ts e in
            subst (λ (y : Step Value X). (us : Values Value (y.push ++ ss)) × (made Value y ss us ≡ vs) × (write (y.push ++ ss) us ≡ ts))
            (some-injective _ _ (sym m ∙ n)) (us, b, g)

        -- and back: the text and the nesting of what a step makes
        write-made : (us : Values Value (s.push ++ ss)) → write (X ∷ ss) (made Value s ss us) ≡ t ∷ write (s.push ++ ss) us
        write-made us = sound X t s n _ _ ∙ ap (λ r. t ∷ r) (texts-split Value text s.push ss us [])

        depth-made : (us : Values Value (s.push ++ ss)) → depth (X ∷ ss) (made Value s ss us) ≡ max (weights weight (X ∷ ss)) (depth (s.push ++ ss) us)
        depth-made us =
            let a = deep X t s n (front Value s.push ss us) in
            let b = nests-split Value weight nest s.push ss us (weights-least ss (back Value s.push ss us)) in
            omega arith

        within : (p : List Token) → weights weight (X ∷ ss) ≤ most → WithinOf (s.push ++ ss) p → WithinOf (X ∷ ss) (t ∷ p)
        within p h (us, f, rest, g) =
            let a = depth-made us in
            (made Value s ss us, omega arith, rest, write-made us ∙ ap (λ r. t ∷ r) g)

        not_within : (p : List Token) → ¬ WithinOf (s.push ++ ss) p → ¬ WithinOf (X ∷ ss) (t ∷ p)
        not_within p bad (vs, f, rest, e) =
            let (us, m, g) = takes vs _ e in
            let a = depth-made us in
            let c = ap (depth (X ∷ ss)) m in
            bad (us, omega arith, rest, g)

        viable : (p : List Token) → ViableOf (s.push ++ ss) p → ViableOf (X ∷ ss) (t ∷ p)
        viable p (us, rest, g) = (made Value s ss us, rest, write-made us ∙ ap (λ r. t ∷ r) g)

        not-viable : (p : List Token) → ¬ ViableOf (s.push ++ ss) p → ¬ ViableOf (X ∷ ss) (t ∷ p)
        not-viable p bad (vs, rest, e) = let (us, m, g) = takes vs _ e in bad (us, rest, g)

        raise : {D : Type 0} (ts : List Token) (k : Values Value (X ∷ ss) → D) → weights weight (X ∷ ss) ≤ most → (o : Verdict D)
            → Judged (s.push ++ ss) ts (λ us. k (made Value s ss us)) o → Judged (X ∷ ss) (t ∷ ts) k (later o)
        raise ts k h (accepted d) (us, f, e, g) = let a = depth-made us in (made Value s ss us, omega arith, e, write-made us ∙ ap (λ r. t ∷ r) g)
        raise ts k h (refused3 m) (v, inl (lt, bad)) = (within (take m ts) h v, inl (omega arith, not-viable (take (suc m) ts) bad))
        raise ts k h (refused3 m) (v, inr (eq, bad)) = (within (take m ts) h v, inr (ap suc eq, λ (vs, e). let (us, _, g) = takes vs _ e in bad (us, g)))
        raise ts k h (refused4 m) (v, u, bad) = (within (take m ts) h v, viable (take (suc m) ts) u, not_within (take (suc m) ts) bad)

    begun : (ss : List Symbol) → weights weight ss ≤ most → WithinOf ss []
    begun ss h = let l = fills-within ss in (fills ss, omega arith, _, refl)

    -- every verdict of the machine is due
    pub judge : {D : Type 0} (ts : List Token) (ss : List Symbol) (k : Values Value ss → D) → weights weight ss ≤ most
        → Judged ss ts k (run Value next weight most ts ss k)
    judge [] [] k h = (tt, omega arith, refl, refl)
    judge [] (X ∷ ss) k h = (begun (X ∷ ss) h, inr (refl, λ (vs, e). not-empty X ss vs e))
    judge (t ∷ ts) [] k h = (begun [] h, inl (omega arith, λ (vs, r, e). nil≢cons e))
    judge (t ∷ ts) (X ∷ ss) k h = go (next X t) refl (λ s l. judge ts (s.push ++ ss) _ l)
      where
        go : (o : Option (Step Value X)) → next X t ≡ o
            → ((s : Step Value X) → weights weight (s.push ++ ss) ≤ most
            → Judged (s.push ++ ss) ts (λ us. k (made Value s ss us)) (run Value next weight most ts (s.push ++ ss) (λ us. k (made Value s ss us))))
            → Judged (X ∷ ss) (t ∷ ts) k (taking Value next weight most o ts ss k)
        go none n ih = (begun (X ∷ ss) h, inl (omega arith, λ (vs, r, e). let (s, us, m, _, _) = taken X t ss vs r e in none-ne-some _ (sym n ∙ m)))
        go (some s) n ih = limit (dec_le (weights weight (s.push ++ ss)) most)
          where
            limit : (d : Dec (weights weight (s.push ++ ss) ≤ most)) → Judged (X ∷ ss) (t ∷ ts) k (limited Value next weight most s d ts ss k)
            limit (yes l) = raise X t ss s n ts k h (run Value next weight most ts (s.push ++ ss) (λ us. k (made Value s ss us))) (ih s l)
            limit (no l) = (
              begun (X ∷ ss) h,
              viable X t ss s n [] (fills (s.push ++ ss), _, refl),
              not_within X t ss s n [] (λ (us, f, _, _). let w = weights-least (s.push ++ ss) us in l (omega arith)),
            )

    -- the run over a text gives its values back
    pub complete : {D : Type 0} (ts : List Token) (ss : List Symbol) (vs : Values Value ss) (k : Values Value ss → D)
        → write ss vs ≡ ts → depth ss vs ≤ most → run Value next weight most ts ss k ≡ accepted (k vs)
    complete [] [] vs k e h = refl
    complete [] (X ∷ ss) vs k e h = absurd (not-empty X ss vs e)
    complete (t ∷ ts) [] vs k e h = absurd (nil≢cons e)
    complete (t ∷ ts) (X ∷ ss) vs k e h =
        let (s, us, n, m, g) = taken X t ss vs ts e in
        let a = depth-made X t ss s n us in
        let c = ap (depth (X ∷ ss)) m in
        let w = weights-least (s.push ++ ss) us in
        run_some Value next weight most X t ts ss k s n (omega arith)
        ∙ ap later (complete ts (s.push ++ ss) us (λ z. k (made Value s ss z)) g (omega arith))
        ∙ ap (λ z. accepted (k z)) m
