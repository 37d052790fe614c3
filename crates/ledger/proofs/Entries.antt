-- The entries of a ledger: where they lie, and which ones it has, and where, once one is put in or struck out.
use mathlib.Core.Path.{◌≡◌, refl, sym, ap, ◌∙◌}
use mathlib.Core.Logic.{◌≢◌, ◌⊎◌, inl, inr, ⊎_elim}
use mathlib.Core.Bool.{Bool, true, false, cond}
use mathlib.Core.List.{[], ◌∷◌, ◌++◌}
use Prim.Native.Nat.{ℕ, ◌+◌, ◌≤◌}
use native.Mathlib.Omega.{arith}
use lib.Dec.{leb, eqb}
use borrow.Author.Tests.{eqb-true, eqb-false, leb-true, le-leb, lt-leb, eq-eqb, ne_eqb}
use Rattle.layout.specs.Numbers.{header_words}
use Rattle.ledger.specs.Ledger.{Entry, Ledger, enter, strike, Listed, Unlisted, ends}

-- ---- an entry between others

pub listed_at : (below : Ledger) (e : Entry) (above : Ledger) → Listed (below ++ e ∷ above) e
listed_at [] e above = inl refl
listed_at (f ∷ below) e above = inr (listed_at below e above)

pub listed_split : (es : Ledger) (e : Entry) → Listed es e → (below : Ledger) × (above : Ledger) × (es ≡ below ++ e ∷ above)
listed_split [] e l = absurd l
listed_split (f ∷ fs) e (inl q) = ([], fs, ap (λ (g : Entry). g ∷ fs) q)
listed_split (f ∷ fs) e (inr l) = let (below, above, q) = listed_split fs e l in (f ∷ below, above, ap (◌∷◌ f) q)

-- ---- which entries there are

module _ (e : Entry) where
  pub enter_listed : (es : Ledger) → Listed (enter e es) e
  unfolding enter
  enter_listed [] = inl refl
  enter_listed (f ∷ fs) = go (leb e.block f.block) (enter_listed fs)
    where
      go : (first : Bool) → Listed (enter e fs) e → Listed (cond first (e ∷ f ∷ fs) (f ∷ enter e fs)) e
      go true l = inl refl
      go false l = inr l

  -- the entries that were there stay
  pub listed_enter : (es : Ledger) (g : Entry) → Listed es g → Listed (enter e es) g
  unfolding enter
  listed_enter [] g l = absurd l
  listed_enter (f ∷ fs) g l = go (leb e.block f.block) l (listed_enter fs g)
    where
      go : (first : Bool) → Listed (f ∷ fs) g → (Listed fs g → Listed (enter e fs) g) → Listed (cond first (e ∷ f ∷ fs) (f ∷ enter e fs)) g
      go true l r = inr l
      go false (inl q) r = inl q
      go false (inr l) r = inr (r l)

  -- and there are no others
  pub listed_entered : (es : Ledger) (g : Entry) → Listed (enter e es) g → (e ≡ g) ⊎ Listed es g
  unfolding enter
  listed_entered [] g (inl q) = inl q
  listed_entered [] g (inr l) = absurd l
  listed_entered (f ∷ fs) g l = go (leb e.block f.block) l (listed_entered fs g)
    where
      go : (first : Bool) → Listed (cond first (e ∷ f ∷ fs) (f ∷ enter e fs)) g → (Listed (enter e fs) g → (e ≡ g) ⊎ Listed fs g)
          → (e ≡ g) ⊎ Listed (f ∷ fs) g
      go true (inl q) r = inl q
      go true (inr l) r = inr l
      go false (inl q) r = inr (inl q)
      go false (inr l) r = ⊎_elim inl (λ m. inr (inr m)) (r l)

module _ (b : ℕ) where
  pub listed_strike : (es : Ledger) (g : Entry) → g.block ≢ b → Listed es g → Listed (strike b es) g
  unfolding strike
  listed_strike [] g n l = absurd l
  listed_strike (f ∷ fs) g n l = go (eqb f.block b) refl l (listed_strike fs g n)
    where
      go : (gone : Bool) → eqb f.block b ≡ gone → Listed (f ∷ fs) g → (Listed fs g → Listed (strike b fs) g)
          → Listed (cond gone (strike b fs) (f ∷ strike b fs)) g
      go true p (inl q) r = absurd (n (ap (λ (h : Entry). h.block) (sym q) ∙ eqb-true f.block b p))
      go true p (inr l) r = r l
      go false p (inl q) r = inl q
      go false p (inr l) r = inr (r l)

  pub listed_struck : (es : Ledger) (g : Entry) → Listed (strike b es) g → (g.block ≢ b) × Listed es g
  unfolding strike
  listed_struck [] g l = absurd l
  listed_struck (f ∷ fs) g l = go (eqb f.block b) refl l (listed_struck fs g)
    where
      go : (gone : Bool) → eqb f.block b ≡ gone → Listed (cond gone (strike b fs) (f ∷ strike b fs)) g
          → (Listed (strike b fs) g → (g.block ≢ b) × Listed fs g) → (g.block ≢ b) × Listed (f ∷ fs) g
      go true p l r = let t = r l in (t.0, inr t.1)
      go false p (inl q) r = (λ h. eqb-false f.block b p (ap (λ (h : Entry). h.block) q ∙ h), inl q)
      go false p (inr l) r = let t = r l in (t.0, inr t.1)

-- ---- entries that lie one after another

-- the entries lie one after another between the words `c` and `d`, each behind its header
abbrev pub Laid : ℕ → ℕ → Ledger → Type 0
Laid c d [] = c ≤ d
Laid c d (e ∷ es) = (c + header_words ≤ e.block) × Laid (ends e) d es

pub laid_weaken : (b c d : ℕ) (es : Ledger) → b ≤ c → Laid c d es → Laid b d es
laid_weaken b c d [] l h = omega arith
laid_weaken b c d (e ∷ es) l h = (omega (arith, h.0), h.1)

laid_within : (c d : ℕ) (es : Ledger) → Laid c d es → c ≤ d
laid_within c d [] h = h
laid_within c d (e ∷ es) h = omega (arith, h.0, laid_within (ends e) d es h.1)

-- each of them lies between the two words
pub laid_listed : (c d : ℕ) (es : Ledger) (g : Entry) → Laid c d es → Listed es g → (c + header_words ≤ g.block) × (ends g ≤ d)
laid_listed c d [] g h l = absurd l
laid_listed c d (e ∷ es) g h (inl q) =
    rw (← q) (h.0, laid_within (ends e) d es h.1)
laid_listed c d (e ∷ es) g h (inr l) =
    let t = laid_listed (ends e) d es g h.1 l in
    (omega (arith, h.0, t.0), t.1)

-- two of them are the same, or the one ends before the other's header
pub laid_order : (c d : ℕ) (es : Ledger) (f g : Entry) → Laid c d es → Listed es f → Listed es g
    → (f ≡ g) ⊎ ((ends f + header_words ≤ g.block) ⊎ (ends g + header_words ≤ f.block))
laid_order c d [] f g h l m = absurd l
laid_order c d (e ∷ es) f g h (inl p) (inl q) = inl (sym p ∙ q)
laid_order c d (e ∷ es) f g h (inl p) (inr m) = inr (inl (rw (← p) (laid_listed (ends e) d es g h.1 m).0))
laid_order c d (e ∷ es) f g h (inr l) (inl q) = inr (inr (rw (← q) (laid_listed (ends e) d es f h.1 l).0))
laid_order c d (e ∷ es) f g h (inr l) (inr m) = laid_order (ends e) d es f g h.1 l m

-- two of one number are the same
pub laid_same : (c d : ℕ) (es : Ledger) (f g : Entry) → Laid c d es → Listed es f → Listed es g → f.block ≡ g.block → f ≡ g
laid_same c d es f g h l m q = go (laid_order c d es f g h l m)
  where
    go : (f ≡ g) ⊎ ((ends f + header_words ≤ g.block) ⊎ (ends g + header_words ≤ f.block)) → f ≡ g
    go (inl p) = p
    go (inr (inl p)) = absurd (omega arith)
    go (inr (inr p)) = absurd (omega arith)

-- the entries above another lie above its end
pub laid_above : (c d : ℕ) (below : Ledger) (e : Entry) (above : Ledger) → Laid c d (below ++ e ∷ above) → Laid (ends e) d above
laid_above c d [] e above h = h.1
laid_above c d (f ∷ below) e above h = laid_above (ends f) d below e above h.1

-- an entry that is put in and lies apart from the others has a number of its own
pub laid_fresh : (c d : ℕ) (f : Entry) (es : Ledger) → Laid c d (enter f es) → Unlisted es f.block
unfolding enter
laid_fresh c d f [] h g l q = l
laid_fresh c d f (e ∷ es) h g l q = go (leb f.block e.block) h (λ k m. laid_fresh (ends e) d f es k g m q) l
  where
    go : (first : Bool) → Laid c d (cond first (f ∷ e ∷ es) (e ∷ enter f es)) → (Laid (ends e) d (enter f es) → Listed es g → ⊥) → Listed (e ∷ es) g
        → ⊥
    go true k later m = omega (arith, (laid_listed (ends f) d (e ∷ es) g k.1 m).0)
    go false k later (inl p) = omega (arith, ap (λ (a : Entry). a.block) p, (laid_listed (ends e) d (enter f es) f k.1 (enter_listed f es)).0)
    go false k later (inr m) = later k.1 m

-- ---- an entry in its place

strike_append : (b : ℕ) (es fs : Ledger) → strike b (es ++ fs) ≡ strike b es ++ strike b fs
unfolding strike
strike_append b [] fs = refl
strike_append b (e ∷ es) fs = go (eqb e.block b) (strike_append b es fs)
  where
    go : (gone : Bool) → strike b (es ++ fs) ≡ strike b es ++ strike b fs
        → cond gone (strike b (es ++ fs)) (e ∷ strike b (es ++ fs)) ≡ cond gone (strike b es) (e ∷ strike b es) ++ strike b fs
    go true q = q
    go false q = ap (◌∷◌ e) q

strike_none : (b : ℕ) (es : Ledger) → Unlisted es b → strike b es ≡ es
unfolding strike
strike_none b [] n = refl
strike_none b (e ∷ es) n = rw (ne_eqb e.block b (n e (inl refl)), strike_none b es (λ g l. n g (inr l)))

-- before all the others
enter_first : (e : Entry) (es : Ledger) → ((g : Entry) → Listed es g → e.block ≤ g.block) → enter e es ≡ e ∷ es
unfolding enter
enter_first e [] f = refl
enter_first e (g ∷ gs) f = rw (le-leb e.block g.block (f g (inl refl)))

-- the entries `below` lie under word `m`, the entries `above` from word `k` on
module _ (c m : ℕ) (below : Ledger) (under : Laid c m below) (k d : ℕ) (above : Ledger) (over : Laid k d above) where
  pub strike_at : (e : Entry) → m + header_words ≤ e.block → e.block ≤ k → strike e.block (below ++ e ∷ above) ≡ below ++ above
  unfolding strike
  strike_at e lo hi =
      let u : Unlisted below e.block = λ g l q. omega (arith, laid_listed c m below g under l) in
      let o : Unlisted above e.block = λ g l q. omega (arith, laid_listed k d above g over l) in
      rw (
        strike_append e.block below (e ∷ above),
        strike_none e.block below u,
        eq-eqb e.block e.block refl,
        strike_none
            e.block above o,
      )

pub enter_at : (c m : ℕ) (below : Ledger) → Laid c m below → (k d : ℕ) (above : Ledger) → Laid k d above → (e : Entry) → m + header_words ≤ e.block
    → e.block ≤ k
    → enter e (below ++ above) ≡ below ++ e ∷ above
unfolding enter
enter_at c m [] under k d above over e lo hi = enter_first e above (λ g l. omega (arith, laid_listed k d above g over l))
enter_at c m (f ∷ fs) under k d above over e lo hi =
    rw (lt-leb e.block f.block (omega (arith, laid_within (ends f) m fs under.1)))
    (ap (◌∷◌ f) (enter_at (ends f) m fs under.1 k d above over e lo hi))

-- an entry is put in, another is struck out: which is done first makes no difference
pub strike_enter : (b : ℕ) (e : Entry) → e.block ≢ b → (c d : ℕ) (es : Ledger) → Laid c d es → strike b (enter e es) ≡ enter e (strike b es)
unfolding strike enter
strike_enter b e n c d [] h = rw (ne_eqb e.block b n)
strike_enter b e n c d (f ∷ fs) h = go (leb e.block f.block) refl (strike_enter b e n (ends f) d fs h.1)
  where
    go : (first : Bool) → leb e.block f.block ≡ first → strike b (enter e fs) ≡ enter e (strike b fs)
        → strike b (cond first (e ∷ f ∷ fs) (f ∷ enter e fs)) ≡ enter e (strike b (f ∷ fs))
    go true p q =
        rw (ne_eqb e.block b n) (sym (enter_first e (strike b (f ∷ fs)) (λ g l. above g (listed_struck b (f ∷ fs) g l).1)))
      where
        above : (g : Entry) → Listed (f ∷ fs) g → e.block ≤ g.block
        above g (inl r) = rw (← r) (leb-true _ _ p)
        above g (inr l) = omega (arith, leb-true e.block f.block p, laid_listed (ends f) d fs g h.1 l)
    go false p q = struck (eqb f.block b) refl
      where
        struck : (gone : Bool) → eqb f.block b ≡ gone
            → cond gone (strike b (enter e fs)) (f ∷ strike b (enter e fs)) ≡ enter e (cond gone (strike b fs) (f ∷ strike b fs))
        struck true r = q
        struck false r = rw p (ap (◌∷◌ f) q)
