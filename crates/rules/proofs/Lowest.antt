-- The lowest chunk that passes a test: what it is, and where it stands.
use mathlib.Core.Path.{◌≡◌, refl, sym, ap, ◌∙◌}
use mathlib.Core.Bool.{Bool, true, false, true≢false, cond}
use mathlib.Core.List.{List, [], ◌∷◌, ◌++◌}
use Prim.Native.Nat.{ℕ, ◌+◌, ◌≤◌}
use native.Mathlib.Omega.{arith}
use Rattle.layout.specs.Numbers.{first_chunk}
use Rattle.layout.specs.Chunks.{Chunk, size, total}
use Rattle.rules.specs.Spots.{Spot, nowhere, at, behind, lowest}

module _ (test : ℕ → Chunk → Bool) where
  -- none of `ks`, which begin at `c`, passes the test
  abbrev pub Missed : ℕ → List Chunk → Type 0
  Missed c [] = Unit {0}
  Missed c (k ∷ ks) = (test c k ≡ false) × Missed (c + size k) ks

  pub lowest_at : (c : ℕ) (pre : List Chunk) (k : Chunk) (post : List Chunk) (d : ℕ) → d ≡ c + total pre → Missed c pre → test d k ≡ true
      → lowest test c (pre ++ k ∷ post) ≡ at pre k post
  unfolding lowest
  lowest_at c [] k post d e m t =
      let q : c ≡ d = omega arith in
      rw (q, t)
  lowest_at c (l ∷ pre) k post d e m t = rw (m.0, lowest_at (c + size l) pre k post d (omega arith) m.1 t)

  -- what the lowest one is
  Told : ℕ → List Chunk → Spot → Type 0
  Told c ks nowhere = Missed c ks
  Told c ks (at pre k post) = (ks ≡ pre ++ k ∷ post) × Missed c pre × (test (c + total pre) k ≡ true)

  told_behind : (c : ℕ) (k : Chunk) (ks : List Chunk) (s : Spot) → test c k ≡ false → Told (c + size k) ks s → Told c (k ∷ ks) (behind k s)
  unfolding Told
  told_behind c k ks nowhere f t = (f, t)
  told_behind c k ks (at pre l post) f t =
      let q : c + (size k + total pre) ≡ c + size k + total pre = omega arith in
      (ap (◌∷◌ k) t.0, (f, t.1), rw q t.2)

  told : (c : ℕ) (ks : List Chunk) → Told c ks (lowest test c ks)
  unfolding lowest Told
  told c [] = tt
  told c (k ∷ ks) = go (test c k) refl (told (c + size k) ks)
    where
      go : (b : Bool) → test c k ≡ b → Told (c + size k) ks (lowest test (c + size k) ks)
          → Told c (k ∷ ks) (cond b (at [] k ks) (behind k (lowest test (c + size k) ks)))
      go true e t =
          let q : c + 0 ≡ c = omega arith in
          (refl, tt, rw q e)
      go false e t = told_behind c k ks (lowest test (c + size k) ks) e t

  -- where none passes, it is nowhere
  pub missed_nowhere : (c : ℕ) (ks : List Chunk) → Missed c ks → lowest test c ks ≡ nowhere
  unfolding lowest
  missed_nowhere c [] m = refl
  missed_nowhere c (k ∷ ks) m = rw (m.0, missed_nowhere (c + size k) ks m.1)

  pub lowest_miss : (c : ℕ) (ks : List Chunk) → lowest test c ks ≡ nowhere → Missed c ks
  unfolding Told
  lowest_miss c ks e = rw e at (told c ks)

  pub lowest_hit : (c : ℕ) (ks pre : List Chunk) (k : Chunk) (post : List Chunk) → lowest test c ks ≡ at pre k post
      → (ks ≡ pre ++ k ∷ post) × Missed c pre × (test (c + total pre) k ≡ true)
  unfolding Told
  lowest_hit c ks pre k post e = rw e at (told c ks)

  -- where it is nowhere, none passes
  missed_at : (c : ℕ) (pre : List Chunk) (k : Chunk) (post : List Chunk) (d : ℕ) → d ≡ c + total pre → Missed c (pre ++ k ∷ post)
      → test d k ≡ false
  missed_at c [] k post d e m = ap (λ (i : ℕ). test i k) (omega arith) ∙ m.0
  missed_at c (l ∷ pre) k post d e m = missed_at (c + size l) pre k post d (omega arith) m.1

  pub none_passes : (ks pre : List Chunk) (k : Chunk) (post : List Chunk) → lowest test first_chunk ks ≡ nowhere → ks ≡ pre ++ k ∷ post
      → test (first_chunk + total pre) k ≡ false
  none_passes ks pre k post e same =
      missed_at first_chunk pre k post (first_chunk + total pre) refl (rw same at (lowest_miss first_chunk ks e))

  -- one that passes does not lie lower
  not_lower : (c : ℕ) (pre : List Chunk) (k : Chunk) (post pre' : List Chunk) (l : Chunk) (post' : List Chunk) (d : ℕ) → Missed c pre
      → pre ++ k ∷ post ≡ pre' ++ l ∷ post'
      → d ≡ c + total pre' → test d l ≡ true → total pre ≤ total pre'
  not_lower c [] k post pre' l post' d m same e t = omega arith
  not_lower c (h ∷ pre) k post [] l post' d m same e t =
      let is : h ≡ l = cc in
      let at_c : d ≡ c = omega arith in
      absurd (true≢false (sym t ∙ (rw (at_c, ← is) m.0)))
  not_lower c (h ∷ pre) k post (h' ∷ pre') l post' d m same e t =
      let is : h ≡ h' = cc in
      let sized : size h ≡ size h' = ap size is in
      let rest : pre ++ k ∷ post ≡ pre' ++ l ∷ post' = cc in
      let from : d ≡ c + size h + total pre' = omega arith in
      omega (arith, not_lower (c + size h) pre k post pre' l post' d m.1 rest from t)

  pub lowest_least : (ks pre : List Chunk) (k : Chunk) (post pre' : List Chunk) (l : Chunk) (post' : List Chunk)
      → lowest test first_chunk ks ≡ at pre k post → ks ≡ pre' ++ l ∷ post'
      → test (first_chunk + total pre') l ≡ true → total pre ≤ total pre'
  lowest_least ks pre k post pre' l post' e same t =
      let h = lowest_hit first_chunk ks pre k post e in
      not_lower first_chunk pre k post pre' l post' _ h.1 (sym h.0 ∙ same) refl t
