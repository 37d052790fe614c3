-- The word that names the first free chunk after some chunks, and what a store to it changes.
use mathlib.Core.Path.{◌≡◌, ◌∙◌}
use mathlib.Core.Logic.{◌≢◌}
use mathlib.Core.List.{List, [], ◌∷◌}
use Prim.Native.Nat.{ℕ, ◌+◌, ◌≤◌, ◌<◌}
use native.Mathlib.Omega.{arith}
use lib.ListN.{length, get_or, set}
use lib.Seq.{get_or-set_same, get_or-set_other}
use Rattle.layout.specs.Chunks.{Chunk, free, live, total, first_free}
use Rattle.layout.specs.Links.{link_at}
use Rattle.layout.proofs.Holds.{Sizes, Holds}

-- the headers of `ks`, which begin at word `c`, stand in `a`, and word `base` names the first free one of them, `after`
-- if none is free
abbrev pub Linked : List ℕ → ℕ → ℕ → List Chunk → ℕ → Type 0
Linked a base c ks after = (get_or a base 0 ≡ first_free c ks after) × Holds a c ks after

-- of the words before `ks`, the link word can only be `base`
pub link_at_ne : (base c : ℕ) (ks : List Chunk) (i : ℕ) → i ≢ base → i < c → i ≢ link_at base c ks
link_at_ne base c [] i n h = n
link_at_ne base c (free s ∷ ks) i n h = link_at_ne (c + 1) (c + s) ks i (omega arith) (omega arith)
link_at_ne base c (live s asked ∷ ks) i n h = link_at_ne base (c + s) ks i n (omega arith)

pub link_at_below : (base c : ℕ) (ks : List Chunk) → Sizes ks → base < c → link_at base c ks < c + total ks
link_at_below base c [] z h = omega arith
link_at_below base c (free s ∷ ks) z h = omega (arith, link_at_below (c + 1) (c + s) ks z.2 (omega arith))
link_at_below base c (live s asked ∷ ks) z h = omega (arith, link_at_below base (c + s) ks z.2 (omega arith))

-- a store of `next` to the link word has `ks` name `next`, and changes nothing else
pub relink : (a : List ℕ) (base c : ℕ) (ks : List Chunk) (after next : ℕ) → Sizes ks → base < c → c + total ks ≤ length a
    → Linked a base c ks after → Linked (set a (link_at base c ks) next) base c ks next
relink a base c [] after next z b f h = (get_or-set_same a base next 0 (omega arith), tt)
relink a base c (free s ∷ ks) after next z b f h =
    let r = relink a (c + 1) (c + s) ks after next z.2 (omega arith) (omega arith) (h.1.1, h.1.2) in (
      get_or-set_other a _ base next 0 (link_at_ne (c + 1) (c + s) ks base (omega arith) (omega arith)) ∙ h.0,
      (
        get_or-set_other a _ c next 0 (link_at_ne (c + 1) (c + s) ks c (omega arith) (omega arith)) ∙ h.1.0,
        r.0,
        r.1,
      ),
    )
relink a base c (live s asked ∷ ks) after next z b f h =
    let r = relink a base (c + s) ks after next z.2 (omega arith) (omega arith) (h.0, h.1.2) in (
      r.0,
      (
        get_or-set_other a _ c next 0 (link_at_ne base (c + s) ks c (omega arith) (omega arith)) ∙ h.1.0,
        get_or-set_other a _ (c + 1) next 0 (link_at_ne base (c + s) ks (c + 1) (omega arith) (omega arith)) ∙ h.1.1,
        r.1,
      ),
    )
