-- Merging free neighbours: where it changes nothing, and what it keeps.
use mathlib.Core.Path.{◌≡◌, refl, ap, ◌∙◌}
use mathlib.Core.Bool.{Bool, true, false, true≢false}
use mathlib.Core.List.{List, [], ◌∷◌, ◌++◌}
use Prim.Native.Nat.{ℕ, ◌+◌, ◌%◌, ◌≤◌}
use native.Mathlib.Omega.{arith}
use Rattle.layout.specs.Numbers.{first_chunk, least_size}
use Rattle.layout.specs.Chunks.{Chunk, free, live, size, total}
use Rattle.layout.proofs.Holds.{Sizes, Asks, Spaced, Lawful, sizes_append, sizes_split, asks_append, asks_split, total_append}
use Rattle.rules.specs.Rules.{join, joined}

-- `ks` begin with no free chunk
abbrev pub Clear : List Chunk → Type 0
Clear [] = Unit {0}
Clear (free s ∷ ks) = ⊥
Clear (live s asked ∷ ks) = Unit {0}

-- what may follow a free chunk
pub spaced_clear : (ks : List Chunk) → Spaced true ks → Clear ks
spaced_clear [] h = tt
spaced_clear (free s ∷ ks) h = true≢false h.0
spaced_clear (live s asked ∷ ks) h = tt

pub join_clear : (s : ℕ) (ks : List Chunk) → Clear ks → join (free s) ks ≡ free s ∷ ks
join_clear s [] h = refl
join_clear s (free t ∷ ks) h = absurd h
join_clear s (live t asked ∷ ks) h = refl

-- no two free chunks stand in a row, where `before` says that one ends where `ks` begin
pub joined_spaced : (before : Bool) (ks : List Chunk) → Spaced before ks → joined ks ≡ ks
unfolding joined
joined_spaced before [] h = refl
joined_spaced before (free s ∷ ks) h = ap (join (free s)) (joined_spaced true ks h.1) ∙ join_clear s ks (spaced_clear ks h.1)
joined_spaced before (live s asked ∷ ks) h = ap (◌∷◌ (live s asked)) (joined_spaced false ks h)

pub spaced_after : (before : Bool) (pre : List Chunk) (s asked : ℕ) (post : List Chunk) → Spaced before (pre ++ live s asked ∷ post) → Spaced false post
spaced_after before [] s asked post h = h
spaced_after before (free t ∷ pre) s asked post h = spaced_after true pre s asked post h.1
spaced_after before (live t other ∷ pre) s asked post h = spaced_after false pre s asked post h

-- ---- chunks that end in no free one

-- `ks` end in no free chunk, where `before` says that one ends where they begin
abbrev pub Closed : Bool → List Chunk → Type 0
Closed before [] = before ≡ false
Closed before (free s ∷ ks) = Closed true ks
Closed before (live s asked ∷ ks) = Closed false ks

clear_append : (ks ls : List Chunk) → Spaced true ks → Closed true ks → Clear (ks ++ ls)
clear_append [] ls h q = absurd (true≢false q)
clear_append (free s ∷ ks) ls h q = true≢false h.0
clear_append (live s asked ∷ ks) ls h q = tt

-- whatever follows them, they stay as they are
pub joined_front : (before : Bool) (pre ks : List Chunk) → Spaced before pre → Closed before pre → joined (pre ++ ks) ≡ pre ++ joined ks
unfolding joined
joined_front before [] ks h q = refl
joined_front before (free s ∷ pre) ks h q =
    ap (join (free s)) (joined_front true pre ks h.1 q) ∙ join_clear s (pre ++ joined ks) (clear_append pre (joined ks) h.1 q)
joined_front before (live s asked ∷ pre) ks h q = ap (◌∷◌ (live s asked)) (joined_front false pre ks h q)

-- ---- spaced chunks end in no free one, or in one

pub data Ending (pre : List Chunk) : Type 0 where
  closed : Closed false pre → Ending pre
  in_free : (front : List Chunk) (u : ℕ) → pre ≡ front ++ free u ∷ [] → Closed false front → Spaced false front → Ending pre

pub ending : (pre : List Chunk) → Spaced false pre → Ending pre
ending [] h = closed refl
ending (free u ∷ []) h = in_free [] u refl refl tt
ending (free u ∷ (free v ∷ pre)) h = absurd (true≢false h.1.0)
ending (free u ∷ (live v asked ∷ pre)) h = go (ending pre h.1)
  where
    go : Ending pre → Ending (free u ∷ (live v asked ∷ pre))
    go (closed q) = closed q
    go (in_free front w e q r) = in_free (free u ∷ (live v asked ∷ front)) w (ap (λ (ks : List Chunk). free u ∷ (live v asked ∷ ks)) e) q (refl, r)
ending (live u asked ∷ pre) h = go (ending pre h)
  where
    go : Ending pre → Ending (live u asked ∷ pre)
    go (closed q) = closed q
    go (in_free front w e q r) = in_free (live u asked ∷ front) w (ap (◌∷◌ (live u asked)) e) q r

-- ---- what merging keeps: one chunk is put before others

join_total : (k : Chunk) (ks : List Chunk) → total (join k ks) ≡ size k + total ks
join_total (live s asked) ks = refl
join_total (free s) [] = refl
join_total (free s) (live t asked ∷ ks) = refl
join_total (free s) (free t ∷ ks) = omega arith

join_sizes : (k : Chunk) (ks : List Chunk) → size k % 2 ≡ 0 → least_size ≤ size k → Sizes ks → Sizes (join k ks)
join_sizes (live s asked) ks e l z = (e, l, z)
join_sizes (free s) [] e l z = (e, l, tt)
join_sizes (free s) (live t asked ∷ ks) e l z = (e, l, z)
join_sizes (free s) (free t ∷ ks) e l z = (omega (arith, z.0), omega arith, z.2)

join_spaced : (k : Chunk) (ks : List Chunk) → Spaced false ks → Spaced false (join k ks)
join_spaced (live s asked) ks p = p
join_spaced (free s) [] p = (refl, tt)
join_spaced (free s) (live t asked ∷ ks) p = (refl, p)
join_spaced (free s) (free t ∷ ks) p = (refl, p.1)

-- ---- all neighbours

pub joined_total : (ks : List Chunk) → total (joined ks) ≡ total ks
unfolding joined
joined_total [] = refl
joined_total (k ∷ ks) = omega (arith, join_total k (joined ks), joined_total ks)

pub joined_sizes : (ks : List Chunk) → Sizes ks → Sizes (joined ks)
unfolding joined
joined_sizes [] z = tt
joined_sizes (k ∷ ks) z = join_sizes k (joined ks) z.0 z.1 (joined_sizes ks z.2)

-- what was asked for stays with its chunk
join_asks : (k : Chunk) (ks : List Chunk) → Asks (k ∷ ks) → Asks (join k ks)
join_asks (live s asked) ks z = z
join_asks (free s) [] z = z
join_asks (free s) (live t asked ∷ ks) z = z
join_asks (free s) (free t ∷ ks) z = z

joined_asks : (ks : List Chunk) → Asks ks → Asks (joined ks)
unfolding joined
joined_asks [] z = tt
joined_asks (free s ∷ ks) z = join_asks (free s) (joined ks) (joined_asks ks z)
joined_asks (live s asked ∷ ks) z = join_asks (live s asked) (joined ks) (z.0, joined_asks ks z.1)

-- no two free chunks are left in a row
pub joined_apart : (ks : List Chunk) → Spaced false (joined ks)
unfolding joined
joined_apart [] = tt
joined_apart (k ∷ ks) = join_spaced k (joined ks) (joined_apart ks)

-- chunks in the middle are replaced by others of the same total, and neighbours are merged: the chunks are lawful
pub joined_lawful : (n : ℕ) (pre old new post : List Chunk) → Lawful n (pre ++ (old ++ post)) → Sizes new → Asks new
    → total new ≡ total old → Lawful n (joined (pre ++ (new ++ post)))
joined_lawful n pre old new post l z w t =
    let y = sizes_split pre (old ++ post) l.sizes in
    let v = asks_split pre (old ++ post) l.asks in
    let ks : List Chunk = pre ++ (new ++ post) in
    let before : first_chunk + (total pre + (total old + total post)) ≡ n = simp total_append at l.fills in
    let after : total ks ≡ total pre + (total new + total post) = simp total_append in
    record {
      even = l.even;
      least = l.least;
      most = l.most;
      sizes = joined_sizes ks (sizes_append pre (new ++ post) y.0 (sizes_append new post z (sizes_split old post y.1).1));
      asks = joined_asks ks (asks_append pre (new ++ post) v.0 (asks_append new post w (asks_split old post v.1).1));
      spaced = joined_apart ks;
      fills = omega (arith, joined_total ks);
    }
