-- The number that the check walk answers, and what it says of the arena.
use mathlib.Core.Path.{◌≡◌, refl, sym, ◌∙◌}
use mathlib.Core.Bool.{Bool, true, false, cond}
use mathlib.Core.List.{List}
use Prim.Native.Nat.{ℕ}
use native.Mathlib.Omega.{arith}
use lib.ListN.{length, get_or}
use borrow.Author.Tests.{eq-eqb, ne_eqb}
use Rattle.std.specs.Prelude.{Result, Ok, Err, Some, None}
use Rattle.std.proofs.lemmas.Option.{cond_some}
use Rattle.layout.specs.Numbers.{lawful, first_chunk, list_word}
use Rattle.layout.specs.Walk.{Walked, broken, whole, is_whole, chunks_in, walk_from, walked, sound, chunks_of}
use Rattle.layout.specs.Reasons.{arena_gate}
use Rattle.layout.specs.declared.Reason.{Reason}
use Rattle.layout.specs.declared.Reason.TheVariants.{Length, Damaged}
use Rattle.walk.specs.Steps.{met_by, chunk_count}

-- from the first chunk on, a walk that is whole has met its chunks, and no others
met_chunks : (w : Walked) → met_by 0 w ≡ cond (is_whole w) (Some (length (chunks_in w))) None
met_chunks broken = refl
met_chunks (whole ks) = grind arith

-- where the length is lawful and word 0 has it, the walk counts the chunks, or none where the arena is not sound
module _ (a : List ℕ) (l : lawful (length a) ≡ true) (e : get_or a 0 0 ≡ length a) where
  met_if_sound : met_by 0 (walk_from a first_chunk (get_or a list_word 0) false) ≡ cond (sound a) (Some (length (chunks_of a))) None
  unfolding walked sound chunks_of
  met_if_sound = simp (l, eq-eqb _ _ e) (met_chunks (walked a))

  pub walk_breaks : met_by 0 (walk_from a first_chunk (get_or a list_word 0) false) ≡ None → chunk_count a ≡ Err Damaged
  unfolding chunk_count
  walk_breaks q = go (sound a) refl (sym met_if_sound ∙ q)
    where
      go : (b : Bool) → sound a ≡ b → cond b (Some (length (chunks_of a))) None ≡ None → chunk_count a ≡ Err Damaged
      go true s z = cc z
      go false s z = simp (l, s)

  pub walk_counts : (n : ℕ) → met_by 0 (walk_from a first_chunk (get_or a list_word 0) false) ≡ Some n → chunk_count a ≡ Ok n
  unfolding chunk_count
  walk_counts n q =
      let p = cond_some (sound a) (length (chunks_of a)) n (sym met_if_sound ∙ q) in simp (l, p.0, p.1)

pub other_length : (a : List ℕ) → lawful (length a) ≡ true → (get_or a 0 0 ≡ length a → ⊥) → chunk_count a ≡ Err Damaged
unfolding sound chunk_count
other_length a l n = simp (l, ne_eqb _ _ n)

pub not_lawful : (a : List ℕ) → lawful (length a) ≡ false → chunk_count a ≡ Err Length
unfolding chunk_count
not_lawful a l = simp l

-- what `count_chunks` cites
pub ruleset count_laws = (walk_breaks, walk_counts, other_length, not_lawful)

-- ---- what the answer says of the arena

-- what stands behind the two tests of an arena, or the reason of the one that fails
abbrev gated : {A : Type 0} → Bool → Bool → A → Result A Reason
gated l s x = cond l (cond s (Ok x) (Err Damaged)) (Err Length)

opened : (l s : Bool) (n m : ℕ) → Ok n ≡ gated l s m → (Ok (tt {0}) ≡ gated l s tt) × (n ≡ m)
opened true true n m e = (refl, cc)
opened true false n m e = (cc, cc)
opened false s n m e = (cc, cc)

shut : (l s : Bool) (why : Reason) (m : ℕ) → Err why ≡ gated l s m → Err why ≡ gated l s (tt {0})
shut true true why m e = cc
shut true false why m e = cc
shut false s why m e = cc

pub chunks_open : (a : List ℕ) (n : ℕ) → Ok n ≡ chunk_count a → (Ok tt ≡ arena_gate a) × (n ≡ length (chunks_of a))
unfolding chunk_count arena_gate
chunks_open a n e = opened (lawful (length a)) (sound a) n (length (chunks_of a)) e

pub no_chunks_shut : (a : List ℕ) (why : Reason) → Err why ≡ chunk_count a → Err why ≡ arena_gate a
unfolding chunk_count arena_gate
no_chunks_shut a why e = shut (lawful (length a)) (sound a) why (length (chunks_of a)) e
