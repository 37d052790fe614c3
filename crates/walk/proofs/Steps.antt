-- The laws of the walk's loop past live chunks, and of what comes behind them, by the tests that the code makes.
use Prim.Native.Nat.{ℕ, ◌+◌, ◌<◌}
use mathlib.Core.Path.{◌≡◌, refl, sym, ◌∙◌}
use mathlib.Core.Bool.{true, false, cond}
use native.Mathlib.Omega.{arith}
use lib.ListN.{length, get_or}
use lib.Dec.{eqb}
use Rattle.std.specs.Prelude.{Option, Some, None}
use Rattle.layout.specs.Walk.{is_live, walk_from}
use Rattle.walk.specs.Steps.{size_at, met_by}
use Rattle.walk.specs.Past.{met_from, ComesTo, PastLive}
use Rattle.walk.specs.declared.Walk.{Walk}
use Rattle.walk.proofs.Meeting.{at_end, no_size, size_bounds, on_live, on_free, off_link}

-- ---- the loop

-- one live chunk further
pub one_further : {from walk next : Walk} {s : ℕ} → ComesTo from walk → Some s ≡ size_at walk.words.now walk.at
    → is_live (get_or walk.words.now (walk.at + 1) 0) ≡ true
    → next.words ≡ walk.words → next.at ≡ walk.at + s → next.met ≡ walk.met + 1 → ComesTo from next
one_further {from} {walk} {next} {s} come e m w a k =
    record {
      words = w ∙ come.words;
      above = omega (arith, come.above, a);
      same = λ want. come.same want ∙ on_live walk.words.now walk.at s e want walk.met false m ∙ simp (w, a, k);
    }

-- ---- behind the live chunks

module _ {from to : Walk} (past : PastLive from to) (want : ℕ) where
  pub past_end : to.at ≡ length to.words.now → met_from from want false ≡ cond (eqb want 0) (Some to.met) None
  past_end e = past.comes.same want ∙ at_end to.words.now to.at want false to.met e

  pub past_no_size : (to.at ≡ length to.words.now → ⊥) → None ≡ size_at to.words.now to.at → met_from from want false ≡ None
  past_no_size n e = past.comes.same want ∙ no_size to.words.now to.at want false to.met n e

  pub past_free : (s : ℕ) → Some s ≡ size_at to.words.now to.at → want ≡ to.at
      → met_from from want false ≡ met_by (to.met + 1) (walk_from to.words.now (to.at + s) (get_or to.words.now (to.at + 1) 0) true)
  past_free s e l =
      let b = size_bounds to.words.now to.at s e in
      let below : to.at < length to.words.now = omega arith in
      past.comes.same want ∙ on_free to.words.now to.at s e want to.met (past.stops below (λ q. cc (e, q))) l

  -- the last link names another place
  pub past_off_link : (to.at ≡ length to.words.now → ⊥) → (want ≡ to.at → ⊥) → met_from from want false ≡ None
  past_off_link n l = go (size_at to.words.now to.at) refl
    where
      go : (found : Option ℕ) → size_at to.words.now to.at ≡ found → met_from from want false ≡ None
      go None e = past_no_size n (sym e)
      go (Some s) e =
          let below : to.at < length to.words.now = omega (arith, to.within, n) in
          past.comes.same want ∙ off_link to.words.now to.at s (sym e) want to.met (past.stops below (λ q. cc (e, q))) l

-- what `after_live` cites
pub ruleset past_laws = (size_bounds, past_end, past_no_size, past_free, past_off_link)
