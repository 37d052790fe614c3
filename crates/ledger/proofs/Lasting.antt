-- What holders stored last is there, over every run.
use mathlib.Core.Path.{◌≡◌, refl, sym, ap, ◌∙◌}
use mathlib.Core.Logic.{◌≢◌, ⊎_elim}
use mathlib.Core.Bool.{Bool, true, false, cond, ◌&&◌}
use Prim.Native.Nat.{ℕ, ◌+◌}
use lib.Dec.{eqb}
use lib.ListN.{get_or}
use borrow.Author.Tests.{eqb-true}
use Rattle.layout.proofs.Bools.{both}
use Rattle.rules.specs.Fits.{Policies}
use Rattle.rules.specs.Picks.{AllFitting}
use Rattle.rules.specs.Libraries.{Library, library_by}
use Rattle.ledger.specs.Events.{Event, call, store}
use Rattle.ledger.specs.Ledger.{Held}
use Rattle.ledger.specs.Runs.{State, after, Run, next}
use Rattle.ledger.specs.Holders.{word_after, number_after, StoredLast, just, pictured, still}
use Rattle.ledger.proofs.Stores.{store_there}
use Rattle.ledger.proofs.PicturesRead.{read_shows}
use Rattle.ledger.proofs.Onward.{still_held}
use Rattle.ledger.proofs.Runs.{event_keeps, run_agrees}

-- the run up to that state
stored_run : {library : Library} {n : ℕ} {s : State} {b i v : ℕ} → StoredLast library n s b i v → Run library n s
stored_run (just run b i v allowed) = next run (store b i v) allowed
stored_run (pictured s text run z b i held) = run
stored_run (still t event allowed unended uncut other) = next (stored_run t) event allowed

-- an event that does not store to a place leaves its word
other_word : (event : Event) (b i old : ℕ) → ((w : ℕ) → event ≢ store b i w) → word_after event b i old ≡ old
other_word (call c) b i old other = refl
other_word (store c j w) b i old other = go (eqb b c && eqb i j) refl
  where
    go : (there : Bool) → (eqb b c && eqb i j) ≡ there → cond there w old ≡ old
    go true p = let r = both (eqb b c) (eqb i j) p in absurd (other w (rw (eqb-true b c r.0, eqb-true i j r.1)))
    go false p = refl

module _ (policies : Policies) (fitting : AllFitting policies) where
  pub stored_lasts : {n : ℕ} {s : State} {b i v : ℕ} → StoredLast (library_by policies) n s b i v
      → Held s.ledger b i × (get_or s.words (b + i) 0 ≡ v)
  stored_lasts {n} (just {s} run b i v allowed) =
      (allowed.0, store_there n s.words s.ledger (run_agrees policies fitting run) b i v allowed.0)
  stored_lasts (pictured s text run z b i held) = (held, read_shows text s.words z (b + i))
  stored_lasts {n} (still {s} {b} {i} {v} t event allowed unended uncut other) =
      let (held, word) = stored_lasts t in
      let (e, l, q, h) = held in
      let kept = ⊎_elim (λ ended. absurd (unended (rw q at ended))) (λ k. k)
      (event_keeps policies fitting n s (run_agrees policies fitting (stored_run t)) event allowed e l) in
      let then = still_held (library_by policies) event s b i held unended uncut in
      let (f, m, r, k) = then in (
        then,
        ap (λ (c : ℕ). get_or (after (library_by policies) event s).words (c + i) 0) (sym r)
            ∙ kept f m (r ∙ ap (number_after (library_by policies) event s) (sym q)) i h k
            ∙ other_word event e.block i _ (rw q other)
            ∙ ap (λ (c : ℕ). get_or s.words (c + i) 0) q ∙ word,
      )
