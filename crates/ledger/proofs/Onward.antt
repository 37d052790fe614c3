-- How a block goes on in the ledger after an event, whatever the library: it ends, its entry stays, or it has the entry
-- that is answered.
use mathlib.Core.Path.{◌≡◌, refl, sym, ap, ◌∙◌}
use mathlib.Core.Logic.{inl, inr}
use mathlib.Core.Bool.{Bool, true, false, cond}
use Prim.Native.Nat.{ℕ, ◌+◌, ◌<◌}
use native.Mathlib.Omega.{arith}
use lib.Dec.{leb, eqb}
use borrow.Author.Tests.{eqb-true, eqb-false, leb-true, leb-false}
use Rattle.rules.specs.Answers.{Answer}
use Rattle.rules.specs.Libraries.{Library}
use Rattle.ledger.specs.Events.{Event}
use Rattle.ledger.specs.Ledger.{Entry, Ledger, enter, strike, Effect, renews, grants, frees, regrants, spares, effect, told, entry_for, noted, Done}
use Rattle.ledger.specs.Ledger.{Listed, Held}
use Rattle.ledger.specs.Runs.{State, answer_to, after}
use Rattle.ledger.specs.Holders.{renamed, number_after, Ended, Anew, Cut}
use Rattle.ledger.proofs.Entries.{enter_listed, listed_enter, listed_strike}

module _ (library : Library) (event : Event) (s : State) where
  -- the block of entry `e` in the ledger `then`, where its number is now `b`
  pub data Onward (e : Entry) (then : Ledger) (b : ℕ) : Type 0 where
    ends : Ended library event s e.block → Onward e then b
    stays : Listed then e → e.block ≡ b → Onward e then b
    changes : (w : ℕ) → Anew library event s e.block w → Listed then (entry_for w (answer_to library event s))
        → (told (answer_to library event s)).block ≡ b → Onward e then b

  module _ (e : Entry) (l : Listed s.ledger e) where
    answer : Answer
    answer = answer_to library event s

    -- an event that was done
    done_onward : Done answer → (what : Effect) → effect event ≡ what → Onward e (noted what answer s.ledger) (renamed what answer e.block)
    unfolding answer
    done_onward z (renews blocks) p = ends (z, inr (blocks, p))
    done_onward z (grants w) p = stays (listed_enter (entry_for w answer) s.ledger e l) refl
    done_onward z (frees c) p = go (eqb e.block c) refl
      where
        go : (own : Bool) → eqb e.block c ≡ own → Onward e (strike c s.ledger) e.block
        go true q = ends (z, inl (p ∙ ap frees (sym (eqb-true e.block c q))))
        go false q = stays (listed_strike c s.ledger e (eqb-false e.block c q) l) refl
    done_onward z (regrants c w) p = go (eqb e.block c) refl
      where
        go : (own : Bool) → eqb e.block c ≡ own → Onward e (enter (entry_for w answer) (strike c s.ledger)) (cond own (told answer).block e.block)
        go true q =
            changes w (z, p ∙ ap (λ (d : ℕ). regrants d w) (sym (eqb-true e.block c q))) (enter_listed (entry_for w answer) (strike c s.ledger)) refl
        go false q = stays (listed_enter (entry_for w answer) (strike c s.ledger) e (listed_strike c s.ledger e (eqb-false e.block c q) l)) refl
    done_onward z spares p = stays l refl

    pub onward : Onward e (after library event s).ledger (number_after library event s e.block)
    unfolding answer
    onward = go (eqb answer.code 0) refl
      where
        go : (done : Bool) → eqb answer.code 0 ≡ done
            → Onward e (cond done (noted (effect event) answer s.ledger) s.ledger)
            (cond done (renamed (effect event) answer e.block) e.block)
        go true q = done_onward (eqb-true answer.code 0 q) (effect event) refl
        go false q = stays l refl

  -- a place is still held if its block does not end and it is not cut off
  pub still_held : (b i : ℕ) → Held s.ledger b i → (Ended library event s b → ⊥) → (Cut library event s b i → ⊥)
      → Held (after library event s).ledger (number_after library event s b) i
  still_held b i (e, l, q, h) unended uncut = rw (← q) (go (onward e l))
    where
      within : (w : ℕ) → Anew library event s e.block w → i < (told (answer_to library event s)).granted
      within w anew = cases (leb (i + 1) (told (answer_to library event s)).granted) refl
        where
          cases : (reached : Bool) → leb (i + 1) (told (answer_to library event s)).granted ≡ reached → i < (told (answer_to library event s)).granted
          cases true r = omega (arith, leb-true (i + 1) (told (answer_to library event s)).granted r)
          cases false r = absurd (uncut (w, rw q at anew, omega (arith, leb-false (i + 1) (told (answer_to library event s)).granted r)))

      go : Onward e (after library event s).ledger (number_after library event s e.block)
          → Held (after library event s).ledger (number_after library event s e.block) i
      go (ends end) = absurd (unended (rw q at end))
      go (stays m r) = (e, m, r, h)
      go (changes w anew m r) = (entry_for w (answer_to library event s), m, r, within w anew)
