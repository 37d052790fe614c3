-- Over every run of our calls, under any policies that are fitting, the ledger agrees with the arena, and the blocks
-- that go on keep their words.
use mathlib.Core.Path.{◌≡◌, sym, ap, ◌∙◌}
use mathlib.Core.Logic.{◌⊎◌, inl, inr, ⊎_elim}
use mathlib.Core.Bool.{true}
use Prim.Native.Nat.{ℕ, ◌+◌, ◌<◌}
use native.Mathlib.Omega.{arith}
use lib.ListN.{length, get_or}
use Rattle.layout.specs.Numbers.{first_chunk, lawful}
use Rattle.rules.specs.Fits.{Policies}
use Rattle.rules.specs.Picks.{AllFitting}
use Rattle.rules.specs.Libraries.{library_by}
use Rattle.rules.proofs.Starting.{start_sound, start_chunks}
use Rattle.rules.proofs.Calls.{start_behaves}
use Rattle.ledger.specs.Events.{Event, call, store}
use Rattle.ledger.specs.Ledger.{Entry, blocks_from, Listed}
use Rattle.ledger.specs.Runs.{State, Allowed, after, Run, begun, arrived, next}
use Rattle.ledger.specs.Holders.{word_after, number_after, Ended}
use Rattle.ledger.specs.Demands.{GoesOn}
use Rattle.ledger.proofs.Agreeing.{Agrees}
use Rattle.ledger.proofs.PicturesRead.{read_agrees}
use Rattle.ledger.proofs.CallsNoted.{CallNoted, kept, renewed, call_noted, call_agrees}
use Rattle.ledger.proofs.Onward.{Onward, ends, stays, changes, onward}
use Rattle.ledger.proofs.Stores.{store_agrees, store_keeps}

-- a state whose ledger agrees with its words
abbrev AgreesAt : ℕ → State → Type 0
AgreesAt n s = Agrees n s.words s.ledger

module _ (policies : Policies) (fitting : AllFitting policies) where
  -- ---- one event

  event_agrees : (n : ℕ) (s : State) → AgreesAt n s → (event : Event) → Allowed event s.ledger → AgreesAt n (after (library_by policies) event s)
  event_agrees n s g (call c) allowed = call_agrees n s.words s.ledger g policies fitting c
  event_agrees n s g (store b i v) allowed = store_agrees n s.words s.ledger g b i v allowed.0

  -- the words of the block of entry `e` are kept, in the entry that has its number then
  abbrev WordsKept : State → Event → Entry → Type 0
  WordsKept s event e =
      (f : Entry) → Listed (after (library_by policies) event s).ledger f → f.block ≡ number_after (library_by policies) event s e.block
      → (i : ℕ) → i < e.granted → i < f.granted
      → get_or (after (library_by policies) event s).words (f.block + i) 0 ≡ word_after event e.block i (get_or s.words (e.block + i) 0)

  -- they are, or the event ends the block: a picture may have a block of its number, with other words
  pub event_keeps : (n : ℕ) (s : State) → AgreesAt n s → (event : Event) → Allowed event s.ledger → (e : Entry) → Listed s.ledger e
      → Ended (library_by policies) event s e.block ⊎ WordsKept s event e
  event_keeps n s g (call c) allowed e l = go (call_noted n s.words s.ledger g policies fitting c)
    where
      go : CallNoted n s.words s.ledger c (library_by policies c s.words)
          → Ended (library_by policies) (call c) s e.block ⊎ WordsKept s (call c) e
      go (kept goes) = inr (λ f m q i h k. goes.keeps e f l m q i h k)
      go (renewed z blocks p agrees) = inl (z, inr (blocks, p))
  event_keeps n s g (store b j v) allowed e l =
      inr (λ f m q i h k. rw q (store_keeps n s.words s.ledger g b j v allowed.0 e l i h))

  -- a block goes on with its words, or the event ends it
  module _ (n : ℕ) (s : State) (g : AgreesAt n s) (event : Event) (allowed : Allowed event s.ledger) (e : Entry) (l : Listed s.ledger e) where
    goes_on : WordsKept s event e → (f : Entry) → Listed (after (library_by policies) event s).ledger f
        → f.block ≡ number_after (library_by policies) event s e.block
        → GoesOn (library_by policies) s event e
    goes_on words f m q =
        record { later = f; listed = m; number_is = q; words_kept = λ i h. words f m q i (omega arith) (omega arith) }

    pub block_keeps : Ended (library_by policies) event s e.block ⊎ GoesOn (library_by policies) s event e
    block_keeps = ⊎_elim inl (λ words. go words (onward (library_by policies) event s e l)) (event_keeps n s g event allowed e l)
      where
        go : WordsKept s event e
            → Onward (library_by policies) event s e (after (library_by policies) event s).ledger (number_after (library_by policies) event s e.block)
            → Ended (library_by policies) event s e.block ⊎ GoesOn (library_by policies) s event e
        go words (ends end) = inl end
        go words (stays m q) = inr (goes_on words e m q)
        go words (changes w anew m q) = inr (goes_on words _ m q)

  -- ---- every run

  pub run_agrees : {n : ℕ} {s : State} → Run (library_by policies) n s → AgreesAt n s
  run_agrees (begun a long l) =
      let lawful-length : lawful (length a) ≡ true = ap lawful long ∙ l in
      record {
        is_sound = start_sound a lawful-length;
        long = (start_behaves a).same_length ∙ long;
        lists = ap (blocks_from first_chunk) (sym (start_chunks a lawful-length));
      }
  run_agrees {n} (arrived text a long z) = rw z (read_agrees text a z n long)
  run_agrees (next {s} run event allowed) = event_agrees _ s (run_agrees run) event allowed
