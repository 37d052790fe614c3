-- What a ledger that agrees with an arena shows: where its blocks lie, what they add up to, and what the answers tell
-- of them.
use mathlib.Core.Path.{◌≡◌, refl, sym, ap, ◌∙◌}
use mathlib.Core.Logic.Iff
use mathlib.Core.Logic.{◌≢◌, ◌↔◌}
use mathlib.Core.Bool.{true, false, true≢false}
use mathlib.Core.List.{List, [], ◌∷◌, ◌++◌}
use Prim.Native.Nat.{ℕ, ◌+◌, ◌-◌, ◌≤◌, ◌<◌}
use native.Mathlib.Omega.{arith}
use lib.ListN.{length, take, drop}
use Rattle.layout.specs.Numbers.{control_words, first_chunk, header_words, lawful, need}
use Rattle.layout.specs.Walk.{sound, chunks_of}
use Rattle.layout.specs.Reasons.{number}
use Rattle.layout.specs.declared.Reason.{Reason}
use Rattle.layout.specs.declared.Reason.TheVariants.{Length, Damaged, NotABlock, NoRoom, WouldMove, TextRoom}
use Rattle.rules.specs.Answers.{Answer, Outcome, success, free_words_in}
use Rattle.rules.specs.Rules.{taken}
use Rattle.rules.specs.Pictures.{picture_length}
use Rattle.rules.specs.Calls.{free_on, size_on, view_on, report_on, write_on}
use Rattle.rules.specs.Causes.{LawfulRequest, WriteRefused, no_length, unsound, short_text}
use Rattle.rules.specs.Stands.{NoBlock}
use Rattle.rules.specs.Fits.{Policies}
use Rattle.rules.specs.Picks.{AllFitting}
use Rattle.rules.specs.Libraries.{Call, start, alloc, free, resize, relocate, realloc, size, view, report, write, read, library_by}
use Rattle.layout.proofs.Round.{sound_lawful}
use Rattle.rules.proofs.Gates.{sound_gate}
use Rattle.rules.proofs.ReportCounts.{report_answers}
use Rattle.rules.proofs.Searches.{block_held}
use Rattle.rules.proofs.CallCases.{Case, done_does, Allots, allots, alloc_by_case}
use Rattle.rules.proofs.Remainder.{cut_numbers}
use Rattle.rules.proofs.Staying.{kept_numbers}
use Rattle.rules.proofs.RegrantCases.{Resizes, resizes, Relocates, moves, Regrants, in_place, elsewhere, resize_case, relocate_case, realloc_case}
use Rattle.rules.proofs.EmptyViews.{view_empty}
use Rattle.rules.proofs.BlockNumbers.{resize_stays, relocate_moves}
use Rattle.rules.proofs.Given.{arena_refused}
use Rattle.rules.proofs.Calls.{start_behaves, alloc_by_behaves, free_behaves, resize_behaves, relocate_behaves, realloc_behaves, size_behaves}
use Rattle.rules.proofs.Calls.{report_behaves, write_behaves, read_behaves}
use Rattle.rules.proofs.Pictures.{picture_length_lem}
use Rattle.rules.proofs.PictureCalls.{writes_sound}
use Rattle.ledger.specs.Ledger.{Entry, Ledger, told, Done, Listed, Unlisted, begins, ends, held_words}
use Rattle.ledger.specs.Demands.{HasNeed, RefusedWhen, Tells}
use Rattle.ledger.proofs.Blocks.{blocks_words, blocks_count}
use Rattle.ledger.proofs.Entries.{listed_at, laid_listed, laid_above}
use Rattle.ledger.proofs.Agreeing.{Agrees, chunked_block, agrees_laid, agrees_lawful, listed_chunked, unlisted_block}

-- ---- the reasons that an arena itself gives

module _ (policies : Policies) (fitting : AllFitting policies) where
  -- a call that gives one of the first two reasons, and is no reading, has an unlawful length, or an arena that is not
  -- sound
  gate_refused : (a : List ℕ) (c : Call) → ((text : List ℕ) → c ≢ read text)
      → ((library_by policies c a).answer.code ≡ number Length → lawful (length a) ≡ false) ×
      ((library_by policies c a).answer.code ≡ number Damaged → sound a ≡ false)
  gate_refused a start other = (
    λ e. (((start_behaves a).refused Length).0 e).1,
    λ e. absurd
        (omega (arith, ap number (((start_behaves a).refused Damaged).0 e).0)),
  )
  gate_refused a (alloc fit w) other = arena_refused a _ _ _ _ _ (λ why. ((alloc_by_behaves a (policies fit) (fitting fit) w).refused why).0)
  gate_refused a (free b) other = arena_refused a _ _ _ _ _ (λ why. ((free_behaves a b).refused why).0)
  gate_refused a (resize b w) other = arena_refused a _ _ _ _ _ (λ why. ((resize_behaves a b w).refused why).0)
  gate_refused a (relocate b w) other = arena_refused a _ _ _ _ _ (λ why. ((relocate_behaves a b w).refused why).0)
  gate_refused a (realloc b w) other = arena_refused a _ _ _ _ _ (λ why. ((realloc_behaves a b w).refused why).0)
  gate_refused a (size b) other = arena_refused a _ _ _ _ _ (λ why. ((size_behaves a b).refused why).0)
  gate_refused a (view b) other = (λ e. absurd (omega arith), λ e. absurd (omega arith))
  gate_refused a report other = arena_refused a _ _ _ _ _ (λ why. ((report_behaves a).refused why).0)
  gate_refused a (write text) other = (
    λ e. elim (((write_behaves a text).refused Length).0 e) [ no_length l ↦ l ],
    λ e. elim (((write_behaves a text).refused Damaged).0 e) [ unsound l d ↦ d ],
  )
  gate_refused a (read text) other = absurd (other text refl)

  -- a call that would move its block is a resize, and to a number of words that may be asked for
  would_move : (a : List ℕ) (c : Call) → (library_by policies c a).answer.code ≡ number WouldMove
      → (b : ℕ) × (w : ℕ) × (c ≡ resize b w) × LawfulRequest (length a) w
  would_move a start e = absurd (omega (arith, ap number (((start_behaves a).refused WouldMove).0 e).0))
  would_move a (alloc fit w) e = absurd (((alloc_by_behaves a (policies fit) (fitting fit) w).refused WouldMove).0 e).1
  would_move a (free b) e = absurd (((free_behaves a b).refused WouldMove).0 e).1
  would_move a (resize b w) e = (b, w, refl, (((resize_behaves a b w).refused WouldMove).0 e).1.0)
  would_move a (relocate b w) e = absurd (((relocate_behaves a b w).refused WouldMove).0 e).1
  would_move a (realloc b w) e = absurd (((realloc_behaves a b w).refused WouldMove).0 e).1
  would_move a (size b) e = absurd (((size_behaves a b).refused WouldMove).0 e).1
  would_move a (view b) e = absurd (omega arith)
  would_move a report e = absurd (((report_behaves a).refused WouldMove).0 e).1
  would_move a (write text) e = elim (((write_behaves a text).refused WouldMove).0 e) [ ]
  would_move a (read text) e = elim (((read_behaves a text).refused WouldMove).0 e) [ ]

  -- a call that finds a text too short is a writing
  short_of_text : (a : List ℕ) (c : Call) → (library_by policies c a).answer.code ≡ number TextRoom → (text : List ℕ) × (c ≡ write text)
  short_of_text a start e = absurd (omega (arith, ap number (((start_behaves a).refused TextRoom).0 e).0))
  short_of_text a (alloc fit w) e = absurd (((alloc_by_behaves a (policies fit) (fitting fit) w).refused TextRoom).0 e)
  short_of_text a (free b) e = absurd (((free_behaves a b).refused TextRoom).0 e)
  short_of_text a (resize b w) e = absurd (((resize_behaves a b w).refused TextRoom).0 e)
  short_of_text a (relocate b w) e = absurd (((relocate_behaves a b w).refused TextRoom).0 e)
  short_of_text a (realloc b w) e = absurd (((realloc_behaves a b w).refused TextRoom).0 e)
  short_of_text a (size b) e = absurd (((size_behaves a b).refused TextRoom).0 e)
  short_of_text a (view b) e = absurd (omega arith)
  short_of_text a report e = absurd (((report_behaves a).refused TextRoom).0 e)
  short_of_text a (write text) e = (text, refl)
  short_of_text a (read text) e = elim (((read_behaves a text).refused TextRoom).0 e) [ ]

-- ---- what is granted

-- what is taken of words that are enough is the need, with few over, and it is the granted words and their header
need_taken : (w s : ℕ) → need w ≤ s → HasNeed w (header_words + (taken (need w) s - header_words))
need_taken w s enough = omega (arith, cut_numbers (need w) s enough)

-- a call that grants is refused, or grants the need of the request
need_granted : {fields : ℕ} {a : List ℕ} {Refuses : Reason → Type 0} {Does : List ℕ → List ℕ → Type 0} {outcome : Outcome} (w : ℕ)
    → ((values after : List ℕ) → Does values after → HasNeed w (header_words + (told (success values)).granted)) → Case fields a Refuses Does outcome
    → Done outcome.answer → HasNeed w (header_words + (told outcome.answer).granted)
need_granted w f case e = f _ _ (done_does case e)

alloc_grants : (a : List ℕ) (w : ℕ) (values after : List ℕ) → Allots a w values after → HasNeed w (header_words + (told (success values)).granted)
alloc_grants a w values after (allots e r pre s post (same, enough)) = need_taken w s enough

resize_grants : (a : List ℕ) (b w : ℕ) (values after : List ℕ) → Resizes a b w values after → HasNeed w (header_words + (told (success values)).granted)
resize_grants a b w values after (resizes e r pre s asked post is keep k) = omega (arith, kept_numbers (need w) s keep post k)

relocate_grants : (a : List ℕ) (b w : ℕ) (values after : List ℕ) → Relocates a b w values after
    → HasNeed w (header_words + (told (success values)).granted)
relocate_grants a b w values after (moves e r pre s asked post is before t behind gap block at_is ks same count shorter) = need_taken w t gap.1

realloc_grants : (a : List ℕ) (b w : ℕ) (values after : List ℕ) → Regrants a b w values after
    → HasNeed w (header_words + (told (success values)).granted)
realloc_grants a b w values after (in_place d) = resize_grants a b w values after d
realloc_grants a b w values after (elsewhere d) = relocate_grants a b w values after d

module _ (n : ℕ) (a : List ℕ) (ledger : Ledger) (agrees : Agrees n a ledger) where
  -- ---- where the blocks lie

  pub lies_apart : (below between above : Ledger) (e f : Entry) → ledger ≡ below ++ e ∷ (between ++ f ∷ above) → ends e ≤ begins f
  lies_apart below between above e f q =
      let h = laid_above first_chunk n below e (between ++ f ∷ above) (rw q at (agrees_laid n a ledger agrees)) in
      omega (arith, (laid_listed (ends e) n (between ++ f ∷ above) f h (listed_at between f above)).0)

  pub lies_inside : (e : Entry) → Listed ledger e → (control_words ≤ begins e) × (ends e ≤ n)
  lies_inside e listed = let h = laid_listed first_chunk n ledger e (agrees_laid n a ledger agrees) listed in (omega arith, h.1)

  -- ---- what the answers tell

  pub adds_up : free_words_in (report_on a).answer + held_words ledger ≡ n - control_words
  adds_up =
      let law = agrees_lawful n a ledger agrees in
      rw (report_answers a agrees.is_sound, agrees.lists)
      (omega (arith, blocks_words first_chunk (chunks_of a) law.sizes, law.fills))

  sized : (e : Entry) → Listed ledger e → (size_on a e.block).answer ≡ success (e.asked ∷ e.granted ∷ [])
  unfolding size_on
  sized e listed =
      let (above, k) = listed_chunked n a ledger agrees e listed in
      rw (sound_gate a agrees.is_sound, block_held a e.block k.pre k.s k.asked k.post agrees.is_sound (chunked_block k))
      (ap (λ (f : Entry). success (f.asked ∷ f.granted ∷ [])) (sym k.is))

  freed : (e : Entry) → Listed ledger e → (free_on a e.block).answer.code ≡ 0
  unfolding free_on
  freed e listed =
      let (above, k) = listed_chunked n a ledger agrees e listed in
      rw (sound_gate a agrees.is_sound, block_held a e.block k.pre k.s k.asked k.post agrees.is_sound (chunked_block k))

  viewed : (e : Entry) → Listed ledger e → view_on a e.block ≡ take e.granted (drop e.block a)
  unfolding view_on
  viewed e listed = rw (sized e listed)

  -- a call that is refused for its block, which is none, has a number that no entry has
  refused_unlisted : (b : ℕ) {code : ℕ} → (code ≡ number NotABlock) ↔ ((sound a ≡ true) × NoBlock a b) → (code ≡ number NotABlock) ↔ Unlisted ledger b
  refused_unlisted b refused = Iff.trans refused
      (λ h. (unlisted_block n a ledger agrees b).0 h.1, λ un. (agrees.is_sound, (unlisted_block n a ledger agrees b).1 un))

  -- a sound arena's picture is written wherever it has room
  text_room : (text : List ℕ) → RefusedWhen TextRoom (length text < picture_length (length a)) (write_on a text).answer
  text_room text =
      let behaves = write_behaves a text in
      record {
        refused = (λ e. short TextRoom ((behaves.refused TextRoom).0 e), λ l. (behaves.refused TextRoom).1 (lacks l));
        done = (λ z l. behaves.done.0 z TextRoom (lacks l), λ enough. behaves.done.1 (λ why r. enough (short why r)));
      }
    where
      short : (why : Reason) → WriteRefused a text why → length text < picture_length (length a)
      short why (no_length l) = absurd (true≢false (sym (sound_lawful a agrees.is_sound) ∙ l))
      short why (unsound l d) = absurd (true≢false (sym agrees.is_sound ∙ d))
      short why (short_text e l) = omega (arith, picture_length_lem a)

      lacks : length text < picture_length (length a) → WriteRefused a text TextRoom
      lacks l = short_text agrees.is_sound (omega (arith, picture_length_lem a))

  pub tells : (policies : Policies) → AllFitting policies → Tells (library_by policies) a ledger
  tells policies fitting =
      record {
        never_length = λ c other e. true≢false (sym (sound_lawful a agrees.is_sound) ∙ (gate_refused policies fitting a c other).0 e);
        never_damaged = λ c other e. true≢false (sym agrees.is_sound ∙ (gate_refused policies fitting a c other).1 e);
        alloc_grants = λ fit w. need_granted w (alloc_grants a w) (alloc_by_case (policies fit) (fitting fit) a w);
        free_listed = freed;
        resize_grants = λ b w. need_granted w (resize_grants a b w) (resize_case a b w);
        resize_stays = resize_stays a;
        resize_never_full = λ b w e. (((resize_behaves a b w).refused NoRoom).0 e).1;
        only_resize_would_move = would_move policies fitting a;
        relocate_grants = λ b w. need_granted w (relocate_grants a b w) (relocate_case a b w);
        relocate_moves = relocate_moves a;
        realloc_grants = λ b w. need_granted w (realloc_grants a b w) (realloc_case a b w);
        view_unlisted = λ b un. ap success ((view_empty a b).1 (λ e. omega (arith, (refused_unlisted b ((size_behaves a b).refused NotABlock)).1 un)));
        free_known = λ b. refused_unlisted b ((free_behaves a b).refused NotABlock);
        resize_known = λ w b. refused_unlisted b ((resize_behaves a b w).refused NotABlock);
        relocate_known = λ w b. refused_unlisted b ((relocate_behaves a b w).refused NotABlock);
        realloc_known = λ w b. refused_unlisted b ((realloc_behaves a b w).refused NotABlock);
        size_known = λ b. refused_unlisted b ((size_behaves a b).refused NotABlock);
        size_listed = sized;
        view_listed = λ e listed. ap success (viewed e listed);
        report_done = ap (λ (answer : Answer). answer.code) (report_answers a agrees.is_sound);
        live_blocks_lem = rw (report_answers a agrees.is_sound, agrees.lists) (blocks_count first_chunk (chunks_of a));
        write_room = text_room;
        only_write_text_room = short_of_text policies fitting a;
        write_length = λ text z.
            writes_sound a text agrees.is_sound (omega (arith, picture_length_lem a, (text_room text).done.0 z))
            ∙ ap (λ (long : ℕ). success (long ∷ [])) (picture_length_lem a);
      }
