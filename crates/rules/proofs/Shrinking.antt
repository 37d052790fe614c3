-- A block that shrinks: where nothing is written but what is asked for, and what a free chunk right after it takes.
use mathlib.Core.Path.{◌≡◌, refl, sym, ap, ◌∙◌, subst}
use mathlib.Core.Logic.{◌⊎◌, ⊎_elim}
use mathlib.Core.Bool.{true}
use mathlib.Core.List.{List, [], ◌∷◌, ◌++◌, append_assoc}
use Prim.Native.Nat.{ℕ, ◌+◌, ◌-◌, ◌≤◌, ◌<◌}
use native.Mathlib.Omega.{arith}
use lib.ListN.{length, get_or, set}
use borrow.Author.Tests.{le-leb, lt-leb, lt-ltb, le-ltb}
use Rattle.layout.specs.Numbers.{first_chunk, list_word, header_words, least_split, live_mark, need}
use Rattle.layout.specs.Chunks.{Chunk, free, live, total, written}
use Rattle.layout.specs.Walk.{sound}
use Rattle.layout.specs.Links.{link_at}
use Rattle.layout.specs.declared.Reason.{Reason}
use Rattle.layout.specs.declared.Reason.TheVariants.{NoRoom, WouldMove}
use Rattle.layout.proofs.Holds.{Sizes, Lawful, total_append}
use Rattle.layout.proofs.Payload.{inside_kept}
use Rattle.layout.proofs.Written.{Arena, written_arena}
use Rattle.layout.proofs.Replace.{asked_anew}
use Rattle.layout.proofs.Chain.{chain_behind, chain_first}
use Rattle.layout.proofs.Round.{sound_lawful, sound_chunks}
use Rattle.rules.specs.Answers.{Outcome, done, settle}
use Rattle.rules.specs.Spots.{at}
use Rattle.rules.specs.Rules.{Grant, Way, or_else, trim, stay, shrink, grow, move, Regrant, regranted, resized}
use Rattle.rules.specs.Calls.{regrant_by, resize_on, realloc_on}
use Rattle.rules.specs.Rooms.{Needed, room_words, room_after, kept_of}
use Rattle.rules.proofs.Joining.{Clear}
use Rattle.rules.proofs.Rooms.{room_words_lem}
use Rattle.rules.proofs.Remainder.{takes_all}
use Rattle.rules.proofs.Searches.{BlockAt, block_sizes, block_held}
use Rattle.rules.specs.Causes.{LawfulRequest}
use Rattle.rules.proofs.Gates.{sound_gate, request_gate_lem, request_needed}
use Rattle.rules.proofs.Staying.{in_room, hands_over, kept_lawful}

-- ---- how many words the block keeps

-- no words are over; or fewer than are split off, and no free chunk follows
abbrev pub NoneLeave : ℕ → ℕ → List Chunk → Type 0
NoneLeave need s post = (need ≡ s) ⊎ (Clear post × (need ≤ s) × (s < need + least_split))

kept_alone : (need s : ℕ) → (need ≤ s) × (s < need + least_split) → kept_of need s s ≡ s
kept_alone need s few = rw (le-ltb s s (omega arith), takes_all need s few.1)

kept_beside : (need s t : ℕ) → 0 < t → need ≤ s → kept_of need s (s + t) ≡ need
kept_beside need s t some enough = rw (lt-ltb s (s + t) (omega arith), le-leb need s enough)

-- in either case its own words have the need, and fewer are over than are split off
few_over : (need s : ℕ) (post : List Chunk) → NoneLeave need s post → (need ≤ s) × (s < need + least_split)
few_over need s post none = ⊎_elim (λ e. omega arith) (λ h. (h.1, h.2)) none

-- all of its own words stay
none_leave : (need s : ℕ) (post : List Chunk) → Sizes post → NoneLeave need s post → kept_of need s (room_words s post) ≡ s
none_leave need s [] z none = kept_alone need s (few_over need s [] none)
none_leave need s (live t asked ∷ ks) z none = kept_alone need s (few_over need s (live t asked ∷ ks) none)
none_leave need s (free t ∷ ks) z none = ⊎_elim (λ e. kept_beside need s t (omega (arith, z.1)) (omega arith) ∙ e) (λ h. absurd h.0) none

-- and then the chunks have the sizes that they had
trim_same : (s w : ℕ) (post : List Chunk) → Sizes post → trim s w (room_words s post) ++ room_after post ≡ live s w ∷ post
trim_same s w [] z = rw (le-leb s s (omega arith))
trim_same s w (live t asked ∷ ks) z = rw (le-leb s s (omega arith))
trim_same s w (free t ∷ ks) z = rw (lt-leb (s + t) s (omega (arith, z.1))) (ap (λ (u : ℕ). live s w ∷ free u ∷ ks) (omega arith))

-- all words over go to the free chunk right after it
trim_beside : (need w s t : ℕ) (post : List Chunk) → 0 < t → need ≤ s → trim need w (s + t) ++ post ≡ live need w ∷ free (s - need + t) ∷ post
trim_beside need w s t post some enough = rw (lt-leb (s + t) need (omega arith)) (ap (λ (u : ℕ). live need w ∷ free u ∷ post) (omega arith))

-- ---- the two calls that try way 1

module _ (a : List ℕ) (b : ℕ) (pre : List Chunk) (s asked : ℕ) (post : List Chunk) (e : sound a ≡ true) (is : BlockAt a b pre s asked post) (n : ℕ)
    (r : LawfulRequest (length a) n) (enough : need n ≤ room_words s post) where
  abbrev keep : ℕ
  keep = kept_of (need n) s (room_words s post)

  -- where its room has the need, the block stays and keeps so many words of it
  abbrev stayed : Outcome
  stayed = settle 2 a (done (b ∷ (keep - header_words) ∷ []) (written (pre ++ (trim keep n (room_words s post) ++ room_after post)) a))

  ways_stay : or_else (shrink b (need n) n (at pre (live s asked) post) a) (grow b (need n) n (at pre (live s asked) post) a) ≡ stay b keep n pre
      (room_words s post) (room_after post) a
  ways_stay = rw (in_room b (need n) n pre s asked a post (block_sizes a b pre s asked post e is).2, le-leb (need n) (room_words s post) enough) refl

  rule_stays : (why : Reason) (rule : Regrant)
      → ((new : Grant) → rule b (need n) n (at pre (live s asked) post) new a ≡ stay b keep n pre (room_words s post) (room_after post) a)
      → regrant_by why rule a b n ≡ stayed
  unfolding regrant_by
  rule_stays why rule stays = rw (sound_gate a e, block_held a b pre s asked post e is, request_gate_lem a n r, stays _) refl

  resize_stayed : resize_on a b n ≡ stayed
  resize_stayed = rule_stays WouldMove resized (λ new. ways_stay)

  realloc_stayed : realloc_on a b n ≡ stayed
  realloc_stayed = rule_stays NoRoom regranted (λ new. ap (λ (way : Way). or_else way (move b (s - header_words) new a)) ways_stay)

  -- no words leave it: of all words only the one before the block is written, which is its chunk's second
  stayed_same : NoneLeave (need n) s post → stayed.words ≡ set a (b - 1) (live_mark + n)
  stayed_same none =
      let z = (block_sizes a b pre s asked post e is).2 in
      let r : Arena a (pre ++ live s asked ∷ post) = rw is.same at (sound_chunks a e) in
      let second : first_chunk + total pre + 1 ≡ b - 1 = omega (arith, is.number_is) in
      rw (none_leave (need n) s post z none, trim_same s n post z, ← second) (asked_anew a pre s asked n post (first_chunk + total pre) r refl)

module _ (a : List ℕ) (b : ℕ) (pre : List Chunk) (s asked : ℕ) (post : List Chunk) (e : sound a ≡ true) (is : BlockAt a b pre s asked post) (n : ℕ)
    (r : LawfulRequest (length a) n) (none : NoneLeave (need n) s post) where
  enough : need n ≤ room_words s post
  enough = omega (arith, few_over (need n) s post none, room_words_lem s post)

  -- where document 01 says "nothing is written", nothing but what is asked for is; so with any number over that is not
  -- split off. Beside a free chunk: only if none are over
  pub resize_keeps : (resize_on a b n).words ≡ set a (b - 1) (live_mark + n)
  resize_keeps =
      ap (λ (o : Outcome). o.words) (resize_stayed a b pre s asked post e is n r enough) ∙ stayed_same a b pre s asked post e is n r enough none

  pub realloc_keeps : (realloc_on a b n).words ≡ set a (b - 1) (live_mark + n)
  realloc_keeps =
      ap (λ (o : Outcome). o.words) (realloc_stayed a b pre s asked post e is n r enough) ∙ stayed_same a b pre s asked post e is n r enough none

-- ---- a free chunk of `t` words right after it

module _ (a : List ℕ) (b : ℕ) (pre : List Chunk) (s asked t : ℕ) (post : List Chunk) (e : sound a ≡ true)
    (is : BlockAt a b pre s asked (free t ∷ post)) (n : ℕ) (r : LawfulRequest (length a) n) (enough : need n ≤ s) where
  -- the chunks once the free chunk has taken all words over, and the words then
  abbrev shrunk : List Chunk
  shrunk = pre ++ live (need n) n ∷ free (s - need n + t) ∷ post

  abbrev after : List ℕ
  after = written shrunk a

  sizes : Sizes (live s asked ∷ free t ∷ post)
  sizes = block_sizes a b pre s asked (free t ∷ post) e is

  needed : Needed (need n) n
  needed = request_needed (length a) n (sound_lawful a e) r

  handed_over : trim (need n) n (s + t) ++ post ≡ live (need n) n ∷ free (s - need n + t) ∷ post
  handed_over = trim_beside (need n) n s t post (omega (arith, sizes.2.1)) enough

  handed : stayed a b pre s asked (free t ∷ post) e is n r (omega arith) ≡ settle 2 a (done (b ∷ (need n - header_words) ∷ []) after)
  handed =
      rw (kept_beside (need n) s t (omega (arith, sizes.2.1)) enough)
      (ap (λ (ks : List Chunk). settle 2 a (done (b ∷ (need n - header_words) ∷ []) (written (pre ++ ks) a))) handed_over)

  -- "when any words are over and the next chunk is free, they all go to that chunk"
  pub resize_hands_over : resize_on a b n ≡ settle 2 a (done (b ∷ (need n - header_words) ∷ []) after)
  resize_hands_over = resize_stayed a b pre s asked (free t ∷ post) e is n r (omega arith) ∙ handed

  pub realloc_hands_over : realloc_on a b n ≡ settle 2 a (done (b ∷ (need n - header_words) ∷ []) after)
  realloc_hands_over = realloc_stayed a b pre s asked (free t ∷ post) e is n r (omega arith) ∙ handed

  lawful : Lawful (length a) shrunk
  lawful =
      subst (λ (ks : List Chunk). Lawful (length a) (pre ++ ks)) handed_over
      (kept_lawful (length a) (need n) n s asked (need n) pre (free t ∷ post) (rw is.same at (sound_chunks a e).law) needed
      (hands_over enough (omega (arith, sizes.2.1))))

  -- the word that names the free chunk, whatever the sizes of the block and of that chunk are
  free_named : (words : List ℕ) (size w next : ℕ) → Arena words (pre ++ live size w ∷ free next ∷ post)
      → get_or words (link_at list_word first_chunk pre) 0 ≡ first_chunk + total pre + size
  free_named words size w next made =
      let behind : List Chunk = live size w ∷ free next ∷ post in
      chain_first words _ (first_chunk + total pre) behind (chain_behind words pre behind (first_chunk + total pre) made refl)

  -- "whose start moves down": the link that named its old start names the new one
  pub link_follows : (get_or a (link_at list_word first_chunk pre) 0 ≡ first_chunk + total pre + s)
      × (get_or after (link_at list_word first_chunk pre) 0 ≡ first_chunk + total pre + need n)
  link_follows =
      (free_named a s asked t (rw is.same at (sound_chunks a e)), free_named after (need n) n (s - need n + t) (written_arena shrunk a lawful))

  -- its old header is swallowed, and keeps both its words
  pub header_kept : need n < s → (i : ℕ) → i < header_words → get_or after (first_chunk + total pre + s + i) 0 ≡ get_or a (first_chunk + total pre + s + i) 0
  header_kept over i l =
      let front : List Chunk = pre ++ live (need n) n ∷ [] in
      let same = append_assoc pre (live (need n) n ∷ []) (free (s - need n + t) ∷ post) in
      let to : total front ≡ total pre + (need n + 0) = total_append pre (live (need n) n ∷ []) in
      let z = sizes in
      rw (sym same)
      (inside_kept a front (free (s - need n + t)) post (first_chunk + total front) (first_chunk + total pre + s + i) (rw same lawful.sizes) refl
      (omega (arith, needed.even)) (omega arith))
