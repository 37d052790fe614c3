-- How a call goes: the ledger agrees with the words that it leaves, and the blocks that go on keep their words.
use mathlib.Core.Path.{◌≡◌, refl, sym, ap, ◌∙◌}
use mathlib.Core.List.{List, [], ◌∷◌, ◌++◌}
use Prim.Native.Nat.{ℕ, ◌+◌, ◌-◌, ◌≤◌, ◌<◌}
use native.Mathlib.Omega.{arith}
use lib.ListN.{length, get_or}
use Rattle.layout.specs.Numbers.{first_chunk, header_words}
use Rattle.layout.specs.Chunks.{Chunk, free, live, total, written}
use Rattle.layout.specs.Walk.{chunks_of}
use Rattle.layout.proofs.Holds.{Sizes, Lawful, sizes_split}
use Rattle.layout.proofs.Payload.{inside_kept}
use Rattle.layout.proofs.Round.{sound_chunks, written_sound}
use Rattle.layout.proofs.Written.{length_written}
use Rattle.rules.specs.Rules.{taken, cut, trim, joined}
use Rattle.rules.specs.Rooms.{Needed, room_words, room_after}
use Rattle.rules.proofs.Searches.{BlockAt, block_sizes}
use Rattle.rules.proofs.Rooms.{room_tail, room_split, room_words_lem}
use Rattle.rules.proofs.Staying.{KeepsOfRoom, kept_numbers, kept_sizes, kept_lawful}
use Rattle.rules.proofs.Remainder.{cut_lawful, cut_numbers, cut_total}
use Rattle.rules.proofs.Keeping.{chunks_lawful, freed_lawful}
use Rattle.ledger.specs.Ledger.{Entry, Ledger, enter, strike, entry_at, blocks_from, Listed, Unlisted}
use Rattle.ledger.proofs.Blocks.{blocks_joined, blocks_laid, chunked}
use Rattle.ledger.proofs.Entries.{Laid, listed_split, laid_fresh}
use Rattle.ledger.proofs.Changes.{cut_blocks, trim_blocks, tail_blocks, enters, leaves, replaces}
use Rattle.ledger.proofs.Agreeing.{Agrees}

-- the words `a` with `ledger` become the words `after` with `then`; a block goes on under the number that `renamed`
-- gives
pub record Goes (n : ℕ) (a : List ℕ) (ledger : Ledger) (renamed : ℕ → ℕ) (after : List ℕ) (then : Ledger) : Type 0 where
  pub agrees : Agrees n after then
  pub keeps : (e f : Entry) → Listed ledger e → Listed then f → f.block ≡ renamed e.block → (i : ℕ) → i < e.granted → i < f.granted
      → get_or after (f.block + i) 0 ≡ get_or a (e.block + i) 0

-- ---- chunks that are written: a block among them keeps all its words

pub written_listed : (ks : List Chunk) (a : List ℕ) → Sizes ks → (f : Entry) → Listed (blocks_from first_chunk ks) f → (i : ℕ) → i < f.granted
    → get_or (written ks a) (f.block + i) 0 ≡ get_or a (f.block + i) 0
written_listed ks a z f l i h =
    let (below, above, q) = listed_split (blocks_from first_chunk ks) f l in
    let r = chunked first_chunk ks below f above q in
    let b : f.block ≡ first_chunk + total r.pre + header_words = ap (λ (g : Entry). g.block) r.is in
    let s : f.granted ≡ r.s - header_words = ap (λ (g : Entry). g.granted) r.is in
    rw r.same (inside_kept a r.pre (live r.s r.asked) r.post (first_chunk + total r.pre) (f.block + i) (rw r.same at z) refl (omega arith)
    (omega arith))

pub written_goes : (n : ℕ) (a : List ℕ) (ledger : Ledger) (renamed : ℕ → ℕ) (ks : List Chunk) (then : Ledger) → length a ≡ n → Lawful (length a) ks
    → then ≡ blocks_from first_chunk ks → ((b : ℕ) → renamed b ≡ b) → Goes n a ledger renamed (written ks a) then
written_goes n a ledger renamed ks then long l are same =
    let w = written_sound ks a l in
    record {
      agrees = record { is_sound = w.0; long = length_written ks a ∙ long; lists = are ∙ ap (blocks_from first_chunk) (sym w.1) };
      keeps = λ e f m k p i h j.
          written_listed ks a l.sizes f (rw are at k) i j ∙ ap (λ (b : ℕ). get_or a (b + i) 0) (p ∙ same e.block);
    }

-- words and ledger stay
pub unchanged_goes : (n : ℕ) (a : List ℕ) (ledger : Ledger) → Agrees n a ledger → Goes n a ledger (λ b. b) a ledger
unchanged_goes n a ledger g = record { agrees = g; keeps = λ e f m k p i h j. ap (λ (b : ℕ). get_or a (b + i) 0) p }

-- the block that is granted where a need is taken from a free chunk of `s` words, which stands after `pre`
abbrev pub new_entry : List Chunk → ℕ → ℕ → ℕ → Entry
new_entry pre s needed w = entry_at (first_chunk + total pre + (s - taken needed s)) (taken needed s) w

-- ---- a block between `pre` and `post`

module _ (n : ℕ) (a : List ℕ) (ledger : Ledger) (g : Agrees n a ledger) where
  -- the ledger, where the arena has these chunks
  lists_as : (ks : List Chunk) → chunks_of a ≡ ks → ledger ≡ blocks_from first_chunk ks
  lists_as ks same = g.lists ∙ ap (blocks_from first_chunk) same

  sizes_as : (pre mid post : List Chunk) → chunks_of a ≡ pre ++ (mid ++ post) → Sizes pre × Sizes mid × Sizes post
  sizes_as pre mid post same =
      let z = sizes_split pre (mid ++ post) (rw same at (sound_chunks a g.is_sound).law.sizes) in
      let y = sizes_split mid post z.1 in
      (z.0, y.0, y.1)

  -- it is freed
  pub freed_goes : (b : ℕ) (pre : List Chunk) (s asked : ℕ) (post : List Chunk) → BlockAt a b pre s asked post
      → Goes n a ledger (λ c. c) (written (joined (pre ++ free s ∷ post)) a) (strike b ledger)
  freed_goes b pre s asked post is =
      let d : ℕ = first_chunk + total pre in
      let (y, z, x) = sizes_as pre (live s asked ∷ []) post is.same in
      let l = leaves pre post y x d (d + s) refl (live s asked ∷ []) (free s ∷ []) (entry_at d s asked) (omega arith) (omega arith) refl refl (omega arith)
      (omega (arith, z.1)) in
      written_goes n a ledger (λ c. c) (joined (pre ++ free s ∷ post)) (strike b ledger) g.long
      (freed_lawful a g.is_sound pre s asked post is.same)
      (rw (← is.number_is) (ap (strike (d + header_words)) (lists_as (pre ++ live s asked ∷ post) is.same) ∙ l
      ∙ sym (blocks_joined first_chunk (pre ++ free s ∷ post)))) (λ c. refl)

  -- it stays where it is, and keeps so many words of its room
  pub stays_goes : (b : ℕ) (pre : List Chunk) (s asked : ℕ) (post : List Chunk) (needed w keep : ℕ) (renamed : ℕ → ℕ)
      → BlockAt a b pre s asked post → Needed needed w → KeepsOfRoom needed s post keep → ((c : ℕ) → renamed c ≡ c)
      → Goes n a ledger renamed (written (pre ++ (trim keep w (room_words s post) ++ room_after post)) a)
      (enter (record { block = b; granted = keep - header_words; asked = w }) (strike b ledger))
  stays_goes b pre s asked post needed w keep renamed is nd k names =
      let d : ℕ = first_chunk + total pre in
      let words : ℕ = room_words s post in
      let behind : List Chunk = room_after post in
      let same : chunks_of a ≡ pre ++ (live s asked ∷ room_tail post ++ behind) = room_split pre s asked post is.same in
      let (y, z, x) = sizes_as pre (live s asked ∷ room_tail post) behind same in
      let m = kept_numbers needed s keep post k in
      let all = (kept_sizes needed w s asked keep post nd (block_sizes a b pre s asked post g.is_sound is) k).1 in
      let one : blocks_from d (live s asked ∷ room_tail post) ≡ entry_at d s asked ∷ [] = ap (◌∷◌ (entry_at d s asked)) (tail_blocks (d + s) post) in
      let l = replaces pre behind y x d (d + words) refl (live s asked ∷ room_tail post) (trim keep w words) (entry_at d s asked) (entry_at d keep w)
      (omega (arith, room_words_lem s post)) (omega (arith, all)) one (trim_blocks keep w words d) (omega arith) (omega (arith, nd.least)) (omega arith)
      (omega (arith, nd.least)) in
      written_goes n a ledger renamed (pre ++ (trim keep w words ++ behind)) _ g.long
      (kept_lawful (length a) needed w s asked keep pre post (chunks_lawful a g.is_sound (pre ++ live s asked ∷ post) is.same) nd k)
      (rw (← is.number_is) (ap (λ (es : Ledger). enter (entry_at d keep w) (strike (d + header_words) es))
      (lists_as (pre ++ (live s asked ∷ room_tail post ++ behind)) same) ∙ l)) names

  -- ---- a need is granted from any free chunk that fits, between `pre` and `post`

  module _ (pre : List Chunk) (s : ℕ) (post : List Chunk) (needed w : ℕ) (same : chunks_of a ≡ pre ++ free s ∷ post) (nd : Needed needed w)
      (enough : needed ≤ s) where
    pub granted_lists : enter (new_entry pre s needed w) ledger ≡ blocks_from first_chunk (pre ++ (cut needed w s ++ post))
    granted_lists =
        let d : ℕ = first_chunk + total pre in
        let (y, z, x) = sizes_as pre (free s ∷ []) post same in
        let c = cut_numbers needed s enough in
        ap (enter (new_entry pre s needed w)) (lists_as (pre ++ free s ∷ post) same)
        ∙ enters pre post y x d (d + s) refl (free s ∷ []) (cut needed w s) (new_entry pre s needed w) (omega arith) (omega (arith, cut_total needed w s enough)) refl
        (cut_blocks needed w s d) (omega arith)
        (omega (arith, c.enough, c.within, nd.least))

    pub granted_lawful : Lawful (length a) (pre ++ (cut needed w s ++ post))
    granted_lawful = cut_lawful (length a) needed w pre s post (chunks_lawful a g.is_sound (pre ++ free s ∷ post) same) nd enough

    pub granted_laid : Laid first_chunk n (enter (new_entry pre s needed w) ledger)
    granted_laid = rw granted_lists
        (blocks_laid first_chunk (pre ++ (cut needed w s ++ post)) n (sym (granted_lawful.fills ∙ g.long)) granted_lawful.sizes)

    -- no block of the ledger has its number
    pub granted_fresh : Unlisted ledger (new_entry pre s needed w).block
    granted_fresh = laid_fresh first_chunk n (new_entry pre s needed w) ledger granted_laid

    pub granted_goes : Goes n a ledger (λ c. c) (written (pre ++ (cut needed w s ++ post)) a) (enter (new_entry pre s needed w) ledger)
    granted_goes = written_goes n a ledger (λ c. c) (pre ++ (cut needed w s ++ post)) (enter (new_entry pre s needed w) ledger)
        g.long granted_lawful granted_lists (λ c. refl)
