-- The ledger: the blocks that are held, written down from events and their answers alone. Whoever keeps it is never
-- shown the arena; a picture that is read is part of the event.
use Rattle.std.specs.Prelude.{ℕ, ◌+◌, ◌-◌, ◌<◌, ◌≡◌, ◌⊎◌, ◌≢◌, cond, List, [], ◌∷◌, leb, eqb}
use Rattle.layout.specs.Numbers.{first_chunk, header_words}
use Rattle.layout.specs.Chunks.{Chunk, free as free_chunk, live}
use Rattle.layout.specs.Walk.{chunks_of}
use Rattle.rules.specs.Answers.{Answer, block_field, granted_field}
use Rattle.rules.specs.Pictures.{Said, bad, good, said}
use Rattle.rules.specs.Libraries.{start, alloc, free, resize, relocate, realloc, size, view, report, write, read}
use Rattle.ledger.specs.Events.{Event, call, store}

-- a block's number, its granted words, and the words that were asked for
pub record Entry : Type 0 where
  pub block : ℕ
  pub granted : ℕ
  pub asked : ℕ

-- by rising number, as `enter` puts them
abbrev pub Ledger : Type 0
Ledger = List Entry

-- ---- how it is kept

-- an entry is put in its place
unfoldable pub enter : Entry → Ledger → Ledger
enter e [] = e ∷ []
enter e (f ∷ fs) = cond (leb e.block f.block) (e ∷ f ∷ fs) (f ∷ enter e fs)

-- every entry of number `b` is struck out
unfoldable pub strike : ℕ → Ledger → Ledger
strike b [] = []
strike b (f ∷ fs) = cond (eqb f.block b) (strike b fs) (f ∷ strike b fs)

-- the live chunk of `s` words that starts at word `c`, for which `asked` words were asked
abbrev pub entry_at : ℕ → ℕ → ℕ → Entry
entry_at c s asked = record { block = c + header_words; granted = s - header_words; asked = asked }

-- the live blocks of `ks`, which begin at word `c`
abbrev pub blocks_from : ℕ → List Chunk → Ledger
blocks_from c [] = []
blocks_from c (free_chunk s ∷ ks) = blocks_from (c + s) ks
blocks_from c (live s asked ∷ ks) = entry_at c s asked ∷ blocks_from (c + s) ks

-- the live blocks of an arena
abbrev pub blocks_of : List ℕ → Ledger
blocks_of a = blocks_from first_chunk (chunks_of a)

-- the live blocks of the arena whose picture a text is
abbrev pub pictured_blocks : Said → Ledger
pictured_blocks bad = []
pictured_blocks (good ws) = blocks_of ws

-- what an event that is done means for the blocks
pub data Effect : Type 0 where
  renews : (blocks : Ledger) → Effect  -- every block ends, and these are new
  grants : (w : ℕ) → Effect  -- the block that is answered is new, and `w` words were asked for
  frees : (b : ℕ) → Effect  -- block `b` ends
  regrants : (b w : ℕ) → Effect  -- block `b` goes on as the block that is answered, and `w` words were asked for
  spares : Effect  -- each block goes on as it is

abbrev pub effect : Event → Effect
effect (call start) = renews []
effect (call (alloc fit w)) = grants w
effect (call (free b)) = frees b
effect (call (resize b w)) = regrants b w
effect (call (relocate b w)) = regrants b w
effect (call (realloc b w)) = regrants b w
effect (call (size b)) = spares
effect (call (view b)) = spares
effect (call report) = spares
effect (call (write text)) = spares
effect (call (read text)) = renews (pictured_blocks (said text))
effect (store b i v) = spares

-- the block and the granted words that an answer tells (0 where it has no such field)
pub record Told : Type 0 where
  pub block : ℕ
  pub granted : ℕ

abbrev pub told : Answer → Told
told answer = record { block = block_field answer.values; granted = granted_field answer.values }

-- the entry of the block that is answered, where `w` words were asked for
abbrev pub entry_for : ℕ → Answer → Entry
entry_for w answer = record { block = (told answer).block; granted = (told answer).granted; asked = w }

-- what an event that is done makes of the ledger
abbrev pub noted : Effect → Answer → Ledger → Ledger
noted (renews blocks) answer ledger = blocks
noted (grants w) answer ledger = enter (entry_for w answer) ledger
noted (frees b) answer ledger = strike b ledger
noted (regrants b w) answer ledger = enter (entry_for w answer) (strike b ledger)
noted spares answer ledger = ledger

-- one thing after an event that was done, another after a refusal
abbrev pub if_done : {A : Type 0} → Answer → A → A → A
if_done answer x y = cond (eqb answer.code 0) x y

-- a refusal changes nothing
abbrev pub ledger_after : Event → Answer → Ledger → Ledger
ledger_after event answer ledger = if_done answer (noted (effect event) answer ledger) ledger

-- ---- how it is read

-- the answer to an event that was done
abbrev pub Done : Answer → Type 0
Done answer = answer.code ≡ 0

-- an entry stands in the ledger
abbrev pub Listed : Ledger → Entry → Type 0
Listed [] e = ⊥
Listed (f ∷ fs) e = (f ≡ e) ⊎ Listed fs e

-- no entry has the number `b`
abbrev pub Unlisted : Ledger → ℕ → Type 0
Unlisted ledger b = (e : Entry) → Listed ledger e → e.block ≢ b

-- the ledger has block `b`, and place `i` is one of its granted words
abbrev pub Held : Ledger → ℕ → ℕ → Type 0
Held ledger b i = (e : Entry) × Listed ledger e × (e.block ≡ b) × (i < e.granted)

-- the word where a block's header begins (0 for a number below 2, which no block of ours has), and the first word after
-- its granted words
abbrev pub begins : Entry → ℕ
begins e = e.block - header_words

abbrev pub ends : Entry → ℕ
ends e = e.block + e.granted

-- the granted words of all blocks and their headers
abbrev pub held_words : Ledger → ℕ
held_words [] = 0
held_words (e ∷ es) = e.granted + header_words + held_words es
