-- The rules of the calls, on chunks.
use Rattle.std.specs.Prelude.{ℕ, zero, suc, ◌+◌, ◌-◌, max, min, List, [], ◌∷◌, ◌++◌, Bool, cond, get_or, set, leb}
use Rattle.layout.specs.Numbers.{first_chunk, header_words, least_split}
use Rattle.layout.specs.Chunks.{Chunk, free, live, size, total, written}
use Rattle.rules.specs.Spots.{Spot, nowhere, at, held}

-- of `s` words, enough are left over after a need to be split off
abbrev pub splits : ℕ → ℕ → Bool
splits need s = leb least_split (s - need)

-- how many of `s` words a need takes: just the need, where the rest is split off; otherwise all
abbrev pub taken : ℕ → ℕ → ℕ
taken need s = cond (splits need s) need s

-- `s` free words of which a need is granted, where `asked` words are asked for: it takes the last of them
abbrev pub cut : ℕ → ℕ → ℕ → List Chunk
cut need asked s = cond (splits need s) (free (s - need) ∷ live need asked ∷ []) (live s asked ∷ [])

-- `s` words of which a block keeps the first `keep`, where `asked` words are asked for: those over, if there are any,
-- are a free chunk
abbrev pub trim : ℕ → ℕ → ℕ → List Chunk
trim keep asked s = live keep asked ∷ cond (leb s keep) [] (free (s - keep) ∷ [])

-- a chunk before others: a free one merges with a free one right after it
abbrev pub join : Chunk → List Chunk → List Chunk
join (live s asked) ks = live s asked ∷ ks
join (free s) [] = free s ∷ []
join (free s) (live t asked ∷ ks) = free s ∷ live t asked ∷ ks
join (free s) (free t ∷ ks) = free (s + t) ∷ ks

-- every two free neighbours are merged
unfoldable pub joined : List Chunk → List Chunk
joined [] = []
joined (k ∷ ks) = join k (joined ks)

-- the chunks after the one at a spot was freed
abbrev pub released : Spot → List Chunk
released nowhere = []
released (at pre k post) = joined (pre ++ free (size k) ∷ post)

-- the words that were asked for, of a chunk (none of a free one), and of the chunk at a spot
abbrev pub asked_of : Chunk → ℕ
asked_of (free s) = 0
asked_of (live s asked) = asked

abbrev pub asked_at : Spot → ℕ
asked_at nowhere = 0
asked_at (at pre k post) = asked_of k

-- the granted words of the chunk at a spot
abbrev pub granted_at : Spot → ℕ
granted_at nowhere = 0
granted_at (at pre k post) = size k - header_words

-- ---- alloc

-- a new block, its granted words, and the chunks with it
pub data Grant : Type 0 where
  none : Grant
  grant : ℕ → ℕ → List Chunk → Grant

-- a need is granted from the free chunk at a spot, where `asked` words are asked for
abbrev pub grant_from : ℕ → ℕ → Spot → Grant
grant_from need asked nowhere = none
grant_from need asked (at pre k post) =
    grant (first_chunk + total pre + (size k - taken need (size k)) + header_words) (taken need (size k) - header_words)
    (pre ++ (cut need asked (size k) ++ post))

-- ---- what a call that grants may come to: its way is shut, or it grants a block and leaves these words

pub data Way : Type 0 where
  shut : Way
  grants : ℕ → ℕ → List ℕ → Way

-- the first way that is not shut
abbrev pub or_else : Way → Way → Way
or_else shut other = other
or_else (grants block granted words) other = grants block granted words

-- a new block in the words `a`
abbrev pub allotted : Grant → List ℕ → Way
allotted none a = shut
allotted (grant block granted ks) a = grants block granted (written ks a)

-- ---- the three ways to grant block `b` anew, where `asked` words are asked for

-- the block stays where it is and keeps the first `keep` of `s` words, which lie between `pre` and `post`
abbrev pub stay : ℕ → ℕ → ℕ → List Chunk → ℕ → List Chunk → List ℕ → Way
stay b keep asked pre s post a = grants b (keep - header_words) (written (pre ++ (trim keep asked s ++ post)) a)

-- a way is shut where `s` words are too few for the need
abbrev pub if_enough : ℕ → ℕ → Way → Way
if_enough need s way = cond (leb need s) way shut

-- way 1: its own words are enough. A free chunk right after it takes all that are over, however few: live `s`, free `t`
-- become live `need`, free `s + t - need`
abbrev pub shrink : ℕ → ℕ → ℕ → Spot → List ℕ → Way
shrink b need asked nowhere a = shut
shrink b need asked (at pre k []) a = if_enough need (size k) (stay b (taken need (size k)) asked pre (size k) [] a)
shrink b need asked (at pre k (live t n ∷ post)) a = if_enough need (size k) (stay b (taken need (size k)) asked pre (size k) (live t n ∷ post) a)
shrink b need asked (at pre k (free t ∷ post)) a = if_enough need (size k) (stay b need asked pre (size k + t) post a)

-- way 2: its own words and those of the free chunk right after it are enough
abbrev pub grow : ℕ → ℕ → ℕ → Spot → List ℕ → Way
grow b need asked nowhere a = shut
grow b need asked (at pre k []) a = shut
grow b need asked (at pre k (live t n ∷ post)) a = shut
grow b need asked (at pre k (free t ∷ post)) a = if_enough need (size k + t) (stay b (taken need (size k + t)) asked pre (size k + t) post a)

-- the words `a` with `count` words from word `from` on stored from word `to` on
unfoldable pub copied : ℕ → ℕ → ℕ → List ℕ → List ℕ
copied from to zero a = a
copied from to (suc k) a = set (copied from to k a) (to + k) (get_or a (from + k) 0)

-- way 3: a new block is granted with the old one still live, `count` of the old words are copied, and the old block is
-- freed
abbrev pub move : ℕ → ℕ → Grant → List ℕ → Way
move b count none a = shut
move b count (grant block granted ks) a =
    grants block granted (written (released (held b ks)) (copied b block count (written ks a)))

-- the granted words of a new block
abbrev pub granted_in : Grant → ℕ
granted_in none = 0
granted_in (grant block granted ks) = granted

-- ---- realloc, resize and relocate of block `b`, where `new` is what a new block would be

-- a rule takes the block's number, the need, the words that are asked for, the block's spot, the new block, and the
-- words
abbrev pub Regrant : Type 0
Regrant = ℕ → ℕ → ℕ → Spot → Grant → List ℕ → Way

-- ways 1 and 2: the block stays where it is
abbrev pub resized : Regrant
resized b need asked spot new a = or_else (shrink b need asked spot a) (grow b need asked spot a)

-- the three ways in their order; a move copies all the old granted words
abbrev pub regranted : Regrant
regranted b need asked spot new a = or_else (resized b need asked spot new a) (move b (granted_at spot) new a)

-- way 3 by itself: it copies as many words as the shorter of the two blocks has granted
abbrev pub relocated : Regrant
relocated b need asked spot new a = move b (min (granted_at spot) (granted_in new)) new a

-- ---- report

abbrev pub free_words : List Chunk → ℕ
free_words [] = 0
free_words (free s ∷ ks) = s + free_words ks
free_words (live s asked ∷ ks) = free_words ks

-- the size of the largest free chunk, 0 if there is none
abbrev pub widest : List Chunk → ℕ
widest [] = 0
widest (free s ∷ ks) = max s (widest ks)
widest (live s asked ∷ ks) = widest ks

abbrev pub live_blocks : List Chunk → ℕ
live_blocks [] = 0
live_blocks (free s ∷ ks) = live_blocks ks
live_blocks (live s asked ∷ ks) = 1 + live_blocks ks

abbrev pub free_chunks : List Chunk → ℕ
free_chunks [] = 0
free_chunks (free s ∷ ks) = 1 + free_chunks ks
free_chunks (live s asked ∷ ks) = free_chunks ks
