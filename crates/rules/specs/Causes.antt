-- Why a call is refused: what each reason says, call by call. ⊥ stands for what a call never answers.
use Rattle.std.specs.Prelude.{◌≡◌, ◌≢◌, true, false, List, ◌∷◌, ℕ, ◌+◌, ◌≤◌, ◌<◌, length}
use Rattle.layout.specs.Numbers.{lawful, greatest_request, need}
use Rattle.layout.specs.Chunks.{Chunk, free as free_chunk, live}
use Rattle.layout.specs.Walk.{sound, chunks_of}
use Rattle.layout.specs.declared.Reason.{Reason}
use Rattle.layout.specs.declared.Reason.TheVariants.{Length, Damaged, NotABlock, Zero, TooLarge, NoRoom, Frame, WouldMove, TextRoom}
use Rattle.rules.specs.Stands.{Stands, SomeBlock, NoBlock, NoGap}
use Rattle.rules.specs.Pictures.{picture_of, Says}
use Rattle.rules.specs.Libraries.{Call, start, alloc, free, resize, relocate, realloc, size, view, report, write, read}
use Rattle.rules.specs.Batches.{Wanted, a_call, unknown}

-- a request that an arena of so many words may be asked for: neither reason 4 nor reason 5 applies to it
abbrev pub LawfulRequest : ℕ → ℕ → Type 0
LawfulRequest words n = (1 ≤ n) × (n ≤ greatest_request words)

-- what the reasons say of a call on the words `a`: all calls but start, and the two for pictures below, have the first
-- two like this, and `block`, `zero`, `large`, `room` and `stuck` are the call's own
abbrev pub Grounds : List ℕ → (block zero large room stuck : Type 0) → Reason → Type 0
Grounds a block zero large room stuck Length = lawful (length a) ≡ false
Grounds a block zero large room stuck Damaged = (lawful (length a) ≡ true) × (sound a ≡ false)
Grounds a block zero large room stuck NotABlock = (sound a ≡ true) × block
Grounds a block zero large room stuck Zero = (sound a ≡ true) × zero
Grounds a block zero large room stuck TooLarge = (sound a ≡ true) × large
Grounds a block zero large room stuck NoRoom = (sound a ≡ true) × room
Grounds a block zero large room stuck Frame = ⊥
Grounds a block zero large room stuck WouldMove = (sound a ≡ true) × stuck
Grounds a block zero large room stuck TextRoom = ⊥

abbrev pub StartRefused : List ℕ → Reason → Type 0
StartRefused a why = (why ≡ Length) × (lawful (length a) ≡ false)

abbrev pub ReportRefused : List ℕ → Reason → Type 0
ReportRefused a = Grounds a ⊥ ⊥ ⊥ ⊥ ⊥

-- free and size
abbrev pub BlockRefused : List ℕ → ℕ → Reason → Type 0
BlockRefused a b = Grounds a (NoBlock a b) ⊥ ⊥ ⊥ ⊥

abbrev pub AllocRefused : List ℕ → ℕ → Reason → Type 0
AllocRefused a n = Grounds a ⊥ (n ≡ 0) (greatest_request (length a) < n) (LawfulRequest (length a) n × NoGap a (need n)) ⊥

-- a chunk of `s` words has fewer than the need, and so it has with those of a free chunk right after it, at the head of
-- `post`
pub record Short (s : ℕ) (post : List Chunk) (need : ℕ) : Type 0 where
  pub own : s < need
  pub with_next : (t : ℕ) (rest : List Chunk) → post ≡ free_chunk t ∷ rest → s + t < need

abbrev pub ShortBlock : List ℕ → ℕ → ℕ → Type 0
ShortBlock a b need =
    (pre : List Chunk) × (s : ℕ) × (asked : ℕ) × (post : List Chunk) × Stands (chunks_of a) pre (live s asked) post b × Short s post need

-- the three calls that grant a block anew; they differ in the last two
abbrev pub RegrantRefused : List ℕ → ℕ → ℕ → (room stuck : Type 0) → Reason → Type 0
RegrantRefused a b n room stuck =
    Grounds a (NoBlock a b) (SomeBlock a b × (n ≡ 0)) (SomeBlock a b × (greatest_request (length a) < n)) room stuck

abbrev pub ResizeRefused : List ℕ → ℕ → ℕ → Reason → Type 0
ResizeRefused a b n = RegrantRefused a b n ⊥ (LawfulRequest (length a) n × ShortBlock a b (need n))

abbrev pub RelocateRefused : List ℕ → ℕ → ℕ → Reason → Type 0
RelocateRefused a b n = RegrantRefused a b n (LawfulRequest (length a) n × SomeBlock a b × NoGap a (need n)) ⊥

abbrev pub ReallocRefused : List ℕ → ℕ → ℕ → Reason → Type 0
ReallocRefused a b n = RegrantRefused a b n (LawfulRequest (length a) n × ShortBlock a b (need n) × NoGap a (need n)) ⊥

-- to write a picture: the last is that the lent text is shorter than the picture
pub data WriteRefused (a text : List ℕ) : Reason → Type 0 where
  no_length : lawful (length a) ≡ false → WriteRefused a text Length
  unsound : lawful (length a) ≡ true → sound a ≡ false → WriteRefused a text Damaged
  short_text : sound a ≡ true → length text < length (picture_of a) → WriteRefused a text TextRoom

-- to read one into the words `a`: the text says no words; it says another number of words, or a number that no arena
-- has; or the words that it says are not sound. Of the words `a` only their number matters
pub data ReadRefused (text a : List ℕ) : Reason → Type 0 where
  bad_text : ((ws : List ℕ) → Says text ws → ⊥) → ReadRefused text a Frame
  other_length : (ws : List ℕ) → Says text ws → length ws ≢ length a → ReadRefused text a Length
  no_length : (ws : List ℕ) → Says text ws → lawful (length ws) ≡ false → ReadRefused text a Length
  unsound : (ws : List ℕ) → Says text ws → length ws ≡ length a → lawful (length ws) ≡ true → sound ws ≡ false → ReadRefused text a Damaged

-- ---- by the call

-- a view is never refused
abbrev pub CallRefused : Call → List ℕ → Reason → Type 0
CallRefused start a why = StartRefused a why
CallRefused (alloc fit w) a why = AllocRefused a w why
CallRefused (free b) a why = BlockRefused a b why
CallRefused (resize b w) a why = ResizeRefused a b w why
CallRefused (relocate b w) a why = RelocateRefused a b w why
CallRefused (realloc b w) a why = ReallocRefused a b w why
CallRefused (size b) a why = BlockRefused a b why
CallRefused (view b) a why = ⊥
CallRefused report a why = ReportRefused a why
CallRefused (write text) a why = WriteRefused a text why
CallRefused (read text) a why = ReadRefused text a why

-- how many fields a refusal has, all of them 0
abbrev pub call_fields : Call → ℕ
call_fields start = 0
call_fields (alloc fit w) = 2
call_fields (free b) = 0
call_fields (resize b w) = 2
call_fields (relocate b w) = 2
call_fields (realloc b w) = 2
call_fields (size b) = 2
call_fields (view b) = 0
call_fields report = 4
call_fields (write text) = 1
call_fields (read text) = 0

-- a request of a batch is refused for its call's reasons, or for its kind
abbrev pub WantedRefused : Wanted → List ℕ → Reason → Type 0
WantedRefused (a_call c) a why = CallRefused c a why
WantedRefused unknown a why = why ≡ Frame

abbrev pub wanted_fields : Wanted → ℕ
wanted_fields (a_call c) = call_fields c
wanted_fields unknown = 0
