-- The calls on an arena's words `a`: what each answers, and what each leaves. Reasons are looked for in the
-- order of their numbers, but that a text which is no picture is refused before all else.
use Rattle.std.specs.Prelude.{ℕ, ◌-◌, ◌≡◌, List, [], ◌∷◌, ◌++◌, cond, length, take, drop, leb, eqb}
use Rattle.layout.specs.Numbers.{control_words, header_words, lawful, need}
use Rattle.layout.specs.Chunks.{free, written}
use Rattle.layout.specs.Walk.{chunks_of}
use Rattle.layout.specs.Reasons.{number, arena_gate, request_gate}
use Rattle.layout.specs.declared.Reason.{Reason}
use Rattle.layout.specs.declared.Reason.TheVariants.{Length, NotABlock, NoRoom, Frame, WouldMove, TextRoom}
use Rattle.rules.specs.Answers.{Answer, granted_field, Outcome, Result, refused, done, settle, pass, Gives}
use Rattle.rules.specs.Spots.{Spot, nowhere, at, start_of, held}
use Rattle.rules.specs.Fits.{Policy, first_fit_policy, best_fit_policy, next_fit_policy}
use Rattle.rules.specs.Rules.{Way, shut, grants, grant_from, asked_at, granted_at, allotted, Regrant, regranted, resized, relocated, released}
use Rattle.rules.specs.Rules.{free_words, widest, live_blocks, free_chunks}
use Rattle.rules.specs.Pictures.{picture_of, Said, bad, good, said}

-- a call on a block is refused where there is none
abbrev pub on_block : Spot → Result → Result
on_block nowhere result = refused NotABlock
on_block (at pre k post) result = result

-- a call that grants is refused with `why` where its way is shut
abbrev pub granted : Reason → Way → Result
granted why shut = refused why
granted why (grants block words after) = done (block ∷ words ∷ []) after

-- one free chunk behind the control words; soundness is not asked
unfoldable pub start_on : List ℕ → Outcome
start_on a = settle 0 a (cond (lawful (length a)) (done [] (written (free (length a - control_words) ∷ []) a)) (refused Length))

-- alloc under a policy
unfoldable pub alloc_by : Policy → List ℕ → ℕ → Outcome
alloc_by policy a n =
    settle 2 a
    (pass (arena_gate a)
    (pass (request_gate (length a) n)
    (granted NoRoom (allotted (grant_from (need n) n (policy (need n) (chunks_of a))) a))))

-- alloc is under first fit, `alloc_best` under best fit, and `alloc_next` under next fit from a rover on
abbrev pub alloc_on : List ℕ → ℕ → Outcome
alloc_on a n = alloc_by first_fit_policy a n

abbrev pub alloc_best_on : List ℕ → ℕ → Outcome
alloc_best_on a n = alloc_by best_fit_policy a n

abbrev pub alloc_next_on : List ℕ → ℕ → ℕ → Outcome
alloc_next_on a rover n = alloc_by (next_fit_policy rover) a n

-- the rover after that: where the chunk starts that was found; a refusal leaves it as it was
unfoldable pub rover_after : List ℕ → ℕ → ℕ → ℕ
rover_after a rover n =
    cond (eqb (alloc_next_on a rover n).answer.code 0) (start_of (next_fit_policy rover (need n) (chunks_of a))) rover

-- the promise of next fit: it gives its outcome, and the rover is then as the rule says
pub record Roves (a : List ℕ) (rover n : ℕ) (answer : Answer) (words : List ℕ) (moved : ℕ) : Type 0 where
  pub gives : Gives (alloc_next_on a rover n) answer words
  pub moves : moved ≡ rover_after a rover n

-- the block's chunk becomes free, and free neighbours are merged
unfoldable pub free_on : List ℕ → ℕ → Outcome
free_on a b =
    let spot = held b (chunks_of a) in
    settle 0 a (pass (arena_gate a) (on_block spot (done [] (written (released spot) a))))

-- a call that grants block `b` anew by a rule, and is refused with `why` where the rule's way is shut
unfoldable pub regrant_by : Reason → Regrant → List ℕ → ℕ → ℕ → Outcome
regrant_by why rule a b n =
    let spot = held b (chunks_of a) in
    settle 2 a
    (pass (arena_gate a)
    (on_block spot
    (pass (request_gate (length a) n)
    (granted why (rule b (need n) n spot (grant_from (need n) n (first_fit_policy (need n) (chunks_of a))) a)))))

-- the first of the three ways that is open
abbrev pub realloc_on : List ℕ → ℕ → ℕ → Outcome
realloc_on a b n = regrant_by NoRoom regranted a b n

-- the first two ways: the block keeps its number, or the call is refused
abbrev pub resize_on : List ℕ → ℕ → ℕ → Outcome
resize_on a b n = regrant_by WouldMove resized a b n

-- the third way by itself
abbrev pub relocate_on : List ℕ → ℕ → ℕ → Outcome
relocate_on a b n = regrant_by NoRoom relocated a b n

-- the resize and, if it is refused with WouldMove, the move on the words that it left. That this is realloc is the
-- theorem `three_ways`
abbrev pub resize_else_relocate : List ℕ → ℕ → ℕ → Outcome
resize_else_relocate a b n = let first = resize_on a b n in cond (eqb first.answer.code (number WouldMove)) (relocate_on first.words b n) first

-- the words that were asked for when a block was granted last, and its granted words
unfoldable pub size_on : List ℕ → ℕ → Outcome
size_on a b =
    let spot = held b (chunks_of a) in
    settle 2 a (pass (arena_gate a) (on_block spot (done (asked_at spot ∷ granted_at spot ∷ []) a)))

-- the part of the arena that is the block: as many words from `b` on as size answers granted, none where it is refused
unfoldable pub view_on : List ℕ → ℕ → List ℕ
view_on a b = take (granted_field (size_on a b).answer.values) (drop b a)

-- free words, the largest request that would be granted now, live blocks, free chunks
unfoldable pub report_on : List ℕ → Outcome
report_on a =
    let ks = chunks_of a in
    settle 4 a
    (pass (arena_gate a)
    (done (free_words ks ∷ (widest ks - header_words) ∷ live_blocks ks ∷ free_chunks ks ∷ []) a))

-- a picture for a lent text: how long it is; the arena stays as it is
unfoldable pub write_on : List ℕ → List ℕ → Outcome
write_on a text =
    let long = length (picture_of a) in
    settle 1 a (pass (arena_gate a) (cond (leb long (length text)) (done (long ∷ []) a) (refused TextRoom)))

-- the lent text after that: it begins with the picture, and its rest stays; a refusal leaves it as it was
unfoldable pub text_after : List ℕ → List ℕ → List ℕ
text_after a text = cond (eqb (write_on a text).answer.code 0) (picture_of a ++ drop (length (picture_of a)) text) text

-- what comes of a text that says this, for an arena of `n` words: the words that it says
abbrev pub read_into : ℕ → Said → Result
read_into n bad = refused Frame
read_into n (good ws) = cond (eqb (length ws) n) (pass (arena_gate ws) (done [] ws)) (refused Length)

-- a lent text is read into the arena
unfoldable pub read_on : List ℕ → List ℕ → Outcome
read_on text a = settle 0 a (read_into (length a) (said text))
