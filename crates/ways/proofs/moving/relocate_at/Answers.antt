-- `relocate_at` meets its contract: the search finds no room and nothing is done, or the need is taken, the words are
-- copied and the old block is freed where it still stands.
use Rattle.std.proofs.Common.{ℕ, List, ◌≡◌, ◌-◌, refl, arith}
use Rattle.std.specs.Prelude.{min}
use Rattle.layout.specs.Numbers.{header_words}
use Rattle.layout.specs.Chunks.{Chunk, live}
use Rattle.layout.specs.Walk.{chunks_of}
use Rattle.rules.specs.Fits.{first_fit_policy}
use Rattle.rules.specs.Rules.{taken}
use Rattle.rules.proofs.Fits.{first_fitting}
use Rattle.passes.specs.Places.{Placed}
use Rattle.passes.proofs.Standing.{Reads, reads}
use Rattle.passes.proofs.Finding.{FoundGap, found_gap, found_nowhere}
use Rattle.stores.specs.Taken.{Took}
use Rattle.ways.proofs.Allotting.{took_small}
use Rattle.ways.proofs.Relinking.{took_inside, took_stands, took_moved}
use Rattle.ways.proofs.moving.relocate_at.Goals as goal
use Rattle.ways.proofs.moving.relocate_at.Goals.{Start, After-min-count}

-- the block's chunk, in numbers
stood : (c : Start) → let p = c.requires.0 in Reads c.args.a.now p.0 (live p.1 p.2) p.3 c.args.place.link c.args.place.chunk
stood c = reads _ _ _ _ _ _ c.requires.0.4

-- the free chunk that was found
found : (c : After-min-count) → let x = c.args in
    FoundGap (first_fit_policy x.ask.need (chunks_of x.a.now)) x.a.now x.ask.need c.in_ok-gap.gap.link c.in_ok-gap.gap.chunk
found c = found_gap _ _ _ (first_fitting _ _) _ _ c.requires.0.4.is_sound c.in_ok-gap.ensures

-- what was taken of it
took : (c : After-min-count) → let x = c.args in let f = found c in
    Took x.a.now f.0 f.1 f.2 x.ask.need x.ask.asked c.take-piece.result c.take-piece.new.a
took c = c.take-piece.ensures _ _ _ (found c).4

-- as many words are copied as the shorter of the two blocks has
counted : (c : After-min-count) (pre : List Chunk) (s asked : ℕ) (post : List Chunk)
    → Placed c.args.a.now pre (live s asked) post c.args.place.link c.args.place.chunk
    → c.min-count.result ≡ min (s - header_words) (taken c.args.ask.need (found c).1 - header_words)
counted c pre s asked post st =
    omega (arith, c.min-count.ensures, c.block_words-old_words.ensures, c.block_words.ensures, (took c).has, (reads _ _ _ _ _ _ st).size_is)

pub returns-in_err-gap : goal.returns-in_err-gap
returns-in_err-gap c pre s asked post st =
    rw (c.from_residual.ensures, found_nowhere _ c.in_err-gap.ensures) (record { answers = refl; leaves = refl })

pub offset_bounds-a-chunk : goal.offset_bounds-a-chunk
offset_bounds-a-chunk c = omega (arith, stood (goal.at.offset_bounds-a-chunk c).Start)

pub bounds-a-chunk : goal.bounds-a-chunk
bounds-a-chunk c = omega (arith, stood (goal.at.bounds-a-chunk c).Start)

pub take-piece-requires : goal.take-piece-requires
take-piece-requires c =
    let (before, g, after, _, st, enough) = found_gap _ _ _ (first_fitting _ _) _ _ c.requires.0.4.is_sound c.in_ok-gap.ensures in
    (before, g, after, st, enough, c.requires.1)

pub overflow_add-chunk : goal.overflow_add-chunk
overflow_add-chunk c = omega (arith, stood (goal.at.overflow_add-chunk c).Start)

pub overflow_add-new : goal.overflow_add-new
overflow_add-new c =
    let at = (goal.at.overflow_add-new c).After-min-count in
    omega (arith, took_small (found at).4 (found at).5 (took at))

pub copy-requires : goal.copy-requires
copy-requires c =
    let at = (goal.at.copy-requires c).After-min-count in
    let f = found at in
    let (pre, s, asked, post, st) = c.requires.0 in
    omega (arith, took_inside st f.4 c.requires.1 f.5 (took at) (counted at pre s asked post st))

pub link_after-link-requires : goal.link_after-link-requires
link_after-link-requires c = omega (arith, reads _ _ _ _ _ _ (found (goal.at.link_after-link-requires c).After-min-count).4)

pub release-requires : goal.release-requires
release-requires c =
    let at = (goal.at.release-requires c).After-min-count in
    let f = found at in
    let (pre, s, asked, post, st) = c.requires.0 in (
      _,
      s,
      asked,
      _,
      took_stands st f.4 c.requires.1 f.5 (took at) (counted at pre s asked post st)
          _ c.copy.ensures _ c.link_after-link.ensures,
    )

pub grant-requires : goal.grant-requires
grant-requires c =
    let at = (goal.at.grant-requires c).After-min-count in
    took_small (found at).4 (found at).5 (took at)

pub returns : goal.returns
returns c pre s asked post st =
    let at = (goal.at.returns c).After-min-count in
    let f = found at in
    rw c.grant.ensures
    (took_moved st f.4 c.requires.1 f.5 (took at) (counted at pre s asked post st)
    f.3 _ c.copy.ensures _ c.link_after-link.ensures _ c.release.ensures)
