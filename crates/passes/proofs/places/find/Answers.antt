-- `places::find` meets its contract. The loop's invariant: the chunks from `chunk` on are left, and `link` is the
-- second word of the last free one before them, or the list's first word.
-- The measure is what is left of the words.
use Prim.Native.Nat.{◌+◌, ◌<◌}
use mathlib.Core.Path.{◌≡◌, sym, ◌∙◌}
use native.Mathlib.Omega.{arith}
use lib.ListN.{length}
use Rattle.layout.specs.Numbers.{header_words}
use Rattle.passes.proofs.Passing.{size_here, live_here, free_here}
use Rattle.passes.proofs.Searching.{search_begins, search_in_vain, search_stops, search_past_live, search_past_free, search_above}
use Rattle.passes.proofs.places.find.Goals as goal
use Rattle.passes.proofs.places.find.Goals.{
  In-loop-chunk,
  then-not-is_live,
  else-not-is_live,
  then-chunk-start-via-then-chunk-start,
  then-chunk-start-via-else-chunk-start+then-not-is_live-2,
}

-- the chunk that is passed lies in the arena
passed : (c : In-loop-chunk) → c.loop-chunk.chunk < length c.args.a.now
passed c = omega (arith, c.loop-chunk-test.true, c.if-a-b.false)

pub returns-then-a-b : goal.returns-then-a-b
returns-then-a-b c = search_in_vain _ _ c.requires c.if-a-b.true

pub returns-in_err-start : goal.returns-in_err-start
returns-in_err-start c =
    c.from_residual.ensures
    ∙ search_above _ _ _ _ _ (search_begins _ c.args.b c.requires) (omega (arith, c.in_err-start.ensures))

pub loop-chunk-init : goal.loop-chunk-init
loop-chunk-init c = (_, search_begins _ c.args.b c.requires)

pub loop-chunk-smaller : goal.loop-chunk-smaller
loop-chunk-smaller c =
    let (ks, g) = c.loop-chunk.invariant in
    let inside = passed (goal.at.loop-chunk-smaller c).In-loop-chunk in
    omega (arith, inside, size_here _ _ ks g.left inside)

pub loop-chunk-preserved : goal.loop-chunk-preserved
loop-chunk-preserved c =
    let (ks, g) = c.loop-chunk.invariant in
    let inside = passed (goal.at.loop-chunk-preserved c).In-loop-chunk in
    elim c.if-not-is_live.branch [
      | then-not-is_live w ↦
          let (ls, e) = free_here _ _ ks g.left inside (sym c.is_live.ensures ∙ w.if-not-is_live.true) in
          (ls, rw w.link-is (search_past_free _ _ _ _ _ ls (rw e at g)))
      | else-not-is_live w ↦
          let (asked, ls, e) = live_here _ _ ks g.left inside (sym c.is_live.ensures ∙ w.if-not-is_live.false) in
          let other : c.loop-chunk.chunk + header_words ≡ c.args.b → ⊥ = omega (arith, c.loop-chunk-test.true) in
          (ls, rw w.link-is (search_past_live _ _ _ _ _ asked ls (rw e at g) other))
    ]

pub returns-then-chunk-start : goal.returns-then-chunk-start
returns-then-chunk-start c =
    let (ks, g) = c.loop-chunk.invariant in
    elim c.then-chunk-start.branch [
      | then-chunk-start-via-then-chunk-start w ↦
          search_above _ _ _ _ ks g (omega (arith, c.loop-chunk-test.false, w.if-chunk-start.true, c.in_ok-start.ensures))
      | then-chunk-start-via-else-chunk-start+then-not-is_live-2 w ↦
          let inside : c.loop-chunk.chunk < length c.args.a.now = omega (arith, w.if-chunk-start.false, c.in_ok-start.ensures, c.if-a-b.false) in
          let (ls, e) = free_here _ _ ks g.left inside (sym w.is_live-else-chunk-start.ensures ∙ w.if-not-is_live-2.true) in
          search_above _ _ _ _ ls (search_past_free _ _ _ _ _ ls (rw e at g))
          (omega (arith, w.if-chunk-start.false, c.in_ok-start.ensures, size_here _ _ ks g.left inside))
    ]

pub returns : goal.returns
returns c =
    let (ks, g) = c.loop-chunk.invariant in
    let inside : c.loop-chunk.chunk < length c.args.a.now = omega (arith, c.if-chunk-start.false, c.in_ok-start.ensures, c.if-a-b.false) in
    let (asked, ls, e) = live_here _ _ ks g.left inside (sym c.is_live-else-chunk-start.ensures ∙ c.if-not-is_live-2.false) in
    search_stops _ _ _ _ _ asked ls (rw e at g) (omega (arith, c.if-chunk-start.false, c.in_ok-start.ensures))
