-- `fits::lowest_fit` meets its contract. The loop's invariant: from word `link` on the links lead through what is left
-- of the free list, in which the first chunk is looked for that starts at word `from` or above and fits.
-- The measure is what is left of the words.
use Rattle.std.proofs.Common.{ℕ, ◌≡◌, refl, Bool, true, false, ◌&&◌, List, ◌∷◌, arith}
use lib.Dec.{leb}
use lib.ListN.{get_or}
use borrow.Author.Tests.{le-leb, lt-leb}
use Rattle.layout.proofs.Chain.{chain_ends, chain_goes_on}
use Rattle.rules.specs.Fits.{fits_from}
use Rattle.passes.proofs.Searching.{Seeking, seek_begins, seek_stops, seek_goes_on}
use Rattle.passes.proofs.fits.lowest_fit.Goals as goal
use Rattle.passes.proofs.fits.lowest_fit.Goals.{Else-next-eq0, else-from-next-via-then-from-next+else-need-a, else-from-next-via-else-from-next}

-- the chunk that the link names is the first of what is left
here : (c : Else-next-eq0) → let x = c.args in
    let next = get_or x.a.now c.loop-from.link 0 in
    (rest : List (ℕ × ℕ)) × Seeking x.a.now (fits_from x.from x.need) c.loop-from.link ((next, get_or x.a.now next 0) ∷ rest)
here c =
    let (list, g) = c.loop-from.invariant in
    let (rest, e) = chain_goes_on _ _ list g.leads _ refl c.if-next-eq0.false in
    (rest, rw e at g)

pub loop-from-init : goal.loop-from-init
loop-from-init c =
    let x = c.args in
    (_, seek_begins x.a.now (fits_from x.from x.need) (λ d t asked. never (leb x.from d)) c.requires)
  where
    never : (b : Bool) → (b && false) ≡ false
    never true = refl
    never false = refl

pub returns-then-next-eq0 : goal.returns-then-next-eq0
returns-then-next-eq0 c =
    let (list, g) = c.loop-from.invariant in
    let e = chain_ends _ _ list g.leads c.if-next-eq0.true in
    rw e at g.goes

pub bounds-a-next : goal.bounds-a-next
bounds-a-next c = omega (arith, here (goal.at.bounds-a-next c).Else-next-eq0)

pub loop-from-smaller : goal.loop-from-smaller
loop-from-smaller c = omega (arith, here (goal.at.loop-from-smaller c).Else-next-eq0)

pub loop-from-preserved : goal.loop-from-preserved
loop-from-preserved c =
    let (rest, g) = here (goal.at.loop-from-preserved c).Else-next-eq0 in (
      rest,
      seek_goes_on _ _ _ _ _ rest g (elim c.else-from-next.branch [
        | else-from-next-via-then-from-next+else-need-a w ↦ rw (le-leb _ _ w.if-from-next.true, lt-leb _ _ w.if-need-a.false)
        | else-from-next-via-else-from-next w ↦ rw (lt-leb _ _ w.if-from-next.false)
      ]),
    )

pub returns : goal.returns
returns c =
    let (rest, g) = here (goal.at.returns c).Else-next-eq0 in
    seek_stops _ _ _ _ _ rest g (rw (le-leb _ _ c.if-from-next.true, le-leb _ _ c.if-need-a.true))
