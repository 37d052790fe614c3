-- `fits::best_fit` meets its contract. The loop's invariant: from word `link` on the links lead through what is left of
-- the free list, in which a chunk may undercut the best so far.
-- The measure is what is left of the words.
use Rattle.std.proofs.Common.{ℕ, List, ◌∷◌, refl, arith}
use lib.ListN.{get_or}
use borrow.Author.Tests.{le-leb, lt-leb, le-ltb, lt-ltb}
use Rattle.layout.proofs.Chain.{chain_ends, chain_goes_on}
use Rattle.passes.proofs.Undercutting.{Undercutting, undercut_begins, undercut_ends, undercut_exact, undercut_takes, undercut_passes}
use Rattle.passes.proofs.fits.best_fit.Goals as goal
use Rattle.passes.proofs.fits.best_fit.Goals.{Else-next-eq0, then-need-size+then-size-least, else-need-size, else-need-size-via-then-need-size+else-size-least, else-need-size-via-else-need-size}

-- the chunk that the link names is the first of what is left
here : (c : Else-next-eq0) → let l = c.loop-least in
    let next = get_or c.args.a.now l.link 0 in
    (rest : List (ℕ × ℕ)) × Undercutting c.args.a.now c.args.need l.least l.best l.link ((next, get_or c.args.a.now next 0) ∷ rest)
here c =
    let (list, g) = c.loop-least.invariant in
    let (rest, e) = chain_goes_on _ _ list g.leads _ refl c.if-next-eq0.false in
    (rest, rw e at g)

pub loop-least-init : goal.loop-least-init
loop-least-init c = (_, undercut_begins _ _ c.requires)

pub returns-then-next-eq0 : goal.returns-then-next-eq0
returns-then-next-eq0 c =
    let (list, g) = c.loop-least.invariant in
    let e = chain_ends _ _ list g.leads c.if-next-eq0.true in
    undercut_ends _ _ _ _ _ (rw e at g)

pub bounds-a-next : goal.bounds-a-next
bounds-a-next c = omega (arith, here (goal.at.bounds-a-next c).Else-next-eq0)

pub loop-least-smaller : goal.loop-least-smaller
loop-least-smaller c = omega (arith, here (goal.at.loop-least-smaller c).Else-next-eq0)

pub loop-least-preserved : goal.loop-least-preserved
loop-least-preserved c =
    let (rest, g) = here (goal.at.loop-least-preserved c).Else-next-eq0 in (
      rest,
      elim c.if-need-size.branch [
        | then-need-size+then-size-least w ↦
            rw (w.best-is, w.least-is)
            (undercut_takes _ _ _ _ _ _ _ rest g (rw (le-leb _ _ w.if-need-size.true, lt-ltb _ _ w.if-size-least.true)))
        | else-need-size w ↦
            rw (w.best-is, w.least-is)
            (undercut_passes _ _ _ _ _ _ _ rest g (elim w.else-need-size.branch [
              | else-need-size-via-then-need-size+else-size-least v ↦
                  rw (le-leb _ _ v.if-need-size.true, le-ltb _ _ v.if-size-least.false)
              | else-need-size-via-else-need-size v ↦ rw (lt-leb _ _ v.if-need-size.false)
            ]))
      ],
    )

pub returns : goal.returns
returns c = let (list, g) = c.loop-least.invariant in undercut_exact _ _ _ _ _ list g c.loop-least-test.false
