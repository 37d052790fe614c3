-- The two gates: what each comes to, and when.
use mathlib.Core.Path.{◌≡◌, refl}
use mathlib.Core.Bool.{Bool, true, false, cond}
use mathlib.Core.List.{List}
use Prim.Native.Nat.{ℕ, ◌≤◌, ◌<◌}
use native.Mathlib.Omega.{arith}
use lib.Dec.{leb, eqb}
use lib.ListN.{length}
use borrow.Author.Tests.{eqb-true, eqb-false, leb-true, leb-false, eq-eqb, ne_eqb, le-leb, lt-leb}
use Rattle.layout.specs.Numbers.{lawful, greatest_request, greatest_length, need}
use Rattle.layout.specs.Walk.{sound}
use Rattle.layout.specs.Reasons.{arena_gate, request_gate}
use Rattle.layout.specs.Reasons.{Gate}
use Rattle.std.specs.Prelude.{Ok, Err}
use Rattle.layout.specs.declared.Reason.TheVariants.{Length, Damaged, Zero, TooLarge}
use Rattle.layout.proofs.Bools.{lawful_bounds}
use Rattle.layout.proofs.Round.{sound_lawful}
use Rattle.rules.specs.Rooms.{Needed}

-- ---- what a gate comes to, and why

pub data Checked (a : List ℕ) : Gate → Type 0 where
  unlawful : lawful (length a) ≡ false → Checked a (Err Length)
  damaged : lawful (length a) ≡ true → sound a ≡ false → Checked a (Err Damaged)
  whole : sound a ≡ true → Checked a (Ok tt)

pub checked : (a : List ℕ) → Checked a (arena_gate a)
unfolding arena_gate
checked a = go (lawful (length a)) (sound a) refl refl
  where
    go : (l s : Bool) → lawful (length a) ≡ l → sound a ≡ s → Checked a (cond l (cond s (Ok tt) (Err Damaged)) (Err Length))
    go false s e f = unlawful e
    go true false e f = damaged e f
    go true true e f = whole f

pub data Asked (size n : ℕ) : Gate → Type 0 where
  for_none : n ≡ 0 → Asked size n (Err Zero)
  for_more : greatest_request size < n → Asked size n (Err TooLarge)
  for_some : (1 ≤ n) × (n ≤ greatest_request size) → Asked size n (Ok tt)

pub request_asked : (size n : ℕ) → Asked size n (request_gate size n)
unfolding request_gate
request_asked size n = go (eqb n 0) (leb n (greatest_request size)) refl refl
  where
    go : (z f : Bool) → eqb n 0 ≡ z → leb n (greatest_request size) ≡ f → Asked size n (cond z (Err Zero) (cond f (Ok tt) (Err TooLarge)))
    go true f e h = for_none (eqb-true n 0 e)
    go false false e h = for_more (leb-false _ _ h)
    go false true e h = for_some (omega (arith, eqb-false n 0 e), leb-true _ _ h)

pub gate_open : (a : List ℕ) → Ok tt ≡ arena_gate a → sound a ≡ true
gate_open a e = go (checked a) e
  where
    go : {gate : Gate} → Checked a gate → Ok tt ≡ gate → sound a ≡ true
    go (unlawful l) p = cc
    go (damaged l s) p = cc
    go (whole s) p = s

-- a request that passes its gate is for some words, and no more than there can be
request_bounds : (size n : ℕ) → Ok tt ≡ request_gate size n → (1 ≤ n) × (n ≤ greatest_request size)
request_bounds size n e = go (request_asked size n) e
  where
    go : {gate : Gate} → Asked size n gate → Ok tt ≡ gate → (1 ≤ n) × (n ≤ greatest_request size)
    go (for_none z) p = absurd (let z : ◌≡◌ {A = ℕ} 0 1 = cc in omega arith)
    go (for_more m) p = absurd (let z : ◌≡◌ {A = ℕ} 0 1 = cc in omega arith)
    go (for_some r) p = r

pub request_small : (size n : ℕ) → lawful size ≡ true → Ok tt ≡ request_gate size n → n ≤ greatest_length
request_small size n l e = omega (arith, lawful_bounds size l, request_bounds size n e)

pub request_needed : (size n : ℕ) → lawful size ≡ true → (1 ≤ n) × (n ≤ greatest_request size) → Needed (need n) n
request_needed size n l r =
    let b = lawful_bounds size l in
    record { even = omega arith; least = omega arith; most = omega arith; some = r.0; holds = omega arith }

pub request_open : (size n : ℕ) → lawful size ≡ true → Ok tt ≡ request_gate size n → Needed (need n) n
request_open size n l e = request_needed size n l (request_bounds size n e)

-- ---- the gate that is so

module _ (a : List ℕ) where
  pub unlawful_gate : lawful (length a) ≡ false → arena_gate a ≡ Err Length
  unfolding arena_gate
  unlawful_gate l = rw l

  pub damaged_gate : lawful (length a) ≡ true → sound a ≡ false → arena_gate a ≡ Err Damaged
  unfolding arena_gate
  damaged_gate l s = rw (l, s)

  pub sound_gate : sound a ≡ true → arena_gate a ≡ Ok tt
  unfolding arena_gate
  sound_gate e = rw (sound_lawful a e, e)

  pub zero_gate : (n : ℕ) → n ≡ 0 → request_gate (length a) n ≡ Err Zero
  unfolding request_gate
  zero_gate n z = rw (eq-eqb n 0 z)

  pub large_gate : (n : ℕ) → greatest_request (length a) < n → request_gate (length a) n ≡ Err TooLarge
  unfolding request_gate
  large_gate n m = rw (ne_eqb n 0 (omega arith), lt-leb n (greatest_request (length a)) m)

  pub request_gate_lem : (n : ℕ) → (1 ≤ n) × (n ≤ greatest_request (length a)) → request_gate (length a) n ≡ Ok tt
  unfolding request_gate
  request_gate_lem n r = rw (ne_eqb n 0 (omega arith), le-leb n (greatest_request (length a)) r.1)
