-- How the loop over records of six words each goes.
use Prim.Native.Nat.{ℕ, ◌+◌, ◌-◌, ◌≤◌, ◌<◌}
use mathlib.Core.Path.{◌≡◌, refl, sym, ap, ◌∙◌}
use mathlib.Core.List.{List, [], ◌∷◌, ◌++◌, append_assoc, append-nil}
use native.Mathlib.Omega.{arith}
use native.Mathlib.Nat.{suc-add}
use lib.ListN.{length, get_or, drop, length-append}
use lib.Seq.{sets, get_or-append_seam, get_or-append-add}
use Rattle.rules.specs.Libraries.{ours}
use Rattle.rules.specs.Batches.{made_singly, wanted, wanted_in, Batch, batch_on, Serves}
use Rattle.rules.specs.declared.Request.{Request}
use Rattle.rules.specs.declared.Served.{Served}
use Rattle.batch.specs.SixWords.{records_in, left_over, spelled, FillsWords}
use Rattle.batch.proofs.BatchTurns.{behind, answered, turn_goes, all_filled}

-- ---- records and their words

spelled_both : (rs ss : List Request) → spelled (rs ++ ss) ≡ spelled rs ++ spelled ss
spelled_both [] ss = refl
spelled_both (r ∷ rs) ss =
    ap (λ (l : List ℕ). r.kind ∷ r.b ∷ r.n ∷ r.code ∷ r.block ∷ r.granted ∷ l) (spelled_both rs ss)

-- six words or more begin with a record
record Begun (l : List ℕ) : Type 0 where
  pub first : Request
  pub rest : List ℕ
  pub is : l ≡ spelled (first ∷ []) ++ rest

begun : (l : List ℕ) → 6 ≤ length l → Begun l
begun (k ∷ (b ∷ (n ∷ (c ∷ (block ∷ (g ∷ rest)))))) h =
    record { first = record { kind = k; b = b; n = n; code = c; block = block; granted = g }; rest = rest; is = refl }
begun (k ∷ (b ∷ (n ∷ (c ∷ (block ∷ []))))) h = absurd (omega arith)
begun (k ∷ (b ∷ (n ∷ (c ∷ [])))) h = absurd (omega arith)
begun (k ∷ (b ∷ (n ∷ []))) h = absurd (omega arith)
begun (k ∷ (b ∷ [])) h = absurd (omega arith)
begun (k ∷ []) h = absurd (omega arith)
begun [] h = absurd (omega arith)

-- fewer are left over
too_few : (l : List ℕ) → length l < 6 → (records_in l ≡ []) × (left_over l ≡ l)
unfolding records_in left_over
too_few (k ∷ (b ∷ (n ∷ (c ∷ (block ∷ (g ∷ rest)))))) h = absurd (omega arith)
too_few (k ∷ (b ∷ (n ∷ (c ∷ (block ∷ []))))) h = (refl, refl)
too_few (k ∷ (b ∷ (n ∷ (c ∷ [])))) h = (refl, refl)
too_few (k ∷ (b ∷ (n ∷ []))) h = (refl, refl)
too_few (k ∷ (b ∷ [])) h = (refl, refl)
too_few (k ∷ []) h = (refl, refl)
too_few [] h = (refl, refl)

-- ---- the loop

-- where it stands in the records `xs` on the words `ys`: the first `at` words of `rs` spell records that are filled,
-- and those behind them are as they came
pub record Spelling (ys xs : List ℕ) (at : ℕ) (ws rs : List ℕ) : Type 0 where
  pub before : List Request
  pub tail : List ℕ
  pub place : at ≡ length (spelled before)
  pub words_are : rs ≡ spelled before ++ tail
  pub left : left_over tail ≡ left_over xs
  pub goes : behind before (batch_on ws (records_in tail)) ≡ batch_on ys (records_in xs)

-- the answer of a record is put behind what it asks
put_behind : (p : List ℕ) (r : Request) (rest : List ℕ) (c l g : ℕ)
    → sets (p ++ (spelled (r ∷ []) ++ rest)) (length p + 3) (c ∷ l ∷ g ∷ []) ≡ p ++ (r.kind ∷ r.b ∷ r.n ∷ c ∷ l ∷ g ∷ rest)
put_behind [] r rest c l g = refl
put_behind (x ∷ p) r rest c l g = rw (suc-add (length p) 3) (ap (λ (tail : List ℕ). x ∷ tail) (put_behind p r rest c l g))

-- the three words that ask
asks_at : (p : List ℕ) (r : Request) (rest : List ℕ)
    → let l = p ++ (spelled (r ∷ []) ++ rest) in
    wanted (get_or l (length p) 0) (get_or l (length p + 1) 0) (get_or l (length p + 2) 0) ≡ wanted_in r
asks_at p r rest =
    let six = spelled (r ∷ []) ++ rest in
    rw (get_or-append_seam p r.kind (drop 1 six) 0, get_or-append-add p six 1 0, get_or-append-add p six 2 0) refl

module _ {ys xs ws rs : List ℕ} {at : ℕ} (g : Spelling ys xs at ws rs) where
  -- what is behind the place has the words that are there
  tail_length : length g.tail ≡ length rs - at
  tail_length = omega (arith, g.place, ap length g.words_are, length-append (spelled g.before) g.tail)

  -- the first record behind the place is filled
  turned_at : {zs : List ℕ} {to : Served} (b : Begun g.tail) → Serves (made_singly ours (wanted_in b.first) ws) to zs
      → Spelling ys xs (at + 6) zs (sets rs (at + 3) (to.code ∷ to.block ∷ to.granted ∷ []))
  unfolding records_in left_over
  turned_at {zs} {to} b s =
      let p = spelled g.before in
      let r = b.first in
      let rest = b.rest in
      let now : spelled (g.before ++ answered ws r ∷ []) ≡ p ++ spelled (answered ws r ∷ []) = spelled_both g.before (answered ws r ∷ []) in
      record {
        before = g.before ++ answered ws r ∷ [];
        tail = rest;
        place = omega (arith, g.place, ap length now, length-append p (spelled (answered ws r ∷ [])));
        words_are =
            rw (g.words_are, g.place, b.is) (put_behind p r rest to.code to.block to.granted)
            ∙ ap (λ (x : Served). p ++ (r.kind ∷ r.b ∷ r.n ∷ x.code ∷ x.block ∷ x.granted ∷ rest)) s.answers
            ∙ sym (append_assoc p (spelled (answered ws r ∷ [])) rest)
            ∙ ap (λ (l : List ℕ). l ++ rest) (sym now);
        left = ap left_over (sym b.is) ∙ g.left;
        goes =
            turn_goes ys (records_in xs) ws g.before r (records_in rest) zs s.leaves
            (ap (λ (l : List ℕ). behind g.before (batch_on ws (records_in l))) (sym b.is) ∙ g.goes);
      }

  pub stepped : {zs : List ℕ} {to : Served} → 6 ≤ length rs - at
      → Serves (made_singly ours (wanted (get_or rs at 0) (get_or rs (at + 1) 0) (get_or rs (at + 2) 0)) ws) to zs
      → Spelling ys xs (at + 6) zs (sets rs (at + 3) (to.code ∷ to.block ∷ to.granted ∷ []))
  stepped h s =
      let b = begun g.tail (omega (arith, tail_length)) in
      turned_at b (rw (g.words_are, g.place, b.is, asks_at (spelled g.before) b.first b.rest) at s)

  -- fewer than six words are behind the place: all records are filled
  pub stopped : length rs - at < 6 → FillsWords (batch_on ys (records_in xs)) xs rs ws
  stopped h =
      let few = too_few g.tail (omega (arith, tail_length)) in
      let all =
      all_filled ys (records_in xs) ws g.before (ap (λ (l : List Request). behind g.before (batch_on ws l)) (sym few.0) ∙ g.goes)
      in
      record {
        answers =
            g.words_are
            ∙ ap (λ (l : List ℕ). spelled g.before ++ l) (sym few.1 ∙ g.left)
            ∙ ap (λ (l : List Request). spelled l ++ left_over xs) (sym (append-nil g.before) ∙ all.answers);
        leaves = all.leaves;
      }

-- the promise leaves no choice
pub words_once : {batch : Batch} {before after after' words words' : List ℕ} → FillsWords batch before after words
    → FillsWords batch before after' words' → (after ≡ after') × (words ≡ words')
words_once g g' = (g.answers ∙ sym g'.answers, g.leaves ∙ sym g'.leaves)
