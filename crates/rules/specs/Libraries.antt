-- The calls as data: which call is made, and what a library answers to each.
use Rattle.std.specs.Prelude.{ℕ, List}
use Rattle.rules.specs.Answers.{Outcome, success}
use Rattle.rules.specs.Fits.{Fit, Policies, policy_of}
use Rattle.rules.specs.Calls.{start_on, alloc_by, free_on, resize_on, relocate_on, realloc_on, size_on, view_on, report_on, write_on, read_on}

-- `fit` is the fit that an alloc is under, `w` how many words are asked for, `b` a block's number, `text` the bytes of
-- a lent text
pub data Call : Type 0 where
  start : Call
  alloc : (fit : Fit) (w : ℕ) → Call
  free : (b : ℕ) → Call
  resize : (b w : ℕ) → Call
  relocate : (b w : ℕ) → Call
  realloc : (b w : ℕ) → Call
  size : (b : ℕ) → Call
  view : (b : ℕ) → Call
  report : Call
  write : (text : List ℕ) → Call
  read : (text : List ℕ) → Call

-- what a library answers to a call on an arena's words, and the words that it leaves
abbrev pub Library : Type 0
Library = Call → List ℕ → Outcome

-- the calls of this project, where these are the policies of the three fits; a view answers the words that it hands
-- back
abbrev pub library_by : Policies → Library
library_by policies start a = start_on a
library_by policies (alloc fit w) a = alloc_by (policies fit) a w
library_by policies (free b) a = free_on a b
library_by policies (resize b w) a = resize_on a b w
library_by policies (relocate b w) a = relocate_on a b w
library_by policies (realloc b w) a = realloc_on a b w
library_by policies (size b) a = size_on a b
library_by policies (view b) a = record { answer = success (view_on a b); words = a }
library_by policies report a = report_on a
library_by policies (write text) a = write_on a text
library_by policies (read text) a = read_on text a

abbrev pub ours : Library
ours = library_by policy_of
