-- What the fields of an answer keep to. No public contract of a call cites this file.
use Rattle.std.specs.Prelude.{ℕ, ◌≡◌, ◌≤◌, refl, List, length, get_or}
use Rattle.std.proofs.Common.{ap, arith}
use Rattle.answers.specs.Readings.{no_fields, grant_fields, sizes_fields, counts_fields, one_field}
use Rattle.answers.specs.declared.Grant.{Grant}
use Rattle.answers.specs.declared.Sizes.{Sizes}
use Rattle.answers.specs.declared.Counts.{Counts}

-- there are as many in each answer, four at most, and they say which answer it is
pub record FieldLaws {A : Type 0} (values : A → List ℕ) (count : ℕ) : Type 0 where
  pub counted : (it : A) → length (values it) ≡ count
  pub few : count ≤ 4
  pub telling : (it other : A) → values it ≡ values other → it ≡ other

abbrev grant_in : List ℕ → Grant
grant_in values = record { block = get_or values 0 0; granted = get_or values 1 0 }

abbrev sizes_in : List ℕ → Sizes
sizes_in values = record { asked = get_or values 0 0; granted = get_or values 1 0 }

abbrev counts_in : List ℕ → Counts
counts_in values =
    record { free_words = get_or values 0 0; largest = get_or values 1 0; live_blocks = get_or values 2 0; free_chunks = get_or values 3 0 }

pub no_field_laws : FieldLaws no_fields 0
no_field_laws = record { counted = λ it. refl; few = omega arith; telling = λ it other e. refl }

pub grant_laws : FieldLaws grant_fields 2
grant_laws = record { counted = λ it. refl; few = omega arith; telling = λ it other e. ap grant_in e }

pub sizes_laws : FieldLaws sizes_fields 2
sizes_laws = record { counted = λ it. refl; few = omega arith; telling = λ it other e. ap sizes_in e }

pub counts_laws : FieldLaws counts_fields 4
counts_laws = record { counted = λ it. refl; few = omega arith; telling = λ it other e. ap counts_in e }

pub one_field_laws : FieldLaws one_field 1
one_field_laws = record { counted = λ it. refl; few = omega arith; telling = λ it other e. ap (λ values. get_or values 0 0) e }
