-- A number in decimal, as it is read.
use Rattle.std.proofs.Common.{◌≡◌, ℕ, ◌^◌, ◌<◌, List, Option, Some, None, refl}
use Rattle.rq_writer.specs.Decimals.{IsNumber}
use Rattle.rq_writer.specs.Reading.{number_of}
use Rattle.rq_writer.proofs.Numbers.{number_takes, number_again}

pub number_read : (most : ℕ) (text : List ℕ) (r : Option ℕ) → most < 2 ^ 64 → IsNumber most text r
    → number_of most text ≡ r
number_read most text (Some n) small is = rw is.1 (number_again most n small is.0)
number_read most text None small isnt =
    none (number_of most text) refl
  where
    none : (r : Option ℕ) → number_of most text ≡ r → number_of most text ≡ None
    none (Some n) e = let t = number_takes most text n small e in absurd (isnt n t.1 t.0)
    none None e = e
