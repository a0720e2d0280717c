-- From the bytes that were read to those that the reader had.
use Rattle.std.proofs.Common.{◌≡◌, ℕ, ◌+◌, ◌<◌, ◌≤◌, List, [], ◌++◌, length, take, refl, sym, ap, subst, ◌∙◌, arith, inl, inr}
use Rattle.std.specs.Prelude.{◌⊎◌, Option, Some, None, Result, Ok, Err, IfOk, IfErr}
use Rattle.std.specs.Global.{Vec}
use Rattle.std.specs.Io.KnownBytes.{Consumes, IsAtEnd}
use Rattle.std.proofs.KnownBytes.{Consumes-nil, Consumes-trans}
use Rattle.std.proofs.lemmas.Bool.{cases_lt}
use Rattle.std.proofs.lemmas.List.{append-nil, length-append, length-take-le, take-append-le}
use Rattle.rq_model.specs.Frames.{log_limit}
use Rattle.rq_front.specs.Chains.{IsHeaded, Refused}
use Rattle.rq_record.specs.declared.fault.Fault.{Fault}
use Rattle.rq_record.specs.declared.fault.Fault.TheVariants as faults
use Rattle.rq_tool.specs.Streams.{CountsTaken, IsGiven, IsOneOf, IsUnread, ReadsAll, ReadsFile, ReadsOn, TakesInput, TakesSome}

-- what a reader gave, and what it gives next
pub reads_on : (old mid new : Option (List ℕ)) (before bytes after more : List ℕ) → ReadsOn old before mid bytes
    → after ≡ bytes ++ more → Consumes mid new more → ReadsOn old before new after
reads_on old mid new before bytes after more h is more_taken =
    λ first taken. subst (Consumes first new) (sym is)
    (Consumes-trans first mid new bytes more (h first taken) more_taken)

pub takes_on : (old mid new : Option (List ℕ)) → TakesSome old mid → TakesSome mid new → TakesSome old new
takes_on old mid new h more = (h.0 ++ more.0, Consumes-trans old mid new h.0 more.0 h.1 more.1)

-- what was taken up to the end, or as far as a log may go and one byte more
pub all_taken : {A : Type 0} (old new : Option (List ℕ)) (bytes : List ℕ) (result : Result A Fault)
    → ReadsAll old new bytes → TakesInput old new result
all_taken old new bytes (Ok x) h = (bytes, h)
all_taken old new bytes (Err faults.ReadFailed) h = (bytes, h.0)
all_taken old new bytes (Err faults.Resources) h = (bytes, h.0)
all_taken old new bytes (Err _) h = (bytes, h)

-- some bytes were taken where a read or memory was refused
pub some_taken : (A : Type 0) (old new : Option (List ℕ)) (e : Fault) → IsOneOf faults.ReadFailed faults.Resources e
    → TakesSome old new → TakesInput {A = A} old new (Err e)
some_taken A old new e which h = elim which [
  | inl is ↦ subst (λ (f : Fault). TakesInput {A = A} old new (Err f)) (sym is) h
  | inr is ↦ subst (λ (f : Fault). TakesInput {A = A} old new (Err f)) (sym is) h
]

-- the bytes are those that the reader had, or both are too long
abbrev pub IsSame : List ℕ → List ℕ → Type 0
IsSame b bytes = (bytes ≡ b) ⊎ ((log_limit < length b) × (log_limit < length bytes))

same_bytes : (b bytes : List ℕ) (new : Option (List ℕ)) → ReadsAll (Some b) new bytes → IsSame b bytes
same_bytes b bytes None h = absurd h.0
same_bytes b bytes (Some ys) h = elim (h.2) [
  | inl none ↦ inl (sym (append-nil bytes) ∙ ap (λ (z : List ℕ). bytes ++ z) (sym none) ∙ sym h.0)
  | inr long ↦ inr (omega (arith, long, ap length h.0, length-append bytes ys), omega (arith, long))
]

pub counts_on : (old mid new : Option (List ℕ)) (before total n : ℕ) (piece : List ℕ) → CountsTaken old mid before total
    → Consumes mid new (take n piece) → n ≤ length piece → CountsTaken old new before (total + n)
counts_on old mid new before total n piece h taken fits = (
  h.0 ++ take n piece,
  Consumes-trans old mid new h.0 (take n piece) h.1 taken,
  omega (arith, length-append h.0 (take n piece), length-take-le n piece fits, h.2),
)

-- the first bytes, which are all, are no header
pub short_unread : (origin now : Option (List ℕ)) (first : List ℕ) → (IsHeaded first → ⊥) → length first < 40
    → IsAtEnd now → Consumes origin now first → IsUnread origin now faults.NotALog
short_unread origin now first none short ended taken =
    let few : length first ≤ log_limit = omega arith in
    (first, (taken, omega arith, inl ended), few, none)

-- the first 40 bytes are no header, and what is behind them is counted
module _ (origin now new : Option (List ℕ)) (first : List ℕ) (total : ℕ) (whole : length first ≡ 40)
    (counts : CountsTaken now new (length first) total) (limit : total ≤ 4294967296)
    (ended : total < 4294967296 → IsAtEnd new) (taken : Consumes origin now first) where
  all_consumed : Consumes origin new (first ++ counts.0)
  all_consumed = Consumes-trans origin now new first counts.0 taken counts.1

  all_counted : length (first ++ counts.0) ≡ total
  all_counted = length-append first counts.0 ∙ counts.2

  pub long_unread : log_limit < total → IsUnread origin new faults.TooLong
  long_unread long = (
    first ++ counts.0,
    (all_consumed, omega (arith, all_counted, limit), inr (omega (arith, all_counted, limit, long))),
    omega (arith, all_counted, long),
  )

  pub none_unread : total ≤ log_limit → (IsHeaded first → ⊥) → IsUnread origin new faults.NotALog
  none_unread short none =
      let front : take 40 (first ++ counts.0) ≡ take 40 first =
      take-append-le 40 first counts.0 (omega (arith, whole)) in (
        first ++ counts.0,
        (all_consumed, omega (arith, all_counted, limit), inl (ended (omega (arith, short)))),
        omega (arith, all_counted, short),
        λ is. none (is.0, sym front ∙ is.1),
      )

pub failed_unread : (origin now new : Option (List ℕ)) (first : List ℕ) → Consumes origin now first → TakesSome now new
    → IsUnread origin new faults.ReadFailed
failed_unread origin now new first taken more =
    (first ++ more.0, Consumes-trans origin now new first more.0 taken more.1)

-- The bytes b that the reader had, if it tells them.

-- a reader gives some bytes
pub given : (old : Option (List ℕ)) → (b : List ℕ) × IsGiven old b
given None = ([], tt)
given (Some told) = (told, refl)

-- all that was read is all that it gave, or both are too long
read_given : (old new : Option (List ℕ)) (bytes : List ℕ) → ReadsAll old new bytes
    → (b : List ℕ) × IsGiven old b × IsSame b bytes
read_given None new bytes h = (bytes, tt, inl refl)
read_given (Some told) new bytes h = (told, refl, same_bytes told bytes new h)

-- what is said of the bytes that it gave is said of those that it tells
pub told_of : (P : List ℕ → Type 0) (old : Option (List ℕ)) → ((b : List ℕ) × IsGiven old b × P b)
    → (b : List ℕ) → old ≡ Some b → P b
told_of P old h b is = let same : h.0 ≡ b = subst (λ (o : Option (List ℕ)). IsGiven o h.0) is h.1 in subst P same h.2

-- What was read first, and on.

-- what was read from nothing on is what a reader gave
pub first_taken : (old mid : Option (List ℕ)) (none bytes : List ℕ) → none ≡ [] → ReadsOn old none mid bytes
    → Consumes old mid bytes
first_taken old mid none bytes is reads = reads old (subst (Consumes old old) (sym is) (Consumes-nil old))

-- what is said of whatever gave the first bytes is said of the reader
pub why_unread : (old mid new : Option (List ℕ)) (none bytes first : List ℕ) (e : Fault) → none ≡ []
    → ReadsOn old none mid bytes → first ≡ bytes
    → ((origin : Option (List ℕ)) → Consumes origin mid first → IsUnread origin new e) → IsUnread old new e
why_unread old mid new none bytes first e is reads same told =
    told old (subst (Consumes old mid) (sym same) (first_taken old mid none bytes is reads))

-- all that a reader had, or one byte more than a log has
pub reads_all : (old new : Option (List ℕ)) (bytes : List ℕ) → Consumes old new bytes → length bytes ≤ log_limit + 1
    → (length bytes < log_limit + 1 → IsAtEnd new) → ReadsAll old new bytes
reads_all old new bytes taken most ends = (
  taken,
  most,
  elim (cases_lt (length bytes) (log_limit + 1)) [
    | inl fewer ↦ inl (ends fewer)
    | inr no_fewer ↦ inr (omega (arith, most, no_fewer))
  ],
)

-- What is read of a file.

abbrev pub Reads : (List ℕ → Fault → Type 0) → Option (List ℕ) → Result (Vec ℕ) Fault → Type 0
Reads IsWhy old result = (b : List ℕ) × IsGiven old b × ReadsFile IsWhy b result

-- nothing, since a read or memory was refused
pub not_read : (IsWhy : List ℕ → Fault → Type 0) (old : Option (List ℕ)) (e : Fault)
    → ((b : List ℕ) → IsWhy b faults.Resources) → IsOneOf faults.ReadFailed faults.Resources e
    → Reads IsWhy old (Err e)
not_read IsWhy old e none which =
    let some = given old in (
      some.0,
      some.1,
      elim which [
        | inl is ↦ subst (λ (f : Fault). ReadsFile IsWhy some.0 (Err f)) (sym is) tt
        | inr is ↦ subst (λ (f : Fault). ReadsFile IsWhy some.0 (Err f)) (sym is) (none some.0)
      ],
    )

-- all of it, unless that is too long
pub all_read : (IsWhy : List ℕ → Fault → Type 0) (old new : Option (List ℕ)) (bytes : List ℕ)
    (result : Result (Vec ℕ) Fault) → ((b : List ℕ) → log_limit < length b → IsWhy b faults.TooLong)
    → ReadsAll old new bytes
    → IfOk result (λ same. (same.items ≡ bytes) × (length bytes ≤ 4294967295))
    → IfErr result (λ e. (e ≡ faults.TooLong) × (4294967295 < length bytes))
    → Reads IsWhy old result
all_read IsWhy old new bytes (Ok v) too_long all fits long =
    let some = read_given old new bytes all in (
      some.0,
      some.1,
      elim some.2 [
        | inl is ↦ (fits.0 ∙ is, subst (λ (z : List ℕ). length z ≤ log_limit) is fits.1)
        | inr both ↦ absurd (omega (arith, both.1, fits.1))
      ],
    )
all_read IsWhy old new bytes (Err e) too_long all fits long =
    let some = read_given old new bytes all in (
      some.0,
      some.1,
      subst (λ (f : Fault). ReadsFile IsWhy some.0 (Err f)) (sym long.0)
          (too_long some.0 (elim some.2 [
            | inl is ↦ subst (λ (z : List ℕ). log_limit < length z) is long.1
            | inr both ↦ both.0
          ])),
    )

-- what is refused unkept is refused
pub unread : (old new : Option (List ℕ)) (e : Fault) → IsUnread old new e → Reads Refused old (Err e)
unread old new faults.TooLong h =
    let some = read_given old new h.0 h.1 in (
      some.0,
      some.1,
      elim some.2 [
        | inl same ↦ subst (λ (z : List ℕ). log_limit < length z) same h.2
        | inr long ↦ long.0
      ],
    )
unread old new faults.NotALog h =
    let some = read_given old new h.0 h.1 in (
      some.0,
      some.1,
      elim some.2 [
        | inl same ↦ subst (λ (z : List ℕ). (length z ≤ log_limit) × (IsHeaded z → ⊥)) same (h.2, h.3)
        | inr long ↦ absurd (omega (arith, long.1, h.2))
      ],
    )
unread old new faults.Resources h = let some = given old in (some.0, some.1, tt)
unread old new faults.ReadFailed h = let some = given old in (some.0, some.1, tt)
unread old new _ h = absurd h

pub unread_taken : (A : Type 0) (old new : Option (List ℕ)) (e : Fault) → IsUnread old new e
    → TakesInput {A = A} old new (Err e)
unread_taken A old new faults.TooLong h = (h.0, h.1)
unread_taken A old new faults.NotALog h = (h.0, h.1)
unread_taken A old new faults.Resources h = h
unread_taken A old new faults.ReadFailed h = h
unread_taken A old new _ h = absurd h
