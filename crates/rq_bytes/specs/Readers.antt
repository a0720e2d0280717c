-- Readers: a value read from the front of the bytes, with the bytes after it; or none. And the law
-- of a reader: what it reads was spelled that way, and what is spelled is read again.
use Rattle.std.specs.Prelude.{ℕ, zero, suc, List, [], ◌∷◌, length, take, drop, Option, Some, None}
use Rattle.std.specs.Prelude.{Bool, nat_lt, ◌==◌, if◌then◌else◌, ⊤, ◌≡◌, ◌<◌, ◌++◌}
use Rattle.std.proofs.Common.{get_or}
use Rattle.byteorder.specs.Endian.{big_number}

abbrev pub Reader : Type 0 → Type 0
Reader X = List ℕ → Option (X × List ℕ)

infixl 10 ◌>>=◌
abbrev pub ◌>>=◌ : {A B : Type 0} → Option A → (A → Option B) → Option B
(Some x) >>= f = f x
None >>= f = None

-- Single readers.

abbrev pub byte : Reader ℕ
byte [] = None
byte (b ∷ bytes) = Some (b, bytes)

-- a number in this many bytes
abbrev pub number : ℕ → Reader ℕ
number n bytes = if nat_lt (length bytes) n then None else Some (big_number n bytes, drop n bytes)

abbrev pub piece : ℕ → Reader (List ℕ)
piece n bytes = if nat_lt (length bytes) n then None else Some (take n bytes, drop n bytes)

-- all that is left
abbrev pub all : Reader (List ℕ)
all bytes = Some (bytes, [])

-- nothing, which can always be read
abbrev pub nothing : Reader (⊤)
nothing bytes = Some (tt, bytes)

-- the end of the bytes
abbrev pub ending : Reader (⊤)
ending bytes = if length bytes == 0 then Some (tt, []) else None

-- Readers put together.

-- one after the other
infixr 20 ◌then◌
abbrev pub ◌then◌ : {X Y : Type 0} → Reader X → Reader Y → Reader (X × Y)
(r then s) bytes = do
  x ← r bytes
  y ← s x.1
  Some ((x.0, y.0), y.1)

-- a number, then that many bytes
abbrev pub sized : Reader ℕ → Reader (List ℕ)
sized r bytes = r bytes >>= λ n. piece n.0 n.1

-- what f makes of the value
abbrev pub made : {X Y : Type 0} → (X → Y) → Reader X → Reader Y
made f r bytes = do
  x ← r bytes
  Some (f x.0, x.1)

-- the value, if it passes the test
abbrev pub tested : {X : Type 0} → (X → Bool) → Reader X → Reader X
tested test r bytes = do
  x ← r bytes
  if test x.0 then Some x else None

-- the value, if nothing follows it
abbrev pub alone : {X : Type 0} → Reader X → Reader X
alone r bytes = do
  x ← r bytes
  last ← ending x.1
  Some (x.0, last.1)

-- a byte, then what that byte calls for
abbrev pub tagged : {X : Type 0} → (ℕ → Reader X) → Reader X
tagged behind bytes = byte bytes >>= λ n. behind n.0 n.1

-- after the byte k this reader, after any other byte the others
abbrev pub case : {X : Type 0} → ℕ → Reader X → (ℕ → Reader X) → ℕ → Reader X
case k r others n bytes = if n == k then r bytes else others n bytes

-- no reader after any byte
abbrev pub no_case : {X : Type 0} → ℕ → Reader X
no_case n bytes = None

-- this many members
unfoldable pub members : {X : Type 0} → Reader X → ℕ → Reader (List X)
members r zero bytes = Some ([], bytes)
members r (suc n) bytes = do
  first ← r bytes
  others ← members r n first.1
  Some (first.0 ∷ others.0, others.1)

-- their number in four bytes, then the members
unfoldable pub counted_members : {X : Type 0} → Reader X → Reader (List X)
counted_members r bytes = number 4 bytes >>= λ count. members r count.0 count.1

-- the bytes after what is read
abbrev pub after_of : {X : Type 0} → Option (X × List ℕ) → Option (List ℕ)
after_of (Some x) = Some x.1
after_of None = None

abbrev pub IsBytes : List ℕ → Type 0
IsBytes bytes = (i : ℕ) → get_or bytes i 0 < 256

-- x was taken from the front of the bytes
pub record Takes
    {X : Type 0}
    (P : X → Type 0)
    (spelling : X → List ℕ)
    (Ends : List ℕ → Type 0)
    (bytes : List ℕ)
    (x : X × List ℕ)
    : Type 0 where
  pub parts : bytes ≡ spelling x.0 ++ x.1
  pub fits : P x.0
  pub rest_fits : IsBytes x.1
  pub ends : Ends x.1

-- If the bytes after a value are as Ends says: a value with P is read from its spelling, and a
-- value that is read has P and was spelled that way
pub record Reads
    {X : Type 0}
    (P : X → Type 0)
    (spelling : X → List ℕ)
    (Ends : List ℕ → Type 0)
    (reader : Reader X)
    : Type 0 where
  pub takes : (bytes : List ℕ) (x : X × List ℕ) →
      IsBytes bytes → reader bytes ≡ Some x → Takes P spelling Ends bytes x
  pub again : (x : X) (rest : List ℕ) →
      P x → Ends rest → reader (spelling x ++ rest) ≡ Some (x, rest)

-- anything may follow
abbrev pub Any : List ℕ → Type 0
Any rest = ⊤

-- nothing follows
abbrev pub End : List ℕ → Type 0
End rest = rest ≡ []

-- two values, one after the other: their properties and their spellings
abbrev pub Both : {X Y : Type 0} → (X → Type 0) → (Y → Type 0) → X × Y → Type 0
Both P Q x = P x.0 × Q x.1

abbrev pub joined : {X Y : Type 0} → (X → List ℕ) → (Y → List ℕ) → X × Y → List ℕ
joined first second x = first x.0 ++ second x.1
