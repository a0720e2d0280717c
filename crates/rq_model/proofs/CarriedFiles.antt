-- A carried file begins as no log does, and is read as one.
use Rattle.std.proofs.Common.{◌≡◌, ◌≤◌, ℕ, ◌+◌, ◌-◌, List, ◌++◌, length, take, drop, sym, ap, ◌∙◌, refl, arith}
use Rattle.std.proofs.Common.{append_assoc}
use Rattle.std.proofs.lemmas.List.{length-append, length-take, length-drop, take_at, drop_at, take-append-drop, drop-drop}
use Rattle.std.proofs.lemmas.List.{drop-append-le}
use Rattle.rq_model.specs.Records.{Version, One, Two}
use Rattle.rq_model.specs.Frames.{header, HasHeader}
use Rattle.rq_model.specs.Carrying.{carried_magic, carried_header, HasCarriedHeader, carried_file, as_log, IsNoLog, ReadsAsLog}
use Rattle.rq_model.proofs.Runs.{length-sha256}
use Rattle.rq_model.proofs.Restarts.{header_long}

pub carried_long : (version : Version) → length (carried_header version) ≡ 40
carried_long version = omega (arith, length-sha256 (carried_magic version))

-- a file with such a header has its 40 bytes
file_long : (version : Version) (b : List ℕ) → HasCarriedHeader version b → 40 ≤ length b
file_long version b h = omega (arith, ap length h, carried_long version, length-take 40 b)

-- The sixth byte tells a carried file from a log, and the eighth its version.

apart_from : (version other : Version) → carried_header version ≡ header other → ⊥
apart_from One One e = absurd cc
apart_from One Two e = absurd cc
apart_from Two One e = absurd cc
apart_from Two Two e = absurd cc

one_version : (version other : Version) → carried_header version ≡ carried_header other → version ≡ other
one_version One One e = refl
one_version One Two e = absurd cc
one_version Two One e = absurd cc
one_version Two Two e = refl

not_headed : (version other : Version) (b : List ℕ) → HasCarriedHeader version b → HasHeader other b → ⊥
not_headed version other b carried headed = apart_from version other (sym carried ∙ headed)

pub is_no_log : IsNoLog
is_no_log = record {
  headed = not_headed;
  restart = λ version b r carried k. not_headed version k.version b carried
      (ap (take 40) k.front.whole ∙ take_at (header k.version) k.front.bytes 40 (header_long k.version));
  at = λ most version b offset r carried k. not_headed version k.version b carried k.header;
}

pub read_header : (version : Version) (link bytes : List ℕ) → HasCarriedHeader version (carried_file version link bytes)
read_header version link bytes = take_at (carried_header version) (link ++ bytes) 40 (carried_long version)

pub read_whole : (version : Version) (link bytes : List ℕ)
    → as_log version (carried_file version link bytes) ≡ header version ++ (link ++ bytes)
read_whole version link bytes =
    ap (λ (z : List ℕ). header version ++ z) (drop_at (carried_header version) (link ++ bytes) 40 (carried_long version))

pub read_size : (version : Version) (b : List ℕ) → HasCarriedHeader version b → length (as_log version b) ≡ length b
read_size version b h = omega (
  arith,
  length-append (header version) (drop 40 b),
  header_long version,
  length-drop 40 b,
  file_long version b h,
)

-- what stands behind the header is read as it is
read_behind : (version : Version) (b : List ℕ) (offset : ℕ) → HasCarriedHeader version b → 40 ≤ offset
    → drop offset (as_log version b) ≡ drop offset b
read_behind version b offset h far =
    let log = as_log version b in
    let ahead : 40 + (offset - 40) ≡ offset = omega (arith, far) in
    let split : (z : List ℕ) → drop offset z ≡ drop (offset - 40) (drop 40 z) =
    λ z. ap (λ (n : ℕ). drop n z) (sym ahead) ∙ sym (drop-drop (offset - 40) 40 z) in
    split log ∙ ap (drop (offset - 40)) (drop_at (header version) (drop 40 b) 40 (header_long version)) ∙ sym (split b)

pub reads_as_log : ReadsAsLog
reads_as_log = record {
  headed = read_header;
  whole = read_whole;
  version = λ version other b h k. one_version version other (sym h ∙ k);
  size = read_size;
  behind = read_behind;
  more = λ version b bytes h.
      ap (λ (z : List ℕ). header version ++ z) (drop-append-le 40 b bytes (file_long version b h))
      ∙ sym (append_assoc (header version) (drop 40 b) bytes);
  back = λ version b h.
      sym (take-append-drop 40 b) ∙ (λ i. h i ++ drop 40 b)
      ∙ ap (λ (z : List ℕ). carried_header version ++ z)
      (sym (drop_at (header version) (drop 40 b) 40 (header_long version)));
}
