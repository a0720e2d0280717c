-- Bytes that are compared with a spelling, from the front on.
use Rattle.std.specs.Prelude.{ℕ, Bool, false, nat_eq, ◌==◌, if◌then◌else◌, List, length, drop, Option, Some, None}
use Rattle.std.specs.List.{starts_with}

-- what is left of the bytes behind the text, if they begin with it; none, once they differ
unfoldable pub left_after : List ℕ → Option (List ℕ) → Option (List ℕ)
left_after text None = None
left_after text (Some bytes) =
    if starts_with nat_eq bytes text then Some (drop (length text) bytes) else None

-- none differs, and none is left
abbrev pub is_matched : Option (List ℕ) → Bool
is_matched None = false
is_matched (Some bytes) = length bytes == 0
