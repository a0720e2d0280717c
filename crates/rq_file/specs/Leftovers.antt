-- What a crash can leave of the file of a new log, in which another one goes on.
use Rattle.std.specs.Prelude.{ℕ, Bool, true, ◌&&◌, ◌||◌, if◌then◌else◌, List, length, take, drop, ◌+◌, nat_le, nat_eq}
use Rattle.std.specs.List.{starts_with, list_all}
use Rattle.std.specs.Int.{w32, from_be_bytes}

-- the length of the first frame's body, behind the header and the link
abbrev pub body_length : List ℕ → ℕ
body_length begins = from_be_bytes w32 (take 4 (drop 72 begins))

-- a file of so many bytes that begins so has at most one frame; none yet, if that has no length
abbrev pub has_one_frame : List ℕ → ℕ → Bool
has_one_frame begins len = if nat_le 76 (length begins)
    then (nat_eq (body_length begins) 0 || nat_le len (108 + body_length begins)) else true

abbrev pub is_blank : List ℕ → Bool
is_blank begins = list_all (λ b. nat_eq b 0) begins

-- a file of so many bytes, which begins so, can be what a crash left of one that begins with the first bytes:
-- nothing but zeros before the frame has a length; or its header, or a part of that, and at most one frame
abbrev pub is_left : List ℕ → ℕ → List ℕ → Bool
is_left begins len first = (nat_le len 76 && is_blank begins)
    || (has_one_frame begins len && starts_with nat_eq first (take 40 begins))
